-- What comes next is made: units of the kernel, an arrival, or nothing.
use Rattle.std.proofs.Common.{rules, FitsSigned, w64, refl, sym, ◌∙◌}
use Rattle.std.proofs.lemmas.Int.{to_z-of_z}
use Rattle.sim_kernel.proofs.NextUnits.{arrival_is_next, end_is_next, rest_is, step_is_next}
use Rattle.sim_kernel.proofs.WalkedCourses.{arrival_leads, steps_lead}
use Rattle.sim_kernel.proofs.walk.Walk.units.Goals as goal

pub returns-in-End-clause-none : goal.returns-in-End-clause-none
returns-in-End-clause-none g c =
    end_is_next g.B.LawfulBody.body c.args.self.now (rw (← c.self.view_is) c.self.invariant.within) (sym c.next.ensures ∙ c.in-End.is)

pub returns-in_ok-units-in-Step-clause-walks : goal.returns-in_ok-units-in-Step-clause-walks
returns-in_ok-units-in-Step-clause-walks g c =
    let comes = sym c.next.ensures ∙ c.in-Step.is in
    rw (← c.self.view_is)
    (record {
      each = λ m stands.
          steps_lead g.B.LawfulBody.body _ m stands (step_is_next g.B.LawfulBody.body _ m stands (rw (← c.self.view_is) at comes))
          c.in_ok-units-in-Step.units _ refl c.in_ok-units-in-Step.ensures.steps;
    })

pub returns-in_ok-line-in-Arrival-clause-walks : goal.returns-in_ok-line-in-Arrival-clause-walks
returns-in_ok-line-in-Arrival-clause-walks g c =
    let comes = sym c.next.ensures ∙ c.in-Arrival.is in
    let fits : FitsSigned w64 c.in-Arrival.arrival.value = search rules in
    let makes = rw (to_z-of_z w64 c.in-Arrival.arrival.value fits) at c.in_ok-line-in-Arrival.ensures.arrives in
    rw (← c.self.view_is)
    (record {
      each = λ m stands.
          arrival_leads g.B.LawfulBody.body _ m stands c.in-Arrival.arrival (arrival_is_next g.B.LawfulBody.body _ m stands c.in-Arrival.arrival (rw (← c.self.view_is) at comes))
          c.in_ok-line-in-Arrival.line _ (rest_is c.self.inside.left.now) makes;
    })

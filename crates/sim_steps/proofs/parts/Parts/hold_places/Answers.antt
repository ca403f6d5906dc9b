use Rattle.std.proofs.Common.{◌≡◌, ◌+◌, ◌^◌, subst, ◌∙◌, refl, ap, arith}
use Rattle.sim_steps_model.specs.PartsOf.{with_happen}
use Rattle.sim_steps_law.proofs.Kernels.Becoming.{becomes_none}
use Rattle.sim_steps_law.proofs.Holders.HeldPlaces.{HoldsBefore, held_all, held_next}
use Rattle.sim_steps_law.proofs.Kernels.Keeping.{held_by_few}
use Rattle.sim_steps.proofs.parts.Parts.hold_places.Goals as goal

pub loop-at-init : goal.loop-at-init
loop-at-init g c = record { holds = becomes_none c.args.self.now; kept = c.requires.kept; rest = refl }

pub loop-at-preserved : goal.loop-at-preserved
loop-at-preserved g c =
    let es = g.B.Body.events_held c.args.body.now in
    let before = c.loop-at.invariant in
    record {
      holds = held_next g.B.LawfulBody.body es c.loop-at.at c.args.self.now c.loop-at.self c.hold.new.self before.holds (rw c.place.ensures at c.hold.ensures.owes);
      kept = λ i. c.hold.ensures.takes.kept _ (before.kept i);
      rest = c.hold.ensures.rest ∙ ap (with_happen c.hold.new.self.shared.happen) before.rest;
    }

pub hold-requires-clause-kept : goal.hold-requires-clause-kept
hold-requires-clause-kept g c = rw c.place.ensures (c.loop-at.invariant.kept c.loop-at.at)

pub hold-requires-clause-few : goal.hold-requires-clause-few
hold-requires-clause-few g c =
    held_by_few (2 ^ 42 + c.loop-at.at) c.loop-at.self.shared.happen (omega (arith, c.loop-at-test.true)) (c.loop-at.invariant.holds.few.few (2 ^ 42) c.requires.few)

pub returns : goal.returns
returns g c =
    let body = g.B.LawfulBody.body in
    let es = g.B.Body.events_held c.args.body.now in
    let n = c.places_in_use-at-end.result in
    let all : c.loop-at.at ≡ n = omega (arith, c.loop-at-test.false, c.loop-at.auto.at-end) in
    record {
      owes = held_all body es n c.args.self.now c.loop-at.self c.places_in_use-at-end.ensures.few c.places_in_use-at-end.ensures.rest
          (subst (λ n. HoldsBefore body es n c.args.self.now c.loop-at.self) all c.loop-at.invariant.holds);
      rest = c.loop-at.invariant.rest;
    }

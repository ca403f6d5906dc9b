use Rattle.std.proofs.Common.{◌≡◌, ◌∙◌, refl, ap, subst, arith}
use Rattle.sim_steps_model.specs.PartsOf.{with_happen}
use Rattle.sim_steps_law.proofs.Holders.HeldPlaces.{OwesBehind, given_all, given_next, given_none, owed_next}
use Rattle.sim_steps.proofs.parts.Parts.unhold_places.Goals as goal

pub loop-at-init : goal.loop-at-init
loop-at-init g c = record { owes = given_none g.B.LawfulBody.body (g.B.Body.events_held c.args.body.now) c.args.self.now; rest = refl }

pub loop-at-preserved : goal.loop-at-preserved
loop-at-preserved g c =
    let es = g.B.Body.events_held c.args.body.now in
    let before = c.loop-at.invariant in
    record {
      owes = given_next g.B.LawfulBody.body es c.loop-at.at c.args.self.now c.loop-at.self c.unhold.new.self before.owes (rw c.place.ensures at c.unhold.ensures.owes);
      rest = c.unhold.ensures.rest ∙ ap (with_happen c.unhold.new.self.shared.happen) before.rest;
    }

pub unhold-requires : goal.unhold-requires
unhold-requires g c =
    record {
      owed = rw c.place.ensures (owed_next g.B.LawfulBody.body (g.B.Body.events_held c.args.body.now) c.loop-at.at c.args.self.now c.loop-at.self c.loop-at.invariant.owes c.requires.owed);
    }

pub returns : goal.returns
returns g c =
    let body = g.B.LawfulBody.body in
    let es = g.B.Body.events_held c.args.body.now in
    let n = c.places_in_use-at-end.result in
    let all : c.loop-at.at ≡ n = omega (arith, c.loop-at-test.false, c.loop-at.auto.at-end) in
    record {
      owes = given_all body es n c.args.self.now c.loop-at.self c.places_in_use-at-end.ensures.rest
          (subst (λ n. OwesBehind body es n c.args.self.now c.loop-at.self) all c.loop-at.invariant.owes);
      rest = c.loop-at.invariant.rest;
    }

use Rattle.std.proofs.Common.{◌∷◌, [], ap, length, length-append, IsTrue, arith}
use Rattle.std.proofs.lemmas.List.Elements.{All-append, All-cons, All-nil}
use Rattle.sim_types.specs.declared.setup.Start.{Start}
use Rattle.sim_machine.specs.Setups.{start_fits}
use Rattle.sim_bodies.specs.Travellers.{traveller_facts}
use Rattle.sim_bodies.proofs.tests.land_starts.Goals as goal

pub loop-kind-preserved : goal.loop-kind-preserved
loop-kind-preserved g c =
    let P : Start → Type 0 = λ x. IsTrue (start_fits traveller_facts x) in
    let start : Start = c.in_ok-traveller_start.field-0 in
    let more = c.in_ok-push.ensures.ok in
    record {
      pass = rw more (All-append P c.loop-kind.starts (start ∷ []) c.loop-kind.invariant.pass (All-cons P start [] c.in_ok-traveller_start.ensures (All-nil P)));
      few = omega (arith, ap length more, length-append c.loop-kind.starts (start ∷ []), c.loop-kind.invariant.few);
    }

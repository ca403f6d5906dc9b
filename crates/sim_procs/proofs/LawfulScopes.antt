-- How many scopes a body opens that keeps the law of bodies.
use Rattle.std.specs.Prelude.{length, nat_lt}
use Rattle.std.proofs.lemmas.Bool.{and_parts, ltb-true}
use Rattle.sim_types.specs.declared.op.Op.TheVariants as op
use Rattle.sim_machine.specs.Bodies.{BodyOf, start_of}
use Rattle.sim_machine.specs.BodyLaw.{IsLawfulBody, scopes_told}
use Rattle.sim_machine.specs.MayAsk.{has_resource, most_scopes, takes_requests}
use Rattle.sim_procs.specs.Premises.{EntersWithin}

-- the law lets none enter that holds as many as any body may
pub lawful_enters_within : {B Code : Type 0} (body : BodyOf B Code) (code : Code)
    → IsLawfulBody (body.facts code) (body.tell code) (body.sound code) (start_of body code) (body.turn code)
    → EntersWithin body code most_scopes
lawful_enters_within body code lawful = record {
  fewer = λ b time x res priority preempts d can turned.
      let scopes = scopes_told ((body.tell code).scopes b) ((body.tell code).last b) x in
      let asks = (lawful.polls b time x (op.Enter res priority preempts) d can.sound can.told turned).asks in
      ltb-true (length scopes) most_scopes
      (and_parts (nat_lt (length scopes) most_scopes) (has_resource (body.facts code).resources takes_requests res) asks).0;
}

use Rattle.std.proofs.Common.{subst}
use Rattle.std.specs.Prelude.{All}
use Rattle.sim_happen_model.specs.TableOf.{IsKept}
use Rattle.sim_procs.specs.RecordOf.{record_of}
use Rattle.sim_steps_model.specs.Calling.{events_left}
use Rattle.sim_steps_law.proofs.Polls.Naming.{left_kept}
use Rattle.sim_steps.proofs.parts.Parts.answer.Goals as goal

pub strike-requires-clause-target : goal.strike-requires-clause-target
strike-requires-clause-target g c =
    let now = c.args.self.now in
    left_kept (IsKept now.shared.happen.events) (record_of c.in-Strike.process now.live) (subst (λ x. All (IsKept now.shared.happen.events) (events_left x now)) c.in-Strike.is c.requires.names.left)

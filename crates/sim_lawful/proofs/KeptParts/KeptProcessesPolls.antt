-- The polls keep the law of processes: of a process that does nothing, logs, draws, pauses or ends.
use Rattle.std.proofs.Common.{◌≡◌, List, length, refl}
use Rattle.std.specs.Prelude.{Some, ◌==◌, IsTrue}
use Rattle.sim_types.specs.declared.event.EventId.{EventId}
use Rattle.sim_types.specs.declared.event.ProcId.{ProcId}
use Rattle.sim_types.specs.declared.event.Outcome.{Outcome}
use Rattle.sim_types.specs.declared.event.Callback.{Callback}
use Rattle.sim_types.specs.declared.event.Signal.{Signal}
use Rattle.sim_machine.specs.State.{ProcessOf, Active, State, Plan}
use Rattle.sim_machine.specs.Processes.{process_at, with_body, rest, end_process}
use Rattle.sim_machine.specs.Tellings.{Telling, CodeFacts}
use Rattle.sim_machine.specs.BodyLaw.{scopes_told}
use Rattle.sim_machine.specs.LawfulProcesses.{LawfulProcesses}
use Rattle.sim_machine_law.proofs.KeptParts.KeptProcessesChanges.{processes-bodies, processes-ended}
use Rattle.sim_machine_law.proofs.KeptParts.LawfulBasis.{LawfulBasis}

pub processes-polled_end : {B : Type 0} (g : Plan B) (tell : Telling B) (sound : B → Type 0) (s : State B) (f : CodeFacts)
    (e : EventId) (left : List Callback) (p : ProcId) (x : Signal) (y : ProcessOf B) (b : B) (o : Outcome)
    → s.control ≡ Active e left p x → process_at p s ≡ Some y → sound b → LawfulBasis g tell sound s
    → IsTrue (length (scopes_told (tell.scopes y.body) (tell.last y.body) x) == 0)
    → LawfulProcesses g.setup.events (rest (end_process p o (with_body p b s)))
processes-polled_end g t sound s f e left p x y b o running found fine h closed =
    processes-ended g.setup.events (with_body p b s) p o (λ q. rw running refl) (processes-bodies g.setup.events s p b h.processes)

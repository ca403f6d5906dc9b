-- The polls keep the law of interruptions: of a process that does nothing, logs, draws, pauses or ends.
use Rattle.std.proofs.Common.{◌≡◌, true, false, List, length, refl, sym, subst}
use Rattle.std.specs.Prelude.{Some, ◌==◌, IsTrue}
use Rattle.std.proofs.lemmas.Bool.{true≢false}
use Rattle.sim_types.specs.declared.event.EventId.{EventId}
use Rattle.sim_types.specs.declared.event.ProcId.{ProcId}
use Rattle.sim_types.specs.declared.event.EventKind.{EventKind}
use Rattle.sim_types.specs.declared.event.Outcome.{Outcome}
use Rattle.sim_types.specs.declared.event.Callback.{Callback}
use Rattle.sim_types.specs.declared.event.Signal.{Signal}
use Rattle.sim_types.specs.declared.event.EventKind.TheVariants as kind
use Rattle.sim_machine.specs.State.{ProcessOf, Active, State, Plan}
use Rattle.sim_machine.specs.Processes.{event_of, process_at, with_body, rest, end_process}
use Rattle.sim_machine.specs.Effect.{calendar}
use Rattle.sim_machine.specs.Tellings.{Telling, CodeFacts}
use Rattle.sim_machine.specs.BodyLaw.{scopes_told}
use Rattle.sim_machine.specs.Standing.{kind_at}
use Rattle.sim_machine.specs.LawfulProcesses.{is_process_kind, is_living_well}
use Rattle.sim_machine.specs.LawfulInterruptions.{is_interrupt_kind, LawfulInterruptions}
use Rattle.sim_machine_law.proofs.KeptParts.KeptProcessesParts.{is_process-self, lives_well}
use Rattle.sim_machine_law.proofs.KeptParts.KeptProcesses.{alive_has}
use Rattle.sim_machine_law.proofs.KeptParts.KeptInterruptionsParts.{all_made}
use Rattle.sim_machine_law.proofs.KeptParts.KeptInterruptionsChanges.{interruptions-bodies, all_made-bodies, interruptions-ended}
use Rattle.sim_machine_law.proofs.KeptParts.LawfulBasis.{LawfulBasis}

pub process_no_interrupt : (k : EventKind) → is_process_kind k ≡ true → is_interrupt_kind k ≡ false
process_no_interrupt kind.Interrupt h = absurd (true≢false (sym h))
process_no_interrupt _ h = refl

pub interruptions-polled_end : {B : Type 0} (g : Plan B) (tell : Telling B) (sound : B → Type 0) (s : State B)
    (f : CodeFacts) (e : EventId) (left : List Callback) (p : ProcId) (x : Signal) (y : ProcessOf B) (b : B) (o : Outcome)
    → s.control ≡ Active e left p x → process_at p s ≡ Some y → sound b → LawfulBasis g tell sound s
    → IsTrue (length (scopes_told (tell.scopes y.body) (tell.last y.body) x) == 0)
    → LawfulInterruptions (rest (end_process p o (with_body p b s)))
interruptions-polled_end g t sound s f e left p x y b o running found fine h closed =
    let alive = h.processes.active p (rw running (is_process-self p)) in
    let lives = alive_has s p (λ z. is_living_well s z ≡ true) h.processes.living alive in
    let own : is_process_kind (kind_at (calendar s) (event_of p)) ≡ true = subst (λ i. is_process_kind (kind_at (calendar s) (event_of i)) ≡ true) lives.1 (lives_well s lives.0 lives.2).kind in
    interruptions-ended (with_body p b s) p o (process_no_interrupt (kind_at (calendar s) (event_of p)) own) (all_made-bodies s p b (all_made g t sound s h)) (interruptions-bodies s p b h.interruptions)

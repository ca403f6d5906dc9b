-- A process that goes to wait for an event that was made keeps the state lawful, whatever it asked for that lets it wait.
use Rattle.std.proofs.Common.{◌≡◌, ◌<◌, true, false, List, length, refl}
use Rattle.sim_types.specs.declared.event.EventId.{EventId}
use Rattle.sim_types.specs.declared.event.ProcId.{ProcId}
use Rattle.sim_types.specs.declared.event.Callback.{Callback}
use Rattle.sim_types.specs.declared.event.Signal.{Signal}
use Rattle.sim_types.specs.declared.op.Op.{Op}
use Rattle.sim_machine.specs.State.{Calendar, ProcessOf, State, Plan}
use Rattle.sim_machine.specs.Processes.{with_body, wait}
use Rattle.sim_machine.specs.Effect.{calendar}
use Rattle.sim_machine.specs.Tellings.{Telling, CodeFacts}
use Rattle.sim_machine.specs.MayFollow.{may_wait}
use Rattle.sim_machine.specs.Standing.{kind_at}
use Rattle.sim_machine.specs.LawfulInterruptions.{is_unheard_kind}
use Rattle.sim_machine_law.proofs.KeptParts.KeptTimes.{times_wait}
use Rattle.sim_machine_law.proofs.KeptParts.KeptRegistrations.{registrations_wait}
use Rattle.sim_machine_law.proofs.KeptParts.KeptProcessesChanges.{processes-bodies, processes-wait}
use Rattle.sim_machine_law.proofs.KeptParts.KeptInterruptionsParts.{all_made}
use Rattle.sim_machine_law.proofs.KeptParts.KeptInterruptionsChanges.{interruptions-bodies, all_made-bodies, interruptions-wait}
use Rattle.sim_machine_law.proofs.KeptParts.KeptWaiting.{waits_pending}
use Rattle.sim_machine_law.proofs.KeptParts.KeptWaitingPolls.{waiting_wait}
use Rattle.sim_machine_law.proofs.KeptParts.KeptCapacities.{capacities_wait}
use Rattle.sim_machine_law.proofs.KeptParts.KeptConditionsEvents.{conditions_wait}
use Rattle.sim_machine_law.proofs.KeptParts.KeptBodiesEvents.{grown_itself}
use Rattle.sim_machine_law.proofs.KeptParts.KeptBodiesPolls.{bodies_wait}
use Rattle.sim_machine_law.proofs.KeptParts.KeptBodiesUnits.{waits_asked}
use Rattle.sim_machine_law.proofs.KeptParts.KeptChains.{chains_wait}
use Rattle.sim_machine_law.proofs.Events.ChangedCalendars.{HasAsked, body_asked, scopes_asked_for}
use Rattle.sim_machine_law.proofs.KeptParts.LawfulBasis.{LawfulBasis}

-- it is no interruption and no stop
pub lawful_waits : {B : Type 0} (g : Plan B) (tell : Telling B) (sound : B → Type 0) (s : State B) (f : CodeFacts)
    (e : EventId) (left : List Callback) (p : ProcId) (x : Signal) (y : ProcessOf B) (b : B) (o : Op) (n : EventId)
    → HasAsked g tell sound s f e left p x y b o → may_wait o ≡ true → n.0 < length (calendar s).events
    → is_unheard_kind (kind_at (calendar s) n) ≡ false → LawfulBasis g tell sound (wait n p (with_body p b s))
lawful_waits {B} g tell sound s f e left p x y b o n asked waits made heard =
    let c : Calendar = calendar s in
    let h : LawfulBasis g tell sound s = asked.lawful in
    let r : State B = with_body p b s in
    record {
      times = times_wait n p r h.times;
      registrations = registrations_wait n p r made h.registrations;
      processes = processes-wait g.setup.events r n p (λ q. rw asked.active refl) made (processes-bodies g.setup.events s p b h.processes);
      interruptions = interruptions-wait r n p heard (all_made-bodies s p b (all_made g tell sound s h)) (interruptions-bodies s p b h.interruptions);
      waiting = waiting_wait g tell s e left p x y b c s.processed s.drawn s.lines n (scopes_asked_for g tell sound s f e left p x y b o asked) (grown_itself c) (waits_pending c);
      capacities = capacities_wait g.setup.resources n p r h.capacities;
      conditions = conditions_wait n p r h.conditions;
      bodies = bodies_wait tell sound s r e left p x y b n (body_asked g tell sound s f e left p x y b o asked) refl (grown_itself c) refl (waits_asked tell b o asked.poll.last waits);
      chains = chains_wait n p r h.registrations h.chains;
    }

-- A process that lets an event pass its outcome on keeps the state lawful, whether that is to happen later, happens at
-- once, or is refused.
use Rattle.std.proofs.Common.{◌≡◌, Bool, true, false, ◌&&◌, ◌||◌, not, List, refl}
use Rattle.std.specs.Prelude.{◌==◌, if◌then◌else◌}
use Rattle.std.proofs.lemmas.Bool.{false≢true, and_parts, and_from, not-true}
use Rattle.sim_types.specs.declared.event.EventId.{EventId}
use Rattle.sim_types.specs.declared.event.ProcId.{ProcId}
use Rattle.sim_types.specs.declared.event.EventKind.{EventKind}
use Rattle.sim_types.specs.declared.event.Callback.{Callback}
use Rattle.sim_types.specs.declared.event.Signal.{Signal}
use Rattle.sim_types.specs.declared.event.EventKind.TheVariants as kind
use Rattle.sim_types.specs.declared.event.Callback.TheVariants as callback
use Rattle.sim_types.specs.declared.event.Signal.TheVariants as signal
use Rattle.sim_types.specs.declared.op.Op.{Op}
use Rattle.sim_types.specs.declared.op.Op.TheVariants as op
use Rattle.sim_types.specs.declared.setup.Class.TheVariants as class
use Rattle.sim_machine.specs.State.{Calendar, ProcessOf, State, Plan}
use Rattle.sim_machine.specs.Events.{event_at, is_pending, is_processed, register}
use Rattle.sim_machine.specs.Scopes.{on_events}
use Rattle.sim_machine.specs.Processes.{with_body, tell as told}
use Rattle.sim_machine.specs.Effect.{calendar, raise, pass_on}
use Rattle.sim_machine.specs.Steps.{polled}
use Rattle.sim_machine.specs.Tellings.{Telling, CodeFacts}
use Rattle.sim_machine.specs.MayAsk.{is_in_place, is_known_event}
use Rattle.sim_machine.specs.Setups.{FitsCode}
use Rattle.sim_machine.specs.Standing.{was_made, kind_at}
use Rattle.sim_machine.specs.LawfulInterruptions.{is_interrupt_kind}
use Rattle.sim_machine.specs.LawfulChains.{is_trigger_kind, is_triggered_kind, chains_well}
use Rattle.sim_machine_law.proofs.KeptParts.KeptTimesCases.{if_cases}
use Rattle.sim_machine_law.proofs.KeptParts.KeptRegistrationsCalendar.{below_made}
use Rattle.sim_machine_law.proofs.Events.ChangedCalendars.{AsksFor, HasAsked}
use Rattle.sim_lawful.proofs.Calendars.ReplacedCalendars.{replace_registered, replace_passed_on}
use Rattle.sim_lawful.proofs.Polls.KnownEvents.{IsMadeOf, known_event_made, known_source_made}
use Rattle.sim_lawful.proofs.Polls.ToldAnswers.{lawful_done, lawful_raised}
use Rattle.sim_lawful.proofs.Calls.CalledTrigger.{trigger_is_no_conditions}
use Rattle.sim_machine_law.proofs.KeptParts.LawfulBasis.{LawfulBasis}

source_no_interrupt : (k : EventKind) → is_trigger_kind k ≡ true → is_interrupt_kind k ≡ false
source_no_interrupt kind.Interrupt h = absurd (false≢true h)
source_no_interrupt _ h = refl

module _ {B : Type 0} (g : Plan B) (tell : Telling B) (sound : B → Type 0) (s : State B) (f : CodeFacts) (e : EventId) (left : List Callback) (p : ProcId) (x : Signal) (y : ProcessOf B) (b : B) where
  pub lawful-polled_chain : (n m : EventId) → FitsCode f g.setup → AsksFor g tell sound s f e left p x y b (op.Chain n m)
      → LawfulBasis g tell sound (polled g p (op.Chain n m) b s)
  lawful-polled_chain n m fits asks =
      let c : Calendar = calendar s in
      let o : Op = op.Chain n m in
      let r : State B = with_body p b s in
      let asked : HasAsked g tell sound s f e left p x y b o = record { active = asks.active; found = asks.found; is_sound = asks.is_sound; lawful = asks.lawful; poll = asks.poll; scopes = asks.poll.scopes } in
      let from_known : Bool = is_known_event f (tell.places b) n || (n.0 == (tell.own b).0) || is_in_place (tell.places b) class.Cond n || is_in_place (tell.places b) class.Proc n in
      let known = and_parts from_known (is_known_event f (tell.places b) m) asks.poll.asks in
      let source : IsMadeOf is_trigger_kind c n = known_source_made g tell sound s f e left p x y b o n fits asked known.0 in
      let aim : IsMadeOf is_triggered_kind c m = known_event_made g tell sound s f e left p x y b o m fits asked known.1 in
      let later : State B = told signal.Done (on_events (register n (callback.Trigger m)) r) in
      let now : State B = told signal.Done (on_events (pass_on (event_at c n).outcome m) r) in
      let well : chains_well c n (callback.Trigger m) ≡ true = and_from (is_trigger_kind (kind_at c n) && was_made c m) (is_triggered_kind (kind_at c m)) (and_from (is_trigger_kind (kind_at c n)) (was_made c m) source.kind (below_made c m aim.made)) aim.kind in
      if_cases (LawfulBasis g tell sound) (not (is_processed c n)) later (if is_pending c m then now else raise 3 r)
      (λ waits. lawful_done g tell sound s f e left p x y b o (register n (callback.Trigger m)) asked
      (replace_registered g tell sound s n (callback.Trigger m) source.made (not-true (is_processed c n) waits) (source_no_interrupt (kind_at c n) source.kind) (λ q. refl) refl (trigger_is_no_conditions m) well asks.lawful) refl refl)
      (λ processed. if_cases (LawfulBasis g tell sound) (is_pending c m) now (raise 3 r)
      (λ pending. lawful_done g tell sound s f e left p x y b o (pass_on (event_at c n).outcome m) asked (replace_passed_on g tell sound s (event_at c n).outcome m aim.made aim.kind asks.lawful) refl refl)
      (λ turned. lawful_raised g tell sound s f e left p x y b o 3 asked refl refl))

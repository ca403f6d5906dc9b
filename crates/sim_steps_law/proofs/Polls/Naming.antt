-- What operations and callbacks name is kept, what they give an outcome was not cancelled, and what they cancel is no condition.
use Rattle.std.proofs.Common.{◌≡◌, ◌<◌, ◌^◌, true, false, List, [], ◌∷◌, length, refl, sym, ap, subst, ◌∙◌, Option, Some, None, arith}
use Rattle.std.specs.Prelude.{All, IfSome, ◌&&◌, ◌||◌}
use Rattle.std.specs.Option.{option_map}
use Rattle.std.specs.List.{AllPass}
use Rattle.std.proofs.lemmas.Bool.{and_parts, false≢true}
use Rattle.std.proofs.lemmas.List.Elements.{All-cons, All-head, All-tail, All-nil, All-weaker}
use Rattle.sim_types.specs.declared.event.EventId.{EventId}
use Rattle.sim_types.specs.declared.event.EventKind.{EventKind}
use Rattle.sim_types.specs.declared.event.EventKind.TheVariants as kind
use Rattle.sim_types.specs.declared.event.ProcId.{ProcId}
use Rattle.sim_types.specs.declared.event.Callback.{Callback}
use Rattle.sim_types.specs.declared.event.Callback.TheVariants as callback
use Rattle.sim_types.specs.declared.event.Signal.{Signal}
use Rattle.sim_types.specs.declared.setup.Class.TheVariants as class
use Rattle.sim_types.specs.declared.op.Op.{Op}
use Rattle.sim_types.specs.declared.op.Op.TheVariants as op
use Rattle.sim_machine.specs.State.{EventOf, Calendar, ProcessOf, Control, Calling, Active, Plan}
use Rattle.sim_machine.specs.Events.{event_at}
use Rattle.sim_machine.specs.Processes.{process_at}
use Rattle.sim_machine.specs.Standing.{kind_at, was_made, left_of}
use Rattle.sim_machine.specs.Tellings.{CodeFacts}
use Rattle.sim_machine.specs.MayAsk.{is_in_place, is_known_event, is_zero}
use Rattle.sim_machine.specs.KeptEvents.{is_kept}
use Rattle.sim_machine.specs.Bodies.{BodyOf}
use Rattle.sim_machine.specs.BodyLaw.{IsLawfulPoll, scopes_told, scopes_asked}
use Rattle.sim_machine.specs.Setups.{FitsCode}
use Rattle.sim_machine.specs.LawfulWaiting.{is_cancelled_well, may_wait_kind}
use Rattle.sim_machine.specs.LawfulChains.{is_trigger_kind, is_triggered_kind, chains_well}
use Rattle.sim_machine_law.specs.NamedEvents.{events_named}
use Rattle.sim_machine_law.proofs.Events.ChangedCalendars.{HasAsked}
use Rattle.sim_lawful.proofs.Following.FollowingCalendars.{uncancelled_kind}
use Rattle.sim_lawful.proofs.Reached.KeptAsked.{asked_kept}
use Rattle.sim_machine_law.proofs.KeptParts.KeptInterruptionsParts.{passes_at}
use Rattle.sim_lawful.proofs.Polls.KnownEvents.{known_event_made, places_fit}
use Rattle.sim_machine_law.proofs.KeptParts.LawfulBasis.{basis_of}
use Rattle.sim_machine_law.proofs.Events.EventLaws.{is_same-self}
use Rattle.sim_procs.specs.RecordOf.{RecordOf, record_of}
use Rattle.sim_happen_model.specs.TableOf.{AreNeeded, IsKept, kept_at}
use Rattle.sim_happen_law.proofs.Changes.Following.{read_is}
use Rattle.sim_steps_model.specs.PartsOf.{PartsOf, IsRunning, plan_of}
use Rattle.sim_steps_model.specs.StandsFor.{StandsForSome, process_of}
use Rattle.sim_steps_model.specs.Polling.{Asks, NamesKept, events_cancelled, events_triggered}
use Rattle.sim_steps_model.specs.Calling.{CallsKept, target_in}
use Rattle.sim_steps_law.proofs.Resources.CancelledEvents.{cancelled_plain}
use Rattle.sim_steps_law.proofs.Kernels.Running.{KeepsLaw, process_found, running_can_be_told, running_is}
use Rattle.sim_steps_law.proofs.Kernels.KeptNames.{called_kept, kept_here, target_kept as waited_kept}
use Rattle.sim_steps_law.proofs.Ends.Ending.{record_polled}

-- ---- what gets an outcome was not cancelled

waits_not : (k : EventKind) → is_triggered_kind k ≡ true → may_wait_kind k ≡ false
waits_not kind.Plain h = refl
waits_not kind.Timeout h = refl
waits_not _ h = absurd (false≢true h)

-- from a lawful state of a kernel whose accounts are right
module _ {B Code : Type 0} (body : BodyOf B Code) (parts : PartsOf B Code)
    (h : StandsForSome body parts) (needed : AreNeeded parts.shared.happen.events) where
  abbrev c : Calendar
  c = h.state.facilities.calendar

  abbrev Uncancelled : EventId → Type 0
  Uncancelled e = (kept_at parts.shared.happen.events e).event.cancelled ≡ false

  abbrev IsPlain : EventId → Type 0
  IsPlain e = (kept_at parts.shared.happen.events e).event.condition ≡ None

  -- what is kept was not cancelled where it is plain or a timeout
  pub not_cancelled : (e : EventId) → IsKept parts.shared.happen.events e → is_triggered_kind (kind_at c e) ≡ true → Uncancelled e
  not_cancelled e kept triggered =
      ap (λ (x : EventOf). x.cancelled) (read_is parts.shared.happen c e kept h.stands.facilities.calendar)
      ∙ uncancelled_kind (event_at c e) (passes_at is_cancelled_well c e refl h.lawful.waiting.cancelled) (waits_not (kind_at c e) triggered)

  -- ---- operations

  module _ (event : EventId) (p : ProcId) (told : Signal) (fits : FitsCode (body.facts parts.code) parts.setup) (law : KeepsLaw body parts.code)
      (few : length parts.shared.happen.events < 2 ^ 62) (running : IsRunning event p told parts.control) where
    abbrev g : Plan B
    g = plan_of body parts

    pub asked_by : (mid : PartsOf B Code) (asked : Op) → Asks body p told parts asked mid →
        (y : ProcessOf B) × (process_at p h.state ≡ Some y) × (b : B)
        × IsLawfulPoll (body.facts parts.code) (body.tell parts.code) y.body told asked b
        × body.sound parts.code b
    asked_by mid asked a =
        let r = record_polled body parts mid p told asked a in
        let y : ProcessOf B = process_of r.0 in
        let found : process_at p h.state ≡ Some y =
        process_found parts h.state p h.lawful.processes.distinct h.stands ∙ ap (λ o. option_map process_of o) r.1 in
        let can = running_can_be_told body parts event p told a.before h running a.found few in
        let poll : IsLawfulPoll (body.facts parts.code) (body.tell parts.code) a.before told asked a.later =
        law.polls a.before parts.shared.happen.time told asked a.later can.sound can.told a.turned in (
          y,
          found,
          a.later,
          subst (λ b. IsLawfulPoll (body.facts parts.code) (body.tell parts.code) b told asked a.later) (sym r.2) poll,
          law.keeps a.before parts.shared.happen.time told asked a.later can.sound can.told a.turned,
        )

    active : (left : List Callback) × (h.state.control ≡ Active event left p told)
    active = let is = running_is parts.control event p told running in (is.0, sym h.stands.control ∙ is.1)

    named_kept : (mid : PartsOf B Code) (asked : Op) → Asks body p told parts asked mid →
        All (IsKept parts.shared.happen.events) (events_named (body.facts parts.code) asked)
    named_kept mid asked a =
        let y = asked_by mid asked a in
        let tell = body.tell parts.code in
        All-weaker (λ e. is_kept parts.setup.events tell h.state e ≡ true) (IsKept parts.shared.happen.events)
        (kept_here body parts h needed) (events_named (body.facts parts.code) asked)
        (asked_kept g tell (body.sound parts.code) (body.facts parts.code) h.state h.lawful event active.0 p told y.0 active.1 y.1 asked y.2 fits y.3)

    module _ (asked : Op) (y : ProcessOf B) (b : B) (found : process_at p h.state ≡ Some y)
        (poll : IsLawfulPoll (body.facts parts.code) (body.tell parts.code) y.body told asked b) (well : body.sound parts.code b) where
      abbrev entered : List EventId
      entered = scopes_told ((body.tell parts.code).scopes y.body) ((body.tell parts.code).last y.body) told

      -- by an operation that leaves no scope
      has_asked : scopes_asked entered asked ≡ entered →
          HasAsked g (body.tell parts.code) (body.sound parts.code) h.state (body.facts parts.code) event active.0 p told y b asked
      has_asked stays =
          record {
            active = active.1;
            found = found;
            is_sound = well;
            lawful = basis_of g (body.tell parts.code) (body.sound parts.code) h.state h.lawful;
            poll = poll;
            scopes = poll.scopes ∙ stays;
          }

      -- what may be triggered
      known_well : scopes_asked entered asked ≡ entered → (n : EventId) → IsKept parts.shared.happen.events n →
          is_known_event (body.facts parts.code) ((body.tell parts.code).places b) n ≡ true → Uncancelled n
      known_well stays n kept known =
          let tell = body.tell parts.code in
          let made = known_event_made g tell (body.sound parts.code) h.state
          (body.facts parts.code) event active.0 p told y b asked n fits (has_asked stays) known in
          not_cancelled n kept made.kind

      -- what may be cancelled
      cancelled_well : scopes_asked entered asked ≡ entered → (n : EventId) → IsKept parts.shared.happen.events n →
          (is_zero n || is_in_place ((body.tell parts.code).places b) class.Move n) ≡ true → IsPlain n
      cancelled_well stays n kept may =
          let tell = body.tell parts.code in
          let fit = places_fit g tell (body.sound parts.code) h.state (body.facts parts.code) event active.0 p told y b asked (has_asked stays) in
          ap (λ (x : EventOf). x.condition) (read_is parts.shared.happen c n kept h.stands.facilities.calendar)
          ∙ cancelled_plain c (λ m below. h.lawful.conditions.kinds m _ below) (omega (arith, h.lawful.processes.named_made))
          (h.lawful.processes.named_plain 0 (omega arith)) n (tell.places b) fit may

    -- what is kept and was not cancelled
    abbrev KeptUncancelled : EventId → Type 0
    KeptUncancelled e = IsKept parts.shared.happen.events e × Uncancelled e

    one_well : (e : EventId) → IsKept parts.shared.happen.events e → Uncancelled e → All KeptUncancelled (e ∷ [])
    one_well e kept is = All-cons KeptUncancelled e [] (kept, is) (All-nil KeptUncancelled)

    triggered_well : (asked : Op) (y : ProcessOf B) (b : B) → process_at p h.state ≡ Some y →
        IsLawfulPoll (body.facts parts.code) (body.tell parts.code) y.body told asked b → body.sound parts.code b →
        All (IsKept parts.shared.happen.events) (events_named (body.facts parts.code) asked) → All KeptUncancelled (events_triggered asked)
    triggered_well (op.Succeed e value) y b found poll well kept =
        let here = All-head (IsKept parts.shared.happen.events) e [] kept in
        one_well e here (known_well (op.Succeed e value) y b found poll well refl e here poll.asks)
    triggered_well (op.Fail e code) y b found poll well kept =
        let here = All-head (IsKept parts.shared.happen.events) e [] kept in
        one_well e here (known_well (op.Fail e code) y b found poll well refl e here poll.asks)
    triggered_well (op.Chain e n) y b found poll well kept =
        let P : EventId → Type 0 = IsKept parts.shared.happen.events in
        let here = All-head P n [] (All-tail P e (n ∷ []) kept) in
        one_well n here
        (known_well (op.Chain e n) y b found poll well refl n here
        (and_parts _ (is_known_event (body.facts parts.code) ((body.tell parts.code).places b) n) poll.asks).1)
    triggered_well _ y b found poll well kept = All-nil KeptUncancelled

    -- what is kept and no condition
    abbrev KeptPlain : EventId → Type 0
    KeptPlain e = IsKept parts.shared.happen.events e × IsPlain e

    plain_well : (asked : Op) (y : ProcessOf B) (b : B) → process_at p h.state ≡ Some y →
        IsLawfulPoll (body.facts parts.code) (body.tell parts.code) y.body told asked b → body.sound parts.code b →
        All (IsKept parts.shared.happen.events) (events_named (body.facts parts.code) asked) → All KeptPlain (events_cancelled asked)
    plain_well (op.Cancel e) y b found poll well kept =
        let here = All-head (IsKept parts.shared.happen.events) e [] kept in
        All-cons KeptPlain e [] (here, cancelled_well (op.Cancel e) y b found poll well refl e here poll.asks) (All-nil KeptPlain)
    plain_well _ y b found poll well kept = All-nil KeptPlain

    pub asked_names : (mid : PartsOf B Code) (asked : Op) → Asks body p told parts asked mid → NamesKept (body.facts parts.code) asked mid
    asked_names mid asked a =
        let y = asked_by mid asked a in
        let kept = named_kept mid asked a in
        record {
          kept = All-weaker (IsKept parts.shared.happen.events) (IsKept mid.shared.happen.events) a.takes.kept
              (events_named (body.facts parts.code) asked) kept;
          not_cancelled = All-weaker KeptUncancelled (λ e. (kept_at mid.shared.happen.events e).event.cancelled ≡ false)
              (λ e was. ap (λ (x : EventOf). x.cancelled) (a.takes.event e was.0) ∙ was.1)
              (events_triggered asked) (triggered_well asked y.0 y.2 y.1 y.3 y.4 kept);
          plain = All-weaker KeptPlain (λ e. (kept_at mid.shared.happen.events e).event.condition ≡ None)
              (λ e was. ap (λ (x : EventOf). x.condition) (a.takes.event e was.0) ∙ was.1)
              (events_cancelled asked) (plain_well asked y.0 y.2 y.1 y.3 y.4 kept);
        }

  -- ---- callbacks

  -- what a live process waits for
  target_kept : (p : ProcId) (o : Option (RecordOf B)) → record_of p parts.live ≡ o → All (IsKept parts.shared.happen.events) (target_in o)
  target_kept p None is = All-nil (IsKept parts.shared.happen.events)
  target_kept p (Some r) is =
      All-cons (IsKept parts.shared.happen.events) r.target [] (waited_kept body parts h needed p r is) (All-nil (IsKept parts.shared.happen.events))

  pub called_names : (event : EventId) (x : Callback) (left : List Callback) → parts.control ≡ Calling event (x ∷ left) → CallsKept x parts
  called_names event (callback.Trigger y) left is =
      let control : h.state.control ≡ Calling event (callback.Trigger y ∷ left) = sym h.stands.control ∙ is in
      let chains = h.lawful.chains.calling event (rw control (is_same-self event)) in
      let first : chains_well c event (callback.Trigger y) ≡ true =
      All-head (λ z. chains_well c event z ≡ true) (callback.Trigger y) left
      (subst (λ (k : Control). AllPass (chains_well c event) (left_of k)) control chains) in
      let outer = and_parts (is_trigger_kind (kind_at c event) && was_made c y) (is_triggered_kind (kind_at c y)) first in
      let kept : IsKept parts.shared.happen.events y =
      kept_here body parts h needed y (called_kept body parts h needed event (callback.Trigger y) left is) in
      record {
        kept = All-cons (IsKept parts.shared.happen.events) y [] kept (All-nil (IsKept parts.shared.happen.events));
        left = All-nil (IsKept parts.shared.happen.events);
        not_cancelled = All-cons Uncancelled y [] (not_cancelled y kept outer.1) (All-nil Uncancelled);
      }
  called_names event (callback.Strike p) left is =
      record {
        kept = All-nil (IsKept parts.shared.happen.events);
        left = target_kept p (record_of p parts.live) refl;
        not_cancelled = All-nil Uncancelled;
      }
  called_names event _ left is =
      record {
        kept = All-nil (IsKept parts.shared.happen.events);
        left = All-nil (IsKept parts.shared.happen.events);
        not_cancelled = All-nil Uncancelled;
      }

-- ---- what is known of the events that are named

-- what a process waits for, if it is alive
pub left_kept : {B : Type 0} (P : EventId → Type 0) (o : Option (RecordOf B)) → All P (target_in o) → IfSome o (λ r. P r.target)
left_kept P None h = tt
left_kept P (Some r) h = All-head P r.target [] h

module _ {B Code : Type 0} (f : CodeFacts) (parts : PartsOf B Code) (asked : Op) (e : EventId) where
  pub first_named : (es : List EventId) → events_named f asked ≡ e ∷ es → NamesKept f asked parts → IsKept parts.shared.happen.events e
  first_named es is h =
      let P : EventId → Type 0 = IsKept parts.shared.happen.events in
      All-head P e es (subst (λ xs. All P xs) is h.kept)

  pub second_named : (n : EventId) (es : List EventId) → events_named f asked ≡ e ∷ n ∷ es → NamesKept f asked parts →
      IsKept parts.shared.happen.events n
  second_named n es is h =
      let P : EventId → Type 0 = IsKept parts.shared.happen.events in
      All-head P n es (All-tail P e (n ∷ es) (subst (λ xs. All P xs) is h.kept))

  pub first_triggered : (es : List EventId) → events_triggered asked ≡ e ∷ es → NamesKept f asked parts →
      (kept_at parts.shared.happen.events e).event.cancelled ≡ false
  first_triggered es is h =
      let P : EventId → Type 0 = λ x. (kept_at parts.shared.happen.events x).event.cancelled ≡ false in
      All-head P e es (subst (λ xs. All P xs) is h.not_cancelled)

  pub first_cancelled : (es : List EventId) → events_cancelled asked ≡ e ∷ es → NamesKept f asked parts →
      (kept_at parts.shared.happen.events e).event.condition ≡ None
  first_cancelled es is h =
      let P : EventId → Type 0 = λ x. (kept_at parts.shared.happen.events x).event.condition ≡ None in
      All-head P e es (subst (λ xs. All P xs) is h.plain)

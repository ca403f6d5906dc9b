-- A process that asks for a condition of all events or of one of them keeps the state lawful, whether the condition is
-- made or weighs too much.
use Rattle.std.proofs.Common.{◌≡◌, Bool, true, false, not, List, Option, Some, refl}
use Rattle.std.specs.Prelude.{length, nat_le}
use Rattle.std.specs.List.{list_all}
use Rattle.std.proofs.lemmas.Bool.{false≢true, and_parts, and_from}
use Rattle.sim_types.specs.declared.event.EventId.{EventId}
use Rattle.sim_types.specs.declared.event.ProcId.{ProcId}
use Rattle.sim_types.specs.declared.event.EventKind.{EventKind}
use Rattle.sim_types.specs.declared.event.Callback.{Callback}
use Rattle.sim_types.specs.declared.event.Signal.{Signal}
use Rattle.sim_types.specs.declared.event.EventKind.TheVariants as kind
use Rattle.sim_types.specs.declared.event.Signal.TheVariants as signal
use Rattle.sim_types.specs.declared.op.Op.{Op}
use Rattle.sim_types.specs.declared.op.Op.TheVariants as op
use Rattle.sim_machine.specs.State.{AllOrAny, Every, Either, Calendar, ProcessOf, State, Plan}
use Rattle.sim_machine.specs.Events.{next_event}
use Rattle.sim_machine.specs.Conditions.{is_too_wide, make_condition}
use Rattle.sim_machine.specs.Scopes.{on_events}
use Rattle.sim_machine.specs.Processes.{with_body}
use Rattle.sim_machine.specs.Effect.{calendar, raise, tell_made, with_condition}
use Rattle.sim_machine.specs.Steps.{polled}
use Rattle.sim_machine.specs.Tellings.{Telling, CodeFacts}
use Rattle.sim_machine.specs.MayAsk.{is_known}
use Rattle.sim_machine.specs.MayFollow.{may_follow, makes_kind, is_enter}
use Rattle.sim_machine.specs.Setups.{FitsCode}
use Rattle.sim_machine.specs.Standing.{was_made, kind_at}
use Rattle.sim_machine.specs.LawfulInterruptions.{is_unheard_kind}
use Rattle.sim_machine_law.proofs.KeptParts.KeptTimesCases.{if_cases}
use Rattle.sim_machine_law.proofs.KeptParts.KeptRegistrationsCalendar.{below_made}
use Rattle.sim_machine_law.proofs.KeptParts.KeptInterruptionsParts.{list_all-weaker}
use Rattle.sim_machine_law.proofs.Events.ChangedCalendars.{AsksFor, HasAsked}
use Rattle.sim_lawful.proofs.Polls.KnownEvents.{IsMadeOf, known_made}
use Rattle.sim_lawful.proofs.Polls.ToldAnswers.{fits_made, lawful_raised}
use Rattle.sim_lawful.proofs.Calendars.TakenCalendars.{hears, lawful_taken_told}
use Rattle.sim_lawful.proofs.ConditionLaws.JoinedConditions.{may_join}
use Rattle.sim_lawful.proofs.ConditionLaws.MadeConditions.{IsMadeCondition, condition_made}
use Rattle.sim_machine_law.proofs.KeptParts.LawfulBasis.{LawfulBasis}
use Rattle.sim_machine.specs.LawfulConditions.{is_condition_kind}

-- what an operation that makes a condition may answer
record MakesConditions (o : Op) : Type 0 where
  not_enters : is_enter (Some o) ≡ false
  too_wide : may_follow o (signal.Raised 10) ≡ true
  made : (r : EventId) → may_follow o (signal.Made r) ≡ true
  kind : (k : EventKind) → is_condition_kind k ≡ true → makes_kind (Some o) k ≡ true

lawful_condition : {B : Type 0} (g : Plan B) (tell : Telling B) (sound : B → Type 0) (s : State B) (f : CodeFacts)
    (e : EventId) (left : List Callback) (p : ProcId) (x : Signal) (y : ProcessOf B) (b : B) (o : Op) (sort : AllOrAny)
    (members : List EventId) → FitsCode f g.setup → HasAsked g tell sound s f e left p x y b o → MakesConditions o
    → list_all (is_known f (tell.own b) (tell.places b)) members ≡ true
    → LawfulBasis g tell sound (with_condition sort members (with_body p b s))
lawful_condition {B} g tell sound s f e left p x y b o sort members fits h makes known =
    let c : Calendar = calendar s in
    let r : State B = with_body p b s in
    let n : EventId = next_event c in
    let may : list_all (may_join c) members ≡ true = list_all-weaker (is_known f (tell.own b) (tell.places b)) (may_join c) members (λ m w.
    let is : IsMadeOf (λ k. not (is_unheard_kind k)) c m = known_made g tell sound s f e left p x y b o m fits h w in
    and_from (was_made c m) (hears c m) (below_made c m is.made) is.kind) known in
    if_cases (LawfulBasis g tell sound) (is_too_wide members c) (raise 10 r) (tell_made n (on_events (make_condition sort members) r))
    (λ wide. lawful_raised g tell sound s f e left p x y b o 10 h makes.not_enters makes.too_wide)
    (λ narrow.
    let d : Calendar = make_condition sort members c in
    let is : IsMadeCondition s n d = condition_made g tell sound s sort members may narrow h.lawful in
    lawful_taken_told g tell sound s f e left p x y b o (signal.Made n) (make_condition sort members) h is.take is.conditions (last_not_enters is_enter makes.not_enters)
    (fits_made tell d b o n h.poll.last (makes.made n) (makes.kind (kind_at d n) is.kind) is.made is.unprocessed))
  where
    last_not_enters : (test : Option Op → Bool) → test (Some o) ≡ false → test (tell.last b) ≡ false
    last_not_enters test w = rw h.poll.last w

makes_all_of : (members : List EventId) → MakesConditions (op.AllOf members)
makes_all_of members = record { not_enters = refl; too_wide = refl; made = λ r. refl; kind = kinds }
  where
    kinds : (k : EventKind) → is_condition_kind k ≡ true → makes_kind (Some (op.AllOf members)) k ≡ true
    kinds kind.Cond h = refl
    kinds _ h = absurd (false≢true h)

makes_any_of : (members : List EventId) → MakesConditions (op.AnyOf members)
makes_any_of members = record { not_enters = refl; too_wide = refl; made = λ r. refl; kind = kinds }
  where
    kinds : (k : EventKind) → is_condition_kind k ≡ true → makes_kind (Some (op.AnyOf members)) k ≡ true
    kinds kind.Cond h = refl
    kinds _ h = absurd (false≢true h)

module _ {B : Type 0} (g : Plan B) (tell : Telling B) (sound : B → Type 0) (s : State B) (f : CodeFacts) (e : EventId) (left : List Callback) (p : ProcId) (x : Signal) (y : ProcessOf B) (b : B) where
  pub lawful-polled_all_of : (members : List EventId) → FitsCode f g.setup
      → AsksFor g tell sound s f e left p x y b (op.AllOf members)
      → LawfulBasis g tell sound (polled g p (op.AllOf members) b s)
  lawful-polled_all_of members fits asks =
      let o : Op = op.AllOf members in
      let asked : HasAsked g tell sound s f e left p x y b o = record { active = asks.active; found = asks.found; is_sound = asks.is_sound; lawful = asks.lawful; poll = asks.poll; scopes = asks.poll.scopes } in
      lawful_condition g tell sound s f e left p x y b o Every members fits asked (makes_all_of members) (and_parts (nat_le (length members) 16) (list_all (is_known f (tell.own b) (tell.places b)) members) asks.poll.asks).1

  pub lawful-polled_any_of : (members : List EventId) → FitsCode f g.setup
      → AsksFor g tell sound s f e left p x y b (op.AnyOf members)
      → LawfulBasis g tell sound (polled g p (op.AnyOf members) b s)
  lawful-polled_any_of members fits asks =
      let o : Op = op.AnyOf members in
      let asked : HasAsked g tell sound s f e left p x y b o = record { active = asks.active; found = asks.found; is_sound = asks.is_sound; lawful = asks.lawful; poll = asks.poll; scopes = asks.poll.scopes } in
      lawful_condition g tell sound s f e left p x y b o Either members fits asked (makes_any_of members) (and_parts (nat_le (length members) 16) (list_all (is_known f (tell.own b) (tell.places b)) members) asks.poll.asks).1

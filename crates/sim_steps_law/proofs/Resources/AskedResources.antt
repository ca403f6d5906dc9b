-- What an operation on a resource needs is known of the process that asked for it.
use Rattle.std.proofs.Common.{◌≡◌, ℕ, ◌+◌, ◌<◌, ◌≤◌, ◌^◌, Bool, true, not, List, ◌∷◌, Some, length, sym, ap, subst, ◌∙◌, arith}
use Rattle.std.proofs.lemmas.Bool.{not-true}
use Rattle.std.specs.List.{AllPass}
use Rattle.std.proofs.lemmas.List.Elements.{All-head, All-weaker}
use Rattle.sim_types.specs.declared.event.EventId.{EventId}
use Rattle.sim_types.specs.declared.event.ProcId.{ProcId}
use Rattle.sim_types.specs.declared.event.Callback.{Callback}
use Rattle.sim_types.specs.declared.event.Signal.{Signal}
use Rattle.sim_types.specs.declared.op.Op.{Op}
use Rattle.sim_types.specs.declared.setup.ResourceKind.{ResourceKind}
use Rattle.sim_machine.specs.State.{EventOf, Calendar, Control, Calling}
use Rattle.sim_machine.specs.Users.{resource_at}
use Rattle.sim_machine.specs.Bodies.{BodyOf}
use Rattle.sim_machine.specs.BodyLaw.{scopes_told}
use Rattle.sim_machine.specs.MayAsk.{takes_requests, has_resource, may_ask}
use Rattle.sim_machine.specs.Setups.{FitsCode}
use Rattle.sim_machine.specs.Standing.{left_of}
use Rattle.sim_machine.specs.Tellings.{Place, CodeFacts}
use Rattle.sim_machine.specs.LawfulTries.{tries_well}
use Rattle.sim_lawful.proofs.Waiting.PolledMove.{has_resource_below, has_resource_of}
use Rattle.sim_happen_model.specs.TableOf.{AreNeeded, Spare}
use Rattle.sim_happen_model.specs.Changes.{more_callbacks}
use Rattle.sim_happen_model.specs.HappenOf.{HappenOf, IsOpen}
use Rattle.sim_happen_model.specs.Shows.{Shows}
use Rattle.sim_shared_model.specs.Resources.{waiting_at}
use Rattle.sim_shared_model.specs.SharedOf.{SharedOf}
use Rattle.sim_shared_model.specs.ShowsAll.{ShowsAll}
use Rattle.sim_shared_model.specs.Making.{ShowsSome}
use Rattle.sim_shared_model.specs.Waiting.{AreAllOpen}
use Rattle.sim_steps_model.specs.PartsOf.{PartsOf, HasUnitRoom, HasRoomForNext, IsRunning, call_takes_room, next_takes_room}
use Rattle.sim_steps_model.specs.StandsFor.{StandsForSome}
use Rattle.sim_steps_model.specs.Calling.{TakesCallback}
use Rattle.sim_steps_model.specs.Holding.{TakesHolder}
use Rattle.sim_steps_model.specs.Polling.{Asks, AsksOwing}
use Rattle.sim_steps_model.specs.Resources.{AreResourcesReady, TakesMoves, TakesRequests}
use Rattle.sim_steps_law.proofs.Kernels.Becoming.{lawful_stands, shown_with}
use Rattle.sim_steps_law.proofs.Kernels.Running.{KeepsLaw, running_can_be_told}
use Rattle.sim_steps_law.proofs.Resources.WaitingRequests.{all_open, resources_ready}

-- ---- the process that was polled

-- an operation that comes only at a resource of a kind that passes
abbrev pub AsksAt : CodeFacts → (ResourceKind → Bool) → ℕ → Op → Type 0
AsksAt facts test res asked =
    (own : ProcId) (places : List Place) (scopes : List EventId) → may_ask facts own places scopes asked ≡ true →
    has_resource facts.resources test res ≡ true

-- what was open before a holder was taken is open then
pub open_still : (a b : HappenOf) (e : EventId) → TakesHolder a b → IsOpen a e → IsOpen b e
open_still a b e t k = record {
  kept = t.kept e k.kept;
  pending = ap (λ (x : EventOf). x.outcome) (t.event e k.kept) ∙ k.pending;
  not_cancelled = ap (λ (x : EventOf). x.cancelled) (t.event e k.kept) ∙ k.not_cancelled;
}

module _ {B Code : Type 0} (body : BodyOf B Code) (old mid : PartsOf B Code) (p : ProcId) (told : Signal) (left : EventId) (asked : Op)
    (a : AsksOwing body p told left old asked mid) where
  pub polled_ready : StandsForSome body old → AreNeeded old.shared.happen.events → HasUnitRoom old → length old.shared.happen.events + 1 < 2 ^ 62 →
      AreResourcesReady mid
  polled_ready h needed room number =
      let r : AreResourcesReady old = resources_ready body old h needed room number in
      let s : SharedOf = record old.shared { happen = mid.shared.happen } in
      let is : mid.shared ≡ s = ap (λ (k : PartsOf B Code). k.shared) a.asks.others in
      let waits : AreAllOpen s = record {
        each = λ res z there. All-weaker (IsOpen old.shared.happen) (IsOpen mid.shared.happen)
            (λ e. open_still old.shared.happen mid.shared.happen e a.asks.takes) (waiting_at z) (r.waiting.each res z there);
      } in
      let shown = (a.owes.each h.state (lawful_stands body old h.state h.lawful h.stands)).stands.facilities in
      record {
        waiting = subst AreAllOpen (sym is) waits;
        shown = record { facilities = h.state.facilities; shown = shown };
        room = record {
          events = subst (λ (z : Spare). 40 ≤ z.events) (sym a.asks.takes.spare) room.events;
          callbacks = subst (λ (z : Spare). 64 ≤ z.callbacks) (sym a.asks.takes.spare) room.callbacks;
          conditions = subst (λ (z : Spare). 40 ≤ z.conditions) (sym a.asks.takes.spare) room.conditions;
          places = ap (λ (z : SharedOf). z.used) is ∙ room.places;
          processes = subst (λ (k : PartsOf B Code). 1 ≤ k.spare) (sym a.asks.others) room.processes;
          ready = subst (λ (k : PartsOf B Code). k.ready ≡ true) (sym a.asks.others) room.ready;
        };
        number = omega (arith, number, a.asks.takes.made);
      }

module _ {B Code : Type 0} (body : BodyOf B Code) (old mid : PartsOf B Code)
    (p : ProcId) (told : Signal) (asked : Op) (a : Asks body p told old asked mid)
    (h : StandsForSome body old) where
  module _ (event : EventId) (law : KeepsLaw body old.code)
      (fits : FitsCode (body.facts old.code) old.setup) (few : length old.shared.happen.events < 2 ^ 62)
      (running : IsRunning event p told old.control) where
    -- what it asked for it may ask for
    pub polled_may : may_ask (body.facts old.code) ((body.tell old.code).own a.later) ((body.tell old.code).places a.later)
        (scopes_told ((body.tell old.code).scopes a.before) ((body.tell old.code).last a.before) told) asked ≡ true
    polled_may =
        let can = running_can_be_told body old event p told a.before h running a.found few in
        (law.polls a.before old.shared.happen.time told asked a.later can.sound can.told a.turned).asks

    module _ (test : ResourceKind → Bool) (res : ℕ) (at : AsksAt (body.facts old.code) test res asked) where
      has_it : has_resource old.setup.resources test res ≡ true
      has_it = subst (λ rs. has_resource rs test res ≡ true) (sym fits.resources)
          (at ((body.tell old.code).own a.later) ((body.tell old.code).places a.later)
          (scopes_told ((body.tell old.code).scopes a.before) ((body.tell old.code).last a.before) told) polled_may)

      pub polled_within : res < length mid.setup.resources
      polled_within = rw a.others (has_resource_below old.setup.resources test res has_it)

      pub polled_kind : test (resource_at mid.setup.resources res).kind ≡ true
      polled_kind = rw a.others (has_resource_of old.setup.resources test res has_it)

    pub polled_moves_at : (res : ℕ) → AsksAt (body.facts old.code) (λ k. not (takes_requests k)) res asked → TakesMoves res mid
    polled_moves_at res at =
        record {
          within = polled_within (λ k. not (takes_requests k)) res at;
          stock = not-true (takes_requests (resource_at mid.setup.resources res).kind) (polled_kind (λ k. not (takes_requests k)) res at);
        }

    pub polled_requests_at : (res : ℕ) → AsksAt (body.facts old.code) takes_requests res asked → TakesRequests res mid
    polled_requests_at res at = record { within = polled_within takes_requests res at; slots = polled_kind takes_requests res at }

-- ---- the callback that was taken out

open_taken : (h : HappenOf) (left : List Callback) (spare : Spare) (e : EventId) → IsOpen h e → IsOpen (record h { left = left; spare = spare }) e
open_taken h left spare e k = record { kept = k.kept; pending = k.pending; not_cancelled = k.not_cancelled }

shows_taken : (h : HappenOf) (left : List Callback) (spare : Spare) (c : Calendar) → Shows h c → Shows (record h { left = left; spare = spare }) c
shows_taken h left spare c s =
    record { time = s.time; scheduled = s.scheduled; agenda = s.agenda; made = s.made; kept = s.kept; unmade = s.unmade }

module _ {B Code : Type 0} (body : BodyOf B Code) (a m : PartsOf B Code) (event : EventId) (x : Callback) (t : TakesCallback event x a m)
    (h : StandsForSome body a) where
  -- what happens once it was taken out, and the resources around it
  abbrev happen_then : HappenOf
  happen_then = record a.shared.happen { left = m.shared.happen.left; spare = m.shared.happen.spare }

  abbrev shared_then : SharedOf
  shared_then = record a.shared { happen = happen_then }

  are_then : m.shared ≡ shared_then
  are_then =
      ap (λ (k : PartsOf B Code). k.shared) t.others ∙ ap (λ (z : HappenOf). let u : SharedOf = record a.shared { happen = z } in u) t.happen

  pub taken_waiting : AreNeeded a.shared.happen.events → AreAllOpen m.shared
  taken_waiting needed =
      let waiting = all_open body a h needed in
      let waits : AreAllOpen shared_then = record {
        each = λ res z there. All-weaker (IsOpen a.shared.happen) (IsOpen happen_then) (open_taken a.shared.happen m.shared.happen.left m.shared.happen.spare)
            (waiting_at z) (waiting.each res z there);
      } in
      subst AreAllOpen (sym are_then) waits

  -- there is room where this callback may take any
  pub taken_ready : AreNeeded a.shared.happen.events → HasRoomForNext a → m.shared.happen.spare ≡ more_callbacks 1 a.shared.happen.spare →
      length a.shared.happen.events + 1 < 2 ^ 62 → call_takes_room (Some x) ≡ true → AreResourcesReady m
  taken_ready needed roomy more number takes =
      let room : HasUnitRoom a = roomy (subst (λ (c : Control). next_takes_room c ≡ true) (sym t.before) takes) in
      let f = h.state.facilities in
      let shown = h.stands.facilities in
      let shows : ShowsAll shared_then f = shown_with a.shared happen_then f f.calendar (omega arith)
      (shows_taken a.shared.happen m.shared.happen.left m.shared.happen.spare f.calendar shown.calendar) shown in
      record {
        waiting = taken_waiting needed;
        shown = subst ShowsSome (sym are_then) (record { facilities = f; shown = shows });
        room = record {
          events = subst (λ (z : Spare). 40 ≤ z.events) (sym more) room.events;
          callbacks = subst (λ (z : Spare). 64 ≤ z.callbacks) (sym more) (omega (arith, room.callbacks));
          conditions = subst (λ (z : Spare). 40 ≤ z.conditions) (sym more) room.conditions;
          places = ap (λ (z : SharedOf). z.used) are_then ∙ room.places;
          processes = subst (λ (k : PartsOf B Code). 1 ≤ k.spare) (sym t.others) room.processes;
          ready = subst (λ (k : PartsOf B Code). k.ready ≡ true) (sym t.others) room.ready;
        };
        number = subst (λ (z : SharedOf). length z.happen.events + 1 < 2 ^ 62) (sym are_then) number;
      }

  -- it tries a queue of a resource that there is, if it tries one
  pub taken_tries : (left : List Callback) → a.control ≡ Calling event (x ∷ left) → tries_well (length m.setup.resources) x ≡ true
  taken_tries left is =
      let P : Callback → Type 0 = λ y. tries_well (length a.setup.resources) y ≡ true in
      let calling : AllPass (tries_well (length a.setup.resources)) (x ∷ left) =
      subst (λ (c : Control). AllPass (tries_well (length a.setup.resources)) (left_of c)) (sym h.stands.control ∙ is) h.lawful.tries.calling in
      rw t.others (All-head P x left calling)

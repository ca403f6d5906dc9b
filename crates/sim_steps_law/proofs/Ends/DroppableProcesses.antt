-- What the leaving of scopes and the drop of a process need is known of each lawful state, also in the midst of a poll, when the
-- body of the running process is in its new state.
use Rattle.std.proofs.Common.{◌≡◌, ◌≢◌, ℕ, ◌<◌, ◌≤◌, Bool, true, false, ◌&&◌, ◌||◌, not, List, [], ◌∷◌, ◌++◌, Option, Some, None, length, filter, map, refl, sym, ap, subst, ◌∙◌, arith, get_or, if◌then◌else◌, cond, All}
use Rattle.std.specs.Prelude.{◌==◌, find, is_none, is_some, IfSome}
use Rattle.std.specs.Option.{option_map}
use Rattle.std.specs.List.{list_any}
use Rattle.std.proofs.lemmas.Bool.{and_parts, eqb-true, false≢true, ltb-true, not-true}
use Rattle.std.proofs.lemmas.Option.{none-some, same_Some}
use Rattle.std.proofs.lemmas.List.{length-map}
use Rattle.std.proofs.lemmas.List.Elements.{All-cons, All-head, All-nil, All-tail}
use Rattle.std.proofs.lemmas.List.Folds.{Any-from_list_any}
use Rattle.sim_types.specs.declared.event.EventId.{EventId}
use Rattle.sim_types.specs.declared.event.EventKind.{EventKind}
use Rattle.sim_types.specs.declared.event.EventKind.TheVariants as kind
use Rattle.sim_types.specs.declared.event.Outcome.{Outcome}
use Rattle.sim_types.specs.declared.event.ProcId.{ProcId}
use Rattle.sim_types.specs.declared.event.Scope.{Scope}
use Rattle.sim_types.specs.declared.setup.Resource.{Resource}
use Rattle.sim_types.specs.declared.setup.Setup.{Setup}
use Rattle.sim_machine.specs.State.{EventOf, Calendar, OpenScope, ProcessOf, State, Waiter, Want, Slot, Give, Take, Plan}
use Rattle.sim_machine.specs.Events.{is_same, is_process, event_at, is_pending}
use Rattle.sim_machine.specs.Effect.{calendar}
use Rattle.sim_machine.specs.KeptEvents.{is_in_body}
use Rattle.sim_machine.specs.Processes.{event_of, is_alive, process_at, with_body}
use Rattle.sim_machine.specs.Bodies.{BodyOf}
use Rattle.sim_machine.specs.Lawful.{Lawful}
use Rattle.sim_machine.specs.MayAsk.{most_scopes}
use Rattle.sim_machine.specs.Standing.{was_made, kind_at}
use Rattle.sim_machine.specs.Tellings.{Telling}
use Rattle.sim_machine.specs.Users.{resource_at}
use Rattle.sim_machine.specs.LawfulProcesses.{is_process_kind}
use Rattle.sim_machine.specs.LawfulCapacities.{waits_for_fitting}
use Rattle.sim_machine.specs.LawfulRegistrations.{turned_out}
use Rattle.sim_machine.specs.LawfulWaiting.{is_get_kind, is_put_kind, is_request_kind, may_wait_kind, request_has_scope, requests_of}
use Rattle.sim_lawful.proofs.Drops.DroppedWaiting.{alone_each, kinds_apart}
use Rattle.sim_machine_law.proofs.Events.EventLaws.{is_same-self, same_event}
use Rattle.sim_lawful.proofs.Following.FollowingCalendars.{uncancelled_kind}
use Rattle.sim_machine_law.proofs.KeptParts.KeptBodies.{find_has, four_parts}
use Rattle.sim_machine_law.proofs.KeptParts.KeptRegistrationsCalendar.{made_below}
use Rattle.sim_procs.specs.RecordOf.{RecordOf, record_of}
use Rattle.sim_accounts.proofs.GivenBack.{held_kept}
use Rattle.sim_accounts.proofs.NamedEvents.{held_in_body}
use Rattle.sim_happen_model.specs.Naming.{held_alone}
use Rattle.sim_steps_model.specs.PartsOf.{PartsOf}
use Rattle.sim_steps_model.specs.StandsFor.{StandsForSome, process_of, scopes_of}
use Rattle.sim_steps_model.specs.Becoming.{Stands, BecomesOwing}
use Rattle.sim_steps_model.specs.Dropping.{CanBeDropped, CanBeLeft, CanLeave, IsOpenIn}
use Rattle.sim_steps_law.proofs.Kernels.Becoming.{lawful_stands}
use Rattle.sim_steps_law.proofs.Kernels.Running.{process_found}

-- ---- what is pending is not processed

none_of : (o : Option Outcome) → is_none o ≡ true → o ≡ None
none_of None h = refl
none_of (Some x) h = absurd (false≢true h)

unprocessed : (x : EventOf) → turned_out x ≡ true → x.outcome ≡ None → x.processed ≡ false
unprocessed x out pending = at x.processed (ap (λ o. not x.processed || is_some o) (sym pending) ∙ out)
  where
    at : (b : Bool) → (not b || false) ≡ true → b ≡ false
    at true h = absurd (false≢true h)
    at false h = refl

-- what is pending and was not cancelled is open
pending_open : (c : Calendar) (e : EventId) → All (λ x. turned_out x ≡ true) c.events → was_made c e ≡ true → is_pending c e ≡ true →
    (event_at c e).cancelled ≡ false → IsOpenIn c e
pending_open c e outcomes made pending not_cancelled =
    let below : e.0 < length c.events = made_below c e made in
    let none : (event_at c e).outcome ≡ None = none_of (event_at c e).outcome pending in
    let waits : (event_at c e).processed ≡ false = unprocessed (event_at c e) (outcomes e.0 _ below) none in
    record { made = below; pending = none; not_closed = rw (waits, not_cancelled) refl }

-- ---- a request waits at its own resource alone

request_no_put : (k : EventKind) → is_request_kind k ≡ true → is_put_kind k ≡ true → ⊥
request_no_put kind.Request h put = false≢true put
request_no_put _ h put = false≢true h

request_no_get : (k : EventKind) → is_request_kind k ≡ true → is_get_kind k ≡ true → ⊥
request_no_get kind.Request h gets = false≢true gets
request_no_get _ h gets = false≢true h

request_no_process : (k : EventKind) → is_request_kind k ≡ true → is_process_kind k ≡ true → ⊥
request_no_process kind.Request of process = false≢true process
request_no_process _ of process = false≢true of

waits_there_alone : (c : Calendar) (r : Resource) (scopes : List OpenScope) (x : OpenScope) (w : Waiter) (want : Want) →
    All (λ (y : OpenScope). is_same y.request x.request ≡ true → y ≡ x) scopes → is_request_kind (kind_at c x.request) ≡ true →
    request_has_scope scopes w want ≡ true → waits_for_fitting c r w want ≡ true → is_same w.event x.request ≡ true → w.res ≡ x.res
waits_there_alone c r scopes x w (Slot p key) alone of has fits same =
    let t : OpenScope → Bool = λ y. is_same y.request w.event && is_process y.process p && (y.res == w.res) in
    let found = Any-from_list_any t scopes has in
    let y : OpenScope = found.1 in
    let parts = and_parts (is_same y.request w.event && is_process y.process p) (y.res == w.res) found.4 in
    let here : is_same y.request w.event ≡ true = (and_parts (is_same y.request w.event) (is_process y.process p) parts.0).0 in
    let request : is_same y.request x.request ≡ true =
    ap (λ (e : EventId). is_same e x.request) (same_event y.request w.event (eqb-true y.request.0 w.event.0 here)) ∙ same in
    let is_x : y ≡ x = subst (λ (z : OpenScope). is_same z.request x.request ≡ true → z ≡ x) found.3 (alone found.0 y found.2) request in
    sym (eqb-true y.res w.res parts.1) ∙ ap (λ (z : OpenScope). z.res) is_x
waits_there_alone c r scopes x w (Give amount priority) alone of has fits same =
    let is : w.event ≡ x.request = same_event w.event x.request (eqb-true w.event.0 x.request.0 same) in
    absurd (request_no_put (kind_at c x.request) of
    (subst (λ (e : EventId). is_put_kind (kind_at c e) ≡ true) is (and_parts (is_put_kind (kind_at c w.event)) _ fits).0))
waits_there_alone c r scopes x w (Take least greatest) alone of has fits same =
    let is : w.event ≡ x.request = same_event w.event x.request (eqb-true w.event.0 x.request.0 same) in
    absurd (request_no_get (kind_at c x.request) of
    (subst (λ (e : EventId). is_get_kind (kind_at c e) ≡ true) is (and_parts (is_get_kind (kind_at c w.event)) _ fits).0))

-- ---- what is known of a lawful state

-- the event of a process is open and no request of a scope, and it has not too many scopes
record EndsWell {B : Type 0} (s : State B) (p : ProcId) : Type 0 where
  is_open : IsOpenIn (calendar s) (event_of p)
  apart : All (λ x. x.request.0 ≢ p.0) s.scopes
  few : length (requests_of p s) ≤ most_scopes

module _ {B : Type 0} (g : Plan B) (tell : Telling B) (sound : B → Type 0) (s : State B) (h : Lawful g tell sound s) where
  abbrev c : Calendar
  c = s.facilities.calendar

  all_waiting : All (λ w. IsOpenIn s.facilities.calendar w.event) s.facilities.waiters
  all_waiting k d below =
      let w : Waiter = get_or s.facilities.waiters k d in
      let e : EventId = w.event in
      let parts = four_parts (was_made c e) (is_pending c e) (not (event_at c e).cancelled)
      (may_wait_kind (kind_at c e)) (h.waiting.waiters k d below) in
      pending_open c e h.registrations.outcomes parts.0 parts.1 (not-true (event_at c e).cancelled parts.2)

  all_scopes : All (CanBeLeft g.setup.resources s.facilities) s.scopes
  all_scopes k d below =
      let x : OpenScope = get_or s.scopes k d in
      let outer = and_parts _ _ (h.waiting.scopes k d below) in
      let well = four_parts (is_alive x.process s) (was_made c x.request) (is_request_kind (kind_at c x.request)) _ outer.0 in
      record {
        there = ltb-true x.res (length g.setup.resources) well.3;
        slots = outer.1;
        alone = λ i v j equal.
            let w : Waiter = get_or s.facilities.waiters i v in
            waits_there_alone c (resource_at g.setup.resources w.res) s.scopes x w w.want (alone_each s.scopes h.waiting.apart k d below) well.2
            (h.waiting.requests i v j) (and_parts _ _ (h.capacities.waiting i v j)).1 equal;
      }

  all_end : All (λ x. EndsWell s x.id) s.processes
  all_end k d below =
      let x : ProcessOf B = get_or s.processes k d in
      let e : EventId = event_of x.id in
      let well = four_parts (was_made c x.target) (was_made c e) (is_pending c e) (is_process_kind (kind_at c e)) (h.processes.living k d below) in
      let not_cancelled : (event_at c e).cancelled ≡ false =
      uncancelled_kind (event_at c e) (h.waiting.cancelled e.0 _ (made_below c e well.1)) (kinds_apart (kind_at c e) well.3) in
      record {
        is_open = pending_open c e h.registrations.outcomes well.1 well.2 not_cancelled;
        apart = λ i v j is.
            let y : OpenScope = get_or s.scopes i v in
            let outer = and_parts _ _ (h.waiting.scopes i v j) in
            let of = four_parts (is_alive y.process s) (was_made c y.request) (is_request_kind (kind_at c y.request)) _ outer.0 in
            request_no_process (kind_at c y.request) of.2
            (subst (λ (f : EventId). is_process_kind (kind_at c f) ≡ true) (sym (same_event y.request e is)) well.3);
        few = (h.waiting.bodies k d below).1;
      }

-- ---- in the midst of a poll

mapped_all : {X Y : Type 0} (P : Y → Type 0) (h : X → Y) (xs : List X) → All (λ x. P (h x)) xs → All P (map h xs)
mapped_all P h [] all = All-nil P
mapped_all P h (x ∷ xs) all = All-cons P (h x) (map h xs) (All-head (λ y. P (h y)) x xs all) (mapped_all P h xs (All-tail (λ y. P (h y)) x xs all))

found_any : {X : Type 0} (p test : X → Bool) (xs : List X) (x : X) → find p xs ≡ Some x → test x ≡ true → list_any test xs ≡ true
found_any p test [] x h k = absurd (none-some x h)
found_any {X} p test (y ∷ ys) x h k = at (p y) h (found_any p test ys x)
  where
    or_later : (a b : Bool) → b ≡ true → (a || b) ≡ true
    or_later true b q = refl
    or_later false b q = q

    at : (b : Bool) → cond b (Some y) (find p ys) ≡ Some x → (find p ys ≡ Some x → test x ≡ true → list_any test ys ≡ true) →
        (test y || list_any test ys) ≡ true
    at true q later = rw (ap test (same_Some y x q) ∙ k) refl
    at false q later = or_later (test y) (list_any test ys) (later q k)

module _ {B Code : Type 0} (body : BodyOf B Code) (old mid : PartsOf B Code) (p : ProcId) (later : B) {lost : List EventId} {more : ℕ}
    (h : StandsForSome body old) (becomes : BecomesOwing body [] lost more (with_body p later) old mid) where
  abbrev s : State B
  s = h.state

  abbrev t : State B
  t = with_body p later s

  setup : mid.setup ≡ old.setup
  setup = becomes.opened.setup

  mid_stands : Stands mid t
  mid_stands = becomes.each s (lawful_stands body old s h.lawful h.stands)

  -- the scopes that are open can be left
  pub polled_can : CanLeave body mid
  polled_can = record {
    state = t;
    stands = mid_stands;
    owed = lost ++ [];
    balances = becomes.accounts [] s (lawful_stands body old s h.lawful h.stands) h.balances;
    waiting = all_waiting _ _ _ s h.lawful;
    each = subst (λ (v : Setup). All (CanBeLeft v.resources s.facilities) s.scopes) (sym setup) (all_scopes _ _ _ s h.lawful);
  }

  ends_well : All (λ x. EndsWell s x.id) t.processes
  ends_well =
      let change : ProcessOf B → ProcessOf B = λ x. if is_process x.id p then record x { body = later } else x in
      mapped_all (λ x. EndsWell s x.id) change s.processes (λ k d below.
      let x : ProcessOf B = get_or s.processes k d in
      at x (is_process x.id p) (all_end _ _ _ s h.lawful k d below))
    where
      at : (x : ProcessOf B) (b : Bool) → EndsWell s x.id → EndsWell s (if b then record x { body = later } else x).id
      at x true w = w
      at x false w = w

  -- and each process that is alive can be dropped
  pub can_be_dropped : (q : ProcId) (r : RecordOf B) → record_of q mid.live ≡ Some r → CanBeDropped body r mid
  unfolding polled_can
  can_be_dropped q r found =
      let here : process_at q t ≡ Some (process_of r) =
      process_found mid t q mid_stands.distinct mid_stands.stands ∙ ap (option_map process_of) found in
      let ends : EndsWell s r.id = find_has (λ x. EndsWell s x.id) (λ x. is_process x.id q) t.processes (process_of r) here ends_well in
      let scopes : r.scopes ≡ scopes_of r.id t =
      find_has (λ x. x.scopes ≡ scopes_of x.id t) (λ x. x.id.0 == q.0) mid.live r found mid_stands.stands.scopes in
      let alone : EventId → ℕ = held_alone mid.setup.events (body.tell mid.code) t in
      let names : list_any (is_in_body (body.tell mid.code) r.target) t.processes ≡ true =
      found_any (λ x. is_process x.id q) (is_in_body (body.tell mid.code) r.target) t.processes
      (process_of r) here (rw (is_same-self r.target) refl) in
      let own : List OpenScope = filter (λ x. is_process x.process r.id) s.scopes in
      record {
        target = held_kept alone r.target (lost ++ []) mid.shared.happen.events polled_can.balances.holders
            (omega (arith, held_in_body mid.setup.events (body.tell mid.code) t r.target names));
        few = omega (
          arith,
          ends.few,
          ap (λ xs. length xs) scopes,
          length-map own (λ (x : OpenScope). x.request),
          length-map own (λ (x : OpenScope). let y : Scope = record { request = x.request; res = x.res } in y),
        );
        can = polled_can;
        is_open = ends.is_open;
        apart = ends.apart;
      }

  pub polled_droppable : (q : ProcId) → IfSome (record_of q mid.live) (λ r. CanBeDropped body r mid)
  polled_droppable q = at (record_of q mid.live) refl
    where
      at : (o : Option (RecordOf B)) → record_of q mid.live ≡ o → IfSome o (λ r. CanBeDropped body r mid)
      at None found = tt
      at (Some r) found = can_be_dropped q r found

-- What no change of a state undoes: the facts of a lawful state that are kept beside the basis.
use Rattle.std.proofs.Common.{◌≡◌, arith, ℕ, ℤ, pos, Bool, true, false, not, List, [], ◌∷◌, Option, Some, None, refl, sym, subst, ap, ◌∙◌}
use Rattle.std.specs.Prelude.{length, fold}
use Rattle.std.specs.List.{AllPass}
use Rattle.std.proofs.lemmas.List.Elements.{All-weaker}
use Rattle.std.proofs.lemmas.List.Kept.{AllPairs-filter}
use Rattle.sim_types.specs.declared.event.EventId.{EventId}
use Rattle.sim_types.specs.declared.event.ProcId.{ProcId}
use Rattle.sim_types.specs.declared.event.EventKind.TheVariants as kind
use Rattle.sim_types.specs.declared.event.Outcome.{Outcome}
use Rattle.sim_types.specs.declared.event.Outcome.TheVariants as outcome
use Rattle.sim_types.specs.declared.event.Callback.{Callback}
use Rattle.sim_types.specs.declared.event.Callback.TheVariants as callback
use Rattle.sim_types.specs.declared.event.Signal.{Signal}
use Rattle.sim_types.specs.declared.event.Signal.TheVariants as signal
use Rattle.sim_machine.specs.State.{AllOrAny, Calendar, Facilities, OpenScope, Control, Idle, Calling, Active, Over, State, Plan}
use Rattle.sim_machine.specs.Events.{is_same, is_process, event_at, is_pending, is_processed, pending_event, next_event, is_resume_of, register}
use Rattle.sim_machine.specs.Triggering.{normal, trigger}
use Rattle.sim_machine.specs.Conditions.{is_too_wide, make_condition}
use Rattle.sim_machine.specs.Requests.{cancel}
use Rattle.sim_machine.specs.Scopes.{on_events, close_scope, close_if_any}
use Rattle.sim_machine.specs.Processes.{is_alive, defuse_failed, end_process, rest, process_at, target_of, tell as told, told_more, not_active, wait, signal_of, strip_resume, make_process}
use Rattle.sim_machine.specs.Effect.{calendar, raise, tell_made, trigger_pending, to_another, with_condition, pass_on, chain}
use Rattle.sim_machine.specs.Standing.{left_of}
use Rattle.sim_machine.specs.LawfulWaiting.{AreOfTwo}
use Rattle.sim_machine.specs.LawfulConditions.{IsConditionByKind, builds_condition}
use Rattle.sim_machine_law.proofs.KeptParts.KeptTimesCases.{if_cases, wait_cases}
use Rattle.sim_machine_law.proofs.KeptParts.KeptChains.{left_of_told, left_of_rest}
use Rattle.sim_machine_law.proofs.KeptParts.LawfulBasis.{AreScopesApart, FactsBeside}
use Rattle.sim_lawful.proofs.Calendars.TakenOut.{All-without_first}
use Rattle.sim_lawful.proofs.Drops.DroppedProcess.{stopped_state}
use Rattle.sim_lawful.proofs.Following.FollowingCalendars.{Follows, follows_condition_made, follows_defused_failed, follows_passed, follows_process, follows_registered, follows_scheduled, follows_unregistered}
use Rattle.std.proofs.Common.{⊎_elim}
use Rattle.std.proofs.lemmas.Bool.{both_ways, cases_lt, false≢true, not_from_false, or_cases, or_left, or_right}
use Rattle.std.proofs.lemmas.List.Elements.{All-from_get_or, All-same}
use Rattle.sim_types.specs.declared.setup.Until.{Until}
use Rattle.sim_machine.specs.State.{EventOf, Waiter}
use Rattle.sim_machine.specs.Requests.{cancel}
use Rattle.sim_machine.specs.Standing.{is_event_of, kind_at}
use Rattle.sim_machine.specs.Processes.{event_of}
use Rattle.sim_machine.specs.LawfulProcesses.{is_process_kind}
use Rattle.sim_machine.specs.LawfulStops.{is_stop, is_stop_kind, is_until, may_stop, stops_well}
use Rattle.sim_machine.specs.LawfulWaiting.{is_cancelled_well, is_told_made, may_wait_kind, waits_well}
use Rattle.sim_machine_law.proofs.Events.EventLaws.{is_same-yes}
use Rattle.sim_machine_law.proofs.KeptParts.KeptConditions.{unmade_event}
use Rattle.sim_machine_law.proofs.KeptParts.KeptInterruptionsParts.{passes_at}
use Rattle.sim_machine_law.proofs.KeptParts.KeptRegistrations.{event_of_told, event_of_rest}
use Rattle.sim_lawful.proofs.Calendars.ConditionKinds.{by_kind_at}
use Rattle.sim_lawful.proofs.Following.FollowingCalendars.{Origin, builds_follow, condition_made, stops_only, uncancelled_condition, uncancelled_kind}
use Rattle.sim_lawful.proofs.Following.FollowingFacilities.{Leaves, leaves_cancelled, leaves_released}
use Rattle.sim_lawful.proofs.Drops.DroppedWaiting.{kinds_apart}

-- the origin that is a state's calendar
abbrev pub origin_of : {B : Type 0} → Until → State B → Origin
origin_of u s = record { calendar = calendar s; stops = may_stop u (calendar s) }

-- one control speaks of no event of which another doesn't, and has nothing left to call that the other has not
pub record CallsLess (k l : Control) : Type 0 where
  pub events : (e : EventId) → is_event_of l e ≡ true → is_event_of k e ≡ true
  pub calls : (test : Callback → Bool) → AllPass test (left_of k) → AllPass test (left_of l)

-- a state that comes of an origin, at which the control was k
pub record Comes {B : Type 0} (o : Origin) (k : Control) (t : State B) : Type 0 where
  pub follows : Follows t.facilities.waiters o (calendar t)
  pub calls : CallsLess k t.control
  pub apart : AreScopesApart t

-- no event was cancelled of which the active process is told that it was made
abbrev pub IsToldOfKept : {B : Type 0} → State B → Type 0
IsToldOfKept t = (e : EventId) → is_told_made t.control e ≡ true → (event_at (calendar t) e).cancelled ≡ false

-- both
pub record Goes {B : Type 0} (o : Origin) (k : Control) (t : State B) : Type 0 where
  pub comes : Comes o k t
  pub told : IsToldOfKept t

calls_same : (k l : Control) → ((e : EventId) → is_event_of l e ≡ is_event_of k e) → left_of l ≡ left_of k → CallsLess k l
calls_same k l events left = record { events = λ e of. sym (events e) ∙ of; calls = λ test h. All-same (λ x. test x ≡ true) (left_of l) (left_of k) left h }

calls_then : (k l m : Control) → CallsLess k l → CallsLess l m → CallsLess k m
calls_then k l m h v = record { events = λ e of. h.events e (v.events e of); calls = λ test w. v.calls test (h.calls test w) }

pub calls_itself : (k : Control) → CallsLess k k
calls_itself k = record { events = λ e of. of; calls = λ test h. h }

calls_stripped : (q : ProcId) (k : Control) → CallsLess k (strip_resume q k)
calls_stripped q Idle = calls_itself Idle
calls_stripped q (Calling e left) = record { events = λ f of. of; calls = λ test h. All-without_first (λ x. test x ≡ true) (is_resume_of q) left h }
calls_stripped q (Active e left p x) = record { events = λ f of. of; calls = λ test h. All-without_first (λ x. test x ≡ true) (is_resume_of q) left h }
calls_stripped q (Over why e left) = calls_itself (Over why e left)

-- ---- from the facts, and to them

module _ {B : Type 0} (u : Until) (s : State B) where
  pub follows_facts : FactsBeside u s → Follows s.facilities.waiters (origin_of u s) (calendar s)
  follows_facts h =
      record {
        longer = omega arith;
        kinds = λ e made. refl;
        conditions = λ e is. is;
        by_kind = λ e. by_kind_at (calendar s) e h.kinds;
        cancelled = λ e. passes_at is_cancelled_well (calendar s) e refl h.cancelled;
        queued = h.pending;
        stops = h.stops.registered;
      }

  pub comes_facts : FactsBeside u s → Comes (origin_of u s) s.control s
  comes_facts h = record { follows = follows_facts h; calls = calls_itself s.control; apart = h.apart }

  -- an event that may stop the run still may
  stop_stays : (ws : List Waiter) (d : Calendar) (e : EventId) (x : Callback) → Follows ws (origin_of u s) d →
      stops_only (may_stop u (calendar s)) e x ≡ true → stops_well u d e x ≡ true
  stop_stays ws d e x v h =
      let c : Calendar = calendar s in
      ⊎_elim (λ no. or_left (not (is_stop x)) (may_stop u d e) no)
      (λ may. or_right (not (is_stop x)) (may_stop u d e)
      (⊎_elim (λ of_kind. ⊎_elim (λ made. or_left (is_stop_kind (kind_at d e)) (is_until u e) (ap is_stop_kind (v.kinds e made) ∙ of_kind))
      (λ above. absurd (false≢true (ap (λ (y : EventOf). is_stop_kind y.kind) (sym (unmade_event c e above)) ∙ of_kind))) (cases_lt e.0 (length c.events)))
      (λ until. or_right (is_stop_kind (kind_at d e)) (is_until u e) until) (or_cases (is_stop_kind (kind_at c e)) (is_until u e) may)))
      (or_cases (not (is_stop x)) (may_stop u c e) h)

  -- where what is left to call builds conditions, and stops the run only where it may
  pub facts_with : (t : State B) → Follows t.facilities.waiters (origin_of u s) (calendar t) → AreScopesApart t
      → IsToldOfKept t → AllPass (builds_condition (calendar s)) (left_of t.control)
      → ((e : EventId) → is_event_of t.control e ≡ true → AllPass (stops_well u (calendar s) e) (left_of t.control))
      → FactsBeside u t
  facts_with t v apart told builds stops =
      let c : Calendar = calendar s in
      let d : Calendar = calendar t in
      let ws : List Waiter = t.facilities.waiters in
      record {
        apart = apart;
        pending = v.queued;
        cancelled = All-from_get_or (λ x. is_cancelled_well x ≡ true) d.events (pending_event kind.Plain) (λ i below. v.cancelled (record { 0 = i }));
        told = λ e is. not_from_false (event_at d e).cancelled (told e is);
        kinds = All-from_get_or IsConditionByKind d.events (pending_event kind.Plain) (λ i below. v.by_kind (record { 0 = i }));
        left_builds = All-weaker (λ x. builds_condition c x ≡ true) (λ x. builds_condition d x ≡ true) (λ x w. builds_follow ws (origin_of u s) d x v w) (left_of t.control) builds;
        stops = record {
          registered = All-weaker (λ r. stops_only (may_stop u c) r.event r.callback ≡ true) (λ r. stops_well u d r.event r.callback ≡ true) (λ r w. stop_stays ws d r.event r.callback v w) d.registered v.stops;
          calling = λ e of. All-weaker (λ x. stops_well u c e x ≡ true) (λ x. stops_well u d e x ≡ true) (λ x w. stop_stays ws d e x v w) (left_of t.control) (stops e of);
        };
      }

  pub facts_after : (t : State B) → FactsBeside u s → Goes (origin_of u s) s.control t → FactsBeside u t
  facts_after t h v =
      facts_with t v.comes.follows v.comes.apart v.told (v.comes.calls.calls (builds_condition (calendar s)) h.left_builds)
      (λ e of. v.comes.calls.calls (stops_well u (calendar s) e) (h.stops.calling e (v.comes.calls.events e of)))

-- ---- what a process is told

-- whether this signal tells that the event was made
abbrev pub is_made : Signal → EventId → Bool
is_made (signal.Made r) e = is_same r e
is_made _ e = false

pub told_is : (x : Signal) (k : Control) (e : EventId) → is_told_made (told_more x k) e ≡ true → is_made x e ≡ true
told_is x Idle e h = absurd (false≢true h)
told_is x (Calling f left) e h = absurd (false≢true h)
told_is (signal.Made r) (Active f left p y) e h = h
told_is _ (Active f left p y) e h = absurd (false≢true h)
told_is x (Over why f left) e h = absurd (false≢true h)

rest_tells_none : (k : Control) (e : EventId) → is_told_made (not_active k) e ≡ true → ⊥
rest_tells_none Idle e h = false≢true h
rest_tells_none (Calling f left) e h = false≢true h
rest_tells_none (Active f left p y) e h = false≢true h
rest_tells_none (Over why f left) e h = false≢true h

pub outcome_tells_none : (x : Option Outcome) (e : EventId) → is_made (signal_of x) e ≡ false
outcome_tells_none None e = refl
outcome_tells_none (Some (outcome.Ok v)) e = refl
outcome_tells_none (Some (outcome.Fail t)) e = refl

from_not_false : (b : Bool) → not b ≡ false → b ≡ true
from_not_false true h = refl
from_not_false false h = sym h

-- ---- parts of what a process asks for

module _ {B : Type 0} (o : Origin) (k : Control) where
  comes_told : (x : Signal) (s : State B) → Comes o k s → Comes o k (told x s)
  comes_told x s h =
      record {
        follows = h.follows;
        calls = calls_then k s.control (told_more x s.control) h.calls (calls_same s.control (told_more x s.control) (event_of_told x s.control) (left_of_told x s.control));
        apart = h.apart;
      }

  -- the process is told of no event that was made
  pub goes_told : (x : Signal) (s : State B) → ((e : EventId) → is_made x e ≡ false) → Comes o k s → Goes o k (told x s)
  goes_told x s quiet h = record { comes = comes_told x s h; told = λ e is. absurd (both_ways (is_made x e) (quiet e) (told_is x s.control e is)) }

  -- it is told of one that was not cancelled
  pub goes_made : (n : EventId) (s : State B) → (event_at (calendar s) n).cancelled ≡ false → Comes o k s → Goes o k (tell_made n s)
  goes_made n s un h =
      let P : EventId → Type 0 = λ e. (event_at (calendar s) e).cancelled ≡ false in
      record { comes = comes_told (signal.Made n) s h; told = λ e is. subst P (is_same-yes n e (told_is (signal.Made n) s.control e is)) un }

  pub goes_rest : (s : State B) → Comes o k s → Goes o k (rest s)
  goes_rest s h =
      record {
        comes = record {
          follows = h.follows;
          calls = calls_then k s.control (not_active s.control) h.calls (calls_same s.control (not_active s.control) (event_of_rest s.control) (left_of_rest s.control));
          apart = h.apart;
        };
        told = λ e is. absurd (rest_tells_none s.control e is);
      }

  pub goes_raised : (n : ℕ) (s : State B) → Comes o k s → Goes o k (raise n s)
  goes_raised n s h = goes_told (signal.Raised n) s (λ e. refl) h

  pub goes_done : (s : State B) → Comes o k s → Goes o k (told signal.Done s)
  goes_done s h = goes_told signal.Done s (λ e. refl) h

  -- what is done to the facilities alone
  pub comes_done : (f : Facilities) (s : State B) → Follows f.waiters o f.calendar → Comes o k s → Comes o k (record s { facilities = f })
  comes_done f s v h = record { follows = v; calls = h.calls; apart = h.apart }

  pub goes_waits : (e : EventId) (p : ProcId) (s : State B) → Comes o k s → Goes o k (wait e p s)
  goes_waits e p s h =
      wait_cases (Goes o k) e p s
      (λ processed. goes_told (signal_of (event_at (calendar s) e).outcome) (on_events (defuse_failed e) s) (outcome_tells_none (event_at (calendar s) e).outcome) (comes_done _ s (follows_defused_failed s.facilities.waiters o e (calendar s) h.follows) h))
      (λ waits. goes_rest _ (record { follows = follows_registered s.facilities.waiters o e (callback.Resume p) (calendar s) refl h.follows; calls = h.calls; apart = h.apart }))

  pub comes_process : (g : Plan B) (n : ℕ) (args : List ℤ) (s : State B) → Comes o k s → Comes o k (make_process g n args s)
  comes_process g n args s h = record { follows = follows_process s.facilities.waiters o (calendar s) h.follows; calls = h.calls; apart = h.apart }

  pub goes_to_another : (p q : ProcId) (does : State B → State B) (s : State B) → Comes o k s → (is_alive q s ≡ true → Comes o k (does s)) →
      Goes o k (to_another p q does s)
  goes_to_another p q does s h done =
      if_cases (Goes o k) (not (is_alive q s)) (raise 4 s) _ (λ ended. goes_raised 4 s h)
      (λ lives. if_cases (Goes o k) (is_process q p) (raise 5 s) (told signal.Done (does s)) (λ itself. goes_raised 5 s h) (λ other. goes_done (does s) (done (from_not_false (is_alive q s) lives))))

  pub goes_condition : (sort : AllOrAny) (ms : List EventId) (s : State B) → Comes o k s → Goes o k (with_condition sort ms s)
  goes_condition sort ms s h =
      let ws : List Waiter = s.facilities.waiters in
      let c : Calendar = calendar s in
      let v : Follows ws o (make_condition sort ms c) = follows_condition_made ws o sort ms c h.follows in
      if_cases (Goes o k) (is_too_wide ms c) (raise 10 s) _ (λ wide. goes_raised 10 s h)
      (λ narrow. goes_made (next_event c) (on_events (make_condition sort ms) s) (uncancelled_condition ws o (next_event c) (make_condition sort ms c) (condition_made ws o sort ms c h.follows) v) (comes_done _ s v h))

  -- an event gets an outcome that waits nowhere
  pub goes_triggers : (e : EventId) (x : Outcome) (s : State B) → may_wait_kind (kind_at (calendar s) e) ≡ false → Comes o k s →
      Goes o k (trigger_pending e x s)
  goes_triggers e x s waits_not h =
      let un : (event_at (calendar s) e).cancelled ≡ false = uncancelled_kind (event_at (calendar s) e) (h.follows.cancelled e) waits_not in
      if_cases (Goes o k) (is_pending (calendar s) e) _ (raise 3 s)
      (λ pending. goes_done (on_events (trigger e x) s) (comes_done _ s (follows_scheduled s.facilities.waiters o e x normal (pos 0) (calendar s) un h.follows) h)) (λ turned. goes_raised 3 s h)

  pub goes_chains : (e y : EventId) (s : State B) → may_wait_kind (kind_at (calendar s) y) ≡ false → Comes o k s → Goes o k (chain e y s)
  goes_chains e y s waits_not h =
      let x : Option Outcome = (event_at (calendar s) e).outcome in
      let ws : List Waiter = s.facilities.waiters in
      if_cases (Goes o k) (not (is_processed (calendar s) e)) (told signal.Done (on_events (register e (callback.Trigger y)) s)) _
      (λ later. goes_done (on_events (register e (callback.Trigger y)) s) (comes_done _ s (follows_registered ws o e (callback.Trigger y) (calendar s) refl h.follows) h))
      (λ now. if_cases (Goes o k) (is_pending (calendar s) y) (told signal.Done (on_events (pass_on x y) s)) (raise 3 s)
      (λ pending. goes_done (on_events (pass_on x y) s) (comes_done _ s (follows_passed ws o x y (calendar s) waits_not h.follows) h))
      (λ turned. goes_raised 3 s h))

  -- a process ends whose event is one of a process
  pub comes_ended : (p : ProcId) (x : Outcome) (s : State B) → is_process_kind (kind_at (calendar s) (event_of p)) ≡ true → Comes o k s →
      Comes o k (end_process p x s)
  comes_ended p x s kinds h =
      let un : (event_at (calendar s) (event_of p)).cancelled ≡ false = uncancelled_kind (event_at (calendar s) (event_of p)) (h.follows.cancelled (event_of p)) (kinds_apart (kind_at (calendar s) (event_of p)) kinds) in
      record { follows = follows_scheduled s.facilities.waiters o (event_of p) x normal (pos 0) (calendar s) un h.follows; calls = h.calls; apart = h.apart }

  -- ---- scopes are closed

  -- what comes of an origin while scopes are closed, where these waited before
  pub record Closes (before : List Waiter) (t : State B) : Type 0 where
    pub leaves : Leaves o before t.facilities.waiters (calendar t)
    pub calls : CallsLess k t.control
    pub apart : AreScopesApart t

  pub comes_closes : (before : List Waiter) (t : State B) → Closes before t → Comes o k t
  comes_closes before t h = record { follows = h.leaves.follows; calls = h.calls; apart = h.apart }

  pub closes_itself : (t : State B) → o.calendar ≡ calendar t → Comes o k t → Closes t.facilities.waiters t
  closes_itself t same h = record { leaves = record { follows = h.follows; waited = λ e some. some; pending = λ e made. rw same refl }; calls = h.calls; apart = h.apart }

  pub closes_scope : (before : List Waiter) (x : OpenScope) (t : State B) → AllPass (waits_well o.calendar) before → Closes before t →
      Closes before (close_scope t x)
  closes_scope before x t well h =
      record {
        leaves = leaves_released o before x.res x.request (cancel x.request t.facilities) (leaves_cancelled o before x.request t.facilities well h.leaves);
        calls = h.calls;
        apart = AllPairs-filter AreOfTwo (λ y. not (is_same y.request x.request)) t.scopes h.apart;
      }

  pub closes_if_any : (before : List Waiter) (x : Option OpenScope) (t : State B) → AllPass (waits_well o.calendar) before → Closes before t →
      Closes before (close_if_any x t)
  closes_if_any before None t well h = h
  closes_if_any before (Some x) t well h = closes_scope before x t well h

  pub closes_all : (before : List Waiter) (xs : List OpenScope) (t : State B) → AllPass (waits_well o.calendar) before → Closes before t →
      Closes before (fold close_scope t xs)
  closes_all before [] t well h = h
  closes_all before (x ∷ xs) t well h = closes_all before xs (close_scope t x) well (closes_scope before x t well h)

  -- nothing resumes q any more
  pub closes_stopped : (before : List Waiter) (q : ProcId) (t : State B) → Closes before t → Closes before (stopped_state q t)
  closes_stopped before q t h =
      record {
        leaves = record {
          follows = follows_unregistered t.facilities.waiters o (target_of q (process_at q t)) (is_resume_of q) (calendar t) h.leaves.follows;
          waited = h.leaves.waited;
          pending = h.leaves.pending;
        };
        calls = calls_then k t.control (strip_resume q t.control) h.calls (calls_stripped q t.control);
        apart = h.apart;
      }

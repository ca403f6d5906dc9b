-- The facts of a lawful state beside the basis are kept by each step and each arrival, and hold of the opening state.
use Rattle.std.proofs.Common.{◌≡◌, ◌<◌, arith, ℕ, ℤ, pos, Bool, true, false, not, List, [], ◌∷◌, Option, Some, None, refl, sym, subst, ap, ◌∙◌, replicate, All, cond}
use Rattle.std.specs.Prelude.{fold, filter, count_by, ◌+◌, ◌&&◌, get_or, find}
use Rattle.std.specs.List.{AllPass}
use Rattle.std.proofs.lemmas.Bool.{and_parts}
use Rattle.std.proofs.lemmas.List.Elements.{All-nil, All-cons, All-head, All-tail, All-weaker, All-map, All-filter, All-replicate}
use Rattle.sim_types.specs.declared.event.EventId.{EventId}
use Rattle.sim_types.specs.declared.event.ProcId.{ProcId}
use Rattle.sim_types.specs.declared.event.EventKind.TheVariants as kind
use Rattle.sim_types.specs.declared.event.Outcome.{Outcome}
use Rattle.sim_types.specs.declared.event.Outcome.TheVariants as outcome
use Rattle.sim_types.specs.declared.event.Throw.{Throw}
use Rattle.sim_types.specs.declared.event.Callback.{Callback}
use Rattle.sim_types.specs.declared.event.Callback.TheVariants as callback
use Rattle.sim_types.specs.declared.event.Signal.{Signal}
use Rattle.sim_types.specs.declared.event.Entry.{Entry}
use Rattle.sim_types.specs.declared.line.End.TheVariants as end
use Rattle.sim_types.specs.declared.op.Op.{Op}
use Rattle.sim_types.specs.declared.op.Op.TheVariants as op
use Rattle.sim_types.specs.declared.setup.Resource.{Resource}
use Rattle.sim_types.specs.declared.setup.Start.{Start}
use Rattle.sim_machine.specs.State.{Every, Either, Registration, Calendar, Slot, Give, Take, Facilities, OpenScope, Control, Idle, Calling, Active, Over, State, Plan}
use Rattle.sim_machine.specs.Events.{is_same, event_at, is_processed, pending_event, next_event, is_resume_of, register}
use Rattle.sim_machine.specs.Triggering.{make, make_timeout, make_interruption}
use Rattle.sim_machine.specs.Conditions.{is_condition, members_of}
use Rattle.sim_machine.specs.Requests.{cancel, join, make_put, make_get, make_request, request_key, is_refused_amount, is_own_victim}
use Rattle.sim_machine.specs.Users.{first_of_list, resource_at}
use Rattle.sim_machine.specs.Scopes.{on_facilities, on_events, leave_innermost, open_scope, release_if_any, release_request, scopes_inwards}
use Rattle.sim_machine.specs.Processes.{is_alive, defuse_failed, end_process, rest, process_at, target_of, with_body, tell as told, wait, signal_of, stop_waiting, make_process, drop_process}
use Rattle.sim_machine.specs.Effect.{calendar, raise, tell_made, trigger_pending, with_move, with_timeout}
use Rattle.sim_machine.specs.Steps.{call, control_to, is_crash, pop_entry, polled, settle}
use Rattle.sim_machine.specs.Units.{arrive}
use Rattle.sim_machine.specs.Runs.{blank_state, event_zero, first_calendar, opening, start_process}
use Rattle.sim_machine.specs.Tellings.{Telling}
use Rattle.sim_machine.specs.Standing.{left_of, one_if}
use Rattle.sim_machine.specs.LawfulConditions.{IsConditionByKind, builds_condition, is_build_of, is_empty, needs_build}
use Rattle.sim_machine_law.proofs.Events.EventLaws.{is_same-self}
use Rattle.sim_machine_law.proofs.KeptParts.KeptTimesCases.{if_cases, timeout_cases, draw_cases}
use Rattle.sim_machine_law.proofs.KeptParts.KeptConditions.{count_cons}
use Rattle.sim_machine_law.proofs.KeptParts.LawfulBasis.{AreScopesApart, ConditionsBasis, FactsBeside, LawfulBasis}
use Rattle.sim_lawful.proofs.ConditionLaws.CalledCheck.{checks_member}
use Rattle.sim_lawful.proofs.Drops.DroppedProcess.{scopeless_state, stopped_state}
use Rattle.sim_lawful.proofs.Scopes.PolledEnter.{scopes_apart-polled_enter}
use Rattle.std.proofs.Common.{◌||◌, zero, suc}
use Rattle.std.specs.Prelude.{◌==◌, length, slice_index_or}
use Rattle.std.proofs.lemmas.Bool.{both_ways, false≢true, not-true, or_left, or_right}
use Rattle.std.proofs.lemmas.List.Elements.{All-push, All-same, filter_passes}
use Rattle.sim_types.specs.declared.event.EventKind.{EventKind}
use Rattle.sim_types.specs.declared.setup.Class.TheVariants as class
use Rattle.sim_types.specs.declared.setup.Until.{Until}
use Rattle.sim_types.specs.declared.setup.Until.TheVariants as until
use Rattle.sim_machine.specs.State.{EventOf, ProcessOf, Waiter, Want}
use Rattle.sim_machine.specs.Triggering.{schedule, urgent}
use Rattle.sim_machine.specs.Processes.{event_of}
use Rattle.sim_machine.specs.Steps.{end_at, signal_by}
use Rattle.sim_machine.specs.Runs.{set_stop}
use Rattle.sim_machine.specs.Tellings.{CodeFacts}
use Rattle.sim_machine.specs.MayAsk.{is_in_place, is_known_event}
use Rattle.sim_machine.specs.BodyLaw.{IsLawfulPoll, scopes_told}
use Rattle.sim_machine.specs.Setups.{FitsCode}
use Rattle.sim_machine.specs.Standing.{is_event_of, kind_at, was_made}
use Rattle.sim_machine.specs.LawfulProcesses.{is_living_well, is_process_kind}
use Rattle.sim_machine.specs.LawfulChains.{is_trigger_kind, is_triggered_kind}
use Rattle.sim_machine.specs.LawfulStops.{is_stop_kind, may_stop, stops_well}
use Rattle.sim_machine.specs.LawfulWaiting.{is_cancelled_well, is_told_made, must_wait}
use Rattle.sim_machine_law.proofs.Events.EventLaws.{change_event-keeps, is_same-yes, make-new}
use Rattle.sim_machine_law.proofs.KeptParts.KeptBodiesEvents.{old_process}
use Rattle.sim_machine_law.proofs.KeptParts.KeptBodies.{three_parts}
use Rattle.sim_machine_law.proofs.KeptParts.KeptConditions.{unmade_event}
use Rattle.sim_machine_law.proofs.KeptParts.KeptProcessesParts.{LivesWell, is_process-self, lives_well}
use Rattle.sim_machine_law.proofs.KeptParts.KeptProcesses.{alive_has}
use Rattle.sim_machine_law.proofs.KeptParts.KeptWaitingPolls.{alive_changed}
use Rattle.sim_machine_law.proofs.Events.ChangedCalendars.{AsksFor, HasAsked}
use Rattle.sim_lawful.proofs.Calls.CalledTrigger.{first_chains}
use Rattle.sim_lawful.proofs.Polls.KnownEvents.{known_event_made}
use Rattle.sim_lawful.proofs.Opening.OpeningLaws.{starts_open}
use Rattle.sim_lawful.proofs.Following.FollowingCalendars.{Follows, Origin, follows_built, follows_checked, follows_defused_failed, follows_interruption, follows_made, follows_passed, follows_popped, follows_scheduled, follows_timeout, follows_unregistered}
use Rattle.sim_lawful.proofs.Following.FollowingFacilities.{AreUncancelled, Joins, Leaves, joins, leaves_cancelled, leaves_released, tries_get, tries_itself, tries_put, waiters_uncancelled}
use Rattle.sim_lawful.proofs.Following.FollowingStates.{CallsLess, Closes, Comes, Goes, calls_itself, closes_all, closes_if_any, closes_itself, closes_stopped, comes_closes, comes_done, comes_ended, comes_facts, comes_process, facts_after, facts_with, follows_facts, goes_chains, goes_condition, goes_done, goes_made, goes_raised, goes_rest, goes_to_another, goes_told, goes_triggers, goes_waits, is_made, origin_of, outcome_tells_none, told_is}
use Rattle.sim_lawful.proofs.Calendars.ReplacedCalendars.{triggered_no_waiter}

-- ---- what a process asks for

-- the event of a live process
record IsOwnEvent (c : Calendar) (p : ProcId) : Type 0 where
  made : (event_of p).0 < length c.events
  kind : is_process_kind (kind_at c (event_of p)) ≡ true

own_event : {B : Type 0} (s : State B) (p : ProcId) → AllPass (is_living_well s) s.processes → is_alive p s ≡ true → IsOwnEvent (calendar s) p
own_event s p living alive =
    let lives = alive_has s p (λ z. is_living_well s z ≡ true) living alive in
    let well : LivesWell (calendar s) p lives.0.target = subst (λ q. LivesWell (calendar s) q lives.0.target) lives.1 (lives_well s lives.0 lives.2) in
    record { made = well.made; kind = well.kind }

module _ {B : Type 0} (g : Plan B) (tell : Telling B) (sound : B → Type 0) (s : State B) (f : CodeFacts) (e : EventId) (left : List Callback) (p : ProcId) (x : Signal) (y : ProcessOf B) (b : B) where
  -- what the process asked for, in a state with the facts beside the basis
  abbrev GoesOn : State B → Type 0
  GoesOn t = Goes (origin_of g.setup.until s) s.control t

  goes_polled : (o : Op) → FitsCode f g.setup → AsksFor g tell sound s f e left p x y b o → FactsBeside g.setup.until s → GoesOn (polled g p o b s)
  goes_polled a fits asks h = at a asks.poll
    where
      o : Origin
      o = origin_of g.setup.until s

      l : LawfulBasis g tell sound s
      l = asks.lawful

      k : Control
      k = s.control

      c : Calendar
      c = calendar s

      ws : List Waiter
      ws = s.facilities.waiters

      rs : List Resource
      rs = g.setup.resources

      n : EventId
      n = next_event c

      r : State B
      r = with_body p b s

      same : Follows ws o c
      same = follows_facts g.setup.until s h

      now : Comes o k r
      now = record { follows = same; calls = calls_itself k; apart = h.apart }

      un : AreUncancelled c ws
      un = waiters_uncancelled c ws l.waiting.waiters

      alive : is_alive p s ≡ true
      alive = l.processes.active p (rw asks.active (is_process-self p))

      closes : Closes o k ws r
      closes = closes_itself o k r refl now

      has : (a : Op) → IsLawfulPoll f tell y.body x a b → tell.scopes b ≡ scopes_told (tell.scopes y.body) (tell.last y.body) x →
          HasAsked g tell sound s f e left p x y b a
      has a v scopes = record { active = asks.active; found = asks.found; is_sound = asks.is_sound; lawful = l; poll = v; scopes = scopes }

      -- after a timeout, put or get was made the process is told of it, or waits for it
      After : (EventId → State B → State B) → Type 0
      After after = (m : EventId) (t : State B) → (event_at (calendar t) m).cancelled ≡ false → Comes o k t → GoesOn (after m t)

      told_made : After tell_made
      told_made m t fresh v = goes_made o k m t fresh v

      waits_for : After (λ m t. wait m p t)
      waits_for m t fresh v = goes_waits o k m p t v

      times : (delay value : ℤ) (after : EventId → State B → State B) → After after → GoesOn (with_timeout delay value after r)
      times delay value after goes =
          timeout_cases GoesOn delay value after r (goes_raised o k 1 r now) (goes_raised o k 9 r now)
          (λ low high. goes n (on_events (make_timeout delay value) r)
          (change_event-keeps (λ a. a.cancelled) n n (λ a. record a { outcome = Some (outcome.Ok value) }) (make kind.Timeout c) (λ a. refl) ∙ ap (λ (a : EventOf). a.cancelled) (make-new kind.Timeout c))
          (comes_done o k _ r (follows_timeout ws o delay value c same) now))

      moves : (res : ℕ) (amount : ℤ) (made : Facilities → Facilities) (after : EventId → State B → State B) →
          Follows (made s.facilities).waiters o (made s.facilities).calendar → (event_at (made s.facilities).calendar n).cancelled ≡ false →
          After after → GoesOn (with_move g res amount made after r)
      moves res amount made after v fresh goes =
          if_cases GoesOn (is_refused_amount rs res amount) (raise 2 r) (after n (on_facilities made r)) (λ refused. goes_raised o k 2 r now)
          (λ fits. goes n (on_facilities made r) fresh (comes_done o k (made s.facilities) r v now))

      puts : (res : ℕ) (amount priority : ℤ) (after : EventId → State B → State B) → After after →
          GoesOn (with_move g res amount (make_put rs res amount priority) after r)
      puts res amount priority after goes =
          let j : Facilities = join kind.Put res (Give amount priority) (callback.TryGet res) s.facilities in
          let joined : Joins o n j = joins o kind.Put res (Give amount priority) (callback.TryGet res) s.facilities refl refl un same in
          let tried = tries_put o j.calendar rs res j joined.waiters joined.tries in
          moves res amount (make_put rs res amount priority) after tried.follows (tried.uncancelled n ∙ joined.new) goes

      gets : (res : ℕ) (least greatest : ℤ) (after : EventId → State B → State B) → After after →
          GoesOn (with_move g res least (make_get rs res least greatest) after r)
      gets res least greatest after goes =
          let j : Facilities = join kind.Get res (Take least greatest) (callback.TryPut res) s.facilities in
          let joined : Joins o n j = joins o kind.Get res (Take least greatest) (callback.TryPut res) s.facilities refl refl un same in
          let tried = tries_get o j.calendar rs res j joined.waiters joined.tries in
          moves res least (make_get rs res least greatest) after tried.follows (tried.uncancelled n ∙ joined.new) goes

      enters : (res : ℕ) (priority : ℤ) (preempts : Bool) → GoesOn (polled g p (op.Enter res priority preempts) b s)
      enters res priority preempts =
          let want : Want = Slot p (request_key (resource_at rs res).kind priority preempts s.facilities) in
          let j : Facilities = join kind.Request res want (callback.TryGet res) s.facilities in
          let joined : Joins o n j = joins o kind.Request res want (callback.TryGet res) s.facilities refl refl un same in
          let tried = tries_put o j.calendar rs res j joined.waiters joined.tries in
          let opened : State B = open_scope p n res (on_facilities (make_request rs res p priority preempts) r) in
          let apart = scopes_apart-polled_enter g tell sound s p b res priority preempts l h.apart in
          if_cases (λ (t : State B). AreScopesApart t → GoesOn t) (is_own_victim rs res p priority preempts s.facilities) (raise 5 r) (tell_made n opened) (λ own v. goes_raised o k 5 r now)
          (λ other v. goes_made o k n opened (tried.uncancelled n ∙ joined.new) (record { follows = tried.follows; calls = calls_itself k; apart = v })) apart

      drops : (q : ProcId) (value : ℤ) → is_alive q s ≡ true → Comes o k (drop_process q value r)
      drops q value lives =
          let own : IsOwnEvent c q = own_event s q l.processes.living lives in
          let closed : Closes o k ws (scopeless_state q r) = closes_all o k ws (scopes_inwards q (stopped_state q r)) (stopped_state q r) l.waiting.waiters (closes_stopped o k ws q r closes) in
          comes_ended o k q (outcome.Ok value) (scopeless_state q r) (ap is_process_kind (closed.leaves.follows.kinds (event_of q) own.made) ∙ own.kind) (comes_closes o k ws (scopeless_state q r) closed)

      ends : (a : Outcome) → GoesOn (rest (end_process p a r))
      ends a = goes_rest o k (end_process p a r) (comes_ended o k p a r (own_event s p l.processes.living alive).kind now)

      triggers : (a : Op) (m : EventId) (result : Outcome) → HasAsked g tell sound s f e left p x y b a → is_known_event f (tell.places b) m ≡ true →
          GoesOn (trigger_pending m result r)
      triggers a m result v known = goes_triggers o k m result r (triggered_no_waiter (kind_at c m) (known_event_made g tell sound s f e left p x y b a m fits v known).kind) now

      at : (a : Op) → IsLawfulPoll f tell y.body x a b → GoesOn (polled g p a b s)
      at op.Nop v = goes_done o k r now
      at (op.Timeout delay value) v = times delay value tell_made told_made
      at (op.Pause delay value) v = times delay value (λ m t. wait m p t) waits_for
      at (op.Wait m) v = goes_waits o k m p r now
      at op.NewEvent v = goes_made o k n (on_events (make kind.Plain) r) (ap (λ (a : EventOf). a.cancelled) (make-new kind.Plain c)) (comes_done o k _ r (follows_made ws o kind.Plain c refl refl same) now)
      at (op.Succeed m value) v = triggers (op.Succeed m value) m (outcome.Ok value) (has (op.Succeed m value) v v.scopes) v.asks
      at (op.Fail m code) v = triggers (op.Fail m code) m (outcome.Fail (record { kind = 3; value = code })) (has (op.Fail m code) v v.scopes) v.asks
      at (op.Spawn kind args) v =
          goes_made o k n (make_process g kind args r) ((old_process c).cancelled n ∙ ap (λ (a : EventOf). a.cancelled) (unmade_event c n (omega arith))) (comes_process o k g kind args r now)
      at (op.Interrupt q cause) v =
          let t : Throw = record { kind = 1; value = cause } in
          goes_to_another o k p q (on_events (make_interruption q t)) r now (λ lives. comes_done o k _ r (follows_interruption ws o q t c same) now)
      at (op.Drop q value) v = goes_to_another o k p q (drop_process q value) r now (λ lives. drops q value (sym (alive_changed p q (λ z. record z { body = b }) s (λ z. refl)) ∙ lives))
      at (op.AllOf members) v = goes_condition o k Every members r now
      at (op.AnyOf members) v = goes_condition o k Either members r now
      at (op.Has cond m) v = goes_told o k _ r (λ i. refl) now
      at (op.Enter res priority preempts) v = enters res priority preempts
      at op.Leave v =
          let inner : Option OpenScope = first_of_list (scopes_inwards p r) in
          goes_done o k (leave_innermost p r) (comes_closes o k ws (leave_innermost p r) (closes_if_any o k ws inner r l.waiting.waiters closes))
      at (op.Release request) v = goes_done o k (release_request request r) (comes_closes o k ws (release_request request r) (releases (find (λ z. is_same z.request request) r.scopes)))
        where
          releases : (z : Option OpenScope) → Closes o k ws (release_if_any z r)
          releases None = closes
          releases (Some z) = record { leaves = leaves_released o ws z.res z.request s.facilities closes.leaves; calls = closes.calls; apart = closes.apart }
      at (op.Put res amount priority) v = puts res amount priority tell_made told_made
      at (op.PutWait res amount priority) v = puts res amount priority (λ m t. wait m p t) waits_for
      at (op.Get res least greatest) v = gets res least greatest tell_made told_made
      at (op.GetWait res least greatest) v = gets res least greatest (λ m t. wait m p t) waits_for
      at (op.Cancel m) v =
          let left_alone : Leaves o ws (cancel m s.facilities).waiters (cancel m s.facilities).calendar = leaves_cancelled o ws m s.facilities l.waiting.waiters closes.leaves in
          goes_done o k (on_facilities (cancel m) r) (comes_done o k (cancel m s.facilities) r left_alone.follows now)
      at (op.Count res) v = goes_told o k _ r (λ i. refl) now
      at (op.Draw lo hi) v =
          draw_cases GoesOn g lo hi r (goes_raised o k 8 r now) (λ some. goes_told o k _ (record r { drawn = s.drawn + 1 }) (λ i. refl) (record { follows = now.follows; calls = now.calls; apart = now.apart }))
      at (op.Log value) v = goes_done o k _ (record { follows = now.follows; calls = now.calls; apart = now.apart })
      at (op.Finish value) v = ends (outcome.Ok value)
      at (op.Die t) v = ends (outcome.Fail t)
      at (op.Chain m a) v =
          let known : Bool = is_known_event f (tell.places b) m || (m.0 == (tell.own b).0) || is_in_place (tell.places b) class.Cond m || is_in_place (tell.places b) class.Proc m in
          let aim = known_event_made g tell sound s f e left p x y b (op.Chain m a) a fits (has (op.Chain m a) v v.scopes) (and_parts known (is_known_event f (tell.places b) a) v.asks).1 in
          goes_chains o k m a r (triggered_no_waiter (kind_at c a) aim.kind) now

  pub beside_polled : (o : Op) → FitsCode f g.setup → AsksFor g tell sound s f e left p x y b o → FactsBeside g.setup.until s →
      FactsBeside g.setup.until (polled g p o b s)
  beside_polled o fits asks h = facts_after g.setup.until s (polled g p o b s) h (goes_polled o fits asks h)

-- ---- a callback is called

begun_quiet : (k : EventKind) (x : Option Outcome) (n : EventId) → is_made (signal_by k x) n ≡ false
begun_quiet kind.Init x n = refl
begun_quiet _ x n = outcome_tells_none x n

module _ {B : Type 0} (g : Plan B) (tell : Telling B) (sound : B → Type 0) (e : EventId) (left : List Callback) (s : State B) where
  goes_called : (x : Callback) → s.control ≡ Calling e (x ∷ left) → LawfulBasis g tell sound s → FactsBeside g.setup.until s →
      Goes (origin_of g.setup.until s) s.control (call g e x left s)
  goes_called x calling l h = at x calling
    where
      o : Origin
      o = origin_of g.setup.until s

      c : Calendar
      c = calendar s

      ws : List Waiter
      ws = s.facilities.waiters

      same : Follows ws o c
      same = follows_facts g.setup.until s h

      un : AreUncancelled c ws
      un = waiters_uncancelled c ws l.waiting.waiters

      -- the control after the call, and whatever calls before
      fewer : (y : Callback) (m : Control) → s.control ≡ Calling e (y ∷ left) → ((n : EventId) → is_event_of m n ≡ is_same e n) → left_of m ≡ left →
          CallsLess s.control m
      fewer y m was events calls =
          record {
            events = λ n of. ap (λ (q : Control). is_event_of q n) was ∙ (sym (events n) ∙ of);
            calls = λ test v. All-same (λ z. test z ≡ true) (left_of m) left calls (All-tail (λ z. test z ≡ true) y left (subst (λ (q : Control). AllPass test (left_of q)) was v));
          }

      on : (y : Callback) (v : Facilities) → s.control ≡ Calling e (y ∷ left) → Follows v.waiters o v.calendar →
          Goes o s.control (control_to (Calling e left) (record s { facilities = v }))
      on y v was k = record { comes = record { follows = k; calls = fewer y (Calling e left) was (λ n. refl) refl; apart = h.apart }; told = λ n is. absurd (false≢true is) }

      -- a process runs, and is told of no event that was made
      runs : (y : Callback) (d : Calendar) (p : ProcId) (told : Signal) → s.control ≡ Calling e (y ∷ left) → ((n : EventId) → is_made told n ≡ false) →
          Follows ws o d → Goes o s.control (control_to (Active e left p told) (on_events (λ b. d) s))
      runs y d p told was quiet k =
          record {
            comes = record { follows = k; calls = fewer y (Active e left p told) was (λ n. refl) refl; apart = h.apart };
            told = λ n is. absurd (both_ways (is_made told n) (quiet n) (told_is told (Active e left p told) n is));
          }

      at : (y : Callback) → s.control ≡ Calling e (y ∷ left) → Goes o s.control (call g e y left s)
      at (callback.Resume p) was = runs (callback.Resume p) (defuse_failed e c) p _ was (begun_quiet (event_at c e).kind (event_at c e).outcome) (follows_defused_failed ws o e c same)
      at (callback.Strike p) was =
          if_cases (Goes o s.control) (is_alive p s) (control_to (Active e left p (signal_of (event_at c e).outcome)) (stop_waiting p s)) (control_to (Calling e left) s)
          (λ lives. runs (callback.Strike p) _ p _ was (outcome_tells_none (event_at c e).outcome) (follows_unregistered ws o (target_of p (process_at p s)) (is_resume_of p) c same)) (λ ended. on (callback.Strike p) s.facilities was same)
      at (callback.Check cond) was = on (callback.Check cond) _ was (follows_checked ws o cond e c (checks_member c s.control e cond left was l.conditions).is same)
      at (callback.Build cond) was =
          let first = All-head (λ z. builds_condition c z ≡ true) (callback.Build cond) left (subst (λ (q : Control). AllPass (builds_condition c) (left_of q)) was h.left_builds) in
          on (callback.Build cond) _ was (follows_built ws o cond c first same)
      at (callback.TryPut res) was = on (callback.TryPut res) _ was (tries_put o c g.setup.resources res s.facilities un (tries_itself o c ws same)).follows
      at (callback.TryGet res) was = on (callback.TryGet res) _ was (tries_get o c g.setup.resources res s.facilities un (tries_itself o c ws same)).follows
      at callback.Stop was = record { comes = record { follows = same; calls = fewer callback.Stop (Over (end_at e s) e left) was (λ n. refl) refl; apart = h.apart }; told = λ n is. absurd (false≢true is) }
      at (callback.Trigger y) was =
          let parts = three_parts (is_trigger_kind (kind_at c e)) (was_made c y) (is_triggered_kind (kind_at c y)) (first_chains c s.control e (callback.Trigger y) left was l.chains) in
          on (callback.Trigger y) _ was (follows_passed ws o (event_at c e).outcome y c (triggered_no_waiter (kind_at c y) parts.2) same)

  pub beside_called : (x : Callback) → s.control ≡ Calling e (x ∷ left) → LawfulBasis g tell sound s → FactsBeside g.setup.until s →
      FactsBeside g.setup.until (call g e x left s)
  beside_called x calling l h = facts_after g.setup.until s (call g e x left s) h (goes_called x calling l h)

-- an event is settled
pub beside_settled : {B : Type 0} (u : Until) (e : EventId) (s : State B) → FactsBeside u s → FactsBeside u (settle e s)
beside_settled {B} u e s h =
    let c : Calendar = calendar s in
    if_cases (λ k. FactsBeside u (control_to k s)) (is_crash e s) (Over end.Crash e []) Idle
    (λ crash. facts_with u s (control_to (Over end.Crash e []) s) (follows_facts u s h) h.apart (λ n is. absurd (false≢true is)) (All-nil (λ x. builds_condition c x ≡ true)) (λ n of. All-nil (λ x. stops_well u c n x ≡ true)))
    (λ ok. facts_with u s (control_to Idle s) (follows_facts u s h) h.apart (λ n is. absurd (false≢true is)) (All-nil (λ x. builds_condition c x ≡ true)) (λ n of. absurd (false≢true of)))

-- ---- a pop

each_counts : {X : Type 0} (test : X → Bool) (xs : List X) → All (λ x. test x ≡ true → 0 < count_by test xs) xs
each_counts test [] = All-nil (λ x. test x ≡ true → 0 < count_by test [])
each_counts test (x ∷ xs) =
    All-cons (λ y. test y ≡ true → 0 < count_by test (x ∷ xs)) x xs (λ h. rw (count_cons test x xs, h) (omega arith))
    (All-weaker (λ y. test y ≡ true → 0 < count_by test xs) (λ y. test y ≡ true → 0 < count_by test (x ∷ xs)) (λ y f h. let some : 0 < count_by test xs = f h in omega (arith, some, count_cons test x xs)) xs (each_counts test xs))

builds_where : (c : Calendar) (x : Callback) → ((e : EventId) → is_build_of e x ≡ true → is_condition c e ≡ true) → builds_condition c x ≡ true
builds_where c (callback.Build e) h = h e (is_same-self e)
builds_where c _ h = refl

needed : (b : Bool) → 0 < one_if b → b ≡ true
needed true h = refl
needed false h = absurd (omega (arith, h))

-- each build that is registered is a condition's
registered_builds : (c : Calendar) (k : Control) → ConditionsBasis c k → AllPass (λ r. builds_condition c r.callback) c.registered
registered_builds c k h = λ i r below.
    let x : Callback = (get_or c.registered i r).callback in
    builds_where c x (λ e is.
    let some : 0 < count_by (λ q. is_build_of e q.callback) c.registered = each_counts (λ q. is_build_of e q.callback) c.registered i r below is in
    (and_parts (is_condition c e) (not (is_processed c e)) (and_parts (is_condition c e && not (is_processed c e)) (not (is_empty (members_of c e))) (needed (needs_build c e) (omega (arith, some, h.builds e)))).0).0)

pub beside_popped : {B : Type 0} (u : Until) (x : Entry) (s : State B) → ConditionsBasis (calendar s) s.control → FactsBeside u s →
    FactsBeside u (pop_entry x s)
beside_popped {B} u x s l h =
    let c : Calendar = calendar s in
    let P : Callback → Type 0 = λ y. builds_condition c y ≡ true in
    let at : Registration → Bool = λ r. is_same r.event x.event in
    let Q : Registration → Type 0 = λ r. stops_well u c r.event r.callback ≡ true in
    facts_with u s (pop_entry x s) (follows_popped s.facilities.waiters (origin_of u s) x c (follows_facts u s h)) h.apart (λ n is. absurd (false≢true is))
    (All-map P (λ r. r.callback) (filter at c.registered) (All-filter at (λ r. P r.callback) c.registered (registered_builds c s.control l)))
    (λ n of. All-map (λ y. stops_well u c n y ≡ true) (λ r. r.callback) (filter at c.registered) (λ i r below.
    let z : Registration = get_or (filter at c.registered) i r in
    let same : z.event ≡ n = is_same-yes z.event x.event (filter_passes at c.registered i r below) ∙ is_same-yes x.event n of in
    subst (λ m. stops_well u c m z.callback ≡ true) same (All-filter at Q c.registered h.stops.registered i r below)))

-- ---- a process is made from outside

beside_process : {B : Type 0} (u : Until) (g : Plan B) (k : ℕ) (args : List ℤ) (s : State B) → FactsBeside u s → FactsBeside u (make_process g k args s)
beside_process u g k args s h =
    facts_after u s (make_process g k args s) h (record {
      comes = comes_process (origin_of u s) s.control g k args s (comes_facts u s h);
      told = λ n is. (old_process (calendar s)).cancelled n ∙ not-true (event_at (calendar s) n).cancelled (h.told n is);
    })

-- a value comes in by a port
pub beside_arrived : {B : Type 0} (u : Until) (g : Plan B) (port : ℕ) (value : ℤ) (s : State B) → FactsBeside u s → FactsBeside u (arrive g port value s)
beside_arrived u g port value s h =
    let v = beside_process u g (slice_index_or g.setup.ports port 0) (value ∷ []) s h in
    record { apart = v.apart; pending = v.pending; cancelled = v.cancelled; told = v.told; kinds = v.kinds; left_builds = v.left_builds; stops = v.stops }

-- ---- the opening state

plain_waits_not : (k m : ℕ) → must_wait (slice_index_or (replicate k (pending_event kind.Plain)) m (pending_event kind.Plain)) ≡ false
plain_waits_not zero m = refl
plain_waits_not (suc k) zero = refl
plain_waits_not (suc k) (suc m) = plain_waits_not k m

first_waits_not : (named m : ℕ) → must_wait (slice_index_or (event_zero ∷ replicate named (pending_event kind.Plain)) m (pending_event kind.Plain)) ≡ false
first_waits_not named zero = refl
first_waits_not named (suc m) = plain_waits_not named m

beside_started : {B : Type 0} (u : Until) (g : Plan B) (xs : List Start) (s : State B) → FactsBeside u s → FactsBeside u (fold (start_process g) s xs)
beside_started u g [] s h = h
beside_started u g (x ∷ xs) s h = beside_started u g xs (start_process g s x) (beside_process u g x.kind x.args s h)

-- an event that may stop the run is to stop it
stops_at : {B : Type 0} (u : Until) (e : EventId) (s : State B) → may_stop u (calendar s) e ≡ true → FactsBeside u s →
    FactsBeside u (on_events (register e callback.Stop) s)
stops_at u e s may h =
    let c : Calendar = calendar s in
    record {
      apart = h.apart;
      pending = h.pending;
      cancelled = h.cancelled;
      told = h.told;
      kinds = h.kinds;
      left_builds = h.left_builds;
      stops = record { registered = All-push (λ r. stops_well u c r.event r.callback ≡ true) c.registered (record { event = e; callback = callback.Stop }) h.stops.registered may; calling = h.stops.calling };
    }

beside_stop : {B : Type 0} (u : Until) (s : State B) → s.control ≡ Idle → FactsBeside u s → FactsBeside u (on_events (set_stop u) s)
beside_stop until.Never s idle h = h
beside_stop (until.Event e) s idle h = stops_at (until.Event e) e s (or_right (is_stop_kind (kind_at (calendar s) e)) (is_same e e) (is_same-self e)) h
beside_stop {B} (until.At time) s idle h =
    let u : Until = until.At time in
    let c : Calendar = calendar s in
    let ws : List Waiter = s.facilities.waiters in
    let n : EventId = next_event c in
    let made : Calendar = make kind.Stop c in
    let d : Calendar = schedule n (outcome.Ok (pos 0)) urgent time made in
    let t : State B = on_events (λ a. d) s in
    let new : event_at made n ≡ pending_event kind.Stop = make-new kind.Stop c in
    let v : Follows ws (origin_of u s) d = follows_scheduled ws (origin_of u s) n (outcome.Ok (pos 0)) urgent time made (ap (λ (x : EventOf). x.cancelled) new) (follows_made ws (origin_of u s) kind.Stop c refl refl (follows_facts u s h)) in
    let facts : FactsBeside u t = facts_after u s t h (record {
      comes = record { follows = v; calls = calls_itself s.control; apart = h.apart };
      told = λ m is. absurd (false≢true (ap (λ (k : Control). is_told_made k m) (sym idle) ∙ is));
    }) in
    let kind_is : is_stop_kind (kind_at d n) ≡ true = change_event-keeps (λ x. is_stop_kind x.kind) n n (λ x. record x { outcome = Some (outcome.Ok (pos 0)) }) made (λ x. refl) ∙ ap (λ (x : EventOf). is_stop_kind x.kind) new in
    stops_at u n t (or_left (is_stop_kind (kind_at d n)) false kind_is) facts

pub beside_opening : {B : Type 0} (g : Plan B) → FactsBeside g.setup.until (opening g)
beside_opening {B} g =
    let u : Until = g.setup.until in
    let c : Calendar = first_calendar g.setup.events in
    let plain : (P : EventOf → Type 0) → P event_zero → P (pending_event kind.Plain) → All P c.events = λ P zero p. All-cons P event_zero (replicate g.setup.events (pending_event kind.Plain)) zero (All-replicate P g.setup.events (pending_event kind.Plain) p) in
    let waits : (e : EventId) → must_wait (event_at c e) ≡ false = λ e. first_waits_not g.setup.events e.0 in
    let blank : FactsBeside u (blank_state g) = record {
      apart = λ i j d ordered below. absurd (omega (arith, below));
      pending = λ e must. absurd (both_ways (must_wait (event_at c e)) (waits e) must);
      cancelled = plain (λ x. is_cancelled_well x ≡ true) refl refl;
      told = λ e is. absurd (false≢true is);
      kinds = plain IsConditionByKind refl refl;
      left_builds = All-nil (λ x. builds_condition c x ≡ true);
      stops = record { registered = All-nil (λ r. stops_well u c r.event r.callback ≡ true); calling = λ e of. absurd (false≢true of) };
    } in
    let s : State B = fold (start_process g) (blank_state g) g.setup.starts in
    beside_stop u s (starts_open g).idle (beside_started u g g.setup.starts (blank_state g) blank)

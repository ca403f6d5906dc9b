-- Each unit serves each request and each put once, and lets tries be only at resources that there are.
use Rattle.std.proofs.Common.{◌≡◌, ℕ, ◌+◌, ◌<◌, ℤ, pos, Bool, true, ◌&&◌, not, length, List, [], ◌∷◌, Option, Some, None, refl, sym, ap, subst, ◌∙◌, arith}
use Rattle.std.specs.Prelude.{All, get_or, fold, nat_lt, filter, reverse, find}
use Rattle.std.specs.List.{AllPass}
use Rattle.std.proofs.lemmas.Bool.{and_parts, lt-ltb, ltb-true}
use Rattle.std.proofs.lemmas.Option.{same_Some, none-some}
use Rattle.std.proofs.lemmas.List.Elements.{All-nil, All-head, All-tail, All-filter, All-weaker}
use Rattle.std.proofs.lemmas.List.Sorted.{All-permutation, IsPermutation-reverse}
use Rattle.sim_types.specs.declared.event.EventId.{EventId}
use Rattle.sim_types.specs.declared.event.ProcId.{ProcId}
use Rattle.sim_types.specs.declared.event.EventKind.TheVariants as kind
use Rattle.sim_types.specs.declared.event.Outcome.{Outcome}
use Rattle.sim_types.specs.declared.event.Outcome.TheVariants as outcome
use Rattle.sim_types.specs.declared.event.Throw.{Throw}
use Rattle.sim_types.specs.declared.event.Callback.{Callback}
use Rattle.sim_types.specs.declared.event.Callback.TheVariants as callback
use Rattle.sim_types.specs.declared.event.Signal.{Signal}
use Rattle.sim_types.specs.declared.event.Signal.TheVariants as signal
use Rattle.sim_types.specs.declared.event.Entry.{Entry}
use Rattle.sim_types.specs.declared.op.Op.{Op}
use Rattle.sim_types.specs.declared.op.Op.TheVariants as op
use Rattle.sim_types.specs.declared.line.End.TheVariants as end
use Rattle.sim_types.specs.declared.setup.Resource.{Resource}
use Rattle.sim_types.specs.declared.setup.ResourceKind.{ResourceKind}
use Rattle.sim_types.specs.declared.setup.Start.{Start}
use Rattle.sim_machine.specs.State.{AllOrAny, Every, Either, Calendar, Slot, Give, Take, Facilities, OpenScope, ProcessOf, Control, Idle, Calling, Active, Over, State, Plan}
use Rattle.sim_machine.specs.Events.{is_same, is_process, event_at, is_pending, is_processed, is_resume_of, next_event, register, unregister}
use Rattle.sim_machine.specs.Agenda.{popped}
use Rattle.sim_machine.specs.Triggering.{normal, make, trigger, make_timeout, make_interruption}
use Rattle.sim_machine.specs.Conditions.{is_too_wide, make_condition, check, build}
use Rattle.sim_machine.specs.Users.{resource_at, first_of_list}
use Rattle.sim_machine.specs.Requests.{join, join_request, request_key, make_request, make_put, make_get, is_refused_amount, is_own_victim, cancel}
use Rattle.sim_machine.specs.Scopes.{on_facilities, on_events, close_scope, close_if_any, open_scope, release_if_any, scopes_inwards}
use Rattle.sim_machine.specs.Processes.{is_alive, with_body, change_process, process_at, target_of, tell as told, rest, wait, signal_of, defuse_failed, stop_waiting, strip_resume, make_events_of_process, make_process, end_process, drop_process}
use Rattle.sim_machine.specs.Effect.{calendar, raise, tell_made, trigger_pending, to_another, with_condition, with_move, pass_on, chain}
use Rattle.sim_machine.specs.Steps.{call, control_to, pop_entry, polled, settle, is_crash}
use Rattle.sim_machine.specs.Units.{arrive}
use Rattle.sim_machine.specs.Runs.{blank_state, opening, set_stop, start_process}
use Rattle.sim_machine.specs.Tellings.{Telling, CodeFacts}
use Rattle.sim_machine.specs.MayAsk.{takes_requests, has_resource, may_ask}
use Rattle.sim_machine.specs.BodyLaw.{IsLawfulPoll, scopes_told}
use Rattle.sim_machine.specs.Setups.{FitsCode}
use Rattle.sim_machine.specs.Standing.{left_of}
use Rattle.sim_machine.specs.LawfulWaiting.{is_scope_well}
use Rattle.sim_machine.specs.LawfulTries.{tries_well}
use Rattle.sim_machine_law.proofs.Events.CallbackLaws.{callbacks_of-AllPass, left_of-told, left_of-rest}
use Rattle.sim_lawful.proofs.Drops.DroppedProcess.{stopped_state, scopeless_state}
use Rattle.sim_machine_law.proofs.KeptParts.KeptBodies.{find_has}
use Rattle.sim_machine_law.proofs.KeptParts.KeptTimesCases.{if_cases, timeout_cases, draw_cases, wait_cases}
use Rattle.sim_lawful.proofs.Ledger.KeptTries.{KeepsTries, tries_made, tries_scheduled, tries_registered, tries_unregistered, tries_popped, tries_defused, tries_timeout, tries_interrupted, tries_process, tries_passed, tries_stopping, tries_checked, tries_condition, tries_built}
use Rattle.sim_machine.specs.Lawful.{Lawful}
use Rattle.sim_machine_law.proofs.KeptParts.LawfulBasis.{LawfulBasis, FactsBeside, lawful_from}
use Rattle.sim_lawful.proofs.Waiting.PolledMove.{has_resource_below}
use Rattle.sim_lawful.proofs.Calendars.ReplacedCalendars.{waiter_made}
use Rattle.sim_lawful.proofs.Ledger.ServedOnce.{ServesOnce, ledger_of, serves_on, serves_tried_put, serves_tried_get, serves_joined, serves_released, serves_cancelled, serves_left}
use Rattle.sim_lawful.proofs.Calendars.TakenOut.{All-without_first}

-- what holds of facilities and of the callbacks still to call
pub record ServesWell (n : ℕ) (f : Facilities) (control : Control) : Type 0 where
  pub facilities : ServesOnce n f
  pub calling : AllPass (tries_well n) (left_of control)

-- the same of a state
abbrev pub IsServing : {B : Type 0} → ℕ → State B → Type 0
IsServing n s = ServesWell n s.facilities s.control

-- of a state of this plan
abbrev pub IsServingWith : {B : Type 0} → Plan B → State B → Type 0
IsServingWith g s = IsServing (length g.setup.resources) s

-- the resource of a scope is there
abbrev IsBelow : ℕ → OpenScope → Type 0
IsBelow n x = x.res < n

fourth_part : (a b c d e : Bool) → (a && b && c && d && e) ≡ true → d ≡ true
fourth_part a b c d e h = grind arith

scopes_below : {B : Type 0} (rs : List Resource) (s : State B) → AllPass (is_scope_well rs s) s.scopes → All (IsBelow (length rs)) s.scopes
scopes_below rs s h =
    All-weaker (λ x. is_scope_well rs s x ≡ true) (IsBelow (length rs)) (λ x well. ltb-true x.res (length rs) (fourth_part (is_alive x.process s) _ _ (nat_lt x.res (length rs)) _ well)) s.scopes h

inwards_below : {B : Type 0} (n : ℕ) (p : ProcId) (s : State B) → All (IsBelow n) s.scopes → All (IsBelow n) (scopes_inwards p s)
inwards_below n p s h =
    let own : List OpenScope = filter (λ x. is_process x.process p) s.scopes in
    All-permutation (IsBelow n) own (reverse own) (IsPermutation-reverse own) (All-filter (λ x. is_process x.process p) (IsBelow n) s.scopes h)

first_below : (n : ℕ) (xs : List OpenScope) (z : OpenScope) → All (IsBelow n) xs → first_of_list xs ≡ Some z → z.res < n
first_below n [] z h none = absurd (none-some z none)
first_below n (x ∷ xs) z h some = subst (IsBelow n) (same_Some x z some) (All-head (IsBelow n) x xs h)

stripped_tries : (n : ℕ) (q : ProcId) (k : Control) → AllPass (tries_well n) (left_of k) → AllPass (tries_well n) (left_of (strip_resume q k))
stripped_tries n q Idle h = h
stripped_tries n q (Calling e left) h = All-without_first (λ x. tries_well n x ≡ true) (is_resume_of q) left h
stripped_tries n q (Active e left p x) h = All-without_first (λ y. tries_well n y ≡ true) (is_resume_of q) left h
stripped_tries n q (Over why e left) h = h

-- this change of the facilities keeps them so
abbrev KeepsOnce : ℕ → (Facilities → Facilities) → Type 0
KeepsOnce n made = (f : Facilities) → ServesOnce n f → ServesOnce n (made f)

module _ {B : Type 0} (n : ℕ) where
  -- this change of a state keeps it so
  abbrev KeepsServing : (State B → State B) → Type 0
  KeepsServing does = (s : State B) → IsServing n s → IsServing n (does s)

  -- ---- parts of a state

  served_events : (does : Calendar → Calendar) (s : State B) → KeepsTries n (calendar s) (does (calendar s)) → IsServing n s → IsServing n (on_events does s)
  served_events does s keeps h = record { facilities = serves_on n (does (calendar s)) s.facilities keeps h.facilities; calling = h.calling }

  served_told : (x : Signal) (s : State B) → IsServing n s → IsServing n (told x s)
  served_told x s h = record { facilities = h.facilities; calling = subst (AllPass (tries_well n)) (sym (left_of-told x s.control)) h.calling }

  served_rest : (s : State B) → IsServing n s → IsServing n (rest s)
  served_rest s h = record { facilities = h.facilities; calling = subst (AllPass (tries_well n)) (sym (left_of-rest s.control)) h.calling }

  served_waits : (e : EventId) (p : ProcId) (s : State B) → IsServing n s → IsServing n (wait e p s)
  served_waits e p s h =
      wait_cases (IsServing n) e p s (λ processed. served_told (signal_of (event_at (calendar s) e).outcome) (on_events (defuse_failed e) s) (served_events (defuse_failed e) s (tries_defused n e (calendar s)) h))
      (λ waits. served_rest (change_process p (λ x. record x { target = e }) (on_events (register e (callback.Resume p)) s)) (served_events (register e (callback.Resume p)) s (tries_registered n e (callback.Resume p) (calendar s) refl) h))

  served_process : (g : Plan B) (k : ℕ) (args : List ℤ) (s : State B) → IsServing n s → IsServing n (make_process g k args s)
  served_process g k args s h = served_events make_events_of_process s (tries_process n (calendar s)) h

  -- ---- operations

  module _ (g : Plan B) (res : ℕ) (amount : ℤ) (made : Facilities → Facilities) (after : EventId → State B → State B) where
    served_moves : KeepsOnce n made → ((e : EventId) → KeepsServing (after e)) → KeepsServing (with_move g res amount made after)
    served_moves keeps goes s h =
        if_cases (IsServing n) (is_refused_amount g.setup.resources res amount) (raise 2 s) (after (next_event (calendar s)) (on_facilities made s)) (λ refused. served_told (signal.Raised 2) s h)
        (λ fits. goes (next_event (calendar s)) (on_facilities made s) (record { facilities = keeps s.facilities h.facilities; calling = h.calling }))

  served_to_another : (p q : ProcId) (does : State B → State B) (s : State B) → IsServing n s → IsServing n (does s) → IsServing n (to_another p q does s)
  served_to_another p q does s h done =
      if_cases (IsServing n) (not (is_alive q s)) (raise 4 s) _ (λ ended. served_told (signal.Raised 4) s h)
      (λ lives. if_cases (IsServing n) (is_process q p) (raise 5 s) (told signal.Done (does s)) (λ itself. served_told (signal.Raised 5) s h) (λ other. served_told signal.Done (does s) done))

  served_condition : (sort : AllOrAny) (ms : List EventId) (s : State B) → IsServing n s → IsServing n (with_condition sort ms s)
  served_condition sort ms s h =
      if_cases (IsServing n) (is_too_wide ms (calendar s)) (raise 10 s) _ (λ wide. served_told (signal.Raised 10) s h)
      (λ narrow. served_told (signal.Made (next_event (calendar s))) (on_events (make_condition sort ms) s) (served_events (make_condition sort ms) s (tries_condition n sort ms (calendar s)) h))

  served_triggers : (e : EventId) (x : Outcome) (s : State B) → IsServing n s → IsServing n (trigger_pending e x s)
  served_triggers e x s h =
      if_cases (IsServing n) (is_pending (calendar s) e) _ (raise 3 s) (λ pending. served_told signal.Done (on_events (trigger e x) s) (served_events (trigger e x) s (tries_scheduled n e x normal (pos 0) (calendar s)) h)) (λ turned. served_told (signal.Raised 3) s h)

  served_chains : (e y : EventId) (s : State B) → IsServing n s → IsServing n (chain e y s)
  served_chains e y s h =
      let pass : Calendar → Calendar = pass_on (event_at (calendar s) e).outcome y in
      if_cases (IsServing n) (not (is_processed (calendar s) e)) (told signal.Done (on_events (register e (callback.Trigger y)) s)) _
      (λ later. served_told signal.Done (on_events (register e (callback.Trigger y)) s) (served_events (register e (callback.Trigger y)) s (tries_registered n e (callback.Trigger y) (calendar s) refl) h))
      (λ now. if_cases (IsServing n) (is_pending (calendar s) y) (told signal.Done (on_events pass s)) (raise 3 s)
      (λ pending. served_told signal.Done (on_events pass s) (served_events pass s (tries_passed n (event_at (calendar s) e).outcome y (calendar s)) h)) (λ turned. served_told (signal.Raised 3) s h))

  -- ---- scopes

  served_releases : (o : Option OpenScope) (s : State B) → ((z : OpenScope) → o ≡ Some z → z.res < n) → IsServing n s → IsServing n (release_if_any o s)
  served_releases None s below h = h
  served_releases (Some z) s below h = record { facilities = serves_released n z.res z.request s.facilities (below z refl) h.facilities; calling = h.calling }

  served_closes : (o : Option OpenScope) (s : State B) → ((z : OpenScope) → o ≡ Some z → z.res < n) → IsServing n s → IsServing n (close_if_any o s)
  served_closes None s below h = h
  served_closes (Some z) s below h = record { facilities = serves_left n z.res z.request s.facilities (below z refl) h.facilities; calling = h.calling }

  served_closed : (xs : List OpenScope) (s : State B) → All (IsBelow n) xs → IsServing n s → IsServing n (fold close_scope s xs)
  served_closed [] s below h = h
  served_closed (x ∷ xs) s below h =
      served_closed xs (close_scope s x) (All-tail (IsBelow n) x xs below) (record { facilities = serves_left n x.res x.request s.facilities (All-head (IsBelow n) x xs below) h.facilities; calling = h.calling })

  served_dropped : (q : ProcId) (value : ℤ) (s : State B) → All (IsBelow n) s.scopes → IsServing n s → IsServing n (drop_process q value s)
  served_dropped q value s below h =
      let u : State B = stopped_state q s in
      let v : State B = scopeless_state q s in
      let target : EventId = target_of q (process_at q s) in
      let stopped : IsServing n u = record { facilities = serves_on n (unregister target (is_resume_of q) (calendar s)) s.facilities (tries_unregistered n target (is_resume_of q) (calendar s)) h.facilities; calling = stripped_tries n q s.control h.calling } in
      served_events (trigger (record { 0 = q.0 }) (outcome.Ok value)) v (tries_scheduled n (record { 0 = q.0 }) (outcome.Ok value) normal (pos 0) (calendar v)) (served_closed (scopes_inwards q u) u (inwards_below n q u below) stopped)

-- a resource that a body may name is there
resource_below : (rs others : List Resource) (test : ResourceKind → Bool) (res : ℕ) → rs ≡ others → has_resource others test res ≡ true → res < length rs
resource_below rs others test res same has = has_resource_below rs test res (ap (λ xs. has_resource xs test res) same ∙ has)

module _ (rs : List Resource) (res : ℕ) (below : res < length rs) where
  below_tries : nat_lt res (length rs) ≡ true
  below_tries = lt-ltb res (length rs) below

  serves_put : (amount priority : ℤ) → KeepsOnce (length rs) (make_put rs res amount priority)
  serves_put amount priority f h = serves_tried_put (length rs) rs res (join kind.Put res (Give amount priority) (callback.TryGet res) f) (serves_joined (length rs) kind.Put res (Give amount priority) (callback.TryGet res) f below_tries h)

  serves_get : (least greatest : ℤ) → KeepsOnce (length rs) (make_get rs res least greatest)
  serves_get least greatest f h = serves_tried_get (length rs) rs res (join kind.Get res (Take least greatest) (callback.TryPut res) f) (serves_joined (length rs) kind.Get res (Take least greatest) (callback.TryPut res) f below_tries h)

  serves_request : (p : ProcId) (priority : ℤ) (preempts : Bool) → KeepsOnce (length rs) (make_request rs res p priority preempts)
  serves_request p priority preempts f h =
      let want = Slot p (request_key (resource_at rs res).kind priority preempts f) in
      serves_tried_put (length rs) rs res (join_request rs res p priority preempts f) (serves_joined (length rs) kind.Request res want (callback.TryGet res) f below_tries h)

module _ {B : Type 0} (g : Plan B) where
  -- ---- the units

  -- a process asks for an operation
  module _ (tell : Telling B) (sound : B → Type 0) (f : CodeFacts) (fits : FitsCode f g.setup) (s : State B) (l : LawfulBasis g tell sound s) (h : IsServingWith g s) (p : ProcId) (x : Signal) (y : ProcessOf B) where
    pub served_polled : (asked : Op) (b : B) → IsLawfulPoll f tell y.body x asked b → IsServingWith g (polled g p asked b s)
    served_polled asked b poll = at asked poll.asks
      where
        rs : List Resource
        rs = g.setup.resources

        n : ℕ
        n = length g.setup.resources

        r : State B
        r = with_body p b s

        now : IsServing n r
        now = record { facilities = h.facilities; calling = h.calling }

        scopes : All (IsBelow n) s.scopes
        scopes = scopes_below rs s l.waiting.scopes

        moves : (res : ℕ) → has_resource f.resources (λ k. not (takes_requests k)) res ≡ true → res < n
        moves res asks = resource_below rs f.resources (λ k. not (takes_requests k)) res fits.resources asks

        ends : (o : Outcome) → IsServing n (rest (end_process p o r))
        ends o =
            let own : EventId = record { 0 = p.0 } in
            served_rest n (end_process p o r) (served_events n (trigger own o) (record r { processes = filter (λ v. not (is_process v.id p)) r.processes }) (tries_scheduled n own o normal (pos 0) (calendar s)) (record { facilities = h.facilities; calling = h.calling }))

        at : (o : Op) → may_ask f (tell.own b) (tell.places b) (scopes_told (tell.scopes y.body) (tell.last y.body) x) o ≡ true → IsServing n (polled g p o b s)
        at op.Nop asks = served_told n signal.Done r now
        at (op.Timeout delay value) asks =
            timeout_cases (IsServing n) delay value tell_made r (served_told n (signal.Raised 1) r now) (served_told n (signal.Raised 9) r now)
            (λ a z. served_told n (signal.Made (next_event (calendar s))) (on_events (make_timeout delay value) r) (served_events n (make_timeout delay value) r (tries_timeout n delay value (calendar s)) now))
        at (op.Pause delay value) asks =
            timeout_cases (IsServing n) delay value (λ e t. wait e p t) r (served_told n (signal.Raised 1) r now) (served_told n (signal.Raised 9) r now)
            (λ a z. served_waits n (next_event (calendar s)) p (on_events (make_timeout delay value) r) (served_events n (make_timeout delay value) r (tries_timeout n delay value (calendar s)) now))
        at (op.Wait e) asks = served_waits n e p r now
        at op.NewEvent asks = served_told n (signal.Made (next_event (calendar s))) (on_events (make kind.Plain) r) (served_events n (make kind.Plain) r (tries_made n kind.Plain (calendar s)) now)
        at (op.Succeed e value) asks = served_triggers n e (outcome.Ok value) r now
        at (op.Fail e code) asks = served_triggers n e (outcome.Fail (record { kind = 3; value = code })) r now
        at (op.Spawn k args) asks = served_told n (signal.Made (next_event (calendar s))) (make_process g k args r) (served_process n g k args r now)
        at (op.Interrupt q cause) asks =
            let t : Throw = record { kind = 1; value = cause } in
            served_to_another n p q (on_events (make_interruption q t)) r now (served_events n (make_interruption q t) r (tries_interrupted n q t (calendar s)) now)
        at (op.Drop q value) asks = served_to_another n p q (drop_process q value) r now (served_dropped n q value r scopes now)
        at (op.AllOf members) asks = served_condition n Every members r now
        at (op.AnyOf members) asks = served_condition n Either members r now
        at (op.Has cond e) asks = served_told n _ r now
        at (op.Enter res priority preempts) asks =
            let e : EventId = next_event (calendar s) in
            let below : res < n = resource_below rs f.resources takes_requests res fits.resources (and_parts _ _ asks).1 in
            if_cases (IsServing n) (is_own_victim rs res p priority preempts s.facilities) (raise 5 r) (tell_made e (open_scope p e res (on_facilities (make_request rs res p priority preempts) r))) (λ own. served_told n (signal.Raised 5) r now)
            (λ other. served_told n (signal.Made e) (open_scope p e res (on_facilities (make_request rs res p priority preempts) r)) (record { facilities = serves_request rs res below p priority preempts s.facilities h.facilities; calling = h.calling }))
        at op.Leave asks = served_told n signal.Done (close_if_any (first_of_list (scopes_inwards p r)) r) (served_closes n (first_of_list (scopes_inwards p r)) r (λ z first. first_below n (scopes_inwards p r) z (inwards_below n p r scopes) first) now)
        at (op.Release request) asks =
            let o : Option OpenScope = find (λ z. is_same z.request request) s.scopes in
            served_told n signal.Done (release_if_any o r) (served_releases n o r (λ z found. find_has (IsBelow n) (λ v. is_same v.request request) s.scopes z found scopes) now)
        at (op.Put res amount priority) asks =
            served_moves n g res amount (make_put rs res amount priority) tell_made (serves_put rs res (moves res asks) amount priority) (λ e t w. served_told n (signal.Made e) t w) r now
        at (op.PutWait res amount priority) asks =
            served_moves n g res amount (make_put rs res amount priority) (λ e t. wait e p t) (serves_put rs res (moves res asks) amount priority) (λ e t w. served_waits n e p t w) r now
        at (op.Get res least greatest) asks =
            served_moves n g res least (make_get rs res least greatest) tell_made (serves_get rs res (moves res asks) least greatest) (λ e t w. served_told n (signal.Made e) t w) r now
        at (op.GetWait res least greatest) asks =
            served_moves n g res least (make_get rs res least greatest) (λ e t. wait e p t) (serves_get rs res (moves res asks) least greatest) (λ e t w. served_waits n e p t w) r now
        at (op.Cancel e) asks = served_told n signal.Done (on_facilities (cancel e) r) (record { facilities = serves_cancelled n e s.facilities h.facilities; calling = h.calling })
        at (op.Count res) asks = served_told n _ r now
        at (op.Draw lo hi) asks = draw_cases (IsServing n) g lo hi r (served_told n (signal.Raised 8) r now) (λ some. served_told n _ (record r { drawn = s.drawn + 1 }) (record { facilities = h.facilities; calling = h.calling }))
        at (op.Log value) asks = served_told n signal.Done r now
        at (op.Finish value) asks = ends (outcome.Ok value)
        at (op.Die t) asks = ends (outcome.Fail t)
        at (op.Chain e z) asks = served_chains n e z r now

  -- a callback is called
  module _ (e : EventId) (x : Callback) (left : List Callback) (s : State B) where
    pub served_called : s.control ≡ Calling e (x ∷ left) → IsServingWith g s → IsServingWith g (call g e x left s)
    served_called calling h = at x
      where
        rs : List Resource
        rs = g.setup.resources

        n : ℕ
        n = length g.setup.resources

        c : Calendar
        c = calendar s

        later : AllPass (tries_well n) left
        later = All-tail (λ y. tries_well n y ≡ true) x left (subst (λ k. AllPass (tries_well n) (left_of k)) calling h.calling)

        changed : (d : Calendar) → KeepsTries n c d → ServesOnce n (record s.facilities { calendar = d })
        changed d keeps = serves_on n d s.facilities keeps h.facilities

        at : (y : Callback) → IsServing n (call g e y left s)
        at (callback.Resume p) = record { facilities = changed (defuse_failed e c) (tries_defused n e c); calling = later }
        at (callback.Strike p) =
            let target : EventId = target_of p (process_at p s) in
            if_cases (IsServing n) (is_alive p s) (control_to (Active e left p (signal_of (event_at c e).outcome)) (stop_waiting p s)) (control_to (Calling e left) s)
            (λ lives. record { facilities = changed (unregister target (is_resume_of p) c) (tries_unregistered n target (is_resume_of p) c); calling = later })
            (λ ended. record { facilities = h.facilities; calling = later })
        at (callback.Check cond) = record { facilities = changed (check cond e c) (tries_checked n cond e c); calling = later }
        at (callback.Build cond) = record { facilities = changed (build cond c) (tries_built n cond c); calling = later }
        at (callback.TryPut res) = record { facilities = serves_tried_put n rs res s.facilities h.facilities; calling = later }
        at (callback.TryGet res) = record { facilities = serves_tried_get n rs res s.facilities h.facilities; calling = later }
        at callback.Stop = record { facilities = h.facilities; calling = later }
        at (callback.Trigger y) = record { facilities = changed (pass_on (event_at c e).outcome y c) (tries_passed n (event_at c e).outcome y c); calling = later }

  -- a value comes in by a port
  pub served_arrived : (port : ℕ) (value : ℤ) (s : State B) → IsServingWith g s → IsServingWith g (arrive g port value s)
  served_arrived port value s h = record { facilities = serves_on (length g.setup.resources) (make_events_of_process (calendar s)) s.facilities (tries_process (length g.setup.resources) (calendar s)) h.facilities; calling = h.calling }

  -- ---- the opening state

  started_serving : (xs : List Start) (s : State B) → IsServingWith g s → IsServingWith g (fold (start_process g) s xs)
  started_serving [] s h = h
  started_serving (x ∷ xs) s h = started_serving xs (start_process g s x) (served_process (length g.setup.resources) g x.kind x.args s h)

  pub served_opening : IsServingWith g (opening g)
  served_opening =
      let n : ℕ = length g.setup.resources in
      let blank : IsServing n (blank_state g) = record {
        facilities = record {
          waiting = λ i j d ordered below. absurd (omega (arith, below));
          may = λ i d below. absurd (omega (arith, below));
          once = λ i j d ordered below. absurd (omega (arith, below));
          made = λ i d below. absurd (omega (arith, below));
          tries = λ i d below. absurd (omega (arith, below));
        };
        calling = λ i d below. absurd (omega (arith, below));
      } in
      let s : State B = fold (start_process g) (blank_state g) g.setup.starts in
      served_events n (set_stop g.setup.until) s (tries_stopping n g.setup.until (calendar s)) (started_serving g.setup.starts (blank_state g) blank)

module _ {B : Type 0} (n : ℕ) where
  -- an entry is popped
  pub served_popped : (x : Entry) (s : State B) → IsServing n s → IsServing n (pop_entry x s)
  served_popped x s h =
      record {
        facilities = serves_on n (popped x (calendar s)) s.facilities (tries_popped n x (calendar s)) h.facilities;
        calling = callbacks_of-AllPass (λ e. tries_well n) x.event (calendar s) h.facilities.tries;
      }

  -- an event is settled
  pub served_settled : (e : EventId) (s : State B) → IsServing n s → IsServing n (settle e s)
  served_settled e s h =
      record {
        facilities = h.facilities;
        calling = if_cases (λ k. AllPass (tries_well n) (left_of k)) (is_crash e s) (Over end.Crash e []) Idle (λ crash. All-nil (λ y. tries_well n y ≡ true)) (λ done. All-nil (λ y. tries_well n y ≡ true));
      }

module _ {B : Type 0} (g : Plan B) (tell : Telling B) (sound : B → Type 0) (s : State B) where
  -- a lawful state has all that is needed for its next unit
  pub serving_of : Lawful g tell sound s → IsServingWith g s
  serving_of l =
      record {
        facilities = record {
          waiting = l.waiting.once;
          may = λ k w below. record { there = waiter_made (calendar s) (get_or s.facilities.waiters k w) (l.waiting.waiters k w below); unserved = l.ledger.apart k w below };
          once = l.ledger.once;
          made = l.ledger.made;
          tries = l.tries.registered;
        };
        calling = l.tries.calling;
      }

  -- and it is lawful if the other parts are
  pub lawful_serving : LawfulBasis g tell sound s → FactsBeside g.setup.until s → IsServingWith g s → Lawful g tell sound s
  lawful_serving l beside h =
      lawful_from g tell sound s l beside (record { registered = h.facilities.tries; calling = h.calling }) (ledger_of (length g.setup.resources) s.facilities h.facilities)

-- A process that asks for a request keeps the state lawful: the request is made and waits in a scope that is opened for it,
-- and its queue is tried; or it is refused.
use Rattle.std.proofs.Common.{◌≡◌, ◌≢◌, ℕ, ◌+◌, ◌<◌, ◌≤◌, ℤ, Bool, true, false, ◌&&◌, List, [], ◌∷◌, ◌++◌, length, length-append, Option, refl, sym, subst, ap, ◌∙◌, arith, if◌then◌else◌, map, filter, All, append-nil}
use Rattle.std.specs.Prelude.{nat_lt, slice_index_or}
use Rattle.std.proofs.lemmas.Bool.{and_parts, and_from, both_ways, ne_eqb, lt-ltb, ltb-true}
use Rattle.std.proofs.lemmas.List.Elements.{All-weaker, All-push, All-map}
use Rattle.std.proofs.lemmas.List.Quantifiers.{all_pairs_push}
use Rattle.sim_types.specs.declared.event.EventId.{EventId}
use Rattle.sim_types.specs.declared.event.ProcId.{ProcId}
use Rattle.sim_types.specs.declared.event.RequestKey.{RequestKey}
use Rattle.sim_types.specs.declared.event.Callback.{Callback}
use Rattle.sim_types.specs.declared.event.Signal.{Signal}
use Rattle.sim_types.specs.declared.event.EventKind.TheVariants as kind
use Rattle.sim_types.specs.declared.event.Callback.TheVariants as callback
use Rattle.sim_types.specs.declared.event.Signal.TheVariants as signal
use Rattle.sim_types.specs.declared.op.Op.{Op}
use Rattle.sim_types.specs.declared.op.Op.TheVariants as op
use Rattle.sim_types.specs.declared.setup.Resource.{Resource}
use Rattle.sim_machine.specs.State.{EventOf, Calendar, Slot, Waiter, User, OpenScope, ProcessOf, Control, Active, State, Plan}
use Rattle.sim_machine.specs.Events.{is_same, is_process, next_event}
use Rattle.sim_machine.specs.Users.{resource_at, users}
use Rattle.sim_machine.specs.Requests.{request_key, make_request, is_own_victim}
use Rattle.sim_machine.specs.Scopes.{on_facilities, on_events, open_scope}
use Rattle.sim_machine.specs.Processes.{is_alive, with_body, told_more}
use Rattle.sim_machine.specs.Effect.{calendar, raise, tell_made}
use Rattle.sim_machine.specs.Steps.{polled}
use Rattle.sim_machine.specs.Tellings.{Telling, CodeFacts}
use Rattle.sim_machine.specs.MayAsk.{most_scopes, takes_requests, has_resource}
use Rattle.sim_machine.specs.MayFollow.{may_be_told, is_enter}
use Rattle.sim_machine.specs.BodyLaw.{scopes_told}
use Rattle.sim_machine.specs.Setups.{FitsCode}
use Rattle.sim_machine.specs.Standing.{was_made, kind_at}
use Rattle.sim_machine.specs.LawfulWaiting.{AreOfTwo, waits_well, is_request_kind, request_has_scope, has_scope, is_scope_well, entered_by, requests_of, KnowsItsScopes}
use Rattle.sim_machine.specs.LawfulCapacities.{waits_for_fitting}
use Rattle.sim_machine_law.proofs.Events.EventLaws.{make-new, is_same-self}
use Rattle.sim_machine_law.proofs.KeptParts.KeptTimesCases.{if_cases}
use Rattle.sim_machine_law.proofs.KeptParts.KeptRegistrationsCalendar.{below_made, made_below}
use Rattle.sim_machine_law.proofs.KeptParts.KeptRegistrations.{registrations_told}
use Rattle.sim_machine_law.proofs.KeptParts.KeptProcessesParts.{is_process-swap, is_process-self}
use Rattle.sim_machine_law.proofs.KeptParts.KeptProcessesChanges.{processes-bodies, processes-same, processes-told}
use Rattle.sim_machine_law.proofs.KeptParts.KeptInterruptionsChanges.{interruptions-bodies, interruptions-same, interruptions-told}
use Rattle.sim_machine_law.proofs.KeptParts.KeptWaitingPolls.{entered_other, IsWaitingPoll, own_scopes, alive_changed}
use Rattle.sim_machine_law.proofs.KeptParts.KeptWaitingUnits.{waiting_raise}
use Rattle.sim_machine_law.proofs.KeptParts.KeptConditions.{conditions_told}
use Rattle.sim_machine_law.proofs.KeptParts.KeptBodies.{four_parts, four_from}
use Rattle.sim_machine_law.proofs.KeptParts.KeptBodiesEvents.{grown_itself}
use Rattle.sim_machine_law.proofs.KeptParts.KeptBodiesPolls.{IsBodyPoll, bodies_going_on}
use Rattle.sim_machine_law.proofs.KeptParts.KeptBodiesUnits.{bodies_raise}
use Rattle.sim_machine_law.proofs.KeptParts.KeptChains.{chains_told}
use Rattle.sim_machine_law.proofs.Events.ChangedCalendars.{AsksFor, HasAsked, body_asked, scopes_asked_for}
use Rattle.sim_machine_law.proofs.Processes.ToldScopes.{knows_alone}
use Rattle.sim_lawful.proofs.Polls.ToldAnswers.{fits_made}
use Rattle.sim_lawful.proofs.Facilities.ChangedQueues.{capacities_of_queue}
use Rattle.sim_lawful.proofs.Waiting.TriedWaiters.{lawful_tried_put}
use Rattle.sim_lawful.proofs.Waiting.JoinedQueues.{with_new, lawful_new, new_made, new_waits, waits_for_older, try_get_calls_nobody}
use Rattle.sim_machine_law.proofs.Processes.OpenedScopes.{of_request, scope_more, scope_opened, request_scope_more, requests_more}
use Rattle.sim_lawful.proofs.Waiting.PolledMove.{has_resource_below, has_resource_of}
use Rattle.sim_machine_law.proofs.KeptParts.LawfulBasis.{AreScopesApart, LawfulBasis}

-- ---- it is refused

lawful_refused : {B : Type 0} (g : Plan B) (tell : Telling B) (sound : B → Type 0) (s : State B) (f : CodeFacts)
    (e : EventId) (left : List Callback) (p : ProcId) (x : Signal) (y : ProcessOf B) (b : B) (o : Op) (n : ℕ)
    → HasAsked g tell sound s f e left p x y b o → may_be_told (tell.last b) (signal.Raised n) ≡ true
    → LawfulBasis g tell sound (raise n (with_body p b s))
lawful_refused g tell sound s f e left p x y b o n asked fits =
    let c : Calendar = calendar s in
    let h : LawfulBasis g tell sound s = asked.lawful in
    record {
      times = h.times;
      registrations = registrations_told (signal.Raised n) c s.control h.registrations;
      processes = processes-told g.setup.events (with_body p b s) (signal.Raised n) (processes-bodies g.setup.events s p b h.processes);
      interruptions = interruptions-told (with_body p b s) (signal.Raised n) (interruptions-bodies s p b h.interruptions);
      waiting = waiting_raise g tell s e left p x y b n (scopes_asked_for g tell sound s f e left p x y b o asked);
      capacities = h.capacities;
      conditions = conditions_told (signal.Raised n) c s.control h.conditions;
      bodies = bodies_raise tell sound s e left p x y b n (body_asked g tell sound s f e left p x y b o asked) fits;
      chains = chains_told (signal.Raised n) c s.control h.chains;
    }

-- ---- scopes

-- no scope is open for an event that is yet to be made
scopes_older : {B : Type 0} (rs : List Resource) (s : State B) → All (λ z. is_scope_well rs s z ≡ true) s.scopes
    → All (λ z. of_request (next_event (calendar s)) z ≡ false) s.scopes
scopes_older rs s h =
    let c : Calendar = calendar s in
    All-weaker (λ z. is_scope_well rs s z ≡ true) (λ z. of_request (next_event c) z ≡ false) (λ z w. ne_eqb z.request.0 (length c.events) (λ same. older z w same)) s.scopes h
  where
    older : (z : OpenScope) → is_scope_well rs s z ≡ true → z.request.0 ≡ length (calendar s).events → ⊥
    older z w same =
        let c : Calendar = calendar s in
        let r : EventId = z.request in
        let outer = and_parts (is_alive z.process s && was_made c r && is_request_kind (kind_at c r) && nat_lt z.res (length rs)) (takes_requests (resource_at rs z.res).kind) w in
        let made : r.0 < length c.events = made_below c r (four_parts (is_alive z.process s) (was_made c r) (is_request_kind (kind_at c r)) (nat_lt z.res (length rs)) outer.0).1 in
        omega (arith, made, same)

-- the body that asked to enter is told of its request, and knows of its scopes
knows_entered : {B : Type 0} (g : Plan B) (tell : Telling B) (s t : State B) (e : EventId) (left : List Callback)
    (p : ProcId) (x : Signal) (y : ProcessOf B) (b : B) (r : EventId) (res : ℕ) (z : ProcessOf B)
    → IsWaitingPoll g tell s e left p x y b → is_enter (tell.last b) ≡ true
    → length (scopes_told (tell.scopes y.body) (tell.last y.body) x) < most_scopes
    → t.scopes ≡ s.scopes ++ record { process = p; request = r; res = res } ∷ []
    → t.control ≡ Active e left p (signal.Made r) → KnowsItsScopes tell s z → (v : Bool) → is_process z.id p ≡ v
    → KnowsItsScopes tell t (if v then record z { body = b } else z)
knows_entered g tell s t e left p x y b r res z h enters few opened on w true is =
    let new : OpenScope = record { process = p; request = r; res = res } in
    let more : List EventId = if is_process p z.id then r ∷ [] else [] in
    let own : (requests_of z.id s ≡ scopes_told (tell.scopes y.body) (tell.last y.body) x) × (length (requests_of z.id s) ≤ most_scopes) = own_scopes g tell s e left p x y h.active h.found h.lawful z.id is in
    let all : requests_of z.id t ≡ requests_of z.id s ++ more = ap (λ (xs : List OpenScope). map (λ (a : OpenScope). a.request) (filter (λ (a : OpenScope). is_process a.process z.id) xs)) opened ∙ requests_more s.scopes new z.id in
    let told_of : entered_by t.control z.id (is_enter (tell.last b)) ≡ more = ap (λ (v : Bool). entered_by t.control z.id v) enters ∙ ap (λ (k : Control). entered_by k z.id true) on in
    let known : requests_of z.id s ++ more ≡ tell.scopes b ++ entered_by t.control z.id (is_enter (tell.last b)) = ap (λ (es : List EventId). es ++ more) (own.0 ∙ sym h.scopes) ∙ ap (λ (es : List EventId). tell.scopes b ++ es) (sym told_of) in
    let count : length (requests_of z.id t) ≡ length (requests_of z.id s) + length more = ap (λ (es : List EventId). length es) all ∙ length-append (requests_of z.id s) more in
    let before : length (requests_of z.id s) < most_scopes = subst (λ (es : List EventId). length es < most_scopes) (sym own.0) few in
    (all ∙ known, omega (arith, count, before, one_at_most (is_process p z.id) r))
  where
    one_at_most : (v : Bool) (r : EventId) → length (if v then r ∷ [] else []) ≤ 1
    one_at_most true r = omega arith
    one_at_most false r = omega arith
knows_entered g tell s t e left p x y b r res z h enters few opened on w false is =
    let new : OpenScope = record { process = p; request = r; res = res } in
    let v : Bool = is_enter (tell.last z.body) in
    let apart : is_process p z.id ≡ false = is_process-swap p z.id ∙ is in
    let all : requests_of z.id t ≡ requests_of z.id s = ap (λ (xs : List OpenScope). map (λ (a : OpenScope). a.request) (filter (λ (a : OpenScope). is_process a.process z.id) xs)) opened ∙ (requests_more s.scopes new z.id ∙ (ap (λ (c : Bool). requests_of z.id s ++ (if c then r ∷ [] else [])) apart ∙ append-nil (requests_of z.id s))) in
    let before : entered_by s.control z.id v ≡ [] = ap (λ (k : Control). entered_by k z.id v) h.active ∙ entered_other e left p x z.id v apart in
    let after : entered_by t.control z.id v ≡ [] = ap (λ (k : Control). entered_by k z.id v) on ∙ entered_other e left p (signal.Made r) z.id v apart in
    let own : requests_of z.id s ≡ tell.scopes z.body = w.0 ∙ (ap (λ (es : List EventId). tell.scopes z.body ++ es) before ∙ append-nil (tell.scopes z.body)) in
    knows_alone tell t z after (all ∙ own) (subst (λ (es : List EventId). length es ≤ most_scopes) (sym all) w.1)

-- ---- the request waits in its scope

-- the state where it waits, before its queue is tried
abbrev entered : {B : Type 0} → ProcId → B → ℕ → RequestKey → State B → State B
entered p b res key s =
    let r = next_event (calendar s) in
    tell_made r (with_body p b (open_scope p r res (record s {
      facilities = record s.facilities {
        calendar = with_new kind.Request (callback.TryGet res) (calendar s);
        waiters = s.facilities.waiters ++ record { event = r; res = res; want = Slot p key } ∷ [];
      };
    })))

lawful_entered : {B : Type 0} (g : Plan B) (tell : Telling B) (sound : B → Type 0) (s : State B) (f : CodeFacts)
    (e : EventId) (left : List Callback) (p : ProcId) (x : Signal) (y : ProcessOf B) (b : B) (res : ℕ) (priority : ℤ)
    (preempts : Bool) (key : RequestKey) → FitsCode f g.setup
    → HasAsked g tell sound s f e left p x y b (op.Enter res priority preempts)
    → LawfulBasis g tell sound (entered p b res key s)
lawful_entered {B} g tell sound s f e left p x y b res priority preempts key fits asked =
    let o : Op = op.Enter res priority preempts in
    let rs : List Resource = g.setup.resources in
    let l : LawfulBasis g tell sound s = asked.lawful in
    let c : Calendar = calendar s in
    let r : EventId = next_event c in
    let again : Callback = callback.TryGet res in
    let d : Calendar = with_new kind.Request again c in
    let u : State B = on_events (with_new kind.Request again) s in
    let m : LawfulBasis g tell sound u = lawful_new g tell sound s kind.Request again refl (try_get_calls_nobody res) l in
    let t : State B = entered p b res key s in
    let ws : List Waiter = s.facilities.waiters in
    let w : Waiter = record { event = r; res = res; want = Slot p key } in
    let z : OpenScope = record { process = p; request = r; res = res } in
    let before : State B = with_body p b (open_scope p r res (record s { facilities = record s.facilities { calendar = d; waiters = ws ++ w ∷ [] } })) in
    let may = and_parts (nat_lt (length (scopes_told (tell.scopes y.body) (tell.last y.body) x)) most_scopes) (has_resource f.resources takes_requests res) asked.poll.asks in
    let here : has_resource rs takes_requests res ≡ true = ap (λ (xs : List Resource). has_resource xs takes_requests res) fits.resources ∙ may.1 in
    let below : nat_lt res (length rs) ≡ true = lt-ltb res (length rs) (has_resource_below rs takes_requests res here) in
    let takes : takes_requests (resource_at rs res).kind ≡ true = has_resource_of rs takes_requests res here in
    let new = make-new kind.Request c in
    let made : r.0 < length d.events = new_made kind.Request again c in
    let is_request : is_request_kind (kind_at d r) ≡ true = ap (λ (a : EventOf). is_request_kind a.kind) new in
    let older : All (λ v. v.event.0 ≢ r.0) ws = waits_for_older g tell sound s l in
    let poll : IsWaitingPoll g tell s e left p x y b = scopes_asked_for g tell sound s f e left p x y b o asked in
    let body : IsBodyPoll tell sound u e left p x y b = record { active = asked.active; found = asked.found; is_sound = asked.is_sound; own = asked.poll.own; places = asked.poll.places; lawful = m.bodies } in
    let on : t.control ≡ Active e left p (signal.Made r) = ap (told_more (signal.Made r)) asked.active in
    let alive : (q : ProcId) → is_alive q t ≡ is_alive q s = λ q. alive_changed p q (λ n. record n { body = b }) s (λ n. refl) in
    let runs : is_alive p s ≡ true = l.processes.active p (rw asked.active (is_process-self p)) in
    let change : ProcessOf B → ProcessOf B = λ a. if is_process a.id p then record a { body = b } else a in
    record {
      times = m.times;
      registrations = registrations_told (signal.Made r) d s.control m.registrations;
      processes = processes-told g.setup.events before (signal.Made r) (processes-same g.setup.events (with_body p b u) before refl refl refl (processes-bodies g.setup.events u p b m.processes));
      interruptions = interruptions-told before (signal.Made r) (interruptions-same (with_body p b u) before refl refl refl (interruptions-bodies u p b m.interruptions));
      waiting = record {
        waiters = All-push (λ v. waits_well d v ≡ true) ws w m.waiting.waiters (new_waits kind.Request again c w refl refl);
        once = all_pairs_push (λ a v. a.event ≢ v.event) ws w l.waiting.once (All-weaker (λ v. v.event.0 ≢ r.0) (λ v. v.event ≢ r) (λ v h same. h (ap (λ (n : EventId). n.0) same)) ws older);
        requests = All-push (λ v. request_has_scope (s.scopes ++ z ∷ []) v v.want ≡ true) ws w (λ n v at. request_scope_more s.scopes z (slice_index_or ws n v) (slice_index_or ws n v).want (l.waiting.requests n v at)) (scope_opened s.scopes r p res);
        using = λ n. using_more n;
        scopes = All-push (λ a. is_scope_well rs t a ≡ true) s.scopes z
            (All-weaker (λ a. is_scope_well rs u a ≡ true) (λ a. is_scope_well rs t a ≡ true) (λ a h. ap (λ (v : Bool). v && was_made d a.request && is_request_kind (kind_at d a.request) && nat_lt a.res (length rs) && takes_requests (resource_at rs a.res).kind) (alive a.process) ∙ h) s.scopes m.waiting.scopes)
            (and_from (is_alive p t && was_made d r && is_request_kind (kind_at d r) && nat_lt res (length rs)) (takes_requests (resource_at rs res).kind) (four_from (is_alive p t) (was_made d r) (is_request_kind (kind_at d r)) (nat_lt res (length rs)) (alive p ∙ runs) (below_made d r made) is_request below) takes);
        bodies = All-map (KnowsItsScopes tell t) change s.processes (All-weaker (KnowsItsScopes tell s) (λ a. KnowsItsScopes tell t (change a)) (λ a h. knows_entered g tell s t e left p x y b r res a poll (ap is_enter asked.poll.last) (ltb-true (length (scopes_told (tell.scopes y.body) (tell.last y.body) x)) most_scopes may.0) refl on h (is_process a.id p) refl) s.processes l.waiting.bodies);
      };
      capacities = capacities_of_queue rs u.facilities (ws ++ w ∷ []) (All-push (λ v. (nat_lt v.res (length rs) && waits_for_fitting d (resource_at rs v.res) v v.want) ≡ true) ws w m.capacities.waiting
          (and_from (nat_lt res (length rs)) (waits_for_fitting d (resource_at rs res) w (Slot p key)) below (and_from (is_request_kind (kind_at d r)) (takes_requests (resource_at rs res).kind) is_request takes))) m.capacities;
      conditions = conditions_told (signal.Made r) d s.control m.conditions;
      bodies = bodies_going_on tell sound u t e left p x y b (signal.Made r) body refl (grown_itself d) refl (fits_made tell d b o r asked.poll.last refl (ap (λ (a : EventOf). is_request_kind a.kind) new) made (ap (λ (a : EventOf). a.processed) new));
      chains = chains_told (signal.Made r) d s.control m.chains;
    }
  where
    using_more : (n : ℕ)
        → All (λ (v : User). has_scope (s.scopes ++ record { process = p; request = next_event (calendar s); res = res } ∷ []) v.request v.process n ≡ true)
        (users n s.facilities.ledger)
    using_more n =
        let z : OpenScope = record { process = p; request = next_event (calendar s); res = res } in
        let us : List User = users n s.facilities.ledger in
        λ i v at. scope_more s.scopes z (slice_index_or us i v).request (slice_index_or us i v).process n (asked.lawful.waiting.using n i v at)

module _ {B : Type 0} (g : Plan B) (tell : Telling B) (sound : B → Type 0) (s : State B) (f : CodeFacts) (e : EventId) (left : List Callback) (p : ProcId) (x : Signal) (y : ProcessOf B) (b : B) where
  pub lawful-polled_enter : (res : ℕ) (priority : ℤ) (preempts : Bool) → FitsCode f g.setup
      → AsksFor g tell sound s f e left p x y b (op.Enter res priority preempts)
      → LawfulBasis g tell sound (polled g p (op.Enter res priority preempts) b s)
  lawful-polled_enter res priority preempts fits asks =
      let o : Op = op.Enter res priority preempts in
      let rs : List Resource = g.setup.resources in
      let r : State B = with_body p b s in
      let n : EventId = next_event (calendar s) in
      let asked : HasAsked g tell sound s f e left p x y b o = record { active = asks.active; found = asks.found; is_sound = asks.is_sound; lawful = asks.lawful; poll = asks.poll; scopes = asks.poll.scopes } in
      let key : RequestKey = request_key (resource_at rs res).kind priority preempts s.facilities in
      if_cases (LawfulBasis g tell sound) (is_own_victim rs res p priority preempts s.facilities) (raise 5 r) (tell_made n (open_scope p n res (on_facilities (make_request rs res p priority preempts) r)))
      (λ own. lawful_refused g tell sound s f e left p x y b o 5 asked (ap (λ (a : Option Op). may_be_told a (signal.Raised 5)) asks.poll.last))
      (λ other. (lawful_tried_put g tell sound (entered p b res key s) res (lawful_entered g tell sound s f e left p x y b res priority preempts key fits asked)).lawful)

-- and no request has two scopes, where none had before
pub scopes_apart-polled_enter : {B : Type 0} (g : Plan B) (tell : Telling B) (sound : B → Type 0) (s : State B) (p : ProcId)
    (b : B) (res : ℕ) (priority : ℤ) (preempts : Bool) → LawfulBasis g tell sound s → AreScopesApart s
    → AreScopesApart (polled g p (op.Enter res priority preempts) b s)
scopes_apart-polled_enter {B} g tell sound s p b res priority preempts l apart =
    let rs : List Resource = g.setup.resources in
    let r : State B = with_body p b s in
    let n : EventId = next_event (calendar s) in
    let z : OpenScope = record { process = p; request = n; res = res } in
    if_cases (λ (t : State B). AreScopesApart t) (is_own_victim rs res p priority preempts s.facilities) (raise 5 r) (tell_made n (open_scope p n res (on_facilities (make_request rs res p priority preempts) r))) (λ own. apart)
    (λ other. all_pairs_push AreOfTwo s.scopes z apart (All-weaker (λ v. of_request n v ≡ false) (λ v. v.request ≢ n) (λ v h same. both_ways (of_request n v) h (ap (λ (e : EventId). is_same e n) same ∙ is_same-self n)) s.scopes (scopes_older rs s l.waiting.scopes)))

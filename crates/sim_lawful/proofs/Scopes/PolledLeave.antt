-- A process that leaves its innermost scope keeps the state lawful, where no request has two scopes.
use Rattle.std.proofs.Common.{◌≡◌, ◌≢◌, ℕ, ◌<◌, ◌≤◌, Bool, true, false, ◌&&◌, List, [], ◌∷◌, ◌++◌, length, Option, Some, None, refl, sym, subst, ap, ◌∙◌, arith, if◌then◌else◌, filter, map, reverse, All, append-nil}
use Rattle.std.specs.Prelude.{◌==◌, nat_lt, slice_index_or, is_none}
use Rattle.std.specs.List.{list_any}
use Rattle.std.proofs.lemmas.Bool.{false≢true, and_parts, ltb-true, eqb-true}
use Rattle.std.proofs.lemmas.List.Elements.{All-weaker, All-filter, All-map, filter_passes}
use Rattle.std.proofs.lemmas.List.{reverse-append}
use Rattle.std.proofs.lemmas.List.Kept.{AllPairs-filter}
use Rattle.sim_types.specs.declared.event.EventId.{EventId}
use Rattle.sim_types.specs.declared.event.ProcId.{ProcId}
use Rattle.sim_types.specs.declared.event.Callback.{Callback}
use Rattle.sim_types.specs.declared.event.Signal.{Signal}
use Rattle.sim_types.specs.declared.event.Signal.TheVariants as signal
use Rattle.sim_types.specs.declared.op.Op.{Op}
use Rattle.sim_types.specs.declared.op.Op.TheVariants as op
use Rattle.sim_types.specs.declared.setup.Resource.{Resource}
use Rattle.sim_machine.specs.State.{Calendar, User, OpenScope, Facilities, ProcessOf, Control, Active, State, Plan}
use Rattle.sim_machine.specs.Events.{is_same, is_process}
use Rattle.sim_machine.specs.Users.{resource_at, users, first_of_list}
use Rattle.sim_machine.specs.Requests.{make_release, cancel, leave}
use Rattle.sim_machine.specs.Scopes.{on_facilities, scopes_inwards, close_scope, close_if_any}
use Rattle.sim_machine.specs.Processes.{process_at, is_alive, with_body, told_more, tell as told}
use Rattle.sim_machine.specs.Effect.{calendar}
use Rattle.sim_machine.specs.Steps.{polled}
use Rattle.sim_machine.specs.Tellings.{Telling, CodeFacts}
use Rattle.sim_machine.specs.MayAsk.{most_scopes, takes_requests}
use Rattle.sim_machine.specs.MayFollow.{may_be_told, is_enter}
use Rattle.sim_machine.specs.BodyLaw.{IsLawfulPoll, scopes_told, without_last}
use Rattle.sim_machine.specs.Standing.{was_made, kind_at}
use Rattle.sim_machine.specs.LawfulWaiting.{AreOfTwo, is_request_kind, has_scope, is_scope_well, entered_by, requests_of, KnowsItsScopes}
use Rattle.sim_machine_law.proofs.Events.EventLaws.{same_event, is_same-yes}
use Rattle.sim_machine_law.proofs.KeptParts.KeptRegistrations.{registrations_told}
use Rattle.sim_machine_law.proofs.KeptParts.KeptProcessesParts.{is_process-swap, is_process-yes, is_process-self}
use Rattle.sim_machine_law.proofs.KeptParts.KeptProcessesChanges.{processes-bodies, processes-same, processes-told}
use Rattle.sim_machine_law.proofs.KeptParts.KeptInterruptionsChanges.{interruptions-bodies, interruptions-same, interruptions-told}
use Rattle.sim_machine_law.proofs.KeptParts.KeptWaitingPolls.{entered_other, own_scopes, alive_changed}
use Rattle.sim_machine_law.proofs.KeptParts.KeptConditions.{conditions_told}
use Rattle.sim_machine_law.proofs.KeptParts.KeptBodiesEvents.{grown_itself}
use Rattle.sim_machine_law.proofs.KeptParts.KeptBodiesPolls.{IsBodyPoll, bodies_going_on}
use Rattle.sim_machine_law.proofs.KeptParts.KeptChains.{chains_told}
use Rattle.sim_machine_law.proofs.Processes.ToldScopes.{knows_alone}
use Rattle.sim_machine_law.proofs.Ledger.TriedQueues.{IsOneOf, one_has, all_one_of}
use Rattle.sim_lawful.proofs.Waiting.PolledCancel.{any_gives, lawful_cancelled}
use Rattle.sim_lawful.proofs.Waiting.PolledRelease.{IsReleasedWell, lawful_released}
use Rattle.sim_machine_law.proofs.Processes.OpenedScopes.{requests_in, is_that_scope}
use Rattle.sim_machine_law.proofs.Processes.LeftScopes.{keeps, request_scope_less, scope_less, one_of_filter, same_scope, innermost_one, requests_elsewhere, requests_left}
use Rattle.sim_machine_law.proofs.KeptParts.LawfulBasis.{AreScopesApart, LawfulBasis, WaitingBasis}
use Rattle.sim_machine_law.proofs.Events.ChangedCalendars.{AsksFor}

length_without : (es : List EventId) → length (without_last es) ≤ length es
length_without [] = omega arith
length_without (e ∷ []) = omega arith
length_without (e ∷ f ∷ es) = omega (arith, length_without (f ∷ es))

first_there : {X : Type 0} (xs : List X) (y : X) → first_of_list (xs ++ y ∷ []) ≡ None → ⊥
first_there [] y h = false≢true (ap (λ o. is_none o) h)
first_there (x ∷ xs) y h = false≢true (ap (λ o. is_none o) h)

-- ---- the request is left

-- its scope is the one that its user stands in, so it uses no other resource
uses_there : {B : Type 0} (g : Plan B) (tell : Telling B) (sound : B → Type 0) (s : State B) (z : OpenScope) (n : ℕ)
    → LawfulBasis g tell sound s → AreScopesApart s → IsOneOf s.scopes z
    → All (λ (u : User). u.request ≡ z.request → n ≡ z.res) (users n s.facilities.ledger)
uses_there g tell sound s z n l apart one =
    All-weaker (λ (u : User). has_scope s.scopes u.request u.process n ≡ true) (λ (u : User). u.request ≡ z.request → n ≡ z.res) (λ u h same. at u same h) (users n s.facilities.ledger) (l.waiting.using n)
  where
    here : (u : User) (x : OpenScope) → u.request ≡ z.request → IsOneOf s.scopes x → is_that_scope u.request u.process n x ≡ true → n ≡ z.res
    here u x same at that =
        let parts = and_parts (is_same x.request u.request && is_process x.process u.process) (x.res == n) that in
        let of : x.request ≡ u.request = is_same-yes x.request u.request (and_parts (is_same x.request u.request) (is_process x.process u.process) parts.0).0 in
        sym (eqb-true x.res n parts.1) ∙ ap (λ (v : OpenScope). v.res) (same_scope s.scopes x z apart at one (of ∙ same))

    at : (u : User) → u.request ≡ z.request → list_any (is_that_scope u.request u.process n) s.scopes ≡ true → n ≡ z.res
    at u same some = any_gives (IsOneOf s.scopes) (n ≡ z.res) (is_that_scope u.request u.process n) s.scopes (λ x one that. here u x same one that) (all_one_of s.scopes) some

-- the facilities once it was left: nothing waits for it, and it is no user
pub record IsLeftWell {B : Type 0} (g : Plan B) (tell : Telling B) (sound : B → Type 0) (s : State B) (r : EventId) (f : Facilities) : Type 0 where
  pub lawful : LawfulBasis g tell sound (record s { facilities = f })
  pub waits_not : All (λ w. w.event.0 ≢ r.0) f.waiters
  pub uses_not : (n : ℕ) → All (λ (u : User). u.request ≢ r) (users n f.ledger)

pub left_well : {B : Type 0} (g : Plan B) (tell : Telling B) (sound : B → Type 0) (s : State B) (z : OpenScope)
    → LawfulBasis g tell sound s → AreScopesApart s → IsOneOf s.scopes z
    → IsLeftWell g tell sound s z.request (leave z.res z.request s.facilities)
left_well {B} g tell sound s z l apart one =
    let r : EventId = z.request in
    let c = lawful_cancelled g tell sound s r l in
    let t : State B = on_facilities (cancel r) s in
    let k : IsReleasedWell g tell sound t z.res r (make_release z.res r t.facilities) = lawful_released g tell sound t z.res r c.lawful in
    record {
      lawful = k.lawful;
      waits_not = subst (All (λ w. w.event.0 ≢ r.0)) (sym k.waiters) c.alone;
      uses_not = λ n. k.uses_not n (uses_there g tell sound t z n c.lawful apart one);
    }

-- ---- the scope is closed

-- what the processes know of their scopes
knows_left : {B : Type 0} (g : Plan B) (tell : Telling B) (s t : State B) (e : EventId) (left : List Callback) (p : ProcId)
    (x : Signal) (y : ProcessOf B) (b : B) (z : OpenScope) (a : ProcessOf B) → s.control ≡ Active e left p x
    → process_at p s ≡ Some y → WaitingBasis g tell s → AreScopesApart s → first_of_list (scopes_inwards p s) ≡ Some z
    → z.process ≡ p → tell.scopes b ≡ without_last (scopes_told (tell.scopes y.body) (tell.last y.body) x)
    → t.scopes ≡ filter (keeps z.request) s.scopes → t.control ≡ Active e left p signal.Done → KnowsItsScopes tell s a
    → (v : Bool) → is_process a.id p ≡ v → KnowsItsScopes tell t (if v then record a { body = b } else a)
knows_left g tell s t e left p x y b z a active found h apart first of asked closed on w true is =
    let same : a.id ≡ p = is_process-yes a.id p is in
    let own : (requests_of a.id s ≡ scopes_told (tell.scopes y.body) (tell.last y.body) x) × (length (requests_of a.id s) ≤ most_scopes) = own_scopes g tell s e left p x y active found h a.id is in
    let mine : requests_of a.id t ≡ without_last (requests_of a.id s) = ap (λ (xs : List OpenScope). requests_in a.id xs) closed ∙ subst (λ (q : ProcId). requests_in q (filter (keeps z.request) s.scopes) ≡ without_last (requests_in q s.scopes)) (sym same) (requests_left s.scopes z p (AllPairs-filter AreOfTwo (λ v. is_process v.process p) s.scopes apart) first) in
    let none : entered_by t.control a.id (is_enter (tell.last b)) ≡ [] = ap (λ (k : Control). entered_by k a.id (is_enter (tell.last b))) on ∙ entered_done e left p a.id (is_enter (tell.last b)) in
    knows_alone tell t (record a { body = b }) none (mine ∙ (ap without_last own.0 ∙ sym asked)) (subst (λ (es : List EventId). length es ≤ most_scopes) (sym mine) (shorter (requests_of a.id s) own.1))
  where
    entered_done : (e : EventId) (left : List Callback) (p q : ProcId) (v : Bool) → entered_by (Active e left p signal.Done) q v ≡ []
    entered_done e left p q v = refl

    shorter : (es : List EventId) → length es ≤ most_scopes → length (without_last es) ≤ most_scopes
    shorter es few = omega (arith, few, length_without es)
knows_left g tell s t e left p x y b z a active found h apart first of asked closed on w false is =
    let v : Bool = is_enter (tell.last a.body) in
    let other : is_process p a.id ≡ false = is_process-swap p a.id ∙ is in
    let one : IsOneOf s.scopes z = one_of_filter (λ n. is_process n.process p) s.scopes z (innermost_one (filter (λ n. is_process n.process p) s.scopes) z first) in
    let all : requests_of a.id t ≡ requests_of a.id s = ap (λ (xs : List OpenScope). requests_in a.id xs) closed ∙ requests_elsewhere s.scopes z a.id apart one (ap (λ (q : ProcId). is_process q a.id) of ∙ other) in
    let before : entered_by s.control a.id v ≡ [] = ap (λ (k : Control). entered_by k a.id v) active ∙ entered_other e left p x a.id v other in
    let after : entered_by t.control a.id v ≡ [] = ap (λ (k : Control). entered_by k a.id v) on ∙ entered_other e left p signal.Done a.id v other in
    let own : requests_of a.id s ≡ tell.scopes a.body = w.0 ∙ (ap (λ (es : List EventId). tell.scopes a.body ++ es) before ∙ append-nil (tell.scopes a.body)) in
    knows_alone tell t a after (all ∙ own) (subst (λ (es : List EventId). length es ≤ most_scopes) (sym all) w.1)

lawful_closed : {B : Type 0} (g : Plan B) (tell : Telling B) (sound : B → Type 0) (s : State B) (f : CodeFacts) (e : EventId)
    (left : List Callback) (p : ProcId) (x : Signal) (y : ProcessOf B) (b : B) (z : OpenScope) → AreScopesApart s
    → s.control ≡ Active e left p x → process_at p s ≡ Some y → sound b → LawfulBasis g tell sound s
    → IsLawfulPoll f tell y.body x op.Leave b → first_of_list (scopes_inwards p s) ≡ Some z
    → LawfulBasis g tell sound (told signal.Done (close_scope (with_body p b s) z))
lawful_closed {B} g tell sound s f e left p x y b z apart active found sb l poll first =
    let rs : List Resource = g.setup.resources in
    let r : EventId = z.request in
    let own : List OpenScope = filter (λ n. is_process n.process p) s.scopes in
    let in_own : IsOneOf own z = innermost_one own z first in
    let one : IsOneOf s.scopes z = one_of_filter (λ n. is_process n.process p) s.scopes z in_own in
    let of : z.process ≡ p = is_process-yes z.process p (one_has (λ n. is_process n.process p ≡ true) own z (filter_passes (λ n. is_process n.process p) s.scopes) in_own) in
    let k : IsLeftWell g tell sound s r (leave z.res r s.facilities) = left_well g tell sound s z l apart one in
    let u : State B = on_facilities (leave z.res r) s in
    let m : LawfulBasis g tell sound u = k.lawful in
    let d : Calendar = calendar u in
    let before : State B = close_scope (with_body p b s) z in
    let t : State B = told signal.Done before in
    let body : IsBodyPoll tell sound u e left p x y b = record { active = active; found = found; is_sound = sb; own = poll.own; places = poll.places; lawful = m.bodies } in
    let on : t.control ≡ Active e left p signal.Done = ap (told_more signal.Done) active in
    let alive : (q : ProcId) → is_alive q t ≡ is_alive q s = λ q. alive_changed p q (λ n. record n { body = b }) s (λ n. refl) in
    let change : ProcessOf B → ProcessOf B = λ a. if is_process a.id p then record a { body = b } else a in
    record {
      times = m.times;
      registrations = registrations_told signal.Done d s.control m.registrations;
      processes = processes-told g.setup.events before signal.Done (processes-same g.setup.events (with_body p b u) before refl refl refl (processes-bodies g.setup.events u p b m.processes));
      interruptions = interruptions-told before signal.Done (interruptions-same (with_body p b u) before refl refl refl (interruptions-bodies u p b m.interruptions));
      waiting = record {
        waiters = m.waiting.waiters;
        once = m.waiting.once;
        requests = λ n w at. request_scope_less s.scopes r (slice_index_or u.facilities.waiters n w) (slice_index_or u.facilities.waiters n w).want (λ same. k.waits_not n w at (sym same)) (m.waiting.requests n w at);
        using = λ n i v at. scope_less s.scopes r (slice_index_or (users n u.facilities.ledger) i v).request (slice_index_or (users n u.facilities.ledger) i v).process n (λ same. k.uses_not n i v at (sym (same_event r (slice_index_or (users n u.facilities.ledger) i v).request same))) (m.waiting.using n i v at);
        scopes = All-filter (keeps r) (λ a. is_scope_well rs t a ≡ true) s.scopes
            (All-weaker (λ a. is_scope_well rs u a ≡ true) (λ a. is_scope_well rs t a ≡ true) (λ a h. ap (λ (v : Bool). v && was_made d a.request && is_request_kind (kind_at d a.request) && nat_lt a.res (length rs) && takes_requests (resource_at rs a.res).kind) (alive a.process) ∙ h) s.scopes m.waiting.scopes);
        bodies = All-map (KnowsItsScopes tell t) change s.processes (All-weaker (KnowsItsScopes tell s) (λ a. KnowsItsScopes tell t (change a)) (λ a h. knows_left g tell s t e left p x y b z a active found l.waiting apart first of poll.scopes refl on h (is_process a.id p) refl) s.processes l.waiting.bodies);
      };
      capacities = m.capacities;
      conditions = conditions_told signal.Done d s.control m.conditions;
      bodies = bodies_going_on tell sound u t e left p x y b signal.Done body refl (grown_itself d) refl (ap (λ (a : Option Op). may_be_told a signal.Done) poll.last);
      chains = chains_told signal.Done d s.control m.chains;
    }

-- ---- all cases

last_there : {X : Type 0} (ys : List X) (h : X → EventId) → 0 < length (map h ys) → first_of_list (reverse ys) ≡ None → ⊥
last_there [] h some none = omega (arith, some)
last_there (y ∷ ys) h some none = first_there (reverse ys) y (sym (ap first_of_list (reverse-append (y ∷ []) ys)) ∙ none)

-- the active process has a scope
innermost_there : {X : Type 0} (test : X → Bool) (h : X → EventId) (xs : List X) → 0 < length (map h (filter test xs))
    → first_of_list (reverse (filter test xs)) ≡ None → ⊥
innermost_there test h xs some none = last_there (filter test xs) h some none

lawful_closes : {B : Type 0} (g : Plan B) (tell : Telling B) (sound : B → Type 0) (s : State B) (f : CodeFacts) (e : EventId)
    (left : List Callback) (p : ProcId) (x : Signal) (y : ProcessOf B) (b : B) (o : Option OpenScope) → AreScopesApart s
    → s.control ≡ Active e left p x → process_at p s ≡ Some y → sound b → LawfulBasis g tell sound s
    → IsLawfulPoll f tell y.body x op.Leave b → first_of_list (scopes_inwards p s) ≡ o
    → LawfulBasis g tell sound (told signal.Done (close_if_any o (with_body p b s)))
lawful_closes g tell sound s f e left p x y b (Some z) apart active found sb h poll first = lawful_closed g tell sound s f e left p x y b z apart active found sb h poll first
lawful_closes g tell sound s f e left p x y b None apart active found sb h poll first =
    let own : (requests_of p s ≡ scopes_told (tell.scopes y.body) (tell.last y.body) x) × (length (requests_of p s) ≤ most_scopes) = own_scopes g tell s e left p x y active found h.waiting p (is_process-self p) in
    let some : 0 < length (requests_of p s) = subst (λ (es : List EventId). 0 < length es) (sym own.0) (ltb-true 0 (length (scopes_told (tell.scopes y.body) (tell.last y.body) x)) poll.asks) in
    absurd (innermost_there (λ n. is_process n.process p) (λ n. n.request) s.scopes some first)

module _ {B : Type 0} (g : Plan B) (tell : Telling B) (sound : B → Type 0) (s : State B) (f : CodeFacts) (e : EventId) (left : List Callback) (p : ProcId) (x : Signal) (y : ProcessOf B) (b : B) where
  pub lawful-polled_leave : AreScopesApart s → AsksFor g tell sound s f e left p x y b op.Leave → LawfulBasis g tell sound (polled g p op.Leave b s)
  lawful-polled_leave apart asks =
      lawful_closes g tell sound s f e left p x y b (first_of_list (scopes_inwards p s)) apart asks.active asks.found asks.is_sound asks.lawful asks.poll refl

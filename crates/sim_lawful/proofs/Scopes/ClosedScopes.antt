-- The scopes of a process are closed one after another: what waits, and who uses, stays lawful but for what the process itself
-- knows of its scopes. No two open scopes may be of one request.
use Rattle.std.proofs.Common.{◌≡◌, ◌≢◌, ℕ, ◌<◌, ◌≤◌, pos, Bool, true, false, ◌&&◌, not, List, [], ◌∷◌, map, filter, length, get_or, Some, refl, sym, subst, ap, ◌∙◌, arith, ⊎_elim, All, AllPairs}
use Rattle.std.specs.Prelude.{◌==◌, fold, is_none}
use Rattle.std.specs.List.{list_any, AllPass}
use Rattle.std.proofs.lemmas.Bool.{and_parts, both_ways, cases_Bool, cond_both, eqb-false, eqb-true, false≢true, false_from_ne_true, not-true, not_from_false, or_parts, or_cases}
use Rattle.std.proofs.lemmas.List.Elements.{All-cons, All-filter, All-head, All-nil, All-same, All-tail, All-weaker, filter_passes}
use Rattle.std.proofs.lemmas.List.Folds.{Any-from_list_any}
use Rattle.std.proofs.lemmas.List.Kept.{AllPairs-filter}
use Rattle.std.proofs.lemmas.Map.Views.{any-filter_same}
use Rattle.sim_types.specs.declared.event.EventId.{EventId}
use Rattle.sim_types.specs.declared.event.ProcId.{ProcId}
use Rattle.sim_types.specs.declared.event.EventKind.TheVariants as kind
use Rattle.sim_types.specs.declared.event.Outcome.TheVariants as outcome
use Rattle.sim_types.specs.declared.event.Callback.TheVariants as callback
use Rattle.sim_machine.specs.State.{EventOf, Calendar, Facilities, OpenScope, State, Plan, User, Waiter, Want, Slot}
use Rattle.sim_machine.specs.Events.{is_same, is_process, event_at, is_pending, next_event, cancel_event, register}
use Rattle.sim_machine.specs.Triggering.{make, succeed}
use Rattle.sim_machine.specs.Users.{users}
use Rattle.sim_machine.specs.Trying.{on_calendar, unqueue}
use Rattle.sim_machine.specs.Requests.{cancel, waits, leave}
use Rattle.sim_machine.specs.Scopes.{close_scope}
use Rattle.sim_machine.specs.Effect.{calendar}
use Rattle.sim_machine.specs.Tellings.{Telling}
use Rattle.sim_machine.specs.MayAsk.{most_scopes}
use Rattle.sim_machine.specs.Standing.{was_made, kind_at}
use Rattle.sim_machine.specs.LawfulWaiting.{KnowsItsScopes, has_scope, is_request_kind, is_scope_well, may_wait_kind, request_has_scope, requests_of, waits_well}
use Rattle.sim_machine_law.proofs.Events.EventLaws.{change_event-length, change_event-other, make-length, make-old, same_event}
use Rattle.sim_machine_law.proofs.KeptParts.KeptBodies.{four_from, four_parts}
use Rattle.sim_machine_law.proofs.KeptParts.KeptRegistrationsCalendar.{Later, below_made, made_below}
use Rattle.sim_machine_law.proofs.KeptParts.KeptTimesCases.{if_cases}
use Rattle.sim_lawful.proofs.Facilities.ChangedFacilities.{scope_later}
use Rattle.sim_lawful.proofs.Calendars.LeavingCalendars.{end_use-calendar, proceeds-left}
use Rattle.sim_machine_law.proofs.Requests.ReleasedUsers.{UsesOther, users_left, waiters_left}

-- ---- lists

pub All-passing : {X : Type 0} (P Q : X → Type 0) (p : X → Bool) (xs : List X) → ((x : X) → p x ≡ true → P x → Q x) → All P xs → All Q (filter p xs)
All-passing P Q p xs step h = λ k y below. step (get_or (filter p xs) k y) (filter_passes p xs k y below) (All-filter p P xs h k y below)

pub filter_twice : {X : Type 0} (p keep : X → Bool) (xs : List X) → All (λ x. p x ≡ true → keep x ≡ true) xs → filter p (filter keep xs) ≡ filter p xs
filter_twice p keep [] h = refl
filter_twice {X} p keep (x ∷ xs) h =
    let P : X → Type 0 = λ y. p y ≡ true → keep y ≡ true in
    let later : filter p (filter keep xs) ≡ filter p xs = filter_twice p keep xs (All-tail P x xs h) in
    let kept : List X = filter keep xs in
    cond_both (keep x) (x ∷ kept) kept (λ ys. filter p ys ≡ filter p (x ∷ xs)) (λ a. rw later refl)
    (λ a. let fails : p x ≡ false = false_from_ne_true (p x) (λ b. both_ways (keep x) a (All-head P x xs h b)) in rw fails later)

pub all_fail : {X : Type 0} (t : X → Bool) (xs : List X) → list_any t xs ≡ false → All (λ x. t x ≡ false) xs
all_fail t [] h = All-nil (λ x. t x ≡ false)
all_fail t (x ∷ xs) h = let parts = or_parts (t x) (list_any t xs) h in All-cons (λ y. t y ≡ false) x xs parts.0 (all_fail t xs parts.1)

-- ---- events once a scope was left

-- the calendar of facilities where a request was left
abbrev with_release : ℕ → Calendar → Calendar
with_release res c = succeed (next_event c) (pos 0) (register (next_event c) (callback.TryPut res) (make kind.Release c))

calendar_left : (res : ℕ) (request : EventId) (f : Facilities) → (leave res request f).calendar ≡ with_release res (cancel request f).calendar
calendar_left res request f =
    let c : Calendar = (cancel request f).calendar in
    ap (λ (d : Calendar). succeed (next_event c) (pos 0) d) (end_use-calendar res request (on_calendar (λ (d : Calendar). register (next_event c) (callback.TryPut res) (make kind.Release d)) (cancel request f)))

pub record SameButOne (request : EventId) (c d : Calendar) : Type 0 where
  pub longer : length c.events ≤ length d.events
  pub same : (e : EventId) → e.0 < length c.events → e.0 ≢ request.0 → event_at d e ≡ event_at c e

same_cancelled : (request : EventId) (f : Facilities) → SameButOne request f.calendar (cancel request f).calendar
same_cancelled request f =
    let c : Calendar = f.calendar in
    let change : EventOf → EventOf = λ x. record x { cancelled = true } in
    if_cases (λ u. SameButOne request c u.calendar) (waits request f) (on_calendar (cancel_event request) (unqueue request f)) f
    (λ a. record { longer = omega (arith, change_event-length request change c); same = λ e made differ. change_event-other request e change c differ })
    (λ a. record { longer = omega arith; same = λ e made differ. refl })

pub same_left : (res : ℕ) (request : EventId) (f : Facilities) → SameButOne request f.calendar (leave res request f).calendar
same_left res request f =
    let c : Calendar = (cancel request f).calendar in
    let e : EventId = next_event c in
    let a : Calendar = make kind.Release c in
    let d : Calendar = with_release res c in
    let change : EventOf → EventOf = λ x. record x { outcome = Some (outcome.Ok (pos 0)) } in
    let before : SameButOne request f.calendar c = same_cancelled request f in
    subst (λ (u : Calendar). SameButOne request f.calendar u) (sym (calendar_left res request f)) (record {
      longer = omega (arith, before.longer, make-length kind.Release c, change_event-length e change a);
      same = λ n made differ. change_event-other e n change a (λ same. omega (arith, same, made, before.longer)) ∙ (make-old kind.Release c n (omega (arith, made, before.longer)) ∙ before.same n made differ);
    })

-- what waits for another event waits as before
pub waits_still : (request : EventId) (c d : Calendar) (w : Waiter) → SameButOne request c d
    → not (is_same w.event request) ≡ true → waits_well c w ≡ true → waits_well d w ≡ true
waits_still request c d w k apart h =
    let e : EventId = w.event in
    let parts = four_parts (was_made c e) (is_pending c e) (not (event_at c e).cancelled) (may_wait_kind (kind_at c e)) h in
    let made : e.0 < length c.events = made_below c e parts.0 in
    let same : event_at d e ≡ event_at c e = k.same e made (eqb-false e.0 request.0 (not-true (is_same e request) apart)) in
    four_from (was_made d e) (is_pending d e) (not (event_at d e).cancelled) (may_wait_kind (kind_at d e)) (below_made d e (omega (arith, made, k.longer)))
    (ap (λ (x : EventOf). is_none x.outcome) same ∙ parts.1) (ap (λ (x : EventOf). not x.cancelled) same ∙ parts.2) (ap (λ (x : EventOf). may_wait_kind x.kind) same ∙ parts.3)

-- ---- scopes that stay

abbrev pub is_not_of : EventId → OpenScope → Bool
is_not_of request x = not (is_same x.request request)

stays_open : (request r : EventId) (x : OpenScope) → is_same r request ≡ false → is_same x.request r ≡ true → is_not_of request x ≡ true
stays_open request r x apart same = not_from_false (is_same x.request request) (ap (λ (e : EventId). is_same e request) (same_event x.request r (eqb-true x.request.0 r.0 same)) ∙ apart)

has_scope_still : (scopes : List OpenScope) (request r : EventId) (p : ProcId) (res : ℕ) → is_same r request ≡ false
    → has_scope (filter (is_not_of request) scopes) r p res ≡ has_scope scopes r p res
has_scope_still scopes request r p res apart =
    any-filter_same (λ x. is_same x.request r && is_process x.process p && (x.res == res)) (is_not_of request) true
    (λ x w. stays_open request r x apart (and_parts (is_same x.request r) (is_process x.process p) (and_parts (is_same x.request r && is_process x.process p) (x.res == res) w).0).0) scopes

request_scope_still : (scopes : List OpenScope) (request : EventId) (w : Waiter) (want : Want)
    → is_same w.event request ≡ false → request_has_scope scopes w want ≡ true
    → request_has_scope (filter (is_not_of request) scopes) w want ≡ true
request_scope_still scopes request w (Slot p key) apart h = has_scope_still scopes request w.event p w.res apart ∙ h
request_scope_still scopes request w _ apart h = h

-- ---- a scope is closed

-- what waits is lawful, but for what q knows of its scopes
pub record WaitsBut {B : Type 0} (g : Plan B) (tell : Telling B) (q : ProcId) (s : State B) : Type 0 where
  pub waiters : AllPass (waits_well s.facilities.calendar) s.facilities.waiters
  pub once : AllPairs (λ w v. w.event ≢ v.event) s.facilities.waiters
  pub requests : AllPass (λ w. request_has_scope s.scopes w w.want) s.facilities.waiters
  pub using : (res : ℕ) → AllPass (λ u. has_scope s.scopes u.request u.process res) (users res s.facilities.ledger)
  pub scopes : AllPass (is_scope_well g.setup.resources s) s.scopes
  pub bodies : All (λ z. is_process z.id q ≡ false → KnowsItsScopes tell s z) s.processes

-- an open scope of q whose request stands in no other
pub record IsOwnScope (c : Calendar) (scopes : List OpenScope) (q : ProcId) (x : OpenScope) : Type 0 where
  pub process : is_process x.process q ≡ true
  pub made : x.request.0 < length c.events
  pub kind : is_request_kind (kind_at c x.request) ≡ true
  pub alone : All (λ y. is_same y.request x.request ≡ true → y ≡ x) scopes

-- a request that does not use its resource uses no other, since it has one scope
uses_elsewhere : (scopes : List OpenScope) (x : OpenScope) (u : User) (at : ℕ)
    → All (λ y. is_same y.request x.request ≡ true → y ≡ x) scopes → has_scope scopes u.request u.process at ≡ true
    → is_same u.request x.request ≡ true → x.res ≡ at
uses_elsewhere scopes x u at alone has same =
    let t : OpenScope → Bool = λ y. is_same y.request u.request && is_process y.process u.process && (y.res == at) in
    let found = Any-from_list_any t scopes has in
    let y : OpenScope = found.1 in
    let parts = and_parts (is_same y.request u.request && is_process y.process u.process) (y.res == at) found.4 in
    let here : is_same y.request u.request ≡ true = (and_parts (is_same y.request u.request) (is_process y.process u.process) parts.0).0 in
    let request : is_same y.request x.request ≡ true = ap (λ (e : EventId). is_same e x.request) (same_event y.request u.request (eqb-true y.request.0 u.request.0 here)) ∙ same in
    let is_x : y ≡ x = subst (λ (z : OpenScope). is_same z.request x.request ≡ true → z ≡ x) found.3 (alone found.0 y found.2) request in
    ap (λ (z : OpenScope). z.res) (sym is_x) ∙ eqb-true y.res at parts.1

pub closed_scope : {B : Type 0} (g : Plan B) (tell : Telling B) (q : ProcId) (s : State B) (x : OpenScope)
    → IsOwnScope (calendar s) s.scopes q x → WaitsBut g tell q s → WaitsBut g tell q (close_scope s x)
closed_scope {B} g tell q s x own h =
    let t : State B = close_scope s x in
    let f : Facilities = s.facilities in
    let r : EventId = x.request in
    let c : Calendar = f.calendar in
    let d : Calendar = calendar t in
    let keep : Waiter → Bool = λ w. not (is_same w.event r) in
    let one : SameButOne r c d = same_left x.res r f in
    let later : Later c d = (proceeds-left s.control x.res r f).calm.later in
    let ws : t.facilities.waiters ≡ filter keep f.waiters = waiters_left x.res r f in
    let kept_scopes : List OpenScope = filter (is_not_of r) s.scopes in
    record {
      waiters = All-same (λ w. waits_well d w ≡ true) t.facilities.waiters (filter keep f.waiters) ws (All-passing (λ w. waits_well c w ≡ true) (λ w. waits_well d w ≡ true) keep f.waiters (λ w a b. waits_still r c d w one a b) h.waiters);
      once = subst (λ (vs : List Waiter). AllPairs (λ w v. w.event ≢ v.event) vs) (sym ws) (AllPairs-filter (λ w v. w.event ≢ v.event) keep f.waiters h.once);
      requests = All-same (λ w. request_has_scope kept_scopes w w.want ≡ true) t.facilities.waiters (filter keep f.waiters) ws
          (All-passing (λ w. request_has_scope s.scopes w w.want ≡ true) (λ w. request_has_scope kept_scopes w w.want ≡ true) keep f.waiters (λ w a b. request_scope_still s.scopes r w w.want (not-true (is_same w.event r) a) b) h.requests);
      using = λ at.
          let P : User → Type 0 = λ u. has_scope s.scopes u.request u.process at ≡ true in
          let other : list_any (λ u. is_same u.request r) (users x.res f.ledger) ≡ false → All (UsesOther P r) (users at f.ledger) = λ none k u below.
          let v : User = get_or (users at f.ledger) k u in
          let has : P v = h.using at k u below in (
            has,
            ⊎_elim
                (λ same. subst (λ (n : ℕ). All (λ (w : User). is_same w.request r ≡ false) (users n f.ledger)) (uses_elsewhere s.scopes x v at own.alone has same) (all_fail (λ (w : User). is_same w.request r) (users x.res f.ledger) none) k u below)
                (λ differ. differ) (cases_Bool (is_same v.request r)),
          ) in
          All-weaker (UsesOther P r) (λ u. has_scope kept_scopes u.request u.process at ≡ true) (λ u w. has_scope_still s.scopes r u.request u.process at w.1 ∙ w.0) (users at t.facilities.ledger) (users_left P at x.res r f (h.using at) other);
      scopes = All-filter (is_not_of r) (λ y. is_scope_well g.setup.resources t y ≡ true) s.scopes (All-weaker (λ y. is_scope_well g.setup.resources s y ≡ true) (λ y. is_scope_well g.setup.resources t y ≡ true) (λ y w. scope_later g.setup.resources s t y later (λ a. a) w) s.scopes h.scopes);
      bodies = All-weaker (λ z. is_process z.id q ≡ false → KnowsItsScopes tell s z) (λ z. is_process z.id q ≡ false → KnowsItsScopes tell t z) (λ z w apart.
          let p : OpenScope → Bool = λ y. is_process y.process z.id in
          let stays : All (λ y. p y ≡ true → is_not_of r y ≡ true) s.scopes =
          All-weaker (λ y. is_same y.request r ≡ true → y ≡ x) (λ y. p y ≡ true → is_not_of r y ≡ true) (λ y a of. not_from_false (is_same y.request r) (false_from_ne_true (is_same y.request r) (λ same.
          not_both q z.id apart x own.process (subst (λ (n : OpenScope). is_process n.process z.id ≡ true) (a same) of)))) s.scopes own.alone in
          let same : requests_of z.id t ≡ requests_of z.id s = ap (λ (ys : List OpenScope). map (λ (y : OpenScope). y.request) ys) (filter_twice p (is_not_of r) s.scopes stays) in
          (same ∙ (w apart).0, subst (λ (es : List EventId). length es ≤ most_scopes) (sym same) (w apart).1)) s.processes h.bodies;
    }
  where
    not_both : (q z : ProcId) → is_process z q ≡ false → (x : OpenScope) → is_process x.process q ≡ true → is_process x.process z ≡ true → ⊥
    not_both q z apart x is_q is_z =
        let at_q : x.process.0 ≡ q.0 = eqb-true x.process.0 q.0 is_q in
        let at_z : x.process.0 ≡ z.0 = eqb-true x.process.0 z.0 is_z in
        eqb-false z.0 q.0 apart (sym at_z ∙ at_q)

-- ---- all scopes of q are closed

-- each scope of q is of one of these requests
abbrev pub Covered : ProcId → List OpenScope → List OpenScope → Type 0
Covered q xs scopes = All (λ y. is_process y.process q ≡ true → list_any (λ x. is_same y.request x.request) xs ≡ true) scopes

own_still : {B : Type 0} (s : State B) (q : ProcId) (x y : OpenScope) → IsOwnScope (calendar s) s.scopes q y
    → IsOwnScope (calendar (close_scope s x)) (close_scope s x).scopes q y
own_still s q x y own =
    let later : Later (calendar s) (calendar (close_scope s x)) = (proceeds-left s.control x.res x.request s.facilities).calm.later in
    record {
      process = own.process;
      made = omega (arith, own.made, later.longer);
      kind = ap is_request_kind (later.kinds y.request own.made) ∙ own.kind;
      alone = All-filter (is_not_of x.request) (λ z. is_same z.request y.request ≡ true → z ≡ y) s.scopes own.alone;
    }

-- what is left of the scopes is of others
pub record AllClosed {B : Type 0} (g : Plan B) (tell : Telling B) (q : ProcId) (t : State B) : Type 0 where
  pub waits : WaitsBut g tell q t
  pub others : All (λ y. is_process y.process q ≡ false) t.scopes

pub closed_scopes : {B : Type 0} (g : Plan B) (tell : Telling B) (q : ProcId) (xs : List OpenScope) (s : State B)
    → All (IsOwnScope (calendar s) s.scopes q) xs → Covered q xs s.scopes → WaitsBut g tell q s
    → AllClosed g tell q (fold close_scope s xs)
closed_scopes g tell q [] s own covered h =
    record { waits = h; others = All-weaker (λ y. is_process y.process q ≡ true → false ≡ true) (λ y. is_process y.process q ≡ false) (λ y w. false_from_ne_true (is_process y.process q) (λ a. false≢true (w a))) s.scopes covered }
closed_scopes {B} g tell q (x ∷ xs) s own covered h =
    let t : State B = close_scope s x in
    let P : OpenScope → Type 0 = IsOwnScope (calendar s) s.scopes q in
    let rest : Covered q xs t.scopes = All-passing (λ y. is_process y.process q ≡ true → list_any (λ z. is_same y.request z.request) (x ∷ xs) ≡ true) (λ y. is_process y.process q ≡ true → list_any (λ z. is_same y.request z.request) xs ≡ true) (is_not_of x.request) s.scopes
    (λ y kept w a. ⊎_elim (λ b. absurd (both_ways (is_same y.request x.request) (not-true (is_same y.request x.request) kept) b)) (λ b. b) (or_cases (is_same y.request x.request) (list_any (λ z. is_same y.request z.request) xs) (w a))) covered in
    closed_scopes g tell q xs t (All-weaker P (IsOwnScope (calendar t) t.scopes q) (λ y w. own_still s q x y w) xs (All-tail P x xs own)) rest (closed_scope g tell q s x (All-head P x xs own) h)

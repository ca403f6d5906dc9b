-- A process drops another: it leaves all its scopes, so none of its requests waits or uses any more, and who else waits stays.
-- No two open scopes may be of one request.
use Rattle.std.proofs.Common.{◌≡◌, ◌≢◌, ℕ, ◌<◌, ℤ, pos, Bool, true, false, ◌||◌, not, List, [], ◌∷◌, ◌++◌, filter, length, get_or, Some, refl, sym, subst, ap, ◌∙◌, arith, All, AllPairs}
use Rattle.std.specs.Prelude.{is_none, reverse}
use Rattle.std.specs.List.{list_any}
use Rattle.std.proofs.lemmas.Bool.{and_parts, both_ways, cond_both, false≢true, not-true, or_left, or_right}
use Rattle.std.proofs.lemmas.List.{reverse-append}
use Rattle.std.proofs.lemmas.List.Elements.{All-append, All-cons, All-filter, All-head, All-nil, All-tail, All-weaker, filter_passes}
use Rattle.std.proofs.lemmas.List.Folds.{list_any-append}
use Rattle.sim_types.proofs.Permutations.{AllPairs-head, AllPairs-tail}
use Rattle.sim_types.specs.declared.event.EventId.{EventId}
use Rattle.sim_types.specs.declared.event.ProcId.{ProcId}
use Rattle.sim_types.specs.declared.event.EventKind.{EventKind}
use Rattle.sim_types.specs.declared.event.Signal.{Signal}
use Rattle.sim_types.specs.declared.event.Callback.{Callback}
use Rattle.sim_types.specs.declared.event.EventKind.TheVariants as kind
use Rattle.sim_types.specs.declared.event.Outcome.TheVariants as outcome
use Rattle.sim_types.specs.declared.event.Signal.TheVariants as signal
use Rattle.sim_machine.specs.State.{EventOf, Calendar, Control, Idle, Calling, Active, Over, OpenScope, State, Plan, Waiter}
use Rattle.sim_machine.specs.Events.{is_same, is_process, event_at, is_pending}
use Rattle.sim_machine.specs.Triggering.{normal, trigger}
use Rattle.sim_machine.specs.Scopes.{scopes_inwards}
use Rattle.sim_machine.specs.Processes.{event_of, strip_resume, is_alive, end_process, drop_process}
use Rattle.sim_machine.specs.Effect.{calendar}
use Rattle.sim_machine.specs.Tellings.{Telling}
use Rattle.sim_machine.specs.MayFollow.{is_enter}
use Rattle.sim_machine.specs.Standing.{was_made, kind_at}
use Rattle.sim_machine.specs.LawfulProcesses.{is_process_kind}
use Rattle.sim_machine.specs.LawfulWaiting.{KnowsItsScopes, entered_by, is_request_kind, is_scope_well, may_wait_kind, waits_well}
use Rattle.sim_machine_law.proofs.Events.EventLaws.{change_event-length, change_event-other, is_same-self, is_same-yes, same_event}
use Rattle.sim_machine_law.proofs.KeptParts.KeptBodies.{four_from, four_parts}
use Rattle.sim_machine_law.proofs.KeptParts.KeptProcessesParts.{is_process-swap}
use Rattle.sim_machine_law.proofs.KeptParts.KeptRegistrationsCalendar.{below_made, calm_scheduled, made_below}
use Rattle.sim_lawful.proofs.Facilities.ChangedFacilities.{scope_later}
use Rattle.sim_lawful.proofs.Scopes.ClosedScopes.{AllClosed, Covered, IsOwnScope, WaitsBut, closed_scopes}
use Rattle.sim_lawful.proofs.Drops.DroppedProcess.{MayDrop, IsScopeless, scopeless, scopeless_state, stopped_state}
use Rattle.sim_machine_law.proofs.Processes.EndedProcesses.{alive-other, is_other, lives-unresumed}
use Rattle.sim_lawful.proofs.Drops.StrippedControls.{without_resume}
use Rattle.sim_machine_law.proofs.KeptParts.LawfulBasis.{AreScopesApart, LawfulBasis, WaitingBasis}

-- ---- a list and its reverse

reverse_cons : {X : Type 0} (x : X) (xs : List X) → reverse (x ∷ xs) ≡ reverse xs ++ x ∷ []
reverse_cons x xs = reverse-append (x ∷ []) xs

pub All-reverse : {X : Type 0} (P : X → Type 0) (xs : List X) → All P xs → All P (reverse xs)
All-reverse P [] h = h
All-reverse P (x ∷ xs) h = subst (λ ys. All P ys) (sym (reverse_cons x xs)) (All-append P (reverse xs) (x ∷ []) (All-reverse P xs (All-tail P x xs h)) (All-cons P x [] (All-head P x xs h) (All-nil P)))

or_swap : (a b : Bool) → (b || (a || false)) ≡ (a || b)
or_swap true true = refl
or_swap true false = refl
or_swap false true = refl
or_swap false false = refl

pub any-reverse : {X : Type 0} (t : X → Bool) (xs : List X) → list_any t (reverse xs) ≡ list_any t xs
any-reverse t [] = refl
any-reverse t (x ∷ xs) =
    ap (λ ys. list_any t ys) (reverse_cons x xs) ∙ (list_any-append t (reverse xs) (x ∷ []) ∙ (ap (λ (b : Bool). b || (t x || false)) (any-reverse t xs) ∙ or_swap (t x) (list_any t xs)))

-- ---- the scopes of a process

-- scopes of one request are one
pub alone_each : (xs : List OpenScope) → AllPairs (λ x y. x.request ≢ y.request) xs
    → All (λ (x : OpenScope). All (λ (y : OpenScope). is_same y.request x.request ≡ true → y ≡ x) xs) xs
alone_each [] h = All-nil (λ (x : OpenScope). All (λ (y : OpenScope). is_same y.request x.request ≡ true → y ≡ x) [])
alone_each (x ∷ xs) h =
    let R : OpenScope → OpenScope → Type 0 = λ y z. y.request ≢ z.request in
    let apart : All (λ (y : OpenScope). x.request ≢ y.request) xs = AllPairs-head R x xs h in
    let P : OpenScope → OpenScope → Type 0 = λ z y. is_same y.request z.request ≡ true → y ≡ z in
    let first : All (P x) (x ∷ xs) = All-cons (P x) x xs (λ same. refl) (All-weaker (λ (y : OpenScope). x.request ≢ y.request) (P x) (λ y differ same. absurd (differ (sym (is_same-yes y.request x.request same)))) xs apart) in
    let others : All (λ z. All (P z) (x ∷ xs)) xs = λ k z below.
    let w : OpenScope = get_or xs k z in
    All-cons (P w) x xs (λ same. absurd (apart k z below (is_same-yes x.request w.request same))) (alone_each xs (AllPairs-tail R x xs h) k z below) in
    All-cons (λ z. All (P z) (x ∷ xs)) x xs first others

pub covered_itself : (p : OpenScope → Bool) (xs : List OpenScope)
    → All (λ (y : OpenScope). p y ≡ true → list_any (λ (x : OpenScope). is_same y.request x.request) (filter p xs) ≡ true) xs
covered_itself p [] = All-nil (λ (y : OpenScope). p y ≡ true → list_any (λ (x : OpenScope). is_same y.request x.request) [] ≡ true)
covered_itself p (x ∷ xs) =
    let rest : List OpenScope = filter p xs in
    let P : OpenScope → Type 0 = λ y. p y ≡ true → list_any (λ (z : OpenScope). is_same y.request z.request) (filter p (x ∷ xs)) ≡ true in
    All-cons P x xs (λ a. rw a (or_left (is_same x.request x.request) (list_any (λ (z : OpenScope). is_same x.request z.request) rest) (is_same-self x.request)))
    (All-weaker (λ (y : OpenScope). p y ≡ true → list_any (λ (z : OpenScope). is_same y.request z.request) rest ≡ true) P (λ y w a.
    cond_both (p x) (x ∷ rest) rest (λ zs. list_any (λ (z : OpenScope). is_same y.request z.request) zs ≡ true) (λ b. or_right (is_same y.request x.request) (list_any (λ (z : OpenScope). is_same y.request z.request) rest) (w a)) (λ b. w a)) xs (covered_itself p xs))

entered_stripped : (q : ProcId) (k : Control) (p : ProcId) (v : Bool) → entered_by (strip_resume q k) p v ≡ entered_by k p v
entered_stripped q Idle p v = refl
entered_stripped q (Calling e left) p v = refl
entered_stripped q (Active e left r (signal.Made n)) p true = refl
entered_stripped q (Active e left r (signal.Made n)) p false = refl
entered_stripped q (Active e left r _) p v = refl
entered_stripped q (Over why e left) p v = refl

-- ---- the state without the scopes

closed_all : {B : Type 0} (g : Plan B) (tell : Telling B) (s : State B) (q : ProcId) → AreScopesApart s
    → WaitingBasis g tell s → AllClosed g tell q (scopeless_state q s)
closed_all {B} g tell s q distinct h =
    let c : Calendar = calendar s in
    let u : State B = stopped_state q s in
    let d : Calendar = calendar u in
    let mine : OpenScope → Bool = λ x. is_process x.process q in
    let own : (k : ℕ) (x : OpenScope) → k < length s.scopes → (mine (get_or s.scopes k x) ≡ true → IsOwnScope d s.scopes q (get_or s.scopes k x)) = λ k x below a.
    let y : OpenScope = get_or s.scopes k x in
    let r : EventId = y.request in
    let parts = scope_facts g s y (h.scopes k x below) in
    record { process = a; made = made_below c r parts.0; kind = parts.1; alone = alone_each s.scopes distinct k x below } in
    let all_own : All (IsOwnScope d s.scopes q) (filter mine s.scopes) = λ k x below.
    All-filter mine (λ x. mine x ≡ true → IsOwnScope d s.scopes q x) s.scopes own k x below (filter_passes mine s.scopes k x below) in
    let covered : Covered q (scopes_inwards q u) s.scopes =
    All-weaker (λ (y : OpenScope). mine y ≡ true → list_any (λ (x : OpenScope). is_same y.request x.request) (filter mine s.scopes) ≡ true) (λ (y : OpenScope). mine y ≡ true → list_any (λ (x : OpenScope). is_same y.request x.request) (reverse (filter mine s.scopes)) ≡ true)
    (λ y w a. any-reverse (λ (x : OpenScope). is_same y.request x.request) (filter mine s.scopes) ∙ w a) s.scopes (covered_itself mine s.scopes) in
    let waits : WaitsBut g tell q u = record {
      waiters = h.waiters;
      once = h.once;
      requests = h.requests;
      using = h.using;
      scopes = h.scopes;
      bodies = All-weaker (KnowsItsScopes tell s) (λ z. is_process z.id q ≡ false → KnowsItsScopes tell u z) (λ z w apart.
          (w.0 ∙ ap (λ (es : List EventId). tell.scopes z.body ++ es) (sym (entered_stripped q s.control z.id (is_enter (tell.last z.body)))), w.1)) s.processes h.bodies;
    } in
    closed_scopes g tell q (scopes_inwards q u) u (All-reverse (IsOwnScope d s.scopes q) (filter mine s.scopes) all_own) covered waits
  where
    scope_facts : {B : Type 0} (g : Plan B) (s : State B) (x : OpenScope) → is_scope_well g.setup.resources s x ≡ true
        → (was_made (calendar s) x.request ≡ true) × (is_request_kind (kind_at (calendar s) x.request) ≡ true)
    scope_facts g s x w =
        let outer = and_parts _ _ w in
        let parts = four_parts (is_alive x.process s) (was_made (calendar s) x.request) (is_request_kind (kind_at (calendar s) x.request)) _ outer.0 in
        (parts.1, parts.2)

-- ---- the process has ended

pub kinds_apart : (k : EventKind) → is_process_kind k ≡ true → may_wait_kind k ≡ false
kinds_apart kind.Process h = refl
kinds_apart _ h = absurd (false≢true h)

waiting_ended_other : {B : Type 0} (g : Plan B) (tell : Telling B) (t : State B) (q : ProcId) (value : ℤ)
    → is_process_kind (kind_at (calendar t) (event_of q)) ≡ true → AllClosed g tell q t
    → WaitingBasis g tell (end_process q (outcome.Ok value) t)
waiting_ended_other {B} g tell t q value of h =
    let c : Calendar = calendar t in
    let e : EventId = event_of q in
    let d : Calendar = trigger e (outcome.Ok value) c in
    let u : State B = end_process q (outcome.Ok value) t in
    let change : EventOf → EventOf = λ y. record y { outcome = Some (outcome.Ok value) } in
    let still : (w : Waiter) → waits_well c w ≡ true → waits_well d w ≡ true = λ w a.
    let n : EventId = w.event in
    let parts = four_parts (was_made c n) (is_pending c n) (not (event_at c n).cancelled) (may_wait_kind (kind_at c n)) a in
    let differ : n.0 ≢ e.0 = λ same. both_ways (may_wait_kind (kind_at c e)) (kinds_apart (kind_at c e) of) (ap (λ (m : EventId). may_wait_kind (kind_at c m)) (same_event e n (sym same)) ∙ parts.3) in
    let same : event_at d n ≡ event_at c n = change_event-other e n change c differ in
    let made : n.0 < length c.events = made_below c n parts.0 in
    four_from (was_made d n) (is_pending d n) (not (event_at d n).cancelled) (may_wait_kind (kind_at d n)) (below_made d n (omega (arith, made, change_event-length e change c)))
    (ap (λ (x : EventOf). is_none x.outcome) same ∙ parts.1) (ap (λ (x : EventOf). not x.cancelled) same ∙ parts.2) (ap (λ (x : EventOf). may_wait_kind x.kind) same ∙ parts.3) in
    record {
      waiters = All-weaker (λ w. waits_well c w ≡ true) (λ w. waits_well d w ≡ true) still t.facilities.waiters h.waits.waiters;
      once = h.waits.once;
      requests = h.waits.requests;
      using = h.waits.using;
      scopes = λ k x below.
          let y : OpenScope = get_or t.scopes k x in
          let apart : is_process q y.process ≡ false = is_process-swap q y.process ∙ h.others k x below in
          scope_later g.setup.resources t u y (calm_scheduled e (outcome.Ok value) normal (pos 0) c).later (λ a. alive-other q y.process t.processes apart ∙ a) (h.waits.scopes k x below);
      bodies = λ k z below.
          All-filter (is_other q) (λ y. is_process y.id q ≡ false → KnowsItsScopes tell t y) t.processes h.waits.bodies k z below (not-true (is_process (get_or (filter (is_other q) t.processes) k z).id q) (filter_passes (is_other q) t.processes k z below));
    }

pub waiting_dropped : {B : Type 0} (g : Plan B) (tell : Telling B) (sound : B → Type 0) (s : State B) (e : EventId)
    (left : List Callback) (p : ProcId) (x : Signal) (q : ProcId) (value : ℤ) → AreScopesApart s → MayDrop s e left p x q
    → LawfulBasis g tell sound s → WaitingBasis g tell (drop_process q value s)
waiting_dropped g tell sound s e left p x q value distinct may h =
    let k : IsScopeless s e left p x q = scopeless g.setup.events s e left p x q may h.processes in
    let own = lives-unresumed g.setup.events s q (calendar (scopeless_state q s)) (without_resume e left p x q) k.unresumed h.processes in
    waiting_ended_other g tell (scopeless_state q s) q value own.1.kind (closed_all g tell s q distinct h.waiting)

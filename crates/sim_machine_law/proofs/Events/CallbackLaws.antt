-- How the callbacks of an event change: by a registration, by a pop, and by a call.
use Rattle.std.proofs.Common.{◌≡◌, ◌≢◌, ℕ, ◌+◌, ◌≤◌, Bool, true, false, ◌&&◌, not, List, [], ◌∷◌, ◌++◌, map, length, get_or, subst, refl, sym, ap, ◌∙◌, arith, ◌⊎◌, inl, inr, append-nil}
use Rattle.std.specs.Prelude.{◌==◌, count_by, filter, cond, if◌then◌else◌}
use Rattle.std.specs.List.{AllPass}
use Rattle.std.proofs.lemmas.Bool.Decides.{nat_tests}
use Rattle.std.proofs.lemmas.Bool.{cases_eq, cond_both, not-true, ne_eqb}
use Rattle.std.proofs.lemmas.List.{map-append}
use Rattle.std.proofs.lemmas.List.Elements.{filter-append, filter_passes, All-filter, All-map}
use Rattle.std.proofs.lemmas.List.Filters.{sum_by-filter_both}
use Rattle.std.proofs.lemmas.List.Sums.{sum_by-cons, sum_by-append}
use Rattle.sim_types.specs.declared.event.EventId.{EventId}
use Rattle.sim_types.specs.declared.event.Callback.{Callback}
use Rattle.sim_types.specs.declared.event.Entry.{Entry}
use Rattle.sim_machine.specs.State.{Registration, Calendar, Control, Idle, Calling, Active, Over}
use Rattle.sim_machine.specs.Events.{is_same, callbacks_of, register}
use Rattle.sim_machine.specs.Agenda.{popped}
use Rattle.sim_machine_law.proofs.Events.EventLaws.{same_event, is_same-self, is_same-yes}
use Rattle.sim_types.specs.declared.event.Signal.{Signal}
use Rattle.sim_machine.specs.Processes.{told_more, not_active}
use Rattle.sim_machine.specs.Standing.{one_if, left_of, is_event_of, all_callbacks_of, callbacks_in_all}

-- ---- counts

one_if_is : (b : Bool) → cond {A = ℕ} b 1 0 ≡ one_if b
one_if_is true = refl
one_if_is false = refl

pub counts_one : (b : Bool) → b ≡ true → one_if b ≡ 1
counts_one b h = rw h refl

pub counts_none : (b : Bool) → b ≡ false → one_if b ≡ 0
counts_none b h = rw h refl

pub counts_not : (a b : Bool) → b ≡ false → one_if (a && b) ≡ 0
counts_not true b h = counts_none b h
counts_not false b h = refl

pub count_by-cons : {X : Type 0} (p : X → Bool) (x : X) (xs : List X) → count_by p (x ∷ xs) ≡ one_if (p x) + count_by p xs
count_by-cons p x xs = omega (arith, sum_by-cons (λ y. cond (p y) 1 0) x xs, one_if_is (p x))

pub count_by-one : {X : Type 0} (p : X → Bool) (x : X) → count_by p (x ∷ []) ≡ one_if (p x)
count_by-one p x = omega (arith, one_if_is (p x))

pub count_by-append : {X : Type 0} (p : X → Bool) (xs ys : List X) → count_by p (xs ++ ys) ≡ count_by p xs + count_by p ys
count_by-append p xs ys = sum_by-append (λ x. cond (p x) 1 0) xs ys

pub count_by-map : {X Y : Type 0} (p : Y → Bool) (f : X → Y) (xs : List X) → count_by p (map f xs) ≡ count_by (λ x. p (f x)) xs
count_by-map p f [] = refl
count_by-map p f (x ∷ xs) = omega (arith, count_by-cons p (f x) (map f xs), count_by-cons (λ y. p (f y)) x xs, count_by-map p f xs)

-- a length is a count of all
pub length_counts : {X : Type 0} (xs : List X) → length xs ≡ count_by (λ x. true) xs
length_counts [] = refl
length_counts {X} (x ∷ xs) =
    let all : X → Bool = λ y. true in
    omega (arith, count_by-cons all x xs, length_counts xs)

-- ---- one more is registered

abbrev is_at : EventId → Registration → Bool
is_at e r = is_same r.event e

abbrev calls_at : EventId → List Registration → List Callback
calls_at e rs = map (λ r. r.callback) (filter (is_at e) rs)

calls_append : (e : EventId) (rs qs : List Registration) → calls_at e (rs ++ qs) ≡ calls_at e rs ++ calls_at e qs
calls_append e rs qs =
    let call : Registration → Callback = λ r. r.callback in
    ap (λ xs. map call xs) (filter-append (is_at e) rs qs) ∙ map-append call (filter (is_at e) rs) (filter (is_at e) qs)

one_call : (b : Bool) (r : Registration) → map (λ (q : Registration). q.callback) (if b then r ∷ [] else []) ≡ (if b then r.callback ∷ [] else [])
one_call true r = refl
one_call false r = refl

pub callbacks_of-register : (e f : EventId) (x : Callback) (c : Calendar)
    → callbacks_of f (register e x c) ≡ callbacks_of f c ++ (if is_same e f then x ∷ [] else [])
callbacks_of-register e f x c =
    let r : Registration = record { event = e; callback = x } in
    calls_append f c.registered (r ∷ []) ∙ ap (λ xs. calls_at f c.registered ++ xs) (one_call (is_same e f) r)

-- at its event it stands last
pub callbacks_of-register_same : (e : EventId) (x : Callback) (c : Calendar) → callbacks_of e (register e x c) ≡ callbacks_of e c ++ x ∷ []
callbacks_of-register_same e x c = callbacks_of-register e e x c ∙ rw (is_same-self e) refl

pub callbacks_of-register_other : (e f : EventId) (x : Callback) (c : Calendar) → is_same e f ≡ false → callbacks_of f (register e x c) ≡ callbacks_of f c
callbacks_of-register_other e f x c differ = callbacks_of-register e f x c ∙ rw differ (append-nil (callbacks_of f c))

pub all_callbacks_of-register_other : (e f : EventId) (x : Callback) (c : Calendar) (k : Control) → is_same e f ≡ false
    → all_callbacks_of (register e x c) k f ≡ all_callbacks_of c k f
all_callbacks_of-register_other e f x c k differ = ap (λ xs. xs ++ (if is_event_of k f then left_of k else [])) (callbacks_of-register_other e f x c differ)

pub callbacks_in_all-register : (test : Callback → Bool) (e : EventId) (x : Callback) (c : Calendar) (k : Control)
    → callbacks_in_all test (register e x c) k ≡ callbacks_in_all test c k + one_if (test x)
callbacks_in_all-register test e x c k =
    let r : Registration = record { event = e; callback = x } in
    let here : Registration → Bool = λ q. test q.callback in
    omega (arith, count_by-append here c.registered (r ∷ []), count_by-one here r)

count_one : (test : Callback → Bool) (b : Bool) (x : Callback) → count_by test (if b then x ∷ [] else []) ≡ one_if (b && test x)
count_one test true x = count_by-one test x
count_one test false x = refl

-- it counts at its event alone
pub callbacks_at-register : (test : Callback → Bool) (e f : EventId) (x : Callback) (c : Calendar) (k : Control)
    → count_by test (all_callbacks_of (register e x c) k f)
    ≡ count_by test (all_callbacks_of c k f) + one_if (is_same e f && test x)
callbacks_at-register test e f x c k =
    let called : List Callback = if is_event_of k f then left_of k else [] in
    let new : List Callback = if is_same e f then x ∷ [] else [] in
    let before : List Callback = callbacks_of f c in
    rw (callbacks_of-register e f x c) (omega (arith, count_by-append test (before ++ new) called, count_by-append test before new, count_by-append test before called, count_one test (is_same e f) x))

-- what all registrations have, the callbacks of an event have
pub callbacks_of-AllPass : (test : EventId → Callback → Bool) (e : EventId) (c : Calendar)
    → AllPass (λ r. test r.event r.callback) c.registered → AllPass (test e) (callbacks_of e c)
callbacks_of-AllPass test e c h =
    let here : List Registration = filter (is_at e) c.registered in
    All-map (λ x. test e x ≡ true) (λ (r : Registration). r.callback) here (λ k d below.
    let r : Registration = get_or here k d in
    subst (λ f. test f r.callback ≡ true) (is_same-yes r.event e (filter_passes (is_at e) c.registered k d below)) (All-filter (is_at e) (λ q. test q.event q.callback ≡ true) c.registered h k d below))

-- ---- an event is popped

popped_none : (e : EventId) (rs : List Registration) → calls_at e (filter (λ r. not (is_at e r)) rs) ≡ []
popped_none e [] = refl
popped_none e (r ∷ rs) = cond_both (not (is_at e r)) (r ∷ filter (λ q. not (is_at e q)) rs) (filter (λ q. not (is_at e q)) rs) (λ xs. calls_at e xs ≡ [])
    (λ h. rw (not-true (is_at e r) h) (popped_none e rs)) (λ h. popped_none e rs)

-- of what was registered there nothing is left
pub callbacks_of-popped_same : (x : Entry) (c : Calendar) → callbacks_of x.event (popped x c) ≡ []
callbacks_of-popped_same x c = popped_none x.event c.registered

not_other : (n e f : ℕ) → f ≢ e → not (n == e) ≡ false → (n == f) ≡ false
not_other n e f differ h = grind (arith, nat_tests)

popped_others : (e f : EventId) → f.0 ≢ e.0 → (rs : List Registration) → filter (is_at f) (filter (λ r. not (is_at e r)) rs) ≡ filter (is_at f) rs
popped_others e f differ [] = refl
popped_others e f differ (r ∷ rs) =
    let kept : List Registration → List Registration = λ qs. filter (λ q. not (is_at e q)) qs in
    cond_both (not (is_at e r)) (r ∷ kept rs) (kept rs) (λ xs. filter (is_at f) xs ≡ filter (is_at f) (r ∷ rs))
    (λ h. rw (popped_others e f differ rs) refl)
    (λ h. rw (not_other r.event.0 e.0 f.0 differ h) (popped_others e f differ rs))

pub callbacks_of-popped_other : (x : Entry) (f : EventId) (c : Calendar) → f.0 ≢ x.event.0 → callbacks_of f (popped x c) ≡ callbacks_of f c
callbacks_of-popped_other x f c differ = ap (λ rs. map (λ (r : Registration). r.callback) rs) (popped_others x.event f differ c.registered)

all_popped : (x : Entry) (f : EventId) (c : Calendar) → (f.0 ≡ x.event.0) ⊎ (f.0 ≢ x.event.0)
    → all_callbacks_of (popped x c) (Calling x.event (callbacks_of x.event c)) f ≡ all_callbacks_of c Idle f
all_popped x f c (inl same) = rw (same_event f x.event same) (rw (callbacks_of-popped_same x c) (rw (is_same-self x.event) (sym (append-nil (callbacks_of x.event c)))))
all_popped x f c (inr differ) =
    let no : is_same x.event f ≡ false = ne_eqb x.event.0 f.0 (λ h. differ (sym h)) in
    rw (callbacks_of-popped_other x f c differ) (rw no refl)

-- they are to be called now, so each event has the callbacks that it had
pub all_callbacks_of-popped : (x : Entry) (f : EventId) (c : Calendar)
    → all_callbacks_of (popped x c) (Calling x.event (callbacks_of x.event c)) f ≡ all_callbacks_of c Idle f
all_callbacks_of-popped x f c = all_popped x f c (cases_eq f.0 x.event.0)

pub callbacks_in_all-popped : (test : Callback → Bool) (x : Entry) (c : Calendar)
    → callbacks_in_all test (popped x c) (Calling x.event (callbacks_of x.event c)) ≡ callbacks_in_all test c Idle
callbacks_in_all-popped test x c =
    let here : Registration → Bool = λ r. is_at x.event r in
    let passes : Registration → Bool = λ r. test r.callback in
    let both : count_by passes (filter here c.registered) + count_by passes (filter (λ r. not (here r)) c.registered) ≡ count_by passes c.registered = sum_by-filter_both here (λ r. not (here r)) (λ r. refl) (λ r. cond (passes r) 1 0) c.registered in
    omega (arith, both, count_by-map test (λ (r : Registration). r.callback) (filter here c.registered))

-- ---- a callback is called

-- controls that have the same calls left
pub all_callbacks_of-same : (c : Calendar) (k l : Control) (f : EventId) → left_of l ≡ left_of k
    → is_event_of l f ≡ is_event_of k f → all_callbacks_of c l f ≡ all_callbacks_of c k f
all_callbacks_of-same c k l f p q = rw (p, q) refl

pub callbacks_in_all-same : (test : Callback → Bool) (c : Calendar) (k l : Control) → left_of l ≡ left_of k
    → callbacks_in_all test c l ≡ callbacks_in_all test c k
callbacks_in_all-same test c k l p = rw p refl

-- controls of which the first has one call more left, before the others
pub callbacks_in_all-called : (test : Callback → Bool) (c : Calendar) (k l : Control) (x : Callback)
    → left_of k ≡ x ∷ left_of l → callbacks_in_all test c k ≡ one_if (test x) + callbacks_in_all test c l
callbacks_in_all-called test c k l x p = rw p (omega (arith, count_by-cons test x (left_of l)))

at_called : (test : Callback → Bool) (b : Bool) (before left : List Callback) (x : Callback)
    → count_by test (before ++ (if b then x ∷ left else []))
    ≡ one_if (b && test x) + count_by test (before ++ (if b then left else []))
at_called test true before left x = omega (arith, count_by-append test before (x ∷ left), count_by-append test before left, count_by-cons test x left)
at_called test false before left x = omega arith

pub callbacks_at-called : (test : Callback → Bool) (c : Calendar) (k l : Control) (x : Callback) (f : EventId)
    → left_of k ≡ x ∷ left_of l → is_event_of k f ≡ is_event_of l f
    → count_by test (all_callbacks_of c k f) ≡ one_if (is_event_of l f && test x) + count_by test (all_callbacks_of c l f)
callbacks_at-called test c k l x f p q = rw (p, q) (at_called test (is_event_of l f) (callbacks_of f c) (left_of l) x)

-- ---- counts of an event's callbacks, and of all

at_most : (test : Callback → Bool) (f : EventId) (rs : List Registration) → count_by test (calls_at f rs) ≤ count_by (λ r. test r.callback) rs
at_most test f [] = omega arith
at_most test f (r ∷ rs) =
    let passes : Registration → Bool = λ q. test q.callback in
    cond_both (is_at f r) (r ∷ filter (is_at f) rs) (filter (is_at f) rs) (λ xs. count_by test (map (λ (q : Registration). q.callback) xs) ≤ count_by passes (r ∷ rs))
    (λ h. omega (arith, at_most test f rs, count_by-cons passes r rs, count_by-cons test r.callback (calls_at f rs)))
    (λ h. omega (arith, at_most test f rs, count_by-cons passes r rs))

left_at_most : (test : Callback → Bool) (b : Bool) (left : List Callback) → count_by test (if b then left else []) ≤ count_by test left
left_at_most test true left = omega arith
left_at_most test false left = omega arith

pub callbacks_at-most : (test : Callback → Bool) (c : Calendar) (k : Control) (f : EventId) → count_by test (all_callbacks_of c k f) ≤ callbacks_in_all test c k
callbacks_at-most test c k f =
    omega (arith, count_by-append test (callbacks_of f c) (if is_event_of k f then left_of k else []), at_most test f c.registered, left_at_most test (is_event_of k f) (left_of k))

none_called : (b : Bool) (left : List Callback) → left ≡ [] → (if b then left else []) ≡ []
none_called true left h = h
none_called false left h = refl

-- with no call left the callbacks are those registered
pub all_callbacks_of-none : (c : Calendar) (k : Control) (f : EventId) → left_of k ≡ [] → all_callbacks_of c k f ≡ callbacks_of f c
all_callbacks_of-none c k f h = ap (λ xs. callbacks_of f c ++ xs) (none_called (is_event_of k f) (left_of k) h) ∙ append-nil (callbacks_of f c)

-- ---- a process goes on or rests, and the calls left stay

pub left_of-told : (x : Signal) (k : Control) → left_of (told_more x k) ≡ left_of k
left_of-told x Idle = refl
left_of-told x (Calling e left) = refl
left_of-told x (Active e left p y) = refl
left_of-told x (Over why e left) = refl

pub is_event_of-told : (x : Signal) (k : Control) (f : EventId) → is_event_of (told_more x k) f ≡ is_event_of k f
is_event_of-told x Idle f = refl
is_event_of-told x (Calling e left) f = refl
is_event_of-told x (Active e left p y) f = refl
is_event_of-told x (Over why e left) f = refl

pub left_of-rest : (k : Control) → left_of (not_active k) ≡ left_of k
left_of-rest Idle = refl
left_of-rest (Calling e left) = refl
left_of-rest (Active e left p y) = refl
left_of-rest (Over why e left) = refl

pub is_event_of-rest : (k : Control) (f : EventId) → is_event_of (not_active k) f ≡ is_event_of k f
is_event_of-rest Idle f = refl
is_event_of-rest (Calling e left) f = refl
is_event_of-rest (Active e left p y) f = refl
is_event_of-rest (Over why e left) f = refl

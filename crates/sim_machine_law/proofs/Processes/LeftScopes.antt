-- A scope is closed: the requests of all others have their scopes still, and where no request has two scopes only the
-- innermost scope of its process is gone.
use Rattle.std.proofs.Common.{◌≡◌, ◌≢◌, ℕ, Bool, true, false, ◌||◌, ◌&&◌, not, List, [], ◌∷◌, ◌++◌, Option, Some, None, refl, sym, ap, ◌∙◌, if◌then◌else◌, filter, map, reverse, All, AllPairs, inl, inr, ⊎_elim}
use Rattle.std.specs.Prelude.{◌==◌, unwrap_or, is_none}
use Rattle.std.specs.List.{list_any}
use Rattle.std.proofs.lemmas.Bool.{false≢true, and_parts, both_ways, eqb-true, ne_eqb, not_from_false}
use Rattle.std.proofs.lemmas.List.{reverse-append}
use Rattle.std.proofs.lemmas.List.Elements.{All-weaker, All-head, All-tail, All-filter, filter_passes}
use Rattle.sim_types.proofs.Permutations.{AllPairs-head, AllPairs-tail}
use Rattle.sim_types.specs.declared.event.EventId.{EventId}
use Rattle.sim_types.specs.declared.event.ProcId.{ProcId}
use Rattle.sim_machine.specs.State.{OpenScope, Waiter, Want, Slot, Give, Take}
use Rattle.sim_machine.specs.Events.{is_same, is_process}
use Rattle.sim_machine.specs.Users.{first_of_list}
use Rattle.sim_machine.specs.BodyLaw.{without_last}
use Rattle.sim_machine.specs.LawfulWaiting.{AreOfTwo, has_scope, request_has_scope}
use Rattle.sim_machine_law.proofs.Events.EventLaws.{is_same-yes, is_same-self}
use Rattle.sim_machine_law.proofs.KeptParts.KeptTimesCases.{if_cases}
use Rattle.sim_machine_law.proofs.Ledger.TriedQueues.{IsOneOf, one_has, all_one_of}
use Rattle.sim_machine_law.proofs.Processes.OpenedScopes.{of_request, is_that_scope, requests_in}

-- a scope that stays when that of this request is closed
abbrev pub keeps : EventId → OpenScope → Bool
keeps r y = not (is_same y.request r)

-- ---- other requests

fails_by : (a b : Bool) → (a ≡ true → b ≡ true) → b ≡ false → a ≡ false
fails_by true b h out = absurd (both_ways b out (h refl))
fails_by false b h out = refl

pub any_filtered : {X : Type 0} (test stays : X → Bool) (xs : List X) → ((x : X) → test x ≡ true → stays x ≡ true)
    → list_any test (filter stays xs) ≡ list_any test xs
any_filtered test stays [] h = refl
any_filtered test stays (x ∷ xs) h =
    let rest : list_any test (filter stays xs) ≡ list_any test xs = any_filtered test stays xs h in
    if_cases (λ zs. list_any test zs ≡ list_any test (x ∷ xs)) (stays x) (x ∷ filter stays xs) (filter stays xs)
    (λ kept. ap (λ (b : Bool). test x || b) rest)
    (λ out. rest ∙ sym (ap (λ (b : Bool). b || list_any test xs) (fails_by (test x) (stays x) (h x) out)))

-- their scopes stay
pub scope_less : (xs : List OpenScope) (closed r : EventId) (q : ProcId) (res : ℕ) → closed.0 ≢ r.0
    → has_scope xs r q res ≡ true → has_scope (filter (keeps closed) xs) r q res ≡ true
scope_less xs closed r q res differ h =
    any_filtered (is_that_scope r q res) (keeps closed) xs (λ y h. other y (and_parts (is_same y.request r) (is_process y.process q) (and_parts (is_same y.request r && is_process y.process q) (y.res == res) h).0).0) ∙ h
  where
    other : (y : OpenScope) → of_request r y ≡ true → keeps closed y ≡ true
    other y h = not_from_false (is_same y.request closed) (ne_eqb y.request.0 closed.0 (λ same. differ (sym same ∙ eqb-true y.request.0 r.0 h)))

pub request_scope_less : (xs : List OpenScope) (closed : EventId) (w : Waiter) (want : Want) → closed.0 ≢ w.event.0
    → request_has_scope xs w want ≡ true → request_has_scope (filter (keeps closed) xs) w want ≡ true
request_scope_less xs closed w (Slot p key) differ h = scope_less xs closed w.event p w.res differ h
request_scope_less xs closed w (Give amount priority) differ h = refl
request_scope_less xs closed w (Take least greatest) differ h = refl

-- ---- the scope that is closed

pub one_of_filter : {X : Type 0} (test : X → Bool) (xs : List X) (x : X) → IsOneOf (filter test xs) x → IsOneOf xs x
one_of_filter test [] x none = none
one_of_filter test (y ∷ ys) x one =
    if_cases (λ zs. IsOneOf zs x → IsOneOf (y ∷ ys) x) (test y) (y ∷ filter test ys) (filter test ys)
    (λ passes at. ⊎_elim (λ same. inl same) (λ later. inr (one_of_filter test ys x later)) at)
    (λ fails at. inr (one_of_filter test ys x at)) one

-- a request has one scope
pub same_scope : (xs : List OpenScope) (x z : OpenScope) → AllPairs AreOfTwo xs → IsOneOf xs x → IsOneOf xs z → x.request ≡ z.request → x ≡ z
same_scope [] x z k none at same = absurd none
same_scope (y ∷ ys) x z k (inl a) (inl b) same = sym a ∙ b
same_scope (y ∷ ys) x z k (inl a) (inr b) same = absurd (one_has (AreOfTwo y) ys z (AllPairs-head AreOfTwo y ys k) b (ap (λ (v : OpenScope). v.request) a ∙ same))
same_scope (y ∷ ys) x z k (inr a) (inl b) same = absurd (one_has (AreOfTwo y) ys x (AllPairs-head AreOfTwo y ys k) a (ap (λ (v : OpenScope). v.request) b ∙ sym same))
same_scope (y ∷ ys) x z k (inr a) (inr b) same = same_scope ys x z (AllPairs-tail AreOfTwo y ys k) a b same

-- ---- the innermost

first_of_more : {X : Type 0} (xs : List X) (v y : X) → first_of_list ((xs ++ v ∷ []) ++ y ∷ []) ≡ first_of_list (xs ++ v ∷ [])
first_of_more [] v y = refl
first_of_more (x ∷ xs) v y = refl

-- is that of the scopes that were opened later
pub innermost_later : (y v : OpenScope) (ys : List OpenScope) → first_of_list (reverse (y ∷ v ∷ ys)) ≡ first_of_list (reverse (v ∷ ys))
innermost_later y v ys =
    let later : reverse (v ∷ ys) ≡ reverse ys ++ v ∷ [] = reverse-append (v ∷ []) ys in
    ap first_of_list (reverse-append (y ∷ []) (v ∷ ys)) ∙ (ap (λ (zs : List OpenScope). first_of_list (zs ++ y ∷ [])) later ∙ (first_of_more (reverse ys) v y ∙ sym (ap first_of_list later)))

pub none_is_some : (z : OpenScope) → None ≡ Some z → ⊥
none_is_some z h = false≢true (sym (ap (λ (o : Option OpenScope). is_none o) h))

pub one_is_some : (y z : OpenScope) → Some y ≡ Some z → y ≡ z
one_is_some y z h = ap (λ (o : Option OpenScope). unwrap_or o y) h

pub innermost_one : (ys : List OpenScope) (z : OpenScope) → first_of_list (reverse ys) ≡ Some z → IsOneOf ys z
innermost_one [] z h = none_is_some z h
innermost_one (y ∷ []) z h = inl (one_is_some y z h)
innermost_one (y ∷ v ∷ ys) z h = inr (innermost_one (v ∷ ys) z (sym (innermost_later y v ys) ∙ h))

-- of its process all other requests are left
pub innermost_left : (ys : List OpenScope) (z : OpenScope) → AllPairs AreOfTwo ys → first_of_list (reverse ys) ≡ Some z
    → map (λ (x : OpenScope). x.request) (filter (keeps z.request) ys) ≡ without_last (map (λ (x : OpenScope). x.request) ys)
innermost_left [] z k h = absurd (none_is_some z h)
innermost_left (y ∷ []) z k h =
    let out : keeps z.request y ≡ false = ap (λ (v : OpenScope). keeps z.request v) (one_is_some y z h) ∙ ap not (is_same-self z.request) in
    ap (λ (b : Bool). map (λ (x : OpenScope). x.request) (if b then y ∷ [] else [])) out
innermost_left (y ∷ v ∷ ys) z k h =
    let inner : first_of_list (reverse (v ∷ ys)) ≡ Some z = sym (innermost_later y v ys) ∙ h in
    let differ : y.request ≢ z.request = one_has (AreOfTwo y) (v ∷ ys) z (AllPairs-head AreOfTwo y (v ∷ ys) k) (innermost_one (v ∷ ys) z inner) in
    let stays : keeps z.request y ≡ true = not_from_false (is_same y.request z.request) (fails_by (is_same y.request z.request) false (λ same. absurd (differ (is_same-yes y.request z.request same))) refl) in
    ap (λ (b : Bool). map (λ (x : OpenScope). x.request) (if b then y ∷ filter (keeps z.request) (v ∷ ys) else filter (keeps z.request) (v ∷ ys))) stays
    ∙ ap (λ (es : List EventId). y.request ∷ es) (innermost_left (v ∷ ys) z (AllPairs-tail AreOfTwo y (v ∷ ys) k) inner)

-- ---- one test after the other

swap_at : {X : Type 0} (p q : X → Bool) (x : X) (xs : List X) → filter p (filter q xs) ≡ filter q (filter p xs)
    → (a b : Bool) → p x ≡ a → q x ≡ b
    → filter p (if b then x ∷ filter q xs else filter q xs) ≡ filter q (if a then x ∷ filter p xs else filter p xs)
swap_at p q x xs h true true pa qb = rw (pa, qb) (ap (λ zs. x ∷ zs) h)
swap_at p q x xs h true false pa qb = rw qb h
swap_at p q x xs h false true pa qb = rw pa h
swap_at p q x xs h false false pa qb = h

pub filter_swap : {X : Type 0} (p q : X → Bool) (xs : List X) → filter p (filter q xs) ≡ filter q (filter p xs)
filter_swap p q [] = refl
filter_swap p q (x ∷ xs) = swap_at p q x xs (filter_swap p q xs) (p x) (q x) refl refl

filter_all : {X : Type 0} (p : X → Bool) (xs : List X) → All (λ x. p x ≡ true) xs → filter p xs ≡ xs
filter_all p [] h = refl
filter_all p (x ∷ xs) h = rw (All-head (λ y. p y ≡ true) x xs h) (ap (λ zs. x ∷ zs) (filter_all p xs (All-tail (λ y. p y ≡ true) x xs h)))

-- the scopes of another process stay
pub scopes_elsewhere : (xs : List OpenScope) (z : OpenScope) (q : ProcId) → AllPairs AreOfTwo xs → IsOneOf xs z
    → is_process z.process q ≡ false
    → filter (λ x. is_process x.process q) (filter (keeps z.request) xs) ≡ filter (λ x. is_process x.process q) xs
scopes_elsewhere xs z q k one apart =
    let test : OpenScope → Bool = λ x. is_process x.process q in
    let all : All (λ y. test y ≡ true → keeps z.request y ≡ true) xs = All-weaker (IsOneOf xs) (λ y. test y ≡ true → keeps z.request y ≡ true) (λ y at is. stays y at is) xs (all_one_of xs) in
    let kept : All (λ y. keeps z.request y ≡ true) (filter test xs) = λ n y below. All-filter test (λ v. test v ≡ true → keeps z.request v ≡ true) xs all n y below (filter_passes test xs n y below) in
    filter_swap test (keeps z.request) xs ∙ filter_all (keeps z.request) (filter test xs) kept
  where
    stays : (y : OpenScope) → IsOneOf xs y → is_process y.process q ≡ true → keeps z.request y ≡ true
    stays y at is =
        not_from_false (is_same y.request z.request) (fails_by (is_same y.request z.request) false (λ same. absurd (both_ways (is_process z.process q) apart (ap (λ (v : OpenScope). is_process v.process q) (sym (same_scope xs y z k at one (is_same-yes y.request z.request same))) ∙ is))) refl)

-- and so their requests do
pub requests_elsewhere : (xs : List OpenScope) (z : OpenScope) (q : ProcId) → AllPairs AreOfTwo xs → IsOneOf xs z
    → is_process z.process q ≡ false → requests_in q (filter (keeps z.request) xs) ≡ requests_in q xs
requests_elsewhere xs z q k one apart = ap (map (λ (x : OpenScope). x.request)) (scopes_elsewhere xs z q k one apart)

-- and those of its own but the innermost
pub requests_left : (xs : List OpenScope) (z : OpenScope) (p : ProcId)
    → AllPairs AreOfTwo (filter (λ x. is_process x.process p) xs)
    → first_of_list (reverse (filter (λ x. is_process x.process p) xs)) ≡ Some z
    → requests_in p (filter (keeps z.request) xs) ≡ without_last (requests_in p xs)
requests_left xs z p k h =
    let test : OpenScope → Bool = λ x. is_process x.process p in
    ap (map (λ (x : OpenScope). x.request)) (filter_swap test (keeps z.request) xs) ∙ innermost_left (filter test xs) z k h

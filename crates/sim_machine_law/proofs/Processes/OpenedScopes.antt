-- A scope more is open: the requests of all others have their scopes still, the new one has its own, and the process that
-- opened it knows of it.
use Rattle.std.proofs.Common.{◌≡◌, ℕ, Bool, true, false, ◌&&◌, List, [], ◌∷◌, ◌++◌, refl, ap, ◌∙◌, if◌then◌else◌, filter, map}
use Rattle.std.specs.Prelude.{◌==◌}
use Rattle.std.specs.List.{list_any}
use Rattle.std.proofs.lemmas.Bool.{and_from, or_left, or_right, eq-eqb}
use Rattle.std.proofs.lemmas.List.Elements.{filter-append}
use Rattle.std.proofs.lemmas.List.Folds.{list_any-append}
use Rattle.std.proofs.lemmas.List.{map-append}
use Rattle.sim_types.specs.declared.event.EventId.{EventId}
use Rattle.sim_types.specs.declared.event.ProcId.{ProcId}
use Rattle.sim_machine.specs.State.{OpenScope, Waiter, Want, Slot, Give, Take}
use Rattle.sim_machine.specs.Events.{is_same, is_process}
use Rattle.sim_machine.specs.LawfulWaiting.{has_scope, request_has_scope}
use Rattle.sim_machine_law.proofs.Events.EventLaws.{is_same-self}
use Rattle.sim_machine_law.proofs.KeptParts.KeptProcessesParts.{is_process-self}

abbrev pub of_request : EventId → OpenScope → Bool
of_request r x = is_same x.request r

abbrev pub is_that_scope : EventId → ProcId → ℕ → OpenScope → Bool
is_that_scope r q res x = is_same x.request r && is_process x.process q && (x.res == res)

-- the scopes that were open are open
pub scope_more : (xs : List OpenScope) (z : OpenScope) (r : EventId) (q : ProcId) (res : ℕ) → has_scope xs r q res ≡ true
    → has_scope (xs ++ z ∷ []) r q res ≡ true
scope_more xs z r q res h = list_any-append (is_that_scope r q res) xs (z ∷ []) ∙ or_left (list_any (is_that_scope r q res) xs) (list_any (is_that_scope r q res) (z ∷ [])) h

-- a new request has the scope that is opened for it
pub scope_opened : (xs : List OpenScope) (r : EventId) (q : ProcId) (res : ℕ)
    → has_scope (xs ++ record { process = q; request = r; res = res } ∷ []) r q res ≡ true
scope_opened xs r q res =
    let z : OpenScope = record { process = q; request = r; res = res } in
    let that : is_that_scope r q res z ≡ true = and_from (is_same r r && is_process q q) (res == res) (and_from (is_same r r) (is_process q q) (is_same-self r) (is_process-self q)) (eq-eqb res res refl) in
    list_any-append (is_that_scope r q res) xs (z ∷ []) ∙ or_right (list_any (is_that_scope r q res) xs) (list_any (is_that_scope r q res) (z ∷ [])) (or_left (is_that_scope r q res z) false that)

-- and so has what waits
pub request_scope_more : (xs : List OpenScope) (z : OpenScope) (w : Waiter) (want : Want)
    → request_has_scope xs w want ≡ true → request_has_scope (xs ++ z ∷ []) w want ≡ true
request_scope_more xs z w (Slot p key) h = scope_more xs z w.event p w.res h
request_scope_more xs z w (Give amount priority) h = refl
request_scope_more xs z w (Take least greatest) h = refl

if_mapped : (b : Bool) (z : OpenScope) → map (λ (x : OpenScope). x.request) (if b then z ∷ [] else []) ≡ (if b then z.request ∷ [] else [])
if_mapped true z = refl
if_mapped false z = refl

abbrev pub requests_in : ProcId → List OpenScope → List EventId
requests_in q xs = map (λ x. x.request) (filter (λ x. is_process x.process q) xs)

-- the requests of a process
pub requests_more : (xs : List OpenScope) (z : OpenScope) (q : ProcId)
    → requests_in q (xs ++ z ∷ []) ≡ requests_in q xs ++ (if is_process z.process q then z.request ∷ [] else [])
requests_more xs z q =
    let test : OpenScope → Bool = λ x. is_process x.process q in
    ap (map (λ (x : OpenScope). x.request)) (filter-append test xs (z ∷ []))
    ∙ (map-append (λ (x : OpenScope). x.request) (filter test xs) (filter test (z ∷ [])) ∙ ap (λ (es : List EventId). requests_in q xs ++ es) (if_mapped (is_process z.process q) z))

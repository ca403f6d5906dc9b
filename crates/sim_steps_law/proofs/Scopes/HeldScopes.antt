-- A scope in the record of a process is found among those that the machine has open, and so a request of it is released early.
use Rattle.std.proofs.Common.{◌≡◌, ℕ, Bool, true, false, List, [], ◌∷◌, refl, sym, ap, subst, ◌∙◌, map, filter, inl, inr, Option, Some, None, cond}
use Rattle.std.specs.Prelude.{AllPairs, ◌==◌, find, reverse, option_and_then, IsSome, IsSomeAnd}
use Rattle.std.proofs.lemmas.Bool.{false≢true}
use Rattle.std.proofs.lemmas.Option.{none-some, same_Some}
use Rattle.sim_types.specs.declared.event.EventId.{EventId}
use Rattle.sim_types.specs.declared.event.ProcId.{ProcId}
use Rattle.sim_types.specs.declared.event.Scope.{Scope}
use Rattle.sim_types.specs.declared.event.Signal.TheVariants as signal
use Rattle.sim_types.proofs.Permutations.{AllPairs-head, AllPairs-tail}
use Rattle.sim_machine.specs.State.{Facilities, OpenScope, State}
use Rattle.sim_machine.specs.Events.{is_process, is_same}
use Rattle.sim_machine.specs.Processes.{tell, told_more}
use Rattle.sim_machine.specs.Requests as requests
use Rattle.sim_machine.specs.Bodies.{BodyOf}
use Rattle.sim_machine.specs.Scopes.{on_facilities, release_if_any, release_request}
use Rattle.sim_machine.specs.Users.{first_of_list}
use Rattle.sim_machine.specs.LawfulWaiting.{AreOfTwo}
use Rattle.sim_machine_law.proofs.Events.EventLaws.{is_same-yes}
use Rattle.sim_machine_law.proofs.Processes.LeftScopes.{innermost_one, one_of_filter}
use Rattle.sim_machine_law.proofs.Ledger.TriedQueues.{IsOneOf, one_has}
use Rattle.sim_procs.specs.RecordOf.{RecordOf, record_of, innermost, scope_of}
use Rattle.sim_happen_model.specs.HappenOf.{unheld_event}
use Rattle.sim_shared_model.specs.SharedOf.{SharedOf}
use Rattle.sim_shared_model.specs.ShowsAll.{TurnsAll}
use Rattle.sim_accounts.proofs.FacilityChanges.{plainly_released}
use Rattle.sim_steps_model.specs.PartsOf.{PartsOf}
use Rattle.sim_steps_model.specs.StandsFor.{scopes_of}
use Rattle.sim_steps_model.specs.Dropping.{CanBeLeft, CanLeave}
use Rattle.sim_steps_model.specs.Resources.{TakesRequests}
use Rattle.sim_steps_model.specs.Becoming.{Stands, Becomes}
use Rattle.sim_steps_law.proofs.Kernels.Keeping.{adds_unheld}
use Rattle.sim_steps_law.proofs.Kernels.Accounting.{keeps_unheld}
use Rattle.sim_steps_law.proofs.Kernels.Running.{mapped_is}
use Rattle.sim_steps_law.proofs.Kernels.Becoming.{becomes_then, becomes_as, becomes_told, becomes_turned_all}
use Rattle.sim_steps_law.proofs.Ends.Ending.{scopes_found}
use Rattle.sim_steps_law.proofs.Scopes.EnteredScopes.{scope_in, innermost_mapped}

-- a scope that was picked out of the record of a process
pub found_scope : {B : Type 0} (pick : List Scope → Option Scope) (o : Option (RecordOf B)) (x : Scope) →
    Some x ≡ option_and_then (λ q. pick q.scopes) o →
    (r : RecordOf B) × (o ≡ Some r) × (pick r.scopes ≡ Some x)
found_scope pick None x h = absurd (none-some x (sym h))
found_scope pick (Some r) x h = (r, refl, sym h)

-- ---- the innermost scope of a process

module _ {B Code : Type 0} (a : PartsOf B Code) (p : ProcId) (r : RecordOf B) (found : record_of p a.live ≡ Some r) where
  -- the innermost of the record
  pub innermost_found : (x : Scope) → innermost r.scopes ≡ Some x → (s : State B) → Stands a s →
      (z : OpenScope) × (first_of_list (reverse (filter (λ v. is_process v.process p) s.scopes)) ≡ Some z) × (scope_in z ≡ x)
  innermost_found x last s h =
      let own : scopes_of p s ≡ r.scopes = scopes_found p a.live r s found h.stands.scopes in
      mapped_is scope_in (first_of_list (reverse (filter (λ v. is_process v.process p) s.scopes))) x
      (sym (innermost_mapped (filter (λ v. is_process v.process p) s.scopes)) ∙ (ap innermost own ∙ last))

  -- none where the record has none
  pub none_found : r.scopes ≡ [] → (s : State B) → Stands a s → filter (λ v. is_process v.process p) s.scopes ≡ []
  none_found none s h = no_elements (filter (λ v. is_process v.process p) s.scopes) (scopes_found p a.live r s found h.stands.scopes ∙ none)
    where
      no_elements : (xs : List OpenScope) → map scope_in xs ≡ [] → xs ≡ []
      no_elements [] k = refl
      no_elements (y ∷ ys) k = cc

-- the innermost is one of those that are open
pub innermost_among : {B : Type 0} (p : ProcId) (s : State B) (z : OpenScope) →
    first_of_list (reverse (filter (λ v. is_process v.process p) s.scopes)) ≡ Some z → IsOneOf s.scopes z
innermost_among p s z first =
    one_of_filter (λ v. is_process v.process p) s.scopes z (innermost_one (filter (λ v. is_process v.process p) s.scopes) z first)

-- ---- the scope of a request

-- the scope that is found in the record is one of the machine
found_own : (request : EventId) (test : OpenScope → Bool) (xs : List OpenScope) (x : Scope) →
    find (λ (v : Scope). v.request.0 == request.0) (map scope_in (filter test xs)) ≡ Some x →
    (z : OpenScope) × IsOneOf (filter test xs) z × (scope_in z ≡ x) × (is_same x.request request ≡ true)
found_own request test xs x h = go (filter test xs) h
  where
    at : (y : OpenScope) (ys : List OpenScope) (v : Bool) → (y.request.0 == request.0) ≡ v →
        cond v (Some (scope_in y)) (find (λ (w : Scope). w.request.0 == request.0) (map scope_in ys)) ≡ Some x →
        (find (λ (w : Scope). w.request.0 == request.0) (map scope_in ys) ≡ Some x →
        (z : OpenScope) × IsOneOf ys z × (scope_in z ≡ x) × (is_same x.request request ≡ true)) →
        (z : OpenScope) × IsOneOf (y ∷ ys) z × (scope_in z ≡ x) × (is_same x.request request ≡ true)
    at y ys true is k later =
        let same : scope_in y ≡ x = same_Some (scope_in y) x k in
        (y, inl refl, same, subst (λ (w : Scope). is_same w.request request ≡ true) same is)
    at y ys false is k later = let z = later k in (z.0, inr z.1, z.2, z.3)

    go : (ys : List OpenScope) → find (λ (v : Scope). v.request.0 == request.0) (map scope_in ys) ≡ Some x →
        (z : OpenScope) × IsOneOf ys z × (scope_in z ≡ x) × (is_same x.request request ≡ true)
    go [] k = absurd (none-some x k)
    go (y ∷ ys) k = at y ys (y.request.0 == request.0) refl k (go ys)

-- among scopes of different requests the first that is found is this one
found_only : (request : EventId) (xs : List OpenScope) (z : OpenScope) → AllPairs AreOfTwo xs → IsOneOf xs z → is_same z.request request ≡ true →
    find (λ v. is_same v.request request) xs ≡ Some z
found_only request [] z apart none is = absurd none
found_only request (y ∷ ys) z apart (inl same) is = rw (ap (λ (v : OpenScope). is_same v.request request) same ∙ is) (ap (λ v. Some v) same)
found_only request (y ∷ ys) z apart (inr later) is =
    let other : is_same y.request request ≡ false = fails (is_same y.request request)
    (λ k. one_has (AreOfTwo y) ys z (AllPairs-head AreOfTwo y ys apart) later
    (is_same-yes y.request request k ∙ sym (is_same-yes z.request request is))) in
    rw other (found_only request ys z (AllPairs-tail AreOfTwo y ys apart) later is)
  where
    fails : (b : Bool) → (b ≡ true → ⊥) → b ≡ false
    fails true h = absurd (h refl)
    fails false h = refl

-- ---- a request is released

pub released_becomes : {B Code : Type 0} {body : BodyOf B Code} (a n : PartsOf B Code)
    (p : ProcId) (r : RecordOf B) (request : EventId) (x : Scope) (y : SharedOf) →
    record_of p a.live ≡ Some r → scope_of request r.scopes ≡ Some x → TurnsAll (requests.make_release x.res request) unheld_event a.shared y →
    n ≡ record a { shared = y; control = told_more signal.Done a.control } → Becomes body (λ s. tell signal.Done (release_request request s)) a n
released_becomes {B} {Code} {body} a n p r request x y found scope released is =
    let b : PartsOf B Code = record a { shared = y } in
    let change : Facilities → Facilities = requests.make_release x.res request in
    let release : State B → State B = on_facilities change in
    subst (Becomes body (λ s. tell signal.Done (release_request request s)) a) (sym is)
    (becomes_as (λ s. tell signal.Done (release s)) (λ s. tell signal.Done (release_request request s)) a _ (λ s h. ap (tell signal.Done) (same s h))
    (becomes_then release (tell signal.Done) a b _
    (becomes_turned_all change unheld_event a y (adds_unheld 1) (keeps_unheld 1) (plainly_released x.res request) released)
    (becomes_told signal.Done b)))
  where
    same : (s : State B) → Stands a s → on_facilities (requests.make_release x.res request) s ≡ release_request request s
    same s h =
        let test : OpenScope → Bool = λ v. is_process v.process p in
        let own : scopes_of p s ≡ r.scopes = scopes_found p a.live r s found h.stands.scopes in
        let z = found_own request test s.scopes x (ap (scope_of request) own ∙ scope) in
        let of : is_same z.0.request request ≡ true = ap (λ (w : Scope). is_same w.request request) z.2 ∙ z.3 in
        let only : find (λ v. is_same v.request request) s.scopes ≡ Some z.0 =
        found_only request s.scopes z.0 h.apart (one_of_filter test s.scopes z.0 z.1) of in
        let it : z.0.request ≡ request = is_same-yes z.0.request request of in
        ap (λ (q : ℕ). on_facilities (requests.make_release q request) s) (ap (λ (w : Scope). w.res) (sym z.2))
        ∙ (ap (λ (f : EventId). on_facilities (requests.make_release z.0.res f) s) (sym it)
        ∙ ap (λ (o : Option OpenScope). release_if_any o s) (sym only))

-- a request in an open scope of the process was made at a resource that takes requests
pub releases_at : {B Code : Type 0} {body : BodyOf B Code} (a : PartsOf B Code) (p : ProcId) (r : RecordOf B) (request : EventId) →
    record_of p a.live ≡ Some r →
    IsSome (scope_of request r.scopes) → CanLeave body a →
    IsSomeAnd (option_and_then (λ q. scope_of request q.scopes) (record_of p a.live)) (λ x. TakesRequests x.res a)
releases_at {B} {Code} a p r request found some can = rw found (at (scope_of request r.scopes) refl some)
  where
    takes : (x : Scope) → scope_of request r.scopes ≡ Some x → TakesRequests x.res a
    takes x is =
        let s : State B = can.state in
        let test : OpenScope → Bool = λ v. is_process v.process p in
        let own : scopes_of p s ≡ r.scopes = scopes_found p a.live r s found can.stands.stands.scopes in
        let z = found_own request test s.scopes x (ap (scope_of request) own ∙ is) in
        let leaves : CanBeLeft a.setup.resources s.facilities z.0 =
        one_has (CanBeLeft a.setup.resources s.facilities) s.scopes z.0 can.each (one_of_filter test s.scopes z.0 z.1) in
        subst (λ (v : Scope). TakesRequests v.res a) z.2 (record { within = leaves.there; slots = leaves.slots })

    at : (o : Option Scope) → scope_of request r.scopes ≡ o → IsSome o → IsSomeAnd o (λ x. TakesRequests x.res a)
    at None is k = absurd (false≢true k)
    at (Some x) is k = takes x is

-- A request that no test finds is none of those of a desk.
use Rattle.std.proofs.Common.{◌≡◌, ◌≢◌, Bool, true, false, List, [], ◌∷◌, refl, sym, ◌∙◌, All}
use Rattle.std.specs.List.{list_any}
use Rattle.std.proofs.lemmas.List.Elements.{All-nil, All-cons}
use Rattle.sim_types.specs.declared.event.EventId.{EventId}
use Rattle.sim_machine.specs.Events.{is_same}
use Rattle.sim_machine.specs.State.{User}
use Rattle.sim_shared_model.specs.declared.desk.WaitingRequest.{WaitingRequest}
use Rattle.sim_shared_model.proofs.LeftOut.{same_self}

not_both : true ≡ false → ⊥
not_both h = cc

differs : (e f : EventId) → is_same e f ≡ false → e ≢ f
differs e f differ = λ same. not_both (sym (rw same (same_self f)) ∙ differ)

none_of : {X : Type 0} (request_of : X → EventId) (request : EventId) (xs : List X) → list_any (λ x. is_same (request_of x) request) xs ≡ false →
    All (λ x. request_of x ≢ request) xs
none_of request_of request [] h = All-nil (λ x. request_of x ≢ request)
none_of {X} request_of request (x ∷ xs) h = by (is_same (request_of x) request) refl (none_of request_of request xs) h
  where
    by : (b : Bool) → is_same (request_of x) request ≡ b →
        (list_any (λ y. is_same (request_of y) request) xs ≡ false → All (λ y. request_of y ≢ request) xs) →
        list_any (λ y. is_same (request_of y) request) (x ∷ xs) ≡ false → All (λ y. request_of y ≢ request) (x ∷ xs)
    by true is rest h = absurd (not_both (rw is at h))
    by false is rest h = All-cons (λ y. request_of y ≢ request) x xs (differs (request_of x) request is) (rest (rw is at h))

-- it does not wait
pub none_of_queue : (request : EventId) (ws : List WaitingRequest) → list_any (λ w. is_same w.request request) ws ≡ false → All (λ w. w.request ≢ request) ws
none_of_queue request ws h = none_of (λ w. w.request) request ws h

-- it is no user
pub none_of_users : (request : EventId) (us : List User) → list_any (λ u. is_same u.request request) us ≡ false → All (λ u. u.request ≢ request) us
none_of_users request us h = none_of (λ u. u.request) request us h

-- Requests that are remembered as preempted: one more of them, and one fewer.
use Rattle.std.proofs.Common.{◌≡◌, ◌≢◌, ◌<◌, ◌⊎◌, inl, inr, ℕ, List, [], ◌∷◌, ◌++◌, length, Option, Some, None, not, true, false, refl, get_or, sym, ap, subst, ◌∙◌, arith, set, All}
use Rattle.std.specs.Prelude.{slice_get}
use Rattle.std.proofs.lemmas.Bool.{cases_eq, false≢true}
use Rattle.std.proofs.lemmas.List.{length-set, get_or-set_same, get_or-set_other}
use Rattle.std.proofs.lemmas.List.Elements.{All-push, All-filter, All-weaker, filter_passes}
use Rattle.std.proofs.lemmas.Option.{slice_get_within, get_or_from_slice_get, slice_get-get_or, same_Some}
use Rattle.sim_types.specs.declared.event.EventId.{EventId}
use Rattle.sim_machine.specs.State.{User}
use Rattle.sim_machine.specs.Events.{is_same}
use Rattle.sim_shared_model.specs.Attempts.{users_but}
use Rattle.sim_shared_model.proofs.LeftOut.{same_no, same_self}
use Rattle.sim_resource.specs.PreemptedOf.{PreemptedOf, place_of_request, IsRemembered, NoUserIsRemembered}

-- what stands at a place after a write: it is what was written, or stood there before, elsewhere
after_write : {X : Type 0} (xs : List X) (i j : ℕ) (x y : X) → slice_get (set xs i x) j ≡ Some y →
    ((j ≡ i) × (x ≡ y)) ⊎ ((j ≢ i) × (slice_get xs j ≡ Some y))
after_write {X} xs i j x y h =
    let written = get_or_from_slice_get (set xs i x) j y y h in
    let below : j < length xs = omega (arith, slice_get_within (set xs i x) j y h, length-set xs i x) in
    elim (cases_eq j i) [
      | inl at ↦ inl (at, sym (get_or-set_same xs i x y (subst (λ n. n < length xs) at below)) ∙ subst (λ n. get_or (set xs i x) n y ≡ y) at written)
      | inr off ↦ inr (off, slice_get-get_or xs j y below ∙ ap (λ (z : X). Some z) (sym (get_or-set_other xs i j x y off) ∙ written))
    ]

-- the place of a request is given to this
abbrev pub with_place : EventId → Option EventId → PreemptedOf → PreemptedOf
with_place request remembered p = record p { places = set p.places (place_of_request p.lowest_bits request) remembered }

pub one_more : (p : PreemptedOf) (request other : EventId) → IsRemembered (with_place request (Some request) p) other → other ≢ request → IsRemembered p other
one_more p request other h differ =
    elim (after_write p.places (place_of_request p.lowest_bits request) (place_of_request p.lowest_bits other) (Some request) (Some other) h) [
      | inl here ↦ absurd (differ (sym (same_Some request other here.1)))
      | inr there ↦ there.1
    ]

pub one_fewer : (p : PreemptedOf) (request other : EventId) → IsRemembered (with_place request None p) other → (other ≢ request) × IsRemembered p other
one_fewer p request other h =
    elim (after_write p.places (place_of_request p.lowest_bits request) (place_of_request p.lowest_bits other) None (Some other) h) [
      | inl here ↦ absurd (nothing other here.1)
      | inr there ↦ ((λ same. there.0 (ap (place_of_request p.lowest_bits) same)), there.1)
    ]
  where
    nothing : (e : EventId) → None ≡ Some e → ⊥
    nothing e h = cc

-- ---- users

-- a user more, whose request is remembered no longer
pub none_put : (p q : PreemptedOf) (us : List User) (u : User) → ((r : EventId) → IsRemembered q r → (r ≢ u.request) × IsRemembered p r) →
    NoUserIsRemembered p us → NoUserIsRemembered q (us ++ u ∷ [])
none_put p q us u fewer none =
    All-push (λ v. IsRemembered q v.request → ⊥) us u
    (All-weaker (λ v. IsRemembered p v.request → ⊥) (λ v. IsRemembered q v.request → ⊥) (λ v no yes. no (fewer v.request yes).1) us none)
    (λ yes. (fewer u.request yes).0 refl)

-- fewer users
pub none_left : (p : PreemptedOf) (request : EventId) (us : List User) → NoUserIsRemembered p us → NoUserIsRemembered p (users_but request us)
none_left p request us none = All-filter (λ u. not (is_same u.request request)) (λ u. IsRemembered p u.request → ⊥) us none

-- no request of a user is remembered, so one that is has no user
pub not_used : (p : PreemptedOf) (request : EventId) (us : List User) → NoUserIsRemembered p us → IsRemembered p request →
    All (λ u. is_same u.request request ≡ false) us
not_used p request us none remembered =
    All-weaker (λ u. IsRemembered p u.request → ⊥) (λ u. is_same u.request request ≡ false)
    (λ u no. same_no u.request request (λ same. no (subst (IsRemembered p) (sym same) remembered))) us none

differs : (e f : EventId) → not (is_same e f) ≡ true → e ≢ f
differs e f h same = false≢true (sym (ap not (same_self f)) ∙ subst (λ x. not (is_same x f) ≡ true) same h)

-- the user whose request is remembered since now is a user no longer
pub none_preempted : (p q : PreemptedOf) (request : EventId) (us : List User) →
    ((r : EventId) → IsRemembered q r → r ≢ request → IsRemembered p r) → NoUserIsRemembered p us → NoUserIsRemembered q (users_but request us)
none_preempted p q request us more none = λ n d below yes.
    let u : User = get_or (users_but request us) n d in
    let other = differs u.request request (filter_passes (λ v. not (is_same v.request request)) us n d below) in
    none_left p request us none n d below (more u.request yes other)

-- Resources in their places, and what the type keeps once one of them has changed.
use Rattle.std.proofs.Common.{◌≡◌, ◌≢◌, ℕ, zero, suc, ◌<◌, pos, List, [], ◌∷◌, length, refl, sym, subst, ap, ◌∙◌, ⊎_elim, Option, Some, None, map, slice_get, slice_set}
use Rattle.std.specs.Prelude.{IfSome, slice_index_or}
use Rattle.std.specs.Option.{option_map}
use Rattle.std.proofs.lemmas.Bool.{cases_eq}
use Rattle.std.proofs.lemmas.Option.{none-some, same_Some, slice_get-map, slice_get-get_or, slice_get_within, get_or_from_slice_get}
use Rattle.std.proofs.lemmas.List.{length-map}
use Rattle.std.proofs.Math.Seq.{map-set_same}
use Rattle.sim_types.specs.declared.setup.Resource.{Resource}
use Rattle.sim_types.specs.declared.setup.ResourceKind.TheVariants as resource
use Rattle.sim_machine.specs.Users.{resource_at}
use Rattle.sim_shared_model.specs.AnyShared.{SharedResource}
use Rattle.sim_shared_model.specs.declared.resource.AnyResource.TheVariants.{Desk, Tank, Shelf}
use Rattle.sim_shared_model.specs.Resources.{HasPlace, declared_as, without_opening, without_room}
use Rattle.sim_shared_model.specs.Places.{HavePlaces, IsSoundShared}

-- ---- lists

pub got_set : {X : Type 0} (xs : List X) (n : ℕ) (x y : X) → slice_get xs n ≡ Some x → slice_get (slice_set xs n y) n ≡ Some y
got_set [] n x y h = absurd (none-some x h)
got_set (z ∷ xs) zero x y h = refl
got_set (z ∷ xs) (suc n) x y h = got_set xs n x y h

pub got_other : {X : Type 0} (xs : List X) (n m : ℕ) (y : X) → m ≢ n → slice_get (slice_set xs n y) m ≡ slice_get xs m
got_other [] n m y differ = refl
got_other (z ∷ xs) zero zero y differ = absurd (differ refl)
got_other (z ∷ xs) zero (suc m) y differ = refl
got_other (z ∷ xs) (suc n) zero y differ = refl
got_other (z ∷ xs) (suc n) (suc m) y differ = got_other xs n m y (λ same. differ (ap suc same))

pub length_set : {X : Type 0} (xs : List X) (n : ℕ) (y : X) → length (slice_set xs n y) ≡ length xs
length_set [] n y = refl
length_set (z ∷ xs) zero y = refl
length_set (z ∷ xs) (suc n) y = ap suc (length_set xs n y)

-- what holds of the changed place and of all others holds of all
pub at_each : {X : Type 0} (P : ℕ → X → Type 0) (xs : List X) (n : ℕ) (x y : X) → slice_get xs n ≡ Some x → P n y →
    ((m : ℕ) (z : X) → m ≢ n → slice_get xs m ≡ Some z → P m z) → (m : ℕ) (z : X) → slice_get (slice_set xs n y) m ≡ Some z → P m z
at_each {X} P xs n x y there here others m z found = ⊎_elim
    (λ (same : m ≡ n). subst (λ k. P k z) (sym same)
    (subst (P n) (same_Some y z (sym (got_set xs n x y there) ∙ subst (λ k. slice_get (slice_set xs n y) k ≡ Some z) same found)) here))
    (λ (other : m ≢ n). others m z other (sym (got_other xs n m y other) ∙ found))
    (cases_eq m n)

-- ---- kind and capacity

pub same_length : (xs : List SharedResource) (rs : List Resource) → map declared_as xs ≡ map without_opening rs → length xs ≡ length rs
same_length xs rs h = sym (length-map xs declared_as) ∙ (ap length h ∙ length-map rs without_opening)

-- a resource is of the kind and capacity that the setup says
pub declared_at : (xs : List SharedResource) (rs : List Resource) (n : ℕ) (x : SharedResource) → map declared_as xs ≡ map without_opening rs →
    slice_get xs n ≡ Some x → declared_as x ≡ without_opening (resource_at rs n)
declared_at xs rs n x h there =
    let none : Resource = record { kind = resource.Plain; capacity = pos 0; opening = pos 0 } in
    let within : n < length rs = subst (λ k. n < k) (same_length xs rs h) (slice_get_within xs n x there) in
    same_Some (declared_as x) (without_opening (resource_at rs n))
    (ap (option_map declared_as) (sym there) ∙ (sym (slice_get-map declared_as xs n) ∙ (ap (λ ys. slice_get ys n) h
    ∙ (slice_get-map without_opening rs n ∙ ap (option_map without_opening) (slice_get-get_or rs n none within)))))

-- room is nothing to them
declared_without : (x : SharedResource) → declared_as (without_room x) ≡ declared_as x
declared_without (Desk d) = refl
declared_without (Tank t) = refl
declared_without (Shelf s) = refl

pub declared_alike : (x y : SharedResource) → without_room y ≡ without_room x → declared_as y ≡ declared_as x
declared_alike x y h = sym (declared_without y) ∙ (ap declared_as h ∙ declared_without x)

-- ---- places

places_set : (old new : Option ℕ) (xs : List SharedResource) (n : ℕ) (x y : SharedResource) → slice_get xs n ≡ Some x →
    IfSome new (λ m. m < length xs) → ((m : ℕ) → m ≢ n → new ≢ Some m → old ≢ Some m) → (new ≢ Some n → HasPlace y) →
    HavePlaces old xs → HavePlaces new (slice_set xs n y)
places_set old new xs n x y there within others here h = record {
  within = subst (λ k. IfSome new (λ m. m < k)) (sym (length_set xs n y)) within;
  others = at_each (λ m z. new ≢ Some m → HasPlace z) xs n x y there here (λ m z differ found unused. h.others m z found (others m differ unused));
}

sound_with : (old new : Option ℕ) (xs : List SharedResource) (rs : List Resource) (n : ℕ) (x y : SharedResource) → slice_get xs n ≡ Some x →
    declared_as y ≡ declared_as x → HavePlaces new (slice_set xs n y) → IsSoundShared old xs rs → IsSoundShared new (slice_set xs n y) rs
sound_with old new xs rs n x y there same places h = record {
  opened = map-set_same declared_as xs n y x (same ∙ ap declared_as (sym (get_or_from_slice_get xs n x x there))) ∙ h.opened;
  fit = h.fit;
  few = h.few;
  places = places;
}

-- one changes that still has its place, if it had it
pub sound_set : (used : Option ℕ) (xs : List SharedResource) (rs : List Resource) (n : ℕ) (x y : SharedResource) → slice_get xs n ≡ Some x →
    declared_as y ≡ declared_as x → (HasPlace x → HasPlace y) → IsSoundShared used xs rs → IsSoundShared used (slice_set xs n y) rs
sound_set used xs rs n x y there same keeps h =
    sound_with used used xs rs n x y there same
    (places_set used used xs n x y there h.places.within (λ m differ unused. unused) (λ unused. keeps (h.places.others n x there unused)) h.places) h

-- the one that was used has its place again
pub sound_ready : (used : Option ℕ) (xs : List SharedResource) (rs : List Resource) (n : ℕ) (x y : SharedResource) → used ≡ Some n →
    slice_get xs n ≡ Some x → declared_as y ≡ declared_as x → HasPlace y → IsSoundShared used xs rs → IsSoundShared None (slice_set xs n y) rs
sound_ready used xs rs n x y is there same place h =
    sound_with used None xs rs n x y there same
    (places_set used None xs n x y there tt (λ m differ unused was. differ (same_Some m n (sym was ∙ is))) (λ unused. place) h.places) h

-- where none is used, each has its place
pub has_place : (used : Option ℕ) (xs : List SharedResource) (rs : List Resource) (n : ℕ) (x : SharedResource) → used ≡ None →
    slice_get xs n ≡ Some x → IsSoundShared used xs rs → HasPlace x
has_place used xs rs n x none there h = h.places.others n x there (λ is. none-some n (sym none ∙ is))

-- one is used, whose place is taken
pub sound_used : (used : Option ℕ) (xs : List SharedResource) (rs : List Resource) (n : ℕ) (x y : SharedResource) → used ≡ None →
    slice_get xs n ≡ Some x → declared_as y ≡ declared_as x → IsSoundShared used xs rs → IsSoundShared (Some n) (slice_set xs n y) rs
sound_used used xs rs n x y none there same h =
    sound_with used (Some n) xs rs n x y there same
    (places_set used (Some n) xs n x y there (slice_get_within xs n x there) (λ m differ unused was. none-some m (sym none ∙ was)) (λ unused. absurd (unused refl)) h.places) h

-- ---- what an index gives

pub got_is : {X : Type 0} (xs : List X) (n : ℕ) (x : X) → n < length xs → x ≡ slice_index_or xs n x → slice_get xs n ≡ Some x
got_is xs n x within is = slice_get-get_or xs n x within ∙ ap Some (sym is)

-- at a place of the setup
pub got_asked : (xs : List SharedResource) (rs : List Resource) (n : ℕ) (x : SharedResource) → map declared_as xs ≡ map without_opening rs → n < length rs
    → x ≡ slice_index_or xs n x → slice_get xs n ≡ Some x
got_asked xs rs n x opened asked is = got_is xs n x (subst (λ k. n < k) (sym (same_length xs rs opened)) asked) is

-- one is as before but for its room
pub same_but_room : (xs : List SharedResource) (n : ℕ) (x y : SharedResource) → x ≡ slice_index_or xs n x → without_room y ≡ without_room x →
    map without_room (slice_set xs n y) ≡ map without_room xs
same_but_room xs n x y is same = map-set_same without_room xs n y x (same ∙ ap without_room is)

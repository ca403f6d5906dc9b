-- A place for a number has event 0.
use Rattle.std.proofs.Common.{◌≡◌, arith, Bool, true, false, ◌||◌, ◌&&◌, not, List, [], ◌∷◌, map, filter, refl, sym, ap, ◌∙◌, if◌then◌else◌}
use Rattle.std.specs.Prelude.{◌==◌}
use Rattle.std.specs.List.{list_all}
use Rattle.std.proofs.lemmas.Bool.{and_parts, and_from, false≢true}
use Rattle.sim_types.specs.declared.event.EventId.{EventId}
use Rattle.sim_types.specs.declared.event.EventKind.{EventKind}
use Rattle.sim_types.specs.declared.setup.Class.{Class}
use Rattle.sim_types.specs.declared.setup.Class.TheVariants as class
use Rattle.sim_machine.specs.State.{Calendar}
use Rattle.sim_machine.specs.Standing.{was_made, kind_at}
use Rattle.sim_machine.specs.Tellings.{Place, Telling, is_class, kind_fits}
use Rattle.sim_machine.specs.LawfulBodies.{place_fits}
use Rattle.sim_happen_model.specs.Naming.{but_zero, named_in_places}

abbrev is_event_place : Place → Bool
is_event_place y = not (is_class y.class class.Number)

number_fits_none : (k : Class) (x : EventKind) → is_class k class.Number ≡ true → kind_fits k x ≡ false
number_fits_none class.Number x h = refl
number_fits_none _ x h = absurd (false≢true h)

only_first : (a b c : Bool) → c ≡ false → (a || b && c) ≡ true → a ≡ true
only_first a b c none h = grind arith

number_zero : (c : Calendar) (y : Place) → place_fits c y ≡ true → is_class y.class class.Number ≡ true → (y.event.0 == 0) ≡ true
number_zero c y fits is =
    only_first (y.event.0 == 0) (was_made c y.event) (kind_fits y.class (kind_at c y.event)) (number_fits_none y.class (kind_at c y.event) is) fits

-- whether event 0 stands there, if the place is for a number
abbrev pub number_is_zero : Place → Bool
number_is_zero y = not (is_class y.class class.Number) || (y.event.0 == 0)

pub fits_number : (c : Calendar) (y : Place) → place_fits c y ≡ true → number_is_zero y ≡ true
fits_number c y fits = by_class (is_class y.class class.Number) (y.event.0 == 0) (number_zero c y fits)
  where
    by_class : (b z : Bool) → (b ≡ true → z ≡ true) → (not b || z) ≡ true
    by_class true z h = h refl
    by_class false z h = refl

pub all_fit_numbers : (c : Calendar) (ys : List Place) → list_all (place_fits c) ys ≡ true → list_all number_is_zero ys ≡ true
all_fit_numbers c [] h = refl
all_fit_numbers c (y ∷ ys) h =
    let both = and_parts (place_fits c y) (list_all (place_fits c) ys) h in
    and_from (number_is_zero y) (list_all number_is_zero ys) (fits_number c y both.0) (all_fit_numbers c ys both.1)

-- where one place more is read
one_more : (b z : Bool) (e : EventId) (xs ys : List EventId) → (b ≡ false → z ≡ true) → (e.0 == 0) ≡ z → but_zero xs ≡ but_zero ys
    → but_zero (if b then e ∷ xs else xs) ≡ but_zero (e ∷ ys)
one_more true true e xs ys zero is same = rw is same
one_more true false e xs ys zero is same = rw is (ap (λ es. e ∷ es) same)
one_more false true e xs ys zero is same = rw is same
one_more false false e xs ys zero is same = absurd (false≢true (zero refl))

from_not : (b : Bool) → not b ≡ false → b ≡ true
from_not true h = refl
from_not false h = sym h

mapped : (b : Bool) (y : Place) (ys : List Place)
    → map (λ (x : Place). x.event) (if b then y ∷ ys else ys) ≡ (if b then y.event ∷ map (λ (x : Place). x.event) ys else map (λ (x : Place). x.event) ys)
mapped true y ys = refl
mapped false y ys = refl

zero_of : (y : Place) → number_is_zero y ≡ true → is_class y.class class.Number ≡ true → (y.event.0 == 0) ≡ true
zero_of y h is = by_class (is_class y.class class.Number) (y.event.0 == 0) h is
  where
    by_class : (b z : Bool) → (not b || z) ≡ true → b ≡ true → z ≡ true
    by_class true z h is = h
    by_class false z h is = absurd (false≢true is)

pub numbers_alike : (ys : List Place) → list_all number_is_zero ys ≡ true
    → but_zero (map (λ (y : Place). y.event) (filter is_event_place ys)) ≡ but_zero (map (λ (y : Place). y.event) ys)
numbers_alike [] h = refl
numbers_alike (y ∷ ys) h =
    let both = and_parts (number_is_zero y) (list_all number_is_zero ys) h in
    let xs : List EventId = map (λ (x : Place). x.event) (filter is_event_place ys) in
    let zs : List EventId = map (λ (x : Place). x.event) ys in
    ap but_zero (mapped (is_event_place y) y (filter is_event_place ys))
    ∙ one_more (is_event_place y) (y.event.0 == 0) y.event xs zs (λ off. zero_of y both.0 (from_not (is_class y.class class.Number) off)) refl (numbers_alike ys both.1)

pub places_alike : {B : Type 0} (tell : Telling B) (c : Calendar) (b : B) → list_all (place_fits c) (tell.places b) ≡ true
    → but_zero (named_in_places tell b) ≡ but_zero (map (λ (y : Place). y.event) (tell.places b))
places_alike tell c b h = numbers_alike (tell.places b) (all_fit_numbers c (tell.places b) h)

-- What stands in the places of a body: in those for numbers event 0 alone.
use Rattle.std.proofs.Common.{◌≡◌, ℤ, pos, negsuc, Bool, true, false, ◌||◌, ◌&&◌, not, List, [], ◌∷◌, map, refl, sym, ap, subst, ◌∙◌, Option, Some, None, ⊎_elim}
use Rattle.std.specs.Prelude.{All, ◌==◌}
use Rattle.std.specs.List.{list_all}
use Rattle.std.proofs.lemmas.Bool.{and_parts, and_from, false≢true, eqb-true, or_cases}
use Rattle.std.proofs.lemmas.List.Elements.{All-nil, All-cons, All-head, All-tail}
use Rattle.sim_types.specs.declared.event.EventId.{EventId}
use Rattle.sim_types.specs.declared.event.Signal.{Signal}
use Rattle.sim_types.specs.declared.event.Signal.TheVariants as signal
use Rattle.sim_types.specs.declared.op.Op.{Op}
use Rattle.sim_types.specs.declared.op.Op.TheVariants as op
use Rattle.sim_types.specs.declared.setup.Class.{Class}
use Rattle.sim_types.specs.declared.setup.Class.TheVariants as class
use Rattle.sim_machine.specs.Events.{is_same}
use Rattle.sim_machine.specs.Tellings.{Place, Telling, is_class}
use Rattle.sim_machine.specs.MayAsk.{is_zero}
use Rattle.sim_machine.specs.BodyLaw.{gets_made, holds_argument, makes_class, places_kept}
use Rattle.sim_machine_law.specs.NamedEvents.{arguments_name}
use Rattle.sim_machine_law.proofs.Events.EventLaws.{is_same-yes, same_event}
use Rattle.sim_happen_model.specs.Naming.{but_zero}
use Rattle.sim_accounts.proofs.NumberPlaces.{number_is_zero, numbers_alike}
use Rattle.sim_steps_model.specs.Holding.{StandInPlaces}

abbrev pub event_in : Place → EventId
event_in y = y.event

-- where that is so, the events in the places are those that the body names
pub stand_where : {B : Type 0} (tell : Telling B) (b : B) (es : List EventId) → list_all number_is_zero (tell.places b) ≡ true →
    map event_in (tell.places b) ≡ es → StandInPlaces tell es b
stand_where tell b es numbers is = record { named = numbers_alike (tell.places b) numbers ∙ ap but_zero is }

if_number : (b z : Bool) → (b ≡ true → z ≡ true) → (not b || z) ≡ true
if_number true z h = h refl
if_number false z h = refl

number_then : (b z : Bool) → (not b || z) ≡ true → b ≡ true → z ≡ true
number_then true z h is = h
number_then false z h is = absurd (false≢true is)

-- ---- a body that has just begun

-- no argument stands in a place for a number
no_argument : (c k : Class) → is_class k class.Number ≡ true → (not (is_class c class.Number) && is_class c k) ≡ false
no_argument c class.Number h = off (is_class c class.Number)
  where
    off : (b : Bool) → (not b && b) ≡ false
    off true = refl
    off false = refl
no_argument c _ h = absurd (false≢true h)

holds_event : (cs : List Class) (vs : List ℤ) (y : Place) → holds_argument cs vs y ≡ true → is_class y.class class.Number ≡ true → ⊥
holds_event [] vs y h number = absurd (false≢true h)
holds_event (c ∷ cs) [] y h number = absurd (false≢true h)
holds_event (c ∷ cs) (pos n ∷ vs) y h number =
    ⊎_elim
    (λ here. false≢true (sym (no_argument c y.class number)
    ∙ (and_parts (not (is_class c class.Number) && is_class c y.class) (y.event.0 == n) here).0))
    (λ later. holds_event cs vs y later number)
    (or_cases (not (is_class c class.Number) && is_class c y.class && (y.event.0 == n)) (holds_argument cs vs y) h)
holds_event (c ∷ cs) (negsuc n ∷ vs) y h number = holds_event cs vs y h number

-- it is an event that the arguments name
holds_named : (P : EventId → Type 0) (cs : List Class) (vs : List ℤ) (y : Place) → holds_argument cs vs y ≡ true → All P (arguments_name cs vs) →
    P y.event
holds_named P [] vs y h all = absurd (false≢true h)
holds_named P (c ∷ cs) [] y h all = absurd (false≢true h)
holds_named P (class.Number ∷ cs) (pos n ∷ vs) y h all = holds_named P cs vs y h all
holds_named P (class.Number ∷ cs) (negsuc n ∷ vs) y h all = holds_named P cs vs y h all
holds_named P (c ∷ cs) (pos n ∷ vs) y h all =
    let e : EventId = record { 0 = n } in
    ⊎_elim
    (λ here. subst P (sym (same_event y.event e
    (eqb-true y.event.0 n (and_parts (not (is_class c class.Number) && is_class c y.class) (y.event.0 == n) here).1)))
    (All-head P e (arguments_name cs vs) all))
    (λ later. holds_named P cs vs y later (All-tail P e (arguments_name cs vs) all))
    (or_cases (not (is_class c class.Number) && is_class c y.class && (y.event.0 == n)) (holds_argument cs vs y) h)
holds_named P (c ∷ cs) (negsuc n ∷ vs) y h all = holds_named P cs vs y h all

module _ (cs : List Class) (vs : List ℤ) where
  -- event 0 or an argument
  abbrev pub begins_well : Place → Bool
  begins_well y = is_zero y.event || holds_argument cs vs y

  pub begun_numbers : (ys : List Place) → list_all begins_well ys ≡ true → list_all number_is_zero ys ≡ true
  begun_numbers [] h = refl
  begun_numbers (y ∷ ys) h =
      let both = and_parts (begins_well y) (list_all begins_well ys) h in
      and_from (number_is_zero y) (list_all number_is_zero ys)
      (if_number (is_class y.class class.Number) (y.event.0 == 0)
      (λ number. ⊎_elim (λ zero. zero) (λ holds. absurd (holds_event cs vs y holds number))
      (or_cases (is_zero y.event) (holds_argument cs vs y) both.0)))
      (begun_numbers ys both.1)

  pub begun_events : (P : EventId → Type 0) (ys : List Place) → P (record { 0 = 0 }) → All P (arguments_name cs vs) → list_all begins_well ys ≡ true →
      All P (map event_in ys)
  begun_events P [] none all h = All-nil P
  begun_events P (y ∷ ys) none all h =
      let both = and_parts (begins_well y) (list_all begins_well ys) h in
      All-cons P y.event (map event_in ys)
      (⊎_elim (λ zero. subst P (sym (same_event y.event (record { 0 = 0 }) (eqb-true y.event.0 0 zero))) none)
      (λ holds. holds_named P cs vs y holds all) (or_cases (is_zero y.event) (holds_argument cs vs y) both.0))
      (begun_events P ys none all both.1)

-- ---- a body that was polled

-- no event that is made goes into a place for a number
makes_no_number : (last : Option Op) → makes_class last class.Number ≡ false
makes_no_number None = refl
makes_no_number (Some (op.Timeout delay value)) = refl
makes_no_number (Some op.NewEvent) = refl
makes_no_number (Some (op.Spawn k args)) = refl
makes_no_number (Some (op.AllOf members)) = refl
makes_no_number (Some (op.AnyOf members)) = refl
makes_no_number (Some (op.Enter res priority preempts)) = refl
makes_no_number (Some (op.Put res amount priority)) = refl
makes_no_number (Some (op.Get res least greatest)) = refl
makes_no_number (Some _) = refl

class_is : (c k : Class) → is_class c k ≡ true → c ≡ k
class_is class.Number class.Number h = refl
class_is class.Event class.Event h = refl
class_is class.Cond class.Cond h = refl
class_is class.Proc class.Proc h = refl
class_is class.Request class.Request h = refl
class_is class.Move class.Move h = refl
class_is _ _ h = absurd (false≢true h)

gets_no_number : (last : Option Op) (told : Signal) (y : Place) → is_class y.class class.Number ≡ true → gets_made last told y ≡ true → ⊥
gets_no_number last (signal.Made e) y number h =
    false≢true (sym (ap (makes_class last) (class_is y.class class.Number number) ∙ makes_no_number last)
    ∙ (and_parts (is_same y.event e) (makes_class last y.class) h).1)
gets_no_number last _ y number h = false≢true h

module _ (last : Option Op) (told : Signal) where
  -- the place keeps its class, and its event unless it gets the one that was just made
  abbrev pub stays_well : Place → Place → Bool
  stays_well x y = is_class y.class x.class && (is_same y.event x.event || gets_made last told y)

  number_stays : (x y : Place) → stays_well x y ≡ true → number_is_zero x ≡ true → number_is_zero y ≡ true
  number_stays x y h was =
      let parts = and_parts (is_class y.class x.class) (is_same y.event x.event || gets_made last told y) h in
      let same : y.class ≡ x.class = class_is y.class x.class parts.0 in
      if_number (is_class y.class class.Number) (y.event.0 == 0)
      (λ number. ⊎_elim
      (λ stays. ap (λ (e : EventId). e.0 == 0) (is_same-yes y.event x.event stays)
      ∙ number_then (is_class x.class class.Number) (x.event.0 == 0) was (ap (λ c. is_class c class.Number) (sym same) ∙ number))
      (λ gets. absurd (gets_no_number last told y number gets))
      (or_cases (is_same y.event x.event) (gets_made last told y) parts.1))

  pub polled_numbers : (xs ys : List Place) → places_kept last told xs ys ≡ true → list_all number_is_zero xs ≡ true →
      list_all number_is_zero ys ≡ true
  polled_numbers [] [] h was = refl
  polled_numbers [] (y ∷ ys) h was = absurd (false≢true h)
  polled_numbers (x ∷ xs) [] h was = absurd (false≢true h)
  polled_numbers (x ∷ xs) (y ∷ ys) h was =
      let parts = and_parts (stays_well x y) (places_kept last told xs ys) h in
      let before = and_parts (number_is_zero x) (list_all number_is_zero xs) was in
      and_from (number_is_zero y) (list_all number_is_zero ys) (number_stays x y parts.0 before.0) (polled_numbers xs ys parts.1 before.1)

  -- an event that was just made is told
  abbrev pub IsMade : EventId → Type 0
  IsMade e = told ≡ signal.Made e

  gets_told : (y : Place) → gets_made last told y ≡ true → IsMade y.event
  gets_told y h = by told refl h
    where
      by : (x : Signal) → told ≡ x → gets_made last x y ≡ true → told ≡ signal.Made y.event
      by (signal.Made e) is gets = is
          ∙ ap (λ f. signal.Made f) (sym (is_same-yes y.event e (and_parts (is_same y.event e) (makes_class last y.class) gets).0))
      by _ is gets = absurd (false≢true gets)

  -- what stands in the places then stood there, or is told
  pub polled_events : (P : EventId → Type 0) (xs ys : List Place) → places_kept last told xs ys ≡ true → ((e : EventId) → IsMade e → P e) →
      All P (map event_in xs) →
      All P (map event_in ys)
  polled_events P [] [] h made all = All-nil P
  polled_events P [] (y ∷ ys) h made all = absurd (false≢true h)
  polled_events P (x ∷ xs) [] h made all = absurd (false≢true h)
  polled_events P (x ∷ xs) (y ∷ ys) h made all =
      let parts = and_parts (stays_well x y) (places_kept last told xs ys) h in
      let later = and_parts (is_class y.class x.class) (is_same y.event x.event || gets_made last told y) parts.0 in
      All-cons P y.event (map event_in ys)
      (⊎_elim (λ stays. subst P (sym (is_same-yes y.event x.event stays)) (All-head P x.event (map event_in xs) all))
      (λ gets. made y.event (gets_told y gets)) (or_cases (is_same y.event x.event) (gets_made last told y) later.1))
      (polled_events P xs ys parts.1 made (All-tail P x.event (map event_in xs) all))

  -- where nothing is told that was made, no place changes
  pub polled_alike : (xs ys : List Place) → places_kept last told xs ys ≡ true → ((e : EventId) → IsMade e → ⊥) → map event_in ys ≡ map event_in xs
  polled_alike [] [] h none = refl
  polled_alike [] (y ∷ ys) h none = absurd (false≢true h)
  polled_alike (x ∷ xs) [] h none = absurd (false≢true h)
  polled_alike (x ∷ xs) (y ∷ ys) h none =
      let parts = and_parts (stays_well x y) (places_kept last told xs ys) h in
      let later = and_parts (is_class y.class x.class) (is_same y.event x.event || gets_made last told y) parts.0 in
      let same : y.event ≡ x.event =
      ⊎_elim (λ stays. is_same-yes y.event x.event stays) (λ gets. absurd (none y.event (gets_told y gets)))
      (or_cases (is_same y.event x.event) (gets_made last told y) later.1) in
      let rest = polled_alike xs ys parts.1 none in
      cc

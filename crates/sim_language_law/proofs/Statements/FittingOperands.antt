-- Operands of the statements of a faultless text fit: each variable has its class, each named event is there.
--     InProcess whole final k place      what a statement at a place may count on, k being its process kind
use Rattle.std.specs.Prelude.{◌≡◌, refl, ℕ, zero, suc, ◌≤◌, ◌<◌, Bool, true, false, not, ◌&&◌, if◌then◌else◌, nat_lt, nat_le, List, [], ◌∷◌, ◌++◌, map, length, take, replicate, codes, Option, Some, None, unwrap_or, slice_get}
use Rattle.std.proofs.Common.{arith, sym, ap, ◌∙◌}
use Rattle.std.proofs.lemmas.Bool.{true≢false, false≢true, and_from, not-false, not_from_false, or_from, and_left, and_right, le-leb, lt-ltb}
use Rattle.std.proofs.lemmas.Option.{none-some, slice_get_within}
use Rattle.std.proofs.lemmas.List.{length-map}
use Rattle.sim_types.specs.Setups.{is_class}
use Rattle.sim_types.specs.Scenarios.{ScenarioOf}
use Rattle.sim_types.specs.declared.setup.Class.{Class}
use Rattle.sim_types.specs.declared.setup.Class.TheVariants as class
use Rattle.sim_types.specs.declared.script.Kind.{Kind}
use Rattle.sim_language.specs.declared.form.Sort.{Sort}
use Rattle.sim_language.specs.declared.form.Sort.TheVariants as sort
use Rattle.sim_language.specs.declared.form.Meaning.{Meaning}
use Rattle.sim_language.specs.declared.form.Version.{Version}
use Rattle.sim_language.specs.declared.form.Version.TheVariants.{One, Two}
use Rattle.sim_language.specs.declared.shape.Reference.{Reference}
use Rattle.sim_language.specs.declared.shape.Role.TheVariants.{Gives, Value, Refers}
use Rattle.sim_language.specs.Lines.{Word, same}
use Rattle.sim_language.specs.Names.{is_name}
use Rattle.sim_language.specs.Numbers.{looks_numeric}
use Rattle.sim_language.specs.Named.{Named, value_of, place_of}
use Rattle.sim_language.specs.Forms.{declares_sort}
use Rattle.sim_language.specs.Shapes.{Operand, slot_of, any_literal}
use Rattle.sim_language.specs.AnywhereInText.{WholeText}
use Rattle.sim_language.specs.Sayings.{is_me, takes_me}
use Rattle.sim_language.specs.Declarations.{is_event, is_of_sort}
use Rattle.sim_language.specs.Variables.{variable_number}
use Rattle.sim_language.specs.Places.{LineInText}
use Rattle.sim_language.specs.VariableFaults.{takes_named, takes_class, is_variable, role_takes, clashes, is_unset}
use Rattle.sim_language.specs.Statements.{variable, event_number, number_of, event_of}
use Rattle.sim_language.specs.Reads.{classes_of}
use Rattle.sim_language.specs.FittingStatements.{class_of, gives, uses, number_fits, event_fits}
use Rattle.sim_language_law.proofs.Lines.CleanLines.{GoodSlot}
use Rattle.sim_language_law.proofs.Names.GoodNames.{same_sort_is}
use Rattle.sim_language_law.proofs.Names.NamedLists.{same_is, place_value}
use Rattle.sim_language_law.proofs.Setups.EntriesByForm.{number_is}
use Rattle.sim_language_law.proofs.Processes.ProcessVariables.{VariablesFit}
use Rattle.sim_language_law.proofs.Setups.FittingInWhole.{Ground}

pub record InProcess (whole : WholeText) (final : ScenarioOf) (k : Kind) (place : LineInText) : Type 0 where
  pub ground : Ground whole final place
  pub classes : k.classes ≡ classes_of place.variables
  pub variables : VariablesFit place.variables place.above.declared

-- ---- variables

pub record VariableFits (k : Kind) (n : ℕ) (c : Class) : Type 0 where
  pub given : nat_le 1 n ≡ true
  pub below : nat_lt n 64 ≡ true
  pub class : class_of k n ≡ c

get_take : {X : Type 0} (xs ys : List X) (n i : ℕ) (x : X) → slice_get xs i ≡ Some x → i < n → slice_get (take n (xs ++ ys)) i ≡ Some x
get_take [] ys n i x h below = absurd (none-some x h)
get_take (y ∷ xs) ys zero i x h below = absurd (omega arith)
get_take (y ∷ xs) ys (suc n) zero x h below = h
get_take (y ∷ xs) ys (suc n) (suc i) x h below = get_take xs ys n i x h (omega arith)

variable_is : (vs : List (Named Class)) (w : Word) (i : ℕ) → place_of w vs ≡ Some i → i < 63 → variable vs w ≡ suc i
variable_is vs w i h below =
    let number : variable_number vs w ≡ suc i = ap (λ o. suc (unwrap_or o 0)) h in
    ap (λ n. if nat_lt n 64 then n else 0) number ∙ (rw (lt-ltb (suc i) 64 (omega arith)) refl)

-- a variable has its class by its number
pub variable_fits : (k : Kind) (vs : List (Named Class)) (w : Word) (c : Class) → k.classes ≡ classes_of vs → length vs ≤ 63
    → value_of w vs ≡ Some c → VariableFits k (variable vs w) c
variable_fits k vs w c classes few h =
    let at = place_value w vs c h in
    let within : at.0 < length vs = omega (arith, slice_get_within (map (λ v. v.value) vs) at.0 c at.2, length-map vs (λ (v : Named Class). v.value)) in
    let below : at.0 < 63 = omega arith in
    let here : slice_get (classes_of vs) (suc at.0) ≡ Some c = get_take (map (λ v. v.value) vs) (replicate 64 class.Number) 63 at.0 c at.2 below in
    rw (variable_is vs w at.0 at.1 below) (record {
      given = le-leb 1 (suc at.0) (omega arith);
      below = lt-ltb (suc at.0) 64 (omega arith);
      class = ap (λ all. unwrap_or (slice_get all (suc at.0)) class.Number) classes ∙ ap (λ o. unwrap_or o class.Number) here;
    })

-- `val` is a number
val_fits : (k : Kind) (vs : List (Named Class)) → k.classes ≡ classes_of vs → uses k 0 class.Number ≡ true
val_fits k vs classes = rw classes refl

pub same_class_is : (c d : Class) → is_class c d ≡ true → c ≡ d
same_class_is class.Number class.Number h = refl
same_class_is class.Event class.Event h = refl
same_class_is class.Cond class.Cond h = refl
same_class_is class.Proc class.Proc h = refl
same_class_is class.Request class.Request h = refl
same_class_is class.Move class.Move h = refl
same_class_is c d h = absurd (true≢false (sym h))

pub same_class_self : (c : Class) → is_class c c ≡ true
same_class_self class.Number = refl
same_class_self class.Event = refl
same_class_self class.Cond = refl
same_class_self class.Proc = refl
same_class_self class.Request = refl
same_class_self class.Move = refl

module _ (whole : WholeText) (final : ScenarioOf) (k : Kind) (place : LineInText) (inside : InProcess whole final k place) where
  -- an operand that is a variable has a class that its role takes
  set_class : (slot : Operand) → GoodSlot whole place slot → is_variable place.above slot ≡ true
      → (c : Class) × (value_of slot.word place.variables ≡ Some c) × (role_takes slot.role c ≡ true)
  set_class slot good h = by (value_of slot.word place.variables) refl (rw h at good.unset) (rw h at good.clash)
    where
      by : (o : Option Class) → value_of slot.word place.variables ≡ o → is_unset place.variables slot ≡ false
          → clashes place.variables slot ≡ false
          → (c : Class) × (value_of slot.word place.variables ≡ Some c) × (role_takes slot.role c ≡ true)
      by None e unset clash = absurd (true≢false (rw e at unset))
      by (Some c) e unset clash = (c, e, not-false (role_takes slot.role c) (rw e at clash))

  variable_of : (slot : Operand) → GoodSlot whole place slot → is_variable place.above slot ≡ true
      → (c : Class) × (VariableFits k (variable place.variables slot.word) c) × (role_takes slot.role c ≡ true)
  variable_of slot good h = let set = set_class slot good h in (set.0, variable_fits k place.variables slot.word set.0 inside.classes inside.variables.few set.1, set.2)

  -- a variable that is given
  pub gives_fit : (c : Class) (w : Word) → GoodSlot whole place (record { role = Gives c; word = w }) → gives k (variable place.variables w) c ≡ true
  gives_fit c w good = let v = variable_of (record { role = Gives c; word = w }) good refl in and_from _ _ (and_from _ _ v.1.given v.1.below) (rw (v.1.class) v.2)

  -- ---- numbers

  value_by : (b : Bool) (w : Word) → GoodSlot whole place (record { role = if b then any_literal else Value; word = w })
      → number_fits k (number_of place.variables (record { role = if b then any_literal else Value; word = w })) ≡ true
  value_by true w good = refl
  value_by false w good = by (same w (codes "now")) refl (same w (codes "val")) refl
    where
      by : (n : Bool) → same w (codes "now") ≡ n → (v : Bool) → same w (codes "val") ≡ v
          → number_fits k (number_of place.variables (record { role = Value; word = w })) ≡ true
      by true e v f = rw e refl
      by false e true f = rw (e, f) (val_fits k place.variables inside.classes)
      by false e false f =
          let v = variable_of (record { role = Value; word = w }) good (rw (e, f) refl) in
          rw (e, f) (and_from _ _ v.1.below (rw (v.1.class) v.2))

  -- a number, `now`, `val`, or a variable of numbers
  pub value_fit : (w : Word) → GoodSlot whole place (slot_of Value w) → number_fits k (number_of place.variables (slot_of Value w)) ≡ true
  value_fit w good = value_by (looks_numeric w) w good

  -- ---- events

  me_no_name : (version : Version) (w : Word) → is_me w ≡ true → is_name version w ≡ false
  me_no_name One w h = rw (same_is w (codes "me") h) refl
  me_no_name Two w h = rw (same_is w (codes "me") h) refl

  named_fits : (w : Word) → is_event place.above.declared w ≡ true → nat_le (event_number place.above.declared w) final.setup.events ≡ true
  named_fits w h = by (value_of w place.above.declared) refl
    where
      sorted : (o : Option Sort) → is_of_sort sort.Event o ≡ true → o ≡ Some sort.Event
      sorted None e = absurd (false≢true e)
      sorted (Some t) e = ap Some (sym (same_sort_is sort.Event t e))

      by : (o : Option Meaning) → value_of w place.above.declared ≡ o → nat_le (event_number place.above.declared w) final.setup.events ≡ true
      by None e = absurd (false≢true (rw e at h))
      by (Some d) e =
          let there = inside.ground.events w d e (sorted (declares_sort d.form) (rw e at h)) in
          rw (number_is place.above.declared w d e) (le-leb (suc d.number) final.setup.events there)

  -- where a variable stands for an event
  pub event_variable : (reference : Reference) (w : Word) → GoodSlot whole place (record { role = Refers reference; word = w })
      → is_variable place.above (record { role = Refers reference; word = w }) ≡ true
      → (nat_lt (variable place.variables w) 64 && takes_class reference (class_of k (variable place.variables w))) ≡ true
  event_variable reference w good h = let v = variable_of (record { role = Refers reference; word = w }) good h in and_from _ _ v.1.below (rw (v.1.class) v.2)

  no_event : (reference : Reference) (w : Word) → GoodSlot whole place (record { role = Refers reference; word = w })
      → is_variable place.above (record { role = Refers reference; word = w }) ≡ true → is_event place.above.declared w ≡ false
  no_event reference w good h = let set = set_class (record { role = Refers reference; word = w }) good h in inside.variables.apart w set.0 set.1

  pub refer_fit : (reference : Reference) (w : Word) → GoodSlot whole place (record { role = Refers reference; word = w })
      → event_fits final k reference (event_of place w) ≡ true
  refer_fit reference w good = by (is_me w) refl (is_event place.above.declared w) refl (takes_me reference) refl (takes_named reference) refl
    where
      by : (m : Bool) → is_me w ≡ m → (e : Bool) → is_event place.above.declared w ≡ e → (tm : Bool)
          → takes_me reference ≡ tm → (tn : Bool) → takes_named reference ≡ tn
          → event_fits final k reference (event_of place w) ≡ true
      by true i e j true f tn g = rw i f
      by true i e j false f tn g =
          let named : not (is_name whole.version w) ≡ false = rw f at good.name in absurd (true≢false (rw (me_no_name whole.version w i) at named))
      by false i true j tm f true g = rw (i, j) (and_from _ _ (and_from _ _ g (le-leb 1 (event_number place.above.declared w) (omega arith))) (named_fits w j))
      by false i true j tm f false g = absurd (true≢false (sym j ∙ no_event reference w good (not_from_false _ (or_from _ _ (and_right _ _ i) (and_left _ _ g)))))
      by false i false j tm f tn g = rw (i, j) (event_variable reference w good (not_from_false _ (or_from _ _ (and_right _ _ i) (and_right _ _ j))))

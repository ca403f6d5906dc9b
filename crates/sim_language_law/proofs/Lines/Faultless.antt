-- A line that says a form and has no fault: none of the kinds of faults applies to it.
use Rattle.std.proofs.Common.{◌≡◌, refl, subst, sym, Bool, true, false, List, [], ◌∷◌, Some, None}
use Rattle.std.specs.List.{AllByRecursion, find}
use Rattle.std.proofs.lemmas.Option.{none-some}
use Rattle.sim_language.specs.declared.form.Form.{Form}
use Rattle.sim_language.specs.Shapes.{Operand}
use Rattle.sim_language.specs.AnywhereInText.{ProcessLines}
use Rattle.sim_language.specs.Sayings.{Says}
use Rattle.sim_language.specs.Places.{LineInText}
use Rattle.sim_language.specs.NameFaults as names
use Rattle.sim_language.specs.OrderFaults as orders
use Rattle.sim_language.specs.LimitFaults as limits
use Rattle.sim_language.specs.VariableFaults as variables
use Rattle.sim_language.specs.Faults.{applies, kinds_in_order, fault_by, fault_at, of_form}

-- what a faultless line of this form is not
pub record Faultless (heads : ProcessLines) (place : LineInText) (f : Form) (slots : List Operand) : Type 0 where
  pub header : orders.bad_header place.above place.line ≡ false
  pub duplicate : names.duplicate place.above f slots ≡ false
  pub unknown : names.unknown_name heads place.above slots ≡ false
  pub kind : names.wrong_kind heads place.above f slots ≡ false
  pub misplaced : orders.misplaced place.above f slots ≡ false
  pub many : limits.too_many place f slots ≡ false
  pub clash : variables.class_clash place slots ≡ false
  pub unset : variables.unset place slots ≡ false
  pub order : orders.bad_order place.above f slots ≡ false

-- nothing is found where nothing passes the test
pub none_pass : {X : Type 0} (test : X → Bool) (xs : List X) → find test xs ≡ None → AllByRecursion (λ x. test x ≡ false) xs
none_pass test [] h = tt
none_pass test (x ∷ xs) h = by (test x) refl (none_pass test xs)
  where
    by : (b : Bool) → test x ≡ b → (find test xs ≡ None → AllByRecursion (λ y. test y ≡ false) xs) → AllByRecursion (λ y. test y ≡ false) (x ∷ xs)
    by true e rest = let found : Some x ≡ None = rw e at h in absurd (none-some x (sym found))
    by false e rest = let later : find test xs ≡ None = rw e at h in (e, rest later)

module _ (heads : ProcessLines) (place : LineInText) (f : Form) (slots : List Operand) (says : place.line.saying ≡ Says f slots) where
  of_this : (test : Form → List Operand → Bool) → of_form test place.line.saying ≡ false → test f slots ≡ false
  of_this test h = subst (λ s. of_form test s ≡ false) says h

  all_passed : AllByRecursion (λ kind. applies kind heads place ≡ false) kinds_in_order → Faultless heads place f slots
  all_passed (text, (long, (header, (word, (shape, (number, (name, (duplicate, (unknown, (kind, (misplaced, (many, (clash, (unset, (order, rest))))))))))))))) = record {
    header = header;
    duplicate = of_this (names.duplicate place.above) duplicate;
    unknown = of_this (λ g more. names.unknown_name heads place.above more) unknown;
    kind = of_this (names.wrong_kind heads place.above) kind;
    misplaced = of_this (orders.misplaced place.above) misplaced;
    many = of_this (limits.too_many place) many;
    clash = of_this (λ g more. variables.class_clash place more) clash;
    unset = of_this (λ g more. variables.unset place more) unset;
    order = of_this (orders.bad_order place.above) order;
  }

-- a line that says a form and has no fault
pub faultless : (heads : ProcessLines) (place : LineInText) (f : Form) (slots : List Operand) → fault_at heads place ≡ None
    → place.line.saying ≡ Says f slots → Faultless heads place f slots
faultless heads place f slots h says = all_passed heads place f slots says (none_pass (λ kind. applies kind heads place) kinds_in_order (subst (λ s. fault_by s heads place ≡ None) says h))

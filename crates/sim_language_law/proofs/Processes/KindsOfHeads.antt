-- The process kinds of a faultless text, found by the names of its process lines.
--     KindsFit heads t        each name of a process is that of a kind with the classes of its parameters
--     kinds_of_heads          so it is for a faultless text
use Rattle.std.specs.Prelude.{◌≡◌, refl, ℕ, zero, suc, ◌≤◌, Bool, true, false, if◌then◌else◌, List, [], ◌∷◌, map, length, drop, codes, Some, option_map, unwrap_or, slice_get}
use Rattle.std.specs.List.{list_all, AllByRecursion}
use Rattle.std.proofs.Common.{arith, sym, ap, ◌∙◌, subst}
use Rattle.std.proofs.lemmas.Bool.{and_parts, and_from}
use Rattle.std.proofs.lemmas.Option.{none-some, same_Some, slice_get-map}
use Rattle.std.proofs.lemmas.List.{length-take}
use Rattle.sim_types.specs.Scenarios.{ScenarioOf, parameter_classes}
use Rattle.sim_types.specs.declared.script.Kind.{Kind}
use Rattle.sim_types.specs.declared.setup.Class.{Class}
use Rattle.sim_types.specs.declared.setup.Class.TheVariants as class
use Rattle.sim_language.specs.declared.form.Form.TheVariants as form
use Rattle.sim_language.specs.Lines.{Word, same}
use Rattle.sim_language.specs.Named.{Named, value_of, with_all}
use Rattle.sim_language.specs.Parameters.{parameter_class, class_part}
use Rattle.sim_language.specs.Shapes.{Operand}
use Rattle.sim_language.specs.AnywhereInText.{ProcessLines}
use Rattle.sim_language.specs.Sayings.{TextLine, Saying, Says}
use Rattle.sim_language.specs.Statements.{kind_number}
use Rattle.sim_language.specs.FittingStatements.{classes_at}
use Rattle.sim_language.specs.WellFormed.{kind_fits}
use Rattle.sim_language_law.proofs.Lines.Walking.{passed}
use Rattle.sim_language_law.proofs.Setups.FittingSetup.{kind_params}
use Rattle.sim_language_law.proofs.Names.NamesApart.{all_append, with_all_apart, Apart}
use Rattle.sim_language_law.proofs.Names.NamedLists.{place_value}
use Rattle.sim_language_law.proofs.Processes.ProcessHeads.{ProcessHeads, heads_passed}
use Rattle.sim_language_law.proofs.Anywhere.SaidAnywhere.{head_said, heads_said}

-- a class that a parameter can have
abbrev pub is_parameter_class : Class → Bool
is_parameter_class class.Number = true
is_parameter_class class.Event = true
is_parameter_class class.Proc = true
is_parameter_class c = false

pub record KindsFit (heads : ProcessLines) (t : ScenarioOf) : Type 0 where
  pub found : (w : Word) (cs : List Class) → value_of w heads ≡ Some cs → classes_at t (kind_number heads w) ≡ Some cs
  pub few : (w : Word) (cs : List Class) → value_of w heads ≡ Some cs → length cs ≤ 8
  pub plain : (w : Word) (cs : List Class) → value_of w heads ≡ Some cs → list_all is_parameter_class cs ≡ true

-- ---- the classes of parameters

plain_class : (w : Word) → is_parameter_class (parameter_class w) ≡ true
plain_class w = by (same (class_part w) (codes ":event")) (same (class_part w) (codes ":proc"))
  where
    by : (b c : Bool) → is_parameter_class (if b then class.Event else (if c then class.Proc else class.Number)) ≡ true
    by true c = refl
    by false true = refl
    by false false = refl

plain_classes : (params : List Operand) → list_all is_parameter_class (map (λ p. parameter_class p.word) params) ≡ true
plain_classes [] = refl
plain_classes (p ∷ params) = and_from _ _ (plain_class p.word) (plain_classes params)

plain_head : (saying : Saying) → AllByRecursion (λ h. list_all is_parameter_class h.value ≡ true) (head_said saying)
plain_head (Says form.Process (name ∷ params)) = (plain_classes params, tt)
plain_head other = tt

plain_heads : (ls : List TextLine) → AllByRecursion (λ h. list_all is_parameter_class h.value ≡ true) (heads_said ls)
plain_heads [] = tt
plain_heads (l ∷ ls) = all_append _ (head_said l.saying) (heads_said ls) (plain_head l.saying) (plain_heads ls)

-- what has a name is one of the list
pub value_all : {A : Type 0} (P : A → Type 0) (w : Word) (ns : List (Named A)) (v : A) → AllByRecursion (λ n. P n.value) ns → value_of w ns ≡ Some v → P v
value_all P w [] v all h = absurd (none-some v h)
value_all P w (n ∷ ns) v all h = by (same w n.name) h (value_all P w ns v all.1)
  where
    by : (b : Bool) → (if b then Some n.value else value_of w ns) ≡ Some v → (value_of w ns ≡ Some v → P v) → P v
    by true e rest = subst P (same_Some n.value v e) all.0
    by false e rest = rest e

-- ---- kinds by their names

kind_at : (ks : List Kind) (i : ℕ) (cs : List Class) → list_all kind_fits ks ≡ true → option_map parameter_classes (slice_get ks i) ≡ Some cs → length cs ≤ 8
kind_at [] i cs fits h = absurd (none-some cs h)
kind_at (k ∷ ks) zero cs fits h =
    let few = kind_params k (and_parts (kind_fits k) (list_all kind_fits ks) fits).0 in
    let as_many : length (parameter_classes k) ≤ k.params = omega (arith, length-take k.params (drop 1 k.classes)) in
    let same_length : length (parameter_classes k) ≡ length cs = ap length (same_Some (parameter_classes k) cs h) in
    omega arith
kind_at (k ∷ ks) (suc i) cs fits h = kind_at ks i cs (and_parts (kind_fits k) (list_all kind_fits ks) fits).1 h

pub kinds_fit_by : (heads : ProcessLines) (t : ScenarioOf) → map parameter_classes t.kinds ≡ map (λ h. h.value) heads
    → list_all kind_fits t.kinds ≡ true → AllByRecursion (λ h. list_all is_parameter_class h.value ≡ true) heads
    → KindsFit heads t
kinds_fit_by heads t same_classes fits plain = record {
  found = found;
  few = λ w cs h. kind_at t.kinds (kind_number heads w) cs fits (found w cs h);
  plain = λ w cs h. value_all (λ ds. list_all is_parameter_class ds ≡ true) w heads cs plain h;
}
  where
    found : (w : Word) (cs : List Class) → value_of w heads ≡ Some cs → classes_at t (kind_number heads w) ≡ Some cs
    found w cs h =
        let at = place_value w heads cs h in
        sym (slice_get-map parameter_classes t.kinds (kind_number heads w)) ∙ (ap (λ all. slice_get all (kind_number heads w)) same_classes ∙ (ap (λ o. slice_get (map (λ head. head.value) heads) (unwrap_or o 0)) at.1 ∙ at.2))

-- ---- a faultless text

pub heads_are : (heads : ProcessLines) (ls : List TextLine) (s : ScenarioOf) → heads ≡ with_all [] (heads_said ls) → ProcessHeads (passed [] ls) s
    → heads ≡ heads_said ls
heads_are heads ls s first h = first ∙ with_all_apart [] (heads_said ls) (subst (λ hs. Apart [] hs) (heads_passed [] ls) h.apart)

pub kinds_of_heads : (heads : ProcessLines) (ls : List TextLine) (t : ScenarioOf)
    → heads ≡ heads_said ls → ProcessHeads (passed [] ls) t → list_all kind_fits t.kinds ≡ true → KindsFit heads t
kinds_of_heads heads ls t are h fits =
    let same_classes : map parameter_classes t.kinds ≡ map (λ head. head.value) heads = h.classes ∙ ap (map (λ head. head.value)) (heads_passed [] ls ∙ sym are) in
    kinds_fit_by heads t same_classes fits (subst (λ hs. AllByRecursion (λ head. list_all is_parameter_class head.value ≡ true) hs) (sym are) (plain_heads ls))

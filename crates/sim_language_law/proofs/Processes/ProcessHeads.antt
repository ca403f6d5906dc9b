-- The process lines of a faultless text: all of different names, and one process kind for each.
--     ProcessHeads above s         the kinds that lines above say are those of the process lines above
--     heads_nothing, heads_line    so it is at the start, and behind each line
use Rattle.std.specs.Prelude.{◌≡◌, refl, ℕ, ◌≤◌, true, false, List, [], ◌∷◌, ◌++◌, map, length, take, replicate, Some, is_some}
use Rattle.std.proofs.Common.{arith, sym, ap, ap₂, ◌∙◌, subst, ◌⊎◌, inl, inr}
use Rattle.std.proofs.lemmas.Bool.{true≢false, false_from_ne_true}
use Rattle.std.proofs.lemmas.Option.{none-some}
use Rattle.std.proofs.lemmas.List.{map_push, append_assoc, append-nil, map-append, length-map, take-take, take_at}
use Rattle.sim_types.specs.Scenarios.{ScenarioOf, parameter_classes}
use Rattle.sim_types.specs.declared.script.Kind.{Kind}
use Rattle.sim_types.specs.declared.setup.Class.{Class}
use Rattle.sim_types.specs.declared.setup.Class.TheVariants as class
use Rattle.sim_language.specs.declared.form.Form.{Form}
use Rattle.sim_language.specs.declared.form.Form.TheVariants as form
use Rattle.sim_language.specs.declared.form.Sort.TheVariants as sort
use Rattle.sim_language.specs.declared.form.Meaning.{Meaning}
use Rattle.sim_language.specs.declared.shape.Role.TheVariants.{Declares, Parameter}
use Rattle.sim_language.specs.Lines.{Word, same}
use Rattle.sim_language.specs.Named.{Named, value_of, is_named, with_one, with_all}
use Rattle.sim_language.specs.Parameters.{parameter_class}
use Rattle.sim_language.specs.Forms.{is_process, declares_sort}
use Rattle.sim_language.specs.Shapes.{Operand, slot_of}
use Rattle.sim_language.specs.AnywhereInText.{ProcessLines}
use Rattle.sim_language.specs.Sayings.{TextLine, Says}
use Rattle.sim_language.specs.Declarations.{declared, count_of}
use Rattle.sim_language.specs.Variables.{given_by, given_below, variables_of}
use Rattle.sim_language.specs.NameFaults.{repeats}
use Rattle.sim_language.specs.Reads.{nothing_said, classes_of}
use Rattle.sim_language_law.proofs.Lines.Walking.{passed}
use Rattle.sim_language_law.proofs.Anywhere.SaidAnywhere.{head_said, heads_said}
use Rattle.sim_language_law.proofs.Lines.LineByLine.{line}
use Rattle.sim_language_law.proofs.Setups.FittingAdditions.{parameter_of, given_by_parameters}
use Rattle.sim_language_law.proofs.Lines.Additions.{Added, AKind, put_in}
use Rattle.sim_language_law.proofs.Lines.AdditionsByForm.{sort_added, Told}
use Rattle.sim_language_law.proofs.Names.DeclaredNames.{Grown, grown_kept, grown_cases}
use Rattle.sim_language_law.proofs.Names.NamedLists.{value_of_push, named_value, named_kept, named_last, named_push, with_one_new}
use Rattle.sim_language_law.proofs.Names.NamesApart.{Apart, apart_push, with_all_apart, with_all_append, with_all_fresh, fresh, repeats_apart}

-- ---- process lines

-- those above a line, the nearest first
abbrev pub heads_above : List TextLine → ProcessLines
heads_above [] = []
heads_above (l ∷ above) = heads_above above ++ head_said l.saying

pub heads_passed : (above ls : List TextLine) → heads_above (passed above ls) ≡ heads_above above ++ heads_said ls
heads_passed above [] = sym (append-nil (heads_above above))
heads_passed above (l ∷ ls) = heads_passed (l ∷ above) ls ∙ append_assoc (heads_above above) (head_said l.saying) (heads_said ls)

-- ---- the classes of a process's parameters

-- the parameters are the first variables, where no two have one name
parameters_first : (given more : List (Named Class)) → repeats (map (λ v. v.name) given) ≡ false → with_all [] (given ++ more) ≡ given ++ fresh given more
parameters_first given more h = with_all_append [] given more ∙ (ap (λ known. with_all known more) (with_all_apart [] given (repeats_apart [] given tt h)) ∙ with_all_fresh given more)

first_classes : (given more : List (Named Class)) (params first : ℕ) → params ≡ length given → params ≤ 63
    → parameter_classes (record { params = params; first = first; classes = classes_of (given ++ more) })
    ≡ map (λ v. v.value) given
first_classes given more params first e few =
    let all : List Class = map (λ v. v.value) (given ++ more) ++ replicate 64 class.Number in
    let split : all ≡ map (λ v. v.value) given ++ (map (λ v. v.value) more ++ replicate 64 class.Number) = ap (λ cs. cs ++ replicate 64 class.Number) (map-append (λ v. v.value) given more) ∙ append_assoc (map (λ v. v.value) given) (map (λ v. v.value) more) (replicate 64 class.Number) in
    take-take params 63 all few ∙ (ap (λ cs. take params cs) split ∙ take_at (map (λ v. v.value) given) _ params (length-map given (λ v. v.value) ∙ sym e))

parameter_values : (ws : List Word) → map (λ v. v.value) (map parameter_of ws) ≡ map (λ p. parameter_class p.word) (map (slot_of Parameter) ws)
parameter_values [] = refl
parameter_values (w ∷ ws) = ap (λ rest. parameter_class w ∷ rest) (parameter_values ws)

-- a kind has the classes of the parameters of its process line
pub kind_classes : (n : Word) (ws : List Word) (below : List TextLine) (first : ℕ)
    → repeats (map (λ v. v.name) (given_by (slot_of Declares n ∷ map (slot_of Parameter) ws))) ≡ false
    → length (given_by (slot_of Declares n ∷ map (slot_of Parameter) ws)) ≤ 8
    → parameter_classes (record { params = length (given_by (slot_of Declares n ∷ map (slot_of Parameter) ws)); first = first; classes = classes_of (variables_of (slot_of Declares n ∷ map (slot_of Parameter) ws) below) })
    ≡ map (λ p. parameter_class p.word) (map (slot_of Parameter) ws)
kind_classes n ws below first apart few =
    let given : List (Named Class) = given_by (slot_of Declares n ∷ map (slot_of Parameter) ws) in
    ap (λ vs. parameter_classes (record { params = length given; first = first; classes = classes_of vs })) (parameters_first given (given_below 0 below) apart)
    ∙ (first_classes given (fresh given (given_below 0 below)) (length given) first refl (omega arith) ∙ (ap (map (λ v. v.value)) (given_by_parameters ws) ∙ parameter_values ws))

-- ---- the kinds and the process lines

pub record ProcessHeads (above : List TextLine) (s : ScenarioOf) : Type 0 where
  pub apart : Apart [] (heads_above above)
  -- the processes among the declared names are those of the process lines
  pub named : (w : Word) → is_named w (heads_above above) ≡ true → is_named w (declared above) ≡ true
  pub processes : (w : Word) (d : Meaning) → value_of w (declared above) ≡ Some d → declares_sort d.form ≡ Some sort.Process
      → is_named w (heads_above above) ≡ true
  pub classes : map parameter_classes s.kinds ≡ map (λ h. h.value) (heads_above above)

pub heads_nothing : ProcessHeads [] nothing_said
heads_nothing = record { apart = tt; named = λ w h. absurd (true≢false (sym h)); processes = λ w d h e. absurd (none-some d h); classes = refl }

-- ---- another line

pub no_head : (f : Form) (slots : List Operand) → is_process f ≡ false → head_said (Says f slots) ≡ []
no_head form.Process slots h = absurd (true≢false h)
no_head f slots h = refl

pub declares_process : (f : Form) → declares_sort f ≡ Some sort.Process → is_process f ≡ true
declares_process form.Process h = refl
declares_process f h = absurd cc

pub same_kinds : (f : Form) (a : Added) (s : ScenarioOf) → is_process f ≡ false → sort_added a ≡ declares_sort f → (put_in a s).kinds ≡ s.kinds
same_kinds f (AKind kind) s h e = absurd (true≢false (sym (declares_process f (sym e)) ∙ h))
same_kinds f a s h e = refl

pub heads_other : (above : List TextLine) (ws : List Word) (f : Form) (slots : List Operand) (a : Added) (s : ScenarioOf)
    → is_process f ≡ false → Told f a
    → Grown f (declares_sort f) (declared above) (declared (line ws (Says f slots) ∷ above)) → ProcessHeads above s
    → ProcessHeads (line ws (Says f slots) ∷ above) (put_in a s)
heads_other above ws f slots a s other told more h = record {
  apart = subst (λ heads. Apart [] heads) (sym same_heads) h.apart;
  named = λ w e. named w (named_value w (declared above) (h.named w (subst (λ heads. is_named w heads ≡ true) same_heads e)));
  processes = λ w d e sorted. subst (λ heads. is_named w heads ≡ true) (sym same_heads) (processes w d sorted (grown_cases f (declares_sort f) (declared above) _ w d more e));
  classes = ap (map parameter_classes) (same_kinds f a s other told.sort) ∙ (h.classes ∙ ap (map (λ head. head.value)) (sym same_heads));
}
  where
    same_heads : heads_above (line ws (Says f slots) ∷ above) ≡ heads_above above
    same_heads = ap (λ heads. heads_above above ++ heads) (no_head f slots other) ∙ append-nil (heads_above above)

    named : (w : Word) → (d : Meaning) × (value_of w (declared above) ≡ Some d) → is_named w (declared (line ws (Says f slots) ∷ above)) ≡ true
    named w found = ap is_some (grown_kept f (declares_sort f) (declared above) _ w found.0 more found.1)

    processes : (w : Word) (d : Meaning) → declares_sort d.form ≡ Some sort.Process
        → (value_of w (declared above) ≡ Some d) ⊎ (f ≡ d.form) → is_named w (heads_above above) ≡ true
    processes w d sorted (inl old) = h.processes w d old sorted
    processes w d sorted (inr new) = absurd (true≢false (sym (declares_process f (ap declares_sort new ∙ sorted)) ∙ other))

-- ---- a process line

pub heads_process : (above : List TextLine) (ws : List Word) (n : Word) (params : List Word) (k : Kind) (s : ScenarioOf)
    → is_named n (declared above) ≡ false
    → parameter_classes k ≡ map (λ p. parameter_class p.word) (map (slot_of Parameter) params) → ProcessHeads above s
    → ProcessHeads (line ws (Says form.Process (slot_of Declares n ∷ map (slot_of Parameter) params)) ∷ above)
    (put_in (AKind k) s)
heads_process above ws n params k s new classes h = record {
  apart = apart_push [] (heads_above above) head h.apart (false_from_ne_true (is_named n (heads_above above)) (λ e. absurd (true≢false (sym (h.named n e) ∙ new))));
  named = λ w e. subst (λ ds. is_named w ds ≡ true) (sym one) (named w (named_push w (heads_above above) head e));
  processes = λ w d e sorted. processes w d sorted (value_of_push w (declared above) meaning d (subst (λ ds. value_of w ds ≡ Some d) one e));
  classes = map_push parameter_classes s.kinds k ∙ (ap₂ (λ cs c. cs ++ c ∷ []) h.classes classes ∙ sym (map_push (λ head. head.value) (heads_above above) head));
}
  where
    head : Named (List Class)
    head = record { name = n; value = map (λ p. parameter_class p.word) (map (slot_of Parameter) params) }

    meaning : Named Meaning
    meaning = record { name = n; value = record { form = form.Process; number = count_of sort.Process (declared above) } }

    one : with_one (declared above) meaning ≡ declared above ++ meaning ∷ []
    one = with_one_new (declared above) meaning new

    named : (w : Word) → (is_named w (heads_above above) ≡ true) ⊎ (same w n ≡ true) → is_named w (declared above ++ meaning ∷ []) ≡ true
    named w (inl old) = named_kept w (declared above) (meaning ∷ []) (h.named w old)
    named w (inr last) = named_last w (declared above) meaning last

    processes : (w : Word) (d : Meaning) → declares_sort d.form ≡ Some sort.Process
        → (value_of w (declared above) ≡ Some d) ⊎ ((same w n ≡ true) × (meaning.value ≡ d))
        → is_named w (heads_above above ++ head ∷ []) ≡ true
    processes w d sorted (inl old) = named_kept w (heads_above above) (head ∷ []) (h.processes w d old sorted)
    processes w d sorted (inr last) = named_last w (heads_above above) head last.0

-- The variables of a process of a faultless text: no more than 63 beside `val`, and none has the name of an event.
--     VariablesFit vs ds      so it is for these variables, where these names are declared
--     given_good              each variable that a line below gives has a number below 64, and the name of no event
--     process_variables       so it is for the variables of a process
use Rattle.std.specs.Prelude.{◌≡◌, refl, ℕ, zero, suc, ◌+◌, ◌≤◌, ◌<◌, Bool, true, false, ◌||◌, if◌then◌else◌, nat_le, List, [], ◌∷◌, ◌++◌, length, Option, Some, None, option_map, unwrap_or}
use Rattle.std.specs.List.{AllByRecursion}
use Rattle.std.proofs.Common.{arith, sym, ap, ◌∙◌, subst, ◌⊎◌, inl, inr}
use Rattle.std.proofs.lemmas.Bool.{true≢false, or_parts, leb-false}
use Rattle.std.proofs.lemmas.Option.{none-some}
use Rattle.std.proofs.lemmas.List.{append_assoc, append-nil, length_push}
use Rattle.sim_types.specs.declared.fault.Fault.{Fault}
use Rattle.sim_types.specs.declared.setup.Class.{Class}
use Rattle.sim_language.specs.declared.form.Form.{Form}
use Rattle.sim_language.specs.declared.form.Form.TheVariants as form
use Rattle.sim_language.specs.declared.form.Sort.{Sort}
use Rattle.sim_language.specs.declared.form.Sort.TheVariants as sort
use Rattle.sim_language.specs.declared.form.Meaning.{Meaning}
use Rattle.sim_language.specs.Lines.{Word, same}
use Rattle.sim_language.specs.Named.{Named, value_of, is_named, place_of}
use Rattle.sim_language.specs.Forms.{declares_sort, is_process, is_end}
use Rattle.sim_language.specs.Shapes.{Operand}
use Rattle.sim_language.specs.AnywhereInText.{WholeText}
use Rattle.sim_language.specs.Sayings.{TextLine, Saying, Blank, Wrong, Says}
use Rattle.sim_language.specs.Declarations.{declared, is_event, is_of_sort}
use Rattle.sim_language.specs.Variables.{given_by, given_below, ends_process, deep_behind, variables_at, variables_of, variable_number}
use Rattle.sim_language.specs.Places.{places}
use Rattle.sim_language.specs.LimitFaults.{gives_too_many}
use Rattle.sim_language.specs.Faults.{first_fault}
use Rattle.sim_language_law.proofs.Lines.Walking.{place_at}
use Rattle.sim_language_law.proofs.Lines.CleanLines.{CleanLine, FitsAmong, none_of}
use Rattle.sim_language_law.proofs.Lines.LineByLine.{line, AllAmong, Among, first_clean, others_clean}
use Rattle.sim_language_law.proofs.Names.DeclaredNames.{Grown, grown_kept, grown_cases}
use Rattle.sim_language_law.proofs.Names.NamedLists.{same_self, same_is}
use Rattle.sim_language_law.proofs.Names.NamesApart.{all_append, Apart, fresh, fresh_apart, fresh_all, with_all_fresh, all_weaker}
use Rattle.sim_language_law.proofs.Lines.LinesSoFar.{grown_line}

pub record VariablesFit (vs : List (Named Class)) (ds : List (Named Meaning)) : Type 0 where
  pub few : length vs ≤ 63
  pub apart : (w : Word) (c : Class) → value_of w vs ≡ Some c → is_event ds w ≡ false

-- ---- how many variables

place_of_new : {A : Type 0} (w : Word) (ns ms : List (Named A)) (n : Named A) → is_named w ns ≡ false → same w n.name ≡ true
    → place_of w (ns ++ n ∷ ms) ≡ Some (length ns)
place_of_new w [] ms n new last = rw last refl
place_of_new w (m ∷ ns) ms n new last = by (same w m.name) new (place_of_new w ns ms n)
  where
    by : (b : Bool) → Rattle.std.specs.Prelude.is_some (if b then Some m.value else value_of w ns) ≡ false
        → (is_named w ns ≡ false → same w n.name ≡ true → place_of w (ns ++ n ∷ ms) ≡ Some (length ns))
        → (if b then Some 0 else option_map suc (place_of w (ns ++ n ∷ ms))) ≡ Some (suc (length ns))
    by true some rest = absurd (true≢false some)
    by false none rest = ap (option_map suc) (rest none last)

few_by_numbers : (front back : List (Named Class)) → Apart front back
    → AllByRecursion (λ v. variable_number (front ++ back) v.name < 64) back → length front ≤ 63
    → length (front ++ back) ≤ 63
few_by_numbers front [] apart below few = subst (λ vs. length vs ≤ 63) (sym (append-nil front)) few
few_by_numbers front (v ∷ back) apart below few =
    let place = place_of_new v.name front back v apart.0 (same_self v.name) in
    let number : variable_number (front ++ v ∷ back) v.name ≡ suc (length front) = ap (λ o. suc (unwrap_or o 0)) place in
    let here = below.0 in
    let e = append_assoc front (v ∷ []) back in
    subst (λ vs. length vs ≤ 63) e (few_by_numbers (front ++ v ∷ []) back apart.1 (subst (λ vs. AllByRecursion (λ u. variable_number vs u.name < 64) back) (sym e) below.1) (omega (arith, length_push front v)))

-- a name of one of them
name_all : (P : Word → Type 0) (w : Word) (vs : List (Named Class)) (c : Class) → AllByRecursion (λ v. P v.name) vs → value_of w vs ≡ Some c → P w
name_all P w [] c all h = absurd (none-some c h)
name_all P w (v ∷ vs) c all h = by (same w v.name) refl h (name_all P w vs c all.1)
  where
    by : (b : Bool) → same w v.name ≡ b → (if b then Some v.value else value_of w vs) ≡ Some c → (value_of w vs ≡ Some c → P w) → P w
    by true e some rest = subst P (sym (same_is w v.name e)) all.0
    by false e some rest = rest some

-- ---- names of events

-- what is no event behind a line is none in front of it
events_before : (f : Form) (o : Option Sort) (ds es : List (Named Meaning)) (w : Word) → Grown f o ds es → is_event es w ≡ false → is_event ds w ≡ false
events_before f o ds es w more h = by (value_of w ds) refl
  where
    by : (found : Option Meaning) → value_of w ds ≡ found → is_event ds w ≡ false
    by None e = rw e refl
    by (Some d) e = rw e (rw (grown_kept f o ds es w d more e) at h)

-- and the other way round, where the line declares no event
pub events_behind : (f : Form) (ds es : List (Named Meaning)) (w : Word) → Grown f (declares_sort f) ds es
    → is_of_sort sort.Event (declares_sort f) ≡ false → is_event ds w ≡ false → is_event es w ≡ false
events_behind f ds es w more other h = by (value_of w es) refl
  where
    cases : (d : Meaning) → (value_of w ds ≡ Some d) ⊎ (f ≡ d.form) → is_of_sort sort.Event (declares_sort d.form) ≡ false
    cases d (inl old) = rw old at h
    cases d (inr new) = subst (λ g. is_of_sort sort.Event (declares_sort g) ≡ false) new other

    by : (found : Option Meaning) → value_of w es ≡ found → is_event es w ≡ false
    by None e = rw e refl
    by (Some d) e = rw e (cases d (grown_cases f (declares_sort f) ds es w d more e))

-- ---- what lines give

abbrev pub GoodName : List (Named Class) → List (Named Meaning) → Named Class → Type 0
GoodName vs ds v = (variable_number vs v.name < 64) × (is_event ds v.name ≡ false)

-- a line gives variables of such names
line_good : (ds : List (Named Meaning)) (vs given : List (Named Class))
    → AllByRecursion (λ v. nat_le 64 (variable_number vs v.name) ≡ false) given
    → AllByRecursion (λ v. is_event ds v.name ≡ false) given → AllByRecursion (GoodName vs ds) given
line_good ds vs [] numbers events = tt
line_good ds vs (v ∷ given) numbers events = ((leb-false 64 (variable_number vs v.name) numbers.0, events.0), line_good ds vs given numbers.1 events.1)

goes_on : (deep : ℕ) (f : Form) → ends_process deep f ≡ false → is_process f ≡ false
goes_on zero f h = (or_parts (is_process f) (is_end f) h).0
goes_on (suc deep) f h = h

pub variables_other : (above : List TextLine) (ws : List Word) (f : Form) (slots : List Operand) (below : List TextLine)
    → is_process f ≡ false
    → variables_at (line ws (Says f slots) ∷ above) below ≡ variables_at above (line ws (Says f slots) ∷ below)
variables_other above ws form.Process slots below h = absurd (true≢false h)
variables_other above ws f slots below h = refl

-- a line of a process gives variables of such names
line_given : (whole : WholeText) (n : ℕ) (above : List TextLine) (ws : List Word) (f : Form) (slots : List Operand) (below : List TextLine)
    → (vs : List (Named Class)) → CleanLine whole (place_at n above (line ws (Says f slots)) below) f slots
    → variables_at (line ws (Says f slots) ∷ above) below ≡ vs
    → AllByRecursion (GoodName vs (declared above)) (given_by slots)
line_given whole n above ws f slots below vs clean same =
    line_good (declared above) vs (given_by slots) (none_of (λ v. nat_le 64 (variable_number vs v.name)) (given_by slots) (subst (λ us. gives_too_many us slots ≡ false) same clean.variables)) (none_of (λ v. is_event (declared above) v.name) (given_by slots) clean.hides)

weaker_names : (vs : List (Named Class)) (f : Form) (o : Option Sort) (ds es : List (Named Meaning))
    (given : List (Named Class)) → Grown f o ds es → AllByRecursion (GoodName vs es) given
    → AllByRecursion (GoodName vs ds) given
weaker_names vs f o ds es given more all = all_weaker (GoodName vs es) (GoodName vs ds) given (λ v good. (good.0, events_before f o ds es v.name more good.1)) all

module _ (whole : WholeText) (end : Option Fault) where
  -- where the line does not end the process
  given_then : (n : ℕ) (above : List TextLine) (deep : ℕ) (ws : List Word) (f : Form) (slots : List Operand)
      (below : List TextLine) (vs : List (Named Class)) → FitsAmong whole f slots
      → first_fault whole.heads (places n above (line ws (Says f slots) ∷ below)) end ≡ None
      → variables_at above (line ws (Says f slots) ∷ below) ≡ vs
      → ((d : ℕ) → variables_at (line ws (Says f slots) ∷ above) below ≡ vs → AllByRecursion (GoodName vs (declared (line ws (Says f slots) ∷ above))) (given_below d below))
      → AllByRecursion (GoodName vs (declared above)) (given_below deep (line ws (Says f slots) ∷ below))
  given_then n above deep ws f slots below vs fits clean same rest = by (ends_process deep f) refl
    where
      here : CleanLine whole (place_at n above (line ws (Says f slots)) below) f slots
      here = first_clean whole end n above ws f slots below fits clean

      by : (b : Bool) → ends_process deep f ≡ b
          → AllByRecursion (GoodName vs (declared above))
          (if b then [] else given_by slots ++ given_below (deep_behind deep f) below)
      by true e = tt
      by false e =
          let stays = variables_other above ws f slots below (goes_on deep f e) ∙ same in
          all_append (GoodName vs (declared above)) (given_by slots) (given_below (deep_behind deep f) below)
          (line_given whole n above ws f slots below vs here stays)
          (weaker_names vs f (declares_sort f) (declared above) _ (given_below (deep_behind deep f) below) (grown_line whole (place_at n above (line ws (Says f slots)) below) f slots here) (rest (deep_behind deep f) stays))

  pub given_good : (below : List TextLine) (n : ℕ) (above : List TextLine) (deep : ℕ) (vs : List (Named Class)) → AllAmong whole below
      → first_fault whole.heads (places n above below) end ≡ None → variables_at above below ≡ vs
      → AllByRecursion (GoodName vs (declared above)) (given_below deep below)
  given_good [] n above deep vs among none same = tt
  given_good (l ∷ below) n above deep vs among none same =
      by l.words l.saying among.0 none same (λ d later. given_good below (n + 1) (l ∷ above) d vs among.1 (others_clean whole.heads end n above l below none) later)
    where
      by : (ws : List Word) (saying : Saying) → Among whole saying
          → first_fault whole.heads (places n above (line ws saying ∷ below)) end ≡ None
          → variables_at above (line ws saying ∷ below) ≡ vs
          → ((d : ℕ) → variables_at (line ws saying ∷ above) below ≡ vs → AllByRecursion (GoodName vs (declared (line ws saying ∷ above))) (given_below d below))
          → AllByRecursion (GoodName vs (declared above)) (given_below deep (line ws saying ∷ below))
      by ws Blank fits clean same rest = rest deep same
      by ws (Wrong kind) fits clean same rest = rest deep same
      by ws (Says f slots) fits clean same rest = given_then n above deep ws f slots below vs fits clean same rest

-- ---- the variables of a process

pub process_variables : (whole : WholeText) (end : Option Fault) (n : ℕ) (above : List TextLine) (ws : List Word) (slots : List Operand) (below : List TextLine)
    → AllAmong whole below → first_fault whole.heads (places (n + 1) (line ws (Says form.Process slots) ∷ above) below) end ≡ None
    → CleanLine whole (place_at n above (line ws (Says form.Process slots)) below) form.Process slots
    → VariablesFit (variables_of slots below) (declared (line ws (Says form.Process slots) ∷ above))
process_variables whole end n above ws slots below among none clean = record {
  few = subst (λ us. length us ≤ 63) (sym once) (few_by_numbers [] (fresh [] given) (fresh_apart [] given) (subst (λ us. AllByRecursion (λ v. variable_number us v.name < 64) (fresh [] given)) once (all_weaker (GoodName vs es) (λ v. variable_number vs v.name < 64) (fresh [] given) (λ v good. good.0) all)) (omega arith));
  apart = λ w c h. name_all (λ v. is_event es v ≡ false) w vs c (subst (λ us. AllByRecursion (λ v. is_event es v.name ≡ false) us) (sym once) (all_weaker (GoodName vs es) (λ v. is_event es v.name ≡ false) (fresh [] given) (λ v good. good.1) all)) h;
}
  where
    vs : List (Named Class)
    vs = variables_of slots below

    given : List (Named Class)
    given = given_by slots ++ given_below 0 below

    es : List (Named Meaning)
    es = declared (line ws (Says form.Process slots) ∷ above)

    once : vs ≡ fresh [] given
    once = with_all_fresh [] given

    more : Grown form.Process (Some sort.Process) (declared above) es
    more = grown_line whole (place_at n above (line ws (Says form.Process slots)) below) form.Process slots clean

    first : AllByRecursion (GoodName vs es) (given_by slots)
    first = all_weaker (GoodName vs (declared above)) (GoodName vs es) (given_by slots) (λ v good. (good.0, events_behind form.Process (declared above) es v.name more refl good.1)) (line_given whole n above ws form.Process slots below vs clean refl)

    all : AllByRecursion (GoodName vs es) (fresh [] given)
    all = fresh_all (GoodName vs es) [] given (all_append (GoodName vs es) (given_by slots) (given_below 0 below) first (given_good whole end below (n + 1) (line ws (Says form.Process slots) ∷ above) 0 vs among none refl))

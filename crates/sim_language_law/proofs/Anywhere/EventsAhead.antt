-- A name that a text declares as an event, wherever, is that of one of its events.
--     AreThere whole final      so it is for what is taken from the whole text, and the scenario that it says
--     ahead_there               it holds where the names are those that the lines declare
use Rattle.std.specs.Prelude.{◌≡◌, refl, ℕ, suc, ◌+◌, ◌≤◌, ◌<◌, Bool, true, false, if◌then◌else◌, List, [], ◌∷◌, ◌++◌, Option, Some, None, option_map}
use Rattle.std.specs.Option.{option_to_list}
use Rattle.std.proofs.Common.{arith, ◌∙◌, subst}
use Rattle.sim_types.specs.Scenarios.{ScenarioOf}
use Rattle.sim_language.specs.declared.form.Form.{Form}
use Rattle.sim_language.specs.declared.form.Form.TheVariants as form
use Rattle.sim_language.specs.declared.form.Sort.{Sort}
use Rattle.sim_language.specs.declared.form.Sort.TheVariants as sort
use Rattle.sim_language.specs.declared.shape.Ahead.{Ahead}
use Rattle.sim_language.specs.declared.shape.Ahead.TheVariants.{EventAt}
use Rattle.sim_language.specs.Lines.{Word, same}
use Rattle.sim_language.specs.Named.{Named}
use Rattle.sim_language.specs.Forms.{declares_sort, same_sort}
use Rattle.sim_language.specs.Shapes.{Operand}
use Rattle.sim_language.specs.AnywhereInText.{ProcessLines, WholeText, ahead, ahead_here, ahead_behind}
use Rattle.sim_language.specs.Declarations.{is_of_sort}
use Rattle.sim_language.specs.Sayings.{TextLine, Saying, Blank, Wrong, Says}
use Rattle.sim_language.specs.Places.{LineInText, places}
use Rattle.sim_language.specs.Reads.{add, add_said, with_lines, nothing_said}
use Rattle.sim_language_law.proofs.Lines.Walking.{place_at}
use Rattle.sim_language_law.proofs.Lines.Additions.{added, add_added}
use Rattle.sim_language_law.proofs.Names.DeclaredNames.{one_if}
use Rattle.sim_language_law.proofs.Lines.GrowingScenarios.{grows_put}
use Rattle.sim_language_law.proofs.Anywhere.SaidAnywhere.{declaration_said, declarations_said}

abbrev pub AreThere : WholeText → ScenarioOf → Type 0
AreThere whole final = (w : Word) (n : ℕ) → ahead w whole.declarations ≡ EventAt n → n < final.setup.events

-- how many of these are events
abbrev events_in : List (Named Sort) → ℕ
events_in [] = 0
events_in (d ∷ ds) = one_if (same_sort sort.Event d.value) + events_in ds

-- an event has fewer in front of it than there are
ahead_below : (w : Word) (ds : List (Named Sort)) (n : ℕ) → ahead w ds ≡ EventAt n → n < events_in ds
ahead_below w [] n h = absurd cc
ahead_below w (d ∷ ds) n h = by (same w d.name) d.value (ahead w ds) refl h (ahead_below w ds)
  where
    by : (b : Bool) (s : Sort) (later : Ahead) → ahead w ds ≡ later → (if b then ahead_here s else ahead_behind s later) ≡ EventAt n
        → ((m : ℕ) → ahead w ds ≡ EventAt m → m < events_in ds) → n < one_if (same_sort sort.Event s) + events_in ds
    by true sort.Event later e is rest = let same : 0 ≡ n = cc in omega arith
    by true s later e is rest = absurd cc
    by false sort.Event (EventAt m) e is rest = let same : suc m ≡ n = cc in let below = rest m e in omega arith
    by false sort.Event later e is rest = absurd cc
    by false s later e is rest = let below = rest n (e ∙ is) in omega arith

-- ---- what lines add

events_append : (ds es : List (Named Sort)) → events_in (ds ++ es) ≡ events_in ds + events_in es
events_append [] es = omega arith
events_append (d ∷ ds) es = omega (arith, events_append ds es)

no_events : (f : Form) (slots : List Operand) → is_of_sort sort.Event (declares_sort f) ≡ false → events_in (declaration_said (Says f slots)) ≡ 0
no_events f [] h = refl
no_events f (slot ∷ slots) h = by (declares_sort f) h
  where
    by : (o : Option Sort) → is_of_sort sort.Event o ≡ false → events_in (option_to_list (option_map (λ s. record { name = slot.word; value = s }) o)) ≡ 0
    by None e = refl
    by (Some s) e = rw e refl

other_line : (heads : ProcessLines) (place : LineInText) (f : Form) (slots : List Operand) (s : ScenarioOf) → is_of_sort sort.Event (declares_sort f) ≡ false
    → s.setup.events + events_in (declaration_said (Says f slots)) ≤ (add heads place f slots s).setup.events
other_line heads place f slots s h =
    let grown = (grows_put (added heads place f slots) s).events in
    rw (no_events f slots h, add_added heads place f slots s) (omega arith)

events_line : (heads : ProcessLines) (place : LineInText) (saying : Saying) (s : ScenarioOf)
    → s.setup.events + events_in (declaration_said saying) ≤ (add_said heads place saying s).setup.events
events_line heads place Blank s = omega arith
events_line heads place (Wrong kind) s = omega arith
events_line heads place (Says form.Event []) s = omega arith
events_line heads place (Says form.Event (slot ∷ slots)) s = omega arith
events_line heads place (Says f slots) s = other_line heads place f slots s refl

events_lines : (heads : ProcessLines) (ls : List TextLine) (n : ℕ) (above : List TextLine) (s : ScenarioOf)
    → s.setup.events + events_in (declarations_said ls) ≤ (with_lines heads s (places n above ls)).setup.events
events_lines heads [] n above s = omega arith
events_lines heads (l ∷ ls) n above s =
    let here = events_line heads (place_at n above l ls) l.saying s in
    let later = events_lines heads ls (n + 1) (l ∷ above) (add_said heads (place_at n above l ls) l.saying s) in
    omega (arith, events_append (declaration_said l.saying) (declarations_said ls))

-- ---- the text

pub ahead_there : (whole : WholeText) (ls : List TextLine) → whole.declarations ≡ declarations_said ls
    → AreThere whole (with_lines whole.heads nothing_said (places 1 [] ls))
ahead_there whole ls said w n h =
    let below = ahead_below w (declarations_said ls) n (subst (λ ds. ahead w ds ≡ EventAt n) said h) in
    let all = events_lines whole.heads ls 1 [] nothing_said in
    omega arith

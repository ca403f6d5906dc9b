-- What is taken from the whole of a text without a fault is what its lines say.
--     taken_from_text      so it is for the lines that `sayings` gives
use Rattle.std.specs.Prelude.{◌≡◌, refl, ℕ, ◌+◌, List, [], ◌∷◌, ◌++◌, filter_map, Option, Some, None}
use Rattle.std.specs.Option.{option_to_list}
use Rattle.std.specs.List.{cons_option}
use Rattle.std.proofs.Common.{ap, ap₂, ◌∙◌}
use Rattle.sim_types.specs.declared.fault.Fault.{Fault}
use Rattle.sim_language.specs.declared.form.Section.TheVariants.{Plain}
use Rattle.sim_language.specs.declared.form.Version.{Version}
use Rattle.sim_language.specs.Lines.{Word, cut, words}
use Rattle.sim_language.specs.Named.{with_all}
use Rattle.sim_language.specs.AnywhereInText.{ProcessLines, WholeText, declaration, head_of, whole_text}
use Rattle.sim_language.specs.Sayings.{TextLine, Saying, Setting, saying, line_of, setting_behind, lines_from, sayings}
use Rattle.sim_language.specs.Places.{places}
use Rattle.sim_language.specs.Faults.{first_fault}
use Rattle.sim_language_law.proofs.Lines.LineByLine.{first_faultless, others_clean}
use Rattle.sim_language_law.proofs.Anywhere.SaidAnywhere.{said_in, head_said, declaration_said, WholeOf}
use Rattle.sim_language_law.proofs.Anywhere.RightLines.{IsRight, is_right}
use Rattle.sim_language_law.proofs.Anywhere.DeclaringLines.{line_declares, line_head}

-- what is taken from the words of each line is what the line says
abbrev pub IsSaidByLine : {A : Type 0} → (Version → List Word → Option A) → (Saying → List A) → Type 0
IsSaidByLine taken said = (s : Setting) (l : Word) (ws : List Word) → IsRight (saying s l ws) → option_to_list (taken s.whole.version ws) ≡ said (saying s l ws)

joined : {A : Type 0} (o : Option A) (rest : List A) → cons_option o rest ≡ option_to_list o ++ rest
joined None rest = refl
joined (Some x) rest = refl

module _ (heads : ProcessLines) (end : Option Fault) {A : Type 0} (taken : Version → List Word → Option A) (said : Saying → List A) where
  pub taken_from : IsSaidByLine taken said → (s : Setting) (ls : List Word) (n : ℕ) (above : List TextLine)
      → first_fault heads (places n above (lines_from s ls)) end ≡ None
      → filter_map (λ l. taken s.whole.version (words (cut l))) ls ≡ said_in said (lines_from s ls)
  taken_from each s [] n above clean = refl
  taken_from each s (l ∷ ls) n above clean =
      let ws : List Word = words (cut l) in
      let below : List TextLine = lines_from (setting_behind ws s) ls in
      let right = is_right heads n above ws (saying s (cut l) ws) below (first_faultless heads end n above (line_of s l) below clean) in
      let rest = taken_from each (setting_behind ws s) ls (n + 1) (line_of s l ∷ above) (others_clean heads end n above (line_of s l) below clean) in
      joined (taken s.whole.version ws) (filter_map (λ k. taken s.whole.version (words (cut k))) ls) ∙ ap₂ (λ xs ys. xs ++ ys) (each s (cut l) ws right) rest

pub taken_from_text : (end : Option Fault) (ls : List Word)
    → first_fault (whole_text ls).heads (places 1 [] (sayings (whole_text ls) ls)) end ≡ None
    → WholeOf (whole_text ls) (sayings (whole_text ls) ls)
taken_from_text end ls clean = record {
  heads = ap (with_all []) (taken_from whole.heads end head_of head_said line_head start ls 1 [] clean);
  declarations = taken_from whole.heads end (λ version ws. declaration ws) declaration_said line_declares start ls 1 [] clean;
}
  where
    whole : WholeText
    whole = whole_text ls

    start : Setting
    start = record { whole = whole; section = Plain; posters = 0 }

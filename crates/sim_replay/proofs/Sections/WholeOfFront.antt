-- What is taken from the whole of a text is taken from the lines in front of its sections.
--     whole_front         so it is where those behind declare nothing
--     section_silent      the lines of a section without a fault declare nothing
use Rattle.std.proofs.Common.{◌≡◌, refl, sym, ap, ◌∙◌, ℕ, ◌+◌, ◌≤◌, Bool, true, false, not, ◌||◌, if◌then◌else◌, List, [], ◌∷◌, ◌++◌, filter_map, Option, None, arith}
use Rattle.std.specs.List.{list_any}
use Rattle.std.proofs.lemmas.Bool.{false≢true, or_parts}
use Rattle.std.proofs.lemmas.List.{append-nil}
use Rattle.std.proofs.lemmas.List.Elements.{filter_map-append}
use Rattle.sim_types.specs.declared.fault.Fault.{Fault}
use Rattle.sim_language.specs.declared.form.Sort.{Sort}
use Rattle.sim_language.specs.declared.form.Version.{Version}
use Rattle.sim_language.specs.declared.form.Version.TheVariants.{One, Two}
use Rattle.sim_language.specs.Lines.{Word, cut, words, is_empty}
use Rattle.sim_language.specs.Named.{Named, with_all}
use Rattle.sim_language.specs.AnywhereInText.{WholeText, first_worded, is_second_header, version_of, head_of, heads_of, declaration, declarations, whole_text}
use Rattle.sim_language.specs.Sayings.{TextLine, Setting, line_of, setting_behind, lines_from}
use Rattle.sim_language.specs.Places.{places, worded_above}
use Rattle.sim_language.specs.Faults.{first_fault}
use Rattle.sim_language_law.proofs.Lines.Walking.{passed}
use Rattle.sim_language_law.proofs.Anywhere.SaidAnywhere.{head_said, declaration_said}
use Rattle.sim_language_law.proofs.Anywhere.DeclaringLines.{line_declares, line_head}
use Rattle.sim_language_law.proofs.Anywhere.TakenFromTexts.{taken_from}
use Rattle.sim_replay.proofs.Sections.SaidForms.{all_pass}
use Rattle.sim_replay.proofs.Sections.SectionLines.{is_of_section}
use Rattle.sim_replay.proofs.Sections.PlainLines.{in_plain}
use Rattle.sim_replay.proofs.Sections.SectionAdditions.{none_headed, none_declared}
use Rattle.sim_types.specs.declared.setup.Class.{Class}

-- ---- the version

-- one of the lines has words
abbrev pub has_words : List Word → Bool
has_words ls = list_any (λ l. not (is_empty (words (cut l)))) ls

first_of_front : (front more : List Word) → has_words front ≡ true → first_worded (front ++ more) ≡ first_worded front
first_of_front [] more h = absurd (false≢true h)
first_of_front (l ∷ front) more h = by (words (cut l)) refl h (first_of_front front more)
  where
    by : (ws : List Word) → words (cut l) ≡ ws → (not (is_empty ws) || has_words front) ≡ true
        → (has_words front ≡ true → first_worded (front ++ more) ≡ first_worded front) → first_worded (l ∷ (front ++ more)) ≡ first_worded (l ∷ front)
    by [] e some rest = rw e (rest some)
    by (w ∷ ws) e some rest = rw e refl

-- lines without words are not counted
none_worded : (s : Setting) (ls : List Word) (above : List TextLine) → has_words ls ≡ false
    → worded_above (passed above (lines_from s ls)) ≡ worded_above above
none_worded s [] above h = refl
none_worded s (l ∷ ls) above h =
    let parts = or_parts (not (is_empty (words (cut l)))) (has_words ls) h in
    none_worded (setting_behind (words (cut l)) s) ls (line_of s l ∷ above) parts.1 ∙ one (is_empty (words (cut l))) parts.0
  where
    one : (b : Bool) → not b ≡ false → (if b then worded_above above else worded_above above + 1) ≡ worded_above above
    one true e = refl
    one false e = absurd (false≢true (sym e))

pub words_there : (s : Setting) (ls : List Word) → 2 ≤ worded_above (passed [] (lines_from s ls)) → has_words ls ≡ true
words_there s ls h = by (has_words ls) refl
  where
    by : (b : Bool) → has_words ls ≡ b → b ≡ true
    by true e = refl
    by false e = absurd (omega (arith, h, none_worded s ls [] e))

-- ---- the whole

-- lines that declare nothing
pub record Silent (version : Version) (ls : List Word) : Type 0 where
  pub heads : filter_map (λ l. head_of version (words (cut l))) ls ≡ []
  pub declared : filter_map (λ l. declaration (words (cut l))) ls ≡ []

module _ (front more : List Word) where
  pub version_front : has_words front ≡ true → version_of (front ++ more) ≡ version_of front
  version_front h = ap (λ ws. if is_second_header ws then Two else One) (first_of_front front more h)

  abbrev of_version : Version → WholeText
  of_version version = record { version = version; heads = heads_of version (front ++ more); declarations = declarations (front ++ more) }

  heads_front : (version : Version) → filter_map (λ l. head_of version (words (cut l))) more ≡ []
      → heads_of version (front ++ more) ≡ heads_of version front
  heads_front version h =
      let taken : Word → Option (Named (List Class)) = λ l. head_of version (words (cut l)) in
      ap (with_all []) (filter_map-append taken front more ∙ (ap (λ rest. filter_map taken front ++ rest) h ∙ append-nil (filter_map taken front)))

  declarations_front : filter_map (λ l. declaration (words (cut l))) more ≡ [] → declarations (front ++ more) ≡ declarations front
  declarations_front h =
      let taken : Word → Option (Named Sort) = λ l. declaration (words (cut l)) in
      filter_map-append taken front more ∙ (ap (λ rest. filter_map taken front ++ rest) h ∙ append-nil (filter_map taken front))

  pub whole_front : has_words front ≡ true → Silent (version_of front) more → whole_text (front ++ more) ≡ whole_text front
  whole_front h silent =
      ap of_version (version_front h) ∙ (rw (heads_front (version_of front) silent.heads, declarations_front silent.declared) refl)

-- ---- sections

pub section_silent : (whole : WholeText) (end : Option Fault) (ls : List Word) (n : ℕ) (above : List TextLine)
    → all_pass is_of_section (lines_from (in_plain whole) ls) ≡ true
    → first_fault whole.heads (places n above (lines_from (in_plain whole) ls)) end ≡ None → Silent whole.version ls
section_silent whole end ls n above section clean = record {
  heads =
      taken_from whole.heads end head_of head_said line_head (in_plain whole) ls n above clean
      ∙ none_headed (lines_from (in_plain whole) ls) section;
  declared = taken_from whole.heads end (λ version ws. declaration ws) declaration_said line_declares (in_plain whole) ls n above clean
      ∙ none_declared (lines_from (in_plain whole) ls) section;
}

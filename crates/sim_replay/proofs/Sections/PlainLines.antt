-- The lines of a text in front of its sections.
--     said_in_front      they say no `journal`, `poster` or post
--     lines_in_front     lines behind them are read as if these were not there
use Rattle.std.proofs.Common.{◌≡◌, refl, sym, ◌∙◌, Bool, true, false, ◌||◌, if◌then◌else◌, List, [], ◌∷◌, ◌++◌, Option, Some, None, codes}
use Rattle.std.specs.Option.{option_or}
use Rattle.std.specs.List.{list_any, list_all}
use Rattle.std.proofs.lemmas.Bool.{true≢false, and_from, or_parts}
use Rattle.sim_language.specs.declared.form.Form.{Form}
use Rattle.sim_language.specs.declared.form.Form.TheVariants as form
use Rattle.sim_language.specs.declared.form.Section.TheVariants.{Plain}
use Rattle.sim_language.specs.declared.form.Version.{Version}
use Rattle.sim_language.specs.declared.form.Version.TheVariants.{One, Two}
use Rattle.sim_language.specs.Lines.{Word, same, cut, words}
use Rattle.sim_language.specs.Forms.{first_words, made_words, form_at, told_by, made_form, begins}
use Rattle.sim_language.specs.AnywhereInText.{WholeText}
use Rattle.sim_language.specs.Sayings.{Setting, begins_with, saying, setting_behind, lines_from}
use Rattle.sim_replay.specs.Sections.{begins_section}
use Rattle.sim_language_law.proofs.Anywhere.FirstWords.{row_all}
use Rattle.sim_replay.proofs.Sections.SaidForms.{passes, passes_found, all_pass, passes_saying}

-- ---- in front of the sections

-- a form that may stand in front: no line of a section but `after`, which is misplaced there
abbrev pub is_in_front : Form → Bool
is_in_front form.Journal = false
is_in_front form.Poster = false
is_in_front form.Post = false
is_in_front f = true

-- the word begins the form, where that begins a section
abbrev begins_as : Word → Form → Bool
begins_as w form.Journal = same w (codes "journal")
begins_as w form.Poster = same w (codes "poster")
begins_as w form.Post = false
begins_as w f = true

told_begins : (version : Version) (w : Word) (first : Option Form) (rest : List Word) → passes_found (begins_as w) first ≡ true
    → passes_found (begins_as w) (told_by version first rest) ≡ true
told_begins version w (Some form.Scenario) (n ∷ []) h = by (same n (codes "2"))
  where
    by : (b : Bool) → begins_as w (if b then form.ScenarioTwo else form.Scenario) ≡ true
    by true = refl
    by false = refl
told_begins version w (Some form.UntilTime) (t ∷ []) h = by (same t (codes "empty"))
  where
    by : (b : Bool) → begins_as w (if b then form.UntilEmpty else form.UntilTime) ≡ true
    by true = refl
    by false = refl
told_begins Two w (Some form.UntilTime) (e ∷ n ∷ []) h = by (same e (codes "event"))
  where
    by : (b : Bool) → begins_as w (if b then form.UntilEvent else form.UntilEmpty) ≡ true
    by true = refl
    by false = refl
told_begins version w (Some form.UntilTime) rest h = refl
told_begins version w first rest h = h

found_begins : (w v : Word) (rows : List (Word × Form)) → list_all (λ row. begins_as row.0 row.1) rows ≡ true
    → passes_found (begins_as w) (form_at w rows) ≡ true
found_begins w v rows all = by (form_at w rows) refl
  where
    by : (o : Option Form) → form_at w rows ≡ o → passes_found (begins_as w) o ≡ true
    by None e = refl
    by (Some f) e = row_all begins_as rows w f all e

made_begins : (w : Word) (rest : List Word) → passes_found (begins_as w) (made_form rest) ≡ true
made_begins w [] = refl
made_begins w (v ∷ []) = refl
made_begins w (v ∷ u ∷ rest) = by (same v (codes "="))
  where
    found : (o : Option Form) → form_at u made_words ≡ o → passes_found (begins_as w) o ≡ true
    found None e = refl
    found (Some f) e = row_all (λ x g. begins_as w g) made_words u f refl e

    by : (b : Bool) → passes_found (begins_as w) (if b then form_at u made_words else None) ≡ true
    by true = found (form_at u made_words) refl
    by false = refl

begun : (version : Version) (w : Word) (rest : List Word) → passes_found (begins_as w) (begins version (w ∷ rest)) ≡ true
begun version w rest =
    by (told_by version (form_at w (first_words version)) rest)
    (told_begins version w (form_at w (first_words version)) rest (found_begins w w (first_words version) (rows version)))
  where
    rows : (v : Version) → list_all (λ row. begins_as row.0 row.1) (first_words v) ≡ true
    rows One = refl
    rows Two = refl

    by : (o : Option Form) → passes_found (begins_as w) o ≡ true → passes_found (begins_as w) (option_or o (made_form rest)) ≡ true
    by None h = made_begins w rest
    by (Some f) h = h

module _ (w : Word) (journal : same w (codes "journal") ≡ false) (poster : same w (codes "poster") ≡ false) where
  in_front : (f : Form) → begins_as w f ≡ true → is_in_front f ≡ true
  in_front form.Journal h = absurd (true≢false (sym h ∙ journal))
  in_front form.Poster h = absurd (true≢false (sym h ∙ poster))
  in_front f h = h

  found_in_front : (o : Option Form) → passes_found (begins_as w) o ≡ true → passes_found is_in_front o ≡ true
  found_in_front None h = refl
  found_in_front (Some f) h = in_front f h

-- the setting of a text's first lines
abbrev pub in_plain : WholeText → Setting
in_plain whole = record { whole = whole; section = Plain; posters = 0 }

module _ (whole : WholeText) where
  pub words_in_front : (l : Word) (ws : List Word) → (begins_with (codes "journal") ws || begins_with (codes "poster") ws) ≡ false
      → (passes is_in_front (saying (in_plain whole) (cut l) ws) ≡ true) × (setting_behind ws (in_plain whole) ≡ in_plain whole)
  words_in_front l [] h = (refl, refl)
  words_in_front l (w ∷ ws) h =
      let parts = or_parts (same w (codes "journal")) (same w (codes "poster")) h in (
        passes_saying is_in_front (in_plain whole) (cut l) w ws
            (found_in_front w parts.0 parts.1 (begins whole.version (w ∷ ws)) (begun whole.version w ws)),
        rw (parts.0, parts.1) refl,
      )

  pub said_in_front : (ls : List Word) → list_any begins_section ls ≡ false → all_pass is_in_front (lines_from (in_plain whole) ls) ≡ true
  said_in_front [] h = refl
  said_in_front (l ∷ ls) h =
      let parts = or_parts (begins_section l) (list_any begins_section ls) h in
      let here = words_in_front l (words (cut l)) parts.0 in
      and_from _ _ here.0 (rw here.1 (said_in_front ls parts.1))

  pub lines_in_front : (ls more : List Word) → list_any begins_section ls ≡ false
      → lines_from (in_plain whole) (ls ++ more) ≡ lines_from (in_plain whole) ls ++ lines_from (in_plain whole) more
  lines_in_front [] more h = refl
  lines_in_front (l ∷ ls) more h =
      let parts = or_parts (begins_section l) (list_any begins_section ls) h in
      let here = words_in_front l (words (cut l)) parts.0 in
      rw (here.1, lines_in_front ls more parts.1) refl

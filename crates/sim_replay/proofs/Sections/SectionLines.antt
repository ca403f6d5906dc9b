-- The lines of a section: nothing is said but `journal`, `after`, `poster` and posts.
--     said_first       what the first line of a section says
--     said_behind      so it is from the first line of a section on
use Rattle.std.proofs.Common.{◌≡◌, refl, sym, subst, Bool, true, false, ◌||◌, if◌then◌else◌, List, [], ◌∷◌, Some, None, codes}
use Rattle.std.proofs.lemmas.Bool.{false≢true, and_from}
use Rattle.sim_language.specs.declared.form.Form.{Form}
use Rattle.sim_language.specs.declared.form.Form.TheVariants as form
use Rattle.sim_language.specs.declared.form.Section.{Section}
use Rattle.sim_language.specs.declared.form.Section.TheVariants.{Plain, InJournal, InPosters}
use Rattle.sim_language.specs.declared.form.Version.{Version}
use Rattle.sim_language.specs.declared.form.Version.TheVariants.{One, Two}
use Rattle.sim_language.specs.Lines.{Word, same, cut, words}
use Rattle.sim_language.specs.Forms.{begins}
use Rattle.sim_language.specs.AnywhereInText.{WholeText}
use Rattle.sim_language.specs.Sayings.{Saying, Blank, Wrong, Says, Setting, form_in, begins_with, section_behind, saying, setting_behind, lines_from}
use Rattle.sim_replay.specs.Sections.{begins_section}
use Rattle.sim_language_law.proofs.Names.NamedLists.{same_is}
use Rattle.sim_replay.proofs.Sections.SaidForms.{passes, passes_found, all_pass, passes_saying}
use Rattle.sim_replay.proofs.Sections.PlainLines.{in_plain}

-- ---- in a section

-- a form of a section
abbrev pub is_of_section : Form → Bool
is_of_section form.Journal = true
is_of_section form.After = true
is_of_section form.Poster = true
is_of_section form.Post = true
is_of_section f = false

-- the first line of a section is of one of these
abbrev pub opens_section : Form → Bool
opens_section form.Journal = true
opens_section form.Poster = true
opens_section f = false

abbrev is_inside : Section → Bool
is_inside Plain = false
is_inside section = true

stays_inside : (ws : List Word) (section : Section) → is_inside section ≡ true → is_inside (section_behind ws section) ≡ true
stays_inside ws Plain h = absurd (false≢true h)
stays_inside ws InPosters h = refl
stays_inside ws InJournal h = by (begins_with (codes "poster") ws) (begins_with (codes "journal") ws)
  where
    by : (a b : Bool) → is_inside (if a then InPosters else (if b then InJournal else InJournal)) ≡ true
    by true b = refl
    by false true = refl
    by false false = refl

form_inside : (version : Version) (section : Section) (ws : List Word) → is_inside section ≡ true
    → passes_found is_of_section (form_in version section ws) ≡ true
form_inside version Plain ws h = absurd (false≢true h)
form_inside version InJournal ws h = by (begins_with (codes "after") ws)
  where
    by : (b : Bool) → passes_found is_of_section (if b then Some form.After else None) ≡ true
    by true = refl
    by false = refl
form_inside version InPosters ws h = by (begins_with (codes "poster") ws)
  where
    by : (b : Bool) → passes_found is_of_section (if b then Some form.Poster else Some form.Post) ≡ true
    by true = refl
    by false = refl

words_inside : (s : Setting) (line : Word) (ws : List Word) → is_inside s.section ≡ true → passes is_of_section (saying s line ws) ≡ true
words_inside s line [] h = refl
words_inside s line (w ∷ ws) h =
    passes_saying is_of_section s line w ws (form_inside s.whole.version s.section (w ∷ ws) h)

said_inside : (s : Setting) (ls : List Word) → is_inside s.section ≡ true → all_pass is_of_section (lines_from s ls) ≡ true
said_inside s [] h = refl
said_inside s (l ∷ ls) h =
    and_from _ _ (words_inside s (cut l) (words (cut l)) h)
    (said_inside (setting_behind (words (cut l)) s) ls (stays_inside (words (cut l)) s.section h))

-- the words of a first line
opening_found : (version : Version) (w : Word) (ws : List Word) → (same w (codes "journal") || same w (codes "poster")) ≡ true
    → passes_found opens_section (begins version (w ∷ ws)) ≡ true
opening_found version w ws h = by (same w (codes "journal")) refl (same w (codes "poster")) refl h
  where
    journal : (v : Version) → passes_found opens_section (begins v (codes "journal" ∷ ws)) ≡ true
    journal One = refl
    journal Two = refl

    poster : (v : Version) → passes_found opens_section (begins v (codes "poster" ∷ ws)) ≡ true
    poster One = refl
    poster Two = refl

    by : (a : Bool) → same w (codes "journal") ≡ a → (b : Bool) → same w (codes "poster") ≡ b → (a || b) ≡ true
        → passes_found opens_section (begins version (w ∷ ws)) ≡ true
    by true e b f some =
        subst (λ v. passes_found opens_section (begins version (v ∷ ws)) ≡ true) (sym (same_is w (codes "journal") e)) (journal version)
    by false e true f some =
        subst (λ v. passes_found opens_section (begins version (v ∷ ws)) ≡ true) (sym (same_is w (codes "poster") f)) (poster version)
    by false e false f some = absurd (false≢true some)

opening_inside : (a b : Bool) → (a || b) ≡ true → is_inside (if b then InPosters else (if a then InJournal else Plain)) ≡ true
opening_inside a true h = refl
opening_inside true false h = refl
opening_inside false false h = absurd (false≢true h)

opens_of_section : (said : Saying) → passes opens_section said ≡ true → passes is_of_section said ≡ true
opens_of_section Blank h = refl
opens_of_section (Wrong kind) h = refl
opens_of_section (Says form.Journal slots) h = refl
opens_of_section (Says form.Poster slots) h = refl
opens_of_section (Says f slots) h = absurd (false≢true h)

module _ (whole : WholeText) where
  -- what the first line of a section says, and that its section goes on
  opening_words : (l : Word) (ws : List Word) → (begins_with (codes "journal") ws || begins_with (codes "poster") ws) ≡ true
      → (passes opens_section (saying (in_plain whole) (cut l) ws) ≡ true) × (is_inside (section_behind ws Plain) ≡ true)
  opening_words l [] h = absurd (false≢true h)
  opening_words l (w ∷ ws) h = (
    passes_saying opens_section (in_plain whole) (cut l) w ws (opening_found whole.version w ws h),
    opening_inside (same w (codes "journal")) (same w (codes "poster")) h,
  )

  pub said_first : (l : Word) → begins_section l ≡ true → passes opens_section (saying (in_plain whole) (cut l) (words (cut l))) ≡ true
  said_first l h = (opening_words l (words (cut l)) h).0

  pub said_behind : (l : Word) (ls : List Word) → begins_section l ≡ true → all_pass is_of_section (lines_from (in_plain whole) (l ∷ ls)) ≡ true
  said_behind l ls h =
      and_from _ _ (opens_of_section _ (said_first l h))
      (said_inside (setting_behind (words (cut l)) (in_plain whole)) ls (opening_words l (words (cut l)) h).1)

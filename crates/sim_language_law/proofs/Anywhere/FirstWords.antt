-- What the first words of a line begin.
--     begun_sort          a line in front of the journal begins a form that declares what its first word tells
--     name_begins_none    no name is a word that begins a declaration
--     process_word        only `process` begins the declaration of a process
use Rattle.std.specs.Prelude.{◌≡◌, refl, Bool, true, false, not, ◌||◌, if◌then◌else◌, List, [], ◌∷◌, codes, Option, Some, None, is_none}
use Rattle.std.specs.Option.{option_and_then, option_or}
use Rattle.std.specs.List.{list_all}
use Rattle.std.proofs.Common.{sym, ap, ◌∙◌}
use Rattle.std.proofs.lemmas.Bool.{true≢false, false≢true, and_parts, not-true}
use Rattle.std.proofs.lemmas.Option.{none-some, same_Some}
use Rattle.sim_language.specs.declared.form.Form.{Form}
use Rattle.sim_language.specs.declared.form.Form.TheVariants as form
use Rattle.sim_language.specs.declared.form.Sort.{Sort}
use Rattle.sim_language.specs.declared.form.Sort.TheVariants as sort
use Rattle.sim_language.specs.declared.form.Version.{Version}
use Rattle.sim_language.specs.declared.form.Version.TheVariants.{One, Two}
use Rattle.sim_language.specs.Lines.{Word, same}
use Rattle.sim_language.specs.Names.{is_spelled, is_reserved, is_name}
use Rattle.sim_language.specs.Forms.{common_first_words, first_words, made_words, form_at, told_by, made_form, begins, declares_sort}
use Rattle.sim_language.specs.AnywhereInText.{sort_begun}
use Rattle.sim_language.specs.Declarations.{is_of_sort}
use Rattle.sim_language_law.proofs.Names.NamedLists.{same_is}

-- ---- rows of words

-- what holds of each row holds of the word and of the form that is found by it
pub row_all : (test : Word → Form → Bool) (rows : List (Word × Form)) (w : Word) (f : Form)
    → list_all (λ row. test row.0 row.1) rows ≡ true → form_at w rows ≡ Some f → test w f ≡ true
row_all test [] w f all h = absurd (none-some f h)
row_all test (row ∷ rows) w f all h = by (same w row.0) refl h (and_parts (test row.0 row.1) _ all) (row_all test rows w f)
  where
    by : (b : Bool) → same w row.0 ≡ b → (if b then Some row.1 else form_at w rows) ≡ Some f
        → (test row.0 row.1 ≡ true) × (list_all (λ r. test r.0 r.1) rows ≡ true)
        → (list_all (λ r. test r.0 r.1) rows ≡ true → form_at w rows ≡ Some f → test w f ≡ true) → test w f ≡ true
    by true e some parts rest = rw (same_is w row.0 e, ← same_Some row.1 f some) parts.0
    by false e some parts rest = rest parts.1 some

-- ---- what is declared

-- the forms that begin with `x =` declare nothing
made_sort : (rest : List Word) (f : Form) → made_form rest ≡ Some f → declares_sort f ≡ None
made_sort [] f h = absurd (none-some f h)
made_sort (v ∷ []) f h = absurd (none-some f h)
made_sort (v ∷ w ∷ rest) f h = by (same v (codes "=")) h
  where
    nothing : (o : Option Sort) → is_none o ≡ true → o ≡ None
    nothing None e = refl
    nothing (Some s) e = absurd (false≢true e)

    by : (b : Bool) → (if b then form_at w made_words else None) ≡ Some f → declares_sort f ≡ None
    by true e = nothing (declares_sort f) (row_all (λ v g. is_none (declares_sort g)) made_words w f refl e)
    by false e = absurd (none-some f e)

-- the words behind the first change nothing in what is declared
told_sort : (version : Version) (first : Option Form) (rest : List Word)
    → option_and_then declares_sort (told_by version first rest) ≡ option_and_then declares_sort first
told_sort version (Some form.Scenario) (n ∷ []) = by (same n (codes "2"))
  where
    by : (b : Bool) → declares_sort (if b then form.ScenarioTwo else form.Scenario) ≡ None
    by true = refl
    by false = refl
told_sort version (Some form.UntilTime) (t ∷ []) = by (same t (codes "empty"))
  where
    by : (b : Bool) → declares_sort (if b then form.UntilEmpty else form.UntilTime) ≡ None
    by true = refl
    by false = refl
told_sort Two (Some form.UntilTime) (e ∷ n ∷ []) = by (same e (codes "event"))
  where
    by : (b : Bool) → declares_sort (if b then form.UntilEvent else form.UntilEmpty) ≡ None
    by true = refl
    by false = refl
told_sort version (Some form.UntilTime) rest = refl
told_sort version first rest = refl

-- the first words of one version alone declare nothing
first_sort : (version : Version) (w : Word) → option_and_then declares_sort (form_at w (first_words version)) ≡ sort_begun w
first_sort One w = refl
first_sort Two w = by (same w (codes "chain")) refl
  where
    by : (b : Bool) → same w (codes "chain") ≡ b → option_and_then declares_sort (if b then Some form.Chain else form_at w common_first_words) ≡ sort_begun w
    by true e = rw (same_is w (codes "chain") e) refl
    by false e = refl

pub begun_sort : (version : Version) (w : Word) (rest : List Word) (f : Form) → begins version (w ∷ rest) ≡ Some f → declares_sort f ≡ sort_begun w
begun_sort version w rest f h =
    let first : Option Form = form_at w (first_words version) in by (told_by version first rest) (told_sort version first rest ∙ first_sort version w) h
  where
    by : (o : Option Form) → option_and_then declares_sort o ≡ sort_begun w → option_or o (made_form rest) ≡ Some f → declares_sort f ≡ sort_begun w
    by None sorted some = made_sort rest f some ∙ sorted
    by (Some g) sorted some = ap declares_sort (sym (same_Some g f some)) ∙ sorted

-- ---- names

pub name_begins_none : (version : Version) (w : Word) → is_name version w ≡ true → sort_begun w ≡ None
name_begins_none version w h = by (form_at w common_first_words) refl
  where
    reserved : (v : Version) → list_all (λ row. is_reserved v row.0) common_first_words ≡ true
    reserved One = refl
    reserved Two = refl

    by : (o : Option Form) → form_at w common_first_words ≡ o → option_and_then declares_sort o ≡ None
    by None e = refl
    by (Some f) e =
        let free = not-true (is_reserved version w) (and_parts (is_spelled w) (not (is_reserved version w)) h).1 in
        absurd (true≢false (sym (row_all (λ v g. is_reserved version v) common_first_words w f (reserved version) e) ∙ free))

-- ---- processes

pub process_word : (w : Word) → sort_begun w ≡ Some sort.Process → same w (codes "process") ≡ true
process_word w h = by (form_at w common_first_words) refl h
  where
    by : (o : Option Form) → form_at w common_first_words ≡ o → option_and_then declares_sort o ≡ Some sort.Process → same w (codes "process") ≡ true
    by None e sorted = absurd (none-some sort.Process sorted)
    by (Some f) e sorted =
        let row : (not (is_of_sort sort.Process (declares_sort f)) || same w (codes "process")) ≡ true =
        row_all (λ v g. not (is_of_sort sort.Process (declares_sort g)) || same v (codes "process")) common_first_words w f refl e in
        rw sorted at row

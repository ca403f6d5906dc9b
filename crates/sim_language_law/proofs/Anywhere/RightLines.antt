-- A line that is not wrong by itself says nothing, or a form that declares what its first word tells.
--     IsRight saying      none of the faults of a line by itself
--     is_right            so it is for a line without a fault
--     right_line          what such a line says
use Rattle.std.specs.Prelude.{◌≡◌, refl, ℕ, Bool, true, false, not, if◌then◌else◌, nat_lt, List, [], ◌∷◌, length, codes, Option, Some, None}
use Rattle.std.specs.List.{list_any, list_all, AllByRecursion}
use Rattle.std.proofs.Common.{sym, ap, ◌∙◌, subst}
use Rattle.std.proofs.lemmas.Bool.{true≢false, not-false, or_parts}
use Rattle.std.proofs.lemmas.Option.{none-some, same_Some}
use Rattle.sim_types.specs.declared.fault.FaultKind.{FaultKind}
use Rattle.sim_types.specs.declared.fault.FaultKind.TheVariants as fault
use Rattle.sim_language.specs.declared.form.Form.{Form}
use Rattle.sim_language.specs.declared.form.Form.TheVariants as form
use Rattle.sim_language.specs.declared.form.Section.{Section}
use Rattle.sim_language.specs.declared.form.Section.TheVariants.{Plain, InJournal, InPosters}
use Rattle.sim_language.specs.Lines.{Word, same, is_text}
use Rattle.sim_language.specs.Names.{is_name}
use Rattle.sim_language.specs.Forms.{begins, operands, declares_sort}
use Rattle.sim_language.specs.Shapes.{Operand, Context, shape, fit}
use Rattle.sim_language.specs.AnywhereInText.{ProcessLines, sort_begun}
use Rattle.sim_language.specs.Sayings.{TextLine, Saying, Blank, Wrong, Says, Setting, context_of, form_in, said_by_slots, said_by_form, saying, is_bad_number, is_bad_name}
use Rattle.sim_language.specs.Places.{LineInText}
use Rattle.sim_language.specs.Faults.{is_wrong, applies, kinds_in_order, fault_at}
use Rattle.sim_language_law.proofs.Lines.Walking.{place_at}
use Rattle.sim_language_law.proofs.Lines.Faultless.{none_pass}
use Rattle.sim_language_law.proofs.Lines.LineByLine.{line}
use Rattle.sim_language_law.proofs.Names.NamedLists.{same_is}
use Rattle.sim_language_law.proofs.Anywhere.FirstWords.{begun_sort, name_begins_none}

-- ---- lines without a fault

abbrev pub IsRight : Saying → Type 0
IsRight saying = (kind : FaultKind) → is_wrong kind saying ≡ false

right_by : (heads : ProcessLines) (place : LineInText) → AllByRecursion (λ kind. applies kind heads place ≡ false) kinds_in_order → IsRight place.line.saying
right_by heads place (text, (long, (header, (word, (shape, (number, (name, rest))))))) fault.NotText = text
right_by heads place (text, (long, (header, (word, (shape, (number, (name, rest))))))) fault.LineTooLong = long
right_by heads place (text, (long, (header, (word, (shape, (number, (name, rest))))))) fault.UnknownWord = word
right_by heads place (text, (long, (header, (word, (shape, (number, (name, rest))))))) fault.BadShape = shape
right_by heads place (text, (long, (header, (word, (shape, (number, (name, rest))))))) fault.BadNumber = number
right_by heads place (text, (long, (header, (word, (shape, (number, (name, rest))))))) fault.BadName = name
right_by heads place all kind = refl

blank_right : IsRight Blank
blank_right fault.NotText = refl
blank_right kind = refl

pub is_right : (heads : ProcessLines) (n : ℕ) (above : List TextLine) (ws : List Word) (saying : Saying) (below : List TextLine)
    → fault_at heads (place_at n above (line ws saying) below) ≡ None → IsRight saying
is_right heads n above ws Blank below h = blank_right
is_right heads n above ws (Wrong kind) below h =
    let place : LineInText = place_at n above (line ws (Wrong kind)) below in right_by heads place (none_pass (λ k. applies k heads place) kinds_in_order h)
is_right heads n above ws (Says f slots) below h =
    let place : LineInText = place_at n above (line ws (Says f slots)) below in right_by heads place (none_pass (λ k. applies k heads place) kinds_in_order h)

-- ---- what a right line says

-- a line of this first word says this form
pub record Right (context : Context) (w : Word) (ws : List Word) (f : Form) (slots : List Operand) : Type 0 where
  pub sort : declares_sort f ≡ sort_begun w
  pub fits : fit context [] (shape f) (operands f (w ∷ ws)) ≡ Some slots
  pub names : list_any (is_bad_name context.whole.version) slots ≡ false

abbrev pub IsRightLine : Context → Word → List Word → Saying → Type 0
IsRightLine context w ws (Says f slots) = Right context w ws f slots
IsRightLine context w ws other = ⊥

-- the port of a post is a name
post_name : (context : Context) (w : Word) (ws : List Word) (slots : List Operand) → fit context [] (shape form.Post) (w ∷ ws) ≡ Some slots
    → list_any (is_bad_name context.whole.version) slots ≡ false → is_name context.whole.version w ≡ true
post_name context w [] slots fits names = absurd (none-some slots fits)
post_name context w (v ∷ []) slots fits names =
    let good = subst (λ more. list_any (is_bad_name context.whole.version) more ≡ false) (sym (same_Some _ slots fits)) names in
    not-false (is_name context.whole.version w) (or_parts (not (is_name context.whole.version w)) _ good).0
post_name context w (v ∷ u ∷ ws) slots fits names = absurd (none-some slots fits)

module _ (context : Context) (w : Word) (ws : List Word) (f : Form) (slots : List Operand) where
  plain_sort : (o : Option Form) → begins context.whole.version (w ∷ ws) ≡ o → o ≡ Some f → declares_sort f ≡ sort_begun w
  plain_sort None e is = absurd (none-some f is)
  plain_sort (Some g) e is = ap declares_sort (sym (same_Some g f is)) ∙ begun_sort context.whole.version w ws g e

  section_sort : (section : Section) → form_in context.whole.version section (w ∷ ws) ≡ Some f
      → fit context [] (shape f) (operands f (w ∷ ws)) ≡ Some slots
      → list_any (is_bad_name context.whole.version) slots ≡ false → declares_sort f ≡ sort_begun w
  section_sort Plain is fits names = plain_sort (begins context.whole.version (w ∷ ws)) refl is
  section_sort InJournal is fits names = by (same w (codes "after")) refl is
    where
      by : (b : Bool) → same w (codes "after") ≡ b → (if b then Some form.After else None) ≡ Some f → declares_sort f ≡ sort_begun w
      by true e some = ap declares_sort (sym (same_Some form.After f some)) ∙ (rw (same_is w (codes "after") e) refl)
      by false e some = absurd (none-some f some)
  section_sort InPosters is fits names = by (same w (codes "poster")) refl is
    where
      by : (b : Bool) → same w (codes "poster") ≡ b → (if b then Some form.Poster else Some form.Post) ≡ Some f → declares_sort f ≡ sort_begun w
      by true e some = ap declares_sort (sym (same_Some form.Poster f some)) ∙ (rw (same_is w (codes "poster") e) refl)
      by false e some =
          let post : form.Post ≡ f = same_Some form.Post f some in
          let shaped = subst (λ g. fit context [] (shape g) (operands g (w ∷ ws)) ≡ Some slots) (sym post) fits in
          ap declares_sort (sym post) ∙ sym (name_begins_none context.whole.version w (post_name context w ws slots shaped names))

module _ (s : Setting) (w : Word) (ws : List Word) where
  abbrev context : Context
  context = context_of s

  slots_right : (f : Form) (o : Option (List Operand)) → form_in s.whole.version s.section (w ∷ ws) ≡ Some f
      → fit context [] (shape f) (operands f (w ∷ ws)) ≡ o
      → IsRight (said_by_slots s.whole.version f o) → IsRightLine context w ws (said_by_slots s.whole.version f o)
  slots_right f None is fits right = absurd (true≢false (right fault.BadShape))
  slots_right f (Some slots) is fits right = by (list_any is_bad_number slots) (list_any (is_bad_name s.whole.version) slots) refl right
    where
      by : (n m : Bool) → list_any (is_bad_name s.whole.version) slots ≡ m
          → IsRight (if n then Wrong fault.BadNumber else (if m then Wrong fault.BadName else Says f slots))
          → IsRightLine context w ws (if n then Wrong fault.BadNumber else (if m then Wrong fault.BadName else Says f slots))
      by true m names fine = absurd (true≢false (fine fault.BadNumber))
      by false true names fine = absurd (true≢false (fine fault.BadName))
      by false false names fine = record { sort = section_sort context w ws f slots s.section is fits names; fits = fits; names = names }

  form_right : (o : Option Form) → form_in s.whole.version s.section (w ∷ ws) ≡ o
      → IsRight (said_by_form context o (w ∷ ws)) → IsRightLine context w ws (said_by_form context o (w ∷ ws))
  form_right None is right = absurd (true≢false (right fault.UnknownWord))
  form_right (Some f) is right = slots_right f (fit context [] (shape f) (operands f (w ∷ ws))) is refl right

  pub right_line : (l : Word) → IsRight (saying s l (w ∷ ws)) → IsRightLine context w ws (saying s l (w ∷ ws))
  right_line l right = by (not (list_all is_text l)) (nat_lt 200 (length l)) right
    where
      said : Saying
      said = said_by_form context (form_in s.whole.version s.section (w ∷ ws)) (w ∷ ws)

      by : (a b : Bool) → IsRight (if a then Wrong fault.NotText else (if b then Wrong fault.LineTooLong else said))
          → IsRightLine context w ws (if a then Wrong fault.NotText else (if b then Wrong fault.LineTooLong else said))
      by true b fine = absurd (true≢false (fine fault.NotText))
      by false true fine = absurd (true≢false (fine fault.LineTooLong))
      by false false fine = form_right (form_in s.whole.version s.section (w ∷ ws)) refl fine

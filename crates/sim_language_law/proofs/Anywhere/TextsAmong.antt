-- The lines of a text: the operands of each have their shape where this is taken from the text.
--     all_among      so it is for the lines that `sayings` gives
use Rattle.std.specs.Prelude.{◌≡◌, refl, Bool, true, false, not, if◌then◌else◌, nat_lt, List, [], ◌∷◌, length, Option, Some, None}
use Rattle.std.specs.List.{list_any, list_all}
use Rattle.sim_types.specs.declared.fault.FaultKind.TheVariants as fault
use Rattle.sim_language.specs.declared.form.Form.{Form}
use Rattle.sim_language.specs.Lines.{Word, cut, words, is_text}
use Rattle.sim_language.specs.Forms.{operands}
use Rattle.sim_language.specs.Shapes.{Operand, shape, fit}
use Rattle.sim_language.specs.AnywhereInText.{WholeText}
use Rattle.sim_language.specs.Sayings.{Saying, Wrong, Says, Setting, context_of, form_in, said_by_slots, said_by_form, saying, setting_behind, lines_from, is_bad_number, is_bad_name, sayings}
use Rattle.sim_language_law.proofs.Lines.LineByLine.{Among, AllAmong}

slots_among : (s : Setting) (f : Form) (ws : List Word) (o : Option (List Operand)) → fit (context_of s) [] (shape f) ws ≡ o
    → Among s.whole (said_by_slots s.whole.version f o)
slots_among s f ws None e = tt
slots_among s f ws (Some slots) e = by (list_any is_bad_number slots) refl (list_any (is_bad_name s.whole.version) slots) refl
  where
    by : (n : Bool) → list_any is_bad_number slots ≡ n → (m : Bool) → list_any (is_bad_name s.whole.version) slots ≡ m
        → Among s.whole (if n then Wrong fault.BadNumber else (if m then Wrong fault.BadName else Says f slots))
    by true a m b = tt
    by false a true b = tt
    by false a false b = record { fits = record { context = context_of s; words = ws; shape = e; numbers = a; names = b }; among = refl }

form_among : (s : Setting) (o : Option Form) (ws : List Word) → Among s.whole (said_by_form (context_of s) o ws)
form_among s None ws = tt
form_among s (Some f) ws = slots_among s f (operands f ws) (fit (context_of s) [] (shape f) (operands f ws)) refl

saying_among : (s : Setting) (line : Word) (ws : List Word) → Among s.whole (saying s line ws)
saying_among s line [] = tt
saying_among s line (w ∷ ws) = by (not (list_all is_text line)) (nat_lt 200 (length line)) (said_by_form (context_of s) (form_in s.whole.version s.section (w ∷ ws)) (w ∷ ws)) (form_among s (form_in s.whole.version s.section (w ∷ ws)) (w ∷ ws))
  where
    by : (a b : Bool) (other : Saying) → Among s.whole other → Among s.whole (if a then Wrong fault.NotText else (if b then Wrong fault.LineTooLong else other))
    by true b other among = tt
    by false true other among = tt
    by false false other among = among

lines_among : (s : Setting) (ls : List Word) → AllAmong s.whole (lines_from s ls)
lines_among s [] = tt
lines_among s (l ∷ ls) = (saying_among s (cut l) (words (cut l)), lines_among (setting_behind (words (cut l)) s) ls)

pub all_among : (whole : WholeText) (ls : List Word) → AllAmong whole (sayings whole ls)
all_among whole ls = lines_among _ ls

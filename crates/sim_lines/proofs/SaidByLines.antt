-- What a line says is what a line can say.
use Rattle.std.proofs.Common.{◌≡◌, refl, Bool, true, false, not, if◌then◌else◌, nat_lt, List, [], ◌∷◌, length, Option, Some, None}
use Rattle.std.specs.List.{list_any, list_all}
use Rattle.sim_types.specs.declared.fault.FaultKind.TheVariants as fault
use Rattle.sim_language.specs.declared.form.Form.{Form}
use Rattle.sim_language.specs.Lines.{Word, is_text}
use Rattle.sim_language.specs.Forms.{operands}
use Rattle.sim_language.specs.Shapes.{Operand, Context, fit, shape}
use Rattle.sim_language.specs.Sayings.{Setting, Wrong, Says, context_of, form_in, is_bad_name, is_bad_number, said_by_form, said_by_slots, saying}
use Rattle.sim_language.specs.Said.{IsSaid}

slots_are_said : (f : Form) (context : Context) (words : List Word) (slots : List Operand)
    → fit context [] (shape f) words ≡ Some slots → IsSaid (said_by_slots context.whole.version f (Some slots))
slots_are_said f context words slots fits = by (list_any is_bad_number slots) (list_any (is_bad_name context.whole.version) slots) refl refl
  where
    by : (number name : Bool) → list_any is_bad_number slots ≡ number → list_any (is_bad_name context.whole.version) slots ≡ name
        → IsSaid (if number then Wrong fault.BadNumber else (if name then Wrong fault.BadName else Says f slots))
    by true name numbers names = tt
    by false true numbers names = tt
    by false false numbers names = record { context = context; words = words; shape = fits; numbers = numbers; names = names }

form_is_said : (context : Context) (form : Option Form) (ws : List Word) → IsSaid (said_by_form context form ws)
form_is_said context None ws = tt
form_is_said context (Some f) ws = by (fit context [] (shape f) (operands f ws)) refl
  where
    by : (slots : Option (List Operand)) → fit context [] (shape f) (operands f ws) ≡ slots → IsSaid (said_by_slots context.whole.version f slots)
    by None fits = tt
    by (Some slots) fits = slots_are_said f context (operands f ws) slots fits

pub saying_is_said : (s : Setting) (line : Word) (ws : List Word) → IsSaid (saying s line ws)
saying_is_said s line [] = tt
saying_is_said s line (w ∷ ws) = by (list_all is_text line) (nat_lt 200 (length line))
  where
    by : (text long : Bool)
        → IsSaid (if not text then Wrong fault.NotText else (if long then Wrong fault.LineTooLong else said_by_form (context_of s) (form_in s.whole.version s.section (w ∷ ws)) (w ∷ ws)))
    by false long = tt
    by true true = tt
    by true false = form_is_said (context_of s) (form_in s.whole.version s.section (w ∷ ws)) (w ∷ ws)

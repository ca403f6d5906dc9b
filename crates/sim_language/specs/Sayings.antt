-- What a line says by itself: nothing, a fault, or a form with its operands.
--     sayings whole lines      the lines of a text, each with what it says
use Rattle.std.specs.Prelude.{ℕ, ◌+◌, Bool, true, false, not, ◌||◌, ◌&&◌, if◌then◌else◌, nat_lt, List, [], ◌∷◌, length, codes, Option, Some, None, is_none}
use Rattle.std.specs.List.{list_any, list_all}
use Rattle.sim_types.specs.declared.fault.FaultKind.{FaultKind}
use Rattle.sim_types.specs.declared.fault.FaultKind.TheVariants as fault
use Rattle.sim_language.specs.declared.form.Form.{Form}
use Rattle.sim_language.specs.declared.form.Form.TheVariants as form
use Rattle.sim_language.specs.declared.form.Section.{Section}
use Rattle.sim_language.specs.declared.form.Version.{Version}
use Rattle.sim_language.specs.declared.form.Section.TheVariants.{Plain, InJournal, InPosters}
use Rattle.sim_language.specs.declared.shape.Reference.{Reference}
use Rattle.sim_language.specs.declared.shape.Reference.TheVariants.{AnyEvent, AProcess, Chained}
use Rattle.sim_language.specs.declared.shape.Role.{Role}
use Rattle.sim_language.specs.declared.shape.Role.TheVariants.{Declares, Parameter, Gives, Value, Within, Capacity, Refers, Names, EventAhead}
use Rattle.sim_language.specs.Lines.{Word, same, cut, words, is_text}
use Rattle.sim_language.specs.Numbers.{literal_within}
use Rattle.sim_language.specs.Names.{is_name}
use Rattle.sim_language.specs.Parameters.{is_parameter}
use Rattle.sim_language.specs.Forms.{begins, operands}
use Rattle.sim_language.specs.Shapes.{Operand, Context, capacity, shape, fit}
use Rattle.sim_language.specs.AnywhereInText.{WholeText}

-- the first word of a line is this one
abbrev pub begins_with : Word → List Word → Bool
begins_with v [] = false
begins_with v (w ∷ ws) = same w v

-- ---- the section that a line stands in

-- behind the first `journal` line the journal stands, and behind the first `poster` line the posters
abbrev pub section_behind : List Word → Section → Section
section_behind ws InPosters = InPosters
section_behind ws section = if begins_with (codes "poster") ws then InPosters else (if begins_with (codes "journal") ws then InJournal else section)

-- in a section the first word is judged before all else
abbrev pub form_in : Version → Section → List Word → Option Form
form_in version Plain ws = begins version ws
form_in version InJournal ws = if begins_with (codes "after") ws then Some form.After else None
form_in version InPosters ws = if begins_with (codes "poster") ws then Some form.Poster else Some form.Post

-- ---- numbers and names

-- a number is wanted, and the word is none in the range
abbrev pub is_bad_number : Operand → Bool
is_bad_number slot = by slot.role
  where
    by : Role → Bool
    by (Within low high) = is_none (literal_within low high slot.word)
    by (Capacity most) = is_none (capacity most slot.word)
    by role = false

-- `me` may stand for the process's own event
abbrev pub takes_me : Reference → Bool
takes_me AnyEvent = true
takes_me AProcess = true
takes_me Chained = true
takes_me reference = false

-- `now` and `val` may stand for a number
abbrev pub is_now_or_val : Word → Bool
is_now_or_val w = same w (codes "now") || same w (codes "val")

abbrev pub is_me : Word → Bool
is_me w = same w (codes "me")

-- a name is wanted, and the word is none
abbrev pub is_bad_name : Version → Operand → Bool
is_bad_name version slot = by slot.role
  where
    by : Role → Bool
    by Declares = not (is_name version slot.word)
    by Parameter = not (is_parameter version slot.word)
    by (Gives class) = not (is_name version slot.word)
    by Value = not (is_now_or_val slot.word || is_name version slot.word)
    by (Refers reference) = not (takes_me reference && is_me slot.word || is_name version slot.word)
    by (Names wanted) = not (is_name version slot.word)
    by (EventAhead found) = not (is_name version slot.word)
    by role = false

-- ---- what a line says

pub data Saying : Type 0 where
  -- it has no words
  Blank : Saying
  -- what is wrong with it by itself
  Wrong : FaultKind → Saying
  -- a form, and its operands
  Says : Form → List Operand → Saying

abbrev pub said_by_slots : Version → Form → Option (List Operand) → Saying
said_by_slots version f None = Wrong fault.BadShape
said_by_slots version f (Some slots) =
    if list_any is_bad_number slots then Wrong fault.BadNumber
    else (if list_any (is_bad_name version) slots then Wrong fault.BadName else Says f slots)

abbrev pub said_by_form : Context → Option Form → List Word → Saying
said_by_form context None ws = Wrong fault.UnknownWord
said_by_form context (Some f) ws = said_by_slots context.whole.version f (fit context [] (shape f) (operands f ws))

-- what a line says depends on the whole text, and on the sections that began above
pub record Setting : Type 0 where
  pub whole : WholeText
  pub section : Section
  pub posters : ℕ

abbrev pub context_of : Setting → Context
context_of s = record { whole = s.whole; posters = s.posters }

-- a line that is no text, or too long, says nothing more
abbrev pub saying : Setting → Word → List Word → Saying
saying s line [] = Blank
saying s line (w ∷ ws) =
    if not (list_all is_text line) then Wrong fault.NotText
    else (if nat_lt 200 (length line) then Wrong fault.LineTooLong
    else said_by_form (context_of s) (form_in s.whole.version s.section (w ∷ ws)) (w ∷ ws))

-- a cut line, its words and what it says
pub record TextLine : Type 0 where
  pub words : List Word
  pub saying : Saying

abbrev pub line_of : Setting → Word → TextLine
line_of s line = let c : Word = cut line in let ws : List Word = words c in record { words = ws; saying = saying s c ws }

abbrev pub setting_behind : List Word → Setting → Setting
setting_behind ws s = record s { section = section_behind ws s.section; posters = if begins_with (codes "poster") ws then s.posters + 1 else s.posters }

-- lines one below the other
abbrev pub lines_from : Setting → List Word → List TextLine
lines_from s [] = []
lines_from s (l ∷ ls) = line_of s l ∷ lines_from (setting_behind (words (cut l)) s) ls

-- the lines of a text
abbrev pub sayings : WholeText → List Word → List TextLine
sayings whole ls = lines_from (record { whole = whole; section = Plain; posters = 0 }) ls

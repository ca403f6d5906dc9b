-- The blocks that are open.
--     open_blocks above      None outside a process; else the open blocks of the process, the innermost first
use Rattle.std.specs.Prelude.{ℕ, ◌+◌, Bool, true, false, if◌then◌else◌, List, [], ◌∷◌, Option, Some, None, option_map}
use Rattle.sim_language.specs.declared.form.Form.{Form}
use Rattle.sim_language.specs.declared.form.Form.TheVariants as form
use Rattle.sim_language.specs.Lines.{Word}
use Rattle.sim_language.specs.Forms.{opens_block, is_statement}
use Rattle.sim_language.specs.Shapes.{Operand}
use Rattle.sim_language.specs.Sayings.{TextLine, Saying, Blank, Wrong, Says}

-- a `with`, `loop`, `repeat`, `if` or `try` that is open
pub record Block : Type 0 where
  pub form : Form
  -- the variable of a `with`
  pub variable : Word
  -- its `else` or `catch` stood
  pub split : Bool
  -- the place of its first statement inside
  pub inside : ℕ

-- a test of the form that a line says
abbrev pub says : (Form → Bool) → Saying → Bool
says test Blank = false
says test (Wrong kind) = false
says test (Says f slots) = test f

-- how many statements the lines above are: the place of the next
abbrev pub statements : List TextLine → ℕ
statements [] = 0
statements (l ∷ above) = if says is_statement l.saying then statements above + 1 else statements above

abbrev pub first_word : List Operand → Word
first_word [] = []
first_word (slot ∷ slots) = slot.word

abbrev pub closed : Option (List Block) → Option (List Block)
closed None = None
closed (Some []) = None
closed (Some (b ∷ blocks)) = Some blocks

abbrev pub split_first : List Block → List Block
split_first [] = []
split_first (b ∷ blocks) = record b { split = true } ∷ blocks

-- the open blocks behind a line of this form, where `inside` is the place behind it
abbrev pub blocks_behind : ℕ → Form → List Operand → Option (List Block) → Option (List Block)
blocks_behind inside form.Process slots blocks = Some []
blocks_behind inside form.End slots blocks = closed blocks
blocks_behind inside form.Else slots blocks = option_map split_first blocks
blocks_behind inside form.Catch slots blocks = option_map split_first blocks
blocks_behind inside f slots blocks = if opens_block f then option_map (λ outer. record { form = f; variable = first_word slots; split = false; inside = inside } ∷ outer) blocks else blocks

abbrev pub blocks_then : ℕ → Saying → Option (List Block) → Option (List Block)
blocks_then inside Blank blocks = blocks
blocks_then inside (Wrong kind) blocks = blocks
blocks_then inside (Says f slots) blocks = blocks_behind inside f slots blocks

-- by the lines above, the nearest first
abbrev pub open_blocks : List TextLine → Option (List Block)
open_blocks [] = None
open_blocks (l ∷ above) = blocks_then (statements (l ∷ above)) l.saying (open_blocks above)

-- A line in its text, with all that its faults and its statement depend on.
--     places context n above below      the lines below, each at its place
use Rattle.std.specs.Prelude.{ℕ, ◌+◌, Bool, true, false, ◌||◌, ◌&&◌, if◌then◌else◌, List, [], ◌∷◌, codes, ℤ, Option, None, unwrap_or, is_some}
use Rattle.std.specs.List.{list_any}
use Rattle.sim_types.specs.declared.setup.Class.{Class}
use Rattle.sim_language.specs.declared.form.Form.{Form}
use Rattle.sim_language.specs.declared.form.Meaning.{Meaning}
use Rattle.sim_language.specs.declared.form.Form.TheVariants as form
use Rattle.sim_language.specs.Lines.{Word, same, is_empty}
use Rattle.sim_language.specs.Numbers.{literal}
use Rattle.sim_language.specs.Named.{Named}
use Rattle.sim_language.specs.Forms.{is_process}
use Rattle.sim_language.specs.Sayings.{TextLine, Saying, Says, begins_with}
use Rattle.sim_language.specs.Declarations.{declared}
use Rattle.sim_language.specs.Blocks.{Block, says, statements, open_blocks, first_word}
use Rattle.sim_language.specs.Variables.{variables_at}

abbrev pub is_start : Form → Bool
is_start form.Start = true
is_start f = false

abbrev pub is_process_or_start : Form → Bool
is_process_or_start form.Start = true
is_process_or_start f = is_process f

abbrev pub is_after : Form → Bool
is_after form.After = true
is_after f = false

-- an entry of a journal or of a poster
abbrev pub is_entry : Form → Bool
is_entry form.After = true
is_entry form.Post = true
is_entry f = false

abbrev pub is_poster : Form → Bool
is_poster form.Poster = true
is_poster f = false

-- ---- what the lines above say

-- a line above is of such a form
abbrev pub some_above : (Form → Bool) → List TextLine → Bool
some_above test [] = false
some_above test (l ∷ above) = says test l.saying || some_above test above

abbrev pub count_above : (Form → Bool) → List TextLine → ℕ
count_above test [] = 0
count_above test (l ∷ above) = if says test l.saying then count_above test above + 1 else count_above test above

-- how many lines above have words
abbrev pub worded_above : List TextLine → ℕ
worded_above [] = 0
worded_above (l ∷ above) = if is_empty l.words then worded_above above else worded_above above + 1

-- a line above begins with `journal`
abbrev pub journal_above : List TextLine → Bool
journal_above [] = false
journal_above (l ∷ above) = begins_with (codes "journal") l.words || journal_above above

abbrev pub after_then : Saying → Option ℤ → Option ℤ
after_then (Says form.After slots) last = literal (first_word slots)
after_then other last = last

-- the number of events that the last journal entry above gives
abbrev pub after_above : List TextLine → Option ℤ
after_above [] = None
after_above (l ∷ above) = after_then l.saying (after_above above)

pub record Above : Type 0 where
  pub worded : ℕ
  pub declared : List (Named Meaning)
  pub process_or_start : Bool
  pub start : Bool
  pub journal : Bool
  -- None outside a process
  pub blocks : Option (List Block)
  pub statements : ℕ
  pub entries : ℕ
  pub posters : ℕ
  pub after : Option ℤ

abbrev pub above_of : List TextLine → Above
above_of above = record {
  worded = worded_above above;
  declared = declared above;
  process_or_start = some_above is_process_or_start above;
  start = some_above is_start above;
  journal = journal_above above;
  blocks = open_blocks above;
  statements = statements above;
  entries = count_above is_entry above;
  posters = count_above is_poster above;
  after = after_above above;
}

-- ---- places

pub record LineInText : Type 0 where
  -- the number of the line, counted from 1
  pub number : ℕ
  pub above : Above
  -- the variables of the process that the line stands in or begins
  pub variables : List (Named Class)
  pub line : TextLine

-- the lines below, where the line numbers go on with n and `above` has the lines above, the nearest first
abbrev pub places : ℕ → List TextLine → List TextLine → List LineInText
places n above [] = []
places n above (l ∷ below) = record { number = n; above = above_of above; variables = variables_at (l ∷ above) below; line = l } ∷ places (n + 1) (l ∷ above) below

-- the place stands in a process
abbrev pub in_process : Above → Bool
in_process above = is_some above.blocks

abbrev pub blocks_of : Above → List Block
blocks_of above = unwrap_or above.blocks []

abbrev pub is_with : Block → Bool
is_with b = by b.form
  where
    by : Form → Bool
    by form.With = true
    by f = false

-- a `with` of this variable is open
abbrev pub stands_in : Above → Word → Bool
stands_in above w = list_any (λ b. is_with b && same w b.variable) (blocks_of above)

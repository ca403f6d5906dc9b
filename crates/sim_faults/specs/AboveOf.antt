-- What the lines above say, one line further.
use Rattle.std.specs.Prelude.{ℕ, ◌+◌, ◌≤◌, Bool, ◌||◌, if◌then◌else◌, codes, length}
use Rattle.sim_language.specs.Forms.{is_statement}
use Rattle.sim_language.specs.Lines.{is_empty}
use Rattle.sim_language.specs.Sayings.{TextLine, begins_with}
use Rattle.sim_language.specs.Declarations.{declared_behind}
use Rattle.sim_language.specs.Blocks.{says, blocks_then}
use Rattle.sim_language.specs.Places.{Above, is_process_or_start, is_start, is_entry, is_poster, after_then}

abbrev pub one_more : Bool → ℕ → ℕ
one_more counts n = if counts then n + 1 else n

-- `above_of (l ∷ above)` is `above_behind (above_of above) l`
abbrev pub above_behind : Above → TextLine → Above
above_behind a l = record {
  worded = if is_empty l.words then a.worded else a.worded + 1;
  declared = declared_behind a.declared l.saying;
  process_or_start = says is_process_or_start l.saying || a.process_or_start;
  start = says is_start l.saying || a.start;
  journal = begins_with (codes "journal") l.words || a.journal;
  blocks = blocks_then (one_more (says is_statement l.saying) a.statements) l.saying a.blocks;
  statements = one_more (says is_statement l.saying) a.statements;
  entries = one_more (says is_entry l.saying) a.entries;
  posters = one_more (says is_poster l.saying) a.posters;
  after = after_then l.saying a.after;
}

-- no count is more than n
pub record IsBelow (n : ℕ) (a : Above) : Type 0 where
  pub worded : a.worded ≤ n
  pub statements : a.statements ≤ n
  pub entries : a.entries ≤ n
  pub posters : a.posters ≤ n
  pub declared : length a.declared ≤ n

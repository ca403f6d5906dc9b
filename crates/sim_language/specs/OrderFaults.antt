-- Faults of order: BadHeader, Misplaced and BadOrder.
use Rattle.std.specs.Prelude.{ℕ, suc, zero, Bool, true, false, not, ◌||◌, ◌&&◌, ◌==◌, List, [], ◌∷◌, codes, Option, Some, ℤ}
use Rattle.std.specs.List.{list_any}
use Rattle.std.specs.Int.Signed.{lt_z}
use Rattle.sim_language.specs.declared.form.Form.{Form}
use Rattle.sim_language.specs.declared.form.Form.TheVariants as form
use Rattle.sim_language.specs.Lines.{Word}
use Rattle.sim_language.specs.Numbers.{literal}
use Rattle.sim_language.specs.Shapes.{Operand}
use Rattle.sim_language.specs.Sayings.{TextLine, begins_with}
use Rattle.sim_language.specs.Blocks.{Block, says, first_word}
use Rattle.sim_language.specs.Places.{Above, in_process, blocks_of, stands_in}

-- ---- BadHeader: the first line with words is neither `scenario 1` nor `scenario 2`, or the second does not begin with
-- `until`

abbrev pub is_header : Form → Bool
is_header form.Scenario = true
is_header form.ScenarioTwo = true
is_header f = false

abbrev pub bad_header_at : ℕ → TextLine → Bool
bad_header_at zero line = not (says is_header line.saying)
bad_header_at (suc zero) line = not (begins_with (codes "until") line.words)
bad_header_at (suc (suc n)) line = false

abbrev pub bad_header : Above → TextLine → Bool
bad_header above line = bad_header_at above.worded line

-- ---- Misplaced

abbrev pub is_loop : Block → Bool
is_loop b = by b.form
  where
    by : Form → Bool
    by form.Loop = true
    by form.Repeat = true
    by f = false

-- the innermost block is an `if` without `else`
abbrev pub awaits_else : List Block → Bool
awaits_else [] = false
awaits_else (b ∷ blocks) = by b.form && not b.split
  where
    by : Form → Bool
    by form.If = true
    by f = false

-- the innermost block is a `try` without `catch`
abbrev pub awaits_catch : List Block → Bool
awaits_catch [] = false
awaits_catch (b ∷ blocks) = by b.form && not b.split
  where
    by : Form → Bool
    by form.Try = true
    by f = false

-- declarations stand in front of the processes
abbrev pub declaration_misplaced : Above → Bool
declaration_misplaced above = in_process above || above.process_or_start

-- out of the order of a text, or of a process and its blocks
abbrev pub misplaced : Above → Form → List Operand → Bool
misplaced above form.Scenario slots = not (above.worded == 0)
misplaced above form.ScenarioTwo slots = not (above.worded == 0)
misplaced above form.UntilEmpty slots = not (above.worded == 1)
misplaced above form.UntilTime slots = not (above.worded == 1)
misplaced above form.UntilEvent slots = not (above.worded == 1)
misplaced above form.Seed slots = not (above.worded == 2)
misplaced above form.Resource slots = declaration_misplaced above
misplaced above form.Priority slots = declaration_misplaced above
misplaced above form.Preemptive slots = declaration_misplaced above
misplaced above form.Container slots = declaration_misplaced above
misplaced above form.Store slots = declaration_misplaced above
misplaced above form.PStore slots = declaration_misplaced above
misplaced above form.FStore slots = declaration_misplaced above
misplaced above form.Event slots = declaration_misplaced above
misplaced above form.Port slots = declaration_misplaced above
misplaced above form.Process slots = in_process above || above.start
misplaced above form.Start slots = in_process above
misplaced above form.Journal slots = in_process above
misplaced above form.After slots = not above.journal
misplaced above form.Poster slots = in_process above
misplaced above form.Post slots = false
misplaced above form.Else slots = not (awaits_else (blocks_of above))
misplaced above form.Catch slots = not (awaits_catch (blocks_of above))
misplaced above form.End slots = not (in_process above) || awaits_catch (blocks_of above)
misplaced above form.Break slots = not (list_any is_loop (blocks_of above))
misplaced above form.Release slots = not (stands_in above (first_word slots))
misplaced above f slots = not (in_process above)

-- ---- BadOrder: a journal entry falls behind the one above it

abbrev pub falls : Option ℤ → Option ℤ → Bool
falls (Some last) (Some next) = lt_z next last
falls last next = false

abbrev pub bad_order : Above → Form → List Operand → Bool
bad_order above form.After slots = falls above.after (literal (first_word slots))
bad_order above f slots = false

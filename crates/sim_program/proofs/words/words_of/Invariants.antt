use Rattle.std.proofs.Common.{All}
use Rattle.std.specs.Str.{IsUtf8}
use Rattle.sim_program.proofs.words.words_of.Given as goal

abbrev pub invariant-loop-place : goal.invariant-loop-place
invariant-loop-place g l = All IsUtf8 l.words.items

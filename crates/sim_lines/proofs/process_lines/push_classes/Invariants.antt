use Rattle.std.proofs.Common.{◌≡◌, ◌≤◌, ◌++◌, length, map, vec_len}
use Rattle.sim_language.specs.Parameters.{parameter_class}
use Rattle.sim_lines.proofs.process_lines.push_classes.Given as goal

-- the classes so far, and those of what is left
abbrev pub invariant-loop-word : goal.invariant-loop-word
invariant-loop-word l = record {
  classes : l.classes.items ++ map parameter_class l.words ≡ l.fn.classes.items ++ map parameter_class l.fn.words;
  more : vec_len l.fn.classes ≤ vec_len l.classes;
}

abbrev pub decreases-loop-word : goal.decreases-loop-word
decreases-loop-word l = length l.words

use Rattle.std.proofs.Common.{◌≡◌, ◌<◌, ◌^◌, drop}
use Rattle.std.specs.List.{list_all}
use Rattle.sim_language.specs.Numbers.{is_digit, number_after}
use Rattle.sim_words.proofs.number.number.Given as goal

-- the number so far goes on with what is left to that of the word
abbrev pub invariant-loop-byte : goal.invariant-loop-byte
invariant-loop-byte l = record {
  value : number_after l.value (drop l.byte-index l.word) ≡ number_after 0 l.word;
  small : l.value < 10 ^ l.byte-index;
  digits : list_all is_digit (drop l.byte-index l.word) ≡ list_all is_digit l.word;
}

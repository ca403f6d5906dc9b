-- What reading does to a buffer and to the bytes left.
use Rattle.std.specs.Prelude.{◌≡◌, ℕ, ◌≤◌, List, length, take, drop, None, Some, MatchResult, ⊤}
use Rattle.std.specs.declared.option.Option.{Option}
use Rattle.std.specs.declared.result.Result.{Result}
use Rattle.std.specs.Io.KnownBytes.{Consumes, Keeps}

-- the bytes that a read put at the front of a buffer have left the source, and none where the read failed
abbrev pub ReadTakes : {E : Type 0} → Option (List ℕ) → Option (List ℕ) → Result ℕ E → List ℕ → Type 0
ReadTakes before after result buf = MatchResult result (λ n. Consumes before after (take n buf)) (λ _. Keeps before after)

-- a buffer stays as it was behind the bytes that a read put at its front, and whole where the read failed
abbrev pub KeepsBehind : {E : Type 0} → List ℕ → List ℕ → Result ℕ E → Type 0
KeepsBehind old new result = MatchResult result (λ n. drop n new ≡ drop n old) (λ _. new ≡ old)

-- the first n of the bytes left were taken, or all where there are no more, and the others are left
abbrev pub TakesFirst : ℕ → Option (List ℕ) → Option (List ℕ) → List ℕ → Type 0
TakesFirst n None after bytes = ⊤
TakesFirst n (Some left) after bytes = (bytes ≡ take n left) × (after ≡ Some (drop n left))

-- some of the bytes left were taken from the front, at most n, and are lost
pub record Loses (n : ℕ) (before after : Option (List ℕ)) : Type 0 where
  pub bytes : List ℕ
  pub few : length bytes ≤ n
  pub consumed : Consumes before after bytes

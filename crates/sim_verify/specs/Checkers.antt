-- A sink that compares what it takes with the bytes that are given.
use Rattle.std.specs.Prelude.{◌≡◌, ◌≢◌, ◌≤◌, ℕ, Bool, List, [], ◌∷◌, ◌++◌, length, take, slice_get, option_to_list, Option, Some, None}
use Rattle.sim_outside.specs.Writes.{SinkOf}

-- the bytes that are given, how many of them were taken, and the byte that was taken in place of the next; the count of
-- flushes, whether any byte was taken since the last, and the count of faults
pub record CheckerOf : Type 0 where
  pub given : List ℕ
  pub at : ℕ
  pub wrong : Option ℕ
  pub flushes : ℕ
  pub held_back : Bool
  pub faults : ℕ

-- the byte in place of the next is another one, and without one no write has failed
pub record IsRightSoFar (c : CheckerOf) : Type 0 where
  pub inside : c.at ≤ length c.given
  pub differs : (b : ℕ) → c.wrong ≡ Some b → slice_get c.given c.at ≢ Some b
  pub no_fault : c.wrong ≡ None → c.faults ≡ 0

-- what it tells as a sink
abbrev pub told_by_checker : CheckerOf → SinkOf
told_by_checker c =
    record {
      taken = Some (take c.at c.given ++ option_to_list c.wrong);
      faults = c.faults;
      flushing = record { count = c.flushes; held_back = c.held_back };
    }

-- bytes that begin with those that it took, and go on so after a byte that is not the one that is given
abbrev pub onto_wrong : Option ℕ → List ℕ → List ℕ
onto_wrong None more = []
onto_wrong (Some b) more = b ∷ more

abbrev pub taken_then : CheckerOf → List ℕ → List ℕ
taken_then c more = take c.at c.given ++ onto_wrong c.wrong more

-- What the line of an event begins with.
use Rattle.std.specs.Prelude.{◌≡◌, ℕ, ◌≤◌, ℤ, List, [], ◌∷◌, ◌++◌, length, decimal, take}
use Rattle.std.specs.Fmt.{signed_decimal}
use Rattle.sim_trace.specs.declared.buffer.Begin.{Begin}

-- `@`, the time and the priority, each with a space behind it
abbrev pub event_begin : ℤ → ℕ → List ℕ
event_begin time priority = 64 ∷ signed_decimal time ++ 32 ∷ decimal priority ++ 32 ∷ []

-- a line begins with these
pub record BeginsWith (line : List ℕ) (begin : Begin) : Type 0 where
  pub inside : begin.end ≤ length line
  pub short : begin.end ≤ 44
  pub begins : take begin.end line ≡ event_begin begin.time begin.priority

-- Where statements go on besides at the next.
--     linked n code      the statements from place n on, each with the place where it goes on
-- A loop and a repeat go on past their `end`, an `if` behind its `else` or past its `end`, an `else` and a `catch` past the
-- `end`, and a `try` at its `catch`.
use Rattle.std.specs.Prelude.{ℕ, suc, List, [], ◌∷◌}
use Rattle.sim_types.specs.declared.script.Stmt.{Stmt}
use Rattle.sim_types.specs.declared.script.Stmt.TheVariants as stmt

-- a block whose `end` stands further down: the place past it, and that of its `catch`, or behind its `else`, or else the same
pub record Closing : Type 0 where
  pub past : ℕ
  pub split : ℕ

abbrev pub without_first : List Closing → List Closing
without_first [] = []
without_first (c ∷ cs) = cs

abbrev pub split_at : ℕ → List Closing → List Closing
split_at n [] = []
split_at n (c ∷ cs) = record { past = c.past; split = n } ∷ cs

-- the blocks that are closed from a statement at place n on, by those closed behind it, the innermost first
abbrev pub closings_then : ℕ → Stmt → List Closing → List Closing
closings_then n (stmt.EndLoop first) cs = record { past = suc n; split = suc n } ∷ cs
closings_then n (stmt.EndRepeat first) cs = record { past = suc n; split = suc n } ∷ cs
closings_then n stmt.EndWith cs = record { past = suc n; split = suc n } ∷ cs
closings_then n stmt.EndPlain cs = record { past = suc n; split = suc n } ∷ cs
closings_then n (stmt.Else past) cs = split_at (suc n) cs
closings_then n (stmt.Catch kind value past) cs = split_at n cs
closings_then n (stmt.With to res priority preempt) cs = without_first cs
closings_then n (stmt.Loop past) cs = without_first cs
closings_then n (stmt.Repeat times past) cs = without_first cs
closings_then n (stmt.If test other) cs = without_first cs
closings_then n (stmt.Try catch) cs = without_first cs
closings_then n s cs = cs

abbrev pub closings : ℕ → List Stmt → List Closing
closings n [] = []
closings n (s ∷ code) = closings_then n s (closings (suc n) code)

abbrev pub past_of : List Closing → ℕ
past_of [] = 0
past_of (c ∷ cs) = c.past

abbrev pub split_of : List Closing → ℕ
split_of [] = 0
split_of (c ∷ cs) = c.split

abbrev pub link : Stmt → List Closing → Stmt
link (stmt.Loop past) cs = stmt.Loop (past_of cs)
link (stmt.Repeat times past) cs = stmt.Repeat times (past_of cs)
link (stmt.If test other) cs = stmt.If test (split_of cs)
link (stmt.Else past) cs = stmt.Else (past_of cs)
link (stmt.Try catch) cs = stmt.Try (split_of cs)
link (stmt.Catch kind value past) cs = stmt.Catch kind value (past_of cs)
link s cs = s

abbrev pub linked : ℕ → List Stmt → List Stmt
linked n [] = []
linked n (s ∷ code) = link s (closings (suc n) code) ∷ linked (suc n) code

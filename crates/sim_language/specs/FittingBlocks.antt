-- Blocks that are closed, with statements that go on where they should.
--     code_fits code
use Rattle.std.specs.Prelude.{ℕ, suc, Bool, true, false, not, ◌&&◌, ◌==◌, if◌then◌else◌, nat_le, List, [], ◌∷◌, length}
use Rattle.std.specs.List.{list_any}
use Rattle.sim_types.specs.declared.script.Stmt.{Stmt}
use Rattle.sim_types.specs.declared.script.Stmt.TheVariants as stmt

-- an open block, with what its `else`, `catch` or `end` has to meet
pub data Open : Type 0 where
  -- the request variable
  OpenWith : ℕ → Open
  -- the first statement inside, and the place past its end
  OpenLoop OpenRepeat : ℕ → ℕ → Open
  -- where an `if` goes on at 0; the place past the end, behind its `else`
  OpenIf OpenElse : ℕ → Open
  -- the place of the `catch` of a `try`; the place past the end, behind its `catch`
  OpenTry OpenCatch : ℕ → Open

-- the blocks that are open behind the statement at place n, the innermost first
abbrev pub open_then : ℕ → List Open → Stmt → List Open
open_then n opens (stmt.With to res priority preempt) = OpenWith to ∷ opens
open_then n opens (stmt.Loop past) = OpenLoop (suc n) past ∷ opens
open_then n opens (stmt.Repeat times past) = OpenRepeat (suc n) past ∷ opens
open_then n opens (stmt.If test other) = OpenIf other ∷ opens
open_then n (o ∷ opens) (stmt.Else past) = OpenElse past ∷ opens
open_then n opens (stmt.Try catch) = OpenTry catch ∷ opens
open_then n (o ∷ opens) (stmt.Catch kind value past) = OpenCatch past ∷ opens
open_then n (o ∷ opens) (stmt.EndLoop first) = opens
open_then n (o ∷ opens) (stmt.EndRepeat first) = opens
open_then n (o ∷ opens) stmt.EndWith = opens
open_then n (o ∷ opens) stmt.EndPlain = opens
open_then n opens s = opens

abbrev pub is_open_loop : Open → Bool
is_open_loop (OpenLoop inside past) = true
is_open_loop (OpenRepeat inside past) = true
is_open_loop o = false

abbrev pub is_open_with : ℕ → Open → Bool
is_open_with v (OpenWith w) = v == w
is_open_with v o = false

-- the statement at place n may stand within these blocks, and goes on where it should
abbrev pub stands_within : ℕ → List Open → Stmt → Bool
stands_within n (OpenIf other ∷ opens) (stmt.Else past) = other == suc n
stands_within n opens (stmt.Else past) = false
stands_within n (OpenTry catch ∷ opens) (stmt.Catch kind value past) = catch == n
stands_within n opens (stmt.Catch kind value past) = false
stands_within n (OpenLoop inside past ∷ opens) (stmt.EndLoop first) = (first == inside) && (past == suc n)
stands_within n opens (stmt.EndLoop first) = false
stands_within n (OpenRepeat inside past ∷ opens) (stmt.EndRepeat first) = (first == inside) && (past == suc n)
stands_within n opens (stmt.EndRepeat first) = false
stands_within n (OpenWith v ∷ opens) stmt.EndWith = true
stands_within n opens stmt.EndWith = false
stands_within n (OpenIf other ∷ opens) stmt.EndPlain = other == suc n
stands_within n (OpenElse past ∷ opens) stmt.EndPlain = past == suc n
stands_within n (OpenCatch past ∷ opens) stmt.EndPlain = past == suc n
stands_within n opens stmt.EndPlain = false
stands_within n [] stmt.EndProcess = true
stands_within n opens stmt.EndProcess = false
stands_within n opens stmt.Break = list_any is_open_loop opens
-- no `with` in which it stands has its variable
stands_within n opens (stmt.With to res priority preempt) = not (list_any (is_open_with to) opens)
stands_within n opens (stmt.Release v) = list_any (is_open_with v) opens
stands_within n opens s = true

abbrev pub is_end_process : Stmt → Bool
is_end_process stmt.EndProcess = true
is_end_process s = false

-- each statement from place n on stands well, at most 32 blocks are open, and the last statement ends a process
abbrev pub stand_well : ℕ → List Open → List Stmt → Bool
stand_well n opens [] = false
stand_well n opens (s ∷ []) = stands_within n opens s && is_end_process s
stand_well n opens (s ∷ t ∷ code) = stands_within n opens s && nat_le (length (open_then n opens s)) 32 && stand_well (suc n) (open_then n opens s) (t ∷ code)

abbrev pub code_fits : List Stmt → Bool
code_fits [] = true
code_fits (s ∷ code) = stand_well 0 [] (s ∷ code)

-- the places at which processes begin: the first, and each behind the end of one
abbrev pub firsts_after : ℕ → List Stmt → List ℕ
firsts_after n [] = []
firsts_after n (s ∷ code) = if is_end_process s then suc n ∷ firsts_after (suc n) code else firsts_after (suc n) code

abbrev pub firsts : List Stmt → List ℕ
firsts code = 0 ∷ firsts_after 0 code

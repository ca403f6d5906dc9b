-- Where the processes begin, as statements are added.
use Rattle.std.proofs.Common.{◌≡◌, refl, ap, ℕ, suc, ◌+◌, Bool, true, false, if◌then◌else◌, List, [], ◌∷◌, ◌++◌, length, arith}
use Rattle.sim_types.specs.declared.script.Stmt.{Stmt}
use Rattle.sim_language.specs.Links.{closings, linked}
use Rattle.sim_language.specs.FittingBlocks.{is_end_process, firsts_after, firsts}
use Rattle.sim_language_law.proofs.Blocks.ClosedBlocks.{is_end_process-link}

-- the place behind the end of a process
abbrev pub next_first : Bool → ℕ → List ℕ
next_first ends n = if ends then n ∷ [] else []

-- one statement more
firsts_after-push : (n : ℕ) (code : List Stmt) (s : Stmt)
    → firsts_after n (code ++ s ∷ []) ≡ firsts_after n code ++ next_first (is_end_process s) (suc (n + length code))
firsts_after-push n [] s = let same : n + 0 ≡ n = omega arith in rw same refl
firsts_after-push n (t ∷ code) s = by (is_end_process t) (rw further (firsts_after-push (suc n) code s))
  where
    further : n + suc (length code) ≡ suc n + length code
    further = omega arith

    by : (b : Bool)
        → firsts_after (suc n) (code ++ s ∷ []) ≡ firsts_after (suc n) code ++ next_first (is_end_process s)
        (suc (n + suc (length code)))
        → (if b then suc n ∷ firsts_after (suc n) (code ++ s ∷ []) else firsts_after (suc n) (code ++ s ∷ []))
        ≡ (if b then suc n ∷ firsts_after (suc n) code else firsts_after (suc n) code) ++ next_first (is_end_process s)
        (suc (n + suc (length code)))
    by true rest = ap (λ ns. suc n ∷ ns) rest
    by false rest = rest

pub firsts-push : (code : List Stmt) (s : Stmt) → firsts (code ++ s ∷ []) ≡ firsts code ++ next_first (is_end_process s) (suc (length code))
firsts-push code s = let same : 0 + length code ≡ length code = omega arith in rw (firsts_after-push 0 code s, same) refl

firsts_after-linked : (m n : ℕ) (code : List Stmt) → firsts_after m (linked n code) ≡ firsts_after m code
firsts_after-linked m n [] = refl
firsts_after-linked m n (s ∷ code) = rw (is_end_process-link s (closings (suc n) code), firsts_after-linked (suc m) (suc n) code) refl

-- linking keeps where the processes begin
pub firsts-linked : (n : ℕ) (code : List Stmt) → firsts (linked n code) ≡ firsts code
firsts-linked n code = ap (λ ns. 0 ∷ ns) (firsts_after-linked 0 n code)

-- The code and the process kinds of the lines so far: what holds of them, and what one line more keeps.
use Rattle.std.proofs.Common.{◌≡◌, refl, ap, subst, sym, ◌∙◌, ℕ, suc, true, false, ◌&&◌, nat_le, List, [], ◌∷◌, ◌++◌, map, length, Option, Some, None, unwrap_or, is_none, arith}
use Rattle.std.proofs.lemmas.List.{map-append, append-nil, length-append, length-map}
use Rattle.std.proofs.lemmas.Bool.{false≢true, le-leb, leb-false, leb-true}
use Rattle.sim_types.specs.declared.setup.Class.{Class}
use Rattle.sim_types.specs.declared.script.Kind.{Kind}
use Rattle.sim_types.specs.declared.script.Stmt.{Stmt}
use Rattle.sim_language.specs.declared.form.Form.{Form}
use Rattle.sim_language.specs.declared.form.Form.TheVariants as form
use Rattle.sim_language.specs.Named.{Named}
use Rattle.sim_language.specs.Forms.{opens_block}
use Rattle.sim_language.specs.Shapes.{Operand}
use Rattle.sim_language.specs.AnywhereInText.{ProcessLines}
use Rattle.sim_language.specs.Blocks.{Block, blocks_behind}
use Rattle.sim_language.specs.Places.{LineInText}
use Rattle.sim_language.specs.FittingBlocks.{is_end_process, firsts}
use Rattle.sim_language_law.proofs.Blocks.ClosedBlocks.{Leaves, leaves_none, leaves_more, frames_then, last_ends, last_ends-push}
use Rattle.sim_language_law.proofs.Blocks.BlockFrames.{frame_of, frames_of, frames_at}
use Rattle.sim_language_law.proofs.Blocks.OpenWiths.{AllNamed, GivesNew, named_behind}
use Rattle.sim_language_law.proofs.Blocks.MadeStatements.{Makes}
use Rattle.sim_language_law.proofs.Blocks.ProcessFirsts.{next_first, firsts-push}

abbrev pub firsts_of : List Kind → List ℕ
firsts_of kinds = map (λ k. k.first) kinds

-- the statements up to place n leave these blocks open; None outside a process
pub record Stands (n : ℕ) (variables : List (Named Class)) (blocks : Option (List Block)) (code : List Stmt) (kinds : List Kind) : Type 0 where
  pub counted : length code ≡ n
  pub leaves : Leaves n (frames_at variables blocks) code
  pub few : nat_le (length (unwrap_or blocks [])) 32 ≡ true
  pub named : AllNamed variables (unwrap_or blocks [])
  pub ended : is_none blocks ≡ true → last_ends code ≡ true
  -- outside a process the next one begins here
  pub begun : firsts code ≡ firsts_of kinds ++ next_first (is_none blocks) n

-- the same by other names
pub stands_like : (m n : ℕ) (v w : List (Named Class)) (b c : Option (List Block)) (code more : List Stmt)
    (kinds others : List Kind) → m ≡ n → v ≡ w → b ≡ c → code ≡ more → kinds ≡ others → Stands m v b code kinds
    → Stands n w c more others
stands_like m n v w b c code more kinds others counts variables blocks codes heads p = rw (← counts, ← variables, ← blocks, ← codes, ← heads) p

-- before the first line
pub stands_none : (variables : List (Named Class)) → Stands 0 variables None [] []
stands_none variables = record { counted = refl; leaves = leaves_none; few = refl; named = tt; ended = λ h. refl; begun = refl }

-- a process begins
pub stands_process : (n : ℕ) (before variables : List (Named Class)) (code : List Stmt) (kinds : List Kind) (k : Kind)
    → k.first ≡ n → Stands n before None code kinds → Stands n variables (Some []) code (kinds ++ k ∷ [])
stands_process n before variables code kinds k first p = record {
  counted = p.counted;
  leaves = p.leaves;
  few = refl;
  named = tt;
  ended = λ h. absurd (false≢true h);
  begun = p.begun ∙ ap (λ m. firsts_of kinds ++ m ∷ []) (sym first) ∙ sym (map-append (λ x. x.first) kinds (k ∷ [])) ∙ sym (append-nil (firsts_of (kinds ++ k ∷ [])));
}

-- ---- a statement

-- of at most 32
one_more : (n : ℕ) → nat_le 32 n ≡ false → nat_le (suc n) 32 ≡ true
one_more n room = le-leb (suc n) 32 (leb-false 32 n room)

one_less : (n : ℕ) → nat_le (suc n) 32 ≡ true → nat_le n 32 ≡ true
one_less n few = le-leb n 32 (omega (arith, leb-true (suc n) 32 few))

-- behind the line at most 32 blocks are open
few_behind : (inside : ℕ) (f : Form) (slots : List Operand) (blocks : List Block) → nat_le (length blocks) 32 ≡ true
    → (opens_block f && nat_le 32 (length blocks)) ≡ false
    → nat_le (length (unwrap_or (blocks_behind inside f slots (Some blocks)) [])) 32 ≡ true
few_behind inside form.Process slots blocks few room = refl
few_behind inside form.End slots [] few room = refl
few_behind inside form.End slots (b ∷ blocks) few room = one_less (length blocks) few
few_behind inside form.Else slots [] few room = refl
few_behind inside form.Else slots (b ∷ blocks) few room = few
few_behind inside form.Catch slots [] few room = refl
few_behind inside form.Catch slots (b ∷ blocks) few room = few
few_behind inside form.With slots blocks few room = one_more (length blocks) room
few_behind inside form.Loop slots blocks few room = one_more (length blocks) room
few_behind inside form.Repeat slots blocks few room = one_more (length blocks) room
few_behind inside form.If slots blocks few room = one_more (length blocks) room
few_behind inside form.Try slots blocks few room = one_more (length blocks) room
few_behind inside f slots blocks few room = few

-- the line makes one statement more
pub stands_statement : (heads : ProcessLines) (place : LineInText) (n : ℕ) (blocks : List Block) (f : Form)
    (slots : List Operand) (code : List Stmt) (kinds : List Kind) → (m : Makes heads place n blocks f slots)
    → GivesNew place.variables blocks f slots → (opens_block f && nat_le 32 (length blocks)) ≡ false
    → Stands n place.variables (Some blocks) code kinds
    → Stands (suc n) place.variables (blocks_behind (suc n) f slots (Some blocks)) (code ++ m.made ∷ []) kinds
stands_statement heads place n blocks f slots code kinds m new room p = record {
  counted = counted;
  leaves = subst (λ frames. Leaves (suc n) frames (code ++ m.made ∷ [])) m.behind (leaves_more n (frames_of place.variables blocks) code m.made p.leaves m.may framed);
  few = few;
  named = named_behind place.variables (suc n) f slots blocks new p.named;
  ended = λ h. last_ends-push code m.made ∙ m.ends ∙ h;
  begun = firsts-push code m.made ∙ ap (λ ns. ns ++ next_first (is_end_process m.made) (suc (length code))) (p.begun ∙ append-nil (firsts_of kinds)) ∙ rw (p.counted, m.ends) refl;
}
  where
    counted : length (code ++ m.made ∷ []) ≡ suc n
    counted = omega (arith, length-append code (m.made ∷ []), p.counted)

    few : nat_le (length (unwrap_or (blocks_behind (suc n) f slots (Some blocks)) [])) 32 ≡ true
    few = few_behind (suc n) f slots blocks p.few room

    framed : nat_le (length (frames_then n m.made (frames_of place.variables blocks))) 32 ≡ true
    framed = rw (m.behind, length-map (unwrap_or (blocks_behind (suc n) f slots (Some blocks)) []) (frame_of place.variables)) few

-- The blocks that are open by the lines above, as the statements so far have them.
use Rattle.std.proofs.Common.{◌≡◌, refl, ap, ℕ, Bool, true, false, ◌&&◌, List, [], ◌∷◌, map, Option, Some, unwrap_or, is_none, inl, inr, ◌⊎◌}
use Rattle.std.specs.List.{list_any}
use Rattle.std.proofs.lemmas.Bool.{false≢true, true≢false, or_cases, or_left, or_right, eq-eqb}
use Rattle.std.proofs.lemmas.Slice.Eq.{bytes_eq-Decides}
use Rattle.sim_types.specs.declared.setup.Class.{Class}
use Rattle.sim_types.specs.declared.script.Stmt.{Stmt}
use Rattle.sim_types.specs.declared.script.Stmt.TheVariants as stmt
use Rattle.sim_language.specs.declared.form.Form.{Form}
use Rattle.sim_language.specs.declared.form.Form.TheVariants as form
use Rattle.sim_language.specs.Lines.{Word, same}
use Rattle.sim_language.specs.Named.{Named}
use Rattle.sim_language.specs.Blocks.{Block, closed, split_first}
use Rattle.sim_language.specs.Places.{is_with}
use Rattle.sim_language.specs.OrderFaults.{is_loop, awaits_else, awaits_catch}
use Rattle.sim_language.specs.Statements.{variable, end_of}
use Rattle.sim_language.specs.FittingBlocks.{is_end_process}
use Rattle.sim_language_law.proofs.Blocks.ClosedBlocks.{Frame, InWith, InLoop, InRepeat, InIf, InElse, InTry, InCatch, with_inner, frames_then, is_loop_frame, is_with_frame, may_stand}

-- a `with` has the number of its variable; a block of another form is never open
abbrev pub frame_by : Form → Bool → ℕ → ℕ → Frame
frame_by form.With split v inside = InWith v
frame_by form.Loop split v inside = InLoop inside
frame_by form.Repeat split v inside = InRepeat inside
frame_by form.If true v inside = InElse
frame_by form.Try false v inside = InTry
frame_by form.Try true v inside = InCatch
frame_by f split v inside = InIf

module _ (variables : List (Named Class)) where
  abbrev pub frame_of : Block → Frame
  frame_of b = frame_by b.form b.split (variable variables b.variable) b.inside

  abbrev pub frames_of : List Block → List Frame
  frames_of blocks = map frame_of blocks

  -- outside a process no block is open
  abbrev pub frames_at : Option (List Block) → List Frame
  frames_at blocks = frames_of (unwrap_or blocks [])

-- a block by its parts, since the tests match on its form
abbrev pub block : Form → Word → Bool → ℕ → Block
block f w split inside = record { form = f; variable = w; split = split; inside = inside }

-- ---- `break` and `release`

loop_alike : (f : Form) (w : Word) (split : Bool) (inside v : ℕ) → is_loop_frame (frame_by f split v inside) ≡ is_loop (block f w split inside)
loop_alike form.If w true inside v = refl
loop_alike form.Try w true inside v = refl
loop_alike f w split inside v = refl

-- a loop that is open by the lines is open by the statements
pub break_stands : (variables : List (Named Class)) (blocks : List Block) → list_any is_loop_frame (frames_of variables blocks) ≡ list_any is_loop blocks
break_stands variables [] = refl
break_stands variables (b ∷ blocks) = rw (loop_alike b.form b.variable b.split b.inside (variable variables b.variable), break_stands variables blocks) refl

-- variables of one name have one number
with_alike : (variables : List (Named Class)) (f : Form) (w v : Word) (split : Bool) (inside : ℕ)
    → (is_with (block f v split inside) && same w v) ≡ true
    → is_with_frame (variable variables w) (frame_by f split (variable variables v) inside) ≡ true
with_alike variables form.With w v split inside h = eq-eqb _ _ (ap (variable variables) ((bytes_eq-Decides w v).0 h))
with_alike variables f w v split inside h = absurd (false≢true h)

-- a `with` of this name that is open by the lines is open by the statements
pub release_stands : (variables : List (Named Class)) (w : Word) (blocks : List Block)
    → list_any (λ b. is_with b && same w b.variable) blocks ≡ true
    → list_any (is_with_frame (variable variables w)) (frames_of variables blocks) ≡ true
release_stands variables w [] h = h
release_stands variables w (b ∷ blocks) h = by (or_cases (is_with b && same w b.variable) _ h) (release_stands variables w blocks)
  where
    by : ((is_with b && same w b.variable) ≡ true) ⊎ (list_any (λ c. is_with c && same w c.variable) blocks ≡ true)
        → (list_any (λ c. is_with c && same w c.variable) blocks ≡ true → list_any (is_with_frame (variable variables w)) (frames_of variables blocks) ≡ true)
        → list_any (is_with_frame (variable variables w)) (frames_of variables (b ∷ blocks)) ≡ true
    by (inl here) further = or_left _ _ (with_alike variables b.form w b.variable b.split b.inside here)
    by (inr there) further = or_right _ _ (further there)

-- ---- `else`, `catch` and `end`

-- the innermost block goes on as `inner`
pub record Splits (variables : List (Named Class)) (s : Stmt) (inner : Frame) (blocks : List Block) : Type 0 where
  pub may : may_stand s (frames_of variables blocks) ≡ true
  pub behind : with_inner inner (frames_of variables blocks) ≡ frames_of variables (split_first blocks)

else_block : (variables : List (Named Class)) (f : Form) (w : Word) (split : Bool) (inside : ℕ) (blocks : List Block)
    → awaits_else (block f w split inside ∷ blocks) ≡ true
    → Splits variables (stmt.Else 0) InElse (block f w split inside ∷ blocks)
else_block variables form.If w false inside blocks h = record { may = refl; behind = refl }
else_block variables form.If w true inside blocks h = absurd (false≢true h)
else_block variables f w split inside blocks h = absurd (false≢true h)

pub else_stands : (variables : List (Named Class)) (blocks : List Block) → awaits_else blocks ≡ true → Splits variables (stmt.Else 0) InElse blocks
else_stands variables [] h = absurd (false≢true h)
else_stands variables (b ∷ blocks) h = else_block variables b.form b.variable b.split b.inside blocks h

catch_block : (variables : List (Named Class)) (k v : ℕ) (f : Form) (w : Word) (split : Bool) (inside : ℕ)
    (blocks : List Block) → awaits_catch (block f w split inside ∷ blocks) ≡ true
    → Splits variables (stmt.Catch k v 0) InCatch (block f w split inside ∷ blocks)
catch_block variables k v form.Try w false inside blocks h = record { may = refl; behind = refl }
catch_block variables k v form.Try w true inside blocks h = absurd (false≢true h)
catch_block variables k v f w split inside blocks h = absurd (false≢true h)

pub catch_stands : (variables : List (Named Class)) (k v : ℕ) (blocks : List Block) → awaits_catch blocks ≡ true
    → Splits variables (stmt.Catch k v 0) InCatch blocks
catch_stands variables k v [] h = absurd (false≢true h)
catch_stands variables k v (b ∷ blocks) h = catch_block variables k v b.form b.variable b.split b.inside blocks h

-- the innermost block, or the process, is closed
pub record Closes (variables : List (Named Class)) (n : ℕ) (blocks : List Block) : Type 0 where
  pub may : may_stand (end_of blocks) (frames_of variables blocks) ≡ true
  pub behind : frames_then n (end_of blocks) (frames_of variables blocks) ≡ frames_at variables (closed (Some blocks))
  pub ends : is_end_process (end_of blocks) ≡ is_none (closed (Some blocks))

end_block : (variables : List (Named Class)) (n : ℕ) (f : Form) (w : Word) (split : Bool) (inside : ℕ) (blocks : List Block)
    → awaits_catch (block f w split inside ∷ blocks) ≡ false → Closes variables n (block f w split inside ∷ blocks)
end_block variables n form.Loop w split inside blocks h = record { may = eq-eqb inside inside refl; behind = refl; ends = refl }
end_block variables n form.Repeat w split inside blocks h = record { may = eq-eqb inside inside refl; behind = refl; ends = refl }
end_block variables n form.If w true inside blocks h = record { may = refl; behind = refl; ends = refl }
end_block variables n form.Try w true inside blocks h = record { may = refl; behind = refl; ends = refl }
end_block variables n form.Try w false inside blocks h = absurd (true≢false h)
end_block variables n f w split inside blocks h = record { may = refl; behind = refl; ends = refl }

pub end_stands : (variables : List (Named Class)) (n : ℕ) (blocks : List Block) → awaits_catch blocks ≡ false → Closes variables n blocks
end_stands variables n [] h = record { may = refl; behind = refl; ends = refl }
end_stands variables n (b ∷ blocks) h = end_block variables n b.form b.variable b.split b.inside blocks h

-- A line of a process makes a statement that may stand where it stands, and leaves the same blocks open.
--     makes      for each statement form, where it has the operands of its shape and is not misplaced
use Rattle.std.proofs.Common.{◌≡◌, refl, ap, ◌∙◌, ℕ, suc, true, false, not, ◌&&◌, List, [], ◌∷◌, length, Some, unwrap_or, is_none}
use Rattle.std.specs.List.{list_any}
use Rattle.std.proofs.lemmas.Bool.{false≢true, or_parts, not-false}
use Rattle.sim_types.specs.declared.script.Stmt.{Stmt}
use Rattle.sim_types.specs.declared.script.Stmt.TheVariants as stmt
use Rattle.sim_language.specs.declared.form.Form.{Form}
use Rattle.sim_language.specs.declared.form.Form.TheVariants as form
use Rattle.sim_language.specs.Lines.{same}
use Rattle.sim_language.specs.Forms.{is_statement}
use Rattle.sim_language.specs.Shapes.{Operand, shape}
use Rattle.sim_language.specs.AnywhereInText.{ProcessLines}
use Rattle.sim_language.specs.Blocks.{Block, blocks_behind}
use Rattle.sim_language.specs.Places.{LineInText, is_with, in_process}
use Rattle.sim_language.specs.OrderFaults.{misplaced, is_loop, awaits_else, awaits_catch}
use Rattle.sim_language.specs.Statements.{variable, end_of, statement}
use Rattle.sim_language.specs.FittingBlocks.{is_end_process}
use Rattle.sim_language_law.proofs.Operands.ShapeLengths.{may_have}
use Rattle.sim_language_law.proofs.Blocks.ClosedBlocks.{InElse, InCatch, frames_then, may_stand}
use Rattle.sim_language_law.proofs.Blocks.OpenWiths.{GivesNew}
use Rattle.sim_language_law.proofs.Blocks.BlockFrames.{frames_of, frames_at, Splits, Closes, break_stands, release_stands, else_stands, catch_stands, end_stands}

-- the statement, at place n, within these blocks
pub record Makes (heads : ProcessLines) (place : LineInText) (n : ℕ) (blocks : List Block) (f : Form) (slots : List Operand) : Type 0 where
  pub made : Stmt
  pub is : statement heads place f slots ≡ Some made
  pub may : may_stand made (frames_of place.variables blocks) ≡ true
  pub behind : frames_then n made (frames_of place.variables blocks) ≡ frames_at place.variables (blocks_behind (suc n) f slots (Some blocks))
  pub ends : is_end_process made ≡ is_none (blocks_behind (suc n) f slots (Some blocks))

module _ (heads : ProcessLines) (place : LineInText) (n : ℕ) (blocks : List Block) where
  by_parts : {f : Form} {slots : List Operand} → (s : Stmt) → statement heads place f slots ≡ Some s
      → may_stand s (frames_of place.variables blocks) ≡ true
      → frames_then n s (frames_of place.variables blocks)
      ≡ frames_at place.variables (blocks_behind (suc n) f slots (Some blocks))
      → is_end_process s ≡ is_none (blocks_behind (suc n) f slots (Some blocks)) → Makes heads place n blocks f slots
  by_parts s is may behind ends = record { made = s; is = is; may = may; behind = behind; ends = ends }

  pub makes : (f : Form) (slots : List Operand) → (is_statement f && may_have (shape f) (length slots)) ≡ true
      → misplaced place.above f slots ≡ false → place.above.blocks ≡ Some blocks → GivesNew place.variables blocks f slots
      → Makes heads place n blocks f slots
  makes form.Let (x ∷ a ∷ []) fit placed here new = by_parts _ refl refl refl refl
  makes form.Let (x ∷ a ∷ op ∷ b ∷ []) fit placed here new = by_parts _ refl refl refl refl
  makes form.Count (x ∷ r ∷ []) fit placed here new = by_parts _ refl refl refl refl
  makes form.Timeout (d ∷ []) fit placed here new = by_parts _ refl refl refl refl
  makes form.NewTimeout (x ∷ d ∷ v ∷ []) fit placed here new = by_parts _ refl refl refl refl
  makes form.NewEvent (x ∷ []) fit placed here new = by_parts _ refl refl refl refl
  makes form.Wait (e ∷ []) fit placed here new = by_parts _ refl refl refl refl
  makes form.Succeed (e ∷ v ∷ []) fit placed here new = by_parts _ refl refl refl refl
  makes form.Fail (e ∷ c ∷ []) fit placed here new = by_parts _ refl refl refl refl
  makes form.NewAll (x ∷ es) fit placed here new = by_parts _ refl refl refl refl
  makes form.NewAny (x ∷ es) fit placed here new = by_parts _ refl refl refl refl
  makes form.Has (y ∷ c ∷ e ∷ []) fit placed here new = by_parts _ refl refl refl refl
  makes form.Spawn (p ∷ args) fit placed here new = by_parts _ refl refl refl refl
  makes form.NewSpawn (x ∷ p ∷ args) fit placed here new = by_parts _ refl refl refl refl
  makes form.Interrupt (p ∷ c ∷ []) fit placed here new = by_parts _ refl refl refl refl
  makes form.Drop (p ∷ v ∷ []) fit placed here new = by_parts _ refl refl refl refl
  makes form.Raise (c ∷ []) fit placed here new = by_parts _ refl refl refl refl
  makes form.Finish (v ∷ []) fit placed here new = by_parts _ refl refl refl refl
  makes form.Put (r ∷ a ∷ more) fit placed here new = by_parts _ refl refl refl refl
  makes form.NewPut (x ∷ r ∷ a ∷ more) fit placed here new = by_parts _ refl refl refl refl
  makes form.Get (r ∷ []) fit placed here new = by_parts _ refl refl refl refl
  makes form.Get (r ∷ a ∷ more) fit placed here new = by_parts _ refl refl refl refl
  makes form.NewGet (x ∷ r ∷ []) fit placed here new = by_parts _ refl refl refl refl
  makes form.NewGet (x ∷ r ∷ a ∷ more) fit placed here new = by_parts _ refl refl refl refl
  makes form.Cancel (x ∷ []) fit placed here new = by_parts _ refl refl refl refl
  makes form.Log (a ∷ []) fit placed here new = by_parts _ refl refl refl refl
  makes form.Chain (e ∷ f ∷ []) fit placed here new = by_parts _ refl refl refl refl
  makes form.Draw (x ∷ lo ∷ hi ∷ []) fit placed here new = by_parts _ refl refl refl refl
  makes form.With (x ∷ r ∷ more) fit placed here new = by_parts _ refl (ap not new.1) refl refl
  makes form.Loop [] fit placed here new = by_parts _ refl refl refl refl
  makes form.Repeat (a ∷ []) fit placed here new = by_parts _ refl refl refl refl
  makes form.If (a ∷ []) fit placed here new = by_parts _ refl refl refl refl
  makes form.Try [] fit placed here new = by_parts _ refl refl refl refl
  makes form.Release (x ∷ []) fit placed here new =
      let stands : not (list_any (λ b. is_with b && same x.word b.variable) blocks) ≡ false = rw here at placed in
      by_parts (stmt.Release (variable place.variables x.word)) refl (release_stands place.variables x.word blocks (not-false _ stands)) refl refl
  makes form.Else [] fit placed here new =
      let stands : not (awaits_else blocks) ≡ false = rw here at placed in
      let g : Splits place.variables (stmt.Else 0) InElse blocks = else_stands place.variables blocks (not-false _ stands) in
      by_parts (stmt.Else 0) refl g.may g.behind refl
  makes form.Catch (k ∷ v ∷ []) fit placed here new =
      let stands : not (awaits_catch blocks) ≡ false = rw here at placed in
      let g : Splits place.variables (stmt.Catch (variable place.variables k.word) (variable place.variables v.word) 0) InCatch blocks = catch_stands place.variables _ _ blocks (not-false _ stands) in
      by_parts (stmt.Catch (variable place.variables k.word) (variable place.variables v.word) 0) refl g.may g.behind refl
  makes form.End [] fit placed here new =
      let stands : awaits_catch blocks ≡ false = rw here at (or_parts (not (in_process place.above)) _ placed).1 in
      let c : Closes place.variables n blocks = end_stands place.variables n blocks stands in
      by_parts (end_of blocks) (ap (λ open_here. Some (end_of (unwrap_or open_here []))) here) c.may c.behind c.ends
  makes form.Break [] fit placed here new =
      let stands : not (list_any is_loop blocks) ≡ false = rw here at placed in
      by_parts stmt.Break refl (break_stands place.variables blocks ∙ not-false _ stands) refl refl
  makes f slots fit placed here new = absurd (false≢true fit)

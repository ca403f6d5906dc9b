-- What a line adds to the scenario and to the open blocks, by its form: a statement, a process, or neither.
use Rattle.std.proofs.Common.{◌≡◌, refl, sym, ◌∙◌, subst, ◌⊎◌, inl, inr, ℕ, true, false, ◌&&◌, ◌||◌, nat_le, List, [], ◌∷◌, length, Option, Some, None, is_some, unwrap_or}
use Rattle.std.proofs.lemmas.Bool.{false≢true, true≢false, or_parts}
use Rattle.std.proofs.lemmas.Option.{none-some, same_Some}
use Rattle.sim_types.specs.Scenarios.{ScenarioOf}
use Rattle.sim_types.specs.declared.setup.Class.{Class}
use Rattle.sim_types.specs.declared.script.Stmt.{Stmt}
use Rattle.sim_language.specs.declared.form.Form.{Form}
use Rattle.sim_language.specs.declared.form.Form.TheVariants as form
use Rattle.sim_language.specs.Named.{Named}
use Rattle.sim_language.specs.Forms.{is_statement, is_process, opens_block, declares_sort}
use Rattle.sim_language.specs.Shapes.{Operand}
use Rattle.sim_language.specs.AnywhereInText.{ProcessLines}
use Rattle.sim_language.specs.Sayings.{TextLine, Says}
use Rattle.sim_language.specs.Blocks.{Block, blocks_behind}
use Rattle.sim_language.specs.Variables.{variables_then}
use Rattle.sim_language.specs.Places.{Above, LineInText, in_process, blocks_of}
use Rattle.sim_language.specs.OrderFaults.{misplaced}
use Rattle.sim_language.specs.LimitFaults.{form_is_full}
use Rattle.sim_language.specs.Statements.{end_of, statement}
use Rattle.sim_language.specs.Reads.{add, with_statement}
use Rattle.sim_language.specs.FittingBlocks.{is_end_process}
use Rattle.sim_language_law.proofs.Lines.Additions.{added, by_statement}

-- ---- a statement

pub statement_adds : (heads : ProcessLines) (place : LineInText) (f : Form) (slots : List Operand) (s : ScenarioOf)
    → is_statement f ≡ true → add heads place f slots s ≡ with_statement s (statement heads place f slots)
statement_adds heads place form.Process slots s h = absurd (false≢true h)
statement_adds heads place f slots s h = cc

pub added_statement : (heads : ProcessLines) (place : LineInText) (f : Form) (slots : List Operand) → is_statement f ≡ true
    → added heads place f slots ≡ by_statement (statement heads place f slots)
added_statement heads place form.Process slots h = absurd (false≢true h)
added_statement heads place f slots h = cc

pub statement_begins_none : (f : Form) → is_statement f ≡ true → is_process f ≡ false
statement_begins_none form.Process h = absurd (false≢true h)
statement_begins_none f h = refl

-- a statement outside a process is misplaced
pub statement_outside : (above : Above) (f : Form) (slots : List Operand) → is_statement f ≡ true → above.blocks ≡ None → misplaced above f slots ≡ true
statement_outside above form.Process slots h e = absurd (false≢true h)
statement_outside above form.Else slots h e = rw e refl
statement_outside above form.Catch slots h e = rw e refl
statement_outside above form.End slots h e = rw e refl
statement_outside above form.Break slots h e = rw e refl
statement_outside above form.Release slots h e = rw e refl
statement_outside above f slots h e = cc

pub statement_inside : (above : Above) (f : Form) (slots : List Operand) → is_statement f ≡ true → misplaced above f slots ≡ false → is_some above.blocks ≡ true
statement_inside above f slots h placed = by above.blocks refl
  where
    by : (o : Option (List Block)) → above.blocks ≡ o → is_some o ≡ true
    by None e = absurd (true≢false (sym (statement_outside above f slots h e) ∙ placed))
    by (Some blocks) e = refl

-- behind a statement the process goes on, or has ended with it
pub blocks_stay : (heads : ProcessLines) (place : LineInText) (f : Form) (slots : List Operand) (n : ℕ) (blocks : List Block) (s : Stmt)
    → place.above.blocks ≡ Some blocks → statement heads place f slots ≡ Some s
    → ((more : List Block) × (blocks_behind n f slots (Some blocks) ≡ Some more)) ⊎ ((blocks_behind n f slots (Some blocks) ≡ None) × (is_end_process s ≡ true))
blocks_stay heads place form.End [] n [] s at h = inr (refl, subst (λ o. is_end_process o ≡ true) (same_Some (end_of (unwrap_or place.above.blocks [])) s h) (rw at refl))
blocks_stay heads place form.End [] n (b ∷ blocks) s at h = inl (blocks, refl)
blocks_stay heads place form.End (slot ∷ slots) n blocks s at h = absurd (none-some s h)
blocks_stay heads place f slots n blocks s at h = inl (_, refl)

-- fewer than 32 blocks are open where one is opened
pub room_for_block : (above : Above) (f : Form) (slots : List Operand) → form_is_full above f slots ≡ false
    → (opens_block f && nat_le 32 (length (blocks_of above))) ≡ false
room_for_block above form.Process slots h = refl
room_for_block above form.NewAll slots h = refl
room_for_block above form.NewAny slots h = refl
room_for_block above form.Poster slots h = refl
room_for_block above form.After slots h = refl
room_for_block above form.Post slots h = refl
room_for_block above f slots h = h

-- ---- neither a statement nor a process

-- only a process line changes the variables
pub same_variables : (f : Form) (slots : List Operand) (below : List TextLine) (others : List (Named Class))
    → is_process f ≡ false → variables_then (Says f slots) below others ≡ others
same_variables form.Process slots below others h = absurd (true≢false h)
same_variables f slots below others h = refl

pub same_blocks : (inside : ℕ) (f : Form) (slots : List Operand) (blocks : Option (List Block))
    → (is_statement f || is_process f) ≡ false → blocks_behind inside f slots blocks ≡ blocks
same_blocks inside form.Process slots blocks h = absurd (true≢false h)
same_blocks inside f slots blocks h = cc

pub same_code : (heads : ProcessLines) (place : LineInText) (f : Form) (slots : List Operand) (s : ScenarioOf)
    → (is_statement f || is_process f) ≡ false
    → ((add heads place f slots s).code ≡ s.code) × ((add heads place f slots s).kinds ≡ s.kinds)
same_code heads place form.UntilTime (t ∷ []) s h = (refl, refl)
same_code heads place form.UntilEvent (n ∷ []) s h = (refl, refl)
same_code heads place form.Seed (n ∷ []) s h = (refl, refl)
same_code heads place form.Resource (n ∷ c ∷ []) s h = (refl, refl)
same_code heads place form.Priority (n ∷ c ∷ []) s h = (refl, refl)
same_code heads place form.Preemptive (n ∷ c ∷ []) s h = (refl, refl)
same_code heads place form.Container (n ∷ c ∷ o ∷ []) s h = (refl, refl)
same_code heads place form.Store (n ∷ c ∷ []) s h = (refl, refl)
same_code heads place form.PStore (n ∷ c ∷ []) s h = (refl, refl)
same_code heads place form.FStore (n ∷ c ∷ []) s h = (refl, refl)
same_code heads place form.Port (n ∷ p ∷ []) s h = (refl, refl)
same_code heads place form.Start (p ∷ args) s h = (refl, refl)
same_code heads place form.After (k ∷ p ∷ n ∷ port ∷ v ∷ []) s h = (refl, refl)
same_code heads place form.Post (port ∷ v ∷ []) s h = (refl, refl)
same_code heads place f slots s h = (cc, cc)

-- within a process nothing is declared
pub nothing_declared : (above : Above) (f : Form) (slots : List Operand) → is_process f ≡ false → misplaced above f slots ≡ false → in_process above ≡ true
    → declares_sort f ≡ None
nothing_declared above form.Resource slots other placed h = absurd (true≢false (sym h ∙ (or_parts (in_process above) _ placed).0))
nothing_declared above form.Priority slots other placed h = absurd (true≢false (sym h ∙ (or_parts (in_process above) _ placed).0))
nothing_declared above form.Preemptive slots other placed h = absurd (true≢false (sym h ∙ (or_parts (in_process above) _ placed).0))
nothing_declared above form.Container slots other placed h = absurd (true≢false (sym h ∙ (or_parts (in_process above) _ placed).0))
nothing_declared above form.Store slots other placed h = absurd (true≢false (sym h ∙ (or_parts (in_process above) _ placed).0))
nothing_declared above form.PStore slots other placed h = absurd (true≢false (sym h ∙ (or_parts (in_process above) _ placed).0))
nothing_declared above form.FStore slots other placed h = absurd (true≢false (sym h ∙ (or_parts (in_process above) _ placed).0))
nothing_declared above form.Event slots other placed h = absurd (true≢false (sym h ∙ (or_parts (in_process above) _ placed).0))
nothing_declared above form.Port slots other placed h = absurd (true≢false (sym h ∙ (or_parts (in_process above) _ placed).0))
nothing_declared above form.Process slots other placed h = absurd (true≢false other)
nothing_declared above f slots other placed h = refl

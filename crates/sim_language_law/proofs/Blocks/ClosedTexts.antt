-- A text without a fault gives code whose blocks are closed, and whose statements go on where they should.
--     closed_text      over lines of which each says what a line can say
use Rattle.std.proofs.Common.{◌≡◌, refl, ap, subst, sym, ◌∙◌, ℕ, suc, ◌+◌, Bool, true, false, ◌&&◌, ◌||◌, ◌==◌, if◌then◌else◌, nat_le, nat_lt, List, [], ◌∷◌, ◌++◌, map, length, take, reverse, Option, Some, None, is_some, add-one}
use Rattle.std.specs.List.{All}
use Rattle.std.specs.Cmp.Lexicographic.{pointwise}
use Rattle.std.proofs.lemmas.List.Elements.{All-head, All-tail}
use Rattle.std.proofs.lemmas.Bool.{false≢true, true≢false, or_parts, or_from, and_from, eq-eqb}
use Rattle.std.proofs.lemmas.List.{length-append, length-map, take_at}
use Rattle.std.proofs.lemmas.Option.{none-some}
use Rattle.sim_types.specs.Scenarios.{ScenarioOf}
use Rattle.sim_types.specs.declared.fault.FaultKind.{FaultKind}
use Rattle.sim_types.specs.declared.fault.FaultKind.TheVariants as fault
use Rattle.sim_types.specs.declared.setup.Class.{Class}
use Rattle.sim_language.specs.declared.form.Form.{Form}
use Rattle.sim_language.specs.declared.form.Form.TheVariants as form
use Rattle.sim_language.specs.Lines.{Word}
use Rattle.sim_language.specs.Named.{Named}
use Rattle.sim_language.specs.Forms.{is_statement, is_process, opens_block}
use Rattle.sim_language.specs.Shapes.{Operand, shape}
use Rattle.sim_language.specs.AnywhereInText.{ProcessLines}
use Rattle.sim_language.specs.Sayings.{TextLine, Saying, Blank, Wrong, Says}
use Rattle.sim_language.specs.Said.{IsSaid, Fits}
use Rattle.sim_language.specs.Blocks.{Block, statements, blocks_behind, open_blocks}
use Rattle.sim_language.specs.Variables.{variables_at}
use Rattle.sim_language.specs.Places.{LineInText, places, above_of, worded_above}
use Rattle.sim_language.specs.LimitFaults.{form_is_full, gives_too_many}
use Rattle.sim_language.specs.Faults.{fault_at, first_fault, end_fault, fault_past, at_line}
use Rattle.sim_language.specs.Reads.{kind_of, add, add_said, with_statement, with_lines, nothing_said}
use Rattle.sim_language.specs.Links.{linked}
use Rattle.sim_language.specs.FittingBlocks.{code_fits, firsts}
use Rattle.sim_language_law.proofs.Lines.Walking.{place_at, Kept, Ends, walk}
use Rattle.sim_language_law.proofs.Lines.Faultless.{Faultless, faultless}
use Rattle.sim_language_law.proofs.Operands.ShapeLengths.{may_have, fit-length}
use Rattle.sim_language_law.proofs.Blocks.ClosedBlocks.{leaves_fits}
use Rattle.sim_language_law.proofs.Blocks.OpenWiths.{GivesNew, gives_new}
use Rattle.sim_language_law.proofs.Blocks.MadeStatements.{Makes, makes}
use Rattle.sim_language_law.proofs.Blocks.StandingCode.{firsts_of, Stands, stands_like, stands_none, stands_process, stands_statement}
use Rattle.sim_language_law.proofs.Blocks.ProcessFirsts.{firsts-linked}
use Rattle.sim_language_law.proofs.Lines.LineForms.{statement_adds, statement_begins_none, statement_outside, room_for_block, same_variables, same_blocks, same_code}

-- the lines above gave this code and these kinds
abbrev StandsAt : List TextLine → List TextLine → ScenarioOf → Type 0
StandsAt above below s = Stands (statements above) (variables_at above below) (open_blocks above) s.code s.kinds

-- between two lines
abbrev SoFar : ℕ → List TextLine → List TextLine → ScenarioOf → Type 0
SoFar n above below s = All (λ l. IsSaid l.saying) below × StandsAt above below s

pub no_blocks : (blocks : Option (List Block)) → is_some blocks ≡ false → blocks ≡ None
no_blocks None h = refl
no_blocks (Some bs) h = absurd (true≢false h)

module _ (heads : ProcessLines) (n : ℕ) (above : List TextLine) (words : List Word) (below : List TextLine) (s : ScenarioOf) where
  abbrev line : Saying → TextLine
  line said = record { words = words; saying = said }

  abbrev place : Saying → LineInText
  place said = place_at n above (line said) below

  -- a line of a process
  one_statement : (f : Form) (slots : List Operand) → Fits f slots → Faultless heads (place (Says f slots)) f slots
      → StandsAt above (line (Says f slots) ∷ below) s → is_statement f ≡ true → (blocks : Option (List Block))
      → open_blocks above ≡ blocks
      → StandsAt (line (Says f slots) ∷ above) below (add heads (place (Says f slots)) f slots s)
  one_statement f slots is free p e None here = absurd (false≢true (sym free.misplaced ∙ statement_outside (above_of above) f slots e here))
  one_statement f slots is free p e (Some blocks) here =
      let v : variables_at (line (Says f slots) ∷ above) below ≡ variables_at above (line (Says f slots) ∷ below) = same_variables f slots below _ (statement_begins_none f e) in
      let fit : (is_statement f && may_have (shape f) (length slots)) ≡ true = and_from (is_statement f) _ e (fit-length is.context [] (shape f) is.words slots is.shape) in
      let q : Stands (statements above) (variables_at (line (Says f slots) ∷ above) below) (Some blocks) s.code s.kinds = stands_like (statements above) _ _ _ (open_blocks above) _ s.code _ s.kinds _ refl (sym v) here refl refl p in
      let new : GivesNew (variables_at (line (Says f slots) ∷ above) below) blocks f slots = gives_new heads (place (Says f slots)) blocks f slots is free here q.named in
      let m : Makes heads (place (Says f slots)) (statements above) blocks f slots = makes heads (place (Says f slots)) (statements above) blocks f slots fit free.misplaced here new in
      let full : form_is_full (above_of above) f slots ≡ false = (or_parts _ (form_is_full (above_of above) f slots) (or_parts _ (gives_too_many (variables_at (line (Says f slots) ∷ above) below) slots) free.many).0).1 in
      let room : (opens_block f && nat_le 32 (length blocks)) ≡ false = rw here at (room_for_block (above_of above) f slots full) in
      let r : Stands (suc (statements above)) (variables_at (line (Says f slots) ∷ above) below) (blocks_behind (suc (statements above)) f slots (Some blocks)) (s.code ++ m.made ∷ []) s.kinds = stands_statement heads (place (Says f slots)) (statements above) blocks f slots s.code s.kinds m new room q in
      let t : with_statement s (Some m.made) ≡ add heads (place (Says f slots)) f slots s = rw (statement_adds heads (place (Says f slots)) f slots s e, m.is) refl in
      let counts : suc (statements above) ≡ statements (line (Says f slots) ∷ above) = rw e (sym (add-one (statements above))) in
      let behind : blocks_behind (suc (statements above)) f slots (Some blocks) ≡ open_blocks (line (Says f slots) ∷ above) = rw (counts, here) refl in
      stands_like _ _ _ _ _ _ _ _ _ _ counts refl behind (ap (λ (x : ScenarioOf). x.code) t) (ap (λ (x : ScenarioOf). x.kinds) t) r

  -- a process line
  one_process : (slots : List Operand) → Faultless heads (place (Says form.Process slots)) form.Process slots
      → StandsAt above (line (Says form.Process slots) ∷ below) s
      → StandsAt (line (Says form.Process slots) ∷ above) below (add heads (place (Says form.Process slots)) form.Process slots s)
  one_process slots free p =
      let none : open_blocks above ≡ None = no_blocks (open_blocks above) (or_parts _ _ free.misplaced).0 in
      stands_process (statements above) _ _ s.code s.kinds (kind_of (place (Says form.Process slots)) slots) refl (stands_like _ _ _ _ _ _ _ _ _ _ refl refl none refl refl p)

  -- a line that is neither adds no code and no kind
  one_beside : (f : Form) (slots : List Operand) → (is_statement f || is_process f) ≡ false
      → StandsAt above (line (Says f slots) ∷ below) s
      → StandsAt (line (Says f slots) ∷ above) below (add heads (place (Says f slots)) f slots s)
  one_beside f slots e p =
      let parts = or_parts (is_statement f) (is_process f) e in
      let same = same_code heads (place (Says f slots)) f slots s e in
      let counts : statements above ≡ statements (line (Says f slots) ∷ above) = rw parts.0 refl in
      stands_like _ _ _ _ _ _ _ _ _ _ counts (sym (same_variables f slots below _ parts.1)) (sym (same_blocks _ f slots (open_blocks above) e)) (sym same.0) (sym same.1) p

  one_saying : (f : Form) (slots : List Operand) → is_process f ≡ false → Fits f slots
      → Faultless heads (place (Says f slots)) f slots → StandsAt above (line (Says f slots) ∷ below) s
      → StandsAt (line (Says f slots) ∷ above) below (add heads (place (Says f slots)) f slots s)
  one_saying f slots none is free p = by (is_statement f) refl
    where
      by : (b : Bool) → is_statement f ≡ b → StandsAt (line (Says f slots) ∷ above) below (add heads (place (Says f slots)) f slots s)
      by true e = one_statement f slots is free p e (open_blocks above) refl
      by false e = one_beside f slots (or_from _ _ e none) p

  one_line : (said : Saying) → IsSaid said → fault_at heads (place said) ≡ None → StandsAt above (line said ∷ below) s
      → StandsAt (line said ∷ above) below (add_said heads (place said) said s)
  one_line Blank is clean p = p
  one_line (Wrong kind) is clean p = p
  one_line (Says form.Process slots) is clean p = one_process slots (faultless heads _ form.Process slots clean refl) p
  one_line (Says f slots) is clean p = one_saying f slots refl is (faultless heads _ f slots clean refl) p

-- ---- the text

-- what a line without a fault keeps
kept : (heads : ProcessLines) → Kept heads SoFar
kept heads n above l below s p clean = (All-tail (λ k. IsSaid k.saying) l below p.0, one_line heads n above l.words below s l.saying (All-head (λ k. IsSaid k.saying) l below p.0) clean p.1)

pub nothing_at_line : (n : ℕ) (k : Option FaultKind) → at_line n k ≡ None → k ≡ None
nothing_at_line n None h = refl
nothing_at_line n (Some kind) h = absurd (none-some _ (sym h))

-- a text that ends without a fault ends in no process
in_no_process : (ls : List TextLine) → end_fault ls ≡ None → open_blocks (reverse ls) ≡ None
in_no_process ls h = no_blocks _ (by (nat_lt (worded_above (reverse ls)) 2) (is_some (open_blocks (reverse ls))) (nothing_at_line (length ls + 1) (fault_past (above_of (reverse ls))) h))
  where
    by : (b c : Bool) → (if b then Some fault.BadHeader else (if c then Some fault.Unclosed else None)) ≡ None → c ≡ false
    by true c e = absurd (none-some _ (sym e))
    by false true e = absurd (none-some _ (sym e))
    by false false e = refl

-- what holds of the code and the kinds at the end
pub record Closed (s : ScenarioOf) : Type 0 where
  pub fits : code_fits (linked 0 s.code) ≡ true
  pub begin : pointwise (λ m n. m == n) (map (λ k. k.first) s.kinds) (take (length s.kinds) (firsts (linked 0 s.code))) ≡ true
  pub count : (length (firsts (linked 0 s.code)) == suc (length s.kinds)) ≡ true

same_numbers : (ns : List ℕ) → pointwise (λ m n. m == n) ns ns ≡ true
same_numbers [] = refl
same_numbers (n ∷ ns) = and_from (n == n) _ (eq-eqb n n refl) (same_numbers ns)

at_end : (n : ℕ) (variables : List (Named Class)) (s : ScenarioOf) → Stands n variables None s.code s.kinds → Closed s
at_end n variables s p = record {
  fits = leaves_fits n s.code p.leaves (p.ended refl);
  begin = subst (λ ns. pointwise (λ m k. m == k) (firsts_of s.kinds) (take (length s.kinds) ns) ≡ true) (sym places) (rw (take_at (firsts_of s.kinds) (n ∷ []) (length s.kinds) long) (same_numbers (firsts_of s.kinds)));
  count = eq-eqb _ _ (ap length places ∙ length-append (firsts_of s.kinds) (n ∷ []) ∙ rw long (add-one (length s.kinds)));
}
  where
    places : firsts (linked 0 s.code) ≡ firsts_of s.kinds ++ n ∷ []
    places = firsts-linked 0 s.code ∙ p.begun

    long : length (firsts_of s.kinds) ≡ length s.kinds
    long = length-map s.kinds (λ k. k.first)

pub closed_text : (heads : ProcessLines) (ls : List TextLine) → All (λ l. IsSaid l.saying) ls
    → first_fault heads (places 1 [] ls) (end_fault ls) ≡ None → Closed (with_lines heads nothing_said (places 1 [] ls))
closed_text heads ls said clean =
    let ends : Ends heads SoFar 1 [] ls nothing_said (end_fault ls) = walk heads SoFar (kept heads) ls 1 [] nothing_said (end_fault ls) clean (said, stands_none (variables_at [] ls)) in
    at_end _ _ _ (stands_like _ _ _ _ _ _ _ _ _ _ refl refl (in_no_process ls ends.none) refl refl ends.holds.1)

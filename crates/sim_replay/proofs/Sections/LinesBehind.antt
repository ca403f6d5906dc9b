-- Lines with others behind them: where no process is open at their end, what stands behind them changes nothing at their places.
--     places_appended      the places of all are those of the first lines, and those of the others behind them
--     faults_appended, lines_appended      so it is for their faults, and for what they add
use Rattle.std.proofs.Common.{◌≡◌, refl, sym, ap, subst, ◌∙◌, ℕ, suc, ◌+◌, Bool, true, false, ◌||◌, if◌then◌else◌, List, [], ◌∷◌, ◌++◌, length, Option, Some, None, arith}
use Rattle.std.proofs.lemmas.Bool.{false≢true, true≢false}
use Rattle.std.proofs.lemmas.Option.{none-some}
use Rattle.sim_types.specs.Scenarios.{ScenarioOf}
use Rattle.sim_types.specs.declared.fault.Fault.{Fault}
use Rattle.sim_language.specs.declared.form.Form.{Form}
use Rattle.sim_language.specs.declared.form.Form.TheVariants as form
use Rattle.sim_language.specs.Lines.{Word}
use Rattle.sim_language.specs.Named.{with_all}
use Rattle.sim_language.specs.Shapes.{Operand}
use Rattle.sim_language.specs.AnywhereInText.{ProcessLines}
use Rattle.sim_language.specs.Sayings.{TextLine, Saying, Blank, Wrong, Says}
use Rattle.sim_language.specs.Blocks.{Block, blocks_behind, open_blocks, statements}
use Rattle.sim_language.specs.Variables.{given_by, ends_process, deep_behind, given_below, variables_at}
use Rattle.sim_language.specs.Places.{LineInText, places}
use Rattle.sim_language.specs.Faults.{fault_at, first_fault}
use Rattle.sim_language.specs.Reads.{add_said, with_lines}
use Rattle.sim_language_law.proofs.Lines.Walking.{passed, none_here}
use Rattle.sim_language_law.proofs.Lines.LineByLine.{line}

-- ---- where a process ends

-- a process with so many open blocks ends within these lines
abbrev ends_within : ℕ → List TextLine → Bool
ends_within deep [] = false
ends_within deep (l ∷ below) = by l.saying (ends_within (deep_then l.saying) below)
  where
    deep_then : Saying → ℕ
    deep_then Blank = deep
    deep_then (Wrong kind) = deep
    deep_then (Says f slots) = deep_behind deep f

    by : Saying → Bool → Bool
    by Blank more = more
    by (Wrong kind) more = more
    by (Says f slots) more = ends_process deep f || more

given_line : (deep : ℕ) (ws : List Word) (said : Saying) (ls xs : List TextLine)
    → ((d : ℕ) → ends_within d ls ≡ true → given_below d (ls ++ xs) ≡ given_below d ls)
    → ends_within deep (line ws said ∷ ls) ≡ true → given_below deep (line ws said ∷ (ls ++ xs)) ≡ given_below deep (line ws said ∷ ls)
given_line deep ws Blank ls xs rest h = rest deep h
given_line deep ws (Wrong kind) ls xs rest h = rest deep h
given_line deep ws (Says f slots) ls xs rest h = by (ends_process deep f) h
  where
    by : (b : Bool) → (b || ends_within (deep_behind deep f) ls) ≡ true
        → (if b then [] else given_by slots ++ given_below (deep_behind deep f) (ls ++ xs))
        ≡ (if b then [] else given_by slots ++ given_below (deep_behind deep f) ls)
    by true e = refl
    by false e = ap (λ more. given_by slots ++ more) (rest (deep_behind deep f) e)

given_appended : (deep : ℕ) (ls xs : List TextLine) → ends_within deep ls ≡ true → given_below deep (ls ++ xs) ≡ given_below deep ls
given_appended deep [] xs h = absurd (false≢true h)
given_appended deep (l ∷ ls) xs h = given_line deep l.words l.saying ls xs (λ d. given_appended d ls xs) h

-- ---- blocks that are closed

-- the blocks that are open behind a line in a process that it does not end
record Behind (inside : ℕ) (f : Form) (slots : List Operand) (bs : List Block) : Type 0 where
  blocks : List Block
  stand : blocks_behind inside f slots (Some bs) ≡ Some blocks
  many : length blocks ≡ deep_behind (length bs) f

still_open : (inside : ℕ) (f : Form) (slots : List Operand) (bs : List Block) → ends_process (length bs) f ≡ false → Behind inside f slots bs
still_open inside form.Process slots [] h = absurd (true≢false h)
still_open inside form.Process slots (b ∷ bs) h = absurd (true≢false h)
still_open inside form.End slots [] h = absurd (true≢false h)
still_open inside form.End slots (b ∷ bs) h = record { blocks = bs; stand = refl; many = refl }
still_open inside f slots [] h = record { blocks = _; stand = refl; many = refl }
still_open inside f slots (b ∷ bs) h = record { blocks = _; stand = refl; many = refl }

ends_line : (above : List TextLine) (ws : List Word) (said : Saying) (ls : List TextLine) (bs : List Block) → open_blocks above ≡ Some bs
    → ((cs : List Block) → open_blocks (line ws said ∷ above) ≡ Some cs → ends_within (length cs) ls ≡ true)
    → ends_within (length bs) (line ws said ∷ ls) ≡ true
ends_line above ws Blank ls bs found rest = rest bs found
ends_line above ws (Wrong kind) ls bs found rest = rest bs found
ends_line above ws (Says f slots) ls bs found rest = by (ends_process (length bs) f) refl
  where
    inside : ℕ
    inside = statements (line ws (Says f slots) ∷ above)

    by : (b : Bool) → ends_process (length bs) f ≡ b → (b || ends_within (deep_behind (length bs) f) ls) ≡ true
    by true e = refl
    by false e =
        let behind = still_open inside f slots bs e in
        subst (λ n. ends_within n ls ≡ true) behind.many (rest behind.blocks (ap (blocks_behind inside f slots) found ∙ behind.stand))

ends_there : (ls above : List TextLine) (bs : List Block) → open_blocks above ≡ Some bs → open_blocks (passed above ls) ≡ None
    → ends_within (length bs) ls ≡ true
ends_there [] above bs found closed = absurd (none-some bs (sym closed ∙ found))
ends_there (l ∷ ls) above bs found closed = ends_line above l.words l.saying ls bs found (λ cs more. ends_there ls (l ∷ above) cs more closed)

-- ---- variables

variables_line : (above : List TextLine) (ws : List Word) (said : Saying) (below xs : List TextLine)
    → open_blocks (passed (line ws said ∷ above) below) ≡ None
    → variables_at above (line ws said ∷ (below ++ xs)) ≡ variables_at above (line ws said ∷ below)
    → variables_at (line ws said ∷ above) (below ++ xs) ≡ variables_at (line ws said ∷ above) below
variables_line above ws (Says form.Process params) below xs closed rest =
    ap (λ more. with_all [] (given_by params ++ more))
    (given_appended 0 below xs (ends_there below (line ws (Says form.Process params) ∷ above) [] refl closed))
variables_line above ws said below xs closed rest = rest

variables_appended : (above below xs : List TextLine) → open_blocks (passed above below) ≡ None
    → variables_at above (below ++ xs) ≡ variables_at above below
variables_appended [] below xs closed = refl
variables_appended (l ∷ above) below xs closed =
    variables_line above l.words l.saying below xs closed (variables_appended above (l ∷ below) xs closed)

-- ---- places

pub places_appended : (ls xs : List TextLine) (n : ℕ) (above : List TextLine) → open_blocks (passed above ls) ≡ None
    → places n above (ls ++ xs) ≡ places n above ls ++ places (n + length ls) (passed above ls) xs
places_appended [] xs n above closed = let same : n + 0 ≡ n = omega arith in rw same refl
places_appended (l ∷ ls) xs n above closed =
    let same : n + 1 + length ls ≡ n + suc (length ls) = omega arith in
    rw (variables_appended (l ∷ above) ls xs closed, places_appended ls xs (n + 1) (l ∷ above) closed, same) refl

-- ---- faults, and what is added

pub faults_appended : (heads : ProcessLines) (ps qs : List LineInText) (end : Option Fault)
    → first_fault heads (ps ++ qs) end ≡ first_fault heads ps (first_fault heads qs end)
faults_appended heads [] qs end = refl
faults_appended heads (p ∷ ps) qs end = rw (faults_appended heads ps qs end) refl

pub lines_appended : (heads : ProcessLines) (ps qs : List LineInText) (s : ScenarioOf)
    → with_lines heads s (ps ++ qs) ≡ with_lines heads (with_lines heads s ps) qs
lines_appended heads [] qs s = refl
lines_appended heads (p ∷ ps) qs s = lines_appended heads ps qs (add_said heads p p.line.saying s)

-- no line is faulty, and nothing behind them is
pub faultless_parts : (heads : ProcessLines) (ps : List LineInText) (later : Option Fault) → first_fault heads ps later ≡ None
    → (first_fault heads ps None ≡ None) × (later ≡ None)
faultless_parts heads [] later h = (refl, h)
faultless_parts heads (p ∷ ps) later h =
    let both = none_here (fault_at heads p) p.number (first_fault heads ps later) h in
    let rest = faultless_parts heads ps later both.1 in
    (rw both.0 rest.0, rest.1)

pub faultless_whole : (heads : ProcessLines) (ps : List LineInText) (later : Option Fault) → first_fault heads ps None ≡ None → later ≡ None
    → first_fault heads ps later ≡ None
faultless_whole heads ps later h e = rw e h

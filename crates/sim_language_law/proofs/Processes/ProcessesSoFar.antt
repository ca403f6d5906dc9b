-- The processes of a faultless text, line by line: each statement fits its kind, in the whole scenario.
--     Standing blocks ks code vs ds      of the kinds ks, all have ended but the last, which stands where blocks are open
--     Processes final above below s            what holds in front of a line
use Rattle.std.specs.Prelude.{◌≡◌, refl, ℕ, ◌+◌, ◌≤◌, Bool, true, false, ◌&&◌, List, [], ◌∷◌, ◌++◌, length, Option, Some, None, is_some}
use Rattle.std.specs.List.{list_all}
use Rattle.std.proofs.Common.{arith, sym, ap, ◌∙◌, subst, ◌⊎◌, inl, inr}
use Rattle.std.proofs.lemmas.Bool.{true≢false, and_parts, or_from}
use Rattle.std.proofs.lemmas.List.{length_push}
use Rattle.std.proofs.lemmas.List.Folds.{list_all-append}
use Rattle.sim_types.specs.Scenarios.{ScenarioOf}
use Rattle.sim_types.specs.declared.fault.FaultKind.{FaultKind}
use Rattle.sim_types.specs.declared.script.Kind.{Kind}
use Rattle.sim_types.specs.declared.script.Stmt.{Stmt}
use Rattle.sim_types.specs.declared.setup.Class.{Class}
use Rattle.sim_language.specs.declared.form.Form.{Form}
use Rattle.sim_language.specs.declared.form.Meaning.{Meaning}
use Rattle.sim_language.specs.Lines.{Word}
use Rattle.sim_language.specs.Named.{Named}
use Rattle.sim_language.specs.Forms.{is_statement, is_process}
use Rattle.sim_language.specs.Shapes.{Operand}
use Rattle.sim_language.specs.AnywhereInText.{WholeText}
use Rattle.sim_language.specs.Sayings.{TextLine, Blank, Wrong, Says}
use Rattle.sim_language.specs.Declarations.{declared}
use Rattle.sim_language.specs.Blocks.{Block, statements, open_blocks, blocks_behind}
use Rattle.sim_language.specs.Variables.{variables_at}
use Rattle.sim_language.specs.Places.{LineInText}
use Rattle.sim_language.specs.Statements.{statement}
use Rattle.sim_language.specs.Reads.{classes_of}
use Rattle.sim_language.specs.FittingStatements.{statement_fits}
use Rattle.sim_language.specs.FittingBlocks.{is_end_process}
use Rattle.sim_language_law.proofs.Lines.Walking.{place_at}
use Rattle.sim_language_law.proofs.Lines.CleanLines.{CleanLine, of_shape}
use Rattle.sim_language_law.proofs.Lines.LineByLine.{line}
use Rattle.sim_language_law.proofs.Lines.Additions.{Added, AStatement, put_in, added, by_statement}
use Rattle.sim_language_law.proofs.Lines.AdditionsByForm.{adds_statement}
use Rattle.sim_language_law.proofs.Names.DeclaredNames.{Grown}
use Rattle.sim_language_law.proofs.Setups.FittingSetup.{list_all_push}
use Rattle.sim_language_law.proofs.Processes.ProcessHeads.{same_kinds}
use Rattle.sim_language_law.proofs.Lines.LinesSoFar.{told_line, grown_line}
use Rattle.sim_language_law.proofs.Setups.FittingInWhole.{Ground}
use Rattle.sim_language_law.proofs.Processes.ProcessVariables.{VariablesFit, variables_other}
use Rattle.sim_language_law.proofs.Statements.FittingOperands.{InProcess}
use Rattle.sim_language_law.proofs.Statements.FittingByForm.{StatementFits, statements_fit}
use Rattle.sim_language_law.proofs.Processes.CodeOfKinds.{fits_from, is_closed, list_all_both, closed_push, closed_fits, open_fits, now_closed}
use Rattle.sim_language_law.proofs.Lines.LineForms.{statement_inside, blocks_stay, added_statement, statement_begins_none, same_blocks, nothing_declared}

-- the last kind is that of a process that has not ended, with these variables
pub record OpenProcess (ks : List Kind) (code : List Stmt) (vs : List (Named Class)) (ds : List (Named Meaning)) : Type 0 where
  pub front : List Kind
  pub kind : Kind
  pub kinds : ks ≡ front ++ kind ∷ []
  pub closed : list_all (is_closed code) front ≡ true
  pub within : kind.first ≤ length code
  pub classes : kind.classes ≡ classes_of vs
  pub variables : VariablesFit vs ds

abbrev pub Standing : Option (List Block) → List Kind → List Stmt → List (Named Class) → List (Named Meaning) → Type 0
Standing None ks code vs ds = list_all (is_closed code) ks ≡ true
Standing (Some blocks) ks code vs ds = OpenProcess ks code vs ds

standing_same : (o p : Option (List Block)) (ks js : List Kind) (code next : List Stmt) (vs us : List (Named Class))
    (ds es : List (Named Meaning)) → o ≡ p → ks ≡ js → code ≡ next → vs ≡ us → ds ≡ es → Standing o ks code vs ds
    → Standing p js next us es
standing_same o p ks js code next vs us ds es a b c d e h = subst (λ q. Standing q js next us es) a (subst (λ l. Standing o l next us es) b (subst (λ l. Standing o ks l us es) c (subst (λ l. Standing o ks code l es) d (subst (λ l. Standing o ks code vs l) e h))))

-- ---- one statement more

all_front : {X : Type 0} (test : X → Bool) (front : List X) (x : X) → list_all test (front ++ x ∷ []) ≡ true → (list_all test front ≡ true) × (test x ≡ true)
all_front test front x h =
    let parts = and_parts (list_all test front) (test x && true) (sym (list_all-append test front (x ∷ [])) ∙ h) in
    (parts.0, (and_parts (test x) true parts.1).0)

module _ (final : ScenarioOf) (ks : List Kind) (code : List Stmt) (st : Stmt) (vs : List (Named Class)) (ds : List (Named Meaning)) (process : OpenProcess ks code vs ds) where
  closed_more : list_all (is_closed (code ++ st ∷ [])) process.front ≡ true
  closed_more = list_all_both (is_closed code) (is_closed code) (is_closed (code ++ st ∷ [])) process.front (λ k h g. closed_push code st k h) process.closed process.closed

  -- each kind goes on to fit
  fits_more : list_all (fits_from final code) ks ≡ true → statement_fits final process.kind st ≡ true → list_all (fits_from final (code ++ st ∷ [])) ks ≡ true
  fits_more fits one =
      let parts = all_front (fits_from final code) process.front process.kind (subst (λ all. list_all (fits_from final code) all ≡ true) process.kinds fits) in
      subst (λ all. list_all (fits_from final (code ++ st ∷ [])) all ≡ true) (sym process.kinds)
      (list_all_push (fits_from final (code ++ st ∷ [])) process.front process.kind
      (list_all_both (is_closed code) (fits_from final code) (fits_from final (code ++ st ∷ [])) process.front (λ k h g. closed_fits final code st k h g) process.closed parts.0)
      (open_fits final code st process.kind process.within parts.1 one))

  goes_on : OpenProcess ks (code ++ st ∷ []) vs ds
  goes_on = record { front = process.front; kind = process.kind; kinds = process.kinds; closed = closed_more; within = let few = process.within in omega (arith, length_push code st); classes = process.classes; variables = process.variables }

  has_ended : is_end_process st ≡ true → list_all (is_closed (code ++ st ∷ [])) ks ≡ true
  has_ended h = subst (λ all. list_all (is_closed (code ++ st ∷ [])) all ≡ true) (sym process.kinds) (list_all_push (is_closed (code ++ st ∷ [])) process.front process.kind closed_more (now_closed code st process.kind process.within h))

  standing_more : (o : Option (List Block))
      → ((more : List Block) × (o ≡ Some more)) ⊎ ((o ≡ None) × (is_end_process st ≡ true))
      → Standing o ks (code ++ st ∷ []) vs ds
  standing_more o (inl stays) = subst (λ p. Standing p ks (code ++ st ∷ []) vs ds) (sym stays.1) goes_on
  standing_more o (inr ends) = subst (λ p. Standing p ks (code ++ st ∷ []) vs ds) (sym ends.0) (has_ended ends.1)

-- ---- behind each line

pub record Processes (final : ScenarioOf) (above below : List TextLine) (s : ScenarioOf) : Type 0 where
  pub code : length s.code ≡ statements above
  pub fits : list_all (fits_from final s.code) s.kinds ≡ true
  pub standing : Standing (open_blocks above) s.kinds s.code (variables_at above below) (declared above)

pub processes_blank : (final : ScenarioOf) (above : List TextLine) (ws : List Word) (below : List TextLine) (s : ScenarioOf)
    → Processes final above (line ws Blank ∷ below) s → Processes final (line ws Blank ∷ above) below s
processes_blank final above ws below s h = record { code = h.code; fits = h.fits; standing = h.standing }

pub processes_wrong : (final : ScenarioOf) (above : List TextLine) (ws : List Word) (kind : FaultKind)
    (below : List TextLine) (s : ScenarioOf) → Processes final above (line ws (Wrong kind) ∷ below) s
    → Processes final (line ws (Wrong kind) ∷ above) below s
processes_wrong final above ws kind below s h = record { code = h.code; fits = h.fits; standing = h.standing }

is_there : {A : Type 0} (o : Option A) → is_some o ≡ true → (x : A) × (o ≡ Some x)
is_there None h = absurd (true≢false (sym h))
is_there (Some x) h = (x, refl)

pub is_none_by : {A : Type 0} (o : Option A) → is_some o ≡ false → o ≡ None
is_none_by None h = refl
is_none_by (Some x) h = absurd (true≢false h)

-- a line that adds no statement leaves the statements as they are
same_code : (a : Added) (s : ScenarioOf) → adds_statement a ≡ false → (put_in a s).code ≡ s.code
same_code (AStatement st) s h = absurd (true≢false h)
same_code a s h = refl

module _ (whole : WholeText) (final : ScenarioOf) (n : ℕ) (above : List TextLine) (ws : List Word) (f : Form) (slots : List Operand) (below : List TextLine) (s : ScenarioOf) where
  abbrev pub here : TextLine
  here = line ws (Says f slots)

  abbrev pub place : LineInText
  place = place_at n above (line ws (Says f slots)) below

  -- a line of a process leaves the declared names as they are
  same_declared : CleanLine whole place f slots → is_process f ≡ false → is_some (open_blocks above) ≡ true → declared (here ∷ above) ≡ declared above
  same_declared clean other inside =
      let none = nothing_declared place.above f slots other clean.placed inside in
      subst (λ o. Grown f o (declared above) (declared (here ∷ above))) none (grown_line whole place f slots clean)

  statement_inside_process : (process : OpenProcess s.kinds s.code (variables_at above (here ∷ below)) (declared above)) → CleanLine whole place f slots
      → Ground whole final place → is_process f ≡ false → StatementFits final process.kind (statement whole.heads place f slots)
  statement_inside_process process clean ground other =
      let same = variables_other above ws f slots below other in
      let inside : InProcess whole final process.kind place = record {
        ground = ground;
        classes = process.classes ∙ ap classes_of (sym same);
        variables = subst (λ vs. VariablesFit vs (declared above)) (sym same) process.variables;
      } in
      of_shape whole place f slots clean (λ more. CleanLine whole place f more → clean.fits.fits.context.whole ≡ whole → StatementFits final process.kind (statement whole.heads place f more)) (statements_fit whole final process.kind place inside clean.fits.fits.context f) clean clean.fits.among

  -- a statement
  pub processes_statement : CleanLine whole place f slots → Ground whole final place → is_statement f ≡ true → Processes final above (here ∷ below) s
      → Processes final (here ∷ above) below (put_in (added whole.heads place f slots) s)
  processes_statement clean ground is h = by (statement whole.heads place f slots) refl (is_there (open_blocks above) inside)
    where
      other : is_process f ≡ false
      other = statement_begins_none f is

      inside : is_some (open_blocks above) ≡ true
      inside = statement_inside place.above f slots is clean.placed

      adds : (o : Option Stmt) → statement whole.heads place f slots ≡ o → added whole.heads place f slots ≡ by_statement o
      adds o e = added_statement whole.heads place f slots is ∙ ap by_statement e

      by : (o : Option Stmt) → statement whole.heads place f slots ≡ o → (blocks : List Block) × (open_blocks above ≡ Some blocks)
          → Processes final (here ∷ above) below (put_in (added whole.heads place f slots) s)
      by None e blocks = absurd (true≢false (sym is ∙ (sym (told_line whole place f slots clean).statements ∙ ap adds_statement (adds None e))))
      by (Some st) e blocks =
          let process : OpenProcess s.kinds s.code (variables_at above (here ∷ below)) (declared above) = subst (λ o. Standing o s.kinds s.code (variables_at above (here ∷ below)) (declared above)) blocks.1 h.standing in
          let fit : statement_fits final process.kind st ≡ true = subst (λ o. StatementFits final process.kind o) e (statement_inside_process process clean ground other) in
          let next = standing_more final s.kinds s.code st (variables_at above (here ∷ below)) (declared above) process (blocks_behind (statements (here ∷ above)) f slots (Some blocks.0)) (blocks_stay whole.heads place f slots (statements (here ∷ above)) blocks.0 st blocks.1 e) in
          subst (λ a. Processes final (here ∷ above) below (put_in a s)) (sym (adds (Some st) e)) (record {
            code = rw is (length_push s.code st ∙ ap (λ m. m + 1) h.code);
            fits = fits_more final s.kinds s.code st (variables_at above (here ∷ below)) (declared above) process h.fits fit;
            standing = standing_same _ _ s.kinds s.kinds (s.code ++ st ∷ []) (s.code ++ st ∷ []) _ _ _ _ (ap (blocks_behind (statements (here ∷ above)) f slots) (sym blocks.1)) refl refl (sym (variables_other above ws f slots below other)) (sym (same_declared clean other inside)) next;
          })

  -- a line that is no statement, and begins no process
  pub processes_other : CleanLine whole place f slots → is_statement f ≡ false → is_process f ≡ false → Processes final above (here ∷ below) s
      → Processes final (here ∷ above) below (put_in (added whole.heads place f slots) s)
  processes_other clean no_statement no_process h = record {
    code = ap length same_statements ∙ (h.code ∙ rw no_statement refl);
    fits = rw (same_statements, same_processes) h.fits;
    standing = by (open_blocks above) refl h.standing;
  }
    where
      a : Added
      a = added whole.heads place f slots

      same_statements : (put_in a s).code ≡ s.code
      same_statements = same_code a s ((told_line whole place f slots clean).statements ∙ no_statement)

      same_processes : (put_in a s).kinds ≡ s.kinds
      same_processes = same_kinds f a s no_process (told_line whole place f slots clean).sort

      still_open : (o : Option (List Block)) → open_blocks above ≡ o → o ≡ open_blocks (here ∷ above)
      still_open o e = sym e ∙ sym (same_blocks (statements (here ∷ above)) f slots (open_blocks above) (or_from _ _ no_statement no_process))

      by : (o : Option (List Block)) → open_blocks above ≡ o
          → Standing o s.kinds s.code (variables_at above (here ∷ below)) (declared above)
          → Standing (open_blocks (here ∷ above)) (put_in a s).kinds (put_in a s).code (variables_at (here ∷ above) below)
          (declared (here ∷ above))
      by None e standing = standing_same None _ s.kinds (put_in a s).kinds s.code (put_in a s).code (variables_at (here ∷ above) below) _ (declared (here ∷ above)) _ (still_open None e) (sym same_processes) (sym same_statements) refl refl standing
      by (Some blocks) e standing = standing_same (Some blocks) _ s.kinds (put_in a s).kinds s.code (put_in a s).code (variables_at above (here ∷ below)) _ (declared above) _ (still_open (Some blocks) e) (sym same_processes) (sym same_statements) (sym (variables_other above ws f slots below no_process)) (sym (same_declared clean no_process (ap is_some e))) standing

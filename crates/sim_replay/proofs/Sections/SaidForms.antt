-- The form that a line says passes a test where the form that its words begin does.
--     passes_saying      so it is
use Rattle.std.proofs.Common.{◌≡◌, refl, Bool, true, false, not, if◌then◌else◌, nat_lt, List, [], ◌∷◌, length, Option, Some, None}
use Rattle.std.specs.List.{list_any, list_all}
use Rattle.sim_types.specs.declared.fault.FaultKind.TheVariants as fault
use Rattle.sim_language.specs.declared.form.Form.{Form}
use Rattle.sim_language.specs.declared.form.Version.{Version}
use Rattle.sim_language.specs.Lines.{Word, is_text}
use Rattle.sim_language.specs.Forms.{operands}
use Rattle.sim_language.specs.Shapes.{Operand, Context, fit, shape}
use Rattle.sim_language.specs.Sayings.{TextLine, Saying, Wrong, Says, Setting, context_of, form_in, is_bad_number, is_bad_name, said_by_slots, said_by_form, saying}

-- ---- a form that is said passes a test

abbrev pub passes : (Form → Bool) → Saying → Bool
passes test (Says f slots) = test f
passes test other = true

abbrev pub passes_found : (Form → Bool) → Option Form → Bool
passes_found test None = true
passes_found test (Some f) = test f

abbrev pub all_pass : (Form → Bool) → List TextLine → Bool
all_pass test ls = list_all (λ l. passes test l.saying) ls

module _ (test : Form → Bool) where
  passes_slots : (version : Version) (f : Form) (slots : Option (List Operand)) → test f ≡ true → passes test (said_by_slots version f slots) ≡ true
  passes_slots version f None h = refl
  passes_slots version f (Some slots) h = by (list_any is_bad_number slots) (list_any (is_bad_name version) slots)
    where
      by : (number name : Bool) → passes test (if number then Wrong fault.BadNumber else (if name then Wrong fault.BadName else Says f slots)) ≡ true
      by true name = refl
      by false true = refl
      by false false = h

  passes_form : (context : Context) (o : Option Form) (ws : List Word) → passes_found test o ≡ true → passes test (said_by_form context o ws) ≡ true
  passes_form context None ws h = refl
  passes_form context (Some f) ws h = passes_slots context.whole.version f (fit context [] (shape f) (operands f ws)) h

  -- where the first words begin such a form
  pub passes_saying : (s : Setting) (line : Word) (w : Word) (ws : List Word)
      → passes_found test (form_in s.whole.version s.section (w ∷ ws)) ≡ true → passes test (saying s line (w ∷ ws)) ≡ true
  passes_saying s line w ws h = by (not (list_all is_text line)) (nat_lt 200 (length line))
    where
      by : (a b : Bool) → passes test (if a then Wrong fault.NotText else (if b then Wrong fault.LineTooLong
          else said_by_form (context_of s) (form_in s.whole.version s.section (w ∷ ws)) (w ∷ ws))) ≡ true
      by true b = refl
      by false true = refl
      by false false = passes_form (context_of s) (form_in s.whole.version s.section (w ∷ ws)) (w ∷ ws) h

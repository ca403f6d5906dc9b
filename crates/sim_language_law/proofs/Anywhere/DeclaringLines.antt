-- A line that is not wrong by itself declares what its first two words tell.
--     line_declares      the name that the line declares, if it declares one
--     line_head          the process line that it is, if it is one
use Rattle.std.specs.Prelude.{◌≡◌, refl, Bool, true, false, not, List, [], ◌∷◌, map, drop, codes, Option, Some, None, option_map}
use Rattle.std.specs.Option.{option_to_list}
use Rattle.std.specs.List.{list_any}
use Rattle.std.proofs.Common.{sym, ap, ◌∙◌, subst}
use Rattle.std.proofs.lemmas.Bool.{true≢false, false_from_ne_true, not-false, or_parts}
use Rattle.std.proofs.lemmas.Option.{none-some, same_Some}
use Rattle.sim_language.specs.declared.form.Form.{Form}
use Rattle.sim_language.specs.declared.form.Form.TheVariants as form
use Rattle.sim_language.specs.declared.form.Sort.{Sort}
use Rattle.sim_language.specs.declared.shape.Item.{Item}
use Rattle.sim_language.specs.declared.shape.Item.TheVariants.{A}
use Rattle.sim_language.specs.declared.shape.Role.TheVariants.{Declares, Parameter}
use Rattle.sim_language.specs.Lines.{Word, same}
use Rattle.sim_language.specs.Names.{is_name}
use Rattle.sim_language.specs.Parameters.{parameter_class}
use Rattle.sim_language.specs.Forms.{operands, declares_sort, is_process}
use Rattle.sim_language.specs.Shapes.{Operand, Context, slot_of, before_all, shape, fit}
use Rattle.sim_language.specs.AnywhereInText.{sort_begun, declaration, head_of}
use Rattle.sim_language.specs.Sayings.{Saying, Blank, Wrong, Says, Setting, context_of, saying, is_bad_name}
use Rattle.sim_language_law.proofs.Names.NamedLists.{same_is}
use Rattle.sim_language_law.proofs.Processes.ProcessHeads.{no_head, declares_process}
use Rattle.sim_language_law.proofs.Anywhere.SaidAnywhere.{head_said, declaration_said}
use Rattle.sim_language_law.proofs.Anywhere.FirstWords.{process_word}
use Rattle.sim_language_law.proofs.Anywhere.RightLines.{IsRight, IsRightLine, Right, right_line}

-- ---- the name that a line declares

-- it is the first operand
record Declaring (ws : List Word) (slots : List Operand) : Type 0 where
  name : Word
  rest : List Word
  more : List Operand
  words : ws ≡ name ∷ rest
  operands : slots ≡ slot_of Declares name ∷ more

first_operand : (context : Context) (items : List Item) (ws : List Word) (slots : List Operand) → fit context [] (A Declares ∷ items) ws ≡ Some slots
    → Declaring ws slots
first_operand context items [] slots h = absurd (none-some slots h)
first_operand context items (w ∷ ws) slots h = by (fit context w items ws) h
  where
    by : (o : Option (List Operand)) → before_all (slot_of Declares w) o ≡ Some slots → Declaring (w ∷ ws) slots
    by None e = absurd (none-some slots e)
    by (Some more) e = record { name = w; rest = ws; more = more; words = refl; operands = sym (same_Some _ slots e) }

declaring : (context : Context) (f : Form) (s : Sort) (w : Word) (ws : List Word) (slots : List Operand)
    → declares_sort f ≡ Some s → fit context [] (shape f) (operands f (w ∷ ws)) ≡ Some slots → Declaring ws slots
declaring context form.Resource s w ws slots e h = first_operand context (drop 1 (shape form.Resource)) ws slots h
declaring context form.Priority s w ws slots e h = first_operand context (drop 1 (shape form.Priority)) ws slots h
declaring context form.Preemptive s w ws slots e h = first_operand context (drop 1 (shape form.Preemptive)) ws slots h
declaring context form.Container s w ws slots e h = first_operand context (drop 1 (shape form.Container)) ws slots h
declaring context form.Store s w ws slots e h = first_operand context (drop 1 (shape form.Store)) ws slots h
declaring context form.PStore s w ws slots e h = first_operand context (drop 1 (shape form.PStore)) ws slots h
declaring context form.FStore s w ws slots e h = first_operand context (drop 1 (shape form.FStore)) ws slots h
declaring context form.Event s w ws slots e h = first_operand context (drop 1 (shape form.Event)) ws slots h
declaring context form.Port s w ws slots e h = first_operand context (drop 1 (shape form.Port)) ws slots h
declaring context form.Process s w ws slots e h = first_operand context (drop 1 (shape form.Process)) ws slots h
declaring context f s w ws slots e h = absurd (none-some s e)

module _ (w : Word) (f : Form) (sorted : declares_sort f ≡ sort_begun w) where
  nothing_told : (ws : List Word) → sort_begun w ≡ None → declaration (w ∷ ws) ≡ None
  nothing_told [] e = refl
  nothing_told (v ∷ ws) e = rw e refl

  nothing_declared : (slots : List Operand) → declares_sort f ≡ None → declaration_said (Says f slots) ≡ []
  nothing_declared [] e = refl
  nothing_declared (slot ∷ slots) e = rw e refl

  name_declared : (ws : List Word) (slots : List Operand) → Declaring ws slots → option_to_list (declaration (w ∷ ws)) ≡ declaration_said (Says f slots)
  name_declared ws slots d = rw (d.words, d.operands) (ap (λ o. option_to_list (option_map (λ t. record { name = d.name; value = t }) o)) (sym sorted))

  declared_here : (context : Context) (ws : List Word) (slots : List Operand) → fit context [] (shape f) (operands f (w ∷ ws)) ≡ Some slots
      → option_to_list (declaration (w ∷ ws)) ≡ declaration_said (Says f slots)
  declared_here context ws slots fits = by (declares_sort f) refl
    where
      by : (o : Option Sort) → declares_sort f ≡ o → option_to_list (declaration (w ∷ ws)) ≡ declaration_said (Says f slots)
      by None e = ap option_to_list (nothing_told ws (sym sorted ∙ e)) ∙ sym (nothing_declared slots e)
      by (Some s) e = name_declared ws slots (declaring context f s w ws slots e fits)

-- ---- the process line that a line is

module _ (context : Context) (w : Word) (ws : List Word) (f : Form) (slots : List Operand) (right : Right context w ws f slots) where
  other_head : (vs : List Word) → same w (codes "process") ≡ false → head_of context.whole.version (w ∷ vs) ≡ None
  other_head [] h = refl
  other_head (name ∷ params) h = rw h refl

  parameters_said : (vs : List Word) → map (λ p. parameter_class p.word) (map (slot_of Parameter) vs) ≡ map parameter_class vs
  parameters_said [] = refl
  parameters_said (v ∷ vs) = ap (λ rest. parameter_class v ∷ rest) (parameters_said vs)

  process_head : (vs : List Word) → same w (codes "process") ≡ true → fit context [] (shape form.Process) vs ≡ Some slots
      → option_to_list (head_of context.whole.version (w ∷ vs)) ≡ head_said (Says form.Process slots)
  process_head [] h fits = absurd (none-some slots fits)
  process_head (name ∷ params) h fits =
      let here : slot_of Declares name ∷ map (slot_of Parameter) params ≡ slots = same_Some _ slots fits in
      let good = subst (λ more. list_any (is_bad_name context.whole.version) more ≡ false) (sym here) right.names in
      let name_good = not-false (is_name context.whole.version name) (or_parts (not (is_name context.whole.version name)) _ good).0 in
      rw (← here, h, name_good, parameters_said params) refl

  head_here : option_to_list (head_of context.whole.version (w ∷ ws)) ≡ head_said (Says f slots)
  head_here = by f right.sort right.fits (same w (codes "process")) refl
    where
      is_other : (g : Form) → declares_sort g ≡ sort_begun w → is_process g ≡ false → same w (codes "process") ≡ false
      is_other g e other =
          false_from_ne_true (same w (codes "process")) (λ is. true≢false (sym (declares_process g (rw (same_is w (codes "process") is) at e)) ∙ other))

      by : (g : Form) → declares_sort g ≡ sort_begun w → fit context [] (shape g) (operands g (w ∷ ws)) ≡ Some slots → (b : Bool) → same w (codes "process") ≡ b
          → option_to_list (head_of context.whole.version (w ∷ ws)) ≡ head_said (Says g slots)
      by form.Process e fits b is = process_head ws (process_word w (sym e)) fits
      by g e fits b is = ap option_to_list (other_head ws (is_other g e refl)) ∙ sym (no_head g slots refl)

-- ---- a line

line_by : (s : Setting) (w : Word) (ws : List Word) (said : Saying) → IsRightLine (context_of s) w ws said
    → (option_to_list (declaration (w ∷ ws)) ≡ declaration_said said) × (option_to_list (head_of s.whole.version (w ∷ ws)) ≡ head_said said)
line_by s w ws Blank right = absurd right
line_by s w ws (Wrong kind) right = absurd right
line_by s w ws (Says f slots) right = (declared_here w f right.sort (context_of s) ws slots right.fits, head_here (context_of s) w ws f slots right)

pub line_declares : (s : Setting) (l : Word) (ws : List Word) → IsRight (saying s l ws) → option_to_list (declaration ws) ≡ declaration_said (saying s l ws)
line_declares s l [] right = refl
line_declares s l (w ∷ ws) right = (line_by s w ws (saying s l (w ∷ ws)) (right_line s w ws l right)).0

pub line_head : (s : Setting) (l : Word) (ws : List Word) → IsRight (saying s l ws) → option_to_list (head_of s.whole.version ws) ≡ head_said (saying s l ws)
line_head s l [] right = refl
line_head s l (w ∷ ws) right = (line_by s w ws (saying s l (w ∷ ws)) (right_line s w ws l right)).1

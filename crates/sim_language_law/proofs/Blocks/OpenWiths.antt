-- A `with` gives a variable that no `with` has in which it stands.
--     AllNamed vs blocks                the variables of the open `with` blocks are among these
--     GivesNew vs blocks form slots     a line that is a `with` gives one of these, which no open `with` has
--     gives_new                         so it is for a line without a fault
use Rattle.std.proofs.Common.{◌≡◌, refl, subst, sym, ap, ◌∙◌, ℕ, suc, Bool, true, false, ◌&&◌, ◌==◌, if◌then◌else◌, nat_lt, nat_le, List, [], ◌∷◌, drop, Option, Some, None, unwrap_or, is_none, is_some, arith}
use Rattle.std.specs.List.{list_any, AllByRecursion}
use Rattle.std.proofs.lemmas.Bool.{true≢false, false≢true, or_parts, or_from, eqb-true, lt-ltb, leb-false}
use Rattle.sim_types.specs.declared.setup.Class.{Class}
use Rattle.sim_types.specs.declared.setup.Class.TheVariants as class
use Rattle.sim_language.specs.declared.form.Form.{Form}
use Rattle.sim_language.specs.declared.form.Form.TheVariants as form
use Rattle.sim_language.specs.declared.shape.Role.TheVariants.{Gives}
use Rattle.sim_language.specs.Lines.{Word, same}
use Rattle.sim_language.specs.Named.{Named, value_of, is_named, place_of}
use Rattle.sim_language.specs.Shapes.{Operand, slot_of, shape}
use Rattle.sim_language.specs.AnywhereInText.{ProcessLines}
use Rattle.sim_language.specs.Said.{Fits}
use Rattle.sim_language.specs.Blocks.{Block, first_word, blocks_behind}
use Rattle.sim_language.specs.Variables.{variable_number}
use Rattle.sim_language.specs.Places.{LineInText, is_with}
use Rattle.sim_language.specs.NameFaults.{gives_again}
use Rattle.sim_language.specs.LimitFaults.{gives_too_many}
use Rattle.sim_language.specs.VariableFaults.{is_unset, unset}
use Rattle.sim_language.specs.Statements.{variable}
use Rattle.sim_language_law.proofs.Lines.Faultless.{Faultless}
use Rattle.sim_language_law.proofs.Operands.ByShape.{rule_all, by_shape}
use Rattle.sim_language_law.proofs.Names.NamedLists.{same_self, named_value, place_value, place_same}
use Rattle.sim_language_law.proofs.Blocks.BlockFrames.{frame_by, frames_of, block}
use Rattle.sim_language_law.proofs.Blocks.ClosedBlocks.{is_with_frame}

-- ---- variables have numbers of their own

module _ (vs : List (Named Class)) where
  place_is : (w : Word) → is_named w vs ≡ true → (i : ℕ) × (place_of w vs ≡ Some i)
  place_is w h = let found = named_value w vs h in let at = place_value w vs found.0 found.1 in (at.0, at.1)

  variable_at : (w : Word) (i : ℕ) → place_of w vs ≡ Some i → variable vs w ≡ (if nat_lt (suc i) 64 then suc i else 0)
  variable_at w i at = ap (λ o. let n : ℕ = suc (unwrap_or o 0) in if nat_lt n 64 then n else 0) at

  number_at : (w : Word) (i : ℕ) → place_of w vs ≡ Some i → variable_number vs w ≡ suc i
  number_at w i at = ap (λ o. suc (unwrap_or o 0)) at

  -- a variable beyond the first 64 has the number 0, as none of them has
  same_number : (i j : ℕ) → nat_le 64 (suc i) ≡ false → (if nat_lt (suc i) 64 then suc i else 0) ≡ (if nat_lt (suc j) 64 then suc j else 0) → i ≡ j
  same_number i j few h = by (nat_lt (suc j) 64) (rw (lt-ltb (suc i) 64 (leb-false 64 (suc i) few)) at h)
    where
      by : (b : Bool) → suc i ≡ (if b then suc j else 0) → i ≡ j
      by true e = omega (arith, e)
      by false e = absurd (omega (arith, e))

  pub variable_apart : (w v : Word) → is_named w vs ≡ true → is_named v vs ≡ true → nat_le 64 (variable_number vs w) ≡ false
      → variable vs w ≡ variable vs v → w ≡ v
  variable_apart w v named other few h =
      let a = place_is w named in
      let b = place_is v other in
      let same : a.0 ≡ b.0 = same_number a.0 b.0 (rw (number_at w a.0 a.1) at few) (sym (variable_at w a.0 a.1) ∙ h ∙ variable_at v b.0 b.1) in
      place_same w v vs b.0 (a.1 ∙ ap Some same) b.1

  -- ---- the `with` blocks that are open

  abbrev pub AllNamed : List Block → Type 0
  AllNamed blocks = AllByRecursion (λ b. is_with b ≡ true → is_named b.variable vs ≡ true) blocks

  with_apart : (f : Form) (w v : Word) (split : Bool) (inside : ℕ) → is_named w vs ≡ true
      → nat_le 64 (variable_number vs w) ≡ false → (is_with (block f v split inside) ≡ true → is_named v vs ≡ true)
      → (is_with (block f v split inside) && same w v) ≡ false
      → is_with_frame (variable vs w) (frame_by f split (variable vs v) inside) ≡ false
  with_apart form.With w v split inside named few other h = by (variable vs w == variable vs v) refl
    where
      by : (b : Bool) → (variable vs w == variable vs v) ≡ b → b ≡ false
      by false e = refl
      by true e =
          let one : w ≡ v = variable_apart w v named (other refl) few (eqb-true (variable vs w) (variable vs v) e) in
          absurd (true≢false (sym (same_self v) ∙ subst (λ u. same u v ≡ false) one h))
  with_apart form.If w v true inside named few other h = refl
  with_apart form.Try w v true inside named few other h = refl
  with_apart f w v split inside named few other h = refl

  -- a name that no `with` has that is open by the lines is that of none that is open by the statements
  pub with_stands : (w : Word) (blocks : List Block) → is_named w vs ≡ true → nat_le 64 (variable_number vs w) ≡ false
      → AllNamed blocks → list_any (λ b. is_with b && same w b.variable) blocks ≡ false
      → list_any (is_with_frame (variable vs w)) (frames_of vs blocks) ≡ false
  with_stands w [] named few all h = refl
  with_stands w (b ∷ blocks) named few all h =
      let parts = or_parts (is_with b && same w b.variable) _ h in
      or_from _ _ (with_apart b.form w b.variable b.split b.inside named few all.0 parts.0) (with_stands w blocks named few all.1 parts.1)

-- ---- a line

abbrev pub GivesNew : List (Named Class) → List Block → Form → List Operand → Type 0
GivesNew vs blocks form.With slots = (is_named (first_word slots) vs ≡ true) × (list_any (is_with_frame (variable vs (first_word slots))) (frames_of vs blocks) ≡ false)
GivesNew vs blocks f slots = Unit {0}

some_of : {A : Type 0} (o : Option A) → is_none o ≡ false → is_some o ≡ true
some_of None h = absurd (true≢false h)
some_of (Some v) h = refl

-- the variable that a `with` gives is one of the process
abbrev GivesOne : LineInText → List Operand → Type 0
GivesOne place slots = unset place slots ≡ false → gives_too_many place.variables slots ≡ false → (is_named (first_word slots) place.variables ≡ true) × (nat_le 64 (variable_number place.variables (first_word slots)) ≡ false)

gives_one : (place : LineInText) (slots : List Operand) → Fits form.With slots → GivesOne place slots
gives_one place slots is = by_shape is.context [] (shape form.With) is.words slots (GivesOne place) is.shape (λ w. rule_all is.context w (drop 1 (shape form.With)) (λ more. GivesOne place (slot_of (Gives class.Request) w ∷ more)) (λ more set few. (some_of (value_of w place.variables) (or_parts (is_unset place.variables (slot_of (Gives class.Request) w)) _ set).0, (or_parts (nat_le 64 (variable_number place.variables w)) _ few).0)))

pub gives_new : (heads : ProcessLines) (place : LineInText) (blocks : List Block) (f : Form) (slots : List Operand)
    → Fits f slots → Faultless heads place f slots → place.above.blocks ≡ Some blocks → AllNamed place.variables blocks
    → GivesNew place.variables blocks f slots
gives_new heads place blocks form.With slots is free here all =
    let one = gives_one place slots is free.unset (or_parts _ (gives_too_many place.variables slots) free.many).1 in
    let apart : list_any (λ b. is_with b && same (first_word slots) b.variable) blocks ≡ false = rw here at (or_parts _ (gives_again place.above form.With slots) free.duplicate).1 in
    (one.0, with_stands place.variables (first_word slots) blocks one.0 one.1 all apart)
gives_new heads place blocks f slots is free here all = tt

-- the same holds of the blocks that are open behind the line
pub named_behind : (vs : List (Named Class)) (inside : ℕ) (f : Form) (slots : List Operand) (blocks : List Block)
    → GivesNew vs blocks f slots → AllNamed vs blocks
    → AllNamed vs (unwrap_or (blocks_behind inside f slots (Some blocks)) [])
named_behind vs inside form.Process slots blocks new all = tt
named_behind vs inside form.End slots [] new all = tt
named_behind vs inside form.End slots (b ∷ blocks) new all = all.1
named_behind vs inside form.Else slots [] new all = tt
named_behind vs inside form.Else slots (b ∷ blocks) new all = all
named_behind vs inside form.Catch slots [] new all = tt
named_behind vs inside form.Catch slots (b ∷ blocks) new all = all
named_behind vs inside form.With slots blocks new all = (λ h. new.0, all)
named_behind vs inside form.Loop slots blocks new all = (λ h. absurd (false≢true h), all)
named_behind vs inside form.Repeat slots blocks new all = (λ h. absurd (false≢true h), all)
named_behind vs inside form.If slots blocks new all = (λ h. absurd (false≢true h), all)
named_behind vs inside form.Try slots blocks new all = (λ h. absurd (false≢true h), all)
named_behind vs inside f slots blocks new all = all

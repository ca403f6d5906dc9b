-- The variables of the lines so far, and of what is left.
use Rattle.std.proofs.Common.{◌≡◌, refl, sym, ℕ, zero, suc, ◌+◌, ◌≤◌, Bool, true, false, List, [], ◌∷◌, arith}
use Rattle.sim_types.specs.declared.setup.Class.{Class}
use Rattle.sim_language.specs.declared.form.Form.{Form}
use Rattle.sim_language.specs.Named.{Named, with_all}
use Rattle.sim_language.specs.Forms.{opens_block, is_end}
use Rattle.sim_language.specs.Shapes.{Operand}
use Rattle.sim_language.specs.Sayings.{TextLine, Saying}
use Rattle.sim_language.specs.Sayings as sayings
use Rattle.sim_language.specs.Variables.{given_by, given_below, deep_behind, ends_process, variables_of}
use Rattle.sim_lines.specs.declared.line.Saying.TheVariants.{Says}
use Rattle.sim_lines.specs.LineOf.{without_operands, operands_of}
use Rattle.sim_faults.proofs.LongerTables.{with_all_append}

-- behind the parameters all lines below are left
pub variables_begin : (params : List Operand) (below left : List TextLine) (variables : List (Named Class))
    → variables ≡ with_all [] (given_by params) → left ≡ below → with_all variables (given_below 0 left) ≡ variables_of params below
variables_begin params below left variables e f = rw (e, f, with_all_append [] (given_by params) (given_below 0 below)) refl

says_of : (s : Saying) (f : Form) → Says f ≡ without_operands s → s ≡ sayings.Says f (operands_of s)
says_of sayings.Blank f e = cc
says_of (sayings.Wrong kind) f e = cc
says_of (sayings.Says g slots) f e = cc

-- one line further
pub variables_further : (known more : List (Named Class)) (deep deeper : ℕ) (f : Form) (slots : List Operand) (l : TextLine) (lines left : List TextLine)
    → Says f ≡ without_operands l.saying → ends_process deep f ≡ false → deeper ≡ deep_behind deep f → slots ≡ operands_of l.saying
    → more ≡ with_all known (given_by slots) → lines ≡ l ∷ left
    → with_all more (given_below deeper left) ≡ with_all known (given_below deep lines)
variables_further known more deep deeper f slots l lines left says goes_on d t e h = rw (d, e, t, h, says_of l.saying f says, goes_on) (sym (with_all_append known (given_by (operands_of l.saying)) (given_below (deep_behind deep f) left)))

-- a line opens at most one block
pub deep_few : (deep deeper : ℕ) (f : Form) → deeper ≡ deep_behind deep f → deeper ≤ deep + 1
deep_few zero deeper f d = by (opens_block f) refl
  where
    by : (b : Bool) → opens_block f ≡ b → deeper ≤ zero + 1
    by true e = rw (d, e) (omega arith)
    by false e = rw (d, e) (omega arith)
deep_few (suc deep) deeper f d = by (opens_block f) (is_end f) refl refl
  where
    by : (b c : Bool) → opens_block f ≡ b → is_end f ≡ c → deeper ≤ suc deep + 1
    by true c e g = rw (d, e) (omega arith)
    by false true e g = rw (d, e, g) (omega arith)
    by false false e g = rw (d, e, g) (omega arith)

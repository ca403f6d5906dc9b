-- No count of the lines above is more than their number.
use Rattle.std.proofs.Common.{◌≡◌, ℕ, suc, ◌+◌, ◌≤◌, Bool, true, false, List, [], ◌∷◌, ◌++◌, length, Option, Some, None, arith, if◌then◌else◌}
use Rattle.std.proofs.lemmas.List.{length-append}
use Rattle.sim_language.specs.declared.form.Form.{Form}
use Rattle.sim_language.specs.declared.form.Meaning.{Meaning}
use Rattle.sim_language.specs.declared.form.Sort.{Sort}
use Rattle.sim_language.specs.Lines.{is_empty}
use Rattle.sim_language.specs.Named.{Named, is_named, with_one}
use Rattle.sim_language.specs.Forms.{declares_sort, is_statement}
use Rattle.sim_language.specs.Shapes.{Operand}
use Rattle.sim_language.specs.Sayings.{TextLine, Saying, Blank, Wrong, Says}
use Rattle.sim_language.specs.Declarations.{declared, declared_behind, with_declared}
use Rattle.sim_language.specs.Blocks.{says, statements}
use Rattle.sim_language.specs.Places.{above_of, count_above, is_entry, is_poster, worded_above}
use Rattle.sim_faults.specs.AboveOf.{IsBelow}

one_more_below : (counts : Bool) (m n : ℕ) → m ≤ n → (if counts then m + 1 else m) ≤ n + 1
one_more_below true m n le = omega arith
one_more_below false m n le = omega arith

none_more_below : (empty : Bool) (m n : ℕ) → m ≤ n → (if empty then m else m + 1) ≤ n + 1
none_more_below true m n le = omega arith
none_more_below false m n le = omega arith

with_one_below : (ds : List (Named Meaning)) (d : Named Meaning) (n : ℕ) → length ds ≤ n → length (with_one ds d) ≤ n + 1
with_one_below ds d n le = by (is_named d.name ds)
  where
    by : (known : Bool) → length (if known then ds else ds ++ d ∷ []) ≤ n + 1
    by true = omega arith
    by false = let longer : length (ds ++ d ∷ []) ≡ length ds + 1 = length-append ds (d ∷ []) in omega (arith, longer)

declared_below : (ds : List (Named Meaning)) (f : Form) (sort : Option Sort) (slots : List Operand) (n : ℕ) → length ds ≤ n
    → length (with_declared ds f sort slots) ≤ n + 1
declared_below ds f None slots n le = omega arith
declared_below ds f (Some s) [] n le = omega arith
declared_below ds f (Some s) (slot ∷ slots) n le = with_one_below ds _ n le

behind_below : (ds : List (Named Meaning)) (saying : Saying) (n : ℕ) → length ds ≤ n → length (declared_behind ds saying) ≤ n + 1
behind_below ds Blank n le = omega arith
behind_below ds (Wrong kind) n le = omega arith
behind_below ds (Says f slots) n le = declared_below ds f (declares_sort f) slots n le

suc_is : (n : ℕ) (a : ℕ) → a ≤ n + 1 → a ≤ suc n
suc_is n a le = omega arith

pub below_of : (above : List TextLine) → IsBelow (length above) (above_of above)
below_of [] = record { worded = omega arith; statements = omega arith; entries = omega arith; posters = omega arith; declared = omega arith }
below_of (l ∷ above) = step (below_of above)
  where
    step : IsBelow (length above) (above_of above) → IsBelow (length (l ∷ above)) (above_of (l ∷ above))
    step b = record {
      worded = suc_is _ _ (none_more_below (is_empty l.words) (worded_above above) (length above) b.worded);
      statements = suc_is _ _ (one_more_below (says is_statement l.saying) (statements above) (length above) b.statements);
      entries = suc_is _ _ (one_more_below (says is_entry l.saying) (count_above is_entry above) (length above) b.entries);
      posters = suc_is _ _ (one_more_below (says is_poster l.saying) (count_above is_poster above) (length above) b.posters);
      declared = suc_is _ _ (behind_below (declared above) l.saying (length above) b.declared);
    }

pub below_most : (n : ℕ) (above : List TextLine) → length above ≤ n → IsBelow n (above_of above)
below_most n above le = further (below_of above)
  where
    further : IsBelow (length above) (above_of above) → IsBelow n (above_of above)
    further b = record { worded = omega (arith, le, b.worded); statements = omega (arith, le, b.statements); entries = omega (arith, le, b.entries); posters = omega (arith, le, b.posters); declared = omega (arith, le, b.declared) }

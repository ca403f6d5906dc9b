-- How a process of the bank begins, and what stands in its places.
use Rattle.std.proofs.Common.{◌≡◌, ◌≤◌, ◌<◌, ℕ, zero, suc, ℤ, pos, negsuc, List, [], ◌∷◌, refl, sym, ◌∙◌, arith}
use Rattle.std.specs.Prelude.{IsTrue, slice_index_or}
use Rattle.std.proofs.lemmas.Bool.{and_parts, false≢true, ne_eqb}
use Rattle.sim_types.specs.declared.event.EventId.{EventId}
use Rattle.sim_types.specs.declared.event.ProcId.{ProcId}
use Rattle.sim_machine.specs.BodyLaw.{may_begin}
use Rattle.sim_models.specs.Bank.{bank}
use Rattle.sim_script_law.specs.ScriptMembers.{begun_script, script_facts, script_holds, script_told_place}
use Rattle.sim_native.specs.declared.bank.CustomerAt.{CustomerAt}
use Rattle.sim_native.specs.declared.bank.Held.{Held}
use Rattle.sim_native.specs.declared.bank.SourceAt.{SourceAt}
use Rattle.sim_native.specs.declared.bank.Stage.{Stage}
use Rattle.sim_native.specs.declared.bank.Stage.TheVariants as stage
use Rattle.sim_native.specs.BankStages.{SpentOf, held_at, none_spent, script_of, stage_begun, stage_holds, stage_told}
use Rattle.sim_native.proofs.Absent.{no_kind, none, zeros}

-- ---- its beginning

pub begins : (kind : ℕ) (args : List ℤ) → IsTrue (may_begin (script_facts bank) kind args)
    → begun_script bank kind args ≡ script_of (record { 0 = 0 }) none_spent (stage_begun args)
begins zero [] may = absurd (false≢true may)
begins zero (p ∷ []) may = refl
begins zero (pos n ∷ x ∷ args) may = absurd (false≢true may)
begins zero (negsuc n ∷ x ∷ args) may = absurd (false≢true may)
begins (suc zero) [] may = refl
begins (suc zero) (x ∷ args) may = absurd (false≢true may)
begins (suc (suc kind)) args may = absurd (no_kind kind (and_parts _ _ may).0)

-- ---- its places

held_past : (held : Held) (at : ℕ) → 5 ≤ at → held_at held at ≡ none
held_past held at past =
    let differs : (n : ℕ) → n < 5 → at ≡ n → ⊥ = λ n few is. omega (arith, past, few, is) in
    rw (ne_eqb at 2 (differs 2 (omega arith)), ne_eqb at 3 (differs 3 (omega arith)), ne_eqb at 4 (differs 4 (omega arith))) refl

module _ (me : ProcId) (was : SpentOf) where
  -- what stands in a place of such a process
  abbrev event_at : Stage → ℕ → EventId
  event_at s at = slice_index_or (script_holds (script_of me was s)) at none

  source_holds : (c : SourceAt) (at : ℕ) → event_at (stage.Source c) at ≡ none
  source_holds c zero = refl
  source_holds c (suc zero) = refl
  source_holds c (suc (suc zero)) = refl
  source_holds c (suc (suc (suc k))) = zeros 61 k

  pub holds_is : (s : Stage) (at : ℕ) → event_at s at ≡ stage_holds s at
  holds_is (stage.Customer held c) zero = refl
  holds_is (stage.Customer held c) (suc zero) = refl
  holds_is (stage.Customer held c) (suc (suc zero)) = refl
  holds_is (stage.Customer held c) (suc (suc (suc zero))) = refl
  holds_is (stage.Customer held c) (suc (suc (suc (suc zero)))) = refl
  holds_is (stage.Customer held c) (suc (suc (suc (suc (suc k))))) = zeros 59 k ∙ sym (held_past held (suc (suc (suc (suc (suc k))))) (omega arith))
  holds_is (stage.Source c) at = source_holds c at

  pub customer_rest : (held : Held) (c : CustomerAt) (at : ℕ) → 5 ≤ at → event_at (stage.Customer held c) at ≡ none
  customer_rest held c at past = holds_is (stage.Customer held c) at ∙ held_past held at past

  pub source_rest : (c : SourceAt) (at : ℕ) → 0 ≤ at → event_at (stage.Source c) at ≡ none
  source_rest c at past = source_holds c at

  pub told_is : (s : Stage) → script_told_place bank (script_of me was s) ≡ stage_told s
  told_is (stage.Customer held c) = refl
  told_is (stage.Source c) = refl

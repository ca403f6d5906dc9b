-- How a process of the car wash begins, and what stands in its places.
use Rattle.std.proofs.Common.{◌≡◌, ◌≤◌, ℕ, zero, suc, ℤ, pos, negsuc, Bool, true, false, List, [], ◌∷◌, refl, arith}
use Rattle.std.specs.Prelude.{◌==◌, IsTrue, slice_index_or}
use Rattle.std.proofs.lemmas.Bool.{and_parts, eqb-true, eqb-false, false≢true}
use Rattle.sim_types.specs.declared.event.EventId.{EventId}
use Rattle.sim_types.specs.declared.event.ProcId.{ProcId}
use Rattle.sim_machine.specs.BodyLaw.{may_begin}
use Rattle.sim_models.specs.Wash.{wash}
use Rattle.sim_script_law.specs.ScriptMembers.{begun_script, script_facts, script_holds, script_told_place}
use Rattle.sim_native.specs.declared.wash.CarAt.{CarAt}
use Rattle.sim_native.specs.declared.wash.StreetAt.{StreetAt}
use Rattle.sim_native.specs.declared.wash.Stage.{Stage}
use Rattle.sim_native.specs.declared.wash.Stage.TheVariants as stage
use Rattle.sim_native.specs.WashStages.{script_of, stage_begun, stage_holds, stage_told}
use Rattle.sim_native.proofs.Absent.{no_kind, none, zeros}

-- ---- its beginning

pub begins : (kind : ℕ) (args : List ℤ) → IsTrue (may_begin (script_facts wash) kind args)
    → begun_script wash kind args ≡ script_of (record { 0 = 0 }) (pos 0) (stage_begun args)
begins zero [] may = absurd (false≢true may)
begins zero (id ∷ []) may = refl
begins zero (pos n ∷ x ∷ args) may = absurd (false≢true may)
begins zero (negsuc n ∷ x ∷ args) may = absurd (false≢true may)
begins (suc zero) [] may = refl
begins (suc zero) (x ∷ args) may = absurd (false≢true may)
begins (suc (suc kind)) args may = absurd (no_kind kind (and_parts _ _ may).0)

-- ---- its places

module _ (me : ProcId) (val : ℤ) where
  -- what stands in a place of such a process
  abbrev event_at : Stage → ℕ → EventId
  event_at s at = slice_index_or (script_holds (script_of me val s)) at none

  car_holds : (id : ℤ) (request : EventId) (c : CarAt) (at : ℕ) → (at ≡ 2 → ⊥) → event_at (stage.Car id request c) at ≡ none
  car_holds id request c zero differs = refl
  car_holds id request c (suc zero) differs = refl
  car_holds id request c (suc (suc zero)) differs = absurd (differs refl)
  car_holds id request c (suc (suc (suc k))) differs = zeros 61 k

  street_holds : (next gap : ℤ) (c : StreetAt) (at : ℕ) → event_at (stage.Street next gap c) at ≡ none
  street_holds next gap c zero = refl
  street_holds next gap c (suc zero) = refl
  street_holds next gap c (suc (suc zero)) = refl
  street_holds next gap c (suc (suc (suc k))) = zeros 61 k

  holds_by : (s : Stage) (at : ℕ) (b : Bool) → (at == 2) ≡ b → event_at s at ≡ stage_holds s b
  holds_by (stage.Car id request c) at true is = rw (eqb-true at 2 is) refl
  holds_by (stage.Car id request c) at false is = car_holds id request c at (eqb-false at 2 is)
  holds_by (stage.Street next gap c) at true is = street_holds next gap c at
  holds_by (stage.Street next gap c) at false is = street_holds next gap c at

  pub holds_is : (s : Stage) (at : ℕ) → event_at s at ≡ stage_holds s (at == 2)
  holds_is s at = holds_by s at (at == 2) refl

  pub car_rest : (id : ℤ) (request : EventId) (c : CarAt) (at : ℕ) → 3 ≤ at → event_at (stage.Car id request c) at ≡ none
  car_rest id request c at past = car_holds id request c at (λ is. omega (arith, past, is))

  pub street_rest : (next gap : ℤ) (c : StreetAt) (at : ℕ) → 0 ≤ at → event_at (stage.Street next gap c) at ≡ none
  street_rest next gap c at past = street_holds next gap c at

  pub told_is : (s : Stage) → script_told_place wash (script_of me val s) ≡ stage_told s
  told_is (stage.Car id request c) = refl
  told_is (stage.Street next gap c) = refl

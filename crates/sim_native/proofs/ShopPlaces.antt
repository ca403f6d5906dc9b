-- How a process of the machine shop begins, and what stands in its places.
use Rattle.std.proofs.Common.{◌≡◌, ◌≤◌, ℕ, zero, suc, ℤ, pos, negsuc, Bool, true, false, List, [], ◌∷◌, replicate, refl, arith}
use Rattle.std.specs.Prelude.{◌==◌, IsTrue, nat_lt, slice_index_or, if◌then◌else◌}
use Rattle.std.proofs.lemmas.Bool.{and_parts, eqb-true, eqb-false, false≢true}
use Rattle.std.proofs.lemmas.Bool.Decides.{nat_tests}
use Rattle.sim_types.specs.Scenarios.{facts_of}
use Rattle.sim_types.specs.declared.event.EventId.{EventId}
use Rattle.sim_types.specs.declared.event.ProcId.{ProcId}
use Rattle.sim_machine.specs.BodyLaw.{may_begin}
use Rattle.sim_language.specs.WellFormed.{is_well_formed}
use Rattle.sim_models.specs.Shop.{shop_of}
use Rattle.sim_script_law.specs.ScriptMembers.{begun_script, script_facts, script_holds}
use Rattle.sim_native.specs.ShopMembers.{BreakerOf, MachineOf, FillerOf, ChiefOf}
use Rattle.sim_native.specs.declared.shop.breaker.BreakerAt.{BreakerAt}
use Rattle.sim_native.specs.declared.shop.machine.MachineAt.{MachineAt}
use Rattle.sim_native.specs.declared.shop.filler.FillerAt.{FillerAt}
use Rattle.sim_native.specs.declared.shop.chief.ChiefAt.{ChiefAt}
use Rattle.sim_native.specs.declared.shop.Stage.{Stage}
use Rattle.sim_native.specs.declared.shop.Stage.TheVariants as stage
use Rattle.sim_native.specs.ShopStages.{script_of, stage_begun, stage_holds}

abbrev none : EventId
none = record { 0 = 0 }

-- ---- its beginning

-- no kind is past the last
no_kind : (kind kinds : ℕ) → kinds ≤ kind → nat_lt kind kinds ≡ true → ⊥
no_kind kind kinds past h = grind (arith, nat_tests, past, h)

module _ (n : ℕ) where
  -- where a process may begin, as the facts of the shop say it
  abbrev pub Begins : ℕ → List ℤ → Type 0
  Begins kind args = begun_script (shop_of n) kind args ≡ script_of n (record { 0 = 0 }) (pos 0) (stage_begun kind args)

  begins_in_shop : (kind : ℕ) (args : List ℤ) → IsTrue (may_begin (facts_of (shop_of n)) kind args) → Begins kind args
  begins_in_shop zero [] may = absurd (false≢true may)
  begins_in_shop zero (pos m ∷ []) may = refl
  begins_in_shop zero (negsuc m ∷ []) may = absurd (false≢true may)
  begins_in_shop zero (pos m ∷ x ∷ args) may = absurd (false≢true may)
  begins_in_shop zero (negsuc m ∷ x ∷ args) may = absurd (false≢true may)
  begins_in_shop (suc zero) [] may = absurd (false≢true may)
  begins_in_shop (suc zero) (id ∷ []) may = refl
  begins_in_shop (suc zero) (pos m ∷ x ∷ args) may = absurd (false≢true may)
  begins_in_shop (suc zero) (negsuc m ∷ x ∷ args) may = absurd (false≢true may)
  begins_in_shop (suc (suc zero)) [] may = refl
  begins_in_shop (suc (suc zero)) (x ∷ args) may = absurd (false≢true may)
  begins_in_shop (suc (suc (suc zero))) [] may = refl
  begins_in_shop (suc (suc (suc zero))) (x ∷ args) may = absurd (false≢true may)
  begins_in_shop (suc (suc (suc (suc kind)))) args may = absurd (no_kind (suc (suc (suc (suc kind)))) 4 (omega arith) (and_parts _ _ may).0)

  -- no process begins in a scenario that is not well-formed
  begins_by : (fits : Bool) (kind : ℕ) (args : List ℤ)
      → IsTrue (may_begin (if fits then facts_of (shop_of n) else record { params = []; named = 0; resources = [] }) kind args) → Begins kind args
  begins_by true kind args may = begins_in_shop kind args may
  begins_by false kind args may = absurd (no_kind kind 0 (omega arith) (and_parts _ _ may).0)

  pub begins : (kind : ℕ) (args : List ℤ) → IsTrue (may_begin (script_facts (shop_of n)) kind args) → Begins kind args
  begins kind args may = begins_by (is_well_formed (shop_of n)) kind args may

-- ---- its places

zeros : (n k : ℕ) → slice_index_or (replicate n none) k none ≡ none
zeros zero k = refl
zeros (suc n) zero = refl
zeros (suc n) (suc k) = zeros n k

module _ (n : ℕ) (me : ProcId) (val : ℤ) where
  -- what stands in a place of such a process
  abbrev event_at : Stage → ℕ → EventId
  event_at s at = slice_index_or (script_holds (script_of n me val s)) at none

  breaker_holds : (c : BreakerAt) (m : BreakerOf) (at : ℕ) → (at ≡ 1 → ⊥) → event_at (stage.Breaker c m) at ≡ none
  breaker_holds c m zero differs = refl
  breaker_holds c m (suc zero) differs = absurd (differs refl)
  breaker_holds c m (suc (suc zero)) differs = refl
  breaker_holds c m (suc (suc (suc k))) differs = zeros 61 k

  machine_holds : (c : MachineAt) (m : MachineOf) (at : ℕ) → (at ≡ 6 → ⊥) → event_at (stage.Machine c m) at ≡ none
  machine_holds c m zero differs = refl
  machine_holds c m (suc zero) differs = refl
  machine_holds c m (suc (suc zero)) differs = refl
  machine_holds c m (suc (suc (suc zero))) differs = refl
  machine_holds c m (suc (suc (suc (suc zero)))) differs = refl
  machine_holds c m (suc (suc (suc (suc (suc zero))))) differs = refl
  machine_holds c m (suc (suc (suc (suc (suc (suc zero)))))) differs = absurd (differs refl)
  machine_holds c m (suc (suc (suc (suc (suc (suc (suc k))))))) differs = zeros 57 k

  filler_holds : (c : FillerAt) (m : FillerOf) (at : ℕ) → (at ≡ 1 → ⊥) → event_at (stage.Filler c m) at ≡ none
  filler_holds c m zero differs = refl
  filler_holds c m (suc zero) differs = absurd (differs refl)
  filler_holds c m (suc (suc zero)) differs = refl
  filler_holds c m (suc (suc (suc zero))) differs = refl
  filler_holds c m (suc (suc (suc (suc k)))) differs = zeros 60 k

  chief_holds : (c : ChiefAt) (m : ChiefOf) (at : ℕ) → event_at (stage.Chief c m) at ≡ none
  chief_holds c m zero = refl
  chief_holds c m (suc zero) = refl
  chief_holds c m (suc (suc k)) = zeros 62 k

  holds_by : (s : Stage) (at : ℕ) (one : Bool) → (at == 1) ≡ one → (six : Bool) → (at == 6) ≡ six → event_at s at ≡ stage_holds s at
  holds_by (stage.Breaker c m) at true is six _ = rw (eqb-true at 1 is) refl
  holds_by (stage.Breaker c m) at false is six _ = rw is (breaker_holds c m at (eqb-false at 1 is))
  holds_by (stage.Machine c m) at one _ true is = rw (eqb-true at 6 is) refl
  holds_by (stage.Machine c m) at one _ false is = rw is (machine_holds c m at (eqb-false at 6 is))
  holds_by (stage.Filler c m) at true is six _ = rw (eqb-true at 1 is) refl
  holds_by (stage.Filler c m) at false is six _ = rw is (filler_holds c m at (eqb-false at 1 is))
  holds_by (stage.Chief c m) at one _ six _ = chief_holds c m at

  pub holds_is : (s : Stage) (at : ℕ) → event_at s at ≡ stage_holds s at
  holds_is s at = holds_by s at (at == 1) refl (at == 6) refl

  pub breaker_rest : (c : BreakerAt) (m : BreakerOf) (at : ℕ) → 2 ≤ at → event_at (stage.Breaker c m) at ≡ none
  breaker_rest c m at past = breaker_holds c m at (λ is. omega (arith, past, is))

  pub machine_rest : (c : MachineAt) (m : MachineOf) (at : ℕ) → 7 ≤ at → event_at (stage.Machine c m) at ≡ none
  machine_rest c m at past = machine_holds c m at (λ is. omega (arith, past, is))

  pub filler_rest : (c : FillerAt) (m : FillerOf) (at : ℕ) → 2 ≤ at → event_at (stage.Filler c m) at ≡ none
  filler_rest c m at past = filler_holds c m at (λ is. omega (arith, past, is))

  pub chief_rest : (c : ChiefAt) (m : ChiefOf) (at : ℕ) → 0 ≤ at → event_at (stage.Chief c m) at ≡ none
  chief_rest c m at past = chief_holds c m at

  -- a process that gets its number
  pub numbered : (s : Stage) (id : ProcId) → script_of n id val s ≡ record (script_of n me val s) { me = id }
  numbered (stage.Breaker c m) id = refl
  numbered (stage.Machine c m) id = refl
  numbered (stage.Filler c m) id = refl
  numbered (stage.Chief c m) id = refl

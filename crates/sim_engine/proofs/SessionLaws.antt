-- What a session keeps as it opens, as something arrives, and as it counts a line.
use Rattle.std.proofs.Common.{◌≡◌, ◌<◌, ◌≤ℤ◌, ◌*◌, ◌^◌, ℕ, ◌+◌, ℤ, pos, ◌+ℤ◌, List, [], ◌∷◌, length, w64, FitsSigned, to_z, of_z, true, false, refl, sym, ap, ◌∙◌, arith}
use Rattle.std.specs.Int.{w128}
use Rattle.std.proofs.lemmas.Int.{to_z-of_z, ints}
use Rattle.std.proofs.lemmas.Bool.{false≢true}
use Rattle.sim_types.specs.Scenarios.{ScenarioOf}
use Rattle.sim_types.specs.declared.event.Entry.{Entry}
use Rattle.sim_types.specs.declared.event.ProcId.{ProcId}
use Rattle.sim_types.specs.declared.line.Line.{Line}
use Rattle.sim_types.specs.declared.line.Line.TheVariants as line
use Rattle.sim_machine.specs.State.{Control, Idle, Calling, Active, Over, State}
use Rattle.sim_machine.specs.Runs.{opening, logged, total}
use Rattle.sim_machine.specs.Units.{arrive}
use Rattle.sim_lawful.proofs.Opening.OpeningLaws.{starts_open}
use Rattle.sim_steps_model.specs.PartsOf.{PartsOf, plan_of}
use Rattle.sim_steps_model.specs.Resting.{rest_of, rest_in, can_arrive}
use Rattle.sim_steps_model.specs.StandsFor.{StandsFor, LawfulOf, StandsForOpening, IsLawfulOpening}
use Rattle.sim_kernel.specs.Arriving.{MakesArrival, ArrivesFrom}
use Rattle.sim_script_model.specs.Scripts.{Script}
use Rattle.sim_script_law.specs.ScriptMembers.{script_body}
use Rattle.sim_trace.specs.Texts.{line_text}
use Rattle.sim_engine.specs.Counting.{LogsAtMost}
use Rattle.sim_engine.specs.Sessions.{SessionOf, IsAt, IsSettled, is_busy}
use Rattle.sim_writing.proofs.WrittenUnits.{opens_without_lines, trace_one}
use Rattle.sim_engine.proofs.StepTexts.{text_is}

-- ---- what is counted of a line

-- nothing of one that is no log
pub none_logged : (x : Line) → ((time : ℤ) (p : ProcId) (value : ℤ) → x ≡ line.Log time p value → ⊥) → logged (x ∷ []) ≡ []
none_logged (line.Event time number event outcome priority kind) h = refl
none_logged (line.Log time process value) h = absurd (h time process value refl)
none_logged (line.Arrive after value port) h = refl
none_logged (line.Finish time processed how) h = refl

-- one more number keeps the bounds
pub counted : (units logs : ℕ) (sum value : ℤ) → LogsAtMost units logs sum → logs < units → FitsSigned w64 value → LogsAtMost units (logs + 1) (sum +ℤ value)
counted units logs sum value h less fits =
    let low : pos 0 ≤ℤ (sum +ℤ pos (logs * 2 ^ 63)) = h.low in
    let high : sum ≤ℤ pos (logs * 2 ^ 63) = h.high in
    record {
      few = omega (arith, less);
      low = grind (arith, ints);
      high = grind (arith, ints);
    }

-- and the sum is that of the numbers
pub sum_is : (units logs : ℕ) (sum value wide : ℤ) → LogsAtMost units logs sum → logs < units → units < 2 ^ 32 → FitsSigned w64 value
    → wide ≡ to_z w64 (of_z w64 value) → to_z w128 (of_z w128 (to_z w128 (of_z w128 sum) +ℤ to_z w128 (of_z w128 wide))) ≡ sum +ℤ value
sum_is units logs sum value wide h less few fits is =
    let low : pos 0 ≤ℤ (sum +ℤ pos (logs * 2 ^ 63)) = h.low in
    let high : sum ≤ℤ pos (logs * 2 ^ 63) = h.high in
    let same : wide ≡ value = is ∙ to_z-of_z w64 value fits in
    let sum_fits : FitsSigned w128 sum = grind (arith, ints) in
    let value_fits : FitsSigned w128 value = grind (arith, ints) in
    let both_fit : FitsSigned w128 (sum +ℤ value) = grind (arith, ints) in
    rw (same, to_z-of_z w128 sum sum_fits, to_z-of_z w128 value value_fits) (to_z-of_z w128 (sum +ℤ value) both_fit)

-- ---- where nothing is being done

idle_is_free : (agenda : List Entry) → is_busy (rest_of Idle agenda) ≡ false
idle_is_free [] = refl
idle_is_free (x ∷ agenda) = refl

pub idle_settles : (x : SessionOf) → x.parts.control ≡ Idle → IsSettled x
idle_settles x idle busy =
    let free : is_busy (rest_in x.parts) ≡ false = ap (λ c. is_busy (rest_of c x.parts.shared.happen.agenda)) idle ∙ idle_is_free x.parts.shared.happen.agenda in
    absurd (false≢true (sym free ∙ busy))

-- where something may arrive
pub arrives_idle : (c : Control) (agenda : List Entry) → can_arrive (rest_of c agenda) ≡ true → c ≡ Idle
arrives_idle Idle agenda h = refl
arrives_idle (Calling event left) agenda h = absurd (false≢true h)
arrives_idle (Active event left process told) agenda h = absurd (false≢true h)
arrives_idle (Over why event left) agenda h = absurd (false≢true h)

-- ---- a session opens

pub opens_at : (x : SessionOf) → StandsForOpening script_body x.parts → IsLawfulOpening script_body x.parts → x.logs ≡ 0 → x.total ≡ pos 0
    → IsAt x (opening (plan_of script_body x.parts))
opens_at x stands lawful logs sum =
    let g = plan_of script_body x.parts in
    let none : (opening g).lines ≡ [] = opens_without_lines g in
    record {
      stands = stands;
      lawful = lawful;
      logs = logs ∙ sym (ap (λ ls. length (logged ls)) none);
      total = sum ∙ sym (ap (λ ls. total (logged ls)) none);
    }

pub opens_idle : (parts : PartsOf Script ScenarioOf) → StandsForOpening script_body parts → parts.control ≡ Idle
opens_idle parts stands = stands.control ∙ (starts_open (plan_of script_body parts)).idle

-- ---- something arrives

module _ (old new : PartsOf Script ScenarioOf) (port : ℕ) (value : ℤ) (x : Line) (t : State Script)
    (stands : StandsFor old t) (lawful : LawfulOf script_body old t) (makes : MakesArrival script_body port value old x new) where
  arrived : ArrivesFrom script_body port value old t x new
  arrived = makes.each t lawful stands

  -- nothing is being done then
  pub arrived_idle : can_arrive (rest_in old) ≡ true → new.control ≡ Idle
  arrived_idle can = arrived.stands.control ∙ (sym stands.control ∙ arrives_idle old.control old.shared.happen.agenda can)

  -- the line says what arrived
  pub arrived_text : (ports : List (List ℕ)) → line_text ports x ≡ line_text ports (line.Arrive old.processed value port)
  arrived_text ports =
      let u : State Script = arrive (plan_of script_body old) port value t in
      let told : Line = line.Arrive t.processed value port in
      sym (text_is ports t u (x ∷ []) arrived.lines ∙ trace_one ports x)
      ∙ (text_is ports t u (told ∷ []) refl ∙ trace_one ports told)
      ∙ ap (λ n. line_text ports (line.Arrive n value port)) (sym stands.processed)

-- Several polls at once of a process of the machine shop.
use Rattle.std.proofs.Common.{◌≡◌, ◌<◌, ◌≤◌, ℕ, zero, suc, ℤ, pos, false, refl, sym, ap, ◌∙◌, arith}
use Rattle.sim_types.specs.Scenarios.{ScenarioOf}
use Rattle.sim_types.specs.declared.event.ProcId.{ProcId}
use Rattle.sim_types.specs.declared.event.Signal.{Signal}
use Rattle.sim_types.specs.declared.event.Signal.TheVariants as signal
use Rattle.sim_types.specs.declared.op.Op.{Op}
use Rattle.sim_types.specs.declared.op.Op.TheVariants as op
use Rattle.sim_procs.specs.Premises.{CanBeTold}
use Rattle.sim_procs.specs.QuietPolls.{QuietPolls, told_after}
use Rattle.sim_script_model.specs.Arithmetic.{is_equal}
use Rattle.sim_script_model.specs.Scripts.{Script}
use Rattle.sim_script_law.specs.ScriptMembers.{script_body}
use Rattle.sim_script.proofs.Polling.{turn_of_code, done_can_be_told}
use Rattle.sim_models.specs.Shop.{shop_of}
use Rattle.sim_native.specs.ShopMembers.{MachineOf, FillerOf}
use Rattle.sim_native.specs.declared.shop.machine.MachineAt.{MachineAt}
use Rattle.sim_native.specs.declared.shop.machine.MachineAt.TheVariants as machine
use Rattle.sim_native.specs.declared.shop.filler.FillerAt.TheVariants as filler
use Rattle.sim_native.specs.declared.shop.Stage.{Stage}
use Rattle.sim_native.specs.declared.shop.Stage.TheVariants as stage
use Rattle.sim_native.specs.ShopStages.{script_of}
use Rattle.sim_native.specs.ShopTurns.{Hurries, PassesStages, shop_turn}
use Rattle.sim_native.specs.Told.{value_by}
use Rattle.sim_native.proofs.ShopPolls.{stood}
use Rattle.sim_native.proofs.ShopScripts.{shop_is_script}

-- ---- the stages that are passed at once

module _ (n : ℕ) (me : ProcId) (now : ℤ) (told : Signal) where
  -- one stage more
  further : (count : ℕ) (old mid new : Stage) → PassesStages n me now told count old mid
      → shop_turn n me now mid (told_after count told) ≡ (op.Nop, new) → PassesStages n me now told (suc count) old new
  further count old mid new before after = record { between = mid; before = before; after = after }

  first_on : (old new : Stage) → shop_turn n me now old told ≡ (op.Nop, new) → PassesStages n me now told 1 old new
  first_on old new on = further 0 old old new refl on

  -- a machine looks, and something is left: it goes on with its part
  goes_on : (count : ℕ) (old : Stage) (m : MachineOf) → is_equal m.left (pos 0) ≡ false
      → PassesStages n me now told (suc count) old (stage.Machine machine.Looks m)
      → PassesStages n me now told (suc (suc (suc (suc (suc count))))) old (stage.Machine machine.Ready (record m { since = now }))
  goes_on count old m some before =
      let at : MachineAt → Stage = λ k. stage.Machine k m in
      let some_left = further (suc count) old (at machine.Looks) (at machine.SomeLeft) before (rw some refl) in
      let goes = further (suc (suc count)) old (at machine.SomeLeft) (at machine.GoesOn) some_left refl in
      let noted = stage.Machine machine.NotedTime (record m { since = now }) in
      let notes = further (suc (suc (suc count))) old (at machine.GoesOn) noted goes refl in
      further (suc (suc (suc (suc count)))) old noted (stage.Machine machine.Ready (record m { since = now })) notes refl

  -- it looks again after two stages more
  looks_again : (old : Stage) (at : MachineAt) (m : MachineOf) → PassesStages n me now told 1 old (stage.Machine at m)
      → shop_turn n me now (stage.Machine at m) signal.Done ≡ (op.Nop, stage.Machine machine.PastTry m)
      → PassesStages n me now told 3 old (stage.Machine machine.Looks m)
  looks_again old at m before over =
      let past = stage.Machine machine.PastTry m in
      further 2 old past (stage.Machine machine.Looks m) (further 1 old (stage.Machine at m) past before over) refl

-- a machine that said its number makes the next part
pub said_hurries : (now : ℤ) (m : MachineOf) → Hurries now signal.Done 1 (stage.Machine machine.SaidNumber m) (stage.Machine machine.NextPart m)
said_hurries now m n me = first_on n me now signal.Done (stage.Machine machine.SaidNumber m) (stage.Machine machine.NextPart m) refl

-- one that drew how long a part takes goes on until it works on that
pub drew_hurries : (now : ℤ) (m : MachineOf) (left : ℤ) → is_equal left (pos 0) ≡ false
    → Hurries now (signal.Number left) 5 (stage.Machine machine.Draws m) (stage.Machine machine.Ready (record m { left = left; since = now }))
drew_hurries now m left some n me =
    let told = signal.Number left in
    let drew = record m { left = left } in
    let first = stage.Machine machine.Draws m in
    goes_on n me now told 0 first drew some (first_on n me now told first (stage.Machine machine.Looks drew) refl)

-- one that worked to the end of its part goes on until it says so
pub worked_hurries : (now : ℤ) (m : MachineOf) (v : ℤ)
    → Hurries now (signal.Value v) 6 (stage.Machine machine.Works m) (stage.Machine machine.PartMade (record m { left = pos 0 }))
worked_hurries now m v n me =
    let told = signal.Value v in
    let first = stage.Machine machine.Works m in
    let at : MachineAt → Stage = λ k. stage.Machine k (record m { left = pos 0 }) in
    let finished = first_on n me now told first (at machine.Finished) refl in
    let looks = looks_again n me now told first machine.Finished (record m { left = pos 0 }) finished refl in
    let none_left = further n me now told 3 first (at machine.Looks) (at machine.NoneLeft) looks refl in
    let leaves = further n me now told 4 first (at machine.NoneLeft) (at machine.LeavesLoop) none_left refl in
    further n me now told 5 first (at machine.LeavesLoop) (at machine.PartMade) leaves refl

-- one that was mended goes on with what is left of its part
pub mended_hurries : (now : ℤ) (m : MachineOf) → is_equal m.left (pos 0) ≡ false
    → Hurries now signal.Done 7 (stage.Machine machine.CrewLeft m) (stage.Machine machine.Ready (record m { since = now }))
mended_hurries now m some n me =
    let first = stage.Machine machine.CrewLeft m in
    let over = first_on n me now signal.Done first (stage.Machine machine.Over m) refl in
    goes_on n me now signal.Done 2 first m some (looks_again n me now signal.Done first machine.Over m over refl)

-- a filler that let its crew go goes on until it wants one again
pub filler_hurries : (now : ℤ) (m : FillerOf)
    → Hurries now signal.Done 3 (stage.Filler filler.CrewLeft m) (stage.Filler filler.WantsCrew m)
filler_hurries now m n me =
    let told = signal.Done in
    let first = stage.Filler filler.CrewLeft m in
    let past = stage.Filler filler.PastTry m in
    let loops = stage.Filler filler.Loops m in
    let passed = further n me now told 1 first past loops (first_on n me now told first past refl) refl in
    further n me now told 2 first loops (stage.Filler filler.WantsCrew m) passed refl

-- ---- they are polls of its script

scenario_is : (k : ℕ) (me : ProcId) (val : ℤ) (s : Stage) → (script_of k me val s).scenario ≡ shop_of k
scenario_is k me val (stage.Breaker at m) = refl
scenario_is k me val (stage.Machine at m) = refl
scenario_is k me val (stage.Filler at m) = refl
scenario_is k me val (stage.Chief at m) = refl

-- the value that it was told last, after so many polls
abbrev pub val_after : ℕ → Signal → ℤ → ℤ
val_after zero told val = val
val_after (suc count) told val = value_by told val

pub val_after_some : (count : ℕ) (told : Signal) (val : ℤ) → 0 < count → val_after count told val ≡ value_by told val
val_after_some zero told val some = absurd (omega (arith, some))
val_after_some (suc count) told val some = refl

val_kept : (count : ℕ) (told : Signal) (val : ℤ) → value_by (told_after count told) (val_after count told val) ≡ value_by told val
val_kept zero told val = refl
val_kept (suc count) told val = refl

module _ (x : ScenarioOf) (k : ℕ) (me : ProcId) (val time : ℤ) (told : Signal) where
  abbrev stands : ℕ → Stage → Script
  stands count s = script_of k me (val_after count told val) s

  pub record Hurried (count : ℕ) (old new : Stage) : Type 0 where
    pub polls : QuietPolls script_body x time told count (stands 0 old) (stands count new)
    pub can : CanBeTold script_body x (stands count new) (told_after count told)

  pub stages_are_polls : (count : ℕ) (old new : Stage) → PassesStages k me time told count old new
      → CanBeTold script_body x (stands 0 old) told → Hurried count old new
  stages_are_polls zero old new same can = record { polls = ap (stands 0) same; can = rw same can }
  stages_are_polls (suc count) old new h can =
      let mid = h.between in
      let now_told = told_after count told in
      let now_val = val_after count told val in
      let before = stages_are_polls count old mid h.before can in
      let turns = ap (stood k me now_val now_told) (sym h.after) ∙ sym (shop_is_script k k me time now_val mid now_told before.can.told) in
      let code = ap (λ s. s.code) (sym (scenario_is k me now_val mid) ∙ before.can.sound.scenario) in
      let by_code = turn_of_code x (stands count mid) now_told (shop_of k).code code in
      let turned = by_code time op.Nop (stands (suc count) new) (rw (val_kept count told val) at turns) in
      record {
        polls = record { between = stands count mid; before = before.polls; after = turned };
        can = done_can_be_told x (stands count mid) time now_told (stands (suc count) new) before.can turned;
      }

-- after polls in a row in which it asked for nothing it can be told what is next
pub can_be_told_on : (x : ScenarioOf) (time : ℤ) (told : Signal) (count : ℕ) (old new : Script) → QuietPolls script_body x time told count old new
    → CanBeTold script_body x old told → CanBeTold script_body x new (told_after count told)
can_be_told_on x time told zero old new same can = rw same can
can_be_told_on x time told (suc count) old new h can =
    let before = can_be_told_on x time told count old h.between h.before can in
    done_can_be_told x h.between time (told_after count told) new before h.after

pub told_after_some : (count : ℕ) (told : Signal) → 0 < count → told_after count told ≡ signal.Done
told_after_some zero told some = absurd (omega (arith, some))
told_after_some (suc count) told some = refl

pub told_after_none : (count : ℕ) (told : Signal) → count ≤ 0 → told_after count told ≡ told
told_after_none zero told none = refl
told_after_none (suc count) told none = absurd (omega (arith, none))

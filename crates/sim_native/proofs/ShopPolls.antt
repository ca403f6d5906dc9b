-- The script that a process of the machine shop stands for after a poll, and polls in a row.
use Rattle.std.proofs.Common.{◌≡◌, ℕ, ◌+◌, ℤ, sym, ap, add-one}
use Rattle.std.specs.Prelude.{Bool, IsTrue, if◌then◌else◌}
use Rattle.sim_types.specs.Throws.{overflow}
use Rattle.sim_types.specs.Scenarios.{ScenarioOf}
use Rattle.sim_types.specs.declared.event.ProcId.{ProcId}
use Rattle.sim_types.specs.declared.event.Signal.{Signal}
use Rattle.sim_types.specs.declared.op.Op.{Op}
use Rattle.sim_machine.specs.MayFollow.{may_be_told}
use Rattle.sim_procs.specs.QuietPolls.{Polls, QuietPolls, told_after}
use Rattle.sim_script_model.specs.Arithmetic.{Answer, Number, Error}
use Rattle.sim_script_model.specs.Polls.{script_turn}
use Rattle.sim_script_model.specs.Scripts.{Script}
use Rattle.sim_script_law.specs.ScriptMembers.{script_body}
use Rattle.sim_script.proofs.Polling.{turn_of_code}
use Rattle.sim_models.specs.Shop.{shop_of}
use Rattle.sim_native.specs.declared.shop.Stage.{Stage}
use Rattle.sim_native.specs.ShopStages.{script_of}
use Rattle.sim_native.specs.Told.{value_by}

-- what a number that fits comes to, and one that does not
abbrev pub by_range : Bool → ℤ → Answer
by_range fits n = if fits then Number n else Error overflow

-- a process that asked for this, stands so, and was told this
abbrev pub stood : ℕ → ProcId → ℤ → Signal → Op × Stage → Op × Script
stood k me val told r = (r.0, script_of k me (value_by told val) r.1)

-- in a shop of n machines, where a process stands so and may be told this, the script has this turn
abbrev pub Turns : ℕ → ℕ → ProcId → ℤ → ℤ → Stage → Signal → Op × Stage → Type 0
Turns n k me time val s told r =
    IsTrue (may_be_told (script_of k me val s).asked told) → script_turn (shop_of n).code (script_of k me val s) time told ≡ stood k me val told r

-- behind so many polls in which it asked for nothing, one more
pub polls_on : (x : ScenarioOf) (n : ℕ) → x ≡ shop_of n → (t time : ℤ) → t ≡ time
    → (first : Signal) (quiet : ℕ) (told : Signal) → told ≡ told_after quiet first
    → (old mid : Script) (asked : Op) (new : Script) → QuietPolls script_body x t first quiet old mid
    → ◌≡◌ {A = Op × Script} (asked, new) (script_turn (shop_of n).code mid t told) → Polls script_body x time first (quiet + 1) old asked new
polls_on x n is t time same first quiet told stands old mid asked new polls turns =
    let turned = turn_of_code x mid told (shop_of n).code (ap (λ s. s.code) (sym is)) t asked new turns in
    rw (← same, add-one) (record { between = mid; before = polls; after = rw stands at turned })

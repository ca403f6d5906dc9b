-- A process of the machine shop asks for what its script asks for, and then stands for the script as it is then.
use Rattle.std.proofs.Common.{◌≡◌, ℕ, ℤ, sym, ap, ◌∙◌}
use Rattle.std.specs.Prelude.{IsTrue}
use Rattle.sim_types.specs.declared.event.ProcId.{ProcId}
use Rattle.sim_types.specs.declared.event.Signal.{Signal}
use Rattle.sim_types.specs.declared.op.Op.{Op}
use Rattle.sim_machine.specs.MayFollow.{may_be_told}
use Rattle.sim_script_model.specs.Polls.{script_turn}
use Rattle.sim_script_model.specs.Scripts.{Script}
use Rattle.sim_models.specs.Shop.{shop_of}
use Rattle.sim_native.specs.declared.shop.Stage.{Stage}
use Rattle.sim_native.specs.declared.shop.Stage.TheVariants as stage
use Rattle.sim_native.specs.ShopStages.{script_of}
use Rattle.sim_native.specs.ShopTurns.{shop_turn}
use Rattle.sim_native.specs.Told.{value_by}
use Rattle.sim_native.proofs.ShopPolls.{Turns, stood}
use Rattle.sim_native.proofs.BreakerScripts.{breaker_is_script}
use Rattle.sim_native.proofs.MachineScripts.{machine_is_script}
use Rattle.sim_native.proofs.FillerScripts.{filler_is_script}
use Rattle.sim_native.proofs.ChiefScripts.{chief_is_script}

module _ (n k : ℕ) (me : ProcId) (time : ℤ) where
  pub shop_is_script : (val : ℤ) (s : Stage) (told : Signal) → Turns n k me time val s told (shop_turn n me time s told)
  shop_is_script val (stage.Breaker at m) told may = breaker_is_script n k me time val m at told may
  shop_is_script val (stage.Machine at m) told may = machine_is_script n k me time val m at told may
  shop_is_script val (stage.Filler at m) told may = filler_is_script n k me time val m at told may
  shop_is_script val (stage.Chief at m) told may = chief_is_script n k me time val m at told may

  -- the same as contracts say it
  pub turned : (val : ℤ) (s : Stage) (told : Signal) → IsTrue (may_be_told (script_of k me val s).asked told)
      → (b : Script) → b ≡ script_of k me val s → (r : Op × Stage) → r ≡ shop_turn n me time s told
      → (v : ℤ) → v ≡ value_by told val → ◌≡◌ {A = Op × Script} (r.0, script_of k me v r.1) (script_turn (shop_of n).code b time told)
  turned val s told may b stands r turns v is =
      rw (stands, is) (ap (stood k me val told) turns ∙ sym (shop_is_script val s told may))

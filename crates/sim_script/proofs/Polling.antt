-- A script is polled as the body of a process.
use Rattle.std.proofs.Common.{◌≡◌, ℕ, zero, suc, ◌+◌, ℤ, List, refl, ap, ◌∙◌, add-one, w64, to_z, of_z, FitsSigned, IsTrue}
use Rattle.std.proofs.lemmas.Int.{to_z-of_z}
use Rattle.sim_types.specs.Scenarios.{ScenarioOf}
use Rattle.sim_types.specs.declared.event.Signal.{Signal}
use Rattle.sim_types.specs.declared.event.Signal.TheVariants as signal
use Rattle.sim_types.specs.declared.op.Op.{Op}
use Rattle.sim_types.specs.declared.op.Op.TheVariants as op
use Rattle.sim_types.specs.declared.script.Stmt.{Stmt}
use Rattle.sim_procs.specs.Premises.{CanBeTold}
use Rattle.sim_procs.specs.QuietPolls.{Polls}
use Rattle.sim_script_model.specs.Scripts.{Script}
use Rattle.sim_script_model.specs.Polls.{take_in, script_turn}
use Rattle.sim_script_law.specs.Ready.{can_take, can_ask}
use Rattle.sim_script_law.specs.ScriptMembers.{IsScriptTurn, script_body}
use Rattle.sim_script_law.proofs.Laws.Readiness.{ready_to_take, ready_to_ask}
use Rattle.sim_script_law.proofs.Laws.ScriptLaw.{script_lawful}

module _ (x : ScenarioOf) (b : Script) (told : Signal) (code : List Stmt) (is : code ≡ x.code) where
  -- it can take in what it may be told
  pub ready_by_code : CanBeTold script_body x b told → IsTrue (can_take code told b)
  ready_by_code can = ap (λ c. can_take c told b) is ∙ ready_to_take x b told can.sound can.told can.bound

  -- and can ask then
  pub asks_by_code : CanBeTold script_body x b told → IsTrue (can_ask code (take_in code told b))
  asks_by_code can = ap (λ c. can_ask c (take_in c told b)) is ∙ ready_to_ask x b told can.sound can.told

  -- its turn by this code is one of a body
  pub turn_of_code : (time : ℤ) (asked : Op) (d : Script) → ◌≡◌ {A = Op × Script} (asked, d) (script_turn code b time told)
      → IsScriptTurn x b time told asked d
  turn_of_code time asked d turned =
      let whole = turned ∙ ap (λ c. script_turn c b time told) is in
      (ap (λ (r : Op × Script). r.0) whole, ap (λ (r : Op × Script). r.1) whole)

  -- the same at a time as the code has it
  pub turn_by_code : (time : ℤ) (asked : Op) (d : Script) → FitsSigned w64 time
      → ◌≡◌ {A = Op × Script} (asked, d) (script_turn code b (to_z w64 (of_z w64 time)) told) → IsScriptTurn x b time told asked d
  turn_by_code time asked d fits turned =
      turn_of_code time asked d (turned ∙ ap (λ (t : ℤ). script_turn code b t told) (to_z-of_z w64 time fits))

-- ---- polls in a row

-- a script that has asked for nothing can be told next that this is done
pub done_can_be_told : (x : ScenarioOf) (b : Script) (time : ℤ) (told : Signal) (d : Script) → CanBeTold script_body x b told
    → IsScriptTurn x b time told op.Nop d → CanBeTold script_body x d signal.Done
done_can_be_told x b time told d can turned =
    let law = script_lawful x in
    record {
      sound = law.keeps b time told op.Nop d can.sound can.told turned;
      told = rw (law.polls b time told op.Nop d can.sound can.told turned).last refl;
      bound = refl;
    }

-- behind polls in a row in which it asks for nothing one more, in which it is told that the one before is done
pub one_poll_more : (x : ScenarioOf) (time : ℤ) (told : Signal) (n : ℕ) (b mid : Script) (asked : Op) (d : Script)
    → Polls script_body x time told n b op.Nop mid → IsScriptTurn x mid time signal.Done asked d → Polls script_body x time told (n + 1) b asked d
one_poll_more x time told zero b mid asked d polls turned = absurd polls
one_poll_more x time told (suc n) b mid asked d polls turned = rw add-one (record { between = mid; before = polls; after = turned })

-- A process of the bank asks for what the script asks for, and then stands for the script as it is then.
use Rattle.std.proofs.Common.{◌≡◌, ◌∷◌, [], ◌-ℤ◌, ℤ, pos, Bool, true, false, refl, sym, ap, ◌∙◌}
use Rattle.std.specs.Prelude.{IsTrue, int_lt, if◌then◌else◌}
use Rattle.sim_types.specs.declared.event.ProcId.{ProcId}
use Rattle.sim_types.specs.declared.event.Signal.{Signal}
use Rattle.sim_types.specs.declared.event.Signal.TheVariants as signal
use Rattle.sim_types.specs.declared.op.Op.{Op}
use Rattle.sim_types.specs.declared.op.Op.TheVariants as op
use Rattle.sim_machine.specs.MayFollow.{may_be_told}
use Rattle.sim_script_model.specs.Arithmetic.{is_equal}
use Rattle.sim_script_model.specs.Polls.{remember, script_turn}
use Rattle.sim_script_model.specs.Scripts.{InRepeat, Script, set_frames, set_place}
use Rattle.sim_models.specs.Bank.{bank}
use Rattle.sim_types.specs.Scenarios.{ScenarioOf}
use Rattle.sim_script_law.specs.ScriptMembers.{IsScriptTurn}
use Rattle.sim_native.specs.declared.bank.CustomerAt.TheVariants as customer
use Rattle.sim_native.specs.declared.bank.CustomerSpot.TheVariants as spot
use Rattle.sim_native.specs.declared.bank.Held.{Held}
use Rattle.sim_native.specs.declared.bank.SourceAt.TheVariants as source
use Rattle.sim_native.specs.declared.bank.SourceSpot.TheVariants as there
use Rattle.sim_native.specs.declared.bank.Stage.{Stage}
use Rattle.sim_native.specs.declared.bank.Stage.TheVariants as stage
use Rattle.sim_native.specs.BankStages.{SpentOf, script_of}
use Rattle.sim_native.specs.BankTurns.{bank_turn, called_or_not, source_counted, spent_by}

module _ (me : ProcId) (time : ℤ) where
  -- the script that a process stands for after this
  abbrev stood : SpentOf → Signal → Stage → Op × Stage → Op × Script
  stood was told s r = (r.0, script_of me (spent_by s told was) r.1)

  -- whether it has the counter or not
  looked : (was : SpentOf) (held : Held) (called : ℤ) (not : Bool)
      → let b = set_place 6 (script_of me (record was { called = called }) (stage.Customer held customer.Woken)) in
      remember (op.Nop, if not then set_place 10 b else b)
      ≡ (op.Nop, script_of me (record was { called = called }) (stage.Customer held (called_or_not not)))
  looked was held called true = refl
  looked was held called false = refl

  -- whether more than one customer is left or not
  counted : (was : SpentOf) (left : ℤ) (more : Bool)
      → let b = set_place 20 (script_of me was (stage.Source (source.Sent left))) in
      remember (op.Nop, if more then set_place 15 (set_frames (InRepeat (left -ℤ pos 1) 20 ∷ []) b) else set_frames [] b)
      ≡ (op.Nop, script_of me was (stage.Source (source_counted left more)))
  counted was left true = refl
  counted was left false = refl

  pub bank_is_script : (was : SpentOf) (s : Stage) (told : Signal) → IsTrue (may_be_told (script_of me was s).asked told)
      → script_turn bank.code (script_of me was s) time told ≡ stood was told s (bank_turn s told)
  bank_is_script was (stage.Customer held (customer.Came p)) signal.Begin may = refl
  bank_is_script was (stage.Customer held (customer.Came p)) signal.Done may = absurd (cc)
  bank_is_script was (stage.Customer held (customer.Came p)) (signal.Value v) may = refl
  bank_is_script was (stage.Customer held (customer.Came p)) (signal.Thrown t) may = refl
  bank_is_script was (stage.Customer held (customer.Came p)) (signal.Raised n) may = absurd (cc)
  bank_is_script was (stage.Customer held (customer.Came p)) (signal.Number n) may = absurd (cc)
  bank_is_script was (stage.Customer held (customer.Came p)) (signal.Made e) may = absurd (cc)
  bank_is_script was (stage.Customer held (customer.Asked p)) signal.Begin may = absurd (cc)
  bank_is_script was (stage.Customer held (customer.Asked p)) signal.Done may = absurd (cc)
  bank_is_script was (stage.Customer held (customer.Asked p)) (signal.Value v) may = absurd (cc)
  bank_is_script was (stage.Customer held (customer.Asked p)) (signal.Thrown t) may = absurd (cc)
  bank_is_script was (stage.Customer held (customer.Asked p)) (signal.Raised n) may = refl
  bank_is_script was (stage.Customer held (customer.Asked p)) (signal.Number n) may = absurd (cc)
  bank_is_script was (stage.Customer held (customer.Asked p)) (signal.Made e) may = refl
  bank_is_script was (stage.Customer held customer.Timed) signal.Begin may = absurd (cc)
  bank_is_script was (stage.Customer held customer.Timed) signal.Done may = absurd (cc)
  bank_is_script was (stage.Customer held customer.Timed) (signal.Value v) may = absurd (cc)
  bank_is_script was (stage.Customer held customer.Timed) (signal.Thrown t) may = absurd (cc)
  bank_is_script was (stage.Customer held customer.Timed) (signal.Raised n) may = refl
  bank_is_script was (stage.Customer held customer.Timed) (signal.Number n) may = absurd (cc)
  bank_is_script was (stage.Customer held customer.Timed) (signal.Made e) may = refl
  bank_is_script was (stage.Customer held customer.Either) signal.Begin may = absurd (cc)
  bank_is_script was (stage.Customer held customer.Either) signal.Done may = absurd (cc)
  bank_is_script was (stage.Customer held customer.Either) (signal.Value v) may = absurd (cc)
  bank_is_script was (stage.Customer held customer.Either) (signal.Thrown t) may = absurd (cc)
  bank_is_script was (stage.Customer held customer.Either) (signal.Raised n) may = refl
  bank_is_script was (stage.Customer held customer.Either) (signal.Number n) may = absurd (cc)
  bank_is_script was (stage.Customer held customer.Either) (signal.Made e) may = refl
  bank_is_script was (stage.Customer held customer.Queued) signal.Begin may = refl
  bank_is_script was (stage.Customer held customer.Queued) signal.Done may = absurd (cc)
  bank_is_script was (stage.Customer held customer.Queued) (signal.Value v) may = refl
  bank_is_script was (stage.Customer held customer.Queued) (signal.Thrown t) may = refl
  bank_is_script was (stage.Customer held customer.Queued) (signal.Raised n) may = absurd (cc)
  bank_is_script was (stage.Customer held customer.Queued) (signal.Number n) may = absurd (cc)
  bank_is_script was (stage.Customer held customer.Queued) (signal.Made e) may = absurd (cc)
  bank_is_script was (stage.Customer held customer.Woken) signal.Begin may = absurd (cc)
  bank_is_script was (stage.Customer held customer.Woken) signal.Done may = absurd (cc)
  bank_is_script was (stage.Customer held customer.Woken) (signal.Value v) may = absurd (cc)
  bank_is_script was (stage.Customer held customer.Woken) (signal.Thrown t) may = absurd (cc)
  bank_is_script was (stage.Customer held customer.Woken) (signal.Raised n) may = absurd (cc)
  bank_is_script was (stage.Customer held customer.Woken) (signal.Number n) may = looked was held n (is_equal n (pos 0))
  bank_is_script was (stage.Customer held customer.Woken) (signal.Made e) may = absurd (cc)
  bank_is_script was (stage.Customer held customer.Called) signal.Begin may = absurd (cc)
  bank_is_script was (stage.Customer held customer.Called) signal.Done may = refl
  bank_is_script was (stage.Customer held customer.Called) (signal.Value v) may = absurd (cc)
  bank_is_script was (stage.Customer held customer.Called) (signal.Thrown t) may = absurd (cc)
  bank_is_script was (stage.Customer held customer.Called) (signal.Raised n) may = absurd (cc)
  bank_is_script was (stage.Customer held customer.Called) (signal.Number n) may = absurd (cc)
  bank_is_script was (stage.Customer held customer.Called) (signal.Made e) may = absurd (cc)
  bank_is_script was (stage.Customer held customer.Draws) signal.Begin may = absurd (cc)
  bank_is_script was (stage.Customer held customer.Draws) signal.Done may = absurd (cc)
  bank_is_script was (stage.Customer held customer.Draws) (signal.Value v) may = absurd (cc)
  bank_is_script was (stage.Customer held customer.Draws) (signal.Thrown t) may = absurd (cc)
  bank_is_script was (stage.Customer held customer.Draws) (signal.Raised n) may = refl
  bank_is_script was (stage.Customer held customer.Draws) (signal.Number n) may = refl
  bank_is_script was (stage.Customer held customer.Draws) (signal.Made e) may = absurd (cc)
  bank_is_script was (stage.Customer held customer.Served) signal.Begin may = refl
  bank_is_script was (stage.Customer held customer.Served) signal.Done may = absurd (cc)
  bank_is_script was (stage.Customer held customer.Served) (signal.Value v) may = refl
  bank_is_script was (stage.Customer held customer.Served) (signal.Thrown t) may = refl
  bank_is_script was (stage.Customer held customer.Served) (signal.Raised n) may = refl
  bank_is_script was (stage.Customer held customer.Served) (signal.Number n) may = absurd (cc)
  bank_is_script was (stage.Customer held customer.Served) (signal.Made e) may = absurd (cc)
  bank_is_script was (stage.Customer held customer.Done) signal.Begin may = absurd (cc)
  bank_is_script was (stage.Customer held customer.Done) signal.Done may = refl
  bank_is_script was (stage.Customer held customer.Done) (signal.Value v) may = absurd (cc)
  bank_is_script was (stage.Customer held customer.Done) (signal.Thrown t) may = absurd (cc)
  bank_is_script was (stage.Customer held customer.Done) (signal.Raised n) may = absurd (cc)
  bank_is_script was (stage.Customer held customer.Done) (signal.Number n) may = absurd (cc)
  bank_is_script was (stage.Customer held customer.Done) (signal.Made e) may = absurd (cc)
  bank_is_script was (stage.Customer held customer.Reneged) signal.Begin may = absurd (cc)
  bank_is_script was (stage.Customer held customer.Reneged) signal.Done may = refl
  bank_is_script was (stage.Customer held customer.Reneged) (signal.Value v) may = absurd (cc)
  bank_is_script was (stage.Customer held customer.Reneged) (signal.Thrown t) may = absurd (cc)
  bank_is_script was (stage.Customer held customer.Reneged) (signal.Raised n) may = absurd (cc)
  bank_is_script was (stage.Customer held customer.Reneged) (signal.Number n) may = absurd (cc)
  bank_is_script was (stage.Customer held customer.Reneged) (signal.Made e) may = absurd (cc)
  bank_is_script was (stage.Customer held customer.Unserved) signal.Begin may = absurd (cc)
  bank_is_script was (stage.Customer held customer.Unserved) signal.Done may = refl
  bank_is_script was (stage.Customer held customer.Unserved) (signal.Value v) may = absurd (cc)
  bank_is_script was (stage.Customer held customer.Unserved) (signal.Thrown t) may = absurd (cc)
  bank_is_script was (stage.Customer held customer.Unserved) (signal.Raised n) may = absurd (cc)
  bank_is_script was (stage.Customer held customer.Unserved) (signal.Number n) may = absurd (cc)
  bank_is_script was (stage.Customer held customer.Unserved) (signal.Made e) may = absurd (cc)
  bank_is_script was (stage.Customer held customer.Leaves) signal.Begin may = absurd (cc)
  bank_is_script was (stage.Customer held customer.Leaves) signal.Done may = refl
  bank_is_script was (stage.Customer held customer.Leaves) (signal.Value v) may = absurd (cc)
  bank_is_script was (stage.Customer held customer.Leaves) (signal.Thrown t) may = absurd (cc)
  bank_is_script was (stage.Customer held customer.Leaves) (signal.Raised n) may = absurd (cc)
  bank_is_script was (stage.Customer held customer.Leaves) (signal.Number n) may = absurd (cc)
  bank_is_script was (stage.Customer held customer.Leaves) (signal.Made e) may = absurd (cc)
  bank_is_script was (stage.Customer held customer.Left) signal.Begin may = absurd (cc)
  bank_is_script was (stage.Customer held customer.Left) signal.Done may = refl
  bank_is_script was (stage.Customer held customer.Left) (signal.Value v) may = absurd (cc)
  bank_is_script was (stage.Customer held customer.Left) (signal.Thrown t) may = absurd (cc)
  bank_is_script was (stage.Customer held customer.Left) (signal.Raised n) may = absurd (cc)
  bank_is_script was (stage.Customer held customer.Left) (signal.Number n) may = absurd (cc)
  bank_is_script was (stage.Customer held customer.Left) (signal.Made e) may = absurd (cc)
  bank_is_script was (stage.Customer held customer.Gone) told may = absurd (cc)
  bank_is_script was (stage.Customer held (customer.Fled at what)) signal.Begin may = absurd (cc)
  bank_is_script was (stage.Customer held (customer.Fled spot.Coming what)) signal.Done may = refl
  bank_is_script was (stage.Customer held (customer.Fled spot.Asking what)) signal.Done may = refl
  bank_is_script was (stage.Customer held (customer.Fled spot.Timing what)) signal.Done may = refl
  bank_is_script was (stage.Customer held (customer.Fled spot.Choosing what)) signal.Done may = refl
  bank_is_script was (stage.Customer held (customer.Fled spot.Queueing what)) signal.Done may = refl
  bank_is_script was (stage.Customer held (customer.Fled spot.Drawing what)) signal.Done may = refl
  bank_is_script was (stage.Customer held (customer.Fled spot.Serving what)) signal.Done may = refl
  bank_is_script was (stage.Customer held (customer.Fled at what)) (signal.Value v) may = absurd (cc)
  bank_is_script was (stage.Customer held (customer.Fled at what)) (signal.Thrown t) may = absurd (cc)
  bank_is_script was (stage.Customer held (customer.Fled at what)) (signal.Raised n) may = absurd (cc)
  bank_is_script was (stage.Customer held (customer.Fled at what)) (signal.Number n) may = absurd (cc)
  bank_is_script was (stage.Customer held (customer.Fled at what)) (signal.Made e) may = absurd (cc)
  bank_is_script was (stage.Customer held (customer.Dead at what)) told may = absurd (cc)
  bank_is_script was (stage.Source source.Opens) signal.Begin may = refl
  bank_is_script was (stage.Source source.Opens) signal.Done may = absurd (cc)
  bank_is_script was (stage.Source source.Opens) (signal.Value v) may = refl
  bank_is_script was (stage.Source source.Opens) (signal.Thrown t) may = refl
  bank_is_script was (stage.Source source.Opens) (signal.Raised n) may = absurd (cc)
  bank_is_script was (stage.Source source.Opens) (signal.Number n) may = absurd (cc)
  bank_is_script was (stage.Source source.Opens) (signal.Made e) may = absurd (cc)
  bank_is_script was (stage.Source (source.Loops left)) signal.Begin may = absurd (cc)
  bank_is_script was (stage.Source (source.Loops left)) signal.Done may = refl
  bank_is_script was (stage.Source (source.Loops left)) (signal.Value v) may = absurd (cc)
  bank_is_script was (stage.Source (source.Loops left)) (signal.Thrown t) may = absurd (cc)
  bank_is_script was (stage.Source (source.Loops left)) (signal.Raised n) may = absurd (cc)
  bank_is_script was (stage.Source (source.Loops left)) (signal.Number n) may = absurd (cc)
  bank_is_script was (stage.Source (source.Loops left)) (signal.Made e) may = absurd (cc)
  bank_is_script was (stage.Source (source.DrawsGap left)) signal.Begin may = absurd (cc)
  bank_is_script was (stage.Source (source.DrawsGap left)) signal.Done may = absurd (cc)
  bank_is_script was (stage.Source (source.DrawsGap left)) (signal.Value v) may = absurd (cc)
  bank_is_script was (stage.Source (source.DrawsGap left)) (signal.Thrown t) may = absurd (cc)
  bank_is_script was (stage.Source (source.DrawsGap left)) (signal.Raised n) may = refl
  bank_is_script was (stage.Source (source.DrawsGap left)) (signal.Number n) may = refl
  bank_is_script was (stage.Source (source.DrawsGap left)) (signal.Made e) may = absurd (cc)
  bank_is_script was (stage.Source (source.Sleeps left)) signal.Begin may = refl
  bank_is_script was (stage.Source (source.Sleeps left)) signal.Done may = absurd (cc)
  bank_is_script was (stage.Source (source.Sleeps left)) (signal.Value v) may = refl
  bank_is_script was (stage.Source (source.Sleeps left)) (signal.Thrown t) may = refl
  bank_is_script was (stage.Source (source.Sleeps left)) (signal.Raised n) may = refl
  bank_is_script was (stage.Source (source.Sleeps left)) (signal.Number n) may = absurd (cc)
  bank_is_script was (stage.Source (source.Sleeps left)) (signal.Made e) may = absurd (cc)
  bank_is_script was (stage.Source (source.DrawsPatience left)) signal.Begin may = absurd (cc)
  bank_is_script was (stage.Source (source.DrawsPatience left)) signal.Done may = absurd (cc)
  bank_is_script was (stage.Source (source.DrawsPatience left)) (signal.Value v) may = absurd (cc)
  bank_is_script was (stage.Source (source.DrawsPatience left)) (signal.Thrown t) may = absurd (cc)
  bank_is_script was (stage.Source (source.DrawsPatience left)) (signal.Raised n) may = refl
  bank_is_script was (stage.Source (source.DrawsPatience left)) (signal.Number n) may = refl
  bank_is_script was (stage.Source (source.DrawsPatience left)) (signal.Made e) may = absurd (cc)
  bank_is_script was (stage.Source (source.Sent left)) signal.Begin may = absurd (cc)
  bank_is_script was (stage.Source (source.Sent left)) signal.Done may = absurd (cc)
  bank_is_script was (stage.Source (source.Sent left)) (signal.Value v) may = absurd (cc)
  bank_is_script was (stage.Source (source.Sent left)) (signal.Thrown t) may = absurd (cc)
  bank_is_script was (stage.Source (source.Sent left)) (signal.Raised n) may = absurd (cc)
  bank_is_script was (stage.Source (source.Sent left)) (signal.Number n) may = absurd (cc)
  bank_is_script was (stage.Source (source.Sent left)) (signal.Made e) may = counted was left (int_lt (pos 1) left)
  bank_is_script was (stage.Source source.Over) signal.Begin may = absurd (cc)
  bank_is_script was (stage.Source source.Over) signal.Done may = refl
  bank_is_script was (stage.Source source.Over) (signal.Value v) may = absurd (cc)
  bank_is_script was (stage.Source source.Over) (signal.Thrown t) may = absurd (cc)
  bank_is_script was (stage.Source source.Over) (signal.Raised n) may = absurd (cc)
  bank_is_script was (stage.Source source.Over) (signal.Number n) may = absurd (cc)
  bank_is_script was (stage.Source source.Over) (signal.Made e) may = absurd (cc)
  bank_is_script was (stage.Source source.Gone) told may = absurd (cc)
  bank_is_script was (stage.Source (source.Struck at what)) signal.Begin may = absurd (cc)
  bank_is_script was (stage.Source (source.Struck there.Opening what)) signal.Done may = refl
  bank_is_script was (stage.Source (source.Struck there.DrawingGap what)) signal.Done may = refl
  bank_is_script was (stage.Source (source.Struck there.Sleeping what)) signal.Done may = refl
  bank_is_script was (stage.Source (source.Struck there.DrawingPatience what)) signal.Done may = refl
  bank_is_script was (stage.Source (source.Struck at what)) (signal.Value v) may = absurd (cc)
  bank_is_script was (stage.Source (source.Struck at what)) (signal.Thrown t) may = absurd (cc)
  bank_is_script was (stage.Source (source.Struck at what)) (signal.Raised n) may = absurd (cc)
  bank_is_script was (stage.Source (source.Struck at what)) (signal.Number n) may = absurd (cc)
  bank_is_script was (stage.Source (source.Struck at what)) (signal.Made e) may = absurd (cc)
  bank_is_script was (stage.Source (source.Dead at what)) told may = absurd (cc)

  -- the same as contracts say it
  pub turned : (was : SpentOf) (s : Stage) (told : Signal) → IsTrue (may_be_told (script_of me was s).asked told) → (x : ScenarioOf) → x ≡ bank
      → (b : Script) → b ≡ script_of me was s → (r : Op × Stage) → r ≡ bank_turn s told → (later : Script)
      → later ≡ script_of me (spent_by s told was) r.1 → IsScriptTurn x b time told r.0 later
  turned was s told may x code b stands r turns later is =
      let w : Op × Script = script_turn bank.code (script_of me was s) time told in
      let same : w ≡ stood was told s r = bank_is_script was s told may ∙ ap (stood was told s) (sym turns) in
      rw (code, stands) (ap (λ (y : Op × Script). y.0) (sym same), is ∙ ap (λ (y : Op × Script). y.1) (sym same))

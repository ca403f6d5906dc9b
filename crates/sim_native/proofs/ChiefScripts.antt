-- The chief asks for what its script asks for, and then stands for the script as it is then.
use Rattle.std.proofs.Common.{◌≡◌, ℕ, ℤ, pos, ◌+ℤ◌, ◌-ℤ◌, Bool, true, false, refl, arith}
use Rattle.std.specs.Prelude.{◌∷◌, [], int_lt, if◌then◌else◌}
use Rattle.sim_types.specs.declared.event.ProcId.{ProcId}
use Rattle.sim_types.specs.declared.event.Signal.{Signal}
use Rattle.sim_types.specs.declared.event.Signal.TheVariants as signal
use Rattle.sim_types.specs.declared.event.EventId.{EventId}
use Rattle.sim_types.specs.declared.op.Op.TheVariants as op
use Rattle.sim_script_model.specs.Arithmetic.{is_int64}
use Rattle.sim_script_model.specs.Polls.{answer_to, remember}
use Rattle.sim_script_model.specs.Scripts.{InRepeat, Script, push_frame, set_frames, set_place}
use Rattle.sim_shop.specs.Shop.{crews_of}
use Rattle.sim_native.specs.ShopMembers.{ChiefOf}
use Rattle.sim_native.specs.declared.shop.chief.ChiefAt.{ChiefAt}
use Rattle.sim_native.specs.declared.shop.chief.ChiefAt.TheVariants as chief
use Rattle.sim_native.specs.declared.shop.Stage.TheVariants as stage
use Rattle.sim_native.specs.ShopStages.{script_of}
use Rattle.sim_native.specs.Told.{value_by}
use Rattle.sim_native.specs.ShopTurns.{chief_counted, chief_turn, of_chief, quiet}
use Rattle.sim_native.proofs.ShopPolls.{Turns, by_range, stood}

-- there is a crew
crews_are_some : (n : ℕ) → int_lt (pos (crews_of n)) (pos 1) ≡ false
crews_are_some n = grind arith

module _ (n k : ℕ) (me : ProcId) (time : ℤ) where
  -- the script of the chief that stands here
  abbrev at_place : ℤ → ChiefAt → ChiefOf → Script
  at_place val at m = script_of k me val (stage.Chief at m)

  began : (val : ℤ) (told : Signal) (m : ChiefOf) (none : Bool) → none ≡ false → let x = set_place 44 (at_place (value_by told val) chief.Starts m) in
      remember (op.Nop, if none then set_place 46 x else push_frame (InRepeat (pos (crews_of n)) 46) x)
      ≡ stood k me val told (of_chief (quiet (chief.NextFiller, record m { count = pos (crews_of n) })))
  began val told m true is = absurd (cc)
  began val told m false is = refl

  -- whether one more is to be started or not
  sent_filler : (val : ℤ) (m : ChiefOf) (e : EventId) (more : Bool) → let x = set_place 46 (at_place val chief.SentFiller m) in
      remember (op.Nop, if more then set_place 44 (set_frames (InRepeat (m.count -ℤ pos 1) 46 ∷ []) x) else set_frames [] x)
      ≡ stood k me val (signal.Made e)
      (of_chief (quiet (if more then (chief.NextFiller, record m { count = m.count -ℤ pos 1 }) else (chief.HasFillers, m))))
  sent_filler val m e true = refl
  sent_filler val m e false = refl

  sent_machine : (val : ℤ) (m : ChiefOf) (more : Bool) → let x = set_place 51 (at_place val chief.Counted m) in
      remember (op.Nop, if more then set_place 48 (set_frames (InRepeat (m.count -ℤ pos 1) 51 ∷ []) x) else set_frames [] x)
      ≡ stood k me val signal.Done
      (of_chief (quiet (if more then (chief.NextMachine, record m { count = m.count -ℤ pos 1 }) else (chief.HasMachines, m))))
  sent_machine val m true = refl
  sent_machine val m false = refl

  -- whether the shop has machines or not
  begun : (val : ℤ) (m : ChiefOf) (none : Bool) → let x = set_place 48 (at_place val chief.Numbers m) in
      remember (op.Nop, if none then set_place 51 x else push_frame (InRepeat (pos n) 51) x)
      ≡ stood k me val signal.Done (of_chief (quiet (if none then (chief.HasMachines, m) else (chief.NextMachine, record m { count = pos n }))))
  begun val m true = refl
  begun val m false = refl

  -- whatever the next number comes to
  counted : (val : ℤ) (m : ChiefOf) (e : EventId) (next : ℤ) (fits : Bool)
      → remember (op.Nop, answer_to 1 (by_range fits next) (set_place 50 (at_place val chief.SentMachine m)))
      ≡ stood k me val (signal.Made e) (of_chief (quiet (chief_counted m (by_range fits next))))
  counted val m e next true = refl
  counted val m e next false = refl

  pub chief_is_script : (val : ℤ) (m : ChiefOf) (at : ChiefAt) (told : Signal)
      → Turns n k me time val (stage.Chief at m) told (of_chief (chief_turn n at m told))
  chief_is_script val m chief.Starts signal.Begin may = began val signal.Begin m (int_lt (pos (crews_of n)) (pos 1)) (crews_are_some n)
  chief_is_script val m chief.Starts signal.Done may = absurd (cc)
  chief_is_script val m chief.Starts (signal.Value v) may = began val (signal.Value v) m (int_lt (pos (crews_of n)) (pos 1)) (crews_are_some n)
  chief_is_script val m chief.Starts (signal.Thrown t) may = refl
  chief_is_script val m chief.Starts (signal.Raised n) may = absurd (cc)
  chief_is_script val m chief.Starts (signal.Number n) may = absurd (cc)
  chief_is_script val m chief.Starts (signal.Made e) may = absurd (cc)
  chief_is_script val m chief.NextFiller signal.Begin may = absurd (cc)
  chief_is_script val m chief.NextFiller signal.Done may = refl
  chief_is_script val m chief.NextFiller (signal.Value v) may = absurd (cc)
  chief_is_script val m chief.NextFiller (signal.Thrown t) may = absurd (cc)
  chief_is_script val m chief.NextFiller (signal.Raised n) may = absurd (cc)
  chief_is_script val m chief.NextFiller (signal.Number n) may = absurd (cc)
  chief_is_script val m chief.NextFiller (signal.Made e) may = absurd (cc)
  chief_is_script val m chief.SentFiller signal.Begin may = absurd (cc)
  chief_is_script val m chief.SentFiller signal.Done may = absurd (cc)
  chief_is_script val m chief.SentFiller (signal.Value v) may = absurd (cc)
  chief_is_script val m chief.SentFiller (signal.Thrown t) may = absurd (cc)
  chief_is_script val m chief.SentFiller (signal.Raised n) may = absurd (cc)
  chief_is_script val m chief.SentFiller (signal.Number n) may = absurd (cc)
  chief_is_script val m chief.SentFiller (signal.Made e) may = sent_filler val m e (int_lt (pos 1) m.count)
  chief_is_script val m chief.HasFillers signal.Begin may = absurd (cc)
  chief_is_script val m chief.HasFillers signal.Done may = refl
  chief_is_script val m chief.HasFillers (signal.Value v) may = absurd (cc)
  chief_is_script val m chief.HasFillers (signal.Thrown t) may = absurd (cc)
  chief_is_script val m chief.HasFillers (signal.Raised n) may = absurd (cc)
  chief_is_script val m chief.HasFillers (signal.Number n) may = absurd (cc)
  chief_is_script val m chief.HasFillers (signal.Made e) may = absurd (cc)
  chief_is_script val m chief.Numbers signal.Begin may = absurd (cc)
  chief_is_script val m chief.Numbers signal.Done may = begun val m (int_lt (pos n) (pos 1))
  chief_is_script val m chief.Numbers (signal.Value v) may = absurd (cc)
  chief_is_script val m chief.Numbers (signal.Thrown t) may = absurd (cc)
  chief_is_script val m chief.Numbers (signal.Raised n) may = absurd (cc)
  chief_is_script val m chief.Numbers (signal.Number n) may = absurd (cc)
  chief_is_script val m chief.Numbers (signal.Made e) may = absurd (cc)
  chief_is_script val m chief.NextMachine signal.Begin may = absurd (cc)
  chief_is_script val m chief.NextMachine signal.Done may = refl
  chief_is_script val m chief.NextMachine (signal.Value v) may = absurd (cc)
  chief_is_script val m chief.NextMachine (signal.Thrown t) may = absurd (cc)
  chief_is_script val m chief.NextMachine (signal.Raised n) may = absurd (cc)
  chief_is_script val m chief.NextMachine (signal.Number n) may = absurd (cc)
  chief_is_script val m chief.NextMachine (signal.Made e) may = absurd (cc)
  chief_is_script val m chief.SentMachine signal.Begin may = absurd (cc)
  chief_is_script val m chief.SentMachine signal.Done may = absurd (cc)
  chief_is_script val m chief.SentMachine (signal.Value v) may = absurd (cc)
  chief_is_script val m chief.SentMachine (signal.Thrown t) may = absurd (cc)
  chief_is_script val m chief.SentMachine (signal.Raised n) may = absurd (cc)
  chief_is_script val m chief.SentMachine (signal.Number n) may = absurd (cc)
  chief_is_script val m chief.SentMachine (signal.Made e) may = counted val m e (m.next +ℤ pos 1) (is_int64 (m.next +ℤ pos 1))
  chief_is_script val m chief.Counted signal.Begin may = absurd (cc)
  chief_is_script val m chief.Counted signal.Done may = sent_machine val m (int_lt (pos 1) m.count)
  chief_is_script val m chief.Counted (signal.Value v) may = absurd (cc)
  chief_is_script val m chief.Counted (signal.Thrown t) may = absurd (cc)
  chief_is_script val m chief.Counted (signal.Raised n) may = absurd (cc)
  chief_is_script val m chief.Counted (signal.Number n) may = absurd (cc)
  chief_is_script val m chief.Counted (signal.Made e) may = absurd (cc)
  chief_is_script val m chief.HasMachines signal.Begin may = absurd (cc)
  chief_is_script val m chief.HasMachines signal.Done may = refl
  chief_is_script val m chief.HasMachines (signal.Value v) may = absurd (cc)
  chief_is_script val m chief.HasMachines (signal.Thrown t) may = absurd (cc)
  chief_is_script val m chief.HasMachines (signal.Raised n) may = absurd (cc)
  chief_is_script val m chief.HasMachines (signal.Number n) may = absurd (cc)
  chief_is_script val m chief.HasMachines (signal.Made e) may = absurd (cc)
  chief_is_script val m chief.Gone told may = absurd (cc)
  chief_is_script val m chief.Fails signal.Begin may = absurd (cc)
  chief_is_script val m chief.Fails signal.Done may = refl
  chief_is_script val m chief.Fails (signal.Value v) may = absurd (cc)
  chief_is_script val m chief.Fails (signal.Thrown t) may = absurd (cc)
  chief_is_script val m chief.Fails (signal.Raised n) may = absurd (cc)
  chief_is_script val m chief.Fails (signal.Number n) may = absurd (cc)
  chief_is_script val m chief.Fails (signal.Made e) may = absurd (cc)
  chief_is_script val m chief.Struck signal.Begin may = absurd (cc)
  chief_is_script val m chief.Struck signal.Done may = refl
  chief_is_script val m chief.Struck (signal.Value v) may = absurd (cc)
  chief_is_script val m chief.Struck (signal.Thrown t) may = absurd (cc)
  chief_is_script val m chief.Struck (signal.Raised n) may = absurd (cc)
  chief_is_script val m chief.Struck (signal.Number n) may = absurd (cc)
  chief_is_script val m chief.Struck (signal.Made e) may = absurd (cc)
  chief_is_script val m (chief.Dead at) told may = absurd (cc)

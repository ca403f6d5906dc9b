-- What a script keeps, as it is seen.
use Rattle.std.specs.Prelude.{◌≡◌, ℕ, ◌-◌, ◌<◌, ℤ, pos, List, [], ◌∷◌, ◌++◌, length, replicate, slice_index_or, if◌then◌else◌}
use Rattle.std.specs.Prelude.{Option, Some, None, Result, Ok, Err}
use Rattle.std.specs.Int.{bit_at}
use Rattle.sim_types.specs.Scenarios.{ScenarioOf}
use Rattle.sim_types.specs.declared.op.Op.{Op}
use Rattle.sim_types.specs.declared.setup.Class.{Class}
use Rattle.sim_types.specs.declared.setup.Class.TheVariants as class
use Rattle.sim_types.specs.declared.script.Kind.{Kind}
use Rattle.sim_machine.specs.Tellings.{is_class}
use Rattle.std.specs.declared.snapshot.Snapshot.{Snapshot}
use Rattle.sim_script_model.specs.Scripts as scripts
use Rattle.sim_script_model.specs.Arithmetic as arithmetic
use Rattle.sim_script.specs.declared.frames.Frame.{Frame}
use Rattle.sim_script.specs.declared.frames.Frame.TheVariants as frame
use Rattle.sim_script.specs.declared.mode.Mode.{Mode}
use Rattle.sim_script.specs.declared.mode.Mode.TheVariants as mode

abbrev pub frame_of : Frame → scripts.Frame
frame_of (frame.InScope request) = scripts.InScope request
frame_of (frame.InTry catch) = scripts.InTry catch
frame_of (frame.InLoop past) = scripts.InLoop past
frame_of (frame.InRepeat past count) = scripts.InRepeat count past

-- the blocks that a script stands in, the innermost first, and how many find room
pub record FramesOf : Type 0 where
  pub blocks : List scripts.Frame
  pub room : ℕ

abbrev pub mode_of : Mode → scripts.Mode
mode_of mode.Running = scripts.Running
mode_of (mode.Throwing kind value) = scripts.Throwing (record { kind = kind; value = value })
mode_of mode.Breaking = scripts.Breaking
mode_of (mode.Finishing value) = scripts.Finishing value

-- a number, or an error by its number
abbrev pub answer_of : Result ℤ ℕ → arithmetic.Answer
answer_of (Ok value) = arithmetic.Number value
answer_of (Err number) = arithmetic.Error number

abbrev pub asked_of : Option (Snapshot Op) → Option Op
asked_of None = None
asked_of (Some asked) = Some asked.value

-- a script of a kind as it begins, before it is told its number: its arguments stand behind `val`, and 0 in all other
-- variables
abbrev pub script_of_kind : ScenarioOf → ℕ → Kind → List ℤ → scripts.Script
script_of_kind x kind declared args =
    record {
      scenario = x;
      me = record { 0 = 0 };
      kind = kind;
      classes = declared.classes;
      place = declared.first;
      variables = pos 0 ∷ args ++ replicate (63 - length args) (pos 0);
      frames = [];
      mode = scripts.Running;
      asked = None;
    }

-- the bits of the first n variables are set exactly where these are numbers
abbrev pub MarksNumbers : ℕ → ℕ → List Class → Type 0
MarksNumbers n bits classes = (i : ℕ) → i < n → bit_at bits i ≡ (if is_class (slice_index_or classes i class.Number) class.Number then 1 else 0)

-- the 64 variables, of which those up to this one are kept; 0 stands in all others
abbrev pub variables_with : ℕ → List ℤ → List ℤ
variables_with last kept = kept ++ replicate (63 - last) (pos 0)

-- Travellers: each pauses, draws a number or does nothing, logs what it was told, and ends.
use Rattle.std.specs.Prelude.{ℕ, zero, suc, ℤ, pos, List, [], ◌∷◌, slice_index_or}
use Rattle.sim_types.specs.declared.event.Signal.{Signal}
use Rattle.sim_types.specs.declared.event.Signal.TheVariants as signal
use Rattle.sim_types.specs.declared.setup.Class.{Class}
use Rattle.sim_types.specs.declared.setup.Class.TheVariants as class
use Rattle.sim_machine.specs.Tellings.{CodeFacts}
use Rattle.sim_plain.specs.PlainTurns.{plain_facts}
use Rattle.sim_plain.specs.declared.op.PlainOp.{PlainOp}
use Rattle.sim_plain.specs.declared.op.PlainOp.TheVariants as op
use Rattle.sim_bodies.specs.declared.traveller.Stage.{Stage}
use Rattle.sim_bodies.specs.declared.traveller.Stage.TheVariants as stage

-- its kind, the two numbers that it was given, and how far it has come
pub record TravellerOf : Type 0 where
  pub kind : ℕ
  pub first : ℤ
  pub second : ℤ
  pub stage : Stage

abbrev pub two_numbers : List Class
two_numbers = class.Number ∷ class.Number ∷ []

-- three kinds, each of which is given two numbers, and one that is given one
abbrev pub traveller_params : List (List Class)
traveller_params = two_numbers ∷ two_numbers ∷ two_numbers ∷ (class.Number ∷ []) ∷ []

abbrev pub traveller_facts : CodeFacts
traveller_facts = plain_facts traveller_params

abbrev pub begun_traveller : ℕ → List ℤ → TravellerOf
begun_traveller kind args = record {
  kind = kind;
  first = slice_index_or args 0 (pos 0);
  second = slice_index_or args 1 (pos 0);
  stage = stage.SetsOut;
}

-- the number in what it was told
abbrev pub heard : Signal → ℤ
heard (signal.Value v) = v
heard (signal.Number n) = n
heard (signal.Raised n) = pos n
heard _ = pos 0

-- what a kind does first
abbrev pub sets_out : ℕ → ℤ → ℤ → PlainOp
sets_out (suc zero) first second = op.Draw first second
sets_out (suc (suc zero)) first second = op.Nop
sets_out _ first second = op.Pause first second

-- how a kind ends
abbrev pub arrives : ℕ → ℤ → PlainOp
arrives (suc (suc zero)) second = op.Die (record { kind = 1; value = second })
arrives _ second = op.Finish second

-- what it asks for, and how far it has come then
abbrev pub traveller_turn : TravellerOf → Signal → PlainOp × TravellerOf
traveller_turn b told = at b.stage
  where
    at : Stage → PlainOp × TravellerOf
    at stage.SetsOut = (sets_out b.kind b.first b.second, record b { stage = stage.Hears })
    at stage.Hears = (op.Log (heard told), record b { stage = stage.Arrives })
    at stage.Arrives = (arrives b.kind b.second, b)

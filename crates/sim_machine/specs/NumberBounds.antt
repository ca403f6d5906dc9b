-- The numbers up to which the code works; the machine itself knows no bounds.
use Rattle.std.specs.Prelude.{ℕ, ◌^◌, ℤ, pos, int_lt, Bool, true, ◌&&◌, ◌||◌, nat_lt, List, ◌∷◌}
use Rattle.sim_types.specs.declared.event.Signal.{Signal}
use Rattle.sim_types.specs.declared.event.Signal.TheVariants as signal
use Rattle.sim_types.specs.declared.setup.Class.{Class}
use Rattle.sim_types.specs.declared.setup.Class.TheVariants as class
use Rattle.sim_machine.specs.Tellings.{is_class}

-- events have smaller numbers, so a number of an event fits where a signed number does
abbrev pub most_events : ℕ
most_events = 2 ^ 62

-- whether the event that a process is told of, if it is told of one that was made, is within the bound
abbrev pub tells_within_bound : Signal → Bool
tells_within_bound (signal.Made e) = nat_lt e.0 most_events
tells_within_bound _ = true

-- whether the arguments that are events or processes are within the bound
abbrev pub arguments_within_bound : List Class → List ℤ → Bool
arguments_within_bound (c ∷ cs) (v ∷ vs) = (is_class c class.Number || int_lt v (pos most_events)) && arguments_within_bound cs vs
arguments_within_bound _ _ = true

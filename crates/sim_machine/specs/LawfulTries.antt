-- Lawful tries: what is tried is a queue of a resource that there is.
use Rattle.std.specs.Prelude.{Bool, ℕ, nat_lt, true}
use Rattle.std.specs.List.{AllPass}
use Rattle.sim_types.specs.declared.event.Callback.{Callback}
use Rattle.sim_types.specs.declared.event.Callback.TheVariants as callback
use Rattle.sim_machine.specs.State.{Calendar, Control}
use Rattle.sim_machine.specs.Standing.{left_of}

-- whether a callback, if it tries a queue, does so at one of so many resources
abbrev pub tries_well : ℕ → Callback → Bool
tries_well resources (callback.TryPut res) = nat_lt res resources
tries_well resources (callback.TryGet res) = nat_lt res resources
tries_well resources _ = true

-- all tries that are to come are at one of so many resources
pub record LawfulTries (resources : ℕ) (c : Calendar) (control : Control) : Type 0 where
  pub registered : AllPass (λ r. tries_well resources r.callback) c.registered
  pub calling : AllPass (tries_well resources) (left_of control)

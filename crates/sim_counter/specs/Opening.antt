-- What the run opens with.
use Rattle.std.specs.Prelude.{ℤ, pos, List, [], ◌∷◌}
use Rattle.sim_types.specs.declared.setup.ResourceKind.TheVariants as resource
use Rattle.sim_types.specs.declared.setup.Setup.{Setup}
use Rattle.sim_types.specs.declared.setup.Start.{Start}
use Rattle.sim_types.specs.declared.setup.Until.TheVariants as until

-- a customer who arrives after so long, and its number
abbrev pub customer_start : ℤ → ℤ → Start
customer_start arrival number = record { kind = 0; args = arrival ∷ number ∷ [] }

abbrev pub starts : List Start
starts =
    customer_start (pos 0) (pos 0)
    ∷ customer_start (pos 0) (pos 1)
    ∷ customer_start (pos 3) (pos 2)
    ∷ customer_start (pos 5) (pos 3)
    ∷ customer_start (pos 8) (pos 4)
    ∷ customer_start (pos 40) (pos 5)
    ∷ []

-- two clerks and six customers, until nothing is left to do
abbrev pub six_customers : Setup
six_customers = record {
  until = until.Never;
  events = 0;
  resources = record { kind = resource.Plain; capacity = pos 2; opening = pos 0 } ∷ [];
  ports = [];
  starts = starts;
}

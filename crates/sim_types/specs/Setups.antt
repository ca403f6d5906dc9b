-- Which setups fit the code of the bodies: the numbers are in their ranges, and what is started can be started.
use Rattle.std.specs.Prelude.{◌<◌, ℕ, ℤ, pos, Bool, true, false, ◌&&◌, nat_lt, nat_le, int_le, List, [], ◌∷◌, length, slice_index_or, All}
use Rattle.sim_types.specs.Limits.{last_time, most_items, most_level, most_slots}
use Rattle.sim_types.specs.declared.setup.Until.{Until}
use Rattle.sim_types.specs.declared.setup.Until.TheVariants as until
use Rattle.sim_types.specs.declared.setup.Resource.{Resource}
use Rattle.sim_types.specs.declared.setup.ResourceKind.{ResourceKind}
use Rattle.sim_types.specs.declared.setup.ResourceKind.TheVariants as resource
use Rattle.sim_types.specs.declared.setup.Class.{Class}
use Rattle.sim_types.specs.declared.setup.Class.TheVariants as class
use Rattle.sim_types.specs.declared.setup.Start.{Start}
use Rattle.sim_types.specs.declared.setup.Arrival.{Arrival}
use Rattle.sim_types.specs.declared.setup.Setup.{Setup}

-- what the code of the bodies tells: the classes of the parameters of each process kind, how many events are named, and
-- the resources
pub record CodeFacts : Type 0 where
  pub params : List (List Class)
  pub named : ℕ
  pub resources : List Resource

-- whether two classes are one
abbrev pub is_class : Class → Class → Bool
is_class class.Number class.Number = true
is_class class.Event class.Event = true
is_class class.Cond class.Cond = true
is_class class.Proc class.Proc = true
is_class class.Request class.Request = true
is_class class.Move class.Move = true
is_class _ _ = false

-- whether a number is at least the one and at most the other
abbrev pub is_within : ℤ → ℤ → ℤ → Bool
is_within least greatest n = int_le least n && int_le n greatest

-- whether a run is stopped at a time from 1 to the last one, or by a named event
abbrev pub until_fits : ℕ → Until → Bool
until_fits named until.Never = true
until_fits named (until.At time) = is_within (pos 1) last_time time
until_fits named (until.Event e) = nat_lt 0 e.0 && nat_le e.0 named

-- the greatest capacity of a resource of this kind
abbrev pub most_capacity : ResourceKind → ℤ
most_capacity resource.Plain = most_slots
most_capacity resource.Priority = most_slots
most_capacity resource.Preemptive = most_slots
most_capacity resource.Container = most_level
most_capacity _ = most_items

-- the greatest opening of a resource of this kind and capacity: a container alone opens with something in it
abbrev pub most_opening : ResourceKind → ℤ → ℤ
most_opening resource.Container capacity = capacity
most_opening _ capacity = pos 0

-- whether the capacity and the opening are in their ranges
abbrev pub resource_fits : Resource → Bool
resource_fits r = is_within (pos 1) (most_capacity r.kind) r.capacity && is_within (pos 0) (most_opening r.kind r.capacity) r.opening

-- whether a process that runs from the start may be given this: numbers and named events, and no processes, since none
-- was made before
abbrev pub start_argument_fits : ℕ → Class → ℤ → Bool
start_argument_fits named class.Number v = true
start_argument_fits named class.Event (pos n) = nat_lt 0 n && nat_le n named
start_argument_fits named _ v = false

-- whether there is one argument for each parameter, and each fits
abbrev pub start_arguments_fit : ℕ → List Class → List ℤ → Bool
start_arguments_fit named [] [] = true
start_arguments_fit named (c ∷ cs) (v ∷ vs) = start_argument_fits named c v && start_arguments_fit named cs vs
start_arguments_fit named _ _ = false

-- whether the kind of the start is one of the code's, and its arguments fit
abbrev pub start_fits : CodeFacts → Start → Bool
start_fits f x = nat_lt x.kind (length f.params) && start_arguments_fit f.named (slice_index_or f.params x.kind []) x.args

-- whether there is one parameter, and it is a number
abbrev pub takes_one_number : List Class → Bool
takes_one_number (c ∷ []) = is_class c class.Number
takes_one_number _ = false

-- whether the kind that a port starts is one of the code's, and takes the value that comes in
abbrev pub port_fits : CodeFacts → ℕ → Bool
port_fits f k = nat_lt k (length f.params) && takes_one_number (slice_index_or f.params k [])

-- all that arrives comes in by ports that there are
abbrev pub HavePorts : Setup → List Arrival → Type 0
HavePorts setup journal = All (λ a. a.port < length setup.ports) journal

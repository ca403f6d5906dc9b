-- The numbers that texts, setups and runs are limited by.
use Rattle.std.specs.Prelude.{ℕ, ◌-◌, ◌^◌, ℤ, pos}

-- how many bytes a scenario text has, at most
abbrev pub most_bytes : ℕ
most_bytes = 4194304

-- the last time of a run
abbrev pub last_time : ℤ
last_time = pos (2 ^ 62)

-- the greatest capacities: of a container, of a store, and of a resource whose slots are requested
abbrev pub most_level : ℤ
most_level = pos (2 ^ 62)

abbrev pub most_items : ℤ
most_items = pos (2 ^ 32)

abbrev pub most_slots : ℤ
most_slots = pos (2 ^ 32 - 1)

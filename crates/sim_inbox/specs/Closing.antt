-- The close of a queue.
use Rattle.std.specs.Prelude.{◌≡◌, ℕ, ◌<◌, List, [], ◌∷◌, ◌++◌, length, drop, map, slice_index_or, unwrap_or, Some, None}
use Rattle.std.specs.List.{flat_map, range_with_len}
use Rattle.sim_types.specs.declared.setup.Post.{Post}
use Rattle.sim_inbox.specs.Lists.{Begins, entries_by, numbered}
use Rattle.sim_inbox.specs.QueueEnds.{QueueTakerOf, taken_from}
use Rattle.sim_inbox.specs.declared.taken.Taken.{Taken}

-- the next entry of its poster was taken; where that has joined, the entry is one of its list
pub record IsNextTaken (before after : QueueTakerOf) (t : Taken) : Type 0 where
  pub is : after ≡ record before { taken = before.taken ++ t ∷ [] }
  pub own : t.poster < length before.wholes
  pub serial : t.serial ≡ length (taken_from before t.poster)
  pub more : (whole : List Post) → slice_index_or before.wholes t.poster None ≡ Some whole → length (taken_from before t.poster) < length whole

-- the lists of the posters, once all have joined
abbrev pub lists_of : QueueTakerOf → List (List Post)
lists_of t = map (λ whole. unwrap_or whole []) t.wholes

-- all posters have joined
abbrev pub HaveJoined : QueueTakerOf → Type 0
HaveJoined t = t.wholes ≡ map Some (lists_of t)

-- the entries of each poster are what is left of its list, and that begins with what was taken of it
pub record AreLeft (taken : ℕ → List Post) (lists : List (List Post)) (entries : List Taken) : Type 0 where
  pub left : (p : ℕ) → p < length lists → entries_by p entries ≡ numbered p (length (taken p)) (drop (length (taken p)) (slice_index_or lists p []))
  pub begins : (p : ℕ) → p < length lists → Begins (taken p) (slice_index_or lists p [])

-- the entries of so many posters, one poster after another
abbrev pub in_order : ℕ → List Taken → List Taken
in_order count entries = flat_map (λ p. entries_by p entries) (range_with_len 0 count)

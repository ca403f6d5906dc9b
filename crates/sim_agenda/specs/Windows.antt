-- The queues of the next times. Only the code of this crate knows them.
use Rattle.std.specs.Prelude.{◌≡◌, ◌<◌, ◌≤◌, ◌+◌, ◌^◌, ℕ, ℤ, pos, ◌+ℤ◌, List, [], ◌++◌, All, length, take, drop, flat_map, slice_index_or}
use Rattle.sim_types.specs.declared.event.Entry.{Entry}
use Rattle.sim_happen_model.specs.Agendas.{AgendaOf}
use Rattle.sim_agenda.specs.Series.{Rises}

-- the entries of all queues
abbrev pub joined : List (List Entry) → List Entry
joined = flat_map (λ xs. xs)

-- a ring of queues from a place on, round to the one before it
abbrev pub turned : ℕ → List (List Entry) → List (List Entry)
turned turn queues = drop turn queues ++ take turn queues

-- the queue at i has entries of the i-th time in rising order, and none stands before the first that has any
pub record IsWindow (queues : List (List Entry)) (start : ℤ) (first many : ℕ) : Type 0 where
  pub rises : (i : ℕ) → Rises (slice_index_or queues i [])
  pub times : (i : ℕ) → All (λ x. x.key.time ≡ start +ℤ pos i) (slice_index_or queues i [])
  pub before : (i : ℕ) → i < first → slice_index_or queues i [] ≡ []
  pub filled : first < length queues → 0 < length (slice_index_or queues first [])
  pub all : many ≡ length (joined queues)

-- the queues stand in a ring of 64, or there are none yet, and from a place on they are a window
pub record IsRing (queues : List (List Entry)) (turn : ℕ) (start : ℤ) (first many : ℕ) : Type 0 where
  pub window : IsWindow (turned turn queues) start first many
  pub size : 0 < length queues → length queues ≡ 64
  pub within : turn < 64

-- the backlog has room for what the window has too
pub record IsSpread (backlog : AgendaOf) (window : List Entry) : Type 0 where
  pub room : length window ≤ backlog.spare
  pub few : length backlog.entries + backlog.spare < 2 ^ 63

-- What each kind of step tells its seat, which knows `me` before the step and `w` after it, where n is found or stored.
use Rattle.std.specs.Prelude.{◌≡◌, ℕ, ◌+◌, ◌<◌, ◌^◌, List, length, Some}
use mir.Val.{to_z}
use mir.Syntax.{w64}
use Rattle.atomic_table.specs.Table.{Me, Step}
use Rattle.sim_types.specs.declared.setup.Post.{Post}
use Rattle.sim_lanes.specs.Places.{cell}
use Rattle.sim_lanes.specs.Views.{new_poster, lane, of_poster, lanes_of, posters_of, knowing}
use Rattle.sim_lanes.specs.Steps.{saw_head, wrote_port, wrote_value, posted_next, saw_tail, read_port, read_value, took_next, HeadFound, TailFound}
use Rattle.sim_lanes.specs.declared.view.LaneView.{LaneView}
use Rattle.sim_lanes.specs.declared.view.View.{View}
use Rattle.sim_lanes.specs.declared.view.View.TheVariants.{Poster, Taker}

-- the cell at the head of a lane
abbrev pub next_cell : LaneView → ℕ
next_cell g = cell g.place g.capacity (length g.taken)

module _ {S : Type 0} where
  -- 1: load a lane's head
  abbrev pub SeesHead : Step S → Me S View → ℕ → Me S View → Type 0
  SeesHead s me n w = (w ≡ (Poster (saw_head (of_poster me.0) n), me.1)) × HeadFound (of_poster me.0) n

  -- 2: store one of the cell's two words
  abbrev pub WritesPort : Step S → Me S View → ℕ → Me S View → Type 0
  WritesPort s me n w = w ≡ (Poster (wrote_port (of_poster me.0) n), me.1)

  abbrev pub WritesValue : Step S → Me S View → ℕ → Me S View → Type 0
  WritesValue s me n w = w ≡ (Poster (wrote_value (of_poster me.0) (to_z w64 n)), me.1)

  -- 3: store a lane's tail
  abbrev pub Posts : Step S → Me S View → ℕ → Me S View → Type 0
  Posts s me n w = w ≡ (Poster (posted_next (of_poster me.0)), me.1)

  -- A step cannot name its lane. So what a step of the taker tells is said of each lane whose word it was.
  -- 4: load a lane's tail
  abbrev pub SeesTail : Step S → Me S View → ℕ → Me S View → Type 0
  SeesTail s me n w = (p : ℕ) → p < length (lanes_of me.0) → s.word ≡ (lane (lanes_of me.0) p).place + 1
      → (w ≡ (knowing me.0 p (saw_tail (lane (lanes_of me.0) p) n), me.1)) × TailFound (lane (lanes_of me.0) p) n

  -- 5: load one of the cell's two words
  abbrev pub ReadsPort : Step S → Me S View → ℕ → Me S View → Type 0
  ReadsPort s me n w = (p : ℕ) → p < length (lanes_of me.0) → s.word ≡ next_cell (lane (lanes_of me.0) p)
      → (w ≡ (knowing me.0 p (read_port (lane (lanes_of me.0) p) n), me.1)) × (n < 2 ^ 32)

  abbrev pub ReadsValue : Step S → Me S View → ℕ → Me S View → Type 0
  ReadsValue s me n w = (p : ℕ) → p < length (lanes_of me.0) → s.word ≡ next_cell (lane (lanes_of me.0) p) + 1
      → w ≡ (knowing me.0 p (read_value (lane (lanes_of me.0) p) (to_z w64 n)), me.1)

  -- 6: store a lane's head
  abbrev pub Takes : Step S → Me S View → ℕ → Me S View → Type 0
  Takes s me n w = (p : ℕ) → p < length (lanes_of me.0) → s.word ≡ (lane (lanes_of me.0) p).place
      → w ≡ (knowing me.0 p (took_next (lane (lanes_of me.0) p)), me.1)

-- 7: split a seat. The first seat keeps the lanes, and the new seat is the next poster's
abbrev pub split_off : View → View
split_off v = Taker (posters_of v + 1) (lanes_of v)

abbrev pub next_poster : View → View
next_poster v = Poster (new_poster (posters_of v) (lane (lanes_of v) (posters_of v)).capacity)

-- 8: join a seat. The taker keeps the list of the poster
abbrev pub with_whole : LaneView → List Post → LaneView
with_whole g posted = record g { whole = Some posted }

abbrev pub joined_by : View → View → View
joined_by v w = knowing v (of_poster w).number (with_whole (lane (lanes_of v) (of_poster w).number) (of_poster w).posted)

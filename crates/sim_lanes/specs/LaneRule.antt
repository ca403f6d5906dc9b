-- The rule of one lane: what holds before and after every step, of its words and of what its two ends know.
use Rattle.std.specs.Prelude.{◌≡◌, ℕ, ℤ, suc, ◌+◌, ◌<◌, ◌≤◌, ◌^◌, List, [], ◌∷◌, ◌++◌, length, Option, Some, None}
use Rattle.std.specs.List.{All}
use mir.Val.{to_z}
use mir.Syntax.{w64}
use Rattle.sim_types.specs.declared.setup.Post.{Post}
use Rattle.sim_lanes.specs.Places.{cell}
use Rattle.sim_lanes.specs.Steps.{HasRoom, HasWaiting}
use Rattle.sim_lanes.specs.declared.view.PosterView.{PosterView}
use Rattle.sim_lanes.specs.declared.view.LaneView.{LaneView}

-- the two words from `c` on are this post. Here alone words and posts meet: a value is its word, read with a sign
abbrev pub IsPostAt : (ℕ → ℕ) → ℕ → Post → Type 0
IsPostAt word c post = (word c ≡ post.port) × (to_z w64 (word (c + 1)) ≡ post.value)

-- the cells from that of serial k on hold these posts, in order
abbrev pub AreInCells : (ℕ → ℕ) → ℕ → ℕ → ℕ → List Post → Type 0
AreInCells word place capacity k [] = Unit {0}
AreInCells word place capacity k (x ∷ xs) = IsPostAt word (cell place capacity k) x × AreInCells word place capacity (suc k) xs

abbrev pub first_port : List Post → Option ℕ
first_port [] = None
first_port (x ∷ xs) = Some x.port

abbrev pub first_value : List Post → Option ℤ
first_value [] = None
first_value (x ∷ xs) = Some x.value

abbrev pub IsPort : Post → Type 0
IsPort x = x.port < 2 ^ 32

-- `word` gives each word of the table, and the lane lies at `place`
pub record OneLane (word : ℕ → ℕ) (place capacity : ℕ) (poster : PosterView) (taker : LaneView) : Type 0 where
  -- what is taken is the front of what is posted, and the rest waits
  pub waiting : List Post
  pub posted : poster.posted ≡ taker.taken ++ waiting
  -- the head says how many are taken, the tail how many are posted, and the cells from head to tail hold what waits
  pub head : word place ≡ length taker.taken
  pub tail : word (place + 1) ≡ length poster.posted
  pub cells : AreInCells word place capacity (length taker.taken) waiting
  pub ports : All IsPort waiting
  -- no more waits than there are cells, and a serial is a number of 32 bits
  pub some_room : 0 < capacity
  pub room : length waiting ≤ capacity
  pub few : length poster.posted < 2 ^ 32
  pub capacity_known : poster.capacity ≡ capacity
  -- a head or tail that was found is behind the one that stands
  pub head_seen : poster.taken_seen ≤ length taker.taken
  pub tail_seen : taker.posted_seen ≤ length poster.posted
  -- what the poster has written stands in the cell at the tail, and that cell waits no more
  pub port_written : (a : ℕ) → poster.port ≡ Some a → (word (cell place capacity (length poster.posted)) ≡ a) × (a < 2 ^ 32) × HasRoom poster
  pub value_written : (b : ℤ) → poster.value ≡ Some b → (to_z w64 (word (cell place capacity (length poster.posted) + 1)) ≡ b) × HasRoom poster
  -- what the taker has read is of the post at the head, which waits
  pub port_read : (a : ℕ) → taker.port ≡ Some a → (first_port waiting ≡ Some a) × HasWaiting taker
  pub value_read : (b : ℤ) → taker.value ≡ Some b → (first_value waiting ≡ Some b) × HasWaiting taker

-- What an end of a lane knows after each kind of step, from what it knew before. The number found or stored is n, the port
-- a, the value b.
use Rattle.std.specs.Prelude.{◌≡◌, ℕ, ℤ, ◌+◌, ◌<◌, ◌≤◌, ◌^◌, List, [], ◌∷◌, ◌++◌, length, Option, Some, None}
use Rattle.sim_types.specs.declared.setup.Post.{Post}
use Rattle.sim_lanes.specs.declared.view.PosterView.{PosterView}
use Rattle.sim_lanes.specs.declared.view.LaneView.{LaneView}

-- the post of a cell of which both words are known, and none where one is not
abbrev pub post_of : Option ℕ → Option ℤ → List Post
post_of None b = []
post_of (Some a) None = []
post_of (Some a) (Some b) = record { port = a; value = b } ∷ []

-- both words of a cell are known
abbrev pub AreKnown : Option ℕ → Option ℤ → Type 0
AreKnown None b = ⊥
AreKnown (Some a) None = ⊥
AreKnown (Some a) (Some b) = Unit {0}

-- 1: the poster loads the head
abbrev pub saw_head : PosterView → ℕ → PosterView
saw_head v n = record v { loads = v.loads + 1; taken_seen = n }

-- 2: the poster stores a word of the cell at the tail
abbrev pub wrote_port : PosterView → ℕ → PosterView
wrote_port v a = record v { port = Some a }

abbrev pub wrote_value : PosterView → ℤ → PosterView
wrote_value v b = record v { value = Some b }

-- 3: the poster stores the tail
abbrev pub posted_next : PosterView → PosterView
posted_next v = record v { posted = v.posted ++ post_of v.port v.value; port = None; value = None }

-- 4: the taker loads the tail
abbrev pub saw_tail : LaneView → ℕ → LaneView
saw_tail g n = record g { loads = g.loads + 1; posted_seen = n }

-- 5: the taker loads a word of the cell at the head
abbrev pub read_port : LaneView → ℕ → LaneView
read_port g a = record g { port = Some a }

abbrev pub read_value : LaneView → ℤ → LaneView
read_value g b = record g { value = Some b }

-- 6: the taker stores the head
abbrev pub took_next : LaneView → LaneView
took_next g = record g { taken = g.taken ++ post_of g.port g.value; port = None; value = None }

-- the poster may write: by the head that it found, the cell at the tail waits no more
abbrev pub HasRoom : PosterView → Type 0
HasRoom v = length v.posted < v.taken_seen + v.capacity

-- the taker may read: by the tail that it found, the cell at the head waits
abbrev pub HasWaiting : LaneView → Type 0
HasWaiting g = length g.taken < g.posted_seen

-- what a head that was found tells: no more is taken than was posted, and no more waits than there are cells
abbrev pub HeadFound : PosterView → ℕ → Type 0
HeadFound v n = (n ≤ length v.posted) × (length v.posted ≤ n + v.capacity)

-- what a tail that was found tells: no less was posted than is taken, and where the poster has joined, the whole list has
-- this length and begins with what was taken
pub record TailFound (g : LaneView) (n : ℕ) : Type 0 where
  pub least : length g.taken ≤ n
  pub few : n < 2 ^ 32
  pub whole : (l : List Post) → g.whole ≡ Some l → (n ≡ length l) × ((rest : List Post) × (l ≡ g.taken ++ rest))

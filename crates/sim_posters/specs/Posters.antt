-- The posters of a live run: each has a section, posts it, and comes back (this project's own). `posting` has the members of
-- the trait `Posting` at the type of the posters, and `box` is what tells their inbox from every other one.
use Rattle.std.specs.Prelude.{◌≡◌, ℕ, ◌+◌, ◌-◌, ◌^◌, ◌<◌, ◌≤◌, max, Bool, true, false, List, [], length, slice_index_or}
use Rattle.sim_types.specs.declared.setup.Post.{Post}
use Rattle.sim_inbox.specs.declared.posting.Posting.{Ghosts}

-- the capacity that a section needs: its length, so that its poster never finds the inbox full, and 1 for an empty one, since
-- no inbox is opened with a capacity of 0
abbrev pub capacity_of : List Post → ℕ
capacity_of section = max (length section) 1

-- a poster before and after its work: it is the same poster of the same inbox, and where it tells that it posted the whole, it
-- posted exactly its section; it tells that it did not only where a post may want memory
pub record IsPostedBy {P : Type 0} (posting : Ghosts P) (before : P) (section : List Post) (after : P) (whole : Bool) : Type 0 where
  pub same_inbox : posting.inbox after ≡ posting.inbox before
  pub same_number : posting.number after ≡ posting.number before
  pub all : whole ≡ true → posting.posted after ≡ section
  pub part : whole ≡ false → posting.takes_memory ≡ true

-- a poster at its work, as contracts see it: the section that it is to post, and the poster before its work
pub record WorkerOf (P : Type 0) : Type 0 where
  pub posts : List Post
  pub before : P

-- the poster p of this inbox before its work: it posted nothing, and there is room for its section
pub record IsFresh {P : Type 0} (posting : Ghosts P) (box : List ℕ) (sections : List (List Post)) (p : ℕ) (x : P) : Type 0 where
  pub number_is : posting.number x ≡ p
  pub nothing : posting.posted x ≡ []
  pub own : posting.inbox x ≡ box
  pub room : length (slice_index_or sections p []) ≤ posting.capacity x
  pub few : length (slice_index_or sections p []) < 2 ^ 32 - 1

-- of n posters of this inbox at their work, the last one first, that at place j: it is to post the section of its number
pub record IsWorker {P : Type 0} (posting : Ghosts P) (box : List ℕ) (sections : List (List Post)) (n j : ℕ) (x : WorkerOf P) : Type 0 where
  pub place : posting.number x.before + j + 1 ≡ n
  pub section : x.posts ≡ slice_index_or sections (posting.number x.before) []
  pub same_inbox : posting.inbox x.before ≡ box

-- the poster p of this inbox after its work: it posted exactly its section
pub record IsBack {P : Type 0} (posting : Ghosts P) (box : List ℕ) (sections : List (List Post)) (p : ℕ) (x : P) : Type 0 where
  pub number_is : posting.number x ≡ p
  pub same_inbox : posting.inbox x ≡ box
  pub section : posting.posted x ≡ slice_index_or sections p []

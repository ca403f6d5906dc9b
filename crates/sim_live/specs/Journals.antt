-- What the journal of a live run keeps of what the posters post (this project's own).
use Rattle.std.specs.Prelude.{◌≡◌, ℕ, List, [], ◌++◌, drop, length, map, slice_index_or, IsTrue}
use Rattle.sim_types.specs.Scenarios.{ScenarioOf}
use Rattle.sim_types.specs.declared.setup.Arrival.{Arrival}
use Rattle.sim_types.specs.declared.setup.Post.{Post}
use Rattle.sim_language.specs.WellFormed.{never_falls}
use Rattle.sim_inbox.specs.declared.taken.Taken.{Taken}
use Rattle.sim_inbox.specs.Lists.{numbered, entries_by}

-- the post that an entry tells of, whose it is, and which of its posts
abbrev pub post_of : Arrival → Taken
post_of a = record { poster = a.poster; serial = a.serial; item = record { port = a.port; value = a.value } }

-- a post that came in once so many events were processed, or too late, where so many were
abbrev pub arrival_of : ℕ → Taken → Arrival
arrival_of processed t = record { after = processed; poster = t.poster; serial = t.serial; port = t.item.port; value = t.item.value }

-- the posts of a poster, as the journal tells them
abbrev pub posts_by : ℕ → List Arrival → List Taken
posts_by poster journal = entries_by poster (map post_of journal)

-- what a poster of the scenario posts; one that there is not posts nothing
abbrev pub section : ScenarioOf → ℕ → List Post
section s poster = slice_index_or s.posters poster []

-- the journal has each post of each poster once, in the poster's order, with serials from 0, and nothing else; and `after`
-- never falls
pub record KeepsSections (s : ScenarioOf) (journal : List Arrival) : Type 0 where
  pub posts : (p : ℕ) → posts_by p journal ≡ numbered p 0 (section s p)
  pub falls : IsTrue (never_falls journal)

-- one list begins with another
abbrev pub IsFront : List Taken → List Taken → Type 0
IsFront front whole = front ++ drop (length front) whole ≡ whole

-- the same, but of each poster only a front of its posts
pub record KeepsFronts (s : ScenarioOf) (journal : List Arrival) : Type 0 where
  pub posts : (p : ℕ) → IsFront (posts_by p journal) (numbered p 0 (section s p))
  pub falls : IsTrue (never_falls journal)

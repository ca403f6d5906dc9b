-- What a journal keeps of what the posters posted: how posters mix is left open, all else is not (this project's own).
use Rattle.std.specs.Prelude.{◌==◌, ℕ, List, [], map, filter, length, slice_index_or, ◌+◌, ◌≡◌, ◌≤◌, ◌<◌, All}
use Rattle.std.specs.List.{range_with_len}
use Rattle.sim_types.specs.declared.setup.Arrival.{Arrival}
use Rattle.sim_types.specs.declared.setup.Post.{Post}

-- the entries of a poster, in order
abbrev pub entries_of : ℕ → List Arrival → List Arrival
entries_of poster journal = filter (λ a. a.poster == poster) journal

-- what was posted, without when it came in
abbrev pub post_of : Arrival → Post
post_of a = record { port = a.port; value = a.value }

-- arrivals never go back
abbrev pub NeverFalls : List Arrival → Type 0
NeverFalls journal = (i : ℕ) (a : Arrival) → i + 1 < length journal → (slice_index_or journal i a).after ≤ (slice_index_or journal (i + 1) a).after

-- for each poster just what it posted, numbered from 0, and nothing of anyone else
pub record KeepsLists (posts : List (List Post)) (journal : List Arrival) : Type 0 where
  pub posted : (p : ℕ) → p < length posts → map post_of (entries_of p journal) ≡ slice_index_or posts p []
  pub serials : (p : ℕ) → map (λ a. a.serial) (entries_of p journal) ≡ range_with_len 0 (length (entries_of p journal))
  pub known : All (λ a. a.poster < length posts) journal
  pub never_falls : NeverFalls journal

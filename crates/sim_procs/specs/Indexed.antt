-- How the records of live processes are found by their numbers.
use Rattle.std.specs.Prelude.{◌≡◌, ◌≢◌, ℕ, ◌<◌, List, length, map, slice_index_or, slice_set, nat_lt, if◌then◌else◌, Option, Some, All, IsSome}
use Rattle.sim_types.specs.declared.event.ProcId.{ProcId}
use Rattle.sim_index.specs.IndexOf.{place_of_number}
use Rattle.sim_procs.specs.RecordOf.{RecordOf}

-- the numbers of these processes
abbrev pub numbers : {B : Type 0} → List (RecordOf B) → List ℕ
numbers live = map (λ r. r.id.0) live

-- each number has the place where it stands in this list, and no other number has a place
pub record HavePlaces (places : List (Option ℕ)) (ns : List ℕ) : Type 0 where
  pub placed : (i d : ℕ) → i < length ns → place_of_number (slice_index_or ns i d) places ≡ Some i
  pub within : (n i : ℕ) → place_of_number n places ≡ Some i → i < length ns
  pub stands : (n i d : ℕ) → place_of_number n places ≡ Some i → slice_index_or ns i d ≡ n

-- each record is found by its number
abbrev pub AreIndexed : {B : Type 0} → List (Option ℕ) → List (RecordOf B) → Type 0
AreIndexed places live = HavePlaces places (numbers live)

-- each record is found by its number, and so many scopes find room in it
pub record AreStored {B : Type 0} (places : List (Option ℕ)) (room : ℕ) (live : List (RecordOf B)) : Type 0 where
  pub indexed : AreIndexed places live
  pub rooms : All (λ r. r.room ≡ room) live

-- a record with the number of this process stands at this place
pub record HasNumberAt {B : Type 0} (p : ProcId) (live : List (RecordOf B)) (at : ℕ) : Type 0 where
  pub below : at < length live
  pub number : (d : RecordOf B) → (slice_index_or live at d).id.0 ≡ p.0

-- the place of one number is set, or it has none; the others are as before
pub record SetsPlace (n : ℕ) (place : Option ℕ) (old new : List (Option ℕ)) : Type 0 where
  pub here : place_of_number n new ≡ place
  pub elsewhere : (k : ℕ) → k ≢ n → place_of_number k new ≡ place_of_number k old

-- whoever stands at a place of the list, if anybody does, has some place
abbrev pub IsFoundSomewhere : List (Option ℕ) → List ℕ → ℕ → Type 0
IsFoundSomewhere places ns at = (d : ℕ) → at < length ns → IsSome (place_of_number (slice_index_or ns at d) places)

-- whoever stands at a place of the list, if anybody does, is found there
abbrev pub found_there : List (Option ℕ) → List ℕ → ℕ → List (Option ℕ)
found_there places ns at = if nat_lt at (length ns) then slice_set places (slice_index_or ns at 0) (Some at) else places

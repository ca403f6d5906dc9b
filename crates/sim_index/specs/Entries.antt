-- How an index keeps numbers: in rising order, each with its place or, once it was taken out, with a mark.
use Rattle.std.specs.Prelude.{◌≡◌, ◌≢◌, ℕ, ◌*◌, ◌<◌, ◌≤◌, ◌==◌, not, Bool, List, [], ◌∷◌, Option, Some, None, is_some, map, count_by, filter, ◌⊎◌, if◌then◌else◌, All, MatchOption, length, slice_index_or, slice_set}
use Rattle.std.specs.List.{range_with_len, AllPairs, insert}
use Rattle.sim_index.specs.declared.entries.Entry.{Entry}

-- the place that marks an entry whose number was taken out: 2 ^ 64 - 1
abbrev pub gone : ℕ
gone = 18446744073709551615

-- how many entries there is room for, for each number that has a place
abbrev pub entries_per_number : ℕ
entries_per_number = 4

-- whether the number of an entry has a place
abbrev pub is_live : Entry → Bool
is_live e = not (e.place == gone)

-- the place of an entry's number, if it has one
abbrev pub place_of_entry : Entry → Option ℕ
place_of_entry e = if e.place == gone then None else Some e.place

-- the place of a number among these entries, if it has one
abbrev pub place_among : ℕ → List Entry → Option ℕ
place_among n [] = None
place_among n (e ∷ es) = if e.number == n then place_of_entry e else place_among n es

-- the places of all numbers below `given`
abbrev pub places_below : ℕ → List Entry → List (Option ℕ)
places_below given es = map (λ n. place_among n es) (range_with_len 0 given)

-- each number is greater than those before
abbrev pub NumbersRise : List Entry → Type 0
NumbersRise es = AllPairs (λ x y. x.number < y.number) es

-- `live` numbers have a place, all are below `given`, and there is room for some times as many
pub record IsSoundIndex (es : List Entry) (live given capacity : ℕ) : Type 0 where
  pub rising : NumbersRise es
  pub below : All (λ e. e.number < given) es
  pub counted : live ≡ count_by is_live es
  pub placed : live ≡ count_by is_some (places_below given es)
  pub room : entries_per_number * live ≤ capacity

-- the entry at this position has this number
pub record HasNumberAt (es : List Entry) (n at : ℕ) : Type 0 where
  pub within : at < length es
  pub number : (d : Entry) → (slice_index_or es at d).number ≡ n

-- no entry has this number
abbrev pub HasNumberNowhere : List Entry → ℕ → Type 0
HasNumberNowhere es n = All (λ e. e.number ≢ n) es

-- the position of the entry of this number, or none where no entry has it
abbrev pub FindsNumber : List Entry → ℕ → Option ℕ → Type 0
FindsNumber es n result = MatchOption result (HasNumberNowhere es n) (HasNumberAt es n)

-- an entry of this number would stand here: those before have lesser numbers, and those from here on greater ones
pub record StandsBefore (es : List Entry) (n at : ℕ) : Type 0 where
  pub within : at ≤ length es
  pub lower : (k : ℕ) (d : Entry) → k < at → (slice_index_or es k d).number < n
  pub higher : (k : ℕ) (d : Entry) → at ≤ k → k < length es → n < (slice_index_or es k d).number

-- the same entries, or those of them whose number has a place
abbrev pub SameEntries : List Entry → List Entry → Type 0
SameEntries old new = (new ≡ old) ⊎ (new ≡ filter is_live old)

-- an entry takes the position of the one of its number
pub record Replaces (old : List Entry) (e : Entry) (new : List Entry) : Type 0 where
  pub at : ℕ
  pub there : HasNumberAt old e.number at
  pub is : new ≡ slice_set old at e

-- an entry comes between those of lesser and those of greater numbers
pub record ComesBetween (old : List Entry) (e : Entry) (new : List Entry) : Type 0 where
  pub at : ℕ
  pub before : StandsBefore old e.number at
  pub is : new ≡ insert old at e

-- an entry stands where its number does
abbrev pub IsPut : List Entry → Entry → List Entry → Type 0
IsPut old e new = Replaces old e new ⊎ ComesBetween old e new

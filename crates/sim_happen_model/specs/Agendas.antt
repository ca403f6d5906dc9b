-- What contracts see of an agenda (SimPy's Environment has a queue that is a heap).
use Rattle.std.specs.Prelude.{◌≡◌, ℕ, Option, List, [], ◌∷◌, All, MatchOption}
use Rattle.std.specs.List.Sorted.{IsPermutation}
use Rattle.sim_types.specs.Keys.{IsLess}
use Rattle.sim_types.specs.declared.event.Entry.{Entry}

-- the entries in no order that counts, and for how many more there is room
pub record AgendaOf : Type 0 where
  pub entries : List Entry
  pub spare : ℕ

-- an entry that no other comes before is taken out
pub record TakesFirst (old : List Entry) (x : Entry) (new : List Entry) : Type 0 where
  pub others : IsPermutation old (x ∷ new)
  pub first : All (λ y. ¬ IsLess y.key x.key) new

-- so it is, and where nothing is scheduled all stays
abbrev pub PopsFirst : Option Entry → AgendaOf → AgendaOf → Type 0
PopsFirst result old new = MatchOption result ((old.entries ≡ []) × (new ≡ old)) (λ x. TakesFirst old.entries x new.entries)

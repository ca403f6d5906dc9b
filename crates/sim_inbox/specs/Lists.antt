-- The lists of an inbox: what each poster posted, what was taken of it, and what is left (this project's own).
use Rattle.std.specs.Prelude.{◌≡◌, ◌≢◌, ◌==◌, ℕ, suc, List, [], ◌∷◌, ◌++◌, filter, map, length, drop}
use Rattle.sim_types.specs.declared.setup.Post.{Post}
use Rattle.sim_inbox.specs.declared.taken.Taken.{Taken}

-- the item of a poster that has this serial
abbrev pub entry : ℕ → ℕ → Post → Taken
entry poster serial item = record { poster = poster; serial = serial; item = item }

-- the items of a poster, with serials from this one on
abbrev pub numbered : ℕ → ℕ → List Post → List Taken
numbered poster serial [] = []
numbered poster serial (item ∷ items) = entry poster serial item ∷ numbered poster (suc serial) items

-- the entries of a poster among those of several, in order
abbrev pub entries_by : ℕ → List Taken → List Taken
entries_by poster entries = filter (λ t. t.poster == poster) entries

-- their items
abbrev pub items_by : ℕ → List Taken → List Post
items_by poster entries = map (λ t. t.item) (entries_by poster entries)

-- a list begins with what was taken of it
abbrev pub Begins : List Post → List Post → Type 0
Begins taken posted = taken ++ drop (length taken) posted ≡ posted

-- one item more was taken of its poster, with the number taken of it before as its serial, and none of the others
pub record IsTaken (before after : ℕ → List Post) (t : Taken) : Type 0 where
  pub own : after t.poster ≡ before t.poster ++ t.item ∷ []
  pub serial : t.serial ≡ length (before t.poster)
  pub others : (p : ℕ) → p ≢ t.poster → after p ≡ before p

-- what is left of the lists of the posters from this one on, one poster after another, each with its serials
abbrev pub untaken : (ℕ → List Post) → ℕ → List (List Post) → List Taken
untaken taken poster [] = []
untaken taken poster (posted ∷ others) =
    numbered poster (length (taken poster)) (drop (length (taken poster)) posted) ++ untaken taken (suc poster) others

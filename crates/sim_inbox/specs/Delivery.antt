-- The rule of a queue: of each poster, what was taken and then what the queue holds is what it posted, in order, with serials from 0 (this project's own).
use Rattle.std.specs.Prelude.{◌≡◌, ℕ, suc, ◌<◌, ◌≤◌, Bool, true, false, ⊤, List, [], ◌∷◌, ◌++◌, All, length, slice_index_or, slice_set, Option, Some, None}
use mathlib.Core.Option.{some}
use lib.ListN.{get_elem?}
use Rattle.sim_types.specs.declared.setup.Post.{Post}
use Rattle.sim_inbox.specs.Lists.{numbered, entries_by, items_by}
use Rattle.sim_inbox.specs.declared.taken.Taken.{Taken}
use Rattle.sim_inbox.specs.declared.rule.View.{View}
use Rattle.sim_inbox.specs.declared.rule.View.TheVariants.{Poster, Taker, Spent}

-- what came to pass at a queue, of which each pass knows a part: how many posters were made, what each posted, what was taken, and who has joined
pub record History : Type 0 where
  pub made : ℕ
  pub posted : ℕ → List Post
  pub taken : List Taken
  pub joined : ℕ → Bool

-- all that a poster posted, once it has joined
abbrev pub Whole : Type 0
Whole = Option (List Post)

-- each poster of which the whole list is known has joined, and posted just that
abbrev pub AreWhole : History → List Whole → Type 0
AreWhole h wholes =
    (p : ℕ) (whole : List Post) → p < length wholes → slice_index_or wholes p None ≡ Some whole → (h.posted p ≡ whole) × (h.joined p ≡ true)

-- what a pass knows is so; the taker's has number 0, and that of a poster its poster's number and one
abbrev pub IsSo : History → ℕ → View → Type 0
IsSo h id (Poster p posted) = (id ≡ suc p) × (p < h.made) × (h.joined p ≡ false) × (h.posted p ≡ posted)
IsSo h id (Taker taken wholes) = (id ≡ 0) × (taken ≡ h.taken) × (length wholes ≡ h.made) × AreWhole h wholes
IsSo h id Spent = ⊤

-- what the queue holds and what the passes know, by their numbers, come of one history
pub record Delivers (items : List Taken) (views : List View) : Type 0 where
  pub history : History
  pub kept : (p : ℕ) → entries_by p (history.taken ++ items) ≡ numbered p 0 (history.posted p)
  pub own : All (λ t. t.poster < history.made) (history.taken ++ items)
  pub passes : length views ≡ suc history.made
  pub unmade : (p : ℕ) → history.made ≤ p → (history.posted p ≡ []) × (history.joined p ≡ false)
  pub known : (id : ℕ) (v : View) → get_elem? views id ≡ some v → IsSo history id v

-- ---- what a view says
abbrev pub number_of : View → ℕ
number_of (Poster p posted) = p
number_of (Taker taken wholes) = 0
number_of Spent = 0

abbrev pub posted_of : View → List Post
posted_of (Poster p posted) = posted
posted_of (Taker taken wholes) = []
posted_of Spent = []

abbrev pub taken_of : View → List Taken
taken_of (Poster p posted) = []
taken_of (Taker taken wholes) = taken
taken_of Spent = []

abbrev pub wholes_of : View → List Whole
wholes_of (Poster p posted) = []
wholes_of (Taker taken wholes) = wholes
wholes_of Spent = []

abbrev pub IsPoster : View → Type 0
IsPoster v = v ≡ Poster (number_of v) (posted_of v)

abbrev pub IsTaker : View → Type 0
IsTaker v = v ≡ Taker (taken_of v) (wholes_of v)

-- ---- the steps
-- a push: one item more was posted
abbrev pub with_post : View → Taken → View
with_post v t = Poster (number_of v) (posted_of v ++ t.item ∷ [])

-- a pop: one entry more was taken, the next of its poster, and where that has joined it was one of its list
pub record Pops (before : View) (t : Taken) (after : View) : Type 0 where
  pub is : after ≡ Taker (taken_of before ++ t ∷ []) (wholes_of before)
  pub own : t.poster < length (wholes_of before)
  pub serial : t.serial ≡ length (items_by t.poster (taken_of before))
  pub more : (whole : List Post) → slice_index_or (wholes_of before) t.poster None ≡ Some whole → length (items_by t.poster (taken_of before)) < length whole

-- what the taker knows of what the queue holds: with what was taken it is the whole list of each poster that has joined
abbrev pub Knows : View → List Taken → Type 0
Knows v items =
    (p : ℕ) (whole : List Post) → p < length (wholes_of v) → slice_index_or (wholes_of v) p None ≡ Some whole → whole ≡ items_by p (taken_of v) ++ items_by p items

-- a split: the taker has one poster more, which has posted nothing
abbrev pub split_off : View → View
split_off v = Taker (taken_of v) (wholes_of v ++ None ∷ [])

abbrev pub next_poster : View → View
next_poster v = Poster (length (wholes_of v)) []

-- a join: the taker knows the whole list of a poster
abbrev pub joined_by : View → View → View
joined_by v w = Taker (taken_of v) (slice_set (wholes_of v) (number_of w) (Some (posted_of w)))

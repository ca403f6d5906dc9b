-- The two ends of a queue, as contracts see them.
use Rattle.std.specs.Prelude.{◌≡◌, ℕ, ◌<◌, List, [], ◌∷◌, length, slice_get, slice_index_or, Some, None}
use Rattle.sim_types.specs.declared.setup.Post.{Post}
use Rattle.sim_inbox.specs.Delivery.{Whole, IsPoster, number_of, posted_of, taken_of, wholes_of}
use Rattle.sim_inbox.specs.Lists.{Begins, items_by}
use Rattle.sim_inbox.specs.declared.taken.Taken.{Taken}
use Rattle.sim_inbox.specs.declared.rule.View.{View}

-- the numbers that tell a queue from every other one
abbrev pub inbox_of : ℕ × ℕ → List ℕ
inbox_of web = web.0 ∷ web.1 ∷ []

pub record QueuePosterOf : Type 0 where
  pub inbox : List ℕ
  pub number : ℕ
  pub posted : List Post

abbrev pub poster_of : ℕ × ℕ → View → QueuePosterOf
poster_of web v = record { inbox = inbox_of web; number = number_of v; posted = posted_of v }

-- what was taken of all posters, and of each that has joined all that it posted
pub record QueueTakerOf : Type 0 where
  pub inbox : List ℕ
  pub taken : List Taken
  pub wholes : List Whole

abbrev pub taker_of : ℕ × ℕ → View → QueueTakerOf
taker_of web v = record { inbox = inbox_of web; taken = taken_of v; wholes = wholes_of v }

-- a poster's pass knows its number, and as many posts as were counted
pub record IsPosting (v : View) (number count : ℕ) : Type 0 where
  pub is_poster : IsPoster v
  pub number_is : number ≡ number_of v
  pub count_is : count ≡ length (posted_of v)

abbrev pub posted_by : QueuePosterOf → List Post
posted_by x = x.posted

-- what was taken of the poster of a number
abbrev pub taken_from : QueueTakerOf → ℕ → List Post
taken_from t p = items_by p t.taken

-- posters of this queue, each at the place of its number
abbrev pub ArePostersOf : List ℕ → List QueuePosterOf → Type 0
ArePostersOf inbox posters = (p : ℕ) (x : QueuePosterOf) → slice_get posters p ≡ Some x → (x.number ≡ p) × (x.inbox ≡ inbox)

abbrev pub HavePostedNothing : List QueuePosterOf → Type 0
HavePostedNothing posters = (p : ℕ) (x : QueuePosterOf) → slice_get posters p ≡ Some x → x.posted ≡ []

-- the list of each poster begins with what was taken of it
abbrev pub BeginWithTaken : QueueTakerOf → List QueuePosterOf → Type 0
BeginWithTaken t posters = (p : ℕ) (x : QueuePosterOf) → slice_get posters p ≡ Some x → Begins (taken_from t p) x.posted

-- of each poster that has joined, all was taken: what an empty queue tells the taker
abbrev pub NoneLeft : QueueTakerOf → Type 0
NoneLeft t = (p : ℕ) (whole : List Post) → p < length t.wholes → slice_index_or t.wholes p None ≡ Some whole → whole ≡ taken_from t p

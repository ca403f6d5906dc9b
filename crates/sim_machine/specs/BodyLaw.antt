-- The law of a body: what it keeps from its start on through each poll, whatever it is told that may be told.
use Rattle.std.specs.Prelude.{Bool, not, nat_lt, ◌==◌, ◌||◌, ◌&&◌, ◌+◌, ◌≤◌, ℕ, ℤ, List, Option, true, false, [], ◌∷◌, ◌++◌, length, slice_index_or, Some, None, if◌then◌else◌, pos, ◌≡◌, IsTrue}
use Rattle.std.specs.List.{list_all}
use Rattle.sim_types.specs.declared.event.EventId.{EventId}
use Rattle.sim_types.specs.declared.event.ProcId.{ProcId}
use Rattle.sim_types.specs.declared.event.Signal.{Signal}
use Rattle.sim_types.specs.declared.event.Signal.TheVariants as signal
use Rattle.sim_types.specs.declared.op.Op.{Op}
use Rattle.sim_types.specs.declared.op.Op.TheVariants as op
use Rattle.sim_types.specs.declared.setup.Class.{Class}
use Rattle.sim_types.specs.declared.setup.Class.TheVariants as class
use Rattle.sim_machine.specs.Events.{is_same}
use Rattle.sim_machine.specs.Tellings.{Place, Telling, CodeFacts, is_class}
use Rattle.sim_machine.specs.MayFollow.{may_be_told, is_enter}
use Rattle.sim_machine.specs.MayAsk.{is_zero, may_ask}

-- the class of places that may get the event that an operation makes
abbrev pub makes_class : Option Op → Class → Bool
makes_class (Some (op.Timeout delay value)) class.Event = true
makes_class (Some op.NewEvent) class.Event = true
makes_class (Some (op.Spawn k args)) class.Proc = true
makes_class (Some (op.AllOf members)) class.Cond = true
makes_class (Some (op.AnyOf members)) class.Cond = true
makes_class (Some (op.Enter res priority preempts)) class.Request = true
makes_class (Some (op.Put res amount priority)) class.Move = true
makes_class (Some (op.Get res least greatest)) class.Move = true
makes_class _ _ = false

-- whether the place holds the event that was just made, and is of the class that such events have
abbrev pub gets_made : Option Op → Signal → Place → Bool
gets_made last (signal.Made e) x = is_same x.event e && makes_class last x.class
gets_made last _ x = false

-- whether each place keeps its class, and its event unless it gets the one that was just made
abbrev pub places_kept : Option Op → Signal → List Place → List Place → Bool
places_kept last told [] [] = true
places_kept last told (x ∷ xs) (y ∷ ys) =
    is_class y.class x.class && (is_same y.event x.event || gets_made last told y) && places_kept last told xs ys
places_kept last told _ _ = false

-- how many places hold another event than before; one poll takes hold of one event at most
abbrev pub changed_places : List Place → List Place → ℕ
changed_places (x ∷ xs) (y ∷ ys) = if is_same y.event x.event then changed_places xs ys else 1 + changed_places xs ys
changed_places _ _ = 0

-- the scopes that a body holds open once it was told this: the request just made opens one
abbrev pub scopes_told : List EventId → Option Op → Signal → List EventId
scopes_told scopes last (signal.Made e) = if is_enter last then scopes ++ e ∷ [] else scopes
scopes_told scopes last _ = scopes

-- the scopes without the innermost
abbrev pub without_last : List EventId → List EventId
without_last [] = []
without_last (e ∷ []) = []
without_last (e ∷ f ∷ es) = e ∷ without_last (f ∷ es)

-- the scopes that a body holds open once it has asked: leaving closes the innermost
abbrev pub scopes_asked : List EventId → Op → List EventId
scopes_asked scopes op.Leave = without_last scopes
scopes_asked scopes _ = scopes

-- one poll that keeps the law: told x, the body b asks for an operation and is then in the state d. What it may ask for
-- is judged by its places after the poll, and by the scopes that are open once it was told x
pub record IsLawfulPoll {B : Type 0} (f : CodeFacts) (tell : Telling B) (b : B) (x : Signal) (asked : Op) (d : B) : Type 0 where
  pub asks : IsTrue (may_ask f (tell.own d) (tell.places d) (scopes_told (tell.scopes b) (tell.last b) x) asked)
  pub own : tell.own d ≡ tell.own b
  pub places : IsTrue (places_kept (tell.last b) x (tell.places b) (tell.places d))
  pub one_place : changed_places (tell.places b) (tell.places d) ≤ 1
  pub scopes : tell.scopes d ≡ scopes_asked (scopes_told (tell.scopes b) (tell.last b) x) asked
  pub last : tell.last d ≡ Some asked

-- whether a place holds the argument of a parameter of its class; an argument that is a number is no event
abbrev pub holds_argument : List Class → List ℤ → Place → Bool
holds_argument (c ∷ cs) (pos n ∷ vs) x = not (is_class c class.Number) && is_class c x.class && (x.event.0 == n) || holds_argument cs vs x
holds_argument (c ∷ cs) (v ∷ vs) x = holds_argument cs vs x
holds_argument _ _ x = false

-- how a process begins: it was not polled, no scope is open, and its places hold event 0 or what it was given
pub record IsLawfulStart {B : Type 0} (f : CodeFacts) (tell : Telling B) (k : ℕ) (args : List ℤ) (p : ProcId) (b : B) : Type 0 where
  pub own : tell.own b ≡ p
  pub places : IsTrue (list_all (λ x. is_zero x.event || holds_argument (slice_index_or f.params k []) args x) (tell.places b))
  pub scopes : tell.scopes b ≡ []
  pub last : tell.last b ≡ None

-- arguments with which a process may begin: one for each parameter, and those that are no numbers are not negative
abbrev pub may_start : List Class → List ℤ → Bool
may_start [] [] = true
may_start (c ∷ cs) (pos n ∷ vs) = may_start cs vs
may_start (c ∷ cs) (v ∷ vs) = is_class c class.Number && may_start cs vs
may_start _ _ = false

-- whether a process of this kind may begin with these arguments
abbrev pub may_begin : CodeFacts → ℕ → List ℤ → Bool
may_begin f k args = nat_lt k (length f.params) && may_start (slice_index_or f.params k []) args

-- the law of a body: its states are sound from the start on, and each poll of a sound state keeps the law and leaves a
-- sound state, where it is told what may be told
pub record IsLawfulBody {B : Type 0} (f : CodeFacts) (tell : Telling B) (sound : B → Type 0) (start : ℕ → List ℤ → ProcId → B) (turn : B → ℤ → Signal → Op → B → Type 0) : Type 0 where
  pub starts : (k : ℕ) (args : List ℤ) (p : ProcId) → IsTrue (may_begin f k args) → IsLawfulStart f tell k args p (start k args p)
  pub begins : (k : ℕ) (args : List ℤ) (p : ProcId) → IsTrue (may_begin f k args) → sound (start k args p)
  pub polls : (b : B) (time : ℤ) (x : Signal) (asked : Op) (d : B) → sound b → IsTrue (may_be_told (tell.last b) x)
      → turn b time x asked d → IsLawfulPoll f tell b x asked d
  pub keeps : (b : B) (time : ℤ) (x : Signal) (asked : Op) (d : B) → sound b → IsTrue (may_be_told (tell.last b) x) → turn b time x asked d → sound d

-- A body that remembers no events and opens no scopes keeps the law of bodies.
use Rattle.std.proofs.Common.{◌≡◌, ℕ, ℤ, Bool, true, false, List, [], refl, lit≤, Option, Some, None}
use Rattle.sim_types.specs.declared.event.ProcId.{ProcId}
use Rattle.sim_types.specs.declared.event.Signal.{Signal}
use Rattle.sim_types.specs.declared.event.Signal.TheVariants as signal
use Rattle.sim_types.specs.declared.op.Op.{Op}
use Rattle.sim_types.specs.declared.op.Op.TheVariants as op
use Rattle.sim_machine.specs.Tellings.{Telling, CodeFacts}
use Rattle.sim_machine.specs.MayFollow.{is_enter}
use Rattle.sim_machine.specs.MayAsk.{may_ask}
use Rattle.sim_machine.specs.BodyLaw.{IsLawfulPoll, IsLawfulBody, scopes_told, scopes_asked}

-- what such a body tells
abbrev pub plain_tells : {B : Type 0} → (B → ProcId) → (B → Option Op) → Telling B
plain_tells own last = record { own = own; places = λ b. []; scopes = λ b. []; last = last }

-- the operations that name no event, no resource and no process
abbrev pub is_plain : Op → Bool
is_plain op.Nop = true
is_plain (op.Pause delay value) = true
is_plain (op.Log value) = true
is_plain (op.Draw lo hi) = true
is_plain (op.Finish value) = true
is_plain (op.Die t) = true
is_plain _ = false

-- such a body begins with its number, and was not polled
pub record BeginsPlain {B : Type 0} (own : B → ProcId) (last : B → Option Op) (p : ProcId) (b : B) : Type 0 where
  pub numbered : own b ≡ p
  pub unpolled : last b ≡ None

-- a poll of it asks for such an operation, keeps its number, and remembers what it asked for
pub record PollsPlain {B : Type 0} (own : B → ProcId) (last : B → Option Op) (b : B) (asked : Op) (d : B) : Type 0 where
  pub plain : is_plain asked ≡ true
  pub same : own d ≡ own b
  pub asks_last : last d ≡ Some asked

-- it never asked for a request
abbrev pub IsPlainBody : {B : Type 0} → (B → Option Op) → B → Type 0
IsPlainBody last b = is_enter (last b) ≡ false

-- no scope is open after what is told to a process that asked for no request
none_opened : (last : Option Op) (x : Signal) → is_enter last ≡ false → scopes_told [] last x ≡ []
none_opened last signal.Begin h = refl
none_opened last (signal.Value v) h = refl
none_opened last (signal.Thrown t) h = refl
none_opened last (signal.Made e) h = rw h refl
none_opened last (signal.Number n) h = refl
none_opened last (signal.Raised n) h = refl
none_opened last signal.Done h = refl

-- such an operation needs no place and no scope
record IsFree (f : CodeFacts) (own : ProcId) (asked : Op) : Type 0 where
  may : may_ask f own [] [] asked ≡ true
  closes : scopes_asked [] asked ≡ []
  opens : is_enter (Some asked) ≡ false

plain_free : (f : CodeFacts) (own : ProcId) (asked : Op) → is_plain asked ≡ true → IsFree f own asked
plain_free f own op.Nop h = record { may = refl; closes = refl; opens = refl }
plain_free f own (op.Pause delay value) h = record { may = refl; closes = refl; opens = refl }
plain_free f own (op.Log value) h = record { may = refl; closes = refl; opens = refl }
plain_free f own (op.Draw lo hi) h = record { may = refl; closes = refl; opens = refl }
plain_free f own (op.Finish value) h = record { may = refl; closes = refl; opens = refl }
plain_free f own (op.Die t) h = record { may = refl; closes = refl; opens = refl }
plain_free f own _ h = cc

poll_lawful : {B : Type 0} (f : CodeFacts) (own : B → ProcId) (last : B → Option Op) (b d : B) (x : Signal) (asked : Op)
    → IsPlainBody last b → PollsPlain own last b asked d → IsLawfulPoll f (plain_tells own last) b x asked d
poll_lawful f own last b d x asked sound polled =
    let none : scopes_told [] (last b) x ≡ [] = none_opened (last b) x sound in
    let free = plain_free f (own d) asked polled.plain in
    record { asks = rw none free.may; own = polled.same; places = refl; one_place = lit≤ tt; scopes = rw none (rw free.closes refl); last = polled.asks_last }

pub plain_lawful : {B : Type 0} (f : CodeFacts) (own : B → ProcId) (last : B → Option Op) (start : ℕ → List ℤ → ProcId → B)
    (turn : B → ℤ → Signal → Op → B → Type 0)
    → ((k : ℕ) (args : List ℤ) (p : ProcId) → BeginsPlain own last p (start k args p))
    → ((b : B) (time : ℤ) (x : Signal) (asked : Op) (d : B) → turn b time x asked d → PollsPlain own last b asked d)
    → IsLawfulBody f (plain_tells own last) (IsPlainBody last) start turn
plain_lawful f own last start turn begins polls =
    record {
      starts = λ k args p may. record { own = (begins k args p).numbered; places = refl; scopes = refl; last = (begins k args p).unpolled };
      begins = λ k args p may. rw (begins k args p).unpolled refl;
      polls = λ b time x asked d sound told turned. poll_lawful f own last b d x asked sound (polls b time x asked d turned);
      keeps = λ b time x asked d sound told turned.
          let polled = polls b time x asked d turned in rw polled.asks_last (plain_free f (own d) asked polled.plain).opens;
    }

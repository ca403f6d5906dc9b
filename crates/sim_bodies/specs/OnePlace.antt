-- What the law of bodies asks about the places of a body that has one, and of any body in a poll that leaves its places alone.
use Rattle.std.proofs.Common.{◌≡◌, ◌≢◌, ℕ, zero, suc, ◌+◌, ◌<◌, ◌≤◌, lit<, lit≤, Bool, true, false, IsTrue, refl, List, [], ◌∷◌, Option, Some}
use Rattle.std.specs.Prelude.{◌||◌, ◌==◌, if◌then◌else◌, slice_index_or}
use Rattle.std.proofs.Math.Bool.{or-true}
use Rattle.std.proofs.lemmas.Option.{same_Some}
use Rattle.sim_types.specs.declared.event.EventId.{EventId}
use Rattle.sim_types.specs.declared.event.ProcId.{ProcId}
use Rattle.sim_types.specs.declared.event.Signal.{Signal}
use Rattle.sim_types.specs.declared.event.Signal.TheVariants as signal
use Rattle.sim_types.specs.declared.op.Op.{Op}
use Rattle.sim_types.specs.declared.setup.Class.{Class}
use Rattle.sim_types.specs.declared.setup.Class.TheVariants as class
use Rattle.sim_machine.specs.Events.{is_same}
use Rattle.sim_machine.specs.Tellings.{Place, Telling, CodeFacts, is_class}
use Rattle.sim_machine.specs.MayAsk.{is_known, is_named, is_zero, may_ask}
use Rattle.sim_machine.specs.BodyLaw.{IsLawfulPoll, changed_places, makes_class, places_kept, scopes_asked, scopes_told}
use Rattle.sim_machine_law.proofs.Events.EventLaws.{is_same-self}
use Rattle.sim_procs.specs.Premises.{ChangesOnly}

-- the places of a body that has one
abbrev pub one_place : Class → EventId → List Place
one_place c e = record { class = c; event = e } ∷ []

class_is_itself : (c : Class) → is_class c c ≡ true
class_is_itself class.Number = refl
class_is_itself class.Event = refl
class_is_itself class.Cond = refl
class_is_itself class.Proc = refl
class_is_itself class.Request = refl
class_is_itself class.Move = refl

-- ---- a poll that leaves the places alone

pub places_stay : (last : Option Op) (x : Signal) (places : List Place) → IsTrue (places_kept last x places places)
places_stay last x [] = refl
places_stay last x (p ∷ ps) = rw (class_is_itself p.class, is_same-self p.event) (places_stay last x ps)

pub none_changes : (places : List Place) → changed_places places places ≡ 0
none_changes [] = refl
none_changes (p ∷ ps) = rw (is_same-self p.event) (none_changes ps)

-- what such a poll has to do besides, where it is told of no scope
pub record LeavesPlaces {B : Type 0} (f : CodeFacts) (tell : Telling B) (b : B) (x : Signal) (asked : Op) (d : B) : Type 0 where
  pub own : tell.own d ≡ tell.own b
  pub places : tell.places d ≡ tell.places b
  pub opens_none : scopes_told (tell.scopes b) (tell.last b) x ≡ tell.scopes b
  pub asks : IsTrue (may_ask f (tell.own b) (tell.places b) (tell.scopes b) asked)
  pub scopes : tell.scopes d ≡ scopes_asked (tell.scopes b) asked
  pub last : tell.last d ≡ Some asked

pub leaves_places : {B : Type 0} {f : CodeFacts} {tell : Telling B} {b : B} {x : Signal} {asked : Op} {d : B}
    → LeavesPlaces f tell b x asked d → IsLawfulPoll f tell b x asked d
leaves_places {tell = tell} {b = b} {x = x} leaves =
    record {
      asks = rw (leaves.own, leaves.places, leaves.opens_none) leaves.asks;
      own = leaves.own;
      places = rw leaves.places (places_stay (tell.last b) x (tell.places b));
      one_place = rw (leaves.places, none_changes (tell.places b)) (lit≤ tt);
      scopes = rw leaves.opens_none leaves.scopes;
      last = leaves.last;
    }

-- ---- a poll that puts the event just made into the place

pub place_gets : (last : Option Op) (c : Class) (e made : EventId) → makes_class last c ≡ true
    → IsTrue (places_kept last (signal.Made made) (one_place c e) (one_place c made))
place_gets last c e made of_class = rw (class_is_itself c, is_same-self made, of_class, or-true (is_same made e)) refl

one_or_none : (same : Bool) → (if same then 0 else 1 + 0) ≤ 1
one_or_none true = lit≤ tt
one_or_none false = lit≤ tt

pub one_changes : (c : Class) (e d : EventId) → changed_places (one_place c e) (one_place c d) ≤ 1
one_changes c e d = one_or_none (is_same d e)

-- ---- the event in the place

-- it may be waited for, where the place is for events
pub may_wait : (f : CodeFacts) (own : ProcId) (c : Class) (e : EventId) → is_class c class.Number ≡ false
    → IsTrue (is_known f own (one_place c e) e)
may_wait f own c e for_events = rw (for_events, is_same-self e) (or-true (is_zero e || is_named f e || (e.0 == own.0)))

-- ---- what the trait wants of a body whose place gets what is told: the place is one of the 64, and no other changes

pub place_is_within : (at : ℕ) → Some 0 ≡ Some at → at < 64
place_is_within at is = rw (← same_Some 0 at is) (lit< tt)

other_places_alike : (e d empty : EventId) (i : ℕ) → Some 0 ≢ Some i → slice_index_or (d ∷ []) i empty ≡ slice_index_or (e ∷ []) i empty
other_places_alike e d empty zero other = absurd (other refl)
other_places_alike e d empty (suc i) other = refl

pub changes_only_place : (e d : EventId) → ChangesOnly (Some 0) (e ∷ []) (d ∷ [])
changes_only_place e d = record { length = refl; each = other_places_alike e d (record { 0 = 0 }) }

-- What contracts see of time and what happens in it, as far as it is kept.
use Rattle.std.specs.Prelude.{◌≡◌, ℕ, ◌+◌, ◌<◌, ◌≤◌, ◌^◌, ℤ, List, Option, None, IsFalse, fold, map, slice_set, slice_index_or, ◌++◌, ◌∷◌, [], Some, ◌==◌, if◌then◌else◌}
use Rattle.std.specs.Option.{option_map}
use Rattle.sim_types.specs.declared.event.EventId.{EventId}
use Rattle.sim_types.specs.declared.event.Callback.{Callback}
use Rattle.sim_types.specs.declared.event.Entry.{Entry}
use Rattle.sim_happen_model.specs.TableOf.{Kept, Spare, IsKept, kept_at, kept_count}
use Rattle.sim_happen_model.specs.Changes.{change_kept, with_holder}

-- the time and how many entries the agenda was ever given; the entries, in no order that counts; every event ever made,
-- None where it is no longer kept; the callbacks that are left to call; and for how much more there is room
pub record HappenOf : Type 0 where
  pub time : ℤ
  pub scheduled : ℕ
  pub agenda : List Entry
  pub events : List (Option Kept)
  pub left : List Callback
  pub spare : Spare

-- an event that is kept and pending, and was not cancelled
pub record IsOpen (h : HappenOf) (e : EventId) : Type 0 where
  pub kept : IsKept h.events e
  pub pending : (kept_at h.events e).event.outcome ≡ None
  pub not_cancelled : IsFalse (kept_at h.events e).event.cancelled

-- each event has so few holders that it can have more
abbrev pub AreHeldByFew : List (Option Kept) → Type 0
AreHeldByFew events = (e : EventId) → (kept_at events e).holders < 2 ^ 60

-- which events are kept, and how many hold each
abbrev pub held : HappenOf → List (Option ℕ)
held h = map (option_map (λ k. k.holders)) h.events

-- all are held as before
abbrev pub as_before : List (Option ℕ) → List (Option ℕ)
as_before hs = hs

-- an event more, which nobody holds
abbrev pub unheld_event : List (Option ℕ) → List (Option ℕ)
unheld_event hs = hs ++ Some 0 ∷ []

-- one holder more of e
abbrev pub one_more : EventId → List (Option ℕ) → List (Option ℕ)
one_more e hs = slice_set hs e.0 (option_map (λ n. n + 1) (slice_index_or hs e.0 None))

-- what happens, once e has a holder more
abbrev pub with_one_more : EventId → HappenOf → HappenOf
with_one_more e h = record h { events = change_kept e with_holder h.events }

-- one holder more of each of these, as often as it stands there
abbrev pub one_more_each : List EventId → List (Option ℕ) → List (Option ℕ)
one_more_each es hs = fold (λ gs e. one_more e gs) hs es

-- a condition more, which nobody holds and which holds its members
abbrev pub holding : List EventId → List (Option ℕ) → List (Option ℕ)
holding members hs = unheld_event (one_more_each members hs)

-- nothing in place of an event that nobody holds
abbrev pub none_if_unheld : Option ℕ → Option ℕ
none_if_unheld None = None
none_if_unheld (Some n) = if n == 0 then None else Some n

-- e is gone, where nobody holds it
abbrev pub gone_if_unheld : EventId → List (Option ℕ) → List (Option ℕ)
gone_if_unheld e hs = slice_set hs e.0 (none_if_unheld (slice_index_or hs e.0 None))

-- where events go, the room that they had is there again
pub record KeepsRoom (old new : HappenOf) : Type 0 where
  pub events : kept_count new.events + new.spare.events ≡ kept_count old.events + old.spare.events
  pub callbacks : old.spare.callbacks ≤ new.spare.callbacks
  pub conditions : old.spare.conditions ≤ new.spare.conditions

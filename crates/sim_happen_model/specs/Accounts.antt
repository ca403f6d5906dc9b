-- The accounts of holders: each event has just so many holders as there are reasons to keep it, so that it goes as soon as
-- nothing comes back to it. (This project's own: in Python an interpreter counts references.)
use Rattle.std.specs.Prelude.{◌≡◌, true, ℕ, ◌+◌, ◌<◌, List, [], Option, None, length, slice_index_or, count_by, All}
use Rattle.sim_types.specs.declared.event.EventId.{EventId}
use Rattle.sim_machine.specs.State.{Calendar, State}
use Rattle.sim_machine.specs.Events.{is_same}
use Rattle.sim_machine.specs.KeptEvents.{is_closed}
use Rattle.sim_machine.specs.Tellings.{Telling}
use Rattle.sim_happen_model.specs.TableOf.{Kept, kept_at, AreNeeded}
use Rattle.sim_happen_model.specs.Holders.{members_in, memberships}
use Rattle.sim_happen_model.specs.Naming.{held_alone}

-- each event has so many holders as hold it alone, as conditions have it for a member, and as are still to be given back;
-- one that is not kept has none. And members were made before their conditions
pub record Balanced (alone : EventId → ℕ) (todo : List EventId) (events : List (Option Kept)) : Type 0 where
  pub each : (e : EventId) →
      (kept_at events e).holders ≡ alone e + memberships events e + count_by (is_same e) todo
  pub older : (e : EventId) → All (λ m. m.0 < e.0) (members_in (kept_at events e))

-- what was made and is kept no more is closed
pub record AreGoneClosed (events : List (Option Kept)) (c : Calendar) : Type 0 where
  pub each : (e : EventId) → e.0 < length events → slice_index_or events e.0 None ≡ None →
      is_closed c e ≡ true

-- the accounts are right: they balance, with nothing to give back; what is kept no more is closed; and what is kept is to
-- be kept, since it is not closed or has a holder
pub record Accounts {B : Type 0}
    (named : ℕ) (tell : Telling B) (events : List (Option Kept)) (s : State B) : Type 0 where
  pub balanced : Balanced (held_alone named tell s) [] events
  pub gone : AreGoneClosed events s.facilities.calendar
  pub needed : AreNeeded events

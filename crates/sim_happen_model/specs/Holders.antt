-- How conditions hold their members, and how a holder is given back.
use Rattle.std.specs.Prelude.{◌≡◌, ℕ, ◌+◌, ◌≤◌, ◌<◌, zero, suc, List, Option, Some, None, fold, slice_set, count_by, if◌then◌else◌}
use Rattle.std.specs.List.{sum_by}
use Rattle.sim_types.specs.declared.event.EventId.{EventId}
use Rattle.sim_types.specs.declared.event.Outcome.{Outcome}
use Rattle.sim_machine.specs.Events.{is_same}
use Rattle.sim_machine.specs.Effect.{pass_on}
use Rattle.sim_happen_model.specs.HappenOf.{HappenOf}
use Rattle.sim_happen_model.specs.Shows.{Follows}
use Rattle.sim_machine.specs.Conditions.{condition_of}
use Rattle.sim_happen_model.specs.TableOf.{Kept, kept_at, kept_or_new, is_needed}
use Rattle.sim_happen_model.specs.Changes.{without_holder}

-- the members of an event that is kept
abbrev pub members_in : Kept → List EventId
members_in k = (condition_of k.event.condition).members

-- how often e is a member of an event
abbrev pub member_count : EventId → Option Kept → ℕ
member_count e k = count_by (is_same e) (members_in (kept_or_new k))

-- how often e is a member of the conditions that are kept
abbrev pub memberships : List (Option Kept) → EventId → ℕ
memberships events e = sum_by (member_count e) events

-- a holder of e that is no condition
abbrev pub HasOwnHolder : List (Option Kept) → EventId → Type 0
HasOwnHolder events e = memberships events e < (kept_at events e).holders

-- each event has a holder for each time that it stands here, beside those that are conditions
pub record AreOwed (es : List EventId) (events : List (Option Kept)) : Type 0 where
  pub each : (e : EventId) → memberships events e + count_by (is_same e) es ≤ (kept_at events e).holders

-- e has one holder fewer; where it is not to be kept then it goes, and each of its members, which it held, has one fewer,
-- and so on
abbrev pub unheld_within : ℕ → EventId → List (Option Kept) → List (Option Kept)
unheld_within zero e events = events
unheld_within (suc depth) e events =
    let k = without_holder (kept_at events e) in
    if is_needed k then slice_set events e.0 (Some k)
    else fold (λ es m. unheld_within depth m es) (slice_set events e.0 None) (members_in k)

-- the same to the end, since members have smaller numbers
abbrev pub unheld : EventId → List (Option Kept) → List (Option Kept)
unheld e events = unheld_within (e.0 + 1) e events

-- one event gets the outcome of another, and then has a holder fewer
pub record PassesOn (outcome : Option Outcome) (e : EventId) (old new : HappenOf) : Type 0 where
  pub passed : HappenOf
  pub follows : Follows (pass_on outcome e) old passed
  pub events : new.events ≡ unheld e passed.events
  pub rest : new ≡ record passed { events = new.events; spare = new.spare }

-- every event is a member as often as before
abbrev pub SameMemberships : List (Option Kept) → List (Option Kept) → Type 0
SameMemberships old new = (e : EventId) → memberships new e ≡ memberships old e

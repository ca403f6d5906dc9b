-- What most changes of a state are shown to keep at once. The facts of a lawful state that are not among these are kept
-- beside them, in `FactsBeside`.
use Rattle.std.specs.Prelude.{ℕ, ◌≡◌, ◌≢◌, ◌≤◌, ◌&&◌, IsTrue, not, nat_lt, nat_le, count_by, All, AllPairs, length}
use Rattle.std.specs.List.{AllPass}
use Rattle.sim_types.specs.declared.event.EventId.{EventId}
use Rattle.sim_machine.specs.State.{Calendar, Control, State, Plan}
use Rattle.sim_types.specs.declared.setup.Until.{Until}
use Rattle.sim_machine.specs.Effect.{calendar}
use Rattle.sim_machine.specs.Events.{event_at, is_pending, is_processed}
use Rattle.sim_machine.specs.Users.{users}
use Rattle.sim_machine.specs.Requests.{waits}
use Rattle.sim_machine.specs.Tellings.{Telling}
use Rattle.sim_machine.specs.Standing.{one_if, was_made, left_of}
use Rattle.sim_machine.specs.LawfulTimes.{LawfulTimes}
use Rattle.sim_machine.specs.LawfulRegistrations.{LawfulRegistrations}
use Rattle.sim_machine.specs.LawfulProcesses.{LawfulProcesses}
use Rattle.sim_machine.specs.LawfulInterruptions.{LawfulInterruptions}
use Rattle.sim_machine.specs.LawfulWaiting.{AreOfTwo, KnowsItsScopes, has_scope, is_cancelled_well, is_scope_well, is_told_made, must_wait, request_has_scope, waits_well}
use Rattle.sim_machine.specs.LawfulCapacities.{LawfulCapacities}
use Rattle.sim_machine.specs.LawfulConditions.{IsConditionByKind, builds_condition, builds_first, builds_left_first, checks_at, counts_well, is_build_of, is_to_be_built, members_are_older, needs_build, times_member}
use Rattle.sim_machine.specs.LawfulBodies.{LawfulBodies}
use Rattle.sim_machine.specs.LawfulChains.{LawfulChains}
use Rattle.sim_machine.specs.LawfulStops.{LawfulStops}
use Rattle.sim_machine.specs.LawfulTries.{LawfulTries}
use Rattle.sim_machine.specs.LawfulLedger.{LawfulLedger}
use Rattle.sim_machine.specs.Lawful.{Lawful}

-- each named event is there, pending and not processed, as before the first unit
abbrev pub AreNamedPending : {B : Type 0} → Plan B → State B → Type 0
AreNamedPending g s =
    (h : EventId) → IsTrue (nat_lt 0 h.0 && nat_le h.0 g.setup.events) → IsTrue (is_pending (calendar s) h && not (is_processed (calendar s) h))

-- no request has two open scopes
abbrev pub AreScopesApart : {B : Type 0} → State B → Type 0
AreScopesApart s = AllPairs AreOfTwo s.scopes

-- what is a condition is one by its kind
abbrev pub AreConditionsByKind : Calendar → Type 0
AreConditionsByKind c = All IsConditionByKind c.events

-- what waits is pending, and it and each user stands in an open scope of its live process
pub record WaitingBasis {B : Type 0} (g : Plan B) (tell : Telling B) (s : State B) : Type 0 where
  pub waiters : AllPass (waits_well s.facilities.calendar) s.facilities.waiters
  pub once : AllPairs (λ w v. w.event ≢ v.event) s.facilities.waiters
  pub requests : AllPass (λ w. request_has_scope s.scopes w w.want) s.facilities.waiters
  pub using : (res : ℕ) → AllPass (λ u. has_scope s.scopes u.request u.process res) (users res s.facilities.ledger)
  pub scopes : AllPass (is_scope_well g.setup.resources s) s.scopes
  pub bodies : All (KnowsItsScopes tell s) s.processes

-- a condition counts only members, and is built once, before anything else that it calls
pub record ConditionsBasis (c : Calendar) (control : Control) : Type 0 where
  pub members : (e : EventId) → IsTrue (was_made c e) → IsTrue (members_are_older c e)
  pub counts : (e : EventId) → IsTrue (counts_well c e)
  pub checks : (cond e : EventId) → checks_at c control cond e ≤ times_member c cond e
  pub unbuilt : (cond e : EventId) → IsTrue (nat_lt 0 (checks_at c control cond e)) → IsTrue (is_to_be_built c control cond)
  pub builds : (cond : EventId) → count_by (λ r. is_build_of cond r.callback) c.registered ≡ one_if (needs_build c cond)
  pub first : (cond : EventId) → IsTrue (builds_first c cond)
  pub left : (cond : EventId) → IsTrue (builds_left_first control cond)

-- what most changes keep at once
pub record LawfulBasis {B : Type 0} (g : Plan B) (tell : Telling B) (sound : B → Type 0) (s : State B) : Type 0 where
  pub times : LawfulTimes s.facilities.calendar
  pub registrations : LawfulRegistrations s.facilities.calendar s.control
  pub processes : LawfulProcesses g.setup.events s
  pub interruptions : LawfulInterruptions s
  pub waiting : WaitingBasis g tell s
  pub capacities : LawfulCapacities g.setup.resources s.facilities
  pub conditions : ConditionsBasis s.facilities.calendar s.control
  pub bodies : LawfulBodies tell sound s
  pub chains : LawfulChains s.facilities.calendar s.control

-- the facts beside: no request has two open scopes; what is to wait at a resource does, and what was cancelled is pending;
-- what is a condition is one by its kind, and what is left to build is a condition; and only what may stop the run does
pub record FactsBeside {B : Type 0} (u : Until) (s : State B) : Type 0 where
  pub apart : AreScopesApart s
  pub pending : (e : EventId) → IsTrue (must_wait (event_at s.facilities.calendar e)) → IsTrue (waits e s.facilities)
  pub cancelled : AllPass is_cancelled_well s.facilities.calendar.events
  pub told : (e : EventId) → IsTrue (is_told_made s.control e) → IsTrue (not (event_at s.facilities.calendar e).cancelled)
  pub kinds : AreConditionsByKind s.facilities.calendar
  pub left_builds : AllPass (builds_condition s.facilities.calendar) (left_of s.control)
  pub stops : LawfulStops u s.facilities.calendar s.control

module _ {B : Type 0} (g : Plan B) (tell : Telling B) (sound : B → Type 0) (s : State B) where
  pub basis_of : Lawful g tell sound s → LawfulBasis g tell sound s
  basis_of h =
      record {
        times = h.times;
        registrations = h.registrations;
        processes = h.processes;
        interruptions = h.interruptions;
        waiting = record {
          waiters = h.waiting.waiters;
          once = h.waiting.once;
          requests = h.waiting.requests;
          using = h.waiting.using;
          scopes = h.waiting.scopes;
          bodies = h.waiting.bodies;
        };
        capacities = h.capacities;
        conditions = record {
          members = h.conditions.members;
          counts = h.conditions.counts;
          checks = h.conditions.checks;
          unbuilt = h.conditions.unbuilt;
          builds = h.conditions.builds;
          first = h.conditions.first;
          left = h.conditions.left;
        };
        bodies = h.bodies;
        chains = h.chains;
      }

  pub facts_of : Lawful g tell sound s → FactsBeside g.setup.until s
  facts_of h =
      record {
        apart = h.waiting.apart;
        pending = h.waiting.pending;
        cancelled = h.waiting.cancelled;
        told = h.waiting.told;
        kinds = h.conditions.kinds;
        left_builds = h.conditions.left_builds;
        stops = h.stops;
      }

  pub lawful_from : LawfulBasis g tell sound s → FactsBeside g.setup.until s
      → LawfulTries (length g.setup.resources) s.facilities.calendar s.control → LawfulLedger s.facilities
      → Lawful g tell sound s
  lawful_from l h tries ledger =
      record {
        times = l.times;
        registrations = l.registrations;
        processes = l.processes;
        interruptions = l.interruptions;
        waiting = record {
          waiters = l.waiting.waiters;
          once = l.waiting.once;
          pending = h.pending;
          cancelled = h.cancelled;
          told = h.told;
          requests = l.waiting.requests;
          using = l.waiting.using;
          scopes = l.waiting.scopes;
          apart = h.apart;
          bodies = l.waiting.bodies;
        };
        capacities = l.capacities;
        conditions = record {
          members = l.conditions.members;
          counts = l.conditions.counts;
          checks = l.conditions.checks;
          unbuilt = l.conditions.unbuilt;
          builds = l.conditions.builds;
          first = l.conditions.first;
          left = l.conditions.left;
          left_builds = h.left_builds;
          kinds = h.kinds;
        };
        bodies = l.bodies;
        chains = l.chains;
        stops = h.stops;
        tries = tries;
        ledger = ledger;
      }

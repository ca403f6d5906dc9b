-- What is known where scopes are left and where a process is dropped (that a process can be dropped is this project's own:
-- SimPy has no such call).
use Rattle.std.specs.Prelude.{◌≡◌, ◌≢◌, ◌+◌, ◌<◌, ◌≤◌, true, false, [], List, None, length, All, IsTrue}
use Rattle.std.specs.Option.{option_map}
use Rattle.sim_types.specs.declared.event.EventId.{EventId}
use Rattle.sim_types.specs.declared.event.ProcId.{ProcId}
use Rattle.sim_types.specs.declared.setup.Resource.{Resource}
use Rattle.sim_machine.specs.State.{Calendar, Facilities, OpenScope, State}
use Rattle.sim_machine.specs.Bodies.{BodyOf}
use Rattle.sim_machine.specs.Events.{is_same, event_at, unregister, without_first, is_resume_of}
use Rattle.sim_machine.specs.KeptEvents.{is_closed}
use Rattle.sim_machine.specs.Processes.{event_of}
use Rattle.sim_machine.specs.Scopes.{leave_innermost, leave_all}
use Rattle.sim_machine.specs.Users.{resource_at}
use Rattle.sim_machine.specs.MayAsk.{takes_requests, most_scopes}
use Rattle.sim_procs.specs.RecordOf.{RecordOf, record_of, change_record, without_innermost}
use Rattle.sim_happen_model.specs.TableOf.{IsKept}
use Rattle.sim_happen_model.specs.HappenOf.{HappenOf, held}
use Rattle.sim_happen_model.specs.Shows.{Shows}
use Rattle.sim_steps_model.specs.PartsOf.{PartsOf}
use Rattle.sim_steps_model.specs.StandsFor.{Balances}
use Rattle.sim_steps_model.specs.Becoming.{Stands, Becomes}

-- an event that was made, is pending, and is not closed
pub record IsOpenIn (c : Calendar) (e : EventId) : Type 0 where
  pub made : e.0 < length c.events
  pub pending : (event_at c e).outcome ≡ None
  pub not_closed : is_closed c e ≡ false

-- the resource of the scope takes requests, and its request waits at no other
pub record CanBeLeft (setup : List Resource) (f : Facilities) (x : OpenScope) : Type 0 where
  pub there : x.res < length setup
  pub slots : IsTrue (takes_requests (resource_at setup x.res).kind)
  pub alone : All (λ w. is_same w.event x.request ≡ true → w.res ≡ x.res) f.waiters

-- the kernel stands for some state in which what waits is open and each open scope can be left; its accounts balance, where
-- holders of some events are still to be given back
pub record CanLeave {B Code : Type 0} (body : BodyOf B Code) (parts : PartsOf B Code) : Type 0 where
  pub state : State B
  pub stands : Stands parts state
  pub owed : List EventId
  pub balances : Balances body owed parts state
  pub waiting : All (λ w. IsOpenIn state.facilities.calendar w.event) state.facilities.waiters
  pub each : All (CanBeLeft parts.setup.resources state.facilities) state.scopes

-- the innermost scope of the process is left, if one is open, and others can be left then; there is an event more at most,
-- with one callback
pub record LeavesInnermost {B Code : Type 0} (body : BodyOf B Code) (p : ProcId) (old new : PartsOf B Code) : Type 0 where
  pub becomes : Becomes body (leave_innermost p) old new
  pub can : CanLeave body new
  pub live : new.live ≡ change_record p (λ r. record r { scopes = without_innermost r.scopes }) old.live
  pub control : new.control ≡ old.control
  pub made : length new.shared.happen.events ≤ length old.shared.happen.events + 1
  pub events : old.shared.happen.spare.events ≤ new.shared.happen.spare.events + 1
  pub callbacks : old.shared.happen.spare.callbacks ≤ new.shared.happen.spare.callbacks + 1

-- the record of a process once all its scopes are left
abbrev pub without_scopes : {B : Type 0} → RecordOf B → RecordOf B
without_scopes r = record r { scopes = [] }

-- all scopes of the process are left, the innermost first; its record stays, with no scope
pub record LeavesAll {B Code : Type 0} (body : BodyOf B Code) (p : ProcId) (old new : PartsOf B Code) : Type 0 where
  pub becomes : Becomes body (leave_all p) old new
  pub can : CanLeave body new
  pub found : record_of p new.live ≡ option_map without_scopes (record_of p old.live)
  pub control : new.control ≡ old.control

-- a process waits no longer for its target, and nothing that is left to call resumes it
pub record StopsWaiting (target : EventId) (p : ProcId) (old new : HappenOf) : Type 0 where
  pub each : (c : Calendar) → Shows old c → Shows new (unregister target (is_resume_of p) c)
  pub held : held new ≡ held old
  pub left : new.left ≡ without_first (is_resume_of p) old.left
  pub events : new.spare.events ≡ old.spare.events
  pub callbacks : old.spare.callbacks ≤ new.spare.callbacks

-- a process with this record can be dropped: its target is kept, its scopes, not too many, can be left, and its event is open
-- and no request of a scope
pub record CanBeDropped {B Code : Type 0} (body : BodyOf B Code) (r : RecordOf B) (parts : PartsOf B Code) : Type 0 where
  pub target : IsKept parts.shared.happen.events r.target
  pub few : length r.scopes ≤ most_scopes
  pub can : CanLeave body parts
  pub is_open : IsOpenIn can.state.facilities.calendar (event_of r.id)
  pub apart : All (λ x. x.request.0 ≢ r.id.0) can.state.scopes

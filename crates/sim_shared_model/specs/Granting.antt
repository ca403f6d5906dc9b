-- How the first request at a desk is tried, in its place among the resources (SimPy's "Shared resources").
use Rattle.std.specs.Prelude.{◌≡◌, ℕ, ℤ, pos, slice_get, slice_set, Some}
use Rattle.sim_types.specs.Throws.{preemption}
use Rattle.sim_types.specs.declared.event.EventId.{EventId}
use Rattle.sim_types.specs.declared.event.ProcId.{ProcId}
use Rattle.sim_types.specs.declared.event.Throw.{Throw}
use Rattle.sim_machine.specs.State.{Calendar}
use Rattle.sim_machine.specs.Triggering.{succeed, make_interruption}
use Rattle.sim_shared_model.specs.declared.desk.Grant.{Grant}
use Rattle.sim_shared_model.specs.DeskOf.{DeskOf}
use Rattle.sim_shared_model.specs.Attempts.{attempt_of}
use Rattle.sim_shared_model.specs.declared.resource.AnyResource.TheVariants.{Desk}
use Rattle.sim_shared_model.specs.SharedOf.{SharedOf}

-- the first that waits at the desk of this place was tried now, which came to this; the desk is left as the attempt
-- leaves it, but for its room, and all else stays
pub record TriesDesk (res : ℕ) (answer : Grant) (old new : SharedOf) : Type 0 where
  pub before : DeskOf
  pub after : DeskOf
  pub there : slice_get old.resources res ≡ Some (Desk before)
  pub answers : answer ≡ (attempt_of old.happen.time before).answer
  pub leaves : after ≡ record ((attempt_of old.happen.time before).desk) { spare = after.spare }
  pub rest : new ≡ record old { resources = slice_set old.resources res (Desk after) }

-- what a process is told whose request is a user no longer: since when it was one (SimPy's Preempted)
abbrev pub preempted_since : ℤ → Throw
preempted_since since = record { kind = preemption; value = since }

-- a process is told so, and then this request succeeds
abbrev pub interrupted_for : EventId → ProcId → ℤ → Calendar → Calendar
interrupted_for request p since c = succeed request (pos 0) (make_interruption p (preempted_since since) c)

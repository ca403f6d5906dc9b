-- What holds of facilities before an attempt holds after it, where serving the waiter and preempting a user keep it.
use Rattle.std.proofs.Common.{ℤ, List, Option, Some, None}
use Rattle.sim_types.specs.declared.event.ProcId.{ProcId}
use Rattle.sim_types.specs.declared.event.RequestKey.{RequestKey}
use Rattle.sim_types.specs.declared.setup.Resource.{Resource}
use Rattle.sim_machine.specs.State.{Want, Slot, Give, Take, Waiter, User, Deed, Facilities}
use Rattle.sim_machine.specs.Users.{users, items}
use Rattle.sim_machine.specs.Attempts.{Grant, NoSlot, FreeSlot, SlotOf, Served, grant_of, put_served, get_served}
use Rattle.sim_machine.specs.Trying.{level, serve, preempt, use_slot, serve_if_any, attempt_for}

module _ (P : Facilities → Type 0) (w : Waiter) (served : (value : ℤ) (deed : Deed) (f : Facilities) → P f → P (serve w value deed f)) (preempted : (u : User) (f : Facilities) → P f → P (preempt w.res u f)) where
  slot_keeps : (p : ProcId) (key : RequestKey) (grant : Grant) (f : Facilities) → P f → P (use_slot w p key grant f)
  slot_keeps p key NoSlot f h = h
  slot_keeps p key FreeSlot f h = served _ _ f h
  slot_keeps p key (SlotOf u) f h = served _ _ (preempt w.res u f) (preempted u f h)

  served_keeps : (o : Option Served) (f : Facilities) → P f → P (serve_if_any w o f)
  served_keeps None f h = h
  served_keeps (Some x) f h = served x.value x.deed f h

  pub attempt_keeps : (rs : List Resource) (r : Resource) (want : Want) (f : Facilities) → P f → P (attempt_for rs r w want f)
  attempt_keeps rs r (Slot p key) f h = slot_keeps p key (grant_of r key (users w.res f.ledger)) f h
  attempt_keeps rs r (Give amount priority) f h =
      served_keeps (put_served r w amount priority (level rs w.res f) (items w.res f.ledger)) f h
  attempt_keeps rs r (Take least greatest) f h =
      served_keeps (get_served r w least greatest (level rs w.res f) (items w.res f.ledger)) f h

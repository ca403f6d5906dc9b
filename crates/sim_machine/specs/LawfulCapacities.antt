-- Lawful capacities: none is exceeded, and no level falls below 0.
use Rattle.std.specs.Prelude.{Bool, nat_lt, ◌&&◌, not, int_lt, ℕ, ℤ, List, length, if◌then◌else◌, pos, ◌<◌, ◌≤ℤ◌}
use Rattle.std.specs.List.{AllPass}
use Rattle.sim_types.specs.declared.setup.Resource.{Resource}
use Rattle.sim_types.specs.declared.setup.ResourceKind.{ResourceKind}
use Rattle.sim_machine.specs.State.{Calendar, Want, Slot, Give, Take, Waiter, User, Facilities}
use Rattle.sim_machine.specs.Events.{is_pending}
use Rattle.sim_machine.specs.Users.{resource_at, users, items}
use Rattle.sim_machine.specs.Attempts.{is_container}
use Rattle.sim_machine.specs.Trying.{level}
use Rattle.sim_machine.specs.MayAsk.{takes_requests}
use Rattle.sim_machine.specs.Standing.{was_made, kind_at}
use Rattle.sim_machine.specs.LawfulWaiting.{is_request_kind, is_put_kind, is_get_kind}

-- whether the request of a user was made and is not pending: it was granted
abbrev pub is_in_use : Calendar → User → Bool
is_in_use c u = was_made c u.request && not (is_pending c u.request)

-- whether a put or get of this amount is for this kind: a container, and then for more than nothing, or a store
abbrev pub move_fits : ResourceKind → ℤ → Bool
move_fits k amount = if is_container k then int_lt (pos 0) amount else not (takes_requests k)

-- whether a waiter is of the kind of its want, and waits for what its resource gives
abbrev pub waits_for_fitting : Calendar → Resource → Waiter → Want → Bool
waits_for_fitting c r w (Slot p key) = is_request_kind (kind_at c w.event) && takes_requests r.kind
waits_for_fitting c r w (Give amount priority) = is_put_kind (kind_at c w.event) && move_fits r.kind amount
waits_for_fitting c r w (Take least greatest) = is_get_kind (kind_at c w.event) && move_fits r.kind least

-- no capacity is exceeded, and no level falls below 0
pub record LawfulCapacities (rs : List Resource) (f : Facilities) : Type 0 where
  pub slots : (res : ℕ) → res < length rs → pos (length (users res f.ledger)) ≤ℤ (resource_at rs res).capacity
  pub in_use : (res : ℕ) → AllPass (is_in_use f.calendar) (users res f.ledger)
  pub level_low : (res : ℕ) → res < length rs → pos 0 ≤ℤ level rs res f
  pub level_high : (res : ℕ) → res < length rs → level rs res f ≤ℤ (resource_at rs res).capacity
  pub room : (res : ℕ) → res < length rs → pos (length (items res f.ledger)) ≤ℤ (resource_at rs res).capacity
  pub waiting : AllPass (λ w. nat_lt w.res (length rs) && waits_for_fitting f.calendar (resource_at rs w.res) w w.want) f.waiters

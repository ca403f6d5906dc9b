-- Lawful ledgers: each request is granted once, and each put deposits once.
use Rattle.std.specs.Prelude.{Bool, not, true, false, Option, Some, None, All, AllPairs, IsTrue}
use Rattle.std.specs.List.{AllPass}
use Rattle.sim_types.specs.declared.event.EventId.{EventId}
use Rattle.sim_machine.specs.State.{Calendar, Deed, Granted, Deposited, Facilities}
use Rattle.sim_machine.specs.Events.{is_same}
use Rattle.sim_machine.specs.Standing.{was_made}

-- the event that a deed serves and tells by name: the request that it grants, or the put whose item it deposits
abbrev pub served_by : Deed → Option EventId
served_by (Granted res user) = Some user.request
served_by (Deposited res item) = Some item.put
served_by _ = None

-- whether there is such an event, and it is e
abbrev pub is_served : EventId → Option EventId → Bool
is_served e None = false
is_served e (Some x) = is_same x e

-- whether the deed serves e so
abbrev pub serves : EventId → Deed → Bool
serves e d = is_served e (served_by d)

-- two deeds do not serve the same event
abbrev pub ServeApart : Deed → Deed → Type 0
ServeApart d x = (e : EventId) → IsTrue (serves e d) → ¬ IsTrue (serves e x)

-- whether the event, if there is one, was made
abbrev pub was_made_if_any : Calendar → Option EventId → Bool
was_made_if_any c None = true
was_made_if_any c (Some x) = was_made c x

-- each request is granted once and each put deposits once; what waits was served by no deed; and what was served was made
pub record LawfulLedger (f : Facilities) : Type 0 where
  pub once : AllPairs ServeApart f.ledger
  pub apart : All (λ w. AllPass (λ d. not (serves w.event d)) f.ledger) f.waiters
  pub made : AllPass (λ d. was_made_if_any f.calendar (served_by d)) f.ledger

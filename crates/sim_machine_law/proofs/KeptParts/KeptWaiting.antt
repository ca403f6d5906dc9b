-- What waits stays lawful, where the queues, the ledger and the open scopes stay.
use Rattle.std.proofs.Common.{◌≡◌, ℕ, ◌<◌, true, ◌&&◌, not, List, length, ap, ◌∙◌, arith, All}
use Rattle.std.specs.Prelude.{nat_lt, slice_index_or}
use Rattle.std.proofs.lemmas.Bool.{and_parts, and_from, ltb-true, lt-ltb}
use Rattle.std.proofs.lemmas.List.Elements.{All-weaker}
use Rattle.sim_types.specs.declared.event.EventId.{EventId}
use Rattle.sim_types.specs.declared.line.Line.{Line}
use Rattle.sim_types.specs.declared.setup.Resource.{Resource}
use Rattle.sim_machine.specs.State.{Calendar, Waiter, OpenScope, ProcessOf, Control, State, Plan}
use Rattle.sim_machine.specs.Events.{event_at, is_pending}
use Rattle.sim_machine.specs.Users.{resource_at}
use Rattle.sim_machine.specs.Processes.{is_alive}
use Rattle.sim_machine.specs.Tellings.{Telling}
use Rattle.sim_machine.specs.MayAsk.{takes_requests}
use Rattle.sim_machine.specs.Standing.{was_made, kind_at}
use Rattle.sim_machine.specs.LawfulWaiting.{may_wait_kind, waits_well, is_scope_well, is_request_kind, KnowsItsScopes}
use Rattle.sim_machine_law.proofs.KeptParts.KeptBodies.{four_parts, four_from}
use Rattle.sim_machine_law.proofs.KeptParts.KeptBodiesEvents.{Grown}
use Rattle.sim_machine_law.proofs.KeptParts.LawfulBasis.{WaitingBasis}

-- ---- events

waits_grown : (c d : Calendar) (w : Waiter) → Grown c d → is_pending d w.event ≡ true → waits_well c w ≡ true → waits_well d w ≡ true
waits_grown c d w g pending h =
    let e : EventId = w.event in
    let parts : (was_made c e ≡ true) × (is_pending c e ≡ true) × (not (event_at c e).cancelled ≡ true) × (may_wait_kind (kind_at c e) ≡ true) = four_parts (was_made c e) (is_pending c e) (not (event_at c e).cancelled) (may_wait_kind (kind_at c e)) h in
    let below : e.0 < length c.events = ltb-true e.0 (length c.events) parts.0 in
    four_from (was_made d e) (is_pending d e) (not (event_at d e).cancelled) (may_wait_kind (kind_at d e)) (lt-ltb e.0 (length d.events) (omega (arith, below, g.longer))) pending (ap not (g.cancelled e) ∙ parts.2) (ap may_wait_kind (g.kinds e below) ∙ parts.3)

-- what waits is pending
pub waits_pending : (c : Calendar) (w : Waiter) → waits_well c w ≡ true → is_pending c w.event ≡ true
waits_pending c w h = (four_parts (was_made c w.event) (is_pending c w.event) (not (event_at c w.event).cancelled) (may_wait_kind (kind_at c w.event)) h).1

scope_parts : {B : Type 0} (rs : List Resource) (s : State B) (x : OpenScope) → is_scope_well rs s x ≡ true
    → (is_alive x.process s ≡ true) × (was_made s.facilities.calendar x.request ≡ true)
    × (is_request_kind (kind_at s.facilities.calendar x.request) ≡ true) × (nat_lt x.res (length rs) ≡ true)
    × (takes_requests (resource_at rs x.res).kind ≡ true)
scope_parts rs s x h =
    let c : Calendar = s.facilities.calendar in
    let r : EventId = x.request in
    let outer : ((is_alive x.process s && was_made c r && is_request_kind (kind_at c r) && nat_lt x.res (length rs)) ≡ true) × (takes_requests (resource_at rs x.res).kind ≡ true) = and_parts (is_alive x.process s && was_made c r && is_request_kind (kind_at c r) && nat_lt x.res (length rs)) (takes_requests (resource_at rs x.res).kind) h in
    let parts : (is_alive x.process s ≡ true) × (was_made c r ≡ true) × (is_request_kind (kind_at c r) ≡ true) × (nat_lt x.res (length rs) ≡ true) = four_parts (is_alive x.process s) (was_made c r) (is_request_kind (kind_at c r)) (nat_lt x.res (length rs)) outer.0 in
    (parts.0, parts.1, parts.2, parts.3, outer.1)

-- the process of an open scope is alive
pub scope_alive : {B : Type 0} (rs : List Resource) (s : State B) (x : OpenScope) → is_scope_well rs s x ≡ true → is_alive x.process s ≡ true
scope_alive rs s x h = (scope_parts rs s x h).0

-- and its request was made
pub scope_made : {B : Type 0} (rs : List Resource) (s : State B) (x : OpenScope) → is_scope_well rs s x ≡ true → was_made s.facilities.calendar x.request ≡ true
scope_made rs s x h = (scope_parts rs s x h).1

scope_grown : {B : Type 0} (rs : List Resource) (s t : State B) (x : OpenScope)
    → Grown s.facilities.calendar t.facilities.calendar → (is_alive x.process s ≡ true → is_alive x.process t ≡ true)
    → is_scope_well rs s x ≡ true → is_scope_well rs t x ≡ true
scope_grown rs s t x g alive h =
    let c : Calendar = s.facilities.calendar in
    let d : Calendar = t.facilities.calendar in
    let r : EventId = x.request in
    let parts : (is_alive x.process s ≡ true) × (was_made c r ≡ true) × (is_request_kind (kind_at c r) ≡ true) × (nat_lt x.res (length rs) ≡ true) × (takes_requests (resource_at rs x.res).kind ≡ true) = scope_parts rs s x h in
    let below : r.0 < length c.events = ltb-true r.0 (length c.events) parts.1 in
    and_from (is_alive x.process t && was_made d r && is_request_kind (kind_at d r) && nat_lt x.res (length rs)) (takes_requests (resource_at rs x.res).kind)
    (four_from (is_alive x.process t) (was_made d r) (is_request_kind (kind_at d r)) (nat_lt x.res (length rs)) (alive parts.0) (lt-ltb r.0 (length d.events) (omega (arith, below, g.longer))) (ap is_request_kind (g.kinds r below) ∙ parts.2) parts.3)
    parts.4

-- ---- the queues, the ledger and the scopes stay

-- all but the queues, the ledger and the open scopes may be other
abbrev pub moved : {B : Type 0} → State B → Calendar → List (ProcessOf B) → Control → ℕ → ℕ → List Line → State B
moved s d ps k processed drawn lines =
    record s { facilities = record s.facilities { calendar = d }; processes = ps; control = k; processed = processed; drawn = drawn; lines = lines }

pub waiting_moved : {B : Type 0} (g : Plan B) (tell : Telling B) (s : State B) (d : Calendar) (ps : List (ProcessOf B))
    (k : Control) (processed drawn : ℕ) (lines : List Line) → Grown s.facilities.calendar d
    → ((w : Waiter) → waits_well s.facilities.calendar w ≡ true → is_pending d w.event ≡ true)
    → All (λ x. is_alive x.process s ≡ true → is_alive x.process (moved s d ps k processed drawn lines) ≡ true) s.scopes
    → All (KnowsItsScopes tell (moved s d ps k processed drawn lines)) ps → WaitingBasis g tell s
    → WaitingBasis g tell (moved s d ps k processed drawn lines)
waiting_moved g tell s d ps k processed drawn lines grown pending alive knows h =
    let c : Calendar = s.facilities.calendar in
    let t = moved s d ps k processed drawn lines in
    record {
      waiters = All-weaker (λ w. waits_well c w ≡ true) (λ w. waits_well d w ≡ true) (λ w x. waits_grown c d w grown (pending w x) x) s.facilities.waiters h.waiters;
      once = h.once;
      requests = h.requests;
      using = h.using;
      scopes = λ n x below. scope_grown g.setup.resources s t (slice_index_or s.scopes n x) grown (alive n x below) (h.scopes n x below);
      bodies = knows;
    }

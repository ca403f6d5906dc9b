-- What a lawful state comes back to is kept, where the accounts are right.
use Rattle.std.proofs.Common.{◌≡◌, ◌≤◌, Bool, true, false, ◌||◌, not, List, [], ◌∷◌, Some, sym, ap, subst, ◌∙◌, map, filter, if◌then◌else◌}
use Rattle.std.specs.Prelude.{All, ◌==◌}
use Rattle.std.specs.Option.{option_map}
use Rattle.std.specs.List.{AllPass}
use Rattle.std.proofs.lemmas.List.Elements.{All-cons, All-filter, All-head, All-nil, All-tail, All-weaker}
use Rattle.sim_types.specs.declared.event.EventId.{EventId}
use Rattle.sim_types.specs.declared.event.ProcId.{ProcId}
use Rattle.sim_types.specs.declared.event.Callback.{Callback}
use Rattle.sim_types.specs.declared.event.Signal.TheVariants as signal
use Rattle.sim_types.specs.declared.setup.Class.TheVariants as class
use Rattle.sim_machine.specs.State.{ProcessOf, Control, Idle, Calling, Active, Over}
use Rattle.sim_machine.specs.Events.{is_process}
use Rattle.sim_machine.specs.Processes.{event_of, process_at}
use Rattle.sim_machine.specs.Bodies.{BodyOf}
use Rattle.sim_machine.specs.Tellings.{Place, is_class}
use Rattle.sim_machine.specs.KeptEvents.{is_in_process, is_kept}
use Rattle.sim_machine.specs.Standing.{left_of}
use Rattle.sim_lawful.specs.ReachedEvents.{is_over, names_kept}
use Rattle.sim_machine_law.proofs.Events.EventLaws.{is_same-self}
use Rattle.sim_machine_law.proofs.KeptParts.KeptBodies.{find_has, find_passes}
use Rattle.sim_machine_law.proofs.KeptParts.KeptProcessesParts.{is_process-yes}
use Rattle.sim_lawful.proofs.Reached.KeptReached.{all_named_kept, left_kept, places_kept, process_kept, processes_kept, targets_kept, told_kept, waiters_kept}
use Rattle.sim_procs.specs.RecordOf.{RecordOf, record_of}
use Rattle.sim_happen_model.specs.TableOf.{IsKept, AreNeeded}
use Rattle.sim_happen_model.specs.Accounts.{Accounts}
use Rattle.sim_happen_model.specs.Naming.{but_zero, named_in_places}
use Rattle.sim_accounts.proofs.KeptExactly.{kept_exactly}
use Rattle.sim_steps_model.specs.PartsOf.{PartsOf, IsCalling, IsRunning, plan_of}
use Rattle.sim_steps_model.specs.StandsFor.{StandsForSome, process_of}
use Rattle.sim_steps_law.proofs.Kernels.Running.{process_found, running_is}

-- ---- what the control says

called_in_process : (c : Control) (event : EventId) → IsCalling event c → is_in_process c event ≡ true
called_in_process Idle event h = absurd h
called_in_process (Calling e left) event h = rw h (is_same-self event)
called_in_process (Active e left p x) event h = absurd h
called_in_process (Over why e left) event h = absurd h

-- ---- what places name

-- events are named in places that are not for numbers
named_all : (P : EventId → Type 0) (keeps : EventId → Bool) → ((e : EventId) → keeps e ≡ true → P e) → (places : List Place) →
    All (λ y. (is_class y.class class.Number || keeps y.event) ≡ true) places →
    All P (map (λ y. y.event) (filter (λ y. not (is_class y.class class.Number)) places))
named_all P keeps kept [] h = All-nil P
named_all P keeps kept (y ∷ places) h =
    at (is_class y.class class.Number) (All-head (λ y. (is_class y.class class.Number || keeps y.event) ≡ true) y places h)
    (named_all P keeps kept places (All-tail (λ y. (is_class y.class class.Number || keeps y.event) ≡ true) y places h))
  where
    at : (b : Bool) → (b || keeps y.event) ≡ true → All P (map (λ y. y.event) (filter (λ y. not (is_class y.class class.Number)) places)) →
        All P (map (λ y. y.event) (if not b then y ∷ filter (λ y. not (is_class y.class class.Number)) places
        else filter (λ y. not (is_class y.class class.Number)) places))
    at true is later = later
    at false is later = All-cons P y.event _ (kept y.event is) later

module _ {B Code : Type 0} (body : BodyOf B Code) (parts : PartsOf B Code)
    (h : StandsForSome body parts) (needed : AreNeeded parts.shared.happen.events) where
  abbrev Kept : EventId → Type 0
  Kept e = IsKept parts.shared.happen.events e

  -- what the machine keeps in that state is kept
  pub kept_here : (e : EventId) → is_kept parts.setup.events (body.tell parts.code) h.state e ≡ true → IsKept parts.shared.happen.events e
  kept_here e kept =
      let accounts : Accounts parts.setup.events (body.tell parts.code) parts.shared.happen.events h.state =
      record { balanced = h.balances.holders; gone = h.balances.gone; needed = needed } in
      sym (kept_exactly parts.setup.events (body.tell parts.code) parts.shared.happen h.state h.stands.facilities.calendar accounts e) ∙ kept

  -- ---- what is called and told

  -- the event whose callbacks are called
  pub calling_kept : (event : EventId) → IsCalling event parts.control → IsKept parts.shared.happen.events event
  calling_kept event calling =
      kept_here event
      (process_kept (plan_of body parts) (body.tell parts.code) (body.sound parts.code) h.state h.lawful event
      (subst (λ c. is_in_process c event ≡ true) h.stands.control (called_in_process parts.control event calling)))

  -- the event that a process made and is told of
  pub made_kept : (event : EventId) (p : ProcId) (e : EventId) → IsRunning event p (signal.Made e) parts.control → IsKept parts.shared.happen.events e
  made_kept event p e running =
      let is = running_is parts.control event p (signal.Made e) running in
      kept_here e (told_kept (plan_of body parts) (body.tell parts.code)
      (body.sound parts.code) h.state h.lawful event is.0 p e (sym h.stands.control ∙ is.1))

  -- what the callback names that is called next
  pub called_kept : (event : EventId) (x : Callback) (left : List Callback) → parts.control ≡ Calling event (x ∷ left) →
      names_kept parts.setup.events (body.tell parts.code) h.state x ≡ true
  called_kept event x left is =
      let calling : h.state.control ≡ Calling event (x ∷ left) = sym h.stands.control ∙ is in
      let names : Callback → Bool = names_kept parts.setup.events (body.tell parts.code) h.state in
      let all : AllPass names (left_of h.state.control) =
      left_kept (plan_of body parts) (body.tell parts.code) (body.sound parts.code) h.state h.lawful (ap is_over calling) in
      All-head (λ y. names y ≡ true) x left (subst (λ c. AllPass names (left_of c)) calling all)

  -- ---- what is named, and what waits

  -- the named events, and event 0
  pub named_kept : (e : EventId) → e.0 ≤ parts.setup.events → IsKept parts.shared.happen.events e
  named_kept e few = kept_here e (all_named_kept (plan_of body parts) (body.tell parts.code) (body.sound parts.code) h.state h.lawful e few)

  pub all_waiters_kept : All (λ w. IsKept parts.shared.happen.events w.event) h.state.facilities.waiters
  all_waiters_kept =
      All-weaker (λ w. is_kept parts.setup.events (body.tell parts.code) h.state w.event ≡ true)
      (λ w. Kept w.event) (λ w. kept_here w.event) h.state.facilities.waiters
      (waiters_kept (plan_of body parts) (body.tell parts.code) (body.sound parts.code) h.state h.lawful)

  -- ---- a live process, and its record

  module _ (p : ProcId) (r : RecordOf B) (found : record_of p parts.live ≡ Some r) where
    abbrev tests : ProcessOf B → Bool
    tests z = is_process z.id p

    here : process_at p h.state ≡ Some (process_of r)
    here = process_found parts h.state p h.lawful.processes.distinct h.stands ∙ ap (λ o. option_map process_of o) found

    -- what it waits for, or waited for last
    pub target_kept : IsKept parts.shared.happen.events r.target
    target_kept =
        kept_here r.target
        (find_has (λ z. is_kept parts.setup.events (body.tell parts.code) h.state z.target ≡ true) tests h.state.processes (process_of r) here
        (targets_kept (plan_of body parts) (body.tell parts.code) (body.sound parts.code) h.state h.lawful))

    -- its own event, by its number in the record and by that which it was found by
    pub own_kept : IsKept parts.shared.happen.events (event_of r.id)
    own_kept =
        kept_here (event_of r.id)
        (find_has (λ z. is_kept parts.setup.events (body.tell parts.code) h.state (event_of z.id) ≡ true) tests h.state.processes (process_of r) here
        (processes_kept (plan_of body parts) (body.tell parts.code) (body.sound parts.code) h.state h.lawful))

    pub alive_kept : IsKept parts.shared.happen.events (event_of p)
    alive_kept = subst (λ q. IsKept parts.shared.happen.events (event_of q))
        (is_process-yes r.id p (find_passes (λ x. x.id.0 == p.0) parts.live r found)) own_kept

    -- what its body names in its places
    pub all_places_kept : All (IsKept parts.shared.happen.events) (named_in_places (body.tell parts.code) r.body)
    all_places_kept =
        named_all Kept (λ e. is_kept parts.setup.events (body.tell parts.code) h.state e) kept_here ((body.tell parts.code).places r.body)
        (find_has (λ z. All (λ y. (is_class y.class class.Number || is_kept parts.setup.events (body.tell parts.code) h.state y.event) ≡ true)
        ((body.tell parts.code).places z.body))
        tests h.state.processes (process_of r) here
        (places_kept (plan_of body parts) (body.tell parts.code) (body.sound parts.code) h.state h.lawful))

    pub placed_kept : All (IsKept parts.shared.happen.events) (but_zero (named_in_places (body.tell parts.code) r.body))
    placed_kept = All-filter (λ e. not (e.0 == 0)) Kept (named_in_places (body.tell parts.code) r.body) all_places_kept

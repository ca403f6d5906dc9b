-- Which facilities may take the place of those of a lawful state, where the scopes, the processes and the control stay.
use Rattle.std.proofs.Common.{◌≡◌, ◌≢◌, ℕ, ◌<◌, Bool, true, ◌&&◌, not, List, [], ◌∷◌, length, Option, refl, ap, ◌∙◌, arith, AllPairs, ⊎_elim}
use Rattle.std.specs.Prelude.{◌==◌, nat_lt, is_none}
use Rattle.std.specs.List.{list_all, AllPass}
use Rattle.std.proofs.lemmas.Bool.{and_parts, and_from, or_cases, or_left, or_right}
use Rattle.std.proofs.lemmas.List.Elements.{All-weaker}
use Rattle.sim_types.specs.declared.event.EventId.{EventId}
use Rattle.sim_types.specs.declared.event.ProcId.{ProcId}
use Rattle.sim_types.specs.declared.event.Signal.{Signal}
use Rattle.sim_types.specs.declared.event.Signal.TheVariants as signal
use Rattle.sim_types.specs.declared.op.Op.{Op}
use Rattle.sim_types.specs.declared.setup.Resource.{Resource}
use Rattle.sim_machine.specs.State.{EventOf, Calendar, Waiter, Facilities, OpenScope, Control, Idle, Calling, Active, Over, State, Plan}
use Rattle.sim_machine.specs.Events.{is_process, event_at, is_pending, is_processed, change_event}
use Rattle.sim_machine.specs.Users.{resource_at, users}
use Rattle.sim_machine.specs.Scopes.{on_events}
use Rattle.sim_machine.specs.Processes.{is_alive}
use Rattle.sim_machine.specs.Effect.{calendar}
use Rattle.sim_machine.specs.Tellings.{Place, Telling, kind_fits}
use Rattle.sim_machine.specs.MayAsk.{takes_requests}
use Rattle.sim_machine.specs.MayFollow.{may_be_told, makes_kind}
use Rattle.sim_machine.specs.Standing.{was_made, kind_at}
use Rattle.sim_machine.specs.LawfulTimes.{LawfulTimes}
use Rattle.sim_machine.specs.LawfulRegistrations.{LawfulRegistrations}
use Rattle.sim_machine.specs.LawfulWaiting.{waits_well, may_wait_kind, is_request_kind, request_has_scope, has_scope, is_scope_well}
use Rattle.sim_machine.specs.LawfulCapacities.{LawfulCapacities}
use Rattle.sim_machine.specs.LawfulBodies.{LawfulBodies, place_fits, told_fits, is_told_well}
use Rattle.sim_machine.specs.LawfulChains.{LawfulChains}
use Rattle.sim_machine_law.proofs.Events.EventLaws.{change_event-other, change_event-length}
use Rattle.sim_machine_law.proofs.KeptParts.KeptRegistrationsCalendar.{Later, Calm, below_made, made_below}
use Rattle.sim_machine_law.proofs.KeptParts.KeptProcessesParts.{KeepsLiving, KeepsResumes, processes-kept}
use Rattle.sim_machine_law.proofs.KeptParts.KeptInterruptionsParts.{KeepsHearing, StrikesAlone, all_made, interruptions-kept}
use Rattle.sim_machine_law.proofs.KeptParts.KeptWaitingPolls.{waiting_unpolled}
use Rattle.sim_machine_law.proofs.KeptParts.KeptCapacities.{capacities_later}
use Rattle.sim_machine_law.proofs.KeptParts.KeptBodies.{if_stays, four_parts, four_from}
use Rattle.sim_machine_law.proofs.Events.ChangedCalendars.{MayReplace}
use Rattle.sim_machine_law.proofs.KeptParts.LawfulBasis.{ConditionsBasis, LawfulBasis}

-- ---- bodies

place_later : (c d : Calendar) → Later c d → (x : Place) → place_fits c x ≡ true → place_fits d x ≡ true
place_later c d l x h =
    ⊎_elim (λ zero. or_left (x.event.0 == 0) (was_made d x.event && kind_fits x.class (kind_at d x.event)) zero)
    (λ here. or_right (x.event.0 == 0) (was_made d x.event && kind_fits x.class (kind_at d x.event)) (made here))
    (or_cases (x.event.0 == 0) (was_made c x.event && kind_fits x.class (kind_at c x.event)) h)
  where
    made : (was_made c x.event && kind_fits x.class (kind_at c x.event)) ≡ true → (was_made d x.event && kind_fits x.class (kind_at d x.event)) ≡ true
    made here =
        let parts : (was_made c x.event ≡ true) × (kind_fits x.class (kind_at c x.event) ≡ true) = and_parts (was_made c x.event) (kind_fits x.class (kind_at c x.event)) here in
        let below : x.event.0 < length c.events = made_below c x.event parts.0 in
        and_from (was_made d x.event) (kind_fits x.class (kind_at d x.event)) (below_made d x.event (omega (arith, below, l.longer))) (ap (λ k. kind_fits x.class k) (l.kinds x.event below) ∙ parts.1)

-- places fit on
pub places_later : (c d : Calendar) → Later c d → (xs : List Place) → list_all (place_fits c) xs ≡ true → list_all (place_fits d) xs ≡ true
places_later c d l [] h = refl
places_later c d l (x ∷ xs) h =
    let parts : (place_fits c x ≡ true) × (list_all (place_fits c) xs ≡ true) = and_parts (place_fits c x) (list_all (place_fits c) xs) h in
    and_from (place_fits d x) (list_all (place_fits d) xs) (place_later c d l x parts.0) (places_later c d l xs parts.1)

made_calm : (c d : Calendar) (e : EventId) (asked : Option Op) (m : Bool) → Calm c d
    → (m && was_made c e && not (is_processed c e) && makes_kind asked (kind_at c e)) ≡ true
    → (m && was_made d e && not (is_processed d e) && makes_kind asked (kind_at d e)) ≡ true
made_calm c d e asked m calm h =
    let parts = four_parts m (was_made c e) (not (is_processed c e)) (makes_kind asked (kind_at c e)) h in
    let below : e.0 < length c.events = made_below c e parts.1 in
    four_from m (was_made d e) (not (is_processed d e)) (makes_kind asked (kind_at d e)) parts.0 (below_made d e (omega (arith, below, calm.later.longer))) (ap not (calm.processed e) ∙ parts.2) (ap (λ k. makes_kind asked k) (calm.later.kinds e below) ∙ parts.3)

fits_calm : {B : Type 0} (tell : Telling B) (c d : Calendar) (b : B) (x : Signal) → Calm c d → told_fits tell c b x ≡ true → told_fits tell d b x ≡ true
fits_calm tell c d b (signal.Made e) calm h = made_calm c d e (tell.last b) (may_be_told (tell.last b) (signal.Made e)) calm h
fits_calm tell c d b _ calm h = h

-- what is told fits on
pub told_calm : {B : Type 0} (tell : Telling B) (c d : Calendar) (q : ProcId) (b : B) (k : Control) → Calm c d
    → is_told_well tell c q b k ≡ true → is_told_well tell d q b k ≡ true
told_calm tell c d q b Idle calm h = h
told_calm tell c d q b (Calling e left) calm h = h
told_calm tell c d q b (Active e left p x) calm h = if_stays (is_process p q) (told_fits tell c b x) (told_fits tell d b x) _ (fits_calm tell c d b x calm) h
told_calm tell c d q b (Over why e left) calm h = h

-- what bodies hold and are told still fits, where the calendar is calm
pub bodies_calm : {B : Type 0} (tell : Telling B) (sound : B → Type 0) (s : State B) (f : Facilities)
    → Calm s.facilities.calendar f.calendar → LawfulBodies tell sound s
    → LawfulBodies tell sound (record s { facilities = f })
bodies_calm tell sound s f calm h =
    let c : Calendar = s.facilities.calendar in
    record {
      bodies = h.bodies;
      own = h.own;
      places = All-weaker (λ x. list_all (place_fits c) (tell.places x.body) ≡ true) (λ x. list_all (place_fits f.calendar) (tell.places x.body) ≡ true) (λ x w. places_later c f.calendar calm.later (tell.places x.body) w) s.processes h.places;
      told = All-weaker (λ x. is_told_well tell c x.id x.body s.control ≡ true) (λ x. is_told_well tell f.calendar x.id x.body s.control ≡ true) (λ x w. told_calm tell c f.calendar x.id x.body s.control calm w) s.processes h.told;
    }

-- ---- scopes

-- an open scope stays well where its process stays alive
pub scope_later : {B : Type 0} (rs : List Resource) (s t : State B) (x : OpenScope) → Later (calendar s) (calendar t)
    → (is_alive x.process s ≡ true → is_alive x.process t ≡ true) → is_scope_well rs s x ≡ true → is_scope_well rs t x ≡ true
scope_later rs s t x k alive h =
    let c : Calendar = calendar s in
    let d : Calendar = calendar t in
    let r : EventId = x.request in
    let outer = and_parts (is_alive x.process s && was_made c r && is_request_kind (kind_at c r) && nat_lt x.res (length rs)) (takes_requests (resource_at rs x.res).kind) h in
    let parts = four_parts (is_alive x.process s) (was_made c r) (is_request_kind (kind_at c r)) (nat_lt x.res (length rs)) outer.0 in
    let made : r.0 < length c.events = made_below c r parts.1 in
    and_from (is_alive x.process t && was_made d r && is_request_kind (kind_at d r) && nat_lt x.res (length rs)) (takes_requests (resource_at rs x.res).kind)
    (four_from (is_alive x.process t) (was_made d r) (is_request_kind (kind_at d r)) (nat_lt x.res (length rs)) (alive parts.0) (below_made d r (omega (arith, made, k.longer))) (ap is_request_kind (k.kinds r made) ∙ parts.2) parts.3) outer.1

-- ---- waiters

-- what waits for another event than the one that is changed waits as before
pub waits_elsewhere : (e : EventId) (change : EventOf → EventOf) (c : Calendar) (w : Waiter) → w.event.0 ≢ e.0
    → waits_well (change_event e change c) w ≡ waits_well c w
waits_elsewhere e change c w differ =
    let d : Calendar = change_event e change c in
    ap (λ (x : EventOf). nat_lt w.event.0 (length d.events) && is_none x.outcome && not x.cancelled && may_wait_kind x.kind) (change_event-other e w.event change c differ)
    ∙ ap (λ (n : ℕ). nat_lt w.event.0 n && is_pending c w.event && not (event_at c w.event).cancelled && may_wait_kind (kind_at c w.event)) (change_event-length e change c)

-- ---- all parts

-- what facilities f have that may take the place of the state's, for each part of the law
pub record MayBecome {B : Type 0} (g : Plan B) (s : State B) (f : Facilities) : Type 0 where
  pub times : LawfulTimes f.calendar
  pub registrations : LawfulRegistrations f.calendar s.control
  pub living : KeepsLiving s.facilities.calendar f.calendar
  pub resumes : KeepsResumes s.facilities.calendar s.control f.calendar s.control
  pub hearing : KeepsHearing s.facilities.calendar f.calendar
  pub strikes : StrikesAlone f.calendar s.control
  pub calm : Calm s.facilities.calendar f.calendar
  pub waiters : AllPass (waits_well f.calendar) f.waiters
  pub once : AllPairs (λ w v. w.event ≢ v.event) f.waiters
  pub requests : AllPass (λ w. request_has_scope s.scopes w w.want) f.waiters
  pub using : (res : ℕ) → AllPass (λ u. has_scope s.scopes u.request u.process res) (users res f.ledger)
  pub capacities : LawfulCapacities g.setup.resources f
  pub conditions : ConditionsBasis f.calendar s.control
  pub chains : LawfulChains f.calendar s.control

pub lawful_becomes : {B : Type 0} (g : Plan B) (tell : Telling B) (sound : B → Type 0) (s : State B) (f : Facilities)
    → LawfulBasis g tell sound s → MayBecome g s f → LawfulBasis g tell sound (record s { facilities = f })
lawful_becomes {B} g tell sound s f l k =
    let t : State B = record s { facilities = f } in
    record {
      times = k.times;
      registrations = k.registrations;
      processes = processes-kept g.setup.events s t refl k.living k.resumes l.processes;
      interruptions = interruptions-kept s t refl (all_made g tell sound s l) k.hearing k.strikes l.interruptions;
      waiting = record {
        waiters = k.waiters;
        once = k.once;
        requests = k.requests;
        using = k.using;
        scopes = All-weaker (λ x. is_scope_well g.setup.resources s x ≡ true) (λ x. is_scope_well g.setup.resources t x ≡ true) (λ x w. scope_later g.setup.resources s t x k.calm.later (λ y. y) w) s.scopes l.waiting.scopes;
        bodies = l.waiting.bodies;
      };
      capacities = k.capacities;
      conditions = k.conditions;
      bodies = bodies_calm tell sound s f k.calm l.bodies;
      chains = k.chains;
    }

-- the same where the calendar alone is changed
pub lawful_on_events : {B : Type 0} (g : Plan B) (tell : Telling B) (sound : B → Type 0) (s : State B)
    (change : Calendar → Calendar) → LawfulBasis g tell sound s → MayReplace s (change (calendar s))
    → Calm (calendar s) (change (calendar s)) → LawfulBasis g tell sound (on_events change s)
lawful_on_events {B} g tell sound s change l k calm =
    let d : Calendar = change (calendar s) in
    let t : State B = on_events change s in
    record {
      times = k.times;
      registrations = k.registrations;
      processes = processes-kept g.setup.events s t refl k.living k.resumes l.processes;
      interruptions = interruptions-kept s t refl (all_made g tell sound s l) k.hearing k.strikes l.interruptions;
      waiting = waiting_unpolled g tell s d s.control s.processed s.drawn s.lines k.grown k.pending (λ q v. refl) l.waiting;
      capacities = capacities_later g.setup.resources s.facilities d k.later l.capacities;
      conditions = k.conditions;
      bodies = bodies_calm tell sound s (record s.facilities { calendar = d }) calm l.bodies;
      chains = k.chains;
    }

-- A process that is dropped waits for nothing, has left its scopes, is no longer alive, and its event has succeeded, as the
-- machine has it.
use Rattle.std.proofs.Common.{◌≡◌, ℕ, ℤ, ◌+◌, ◌<◌, ◌≤◌, true, false, List, [], Option, Some, None, length, refl, sym, ap, subst, ◌∙◌, arith}
use Rattle.std.specs.Prelude.{◌^◌, is_some, IfSome, IsSomeAnd}
use Rattle.std.specs.Option.{option_map}
use Rattle.std.proofs.lemmas.Option.{same_Some}
use Rattle.std.proofs.lemmas.List.{length-map}
use Rattle.std.proofs.lemmas.List.Elements.{All-weaker}
use Rattle.sim_types.specs.declared.event.EventId.{EventId}
use Rattle.sim_types.specs.declared.event.ProcId.{ProcId}
use Rattle.sim_types.specs.declared.event.Callback.{Callback}
use Rattle.sim_types.specs.declared.event.Outcome.TheVariants as outcome
use Rattle.sim_types.specs.declared.event.Signal.TheVariants as signal
use Rattle.sim_machine.specs.State.{Calendar, Facilities, State}
use Rattle.sim_machine.specs.Bodies.{BodyOf}
use Rattle.sim_machine.specs.Events.{is_process, unregister, without_first, is_resume_of}
use Rattle.sim_machine.specs.Scopes.{leave_all}
use Rattle.sim_machine.specs.Processes.{event_of, end_process, drop_process, strip_resume, stop_waiting, target_of, process_at, tell, told_more}
use Rattle.sim_machine.specs.Effect.{calendar, to_another}
use Rattle.sim_machine.specs.MayAsk.{most_scopes}
use Rattle.sim_lawful.proofs.Drops.DroppedProcess.{stopped_state}
use Rattle.sim_procs.specs.RecordOf.{RecordOf, record_of}
use Rattle.sim_happen_model.specs.HappenOf.{HappenOf, IsOpen, as_before}
use Rattle.sim_happen_model.specs.Shows.{Shows}
use Rattle.sim_happen_law.proofs.Changes.Held.{holders_at}
use Rattle.sim_accounts.proofs.CalendarChanges.{plainly_unregistered}
use Rattle.sim_accounts.proofs.KeepingHolders.{keeps_all}
use Rattle.sim_accounts.proofs.Quiet.{stripped_trade, unresumed_trade}
use Rattle.sim_steps_model.specs.PartsOf.{HasUnitRoom, PartsOf, IsRunningIn, control_of, with_happen}
use Rattle.sim_steps_model.specs.declared.mode.Mode.{Mode}
use Rattle.sim_steps_model.specs.declared.mode.Mode.TheVariants as mode
use Rattle.sim_steps_model.specs.Becoming.{Stands, Becomes, IsOwing}
use Rattle.sim_steps_model.specs.Dropping.{CanBeDropped, CanBeLeft, CanLeave, IsOpenIn, LeavesAll, StopsWaiting, without_scopes}
use Rattle.sim_steps_model.specs.Holding.{StandInPlaces}
use Rattle.sim_steps_law.proofs.Kernels.Keeping.{few_same}
use Rattle.sim_steps_law.proofs.Kernels.Accounting.{owing_by, stay_plainly}
use Rattle.sim_steps_law.proofs.Kernels.Becoming.{entered_still, becomes_as, becomes_then, becomes_told, owing_controlled, shown_with}
use Rattle.sim_steps_law.proofs.Ends.Ending.{found_id, same_id}
use Rattle.sim_steps_law.proofs.Polls.Interruptions.{alive_is, target_is}
use Rattle.sim_steps_law.proofs.Scopes.LeavingEach.{open_after}
use Rattle.sim_steps_law.proofs.Scopes.OpenEvents.{open_in}

-- ---- it waits no longer

-- its resumption is taken out of the callbacks that are left to call
pub stripped_is : (q : ProcId) (m : Mode) (left : List Callback) (event : EventId) (p : ProcId) → IsRunningIn event p (control_of m left) →
    strip_resume q (control_of m left) ≡ control_of m (without_first (is_resume_of q) left)
stripped_is q mode.Idle left event p running = refl
stripped_is q (mode.Calling e) left event p running = refl
stripped_is q (mode.Active e r x) left event p running = refl
stripped_is q (mode.Over why e) left event p running = absurd running

module _ {B Code : Type 0} (q : ProcId) (r : RecordOf B) (a : PartsOf B Code) (h : HappenOf) (found : record_of q a.live ≡ Some r)
    (stops : StopsWaiting r.target q a.shared.happen h) where
  abbrev unwaited : PartsOf B Code
  unwaited = with_happen h a

  abbrev pub stopped : PartsOf B Code
  stopped = record unwaited { control = strip_resume q a.control }

  as_many : length a.shared.happen.events ≤ length h.events
  as_many = omega (
    arith,
    ap (λ (hs : List (Option ℕ)). length hs) stops.held,
    length-map a.shared.happen.events holders_at,
    length-map h.events holders_at,
  )

  unwaited_stands : (s : State B) → Stands a s → Stands unwaited (stop_waiting q s)
  unwaited_stands s k =
      let c : Calendar = unregister (target_of q (process_at q s)) (is_resume_of q) (calendar s) in
      let shows : Shows h c =
      subst (λ e. Shows h (unregister e (is_resume_of q) (calendar s)))
      (sym (target_is a q r s found k)) (stops.each (calendar s) k.stands.facilities.calendar) in
      record {
        stands = record {
          facilities = shown_with a.shared h s.facilities c as_many shows k.stands.facilities;
          processed = k.stands.processed;
          generator = k.stands.generator;
          processes = k.stands.processes;
          scopes = k.stands.scopes;
          control = k.stands.control;
        };
        distinct = k.distinct;
        owned = k.owned;
        apart = k.apart;
        entered = entered_still (calendar s) c s.scopes (omega arith) k.entered;
      }

  becomes_unwaited : (body : BodyOf B Code) → Becomes body (stop_waiting q) a unwaited
  becomes_unwaited body =
      owing_by [] [] 0 (stop_waiting q) a unwaited unwaited_stands
      (record { code = refl; setup = refl; seed = refl }) (few_same a unwaited stops.held)
      (λ s k. stay_plainly as_before a unwaited s (stop_waiting q s) keeps_all stops.held
      (plainly_unregistered (target_of q (process_at q s)) (is_resume_of q) (calendar s) (λ y. refl)))
      (λ s k. unresumed_trade a.setup.events (body.tell a.code) q s)

  pub becomes_stopped : (body : BodyOf B Code) → Becomes body (stopped_state q) a stopped
  becomes_stopped body =
      let strip : State B → State B = λ s. record s { control = strip_resume q s.control } in
      becomes_then (stop_waiting q) strip a unwaited stopped (becomes_unwaited body)
      (owing_controlled [] (strip_resume q) unwaited (λ s k. stripped_trade a.setup.events (body.tell a.code) q s))

  -- its scopes can be left then
  pub stopped_can : {body : BodyOf B Code} → CanLeave body a → CanLeave body stopped
  stopped_can {body} can =
      let s : State B = can.state in
      let f : Facilities = s.facilities in
      let t : State B = stopped_state q s in
      record {
        state = t;
        stands = (becomes_stopped body).each s can.stands;
        owed = can.owed;
        balances = (becomes_stopped body).accounts can.owed s can.stands can.balances;
        waiting = All-weaker (λ w. IsOpenIn f.calendar w.event) (λ w. IsOpenIn t.facilities.calendar w.event)
            (λ w is_open. record { made = is_open.made; pending = is_open.pending; not_closed = is_open.not_closed }) f.waiters can.waiting;
        each = All-weaker (CanBeLeft a.setup.resources f) (CanBeLeft a.setup.resources t.facilities)
            (λ x can. record { there = can.there; slots = can.slots; alone = can.alone }) s.scopes can.each;
      }

-- ---- its scopes were left

module _ {B Code : Type 0} {body : BodyOf B Code} (q : ProcId) (r : RecordOf B)
    (a : PartsOf B Code) (h : HappenOf) (found : record_of q a.live ≡ Some r)
    (stops : StopsWaiting r.target q a.shared.happen h) (can : CanBeDropped body r a)
    (b : PartsOf B Code) (leaves : LeavesAll body q (stopped q r a h found stops) b) where
  -- its record has none
  pub scopeless_record : record_of q b.live ≡ Some (without_scopes r)
  scopeless_record = leaves.found ∙ ap (λ (o : Option (RecordOf B)). option_map without_scopes o) found

  -- its event is still open
  pub still_open_event : r.id ≡ q → IsOpen b.shared.happen (event_of q)
  still_open_event id =
      let s : State B = can.can.state in
      let t : State B = stopped_state q s in
      let before : Stands (stopped q r a h found stops) t = (becomes_stopped q r a h found stops body).each s can.can.stands in
      let after : Stands b (leave_all q t) = leaves.becomes.each t before in
      let balances = leaves.becomes.accounts can.can.owed t before
      ((becomes_stopped q r a h found stops body).accounts can.can.owed s can.can.stands can.can.balances) in
      let is_open : IsOpenIn (calendar t) (event_of r.id) =
      record { made = can.is_open.made; pending = can.is_open.pending; not_closed = can.is_open.not_closed } in
      subst (λ (p : ProcId). IsOpen b.shared.happen (event_of p)) id
      (open_in b.shared.happen (calendar (leave_all q t)) (event_of r.id) after.stands.facilities.calendar balances.gone
      (open_after q t (event_of r.id) can.apart is_open))

-- the accounts balance, where a holder of each of some events is still to be given back
pub leaves_owing : {B Code : Type 0} {body : BodyOf B Code} (a : PartsOf B Code) → CanLeave body a → IsOwing body [] a
leaves_owing a can = record { state = can.state; stands = can.stands; others = can.owed; balances = can.balances }

-- ---- it is dropped, and the running process goes on

pub other_dropped : {B Code : Type 0} {body : BodyOf B Code} (q : ProcId) (value : ℤ)
    (r : RecordOf B) (a b c n : PartsOf B Code) (h : HappenOf) (found : record_of q a.live ≡ Some r)
    (stops : StopsWaiting r.target q a.shared.happen h) → LeavesAll body q (stopped q r a h found stops) b →
    Becomes body (end_process q (outcome.Ok value)) b c →
    n ≡ record c { control = told_more signal.Done c.control } → Becomes body (λ s. tell signal.Done (drop_process q value s)) a n
other_dropped {B} {Code} {body} q value r a b c n h found stops leaves ends is =
    let ending : State B → State B = end_process q (outcome.Ok value) in
    subst (Becomes body (λ s. tell signal.Done (drop_process q value s)) a) (sym is)
    (becomes_then (drop_process q value) (tell signal.Done) a c _
    (becomes_then (λ s. leave_all q (stopped_state q s)) ending a b c
    (becomes_then (stopped_state q) (leave_all q) a (stopped q r a h found stops) b (becomes_stopped q r a h found stops body) leaves.becomes) ends)
    (becomes_told signal.Done c))

-- another process that is alive
pub another_done : {B Code : Type 0} {body : BodyOf B Code} (p q : ProcId) (does : State B → State B) (a n : PartsOf B Code) →
    is_some (record_of q a.live) ≡ true →
    is_process q p ≡ false → Becomes body (λ s. tell signal.Done (does s)) a n → Becomes body (to_another p q does) a n
another_done p q does a n lives other done =
    becomes_as (λ s. tell signal.Done (does s)) (to_another p q does) a n (λ s h. rw (alive_is a q s h, lives, other) refl) done

-- ---- step by step, by what is known of the record of the process

record IsKnown {X : Type 0} (o : Option X) (P : X → Type 0) : Type 0 where
  value : X
  found : o ≡ Some value
  has : P value

known : {X : Type 0} (o : Option X) (P : X → Type 0) → IsSomeAnd o P → IsKnown o P
known None P h = absurd h
known (Some x) P h = record { value = x; found = refl; has = h }

-- what is needed to leave all its scopes
pub record LeavesWell {B Code : Type 0} (body : BodyOf B Code) (q : ProcId) (b : PartsOf B Code) : Type 0 where
  pub scopes : IsSomeAnd (record_of q b.live) (λ r. length r.scopes ≤ most_scopes)
  pub can : CanLeave body b
  pub spare_events : most_scopes < b.shared.happen.spare.events
  pub spare_callbacks : most_scopes < b.shared.happen.spare.callbacks
  pub number : length b.shared.happen.events + most_scopes < 2 ^ 62

-- what is needed to end it then
pub record EndsThen {B Code : Type 0} (body : BodyOf B Code) (q : ProcId) (c : PartsOf B Code) : Type 0 where
  pub alive : IsSomeAnd (record_of q c.live) (λ r. r.scopes ≡ [])
  pub is_open : IsOpen c.shared.happen (event_of q)
  pub owing : IsOwing body [] c

module _ {B Code : Type 0} (body : BodyOf B Code) (q : ProcId) (target : EventId) (a : PartsOf B Code) (h : HappenOf) (b : PartsOf B Code)
    (can : IsSomeAnd (record_of q a.live) (λ r. CanBeDropped body r a)) (stops : StopsWaiting target q a.shared.happen h)
    (waits : Some target ≡ option_map (λ r. r.target) (record_of q a.live))
    (is : b ≡ record (with_happen h a) { control = strip_resume q a.control }) where
  abbrev known_record : IsKnown (record_of q a.live) (λ r. CanBeDropped body r a)
  known_record = known (record_of q a.live) (λ r. CanBeDropped body r a) can

  abbrev r : RecordOf B
  r = known_record.value

  its_target : StopsWaiting r.target q a.shared.happen h
  its_target = subst (λ e. StopsWaiting e q a.shared.happen h)
      (same_Some target r.target (waits ∙ ap (λ (o : Option (RecordOf B)). option_map (λ r. r.target) o) known_record.found)) stops

  abbrev now : PartsOf B Code
  now = stopped q r a h known_record.found its_target

  pub leaves_well : HasUnitRoom a → length a.shared.happen.events + most_scopes < 2 ^ 62 → LeavesWell body q b
  leaves_well room number =
      let as_many : length h.events ≡ length a.shared.happen.events =
      omega (
        arith,
        ap (λ (hs : List (Option ℕ)). length hs) stops.held,
        length-map a.shared.happen.events holders_at,
        length-map h.events holders_at,
      ) in
      subst (LeavesWell body q) (sym is)
      (record {
        scopes = rw known_record.found known_record.has.few;
        can = stopped_can q r a h known_record.found its_target known_record.has.can;
        spare_events = omega (arith, stops.events, room.events);
        spare_callbacks = omega (arith, stops.callbacks, room.callbacks);
        number = omega (arith, as_many, number);
      })

  module _ (c : PartsOf B Code) (leaves : LeavesAll body q b c) where
    leaves_now : LeavesAll body q now c
    leaves_now = subst (λ (v : PartsOf B Code). LeavesAll body q v c) is leaves

    pub ends_then : EndsThen body q c
    ends_then =
        let record_now : record_of q c.live ≡ Some (without_scopes r) =
        scopeless_record q r a h known_record.found its_target known_record.has c leaves_now in
        record {
          alive = rw record_now refl;
          is_open = still_open_event q r a h known_record.found its_target known_record.has c leaves_now
              (same_id r.id q (found_id q a.live r known_record.found));
          owing = leaves_owing c leaves.can;
        }

    -- in its places stands what stood there
    pub places_then : (stands : B → List EventId) → IfSome (record_of q a.live) (λ r. StandInPlaces (body.tell a.code) (stands r.body) r.body) →
        IfSome (record_of q c.live) (λ r. StandInPlaces (body.tell c.code) (stands r.body) r.body)
    places_then stands places =
        let record_now : record_of q c.live ≡ Some (without_scopes r) =
        scopeless_record q r a h known_record.found its_target known_record.has c leaves_now in
        let at_record : StandInPlaces (body.tell a.code) (stands r.body) r.body =
        subst (λ (o : Option (RecordOf B)). IfSome o (λ r. StandInPlaces (body.tell a.code) (stands r.body) r.body)) known_record.found places in
        rw record_now (subst (λ (k : Code). StandInPlaces (body.tell k) (stands r.body) r.body) (sym leaves_now.becomes.opened.code) at_record)

    pub drops_other : (value : ℤ) (d n : PartsOf B Code) → Becomes body (end_process q (outcome.Ok value)) c d →
        n ≡ record d { control = told_more signal.Done d.control } → Becomes body (λ s. tell signal.Done (drop_process q value s)) a n
    drops_other value d n ends told = other_dropped q value r a c d n h known_record.found its_target leaves_now ends told

-- ---- the same, for any kernel that comes to these

abbrev StopsIn : {B Code : Type 0} → ProcId → HappenOf → PartsOf B Code → PartsOf B Code → Type 0
StopsIn q h a b = b ≡ record (with_happen h a) { control = strip_resume q a.control }

abbrev WaitsFor : {B Code : Type 0} → ProcId → EventId → PartsOf B Code → Type 0
WaitsFor q target a = Some target ≡ option_map (λ r. r.target) (record_of q a.live)

pub scopes_few : {B Code : Type 0} (body : BodyOf B Code) (q : ProcId) (a : PartsOf B Code) →
    IsSomeAnd (record_of q a.live) (λ r. CanBeDropped body r a) →
    IsSomeAnd (record_of q a.live) (λ r. length r.scopes ≤ most_scopes)
scopes_few body q a can = let k = known (record_of q a.live) (λ r. CanBeDropped body r a) can in rw k.found k.has.few

pub stops_well : {B Code : Type 0} (body : BodyOf B Code) (q : ProcId) (target : EventId) (a : PartsOf B Code) (h : HappenOf) {b : PartsOf B Code} →
    IsSomeAnd (record_of q a.live) (λ r. CanBeDropped body r a) → StopsWaiting target q a.shared.happen h → WaitsFor q target a → StopsIn q h a b →
    HasUnitRoom a → length a.shared.happen.events + most_scopes < 2 ^ 62 → CanLeave body b
stops_well body q target a h {b} can stops waits is room number = (leaves_well body q target a h b can stops waits is room number).can

pub ends_well_then : {B Code : Type 0} (body : BodyOf B Code) (q : ProcId) (target : EventId)
    (a : PartsOf B Code) (h : HappenOf) {b : PartsOf B Code} (c : PartsOf B Code) →
    LeavesAll body q b c → IsSomeAnd (record_of q a.live) (λ r. CanBeDropped body r a) → StopsWaiting target q a.shared.happen h →
    WaitsFor q target a →
    StopsIn q h a b → EndsThen body q c
ends_well_then body q target a h {b} c leaves can stops waits is = ends_then body q target a h b can stops waits is c leaves

pub stand_then : {B Code : Type 0} (body : BodyOf B Code) (q : ProcId) (target : EventId)
    (a : PartsOf B Code) (h : HappenOf) {b : PartsOf B Code} (c : PartsOf B Code) →
    LeavesAll body q b c → IsSomeAnd (record_of q a.live) (λ r. CanBeDropped body r a) → StopsWaiting target q a.shared.happen h →
    WaitsFor q target a →
    StopsIn q h a b → (stands : B → List EventId) → IfSome (record_of q a.live) (λ r. StandInPlaces (body.tell a.code) (stands r.body) r.body) →
    IfSome (record_of q c.live) (λ r. StandInPlaces (body.tell c.code) (stands r.body) r.body)
stand_then body q target a h {b} c leaves can stops waits is stands places = places_then body q target a h b can stops waits is c leaves stands places

pub drops_then : {B Code : Type 0} (body : BodyOf B Code) (q : ProcId) (target : EventId)
    (a : PartsOf B Code) (h : HappenOf) {b : PartsOf B Code} (c : PartsOf B Code) →
    LeavesAll body q b c → IsSomeAnd (record_of q a.live) (λ r. CanBeDropped body r a) → StopsWaiting target q a.shared.happen h →
    WaitsFor q target a →
    StopsIn q h a b → (value : ℤ) (d n : PartsOf B Code) → Becomes body (end_process q (outcome.Ok value)) c d →
    n ≡ record d { control = told_more signal.Done d.control } → Becomes body (λ s. tell signal.Done (drop_process q value s)) a n
drops_then body q target a h {b} c leaves can stops waits is value d n ends told =
    drops_other body q target a h b can stops waits is c leaves value d n ends told

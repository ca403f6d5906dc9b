-- Each unit keeps lawful capacities.
use Rattle.std.proofs.Common.{◌≡◌, ℕ, ◌<◌, ◌≤◌, ℤ, pos, ◌≤ℤ◌, Bool, true, false, ◌&&◌, not, length, List, [], ◌∷◌, Some, refl, ap, ◌∙◌, arith}
use Rattle.std.specs.Prelude.{◌==◌, nat_lt, nat_le, slice_index_or}
use Rattle.std.specs.Bool.{IsTrue}
use Rattle.std.proofs.lemmas.Int.{ints}
use Rattle.std.proofs.lemmas.Bool.{and_parts, and_from}
use Rattle.std.proofs.lemmas.List.Elements.{All-weaker, All-get_or}
use Rattle.sim_types.specs.declared.event.EventId.{EventId}
use Rattle.sim_types.specs.declared.event.ProcId.{ProcId}
use Rattle.sim_types.specs.declared.event.Entry.{Entry}
use Rattle.sim_types.specs.declared.event.Callback.{Callback}
use Rattle.sim_types.specs.declared.event.Outcome.{Outcome}
use Rattle.sim_types.specs.declared.event.Signal.{Signal}
use Rattle.sim_types.specs.declared.event.EventKind.{EventKind}
use Rattle.sim_types.specs.declared.event.EventKind.TheVariants as kind
use Rattle.sim_types.specs.declared.event.Outcome.TheVariants as outcome
use Rattle.sim_types.specs.declared.event.Callback.TheVariants as callback
use Rattle.sim_types.specs.declared.setup.Until.{Until}
use Rattle.sim_types.specs.declared.setup.Until.TheVariants as until
use Rattle.sim_types.specs.declared.setup.Resource.{Resource}
use Rattle.sim_types.specs.declared.setup.ResourceKind.{ResourceKind}
use Rattle.sim_types.specs.declared.setup.ResourceKind.TheVariants as resource
use Rattle.sim_machine.specs.State.{Calendar, Want, Slot, Give, Take, Waiter, User, Facilities, State, ProcessOf, Plan, Idle, Calling, Active}
use Rattle.sim_machine.specs.Events.{is_pending, is_processed, next_event, register}
use Rattle.sim_machine.specs.Agenda.{due, popped}
use Rattle.sim_machine.specs.Triggering.{urgent, normal, make, schedule, trigger, make_timeout}
use Rattle.sim_machine.specs.Scopes.{on_events}
use Rattle.sim_machine.specs.Processes.{event_of, process_at, with_body, rest, defuse_failed, wait, make_process, end_process, make_events_of_process}
use Rattle.sim_machine.specs.Effect.{calendar}
use Rattle.sim_machine.specs.Steps.{pop_entry, resume, call, settle}
use Rattle.sim_machine.specs.Runs.{blank_state, set_stop}
use Rattle.sim_machine.specs.Users.{resource_at, users}
use Rattle.sim_machine.specs.Tellings.{Telling, CodeFacts}
use Rattle.sim_machine.specs.BodyLaw.{IsLawfulStart, scopes_told, may_start}
use Rattle.sim_machine.specs.Setups.{FitsCode, until_fits, is_within, resource_fits, most_capacity, most_opening}
use Rattle.sim_machine.specs.Standing.{was_made, kind_at}
use Rattle.sim_machine.specs.LawfulWaiting.{is_request_kind, is_put_kind, is_get_kind}
use Rattle.sim_machine.specs.LawfulCapacities.{LawfulCapacities, is_in_use, waits_for_fitting}
use Rattle.sim_machine_law.proofs.KeptParts.KeptRegistrationsCalendar.{Later, below_made, made_below, made_if, later_self, later_then, later_made, later_popped, calm_scheduled, calm_defuse_failed}
use Rattle.sim_machine_law.proofs.KeptParts.KeptTimesCases.{wait_cases}
use Rattle.sim_machine_law.proofs.KeptParts.LawfulBasis.{AreNamedPending, LawfulBasis}

-- ---- the calendar is later

in_use_later : (c d : Calendar) (u : User) → Later c d → is_in_use c u ≡ true → is_in_use d u ≡ true
in_use_later c d u l h =
    let k : (was_made c u.request ≡ true) × (not (is_pending c u.request) ≡ true) = and_parts _ _ h in
    let longer : length c.events ≤ length d.events = l.longer in
    and_from _ _ (below_made d u.request (omega (arith, made_below c u.request k.0, longer))) (l.turned u.request k.1)

-- a kind that is not that of an event that was not made stays
pub kind_later : (test : EventKind → Bool) (c d : Calendar) (e : EventId) → test kind.Plain ≡ false → Later c d
    → test (kind_at c e) ≡ true → test (kind_at d e) ≡ true
kind_later test c d e plain l h = ap test (l.kinds e (made_if (λ x. test x.kind) c e plain h)) ∙ h

fitting_later : (c d : Calendar) (r : Resource) (w : Waiter) (want : Want) → Later c d → waits_for_fitting c r w want ≡ true
    → waits_for_fitting d r w want ≡ true
fitting_later c d r w (Slot p key) l h = and_from _ _ (kind_later is_request_kind c d w.event refl l (and_parts _ _ h).0) (and_parts _ _ h).1
fitting_later c d r w (Give amount priority) l h = and_from _ _ (kind_later is_put_kind c d w.event refl l (and_parts _ _ h).0) (and_parts _ _ h).1
fitting_later c d r w (Take least greatest) l h = and_from _ _ (kind_later is_get_kind c d w.event refl l (and_parts _ _ h).0) (and_parts _ _ h).1

-- a later calendar changes nothing at the resources
pub capacities_later : (rs : List Resource) (f : Facilities) (d : Calendar) → Later f.calendar d → LawfulCapacities rs f
    → LawfulCapacities rs (record f { calendar = d })
capacities_later rs f d l h =
    record {
      slots = h.slots;
      in_use = λ res. All-weaker (λ u. is_in_use f.calendar u ≡ true) (λ u. is_in_use d u ≡ true) (λ u k. in_use_later f.calendar d u l k) (users res f.ledger) (h.in_use res);
      level_low = h.level_low;
      level_high = h.level_high;
      room = h.room;
      waiting = All-weaker (λ w. (nat_lt w.res (length rs) && waits_for_fitting f.calendar (resource_at rs w.res) w w.want) ≡ true) (λ w. (nat_lt w.res (length rs) && waits_for_fitting d (resource_at rs w.res) w w.want) ≡ true)
          (λ w k. and_from _ _ (and_parts _ _ k).0 (fitting_later f.calendar d (resource_at rs w.res) w w.want l (and_parts _ _ k).1)) f.waiters h.waiting;
    }

pub later_timeout : (delay value : ℤ) (c : Calendar) → Later c (make_timeout delay value c)
later_timeout delay value c =
    later_then c (make kind.Timeout c) (make_timeout delay value c) (later_made kind.Timeout c) (calm_scheduled (next_event c) (outcome.Ok value) normal delay (make kind.Timeout c)).later

-- an event is made, it is to call this, and it is scheduled
pub later_new : (k : EventKind) (y : Callback) (x : Outcome) (priority : ℕ) (delay : ℤ) (c : Calendar)
    → Later c (schedule (next_event c) x priority delay (register (next_event c) y (make k c)))
later_new k y x priority delay c =
    let d : Calendar = register (next_event c) y (make k c) in
    later_then c d (schedule (next_event c) x priority delay d) (later_then c (make k c) d (later_made k c) (later_self (make k c) d refl)) (calm_scheduled (next_event c) x priority delay d).later

pub later_of_process : (c : Calendar) → Later c (make_events_of_process c)
later_of_process c =
    let d : Calendar = make kind.Process c in
    later_then c d (make_events_of_process c) (later_made kind.Process c) (later_new kind.Init (callback.Resume (record { 0 = (next_event c).0 })) (outcome.Ok (pos 0)) urgent (pos 0) d)

pub later_stop : (until : Until) (c : Calendar) → Later c (set_stop until c)
later_stop until.Never c = later_self c c refl
later_stop (until.At time) c = later_new kind.Stop callback.Stop (outcome.Ok (pos 0)) urgent time c
later_stop (until.Event e) c = later_self c (register e callback.Stop c) refl

pub capacities_wait : {B : Type 0} (rs : List Resource) (e : EventId) (p : ProcId) (s : State B)
    → LawfulCapacities rs s.facilities → LawfulCapacities rs (wait e p s).facilities
capacities_wait rs e p s h =
    wait_cases (λ t. LawfulCapacities rs t.facilities) e p s (λ k. capacities_later rs s.facilities (defuse_failed e (calendar s)) (calm_defuse_failed e (calendar s)).later h)
    (λ k. capacities_later rs s.facilities (register e (callback.Resume p) (calendar s)) (later_self (calendar s) (register e (callback.Resume p) (calendar s)) refl) h)

-- ---- the units

pub capacities-popped : {B : Type 0} (g : Plan B) (tell : Telling B) (sound : B → Type 0) (s : State B) (x : Entry)
    → s.control ≡ Idle → due (calendar s).agenda ≡ Some x → LawfulBasis g tell sound s
    → LawfulCapacities g.setup.resources (pop_entry x s).facilities
capacities-popped g tell sound s x idle h l = capacities_later g.setup.resources s.facilities (popped x (calendar s)) (later_popped x (calendar s)) l.capacities

pub capacities-resumed : {B : Type 0} (g : Plan B) (tell : Telling B) (sound : B → Type 0) (s : State B) (e : EventId)
    (left : List Callback) (p : ProcId) → s.control ≡ Calling e (callback.Resume p ∷ left) → LawfulBasis g tell sound s
    → LawfulCapacities g.setup.resources (resume e left p s).facilities
capacities-resumed g tell sound s e left p at l = capacities_later g.setup.resources s.facilities (defuse_failed e (calendar s)) (calm_defuse_failed e (calendar s)).later l.capacities

pub capacities-stopped : {B : Type 0} (g : Plan B) (tell : Telling B) (sound : B → Type 0) (s : State B) (e : EventId)
    (left : List Callback) → s.control ≡ Calling e (callback.Stop ∷ left) → LawfulBasis g tell sound s
    → LawfulCapacities g.setup.resources (call g e callback.Stop left s).facilities
capacities-stopped g tell sound s e left at l = l.capacities

pub capacities-settled : {B : Type 0} (g : Plan B) (tell : Telling B) (sound : B → Type 0) (s : State B) (e : EventId)
    → s.control ≡ Calling e [] → LawfulBasis g tell sound s → LawfulCapacities g.setup.resources (settle e s).facilities
capacities-settled g tell sound s e at l = l.capacities

pub capacities-polled_end : {B : Type 0} (g : Plan B) (tell : Telling B) (sound : B → Type 0) (s : State B) (f : CodeFacts)
    (e : EventId) (left : List Callback) (p : ProcId) (x : Signal) (y : ProcessOf B) (b : B) (o : Outcome)
    → s.control ≡ Active e left p x → process_at p s ≡ Some y → sound b → LawfulBasis g tell sound s
    → IsTrue (length (scopes_told (tell.scopes y.body) (tell.last y.body) x) == 0)
    → LawfulCapacities g.setup.resources (rest (end_process p o (with_body p b s))).facilities
capacities-polled_end g tell sound s f e left p x y b o at found keeps l closed = capacities_later g.setup.resources s.facilities (trigger (event_of p) o (calendar s)) (calm_scheduled (event_of p) o normal (pos 0) (calendar s)).later l.capacities

pub capacities-made_process : {B : Type 0} (g : Plan B) (tell : Telling B) (sound : B → Type 0) (s : State B) (f : CodeFacts)
    (k : ℕ) (args : List ℤ) → IsTrue (nat_lt k (length f.params) && may_start (slice_index_or f.params k []) args)
    → IsLawfulStart f tell k args (record { 0 = (next_event (calendar s)).0 })
    (g.start k args (record { 0 = (next_event (calendar s)).0 }))
    → sound (g.start k args (record { 0 = (next_event (calendar s)).0 })) → LawfulBasis g tell sound s
    → LawfulCapacities g.setup.resources (make_process g k args s).facilities
capacities-made_process g tell sound s f k args fits start keeps l = capacities_later g.setup.resources s.facilities (make_events_of_process (calendar s)) (later_of_process (calendar s)) l.capacities

-- the capacity of a resource is not negative, and its opening is within it
abbrev InRange : Resource → Type 0
InRange r = (pos 0 ≤ℤ r.capacity) × (pos 0 ≤ℤ r.opening) × (r.opening ≤ℤ r.capacity)

-- what is at most the greatest opening is at most the capacity
opens_within : (kind : ResourceKind) (capacity opening : ℤ) → pos 0 ≤ℤ capacity → opening ≤ℤ most_opening kind capacity → opening ≤ℤ capacity
opens_within resource.Container capacity opening h le = le
opens_within _ capacity opening h le = grind (arith, ints)

in_range : (r : Resource) → resource_fits r ≡ true → InRange r
in_range r h = range_of r.kind (most_capacity r.kind) (most_opening r.kind r.capacity) r.capacity r.opening refl h
  where
    low : (least greatest n : ℤ) → is_within least greatest n ≡ true → (least ≤ℤ n) × (n ≤ℤ greatest)
    low least greatest n h = (grind (arith, ints), grind (arith, ints))

    range_of : (kind : ResourceKind) (most top capacity opening : ℤ) → top ≡ most_opening kind capacity
        → (is_within (pos 1) most capacity && is_within (pos 0) top opening) ≡ true
        → (pos 0 ≤ℤ capacity) × (pos 0 ≤ℤ opening) × (opening ≤ℤ capacity)
    range_of kind most top capacity opening is h =
        let parts = and_parts (is_within (pos 1) most capacity) (is_within (pos 0) top opening) h in
        let bounds = low (pos 1) most capacity parts.0 in
        let opening_in = low (pos 0) top opening parts.1 in
        let at_least : pos 0 ≤ℤ capacity = grind (arith, ints, bounds.0) in
        (at_least, opening_in.0, opens_within kind capacity opening at_least (rw is at opening_in.1))

pub capacities-blank : {B : Type 0} (g : Plan B) (tell : Telling B) (sound : B → Type 0) (f : CodeFacts) → FitsCode f g.setup
    → LawfulCapacities g.setup.resources (blank_state g).facilities
capacities-blank g tell sound f fits =
    let rs : List Resource = g.setup.resources in
    let range : (res : ℕ) → res < length rs → InRange (resource_at rs res) = λ res below. in_range (resource_at rs res) (All-get_or (λ r. resource_fits r ≡ true) rs res _ below fits.capacities) in
    record {
      slots = λ res below. (range res below).0;
      in_use = λ res i d below. absurd (omega (arith, below));
      level_low = λ res below. (range res below).1;
      level_high = λ res below. (range res below).2;
      room = λ res below. (range res below).0;
      waiting = λ i d below. absurd (omega (arith, below));
    }

pub capacities-set_stop : {B : Type 0} (g : Plan B) (tell : Telling B) (sound : B → Type 0) (s : State B) (until : Until)
    → IsTrue (until_fits g.setup.events until)
    → AreNamedPending g s
    → (calendar s).time ≡ pos 0 → s.control ≡ Idle → LawfulBasis g tell sound s
    → LawfulCapacities g.setup.resources (on_events (set_stop until) s).facilities
capacities-set_stop g tell sound s until fits named zero_time idle l = capacities_later g.setup.resources s.facilities (set_stop until (calendar s)) (later_stop until (calendar s)) l.capacities

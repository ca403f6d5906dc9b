-- An event is made that waits at a resource behind all others, and the queue is tried: a put or a get leaves a lawful state.
use Rattle.std.proofs.Common.{◌≡◌, ◌≢◌, ℕ, ◌<◌, ℤ, pos, Bool, true, false, ◌&&◌, not, List, length, refl, subst, ap, ◌∙◌, arith, if◌then◌else◌, All}
use Rattle.std.specs.Prelude.{nat_lt, is_none, int_lt}
use Rattle.std.proofs.lemmas.Bool.{and_from, lt-ltb}
use Rattle.std.proofs.lemmas.Bool.Decides.{nat_tests}
use Rattle.std.proofs.lemmas.Int.{ints}
use Rattle.std.proofs.lemmas.List.Elements.{All-weaker}
use Rattle.sim_types.specs.declared.event.EventId.{EventId}
use Rattle.sim_types.specs.declared.event.ProcId.{ProcId}
use Rattle.sim_types.specs.declared.event.EventKind.{EventKind}
use Rattle.sim_types.specs.declared.event.Callback.{Callback}
use Rattle.sim_types.specs.declared.event.EventKind.TheVariants as kind
use Rattle.sim_types.specs.declared.event.Callback.TheVariants as callback
use Rattle.sim_types.specs.declared.setup.Resource.{Resource}
use Rattle.sim_types.specs.declared.setup.ResourceKind.{ResourceKind}
use Rattle.sim_machine.specs.State.{EventOf, Calendar, Want, Give, Take, Waiter, Facilities, OpenScope, State, Plan}
use Rattle.sim_machine.specs.Events.{event_at, is_pending, is_processed, next_event, is_resume_of, register}
use Rattle.sim_machine.specs.Triggering.{make}
use Rattle.sim_machine.specs.Users.{resource_at}
use Rattle.sim_machine.specs.Attempts.{is_container}
use Rattle.sim_machine.specs.Requests.{join, make_put, make_get}
use Rattle.sim_machine.specs.Scopes.{on_facilities, on_events}
use Rattle.sim_machine.specs.Effect.{calendar}
use Rattle.sim_machine.specs.Tellings.{Telling}
use Rattle.sim_machine.specs.MayAsk.{takes_requests}
use Rattle.sim_machine.specs.Standing.{was_made, kind_at}
use Rattle.sim_machine.specs.LawfulInterruptions.{is_strike, is_interrupt_kind}
use Rattle.sim_machine.specs.LawfulWaiting.{waits_well, may_wait_kind, request_has_scope, is_put_kind, is_get_kind}
use Rattle.sim_machine.specs.LawfulCapacities.{waits_for_fitting, move_fits}
use Rattle.sim_machine.specs.LawfulChains.{chains_well}
use Rattle.sim_machine_law.proofs.Events.EventLaws.{make-length, make-new}
use Rattle.sim_machine_law.proofs.KeptParts.KeptRegistrationsCalendar.{Calm, below_made, made_below, calm_self, calm_made}
use Rattle.sim_machine_law.proofs.KeptParts.KeptConditions.{IsNoConditions}
use Rattle.sim_machine_law.proofs.KeptParts.KeptBodies.{four_parts, four_from}
use Rattle.sim_lawful.proofs.Calendars.ReplacedCalendars.{replace_made, replace_registered}
use Rattle.sim_lawful.proofs.Facilities.ChangedFacilities.{lawful_on_events}
use Rattle.sim_lawful.proofs.Facilities.ChangedQueues.{lawful_joins}
use Rattle.sim_lawful.proofs.Waiting.ServedWaiters.{waiter_no_interrupt}
use Rattle.sim_lawful.proofs.Waiting.TriedWaiters.{IsTriedWell, lawful_tried_put, lawful_tried_get}
use Rattle.sim_lawful.proofs.Calls.CalledTry.{try_put_is_no_conditions, try_get_is_no_conditions}
use Rattle.sim_machine_law.proofs.KeptParts.LawfulBasis.{LawfulBasis}

-- ---- an event is made that calls something once it is processed

-- a callback that resumes nobody, strikes nobody, is no condition's and passes nothing on
pub record CallsNobody (x : Callback) : Type 0 where
  pub resumes : (p : ProcId) → is_resume_of p x ≡ false
  pub strikes : is_strike x ≡ false
  pub no_condition : IsNoConditions x
  pub chains : (c : Calendar) (e : EventId) → chains_well c e x ≡ true

pub try_put_calls_nobody : (res : ℕ) → CallsNobody (callback.TryPut res)
try_put_calls_nobody res = record { resumes = λ p. refl; strikes = refl; no_condition = try_put_is_no_conditions res; chains = λ c e. refl }

pub try_get_calls_nobody : (res : ℕ) → CallsNobody (callback.TryGet res)
try_get_calls_nobody res = record { resumes = λ p. refl; strikes = refl; no_condition = try_get_is_no_conditions res; chains = λ c e. refl }

-- the new event, with its callback
abbrev pub with_new : EventKind → Callback → Calendar → Calendar
with_new k x c = register (next_event c) x (make k c)

pub lawful_new : {B : Type 0} (g : Plan B) (tell : Telling B) (sound : B → Type 0) (s : State B) (k : EventKind)
    (x : Callback) → is_interrupt_kind k ≡ false → CallsNobody x → LawfulBasis g tell sound s
    → LawfulBasis g tell sound (on_events (with_new k x) s)
lawful_new {B} g tell sound s k x other nobody l =
    let c : Calendar = calendar s in
    let d : Calendar = make k c in
    let e : EventId = next_event c in
    let t : State B = on_events (make k) s in
    let made : LawfulBasis g tell sound t = lawful_on_events g tell sound s (make k) l (replace_made g tell sound s k other l) (calm_made k c) in
    lawful_on_events g tell sound t (register e x) made
    (replace_registered g tell sound t e x (omega (arith, make-length k c)) (ap (λ (z : EventOf). z.processed) (make-new k c)) (ap (λ (z : EventOf). is_interrupt_kind z.kind) (make-new k c) ∙ other) nobody.resumes nobody.strikes nobody.no_condition (nobody.chains d e) made)
    (calm_self d (register e x d) refl)

-- it is there and pending
pub new_made : (k : EventKind) (x : Callback) (c : Calendar) → (next_event c).0 < length (with_new k x c).events
new_made k x c = omega (arith, make-length k c)

pub new_waits : (k : EventKind) (x : Callback) (c : Calendar) (w : Waiter) → w.event ≡ next_event c → may_wait_kind k ≡ true
    → waits_well (with_new k x c) w ≡ true
new_waits k x c w is kinds =
    let d : Calendar = with_new k x c in
    let e : EventId = next_event c in
    let new = make-new k c in
    ap (λ (n : EventId). was_made d n && is_pending d n && not (event_at d n).cancelled && may_wait_kind (kind_at d n)) is
    ∙ four_from (was_made d e) (is_pending d e) (not (event_at d e).cancelled) (may_wait_kind (kind_at d e)) (below_made d e (new_made k x c)) (ap (λ (z : EventOf). is_none z.outcome) new) (ap (λ (z : EventOf). not z.cancelled) new) (ap (λ (z : EventOf). may_wait_kind z.kind) new ∙ kinds)

-- nothing waits for an event that is yet to be made
pub waits_for_older : {B : Type 0} (g : Plan B) (tell : Telling B) (sound : B → Type 0) (s : State B)
    → LawfulBasis g tell sound s → All (λ v. v.event.0 ≢ (next_event (calendar s)).0) s.facilities.waiters
waits_for_older g tell sound s l =
    let c : Calendar = calendar s in
    All-weaker (λ v. waits_well c v ≡ true) (λ v. v.event.0 ≢ (next_event c).0) (λ v h same. older c v h same) s.facilities.waiters l.waiting.waiters
  where
    older : (c : Calendar) (v : Waiter) → waits_well c v ≡ true → v.event.0 ≡ length c.events → ⊥
    older c v h same =
        let made : v.event.0 < length c.events = made_below c v.event (four_parts (was_made c v.event) (is_pending c v.event) (not (event_at c v.event).cancelled) (may_wait_kind (kind_at c v.event)) h).0 in
        omega (arith, made, same)

-- ---- it waits

-- the facilities with an event of this kind more, which is there and is not processed
pub record IsMadeWell {B : Type 0} (g : Plan B) (tell : Telling B) (sound : B → Type 0) (s : State B) (k : EventKind) (f : Facilities) : Type 0 where
  pub lawful : LawfulBasis g tell sound (record s { facilities = f })
  pub made : (next_event (calendar s)).0 < length f.calendar.events
  pub kind : kind_at f.calendar (next_event (calendar s)) ≡ k
  pub unprocessed : is_processed f.calendar (next_event (calendar s)) ≡ false

-- a wait that needs no scope and fits its resource
lawful_joined : {B : Type 0} (g : Plan B) (tell : Telling B) (sound : B → Type 0) (s : State B) (k : EventKind) (res : ℕ)
    (want : Want) (x : Callback) → may_wait_kind k ≡ true → CallsNobody x
    → ((scopes : List OpenScope) (w : Waiter) → request_has_scope scopes w want ≡ true) → res < length g.setup.resources
    → ((c : Calendar) (w : Waiter) → kind_at c w.event ≡ k → waits_for_fitting c (resource_at g.setup.resources res) w want ≡ true)
    → LawfulBasis g tell sound s → LawfulBasis g tell sound (on_facilities (join k res want x) s)
lawful_joined {B} g tell sound s k res want x kinds nobody scope below fits l =
    let rs : List Resource = g.setup.resources in
    let c : Calendar = calendar s in
    let d : Calendar = with_new k x c in
    let e : EventId = next_event c in
    let t : State B = on_events (with_new k x) s in
    let w : Waiter = record { event = e; res = res; want = want } in
    let new : LawfulBasis g tell sound t = lawful_new g tell sound s k x (waiter_no_interrupt k kinds) nobody l in
    let apart : All (λ v. v.event.0 ≢ e.0) s.facilities.waiters = waits_for_older g tell sound s l in
    lawful_joins g tell sound t w new (new_waits k x c w refl kinds)
    (All-weaker (λ v. v.event.0 ≢ e.0) (λ v. v.event ≢ e) (λ v h same. h (ap (λ (n : EventId). n.0) same)) s.facilities.waiters apart)
    (scope s.scopes w)
    (and_from (nat_lt res (length rs)) (waits_for_fitting d (resource_at rs res) w want) (lt-ltb res (length rs) below) (fits d w (ap (λ (z : EventOf). z.kind) (make-new k c))))

-- the try that follows leaves the event there
made_well : {B : Type 0} (g : Plan B) (tell : Telling B) (sound : B → Type 0) (s t : State B) (k : EventKind) (x : Callback)
    (f : Facilities) → t.facilities.calendar ≡ with_new k x (calendar s)
    → LawfulBasis g tell sound (record s { facilities = f }) → Calm t.facilities.calendar f.calendar
    → IsMadeWell g tell sound s k f
made_well g tell sound s t k x f same lawful calm =
    let c : Calendar = calendar s in
    let d : Calendar = with_new k x c in
    let e : EventId = next_event c in
    let after : Calm d f.calendar = subst (λ (b : Calendar). Calm b f.calendar) same calm in
    let new = make-new k c in
    let there : e.0 < length d.events = new_made k x c in
    record {
      lawful = lawful;
      made = omega (arith, there, after.later.longer);
      kind = after.later.kinds e there ∙ ap (λ (z : EventOf). z.kind) new;
      unprocessed = after.processed e ∙ ap (λ (z : EventOf). z.processed) new;
    }

-- ---- puts and gets

pub lawful_put_made : {B : Type 0} (g : Plan B) (tell : Telling B) (sound : B → Type 0) (s : State B) (res : ℕ)
    (amount priority : ℤ) → res < length g.setup.resources → move_fits (resource_at g.setup.resources res).kind amount ≡ true
    → LawfulBasis g tell sound s
    → IsMadeWell g tell sound s kind.Put (make_put g.setup.resources res amount priority s.facilities)
lawful_put_made {B} g tell sound s res amount priority below fits l =
    let rs : List Resource = g.setup.resources in
    let want : Want = Give amount priority in
    let x : Callback = callback.TryGet res in
    let t : State B = on_facilities (join kind.Put res want x) s in
    let joined : LawfulBasis g tell sound t = lawful_joined g tell sound s kind.Put res want x refl (try_get_calls_nobody res) (λ scopes w. refl) below (λ c w is. and_from (is_put_kind (kind_at c w.event)) (move_fits (resource_at rs res).kind amount) (ap is_put_kind is) fits) l in
    let tried : IsTriedWell g tell sound t (make_put rs res amount priority s.facilities) = lawful_tried_put g tell sound t res joined in
    made_well g tell sound s t kind.Put x (make_put rs res amount priority s.facilities) refl tried.lawful tried.calm

pub lawful_get_made : {B : Type 0} (g : Plan B) (tell : Telling B) (sound : B → Type 0) (s : State B) (res : ℕ)
    (least greatest : ℤ) → res < length g.setup.resources → move_fits (resource_at g.setup.resources res).kind least ≡ true
    → LawfulBasis g tell sound s
    → IsMadeWell g tell sound s kind.Get (make_get g.setup.resources res least greatest s.facilities)
lawful_get_made {B} g tell sound s res least greatest below fits l =
    let rs : List Resource = g.setup.resources in
    let want : Want = Take least greatest in
    let x : Callback = callback.TryPut res in
    let t : State B = on_facilities (join kind.Get res want x) s in
    let joined : LawfulBasis g tell sound t = lawful_joined g tell sound s kind.Get res want x refl (try_put_calls_nobody res) (λ scopes w. refl) below (λ c w is. and_from (is_get_kind (kind_at c w.event)) (move_fits (resource_at rs res).kind least) (ap is_get_kind is) fits) l in
    let tried : IsTriedWell g tell sound t (make_get rs res least greatest s.facilities) = lawful_tried_get g tell sound t res joined in
    made_well g tell sound s t kind.Get x (make_get rs res least greatest s.facilities) refl tried.lawful tried.calm

-- an amount that is not refused fits where no requests are taken
moves_if : (b t : Bool) (amount : ℤ) → t ≡ true → (b && int_lt amount (pos 1)) ≡ false → (if b then int_lt (pos 0) amount else t) ≡ true
moves_if true t amount h refused = positive amount refused
  where
    positive : (n : ℤ) → int_lt n (pos 1) ≡ false → int_lt (pos 0) n ≡ true
    positive n h = grind (arith, ints, nat_tests)
moves_if false t amount h refused = h

pub move_of : (k : ResourceKind) (amount : ℤ) → not (takes_requests k) ≡ true → (is_container k && int_lt amount (pos 1)) ≡ false → move_fits k amount ≡ true
move_of k amount h refused = moves_if (is_container k) (not (takes_requests k)) amount h refused

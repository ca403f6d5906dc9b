-- What a later unit may come back to is kept.
use Rattle.std.proofs.Common.{◌≡◌, ℕ, ◌+◌, ◌<◌, ◌≤◌, Bool, true, false, ◌||◌, ◌&&◌, not, length, List, [], refl, sym, ap, subst, ◌∙◌, arith, ⊎_elim, inl, inr, zero, suc, get_or, if◌then◌else◌}
use Rattle.std.specs.Prelude.{All, count_by, is_none, is_some, ◌==◌}
use Rattle.std.specs.List.{AllPass, list_any, list_all}
use Rattle.std.proofs.lemmas.Bool.{and_parts, both_ways, false≢true, not-true, or_cases, cases_Bool, lt-ltb, eqb-true}
use Rattle.std.proofs.lemmas.Bool.Decides.{nat_tests}
use Rattle.std.proofs.lemmas.List.Elements.{All-weaker}
use Rattle.std.proofs.lemmas.List.Folds.{list_any_at, list_all_at}
use Rattle.sim_types.specs.declared.event.EventId.{EventId}
use Rattle.sim_types.specs.declared.event.ProcId.{ProcId}
use Rattle.sim_types.specs.declared.event.EventKind.{EventKind}
use Rattle.sim_types.specs.declared.event.EventKind.TheVariants as kind
use Rattle.sim_types.specs.declared.event.Callback.{Callback}
use Rattle.sim_types.specs.declared.event.Callback.TheVariants as callback
use Rattle.sim_types.specs.declared.event.Signal.TheVariants as signal
use Rattle.sim_types.specs.declared.setup.Class.TheVariants as class
use Rattle.sim_machine.specs.State.{EventOf, Calendar, Waiter, User, ProcessOf, Control, Idle, Calling, Active, Over, State, Plan}
use Rattle.sim_machine.specs.Events.{is_triggered, event_at, is_same, is_process, is_pending, is_processed, is_resume_of, is_check_of, callbacks_of}
use Rattle.sim_machine.specs.Users.{users}
use Rattle.sim_machine.specs.Conditions.{is_condition, members_of}
use Rattle.sim_machine.specs.Processes.{event_of, is_alive}
use Rattle.sim_machine.specs.Effect.{calendar}
use Rattle.sim_machine.specs.Tellings.{Place, Telling, is_class, kind_fits}
use Rattle.sim_machine.specs.MayFollow.{may_be_told, makes_kind}
use Rattle.sim_machine.specs.Standing.{one_if, was_made, kind_at, left_of, is_event_of, all_callbacks_of, callbacks_in_all}
use Rattle.sim_machine.specs.KeptEvents.{is_in_process, is_in_body, triggers, is_kept}
use Rattle.sim_machine.specs.LawfulProcesses.{is_active, is_process_kind, is_living_well}
use Rattle.sim_machine.specs.LawfulWaiting.{is_told_made, waits_well, may_wait_kind, is_cancelled_well, has_scope}
use Rattle.sim_machine.specs.LawfulCapacities.{is_in_use}
use Rattle.sim_machine.specs.LawfulConditions.{is_condition_kind, is_build_of, is_empty, checks_at, first_passes, needs_build}
use Rattle.sim_machine.specs.LawfulBodies.{place_fits, told_fits, is_told_well}
use Rattle.sim_machine.specs.LawfulChains.{is_trigger_kind, is_triggered_kind, chains_well}
use Rattle.sim_machine.specs.Lawful.{Lawful}
use Rattle.sim_lawful.specs.ReachedEvents.{is_over, names_kept}
use Rattle.sim_machine_law.proofs.Events.CallbackLaws.{count_by-append, callbacks_at-most}
use Rattle.sim_machine_law.proofs.Events.EventLaws.{is_same-self}
use Rattle.sim_lawful.proofs.Following.FollowingCalendars.{uncancelled_kind}
use Rattle.sim_machine_law.proofs.KeptParts.KeptRegistrationsCalendar.{made_if, made_below, turned_made, processed_made, pending_unprocessed}
use Rattle.sim_machine_law.proofs.KeptParts.KeptTimes.{agenda_triggered}
use Rattle.sim_machine_law.proofs.KeptParts.KeptProcessesParts.{LivesWell, lives_well, is_process-yes, is_process-self}
use Rattle.sim_machine_law.proofs.KeptParts.KeptInterruptionsParts.{any_counted, counted_any, each_counts, passes_at}
use Rattle.sim_machine_law.proofs.KeptParts.KeptBodies.{four_parts}
use Rattle.sim_machine_law.proofs.KeptParts.KeptBodiesPolls.{told_active}
use Rattle.sim_machine_law.proofs.KeptParts.LawfulBasis.{basis_of}
use Rattle.sim_lawful.proofs.Calendars.ConditionKinds.{condition_kind}
use Rattle.sim_lawful.proofs.ConditionLaws.CalledCheck.{HasMember, has_member}
use Rattle.sim_lawful.proofs.Reached.KeptReasons.{any_weaker, or_first, or_second, kept_open, kept_named, kept_in_process, kept_in_body, kept_in_scope, kept_triggered, kept_member}
use Rattle.sim_lawful.proofs.Waiting.PolledCancel.{any_gives}
use Rattle.sim_lawful.proofs.Calendars.ReplacedCalendars.{waiter_made}

-- ---- events that were not cancelled

-- the event of a process, and a condition, are never cancelled
process_waits_not : (k : EventKind) → is_process_kind k ≡ true → may_wait_kind k ≡ false
process_waits_not kind.Process h = refl
process_waits_not _ h = absurd (false≢true h)

condition_waits_not : (k : EventKind) → is_condition_kind k ≡ true → may_wait_kind k ≡ false
condition_waits_not kind.Cond h = refl
condition_waits_not _ h = absurd (false≢true h)

number_or : (a b : Bool) → (a ≡ false → b ≡ true) → (a || b) ≡ true
number_or true b h = refl
number_or false b h = h refl

pub all_pass : {X : Type 0} (p : X → Bool) (xs : List X) (i : ℕ) (d : X) → i < length xs → list_all p xs ≡ true → p (get_or xs i d) ≡ true
all_pass p xs i d below h = at (p (get_or xs i d)) refl
  where
    at : (b : Bool) → p (get_or xs i d) ≡ b → b ≡ true
    at true is = refl
    at false is = sym (list_all_at p xs i d below is) ∙ h

none_of : (b : Bool) → (b ≡ true → ⊥) → b ≡ false
none_of true h = absurd (h refl)
none_of false h = refl

module _ {B : Type 0} (g : Plan B) (tell : Telling B) (sound : B → Type 0) (s : State B) (l : Lawful g tell sound s) where
  abbrev Kept : EventId → Type 0
  Kept e = is_kept g.setup.events tell s e ≡ true

  -- a pending event that may not be cancelled is kept
  pending_kept : (e : EventId) → e.0 < length (calendar s).events → is_pending (calendar s) e ≡ true → (event_at (calendar s) e).cancelled ≡ false → Kept e
  pending_kept e made pending uncancelled = kept_open g.setup.events tell s e made (pending_unprocessed (calendar s) e l.registrations.outcomes pending) uncancelled

  uncancelled : (e : EventId) → may_wait_kind (kind_at (calendar s) e) ≡ false → (event_at (calendar s) e).cancelled ≡ false
  uncancelled e never = uncancelled_kind (event_at (calendar s) e) (passes_at is_cancelled_well (calendar s) e refl l.waiting.cancelled) never

  -- ---- entries, and what is told

  -- what is cancelled is pending
  cancelled_pending : (e : EventId) → (event_at (calendar s) e).cancelled ≡ true → is_pending (calendar s) e ≡ true
  cancelled_pending e is =
      let x : EventOf = event_at (calendar s) e in
      (and_parts (may_wait_kind x.kind) (is_none x.outcome) (rw is at (passes_at is_cancelled_well (calendar s) e refl l.waiting.cancelled))).1

  triggered_kept : (e : EventId) → is_triggered (calendar s) e ≡ true → Kept e
  triggered_kept e triggered =
      let c : Calendar = calendar s in
      let parts = and_parts (not (is_pending c e)) (not (is_processed c e)) triggered in
      kept_open g.setup.events tell s e (turned_made c e parts.0) (not-true (is_processed c e) parts.1)
      (none_of (event_at c e).cancelled (λ is. both_ways (is_pending c e) (not-true (is_pending c e) parts.0) (cancelled_pending e is)))

  pub entries_kept : All (λ x. Kept x.event) (calendar s).agenda
  entries_kept = All-weaker (λ x. is_triggered (calendar s) x.event ≡ true) (λ x. Kept x.event) (λ x h. triggered_kept x.event h) (calendar s).agenda (agenda_triggered (calendar s) l.times)

  pub told_kept : (f : EventId) (left : List Callback) (p : ProcId) (e : EventId) → s.control ≡ Active f left p (signal.Made e) → Kept e
  told_kept f left p e active =
      let c : Calendar = calendar s in
      let uncancelled : (event_at c e).cancelled ≡ false = not-true (event_at c e).cancelled (l.waiting.told e (ap (λ k. is_told_made k e) active ∙ is_same-self e)) in
      let told : ProcessOf B → Bool = λ x. is_told_well tell c x.id x.body s.control in
      let alive : is_alive p s ≡ true = l.processes.active p (ap (λ k. is_active k p) active ∙ is_process-self p) in
      any_gives (λ x. told x ≡ true) (Kept e) (λ x. is_process x.id p) s.processes (λ x well is.
      let fits : told_fits tell c x.body (signal.Made e) ≡ true = sym (told_active tell c x.id x.body f left p (signal.Made e) is) ∙ (ap (λ k. is_told_well tell c x.id x.body k) (sym active) ∙ well) in
      let parts = four_parts (may_be_told (tell.last x.body) (signal.Made e)) (was_made c e) (not (is_processed c e)) (makes_kind (tell.last x.body) (kind_at c e)) fits in
      kept_open g.setup.events tell s e (made_below c e parts.1) (not-true (is_processed c e) parts.2) uncancelled) l.bodies.told alive

  -- ---- what waits, and what is used

  waiter_kept : (w : Waiter) → waits_well (calendar s) w ≡ true → Kept w.event
  waiter_kept w h =
      let parts = four_parts (was_made (calendar s) w.event) (is_pending (calendar s) w.event) (not (event_at (calendar s) w.event).cancelled) (may_wait_kind (kind_at (calendar s) w.event)) h in
      pending_kept w.event (waiter_made (calendar s) w h) parts.1 (not-true (event_at (calendar s) w.event).cancelled parts.2)

  pub waiters_kept : All (λ w. Kept w.event) s.facilities.waiters
  waiters_kept = All-weaker (λ w. waits_well (calendar s) w ≡ true) (λ w. Kept w.event) waiter_kept s.facilities.waiters l.waiting.waiters

  second_part : (a b x y z : Bool) → (a && b && x && y && z) ≡ true → b ≡ true
  second_part a b x y z h = grind arith

  pub scopes_kept : All (λ x. Kept x.request) s.scopes
  scopes_kept k x below =
      let e : EventId = (get_or s.scopes k x).request in
      kept_in_scope g.setup.events tell s e (made_below (calendar s) e (second_part (is_alive (get_or s.scopes k x).process s) (was_made (calendar s) e) _ _ _ (l.waiting.scopes k x below))) (list_any_at (λ y. is_same y.request e) s.scopes k x below (is_same-self e))

  user_kept : (res : ℕ) (u : User) → has_scope s.scopes u.request u.process res ≡ true → is_in_use (calendar s) u ≡ true → Kept u.request
  user_kept res u has used =
      kept_in_scope g.setup.events tell s u.request (made_below (calendar s) u.request (and_parts (was_made (calendar s) u.request) (not (is_pending (calendar s) u.request)) used).0)
      (any_weaker (λ x. is_same x.request u.request && is_process x.process u.process && (x.res == res)) (λ x. is_same x.request u.request) s.scopes
      (λ x at. (and_parts (is_same x.request u.request) (is_process x.process u.process) (and_parts (is_same x.request u.request && is_process x.process u.process) (x.res == res) at).0).0) has)

  pub users_kept : (res : ℕ) → All (λ u. Kept u.request) (users res s.facilities.ledger)
  users_kept res k u below = user_kept res (get_or (users res s.facilities.ledger) k u) (l.waiting.using res k u below) (l.capacities.in_use res k u below)

  -- ---- processes

  living_kept : (p : ProcId) (target : EventId) → LivesWell (calendar s) p target → Kept (event_of p)
  living_kept p target lives = pending_kept (event_of p) lives.made lives.pending (uncancelled (event_of p) (process_waits_not (kind_at (calendar s) (event_of p)) lives.kind))

  pub processes_kept : All (λ x. Kept (event_of x.id)) s.processes
  processes_kept = All-weaker (λ x. is_living_well s x ≡ true) (λ x. Kept (event_of x.id)) (λ x h. living_kept x.id x.target (lives_well s x h)) s.processes l.processes.living

  pub targets_kept : All (λ x. Kept x.target) s.processes
  targets_kept k x below =
      let y : ProcessOf B = get_or s.processes k x in
      kept_in_body g.setup.events tell s y.target (lives_well s y (l.processes.living k x below)).waits_for
      (list_any_at (is_in_body tell y.target) s.processes k x below (or_first (is_same y.target y.target) _ (is_same-self y.target)))

  place_made : (x : Place) → place_fits (calendar s) x ≡ true → x.event.0 < length (calendar s).events
  place_made x h =
      ⊎_elim (λ zero. let none : x.event.0 ≡ 0 = eqb-true x.event.0 0 zero in let some = l.processes.named_made in omega (arith, none, some))
      (λ fits. made_below (calendar s) x.event (and_parts (was_made (calendar s) x.event) (kind_fits x.class (kind_at (calendar s) x.event)) fits).0) (or_cases (x.event.0 == 0) _ h)

  pub places_kept : All (λ x. All (λ y. (is_class y.class class.Number || is_kept g.setup.events tell s y.event) ≡ true) (tell.places x.body)) s.processes
  places_kept k x below i y at =
      let z : ProcessOf B = get_or s.processes k x in
      let v : Place = get_or (tell.places z.body) i y in
      number_or (is_class v.class class.Number) (is_kept g.setup.events tell s v.event) (λ other.
      kept_in_body g.setup.events tell s v.event (place_made v (all_pass (place_fits (calendar s)) (tell.places z.body) i y at (l.bodies.places k x below)))
      (list_any_at (is_in_body tell v.event) s.processes k x below (or_second (is_same z.target v.event) _
      (list_any_at (λ u. not (is_class u.class class.Number) && is_same u.event v.event) (tell.places z.body) i y at (rw (other, is_same-self v.event) refl)))))

-- ---- where a callback stands

none_counts : {X : Type 0} (p : X → Bool) (xs : List X) → list_any p xs ≡ false → count_by p xs ≡ 0
none_counts p xs none = zero_unless (count_by p xs) (λ some. both_ways (list_any p xs) none (any_counted p xs some))
  where
    zero_unless : (n : ℕ) → (0 < n → ⊥) → n ≡ 0
    zero_unless zero h = refl
    zero_unless (suc n) h = absurd (h (omega arith))

-- an event at which it is registered, or whose callbacks it is among that are still to call
record StandsAt (c : Calendar) (k : Control) (x : Callback) : Type 0 where
  pub event : EventId
  pub well : chains_well c event x ≡ true
  pub counts : (test : Callback → Bool) → test x ≡ true → 0 < count_by test (all_callbacks_of c k event)

in_control : (k : Control) → 0 < length (left_of k) → (e : EventId) × (is_event_of k e ≡ true)
in_control Idle some = absurd (omega (arith, some))
in_control (Calling e left) some = (e, is_same-self e)
in_control (Active e left p x) some = (e, is_same-self e)
in_control (Over why e left) some = (e, is_same-self e)

in_process_of : (k : Control) (e : EventId) → is_over k ≡ false → is_event_of k e ≡ true → is_in_process k e ≡ true
in_process_of Idle e goes_on h = h
in_process_of (Calling f left) e goes_on h = h
in_process_of (Active f left p x) e goes_on h = h
in_process_of (Over why f left) e goes_on h = absurd (both_ways true goes_on refl)

event_of_process : (k : Control) (e : EventId) → is_in_process k e ≡ true → is_event_of k e ≡ true
event_of_process Idle e h = h
event_of_process (Calling f left) e h = h
event_of_process (Active f left p x) e h = h
event_of_process (Over why f left) e h = absurd (false≢true h)

module _ {X Y : Type 0} (p : X → Bool) (q : Y → Bool) (xs : List X) (ys : List Y) where
  either_counts : 0 < count_by p xs + count_by q ys → (list_any p xs || list_any q ys) ≡ true
  either_counts h =
      elim (cases_Bool (list_any p xs)) [
        | inl some ↦ or_first (list_any p xs) (list_any q ys) some
        | inr none ↦ or_second (list_any p xs) (list_any q ys) (any_counted q ys (omega (arith, h, none_counts p xs none)))
      ]

left_event : (n : ℕ) (b q : Bool) → 0 < n → ((n == 0) || (n == 1) && b && q) ≡ true → b ≡ true
left_event n b q some h = grind (arith, nat_tests)

is_not_idle : (a b : Bool) → (a || not b) ≡ false → b ≡ true
is_not_idle true b h = absurd (both_ways true h refl)
is_not_idle false true h = refl
is_not_idle false false h = absurd (both_ways true h refl)

module _ {B : Type 0} (g : Plan B) (tell : Telling B) (sound : B → Type 0) (s : State B) (l : Lawful g tell sound s) where
  abbrev IsKept : EventId → Type 0
  IsKept e = is_kept g.setup.events tell s e ≡ true

  abbrev Stands : Callback → Type 0
  Stands x = StandsAt (calendar s) s.control x

  registered_stand : All (λ r. StandsAt (calendar s) s.control r.callback) (calendar s).registered
  registered_stand i r below =
      let c : Calendar = calendar s in
      let e : EventId = (get_or c.registered i r).event in
      let left : List Callback = if is_event_of s.control e then left_of s.control else [] in
      record {
        event = e;
        well = l.chains.registered i r below;
        counts = λ test is. let some : 0 < count_by test (callbacks_of e c) = each_counts test c.registered i r below is in omega (arith, some, count_by-append test (callbacks_of e c) left);
      }

  left_stand : All (StandsAt (calendar s) s.control) (left_of s.control)
  left_stand i x below =
      let c : Calendar = calendar s in
      let left : List Callback = left_of s.control in
      let at : (e : EventId) × (is_event_of s.control e ≡ true) = in_control s.control (omega (arith, below)) in
      let e : EventId = at.0 in
      record {
        event = e;
        well = l.chains.calling e at.1 i x below;
        counts = λ test is.
            let some : 0 < count_by test left = counted_any test left (list_any_at test left i x below is) in
            let here : count_by test (if is_event_of s.control e then left else []) ≡ count_by test left = ap (λ b. count_by test (if b then left else [])) at.1 in
            omega (arith, some, here, count_by-append test (callbacks_of e c) (if is_event_of s.control e then left else []));
      }

  -- so it is counted
  stands_once : (x : Callback) (test : Callback → Bool) → test x ≡ true → Stands x → 0 < callbacks_in_all test (calendar s) s.control
  stands_once x test is at = omega (arith, at.counts test is, callbacks_at-most test (calendar s) s.control at.event)

  -- ---- what it names

  resumed_kept : (p : ProcId) → Stands (callback.Resume p) → IsKept (event_of p)
  resumed_kept p at =
      let one : 0 < callbacks_in_all (is_resume_of p) (calendar s) s.control = stands_once (callback.Resume p) (is_resume_of p) (is_process-self p) at in
      let alive : is_alive p s ≡ true = elim (cases_Bool (is_active s.control p || not (is_alive p s))) [
        | inl ended ↦ absurd (omega (arith, one, l.processes.not_resumed p ended))
        | inr other ↦ is_not_idle (is_active s.control p) (is_alive p s) other
      ] in
      any_gives (λ x. is_kept g.setup.events tell s (event_of x.id) ≡ true) (is_kept g.setup.events tell s (event_of p) ≡ true) (λ x. is_process x.id p) s.processes
      (λ x kept is. subst (λ q. is_kept g.setup.events tell s (event_of q) ≡ true) (is_process-yes x.id p is) kept) (processes_kept g tell sound s l) alive

  event_kept : (e : EventId) → is_in_process s.control e ≡ true → is_event_of s.control e ≡ true → IsKept e
  event_kept e is of = kept_in_process g.setup.events tell s e (processed_made (calendar s) e (l.registrations.processing e of)) is

  condition_kept : (cond : EventId) → is_condition (calendar s) cond ≡ true → is_processed (calendar s) cond ≡ false → IsKept cond
  condition_kept cond is unprocessed =
      let made : cond.0 < length (calendar s).events = made_if (λ x. is_some x.condition) (calendar s) cond refl is in
      kept_open g.setup.events tell s cond made unprocessed (uncancelled g tell sound s l cond (condition_waits_not (kind_at (calendar s) cond) (condition_kind (calendar s) cond l.conditions.kinds is)))

  checked_kept : (cond : EventId) → is_over s.control ≡ false → Stands (callback.Check cond) → IsKept cond
  checked_kept cond goes_on at =
      let c : Calendar = calendar s in
      let one : 0 < checks_at c s.control cond at.event = at.counts (is_check_of cond) (is_same-self cond) in
      let m : HasMember c cond at.event = has_member c s.control cond at.event (basis_of g tell sound s l).conditions (omega (arith, one, l.conditions.checks cond at.event)) in
      ⊎_elim (λ unprocessed. condition_kept cond m.is (not-true (is_processed c cond) unprocessed))
      (λ building. let of : is_event_of s.control cond ≡ true = (and_parts (is_event_of s.control cond) (list_any (is_build_of cond) (left_of s.control)) building).0 in event_kept cond (in_process_of s.control cond goes_on of) of)
      (or_cases (not (is_processed c cond)) (is_event_of s.control cond && list_any (is_build_of cond) (left_of s.control)) (l.conditions.unbuilt cond at.event (lt-ltb 0 (checks_at c s.control cond at.event) one)))

  built_kept : (cond : EventId) → is_over s.control ≡ false → Stands (callback.Build cond) → IsKept cond
  built_kept cond goes_on at =
      let c : Calendar = calendar s in
      let one : 0 < callbacks_in_all (is_build_of cond) c s.control = stands_once (callback.Build cond) (is_build_of cond) (is_same-self cond) at in
      elim (cases_Bool (needs_build c cond)) [
        | inl needs ↦ (let parts = and_parts (is_condition c cond) (not (is_processed c cond)) (and_parts (is_condition c cond && not (is_processed c cond)) (not (is_empty (members_of c cond))) needs).0 in
            condition_kept cond parts.0 (not-true (is_processed c cond) parts.1))
        | inr none ↦ (let zero : one_if (needs_build c cond) ≡ 0 = ap one_if none in
            let left : 0 < count_by (is_build_of cond) (left_of s.control) = omega (arith, one, zero, l.conditions.builds cond) in
            let of : is_event_of s.control cond ≡ true = left_event (count_by (is_build_of cond) (left_of s.control)) (is_event_of s.control cond) (first_passes (is_build_of cond) (left_of s.control)) left (l.conditions.left cond) in
            event_kept cond (in_process_of s.control cond goes_on of) of)
      ]

  chained_kept : (y : EventId) → Stands (callback.Trigger y) → IsKept y
  chained_kept y at =
      let c : Calendar = calendar s in
      let made : was_made c y ≡ true = (and_parts (is_trigger_kind (kind_at c at.event)) (was_made c y) (and_parts (is_trigger_kind (kind_at c at.event) && was_made c y) (is_triggered_kind (kind_at c y)) at.well).0).1 in
      let one : 0 < callbacks_in_all (triggers y) c s.control = stands_once (callback.Trigger y) (triggers y) (is_same-self y) at in
      kept_triggered g.setup.events tell s y (made_below c y made) (either_counts (λ r. triggers y r.callback) (triggers y) c.registered (left_of s.control) one)

  callback_kept : (x : Callback) → is_over s.control ≡ false → Stands x → names_kept g.setup.events tell s x ≡ true
  callback_kept (callback.Resume p) goes_on at = resumed_kept p at
  callback_kept (callback.Strike p) goes_on at = refl
  callback_kept (callback.Check cond) goes_on at = checked_kept cond goes_on at
  callback_kept (callback.Build cond) goes_on at = built_kept cond goes_on at
  callback_kept (callback.TryPut res) goes_on at = refl
  callback_kept (callback.TryGet res) goes_on at = refl
  callback_kept callback.Stop goes_on at = refl
  callback_kept (callback.Trigger y) goes_on at = chained_kept y at

  pub registered_kept : is_over s.control ≡ false → AllPass (λ r. names_kept g.setup.events tell s r.callback) (calendar s).registered
  registered_kept goes_on =
      All-weaker (λ r. StandsAt (calendar s) s.control r.callback) (λ r. names_kept g.setup.events tell s r.callback ≡ true) (λ r at. callback_kept r.callback goes_on at) (calendar s).registered registered_stand

  pub left_kept : is_over s.control ≡ false → AllPass (names_kept g.setup.events tell s) (left_of s.control)
  left_kept goes_on = All-weaker (StandsAt (calendar s) s.control) (λ x. names_kept g.setup.events tell s x ≡ true) (λ x at. callback_kept x goes_on at) (left_of s.control) left_stand

  -- ---- what is processed, members, and named events

  pub process_kept : (e : EventId) → is_in_process s.control e ≡ true → is_kept g.setup.events tell s e ≡ true
  process_kept e is = event_kept e is (event_of_process s.control e is)

  pub members_kept : (cond e : EventId) → list_any (is_same e) (members_of (calendar s) cond) ≡ true → IsKept cond → IsKept e
  members_kept cond e is kept =
      let m : HasMember (calendar s) cond e = has_member (calendar s) s.control cond e (basis_of g tell sound s l).conditions (counted_any (is_same e) (members_of (calendar s) cond) is) in
      kept_member g.setup.events tell s cond e m.older is kept

  pub all_named_kept : (e : EventId) → e.0 ≤ g.setup.events → is_kept g.setup.events tell s e ≡ true
  all_named_kept e few = kept_named g.setup.events tell s e (omega (arith, few, l.processes.named_made)) few

-- A step makes at most 40 events, and processes at most one.
use Rattle.std.proofs.Common.{◌≡◌, ◌+◌, ◌≤◌, ◌<◌, ℕ, zero, suc, ℤ, Bool, true, false, not, ◌&&◌, List, [], ◌∷◌, Option, Some, None, length, filter, refl, sym, subst, ap, ◌∙◌, arith, All}
use Rattle.std.specs.Prelude.{fold, find, ◌==◌, pos}
use Rattle.std.proofs.Math.ListN.{length-set}
use Rattle.std.proofs.lemmas.List.{length-map, length-reverse}
use Rattle.std.proofs.lemmas.Bool.{and_parts, eqb-true, false≢true, not-true}
use Rattle.std.proofs.lemmas.List.Elements.{All-head, All-tail, All-weaker, filter_passes}
use Rattle.sim_types.specs.Throws.{failure, interrupt, preemption, amount_not_positive, condition_too_wide, ended_process, process_itself}
use Rattle.sim_types.specs.declared.event.EventId.{EventId}
use Rattle.sim_types.specs.declared.event.ProcId.{ProcId}
use Rattle.sim_types.specs.declared.event.RequestKey.{RequestKey}
use Rattle.sim_types.specs.declared.event.EventKind.{EventKind}
use Rattle.sim_types.specs.declared.event.EventKind.TheVariants as kind
use Rattle.sim_types.specs.declared.event.Outcome.{Outcome}
use Rattle.sim_types.specs.declared.event.Throw.{Throw}
use Rattle.sim_types.specs.declared.event.Callback.{Callback}
use Rattle.sim_types.specs.declared.event.Outcome.TheVariants as outcome
use Rattle.sim_types.specs.declared.event.Callback.TheVariants as callback
use Rattle.sim_types.specs.declared.op.Op.{Op}
use Rattle.sim_types.specs.declared.op.Op.TheVariants as op
use Rattle.sim_types.specs.declared.setup.Resource.{Resource}
use Rattle.sim_types.specs.declared.setup.ResourceKind.{ResourceKind}
use Rattle.sim_types.specs.declared.setup.ResourceKind.TheVariants as resource
use Rattle.sim_machine.specs.State.{AllOrAny, Every, Either, EventOf, Calendar, Want, Slot, Give, Take, Waiter, User, Released, Facilities, OpenScope, Control, Idle, Calling, Active, Over, State, Plan}
use Rattle.sim_machine.specs.Events.{is_same, is_process, event_at, is_fail, next_event, change_event, cancel_event, register, unregister, is_check_of}
use Rattle.sim_machine.specs.Triggering.{make, make_timeout, make_interruption}
use Rattle.sim_machine.specs.Conditions.{is_too_wide, members_of, check, join_member, join_members, make_condition, take_checks_within, fix_value, build, most_weight}
use Rattle.sim_machine.specs.Users.{first_of_list, resource_at, users, items, wants_to_put, put_queue, get_queue}
use Rattle.sim_machine.specs.Attempts.{Grant, NoSlot, FreeSlot, SlotOf, Served, has_free_slot, slot_in_use, grant_of, put_served, get_served}
use Rattle.sim_machine.specs.Trying.{on_calendar, write_deed, level, unqueue, serve_if_any, preempt, take_slot, use_slot, attempt_for, attempt, Reach, First, goes_on, try_along, put_reach, get_reach, try_put, try_get}
use Rattle.sim_machine.specs.Requests.{request_key, is_own_victim, is_refused_amount, join, make_put, make_get, make_release, is_user, end_use, waits, cancel, leave}
use Rattle.sim_machine.specs.Scopes.{on_facilities, on_events, scopes_inwards, close_scope, close_if_any, leave_all, release_if_any}
use Rattle.sim_machine.specs.Processes.{event_of, is_alive, with_body, wait, make_events_of_process, drop_process, stop_waiting, strip_resume, defuse_failed}
use Rattle.sim_machine.specs.Effect.{calendar, raise, tell_made, with_timeout, trigger_pending, to_another, with_condition, enter, with_move, pass_on, chain, effect}
use Rattle.sim_machine.specs.Steps.{Turn, IsStepAt, IsStep, strike, call, call_or_settle}
use Rattle.sim_machine.specs.Tellings.{Telling}
use Rattle.sim_machine.specs.MayAsk.{most_scopes}
use Rattle.sim_machine.specs.LawfulWaiting.{requests_of, KnowsItsScopes}
use Rattle.sim_machine.specs.Lawful.{Lawful}
use Rattle.sim_machine_law.proofs.Events.EventLaws.{change_event-length, make-length}
use Rattle.sim_machine_law.proofs.Processes.MadeInterruption.{length-interrupted}
use Rattle.sim_machine_law.proofs.KeptParts.KeptTimesCases.{if_cases, timeout_cases, draw_cases}
use Rattle.sim_machine_law.proofs.KeptParts.KeptProcesses.{alive_has}
use Rattle.sim_machine_law.proofs.KeptParts.KeptWaitingPolls.{alive_changed}
use Rattle.sim_machine_law.proofs.RunLaws.JournalLaws.{effect_processed, call_or_settle_processed}
use Rattle.sim_machine_law.proofs.Ledger.TriedQueues.{all_in_order}

-- ---- calendars

triggered_same : {B : Type 0} (e : EventId) (x : Outcome) (s : State B) → length (calendar (trigger_pending e x s)).events ≡ length (calendar s).events
triggered_same e x s = grind (arith, length-set {A = EventOf})

passed_same : (x : Option Outcome) (y : EventId) (c : Calendar) → length (pass_on x y c).events ≡ length c.events
passed_same None y c = refl
passed_same (Some x) y c = grind (arith, length-set {A = EventOf})

defused_same : (e : EventId) (c : Calendar) → length (defuse_failed e c).events ≡ length c.events
defused_same e c = grind (arith, length-set {A = EventOf})

struck_same : {B : Type 0} (e : EventId) (left : List Callback) (p : ProcId) (s : State B) →
    length (calendar (strike e left p s)).events ≡ length (calendar s).events
struck_same e left p s = grind arith

checked_same : (cond member : EventId) (c : Calendar) → length (check cond member c).events ≡ length c.events
checked_same cond member c = grind (arith, length-set {A = EventOf})

joined_same : (cond member : EventId) (c : Calendar) → length (join_member cond c member).events ≡ length c.events
joined_same cond member c = grind (arith, checked_same)

folded_same : (change : Calendar → EventId → Calendar) → ((c : Calendar) (e : EventId) → length (change c e).events ≡ length c.events) →
    (es : List EventId) (c : Calendar) → length (fold change c es).events ≡ length c.events
folded_same change h [] c = refl
folded_same change h (e ∷ es) c = folded_same change h es (change c e) ∙ h c e

joined_all_same : (cond : EventId) (members : List EventId) (c : Calendar) → length (join_members cond members c).events ≡ length c.events
joined_all_same cond [] c = change_event-length cond (λ y. record y { outcome = Some (outcome.Ok (pos 0)) }) c
joined_all_same cond (e ∷ es) c = folded_same (join_member cond) (λ d m. joined_same cond m d) (e ∷ es) c

made_condition : (sort : AllOrAny) (members : List EventId) (c : Calendar) → length (make_condition sort members c).events ≡ length c.events + 1
made_condition sort members c =
    let change : EventOf → EventOf = λ x. record x { condition = Some (record { sort = sort; members = members; count = 0; value = [] }) } in
    joined_all_same (next_event c) members (change_event (next_event c) change (make kind.Cond c)) ∙ (change_event-length (next_event c) change (make kind.Cond c) ∙ make-length kind.Cond c)

taken_same : (depth : ℕ) (cond : EventId) (c : Calendar) → length (take_checks_within depth cond c).events ≡ length c.events
taken_same zero cond c = refl
taken_same (suc depth) cond c =
    folded_same (λ d member. take_checks_within depth member (unregister member (is_check_of cond) d)) (λ d member. taken_same depth member (unregister member (is_check_of cond) d)) (members_of c cond) c

built_same : (cond : EventId) (c : Calendar) → length (build cond c).events ≡ length c.events
built_same cond c =
    let d : Calendar = take_checks_within (most_weight + 1) cond c in
    if_cases (λ (n : Calendar). length n.events ≡ length d.events) (is_fail (event_at d cond).outcome) d (fix_value cond d) (λ h. refl) (λ h. length-set d.events cond.0 _)
    ∙ taken_same (most_weight + 1) cond c

-- ---- attempts and tries

-- how many events were made
abbrev made_in : Facilities → ℕ
made_in f = length f.calendar.events

served_same : (w : Waiter) (o : Option Served) (f : Facilities) → made_in (serve_if_any w o f) ≡ made_in f
served_same w None f = refl
served_same w (Some x) f = change_event-length w.event (λ y. record y { outcome = Some (outcome.Ok x.value) }) f.calendar

slot_taken_same : (w : Waiter) (p : ProcId) (key : RequestKey) (f : Facilities) → made_in (take_slot w p key f) ≡ made_in f
slot_taken_same w p key f = change_event-length w.event (λ y. record y { outcome = Some (outcome.Ok (pos 0)) }) f.calendar

-- a preemption makes one event
slot_made : (w : Waiter) (p : ProcId) (key : RequestKey) (grant : Grant) (f : Facilities) → made_in (use_slot w p key grant f) ≤ made_in f + 1
slot_made w p key NoSlot f = omega arith
slot_made w p key FreeSlot f = omega (arith, slot_taken_same w p key f)
slot_made w p key (SlotOf u) f =
    omega (arith, slot_taken_same w p key (preempt w.res u f), length-interrupted u.process (record { kind = preemption; value = u.since }) f.calendar)

attempt_made : (rs : List Resource) (r : Resource) (w : Waiter) (want : Want) (f : Facilities) → made_in (attempt_for rs r w want f) ≤ made_in f + 1
attempt_made rs r w (Slot p key) f = slot_made w p key (grant_of r key (users w.res f.ledger)) f
attempt_made rs r w (Give amount priority) f = omega (arith, served_same w (put_served r w amount priority (level rs w.res f) (items w.res f.ledger)) f)
attempt_made rs r w (Take least greatest) f = omega (arith, served_same w (get_served r w least greatest (level rs w.res f) (items w.res f.ledger)) f)

-- the attempt at a waiter makes no event
abbrev MakesNone : List Resource → Waiter → Type 0
MakesNone rs w = (f : Facilities) → made_in (attempt rs w f) ≡ made_in f

container_slot : (w : Waiter) (p : ProcId) (key : RequestKey) (r : Resource) (us : List User) (f : Facilities) → r.kind ≡ resource.Container →
    made_in (use_slot w p key (grant_of r key us) f) ≡ made_in f
container_slot w p key r us f is =
    let Same : Grant → Type 0 = λ grant. made_in (use_slot w p key grant f) ≡ made_in f in
    if_cases Same (has_free_slot r us) FreeSlot (slot_in_use r.kind key us) (λ h. slot_taken_same w p key f) (λ h. subst (λ k. Same (slot_in_use k key us)) (sym is) refl)

-- at a container nobody is preempted
container_none : (rs : List Resource) (w : Waiter) → (resource_at rs w.res).kind ≡ resource.Container → MakesNone rs w
container_none rs w is f = by_want w.want
  where
    by_want : (want : Want) → made_in (attempt_for rs (resource_at rs w.res) w want f) ≡ made_in f
    by_want (Slot p key) = container_slot w p key (resource_at rs w.res) (users w.res f.ledger) f is
    by_want (Give amount priority) = served_same w (put_served (resource_at rs w.res) w amount priority (level rs w.res f) (items w.res f.ledger)) f
    by_want (Take least greatest) = served_same w (get_served (resource_at rs w.res) w least greatest (level rs w.res f) (items w.res f.ledger)) f

-- and by a get nobody is
get_none : (rs : List Resource) (w : Waiter) → wants_to_put w.want ≡ false → MakesNone rs w
get_none rs w gets f = by_want w.want gets
  where
    by_want : (want : Want) → wants_to_put want ≡ false → made_in (attempt_for rs (resource_at rs w.res) w want f) ≡ made_in f
    by_want (Slot p key) h = absurd (false≢true (sym h))
    by_want (Give amount priority) h = absurd (false≢true (sym h))
    by_want (Take least greatest) h = served_same w (get_served (resource_at rs w.res) w least greatest (level rs w.res f) (items w.res f.ledger)) f

along_same : (rs : List Resource) (reach : Reach) (ws : List Waiter) (f : Facilities) → All (MakesNone rs) ws → made_in (try_along rs reach ws f) ≡ made_in f
along_same rs reach [] f h = refl
along_same rs reach (w ∷ ws) f h =
    let after : Facilities = attempt rs w f in
    if_cases (λ (t : Facilities). made_in t ≡ made_in f) (goes_on reach w after) (try_along rs reach ws after) after
    (λ on. along_same rs reach ws after (All-tail (MakesNone rs) w ws h) ∙ All-head (MakesNone rs) w ws h f) (λ ends. All-head (MakesNone rs) w ws h f)

-- a try that ends at the first waiter makes one event at most
first_made : (rs : List Resource) (ws : List Waiter) (f : Facilities) → made_in (try_along rs First ws f) ≤ made_in f + 1
first_made rs [] f = omega arith
first_made rs (w ∷ ws) f = attempt_made rs (resource_at rs w.res) w w.want f

tried_put : (rs : List Resource) (res : ℕ) (f : Facilities) → made_in (try_put rs res f) ≤ made_in f + 1
tried_put rs res f = by_kind (resource_at rs res).kind refl
  where
    test : Waiter → Bool
    test w = (w.res == res) && wants_to_put w.want

    here : (w : Waiter) → (resource_at rs res).kind ≡ resource.Container → test w ≡ true → MakesNone rs w
    here w is h = container_none rs w (ap (λ (n : ℕ). (resource_at rs n).kind) (eqb-true w.res res (and_parts (w.res == res) (wants_to_put w.want) h).0) ∙ is)

    by_kind : (k : ResourceKind) → (resource_at rs res).kind ≡ k → made_in (try_along rs (put_reach k) (put_queue rs res f.waiters) f) ≤ made_in f + 1
    by_kind resource.Container is =
        omega (arith, along_same rs (put_reach resource.Container) (put_queue rs res f.waiters) f (all_in_order (MakesNone rs) (resource_at rs res).kind (filter test f.waiters) (All-weaker (λ w. test w ≡ true) (MakesNone rs) (λ w h. here w is h) (filter test f.waiters) (filter_passes test f.waiters))))
    by_kind _ is = first_made rs (put_queue rs res f.waiters) f

tried_get : (rs : List Resource) (res : ℕ) (f : Facilities) → made_in (try_get rs res f) ≡ made_in f
tried_get rs res f =
    let test : Waiter → Bool = λ w. (w.res == res) && not (wants_to_put w.want) in
    along_same rs (get_reach (resource_at rs res).kind) (get_queue res f.waiters) f
    (All-weaker (λ w. test w ≡ true) (MakesNone rs) (λ w h. get_none rs w (not-true (wants_to_put w.want) (and_parts (w.res == res) (not (wants_to_put w.want)) h).1)) (get_queue res f.waiters) (filter_passes test f.waiters))

-- no event is lost by an attempt, nor by a try
attempt_keeps : (rs : List Resource) (r : Resource) (w : Waiter) (want : Want) (f : Facilities) → made_in f ≤ made_in (attempt_for rs r w want f)
attempt_keeps rs r w (Slot p key) f = by_grant (grant_of r key (users w.res f.ledger))
  where
    by_grant : (grant : Grant) → made_in f ≤ made_in (use_slot w p key grant f)
    by_grant NoSlot = omega arith
    by_grant FreeSlot = omega (arith, slot_taken_same w p key f)
    by_grant (SlotOf u) =
        omega (arith, slot_taken_same w p key (preempt w.res u f), length-interrupted u.process (record { kind = preemption; value = u.since }) f.calendar)
attempt_keeps rs r w (Give amount priority) f = omega (arith, served_same w (put_served r w amount priority (level rs w.res f) (items w.res f.ledger)) f)
attempt_keeps rs r w (Take least greatest) f = omega (arith, served_same w (get_served r w least greatest (level rs w.res f) (items w.res f.ledger)) f)

along_keeps : (rs : List Resource) (reach : Reach) (ws : List Waiter) (f : Facilities) → made_in f ≤ made_in (try_along rs reach ws f)
along_keeps rs reach [] f = omega arith
along_keeps rs reach (w ∷ ws) f =
    let after : Facilities = attempt rs w f in
    let first : made_in f ≤ made_in after = attempt_keeps rs (resource_at rs w.res) w w.want f in
    if_cases (λ (t : Facilities). made_in f ≤ made_in t) (goes_on reach w after) (try_along rs reach ws after) after
    (λ on. omega (arith, first, along_keeps rs reach ws after)) (λ ends. first)

-- ---- requests, puts and gets, and scopes that are left

released_one : (res : ℕ) (request : EventId) (f : Facilities) → made_in (make_release res request f) ≡ made_in f + 1
released_one res request f =
    let n : EventId = next_event f.calendar in
    let made : Facilities = record f { calendar = register n (callback.TryPut res) (make kind.Release f.calendar) } in
    let ended : Facilities = end_use res request made in
    let same : made_in ended ≡ made_in made = if_cases (λ (t : Facilities). made_in t ≡ made_in made) (is_user res request made) (write_deed (Released res request) made) made (λ uses. refl) (λ no. refl) in
    change_event-length n (λ y. record y { outcome = Some (outcome.Ok (pos 0)) }) ended.calendar ∙ (same ∙ make-length kind.Release f.calendar)

cancelled_same : (e : EventId) (f : Facilities) → made_in (cancel e f) ≡ made_in f
cancelled_same e f =
    if_cases (λ (t : Facilities). made_in t ≡ made_in f) (waits e f) (on_calendar (cancel_event e) (unqueue e f)) f
    (λ there. change_event-length e (λ x. record x { cancelled = true }) f.calendar) (λ no. refl)

left_one : (res : ℕ) (request : EventId) (f : Facilities) → made_in (leave res request f) ≡ made_in f + 1
left_one res request f = released_one res request (cancel request f) ∙ ap (λ (n : ℕ). n + 1) (cancelled_same request f)

-- ---- what is done to states

-- how many events were made
abbrev made_by : {B : Type 0} → State B → ℕ
made_by s = length (calendar s).events

wait_same : {B : Type 0} (e : EventId) (p : ProcId) (s : State B) → made_by (wait e p s) ≡ made_by s
wait_same e p s = grind (arith, length-set {A = EventOf})

timeout_made : {B : Type 0} (delay value : ℤ) (after : EventId → State B → State B) (s : State B) →
    ((e : EventId) (t : State B) → made_by (after e t) ≡ made_by t) → made_by (with_timeout delay value after s) ≤ made_by s + 1
timeout_made {B} delay value after s same =
    let c : Calendar = calendar s in
    timeout_cases (λ t. made_by t ≤ made_by s + 1) delay value after s (omega arith) (omega arith)
    (λ low high. omega (
      arith,
      same (next_event c) (on_events (make_timeout delay value) s),
      make-length kind.Timeout c,
      change_event-length (next_event c) (λ y. record y { outcome = Some (outcome.Ok value) }) (make kind.Timeout c),
    ))

move_made : {B : Type 0} (g : Plan B) (res : ℕ) (amount : ℤ) (made : Facilities → Facilities) (after : EventId → State B → State B) (s : State B) →
    ((e : EventId) (t : State B) → made_by (after e t) ≡ made_by t) → made_in (made s.facilities) ≤ made_by s + 2 →
    made_by (with_move g res amount made after s) ≤ made_by s + 2
move_made {B} g res amount made after s same few =
    if_cases (λ (t : State B). made_by t ≤ made_by s + 2) (is_refused_amount g.setup.resources res amount) (raise amount_not_positive s) _
    (λ refused. omega arith) (λ allowed. omega (arith, few, same (next_event (calendar s)) (on_facilities made s)))

-- the event that is made, and an interruption where its try preempts
put_made : (rs : List Resource) (res : ℕ) (k : EventKind) (want : Want) (call : Callback) (f : Facilities) →
    made_in (try_put rs res (join k res want call f)) ≤ made_in f + 2
put_made rs res k want call f = omega (arith, tried_put rs res (join k res want call f), make-length k f.calendar)

get_made : (rs : List Resource) (res : ℕ) (least greatest : ℤ) (f : Facilities) → made_in (make_get rs res least greatest f) ≤ made_in f + 2
get_made rs res least greatest f = omega (arith, tried_get rs res (join kind.Get res (Take least greatest) (callback.TryPut res) f), make-length kind.Get f.calendar)

-- and so it is one more at least
pub put_made_more : (rs : List Resource) (res : ℕ) (k : EventKind) (want : Want) (call : Callback) (f : Facilities) →
    length f.calendar.events < length (try_put rs res (join k res want call f)).calendar.events
put_made_more rs res k want call f =
    let joined : Facilities = join k res want call f in
    omega (arith, along_keeps rs (put_reach (resource_at rs res).kind) (put_queue rs res joined.waiters) joined, make-length k f.calendar)

pub get_made_more : (rs : List Resource) (res : ℕ) (least greatest : ℤ) (f : Facilities) →
    length f.calendar.events < length (make_get rs res least greatest f).calendar.events
get_made_more rs res least greatest f =
    let joined : Facilities = join kind.Get res (Take least greatest) (callback.TryPut res) f in
    omega (arith, tried_get rs res joined, make-length kind.Get f.calendar)

enter_made : {B : Type 0} (g : Plan B) (p : ProcId) (res : ℕ) (priority : ℤ) (preempts : Bool) (s : State B) →
    made_by (enter g p res priority preempts s) ≤ made_by s + 2
enter_made {B} g p res priority preempts s =
    let rs : List Resource = g.setup.resources in
    let f : Facilities = s.facilities in
    if_cases (λ (t : State B). made_by t ≤ made_by s + 2) (is_own_victim rs res p priority preempts f) (raise process_itself s) _ (λ own. omega arith)
    (λ other. put_made rs res kind.Request (Slot p (request_key (resource_at rs res).kind priority preempts f)) (callback.TryGet res) f)

condition_made : {B : Type 0} (sort : AllOrAny) (members : List EventId) (s : State B) → made_by (with_condition sort members s) ≤ made_by s + 1
condition_made {B} sort members s =
    if_cases (λ (t : State B). made_by t ≤ made_by s + 1) (is_too_wide members (calendar s)) (raise condition_too_wide s) _ (λ wide. omega arith)
    (λ fits. omega (arith, made_condition sort members (calendar s)))

closed_made : {B : Type 0} (x : Option OpenScope) (s : State B) → made_by (close_if_any x s) ≤ made_by s + 1
closed_made None s = omega arith
closed_made (Some x) s = omega (arith, left_one x.res x.request s.facilities)

released_made : {B : Type 0} (x : Option OpenScope) (s : State B) → made_by (release_if_any x s) ≤ made_by s + 1
released_made None s = omega arith
released_made (Some x) s = omega (arith, released_one x.res x.request s.facilities)

all_closed_made : {B : Type 0} (xs : List OpenScope) (s : State B) → made_by (fold close_scope s xs) ≡ made_by s + length xs
all_closed_made [] s = omega arith
all_closed_made (x ∷ xs) s = omega (arith, all_closed_made xs (close_scope s x), left_one x.res x.request s.facilities)

process_made : (c : Calendar) → length (make_events_of_process c).events ≡ length c.events + 2
process_made c =
    let d : Calendar = make kind.Process c in
    omega (arith, change_event-length (next_event d) (λ y. record y { outcome = Some (outcome.Ok (pos 0)) }) (make kind.Init d), make-length kind.Init d, make-length kind.Process c)

chain_same : {B : Type 0} (e y : EventId) (s : State B) → made_by (chain e y s) ≡ made_by s
chain_same e y s = grind (arith, passed_same)

-- ---- operations

-- how many scopes each live process holds open
abbrev pub HasFewScopes : {B : Type 0} → State B → Type 0
HasFewScopes s = (q : ProcId) → is_alive q s ≡ true → length (requests_of q s) ≤ most_scopes

dropped_made : {B : Type 0} (q : ProcId) (value : ℤ) (s : State B) → made_by (drop_process q value s) ≡ made_by s + length (requests_of q s)
dropped_made {B} q value s =
    let test : OpenScope → Bool = λ x. is_process x.process q in
    let t : State B = stop_waiting q s in
    let u : State B = record t { control = strip_resume q t.control } in
    omega (
      arith,
      change_event-length (event_of q) (λ y. record y { outcome = Some (outcome.Ok value) }) (calendar (leave_all q u)),
      all_closed_made (scopes_inwards q u) u,
      length-reverse (filter test s.scopes),
      length-map (filter test s.scopes) (λ (x : OpenScope). x.request),
    )

another_made : {B : Type 0} (p q : ProcId) (does : State B → State B) (s : State B) → (is_alive q s ≡ true → made_by (does s) ≤ made_by s + most_scopes) →
    made_by (to_another p q does s) ≤ made_by s + most_scopes
another_made {B} p q does s few =
    let P : State B → Type 0 = λ t. made_by t ≤ made_by s + most_scopes in
    if_cases P (not (is_alive q s)) (raise ended_process s) _ (λ ended. omega arith)
    (λ lives. if_cases P (is_process q p) (raise process_itself s) _ (λ itself. omega arith) (λ other. few (from_not (is_alive q s) lives)))
  where
    from_not : (b : Bool) → not b ≡ false → b ≡ true
    from_not true h = refl
    from_not false h = absurd (false≢true (sym h))

effect_made : {B : Type 0} (g : Plan B) (p : ProcId) (o : Op) (s : State B) → HasFewScopes s → made_by (effect g p o s) ≤ made_by s + most_scopes
effect_made g p op.Nop s few = omega arith
effect_made g p (op.Timeout delay value) s few = omega (arith, timeout_made delay value tell_made s (λ e t. refl))
effect_made g p (op.Pause delay value) s few = omega (arith, timeout_made delay value (λ e t. wait e p t) s (λ e t. wait_same e p t))
effect_made g p (op.Wait e) s few = omega (arith, wait_same e p s)
effect_made g p op.NewEvent s few = omega (arith, make-length kind.Plain (calendar s))
effect_made g p (op.Succeed e value) s few = omega (arith, triggered_same e (outcome.Ok value) s)
effect_made g p (op.Fail e code) s few = omega (arith, triggered_same e (outcome.Fail (record { kind = failure; value = code })) s)
effect_made g p (op.Spawn k args) s few = omega (arith, process_made (calendar s))
effect_made g p (op.Interrupt q cause) s few =
    let t : Throw = record { kind = interrupt; value = cause } in
    another_made p q (on_events (make_interruption q t)) s (λ lives. omega (arith, length-interrupted q t (calendar s)))
effect_made g p (op.Drop q value) s few = another_made p q (drop_process q value) s (λ lives. omega (arith, dropped_made q value s, few q lives))
effect_made g p (op.AllOf members) s few = omega (arith, condition_made Every members s)
effect_made g p (op.AnyOf members) s few = omega (arith, condition_made Either members s)
effect_made g p (op.Has cond e) s few = omega arith
effect_made g p (op.Enter res priority preempts) s few = omega (arith, enter_made g p res priority preempts s)
effect_made g p op.Leave s few = omega (arith, closed_made (first_of_list (scopes_inwards p s)) s)
effect_made g p (op.Release request) s few = omega (arith, released_made (find (λ x. is_same x.request request) s.scopes) s)
effect_made g p (op.Put res amount priority) s few =
    omega (arith, move_made g res amount (make_put g.setup.resources res amount priority) tell_made s (λ e t. refl) (put_made g.setup.resources res kind.Put (Give amount priority) (callback.TryGet res) s.facilities))
effect_made g p (op.PutWait res amount priority) s few =
    omega (arith, move_made g res amount (make_put g.setup.resources res amount priority) (λ e t. wait e p t) s (λ e t. wait_same e p t) (put_made g.setup.resources res kind.Put (Give amount priority) (callback.TryGet res) s.facilities))
effect_made g p (op.Get res least greatest) s few =
    omega (arith, move_made g res least (make_get g.setup.resources res least greatest) tell_made s (λ e t. refl) (get_made g.setup.resources res least greatest s.facilities))
effect_made g p (op.GetWait res least greatest) s few =
    omega (arith, move_made g res least (make_get g.setup.resources res least greatest) (λ e t. wait e p t) s (λ e t. wait_same e p t) (get_made g.setup.resources res least greatest s.facilities))
effect_made g p (op.Cancel e) s few = omega (arith, cancelled_same e s.facilities)
effect_made g p (op.Count res) s few = omega arith
effect_made g p (op.Draw lo hi) s few = draw_cases (λ t. made_by t ≤ made_by s + most_scopes) g lo hi s (omega arith) (λ h. omega arith)
effect_made g p (op.Log value) s few = omega arith
effect_made g p (op.Finish value) s few = omega (arith, change_event-length (event_of p) (λ y. record y { outcome = Some (outcome.Ok value) }) (calendar s))
effect_made g p (op.Die t) s few = omega (arith, change_event-length (event_of p) (λ y. record y { outcome = Some (outcome.Fail t) }) (calendar s))
effect_made g p (op.Chain e y) s few = omega (arith, chain_same e y s)

-- ---- callbacks

call_made : {B : Type 0} (g : Plan B) (e : EventId) (x : Callback) (left : List Callback) (s : State B) → made_by (call g e x left s) ≤ made_by s + 1
call_made g e (callback.Resume p) left s = omega (arith, defused_same e (calendar s))
call_made g e (callback.Strike p) left s = omega (arith, struck_same e left p s)
call_made g e (callback.Check cond) left s = omega (arith, checked_same cond e (calendar s))
call_made g e (callback.Build cond) left s = omega (arith, built_same cond (calendar s))
call_made g e (callback.TryPut res) left s = tried_put g.setup.resources res s.facilities
call_made g e (callback.TryGet res) left s = omega (arith, tried_get g.setup.resources res s.facilities)
call_made g e callback.Stop left s = omega arith
call_made g e (callback.Trigger y) left s = omega (arith, passed_same (event_at (calendar s) e).outcome y (calendar s))

call_or_settle_made : {B : Type 0} (g : Plan B) (e : EventId) (left : List Callback) (s : State B) → made_by (call_or_settle g e left s) ≤ made_by s + 1
call_or_settle_made g e [] s = omega arith
call_or_settle_made g e (x ∷ left) s = call_made g e x left s

-- ---- steps

-- what a step from s to t makes and processes at most
pub record MakesFew {B : Type 0} (s t : State B) : Type 0 where
  pub events : length (calendar t).events ≤ length (calendar s).events + 40
  pub processed : t.processed ≤ s.processed + 1

few_scopes : {B : Type 0} (g : Plan B) (tell : Telling B) (s : State B) → All (KnowsItsScopes tell s) s.processes → HasFewScopes s
few_scopes g tell s h q lives =
    let found = alive_has s q (KnowsItsScopes tell s) h lives in
    subst (λ (n : ProcId). length (requests_of n s) ≤ most_scopes) found.1 found.2.1

-- the body of a process changes no scope
few_scopes_polled : {B : Type 0} (p : ProcId) (b : B) (s : State B) → HasFewScopes s → HasFewScopes (with_body p b s)
few_scopes_polled p b s few q lives = few q (sym (alive_changed p q (λ n. record n { body = b }) s (λ n. refl)) ∙ lives)

pub step_makes : {B : Type 0} (g : Plan B) (tell : Telling B) (sound : B → Type 0) (turn : Turn B) (s t : State B) → Lawful g tell sound s →
    IsStep g turn s t → MakesFew s t
step_makes {B} g tell sound turn s t lawful step = by_control s.control step
  where
    few : HasFewScopes s
    few = few_scopes g tell s lawful.waiting.bodies

    by_control : (c : Control) → IsStepAt g turn s t c → MakesFew s t
    by_control Idle i =
        subst (MakesFew s) (sym i.then_is) (record {
          events = omega (arith, change_event-length i.entry.event (λ y. record y { processed = true }) (calendar s));
          processed = omega arith;
        })
    by_control (Calling e left) i =
        subst (MakesFew s) (sym i) (record {
          events = omega (arith, call_or_settle_made g e left s);
          processed = omega (arith, call_or_settle_processed g e left s);
        })
    by_control (Active e left p x) i =
        let u : State B = with_body p i.body s in
        subst (MakesFew s) (sym i.then_is) (record {
          events = omega (arith, effect_made g p i.asked u (few_scopes_polled p i.body s few));
          processed = omega (arith, effect_processed g p i.asked u);
        })
    by_control (Over why e left) i = absurd i

-- Only a pop changes the time, and it never falls.
use Rattle.std.proofs.Common.{◌≡◌, ◌≤ℤ◌, ◌+◌, ℕ, zero, suc, ℤ, Bool, not, List, [], ◌∷◌, Option, Some, None, refl, sym, subst, ap, ◌∙◌, arith}
use Rattle.std.specs.Prelude.{fold, find}
use Rattle.std.proofs.lemmas.Int.{ints}
use Rattle.sim_types.specs.Throws.{failure, interrupt, amount_not_positive, condition_too_wide, ended_process, process_itself}
use Rattle.sim_types.specs.declared.event.Entry.{Entry}
use Rattle.sim_types.specs.declared.event.EventId.{EventId}
use Rattle.sim_types.specs.declared.event.ProcId.{ProcId}
use Rattle.sim_types.specs.declared.event.RequestKey.{RequestKey}
use Rattle.sim_types.specs.declared.event.EventKind.TheVariants as kind
use Rattle.sim_types.specs.declared.event.Outcome.{Outcome}
use Rattle.sim_types.specs.declared.event.Outcome.TheVariants as outcome
use Rattle.sim_types.specs.declared.event.Callback.{Callback}
use Rattle.sim_types.specs.declared.event.Callback.TheVariants as callback
use Rattle.sim_types.specs.declared.event.Signal.{Signal}
use Rattle.sim_types.specs.declared.op.Op.{Op}
use Rattle.sim_types.specs.declared.op.Op.TheVariants as op
use Rattle.sim_types.specs.declared.setup.Arrival.{Arrival}
use Rattle.sim_types.specs.declared.setup.Resource.{Resource}
use Rattle.sim_machine.specs.State.{AllOrAny, Every, Either, Calendar, Want, Slot, Give, Take, Waiter, Released, Facilities, OpenScope, ProcessOf, Control, Idle, Calling, Active, Over, State, Plan}
use Rattle.sim_machine.specs.Events.{is_same, is_process, event_at, is_fail, next_event, cancel_event, register, unregister, is_check_of}
use Rattle.sim_machine.specs.Agenda.{due}
use Rattle.sim_machine.specs.Triggering.{make, make_timeout, make_interruption}
use Rattle.sim_machine.specs.Conditions.{is_too_wide, members_of, check, join_member, join_members, make_condition, take_checks_within, fix_value, build, most_weight}
use Rattle.sim_machine.specs.Users.{first_of_list, resource_at, users, items, put_queue, get_queue}
use Rattle.sim_machine.specs.Attempts.{Grant, NoSlot, FreeSlot, SlotOf, Served, grant_of, put_served, get_served}
use Rattle.sim_machine.specs.Trying.{on_calendar, write_deed, level, unqueue, serve_if_any, use_slot, attempt_for, attempt, Reach, goes_on, try_along, put_reach, get_reach, try_put, try_get}
use Rattle.sim_machine.specs.Requests.{request_key, is_own_victim, is_refused_amount, join, make_put, make_get, make_release, is_user, waits, cancel, leave}
use Rattle.sim_machine.specs.Scopes.{on_facilities, on_events, scopes_inwards, close_scope, close_if_any, release_if_any}
use Rattle.sim_machine.specs.Processes.{process_at, is_alive, wait, drop_process, stop_waiting, strip_resume, defuse_failed}
use Rattle.sim_machine.specs.Effect.{calendar, raise, tell_made, with_timeout, trigger_pending, to_another, with_condition, enter, with_move, pass_on, chain, effect}
use Rattle.sim_machine.specs.Steps.{Turn, TurnFunction, IsStepAt, IsStep, strike, call, call_or_settle, pop_if_any, poll_if_any, step_at}
use Rattle.sim_machine.specs.Units.{Course, due_arrival, unit_at, unit_of}
use Rattle.sim_machine.specs.LawfulTimes.{LawfulTimes}
use Rattle.sim_machine_law.proofs.Events.AgendaLaws.{due_among}
use Rattle.sim_machine_law.proofs.Events.PopLaws.{among_has}
use Rattle.sim_machine_law.proofs.KeptParts.KeptTimesCases.{if_cases, timeout_cases, draw_cases}

-- ---- calendars

passed_time : (x : Option Outcome) (y : EventId) (c : Calendar) → (pass_on x y c).time ≡ c.time
passed_time None y c = refl
passed_time (Some x) y c = grind arith

defused_time : (e : EventId) (c : Calendar) → (defuse_failed e c).time ≡ c.time
defused_time e c = grind arith

checked_time : (cond member : EventId) (c : Calendar) → (check cond member c).time ≡ c.time
checked_time cond member c = grind arith

joined_time : (cond member : EventId) (c : Calendar) → (join_member cond c member).time ≡ c.time
joined_time cond member c = grind (arith, checked_time)

folded_time : (change : Calendar → EventId → Calendar) → ((c : Calendar) (e : EventId) → (change c e).time ≡ c.time) → (es : List EventId) (c : Calendar)
    → (fold change c es).time ≡ c.time
folded_time change h [] c = refl
folded_time change h (e ∷ es) c = folded_time change h es (change c e) ∙ h c e

joined_all_time : (cond : EventId) (members : List EventId) (c : Calendar) → (join_members cond members c).time ≡ c.time
joined_all_time cond [] c = refl
joined_all_time cond (e ∷ es) c = folded_time (join_member cond) (λ d m. joined_time cond m d) (e ∷ es) c

condition_time : (sort : AllOrAny) (members : List EventId) (c : Calendar) → (make_condition sort members c).time ≡ c.time
condition_time sort members c = joined_all_time (next_event c) members _

taken_time : (depth : ℕ) (cond : EventId) (c : Calendar) → (take_checks_within depth cond c).time ≡ c.time
taken_time zero cond c = refl
taken_time (suc depth) cond c =
    folded_time (λ d member. take_checks_within depth member (unregister member (is_check_of cond) d)) (λ d member. taken_time depth member (unregister member (is_check_of cond) d)) (members_of c cond) c

built_time : (cond : EventId) (c : Calendar) → (build cond c).time ≡ c.time
built_time cond c =
    let d : Calendar = take_checks_within (most_weight + 1) cond c in
    if_cases (λ (n : Calendar). n.time ≡ d.time) (is_fail (event_at d cond).outcome) d (fix_value cond d) (λ h. refl) (λ h. refl) ∙ taken_time (most_weight + 1) cond c

-- ---- attempts and tries

abbrev time_in : Facilities → ℤ
time_in f = f.calendar.time

served_time : (w : Waiter) (o : Option Served) (f : Facilities) → time_in (serve_if_any w o f) ≡ time_in f
served_time w None f = refl
served_time w (Some x) f = refl

slot_time : (w : Waiter) (p : ProcId) (key : RequestKey) (grant : Grant) (f : Facilities) → time_in (use_slot w p key grant f) ≡ time_in f
slot_time w p key NoSlot f = refl
slot_time w p key FreeSlot f = refl
slot_time w p key (SlotOf u) f = refl

attempt_time : (rs : List Resource) (r : Resource) (w : Waiter) (want : Want) (f : Facilities) → time_in (attempt_for rs r w want f) ≡ time_in f
attempt_time rs r w (Slot p key) f = slot_time w p key (grant_of r key (users w.res f.ledger)) f
attempt_time rs r w (Give amount priority) f = served_time w (put_served r w amount priority (level rs w.res f) (items w.res f.ledger)) f
attempt_time rs r w (Take least greatest) f = served_time w (get_served r w least greatest (level rs w.res f) (items w.res f.ledger)) f

along_time : (rs : List Resource) (reach : Reach) (ws : List Waiter) (f : Facilities) → time_in (try_along rs reach ws f) ≡ time_in f
along_time rs reach [] f = refl
along_time rs reach (w ∷ ws) f =
    let after : Facilities = attempt rs w f in
    let first : time_in after ≡ time_in f = attempt_time rs (resource_at rs w.res) w w.want f in
    if_cases (λ (t : Facilities). time_in t ≡ time_in f) (goes_on reach w after) (try_along rs reach ws after) after (λ on. along_time rs reach ws after ∙ first) (λ ends. first)

put_time : (rs : List Resource) (res : ℕ) (f : Facilities) → time_in (try_put rs res f) ≡ time_in f
put_time rs res f = along_time rs (put_reach (resource_at rs res).kind) (put_queue rs res f.waiters) f

get_time : (rs : List Resource) (res : ℕ) (f : Facilities) → time_in (try_get rs res f) ≡ time_in f
get_time rs res f = along_time rs (get_reach (resource_at rs res).kind) (get_queue res f.waiters) f

-- ---- scopes that are left

released_time : (res : ℕ) (request : EventId) (f : Facilities) → time_in (make_release res request f) ≡ time_in f
released_time res request f =
    let n : EventId = next_event f.calendar in
    let made : Facilities = record f { calendar = register n (callback.TryPut res) (make kind.Release f.calendar) } in
    if_cases (λ (t : Facilities). time_in t ≡ time_in made) (is_user res request made) (write_deed (Released res request) made) made (λ uses. refl) (λ no. refl)

cancelled_time : (e : EventId) (f : Facilities) → time_in (cancel e f) ≡ time_in f
cancelled_time e f = if_cases (λ (t : Facilities). time_in t ≡ time_in f) (waits e f) (on_calendar (cancel_event e) (unqueue e f)) f (λ there. refl) (λ no. refl)

left_time : (res : ℕ) (request : EventId) (f : Facilities) → time_in (leave res request f) ≡ time_in f
left_time res request f = released_time res request (cancel request f) ∙ cancelled_time request f

-- ---- what is done to states

abbrev time_of : {B : Type 0} → State B → ℤ
time_of s = (calendar s).time

wait_time : {B : Type 0} (e : EventId) (p : ProcId) (s : State B) → time_of (wait e p s) ≡ time_of s
wait_time e p s = grind arith

triggered_time : {B : Type 0} (e : EventId) (x : Outcome) (s : State B) → time_of (trigger_pending e x s) ≡ time_of s
triggered_time e x s = grind arith

timeout_time : {B : Type 0} (delay value : ℤ) (after : EventId → State B → State B) (s : State B)
    → ((e : EventId) (t : State B) → time_of (after e t) ≡ time_of t) → time_of (with_timeout delay value after s) ≡ time_of s
timeout_time {B} delay value after s same =
    timeout_cases (λ t. time_of t ≡ time_of s) delay value after s refl refl (λ low high. same (next_event (calendar s)) (on_events (make_timeout delay value) s))

move_time : {B : Type 0} (g : Plan B) (res : ℕ) (amount : ℤ) (made : Facilities → Facilities) (after : EventId → State B → State B) (s : State B)
    → ((e : EventId) (t : State B) → time_of (after e t) ≡ time_of t) → time_in (made s.facilities) ≡ time_of s
    → time_of (with_move g res amount made after s) ≡ time_of s
move_time {B} g res amount made after s same is =
    if_cases (λ (t : State B). time_of t ≡ time_of s) (is_refused_amount g.setup.resources res amount) (raise amount_not_positive s) _ (λ refused. refl)
    (λ allowed. same (next_event (calendar s)) (on_facilities made s) ∙ is)

enter_time : {B : Type 0} (g : Plan B) (p : ProcId) (res : ℕ) (priority : ℤ) (preempts : Bool) (s : State B)
    → time_of (enter g p res priority preempts s) ≡ time_of s
enter_time {B} g p res priority preempts s =
    let rs : List Resource = g.setup.resources in
    let f : Facilities = s.facilities in
    if_cases (λ (t : State B). time_of t ≡ time_of s) (is_own_victim rs res p priority preempts f) (raise process_itself s) _ (λ own. refl)
    (λ other. put_time rs res (join kind.Request res (Slot p (request_key (resource_at rs res).kind priority preempts f)) (callback.TryGet res) f))

made_condition_time : {B : Type 0} (sort : AllOrAny) (members : List EventId) (s : State B) → time_of (with_condition sort members s) ≡ time_of s
made_condition_time {B} sort members s =
    if_cases (λ (t : State B). time_of t ≡ time_of s) (is_too_wide members (calendar s)) (raise condition_too_wide s) _ (λ wide. refl)
    (λ fits. condition_time sort members (calendar s))

closed_time : {B : Type 0} (x : Option OpenScope) (s : State B) → time_of (close_if_any x s) ≡ time_of s
closed_time None s = refl
closed_time (Some x) s = left_time x.res x.request s.facilities

early_time : {B : Type 0} (x : Option OpenScope) (s : State B) → time_of (release_if_any x s) ≡ time_of s
early_time None s = refl
early_time (Some x) s = released_time x.res x.request s.facilities

all_closed_time : {B : Type 0} (xs : List OpenScope) (s : State B) → time_of (fold close_scope s xs) ≡ time_of s
all_closed_time [] s = refl
all_closed_time (x ∷ xs) s = all_closed_time xs (close_scope s x) ∙ left_time x.res x.request s.facilities

chain_time : {B : Type 0} (e y : EventId) (s : State B) → time_of (chain e y s) ≡ time_of s
chain_time e y s = grind (arith, passed_time)

-- ---- operations

dropped_time : {B : Type 0} (q : ProcId) (value : ℤ) (s : State B) → time_of (drop_process q value s) ≡ time_of s
dropped_time {B} q value s =
    let t : State B = stop_waiting q s in
    let u : State B = record t { control = strip_resume q t.control } in
    all_closed_time (scopes_inwards q u) u

another_time : {B : Type 0} (p q : ProcId) (does : State B → State B) (s : State B) → time_of (does s) ≡ time_of s
    → time_of (to_another p q does s) ≡ time_of s
another_time {B} p q does s same =
    let P : State B → Type 0 = λ t. time_of t ≡ time_of s in
    if_cases P (not (is_alive q s)) (raise ended_process s) _ (λ ended. refl)
    (λ lives. if_cases P (is_process q p) (raise process_itself s) _ (λ itself. refl) (λ other. same))

effect_time : {B : Type 0} (g : Plan B) (p : ProcId) (o : Op) (s : State B) → time_of (effect g p o s) ≡ time_of s
effect_time g p op.Nop s = refl
effect_time g p (op.Timeout delay value) s = timeout_time delay value tell_made s (λ e t. refl)
effect_time g p (op.Pause delay value) s = timeout_time delay value (λ e t. wait e p t) s (λ e t. wait_time e p t)
effect_time g p (op.Wait e) s = wait_time e p s
effect_time g p op.NewEvent s = refl
effect_time g p (op.Succeed e value) s = triggered_time e (outcome.Ok value) s
effect_time g p (op.Fail e code) s = triggered_time e (outcome.Fail (record { kind = failure; value = code })) s
effect_time g p (op.Spawn k args) s = refl
effect_time g p (op.Interrupt q cause) s = another_time p q (on_events (make_interruption q (record { kind = interrupt; value = cause }))) s refl
effect_time g p (op.Drop q value) s = another_time p q (drop_process q value) s (dropped_time q value s)
effect_time g p (op.AllOf members) s = made_condition_time Every members s
effect_time g p (op.AnyOf members) s = made_condition_time Either members s
effect_time g p (op.Has cond e) s = refl
effect_time g p (op.Enter res priority preempts) s = enter_time g p res priority preempts s
effect_time g p op.Leave s = closed_time (first_of_list (scopes_inwards p s)) s
effect_time g p (op.Release request) s = early_time (find (λ x. is_same x.request request) s.scopes) s
effect_time g p (op.Put res amount priority) s =
    let rs : List Resource = g.setup.resources in
    move_time g res amount (make_put rs res amount priority) tell_made s (λ e t. refl) (put_time rs res (join kind.Put res (Give amount priority) (callback.TryGet res) s.facilities))
effect_time g p (op.PutWait res amount priority) s =
    let rs : List Resource = g.setup.resources in
    move_time g res amount (make_put rs res amount priority) (λ e t. wait e p t) s (λ e t. wait_time e p t)
    (put_time rs res (join kind.Put res (Give amount priority) (callback.TryGet res) s.facilities))
effect_time g p (op.Get res least greatest) s =
    let rs : List Resource = g.setup.resources in
    move_time g res least (make_get rs res least greatest) tell_made s (λ e t. refl)
    (get_time rs res (join kind.Get res (Take least greatest) (callback.TryPut res) s.facilities))
effect_time g p (op.GetWait res least greatest) s =
    let rs : List Resource = g.setup.resources in
    move_time g res least (make_get rs res least greatest) (λ e t. wait e p t) s (λ e t. wait_time e p t)
    (get_time rs res (join kind.Get res (Take least greatest) (callback.TryPut res) s.facilities))
effect_time g p (op.Cancel e) s = cancelled_time e s.facilities
effect_time g p (op.Count res) s = refl
effect_time g p (op.Draw lo hi) s = draw_cases (λ t. time_of t ≡ time_of s) g lo hi s refl (λ h. refl)
effect_time g p (op.Log value) s = refl
effect_time g p (op.Finish value) s = refl
effect_time g p (op.Die t) s = refl
effect_time g p (op.Chain e y) s = chain_time e y s

-- ---- callbacks

struck_time : {B : Type 0} (e : EventId) (left : List Callback) (p : ProcId) (s : State B) → time_of (strike e left p s) ≡ time_of s
struck_time e left p s = grind arith

call_time : {B : Type 0} (g : Plan B) (e : EventId) (x : Callback) (left : List Callback) (s : State B) → time_of (call g e x left s) ≡ time_of s
call_time g e (callback.Resume p) left s = defused_time e (calendar s)
call_time g e (callback.Strike p) left s = struck_time e left p s
call_time g e (callback.Check cond) left s = checked_time cond e (calendar s)
call_time g e (callback.Build cond) left s = built_time cond (calendar s)
call_time g e (callback.TryPut res) left s = put_time g.setup.resources res s.facilities
call_time g e (callback.TryGet res) left s = get_time g.setup.resources res s.facilities
call_time g e callback.Stop left s = refl
call_time g e (callback.Trigger y) left s = passed_time (event_at (calendar s) e).outcome y (calendar s)

call_or_settle_time : {B : Type 0} (g : Plan B) (e : EventId) (left : List Callback) (s : State B) → time_of (call_or_settle g e left s) ≡ time_of s
call_or_settle_time g e [] s = refl
call_or_settle_time g e (x ∷ left) s = call_time g e x left s

-- ---- units

not_before : (a b : ℤ) → b ≡ a → a ≤ℤ b
not_before a b h = omega (arith, ints, h)

-- what is due is not before now
due_later : (c : Calendar) (x : Entry) → LawfulTimes c → due c.agenda ≡ Some x → c.time ≤ℤ x.key.time
due_later c x lawful is = among_has (λ y. c.time ≤ℤ y.key.time) c.agenda x lawful.later (due_among c.agenda x is)

-- in a step the time never falls
pub time_never_falls : {B : Type 0} (g : Plan B) (turn : Turn B) (s t : State B) → LawfulTimes (calendar s) → IsStep g turn s t
    → (calendar s).time ≤ℤ (calendar t).time
time_never_falls {B} g turn s t lawful step = by_control s.control step
  where
    by_control : (c : Control) → IsStepAt g turn s t c → time_of s ≤ℤ time_of t
    by_control Idle i = subst (λ (u : State B). time_of s ≤ℤ time_of u) (sym i.then_is) (due_later (calendar s) i.entry lawful i.is_due)
    by_control (Calling e left) i = not_before (time_of s) (time_of t) (ap time_of i ∙ call_or_settle_time g e left s)
    by_control (Active e left p x) i = not_before (time_of s) (time_of t) (ap time_of i.then_is ∙ effect_time g p i.asked _)
    by_control (Over why e left) i = absurd i

-- the same of steps by a function, for bodies that leave nothing open
module _ {B : Type 0} (g : Plan B) (does : TurnFunction B) (s : State B) (lawful : LawfulTimes (calendar s)) where
  popped_later : (o : Option Entry) → due (calendar s).agenda ≡ o → time_of s ≤ℤ time_of (pop_if_any o s)
  popped_later None is = not_before (time_of s) (time_of s) refl
  popped_later (Some x) is = due_later (calendar s) x lawful is

  polled_then : (p : ProcId) (x : Signal) (o : Option (ProcessOf B)) → time_of (poll_if_any g does p x o s) ≡ time_of s
  polled_then p x None = refl
  polled_then p x (Some y) = effect_time g p (does y.body (time_of s) x).0 _

  step_later : (c : Control) → time_of s ≤ℤ time_of (step_at g does s c)
  step_later Idle = popped_later (due (calendar s).agenda) refl
  step_later (Calling e left) = not_before (time_of s) (time_of (call_or_settle g e left s)) (call_or_settle_time g e left s)
  step_later (Active e left p x) = not_before (time_of s) (time_of (poll_if_any g does p x (process_at p s) s)) (polled_then p x (process_at p s))
  step_later (Over why e left) = not_before (time_of s) (time_of s) refl

  unit_later : (later : List Arrival) (o : Option Arrival) → time_of s ≤ℤ time_of (unit_at g does (record { state = s; left = later }) o).state
  unit_later later None = step_later s.control
  unit_later later (Some a) = not_before (time_of s) (time_of s) refl

-- nor does it fall in a unit
pub time_never_falls_in_unit : {B : Type 0} (g : Plan B) (does : TurnFunction B) (m : Course B) → LawfulTimes (calendar m.state)
    → (calendar m.state).time ≤ℤ (calendar (unit_of g does m).state).time
time_never_falls_in_unit g does m lawful = unit_later g does m.state lawful m.left (due_arrival m.state m.left)

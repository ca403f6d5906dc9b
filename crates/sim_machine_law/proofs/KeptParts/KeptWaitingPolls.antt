-- What waits stays lawful, whether or not a process was polled.
use Rattle.std.proofs.Common.{◌≡◌, ℕ, ◌≤◌, Bool, true, false, ◌||◌, not, List, [], ◌∷◌, ◌++◌, length, Option, Some, refl, sym, subst, ap, ◌∙◌, if◌then◌else◌, filter, map, All, append-nil}
use Rattle.std.specs.Prelude.{is_none, slice_index_or}
use Rattle.std.specs.List.{list_any}
use Rattle.std.proofs.lemmas.Bool.{false≢true, true≢false, eqb-true, eq-eqb, not-true, not_from_false}
use Rattle.std.proofs.lemmas.List.Elements.{All-weaker, All-map, All-filter, filter_passes, All-nil, All-cons}
use Rattle.std.proofs.lemmas.Map.Views.{any-filter_same}
use Rattle.sim_types.specs.declared.event.EventId.{EventId}
use Rattle.sim_types.specs.declared.event.ProcId.{ProcId}
use Rattle.sim_types.specs.declared.event.Signal.{Signal}
use Rattle.sim_types.specs.declared.event.Callback.{Callback}
use Rattle.sim_types.specs.declared.event.Callback.TheVariants as callback
use Rattle.sim_types.specs.declared.event.Signal.TheVariants as signal
use Rattle.sim_types.specs.declared.line.Line.{Line}
use Rattle.sim_types.specs.declared.op.Op.{Op}
use Rattle.sim_machine.specs.State.{Calendar, Waiter, OpenScope, ProcessOf, Control, Active, State, Plan}
use Rattle.sim_machine.specs.Events.{is_process, event_at, is_pending, is_processed, is_fail, defuse, register}
use Rattle.sim_machine.specs.Scopes.{on_events}
use Rattle.sim_machine.specs.Processes.{process_at, is_alive, with_body, change_process, told_more, not_active, tell as told, rest, signal_of, defuse_failed, wait}
use Rattle.sim_machine.specs.Tellings.{Telling}
use Rattle.sim_machine.specs.MayFollow.{is_enter, is_resumption}
use Rattle.sim_machine.specs.MayAsk.{most_scopes}
use Rattle.sim_machine.specs.BodyLaw.{scopes_told}
use Rattle.sim_machine.specs.LawfulWaiting.{waits_well, entered_by, requests_of, KnowsItsScopes}
use Rattle.sim_machine_law.proofs.Events.EventLaws.{change_event-keeps}
use Rattle.sim_machine_law.proofs.KeptParts.KeptBodies.{find_has, find_passes, of_is_resumption}
use Rattle.sim_machine_law.proofs.KeptParts.KeptBodiesEvents.{Grown, grown_itself, grown_joined, grown_failed_defused}
use Rattle.sim_machine_law.proofs.KeptParts.KeptWaiting.{moved, waiting_moved, waits_pending}
use Rattle.sim_machine_law.proofs.KeptParts.LawfulBasis.{WaitingBasis}
use Rattle.sim_machine_law.proofs.KeptParts.KeptProcessesParts.{is_process-swap}

-- ---- the request that a process is just told of

pub entered_resumed : (e : EventId) (left : List Callback) (p : ProcId) (x : Signal) (q : ProcId) (v : Bool)
    → is_resumption x ≡ true → entered_by (Active e left p x) q v ≡ []
entered_resumed e left p (signal.Made r) q v h = absurd (false≢true h)
entered_resumed e left p _ q v h = refl

made_other : (v : Bool) (r : EventId) → v ≡ false → (if v then r ∷ [] else []) ≡ []
made_other v r h = rw h refl

-- another process is told of none
pub entered_other : (e : EventId) (left : List Callback) (p : ProcId) (x : Signal) (q : ProcId) (v : Bool)
    → is_process p q ≡ false → entered_by (Active e left p x) q v ≡ []
entered_other e left p (signal.Made r) q true h = made_other (is_process p q) r h
entered_other e left p (signal.Made r) q false h = refl
entered_other e left p _ q v h = refl

made_entered : (scopes : List EventId) (e : EventId) (left : List Callback) (p : ProcId) (r : EventId) (q : ProcId)
    (v : Bool) → is_process p q ≡ true
    → scopes ++ entered_by (Active e left p (signal.Made r)) q v ≡ (if v then scopes ++ r ∷ [] else scopes)
made_entered scopes e left p r q true h = ap (λ (b : Bool). scopes ++ (if b then r ∷ [] else [])) h
made_entered scopes e left p r q false h = append-nil scopes

-- the active one is told of the scope that its body then holds open
told_entered : (scopes : List EventId) (last : Option Op) (e : EventId) (left : List Callback) (p : ProcId) (x : Signal)
    (q : ProcId) → is_process p q ≡ true
    → scopes ++ entered_by (Active e left p x) q (is_enter last) ≡ scopes_told scopes last x
told_entered scopes last e left p (signal.Made r) q h = made_entered scopes e left p r q (is_enter last) h
told_entered scopes last e left p _ q h = append-nil scopes

-- ---- nobody was polled

abbrev requests_in : List OpenScope → ProcId → List EventId
requests_in xs p = map (λ x. x.request) (filter (λ x. is_process x.process p) xs)

pub knows_moved : {B : Type 0} (tell : Telling B) (s t : State B) (z : ProcessOf B) → t.scopes ≡ s.scopes
    → ((q : ProcId) (v : Bool) → entered_by t.control q v ≡ entered_by s.control q v) → KnowsItsScopes tell s z
    → KnowsItsScopes tell t z
knows_moved tell s t z scopes entered h =
    let same : requests_of z.id t ≡ requests_of z.id s = ap (λ (xs : List OpenScope). requests_in xs z.id) scopes in
    (same ∙ (h.0 ∙ ap (λ (es : List EventId). tell.scopes z.body ++ es) (sym (entered z.id (is_enter (tell.last z.body))))), subst (λ (es : List EventId). length es ≤ most_scopes) (sym same) h.1)

-- the processes stay, and none is told of a request that was not told of one before
pub waiting_unpolled : {B : Type 0} (g : Plan B) (tell : Telling B) (s : State B) (d : Calendar) (k : Control)
    (processed drawn : ℕ) (lines : List Line) → Grown s.facilities.calendar d
    → ((w : Waiter) → waits_well s.facilities.calendar w ≡ true → is_pending d w.event ≡ true)
    → ((q : ProcId) (v : Bool) → entered_by k q v ≡ entered_by s.control q v) → WaitingBasis g tell s
    → WaitingBasis g tell (moved s d s.processes k processed drawn lines)
waiting_unpolled {B} g tell s d k processed drawn lines grown pending entered h =
    let t : State B = moved s d s.processes k processed drawn lines in
    waiting_moved g tell s d s.processes k processed drawn lines grown pending (λ n x below w. w) (All-weaker (KnowsItsScopes tell s) (KnowsItsScopes tell t) (λ z w. knows_moved tell s t z refl entered w) s.processes h.bodies) h

-- ---- a change of a process that keeps its number leaves it alive

any_changed : {X : Type 0} (test : X → Bool) (f : X → X) (xs : List X) → ((x : X) → test (f x) ≡ test x) → list_any test (map f xs) ≡ list_any test xs
any_changed test f [] h = refl
any_changed test f (x ∷ xs) h = ap (λ (b : Bool). b || list_any test (map f xs)) (h x) ∙ ap (λ (b : Bool). test x || b) (any_changed test f xs h)

if_id : {B : Type 0} (v : Bool) (z w : ProcessOf B) (q : ProcId) → is_process z.id q ≡ is_process w.id q
    → is_process (if v then z else w).id q ≡ is_process w.id q
if_id true z w q h = h
if_id false z w q h = refl

pub alive_changed : {B : Type 0} (p q : ProcId) (change : ProcessOf B → ProcessOf B) (s : State B)
    → ((z : ProcessOf B) → (change z).id ≡ z.id) → is_alive q (change_process p change s) ≡ is_alive q s
alive_changed p q change s keeps =
    any_changed (λ z. is_process z.id q) (λ z. if is_process z.id p then change z else z) s.processes (λ z. if_id (is_process z.id p) (change z) z q (ap (λ (n : ProcId). is_process n q) (keeps z)))

-- what holds of everything holds of all of a list
pub holds_of_all : {X : Type 0} (P : X → Type 0) (xs : List X) → ((x : X) → P x) → All P xs
holds_of_all P xs h = λ k d below. h (slice_index_or xs k d)

if_knows : {B : Type 0} (tell : Telling B) (s : State B) (n : EventId) (z : ProcessOf B) (v : Bool) → KnowsItsScopes tell s z
    → KnowsItsScopes tell s (if v then record z { target = n } else z)
if_knows tell s n z true h = h
if_knows tell s n z false h = h

-- a process may wait for another event
pub waiting_retargeted : {B : Type 0} (g : Plan B) (tell : Telling B) (p : ProcId) (n : EventId) (s : State B)
    → WaitingBasis g tell s → WaitingBasis g tell (change_process p (λ z. record z { target = n }) s)
waiting_retargeted {B} g tell p n s h =
    let c : Calendar = s.facilities.calendar in
    let f : ProcessOf B → ProcessOf B = λ z. if is_process z.id p then record z { target = n } else z in
    let t : State B = change_process p (λ z. record z { target = n }) s in
    waiting_moved g tell s c t.processes s.control s.processed s.drawn s.lines (grown_itself c) (λ w x. waits_pending c w x) (holds_of_all (λ x. is_alive x.process s ≡ true → is_alive x.process t ≡ true) s.scopes (λ x w. alive_changed p x.process (λ z. record z { target = n }) s (λ z. refl) ∙ w))
    (All-map (KnowsItsScopes tell t) f s.processes (All-weaker (KnowsItsScopes tell s) (λ z. KnowsItsScopes tell t (f z)) (λ z w. if_knows tell t n z (is_process z.id p) w) s.processes h.bodies)) h

-- ---- one was polled

-- what a poll of the active process p brings to the waiting: p's body was y's, and is b now
pub record IsWaitingPoll {B : Type 0} (g : Plan B) (tell : Telling B) (s : State B) (e : EventId) (left : List Callback) (p : ProcId) (x : Signal) (y : ProcessOf B) (b : B) : Type 0 where
  pub active : s.control ≡ Active e left p x
  pub found : process_at p s ≡ Some y
  pub scopes : tell.scopes b ≡ scopes_told (tell.scopes y.body) (tell.last y.body) x
  pub lawful : WaitingBasis g tell s

same_process : (p q : ProcId) → is_process q p ≡ true → q ≡ p
same_process p q h =
    let P : ℕ → ProcId = λ n. record { 0 = n } in
    ap P (eqb-true q.0 p.0 h)

-- what is known of the scopes of the active process once it is told
pub own_scopes : {B : Type 0} (g : Plan B) (tell : Telling B) (s : State B) (e : EventId) (left : List Callback) (p : ProcId)
    (x : Signal) (y : ProcessOf B) → s.control ≡ Active e left p x → process_at p s ≡ Some y → WaitingBasis g tell s
    → (q : ProcId) → is_process q p ≡ true
    → (requests_of q s ≡ scopes_told (tell.scopes y.body) (tell.last y.body) x) × (length (requests_of q s) ≤ most_scopes)
own_scopes g tell s e left p x y active found h q is =
    let known : KnowsItsScopes tell s y = find_has (KnowsItsScopes tell s) (λ z. is_process z.id p) s.processes y found h.bodies in
    let at_p : is_process y.id p ≡ true = find_passes (λ z. is_process z.id p) s.processes y found in
    let same : q ≡ y.id = same_process p q is ∙ sym (same_process p y.id at_p) in
    let reqs : requests_of q s ≡ requests_of y.id s = ap (λ (n : ProcId). requests_of n s) same in
    let entered : tell.scopes y.body ++ entered_by s.control y.id (is_enter (tell.last y.body)) ≡ scopes_told (tell.scopes y.body) (tell.last y.body) x =
    ap (λ (k : Control). tell.scopes y.body ++ entered_by k y.id (is_enter (tell.last y.body))) active ∙ told_entered (tell.scopes y.body) (tell.last y.body) e left p x y.id (is_process-swap p y.id ∙ at_p) in
    (reqs ∙ (known.0 ∙ entered), subst (λ (es : List EventId). length es ≤ most_scopes) (sym reqs) known.1)

knows_nothing_new : {B : Type 0} (tell : Telling B) (s t : State B) (z : ProcessOf B) → t.scopes ≡ s.scopes
    → ((q : ProcId) (v : Bool) → entered_by t.control q v ≡ []) → requests_of z.id s ≡ tell.scopes z.body
    → length (requests_of z.id s) ≤ most_scopes → KnowsItsScopes tell t z
knows_nothing_new tell s t z scopes entered own few =
    let same : requests_of z.id t ≡ requests_of z.id s = ap (λ (xs : List OpenScope). requests_in xs z.id) scopes in
    let none : tell.scopes z.body ++ entered_by t.control z.id (is_enter (tell.last z.body)) ≡ tell.scopes z.body = ap (λ (es : List EventId). tell.scopes z.body ++ es) (entered z.id (is_enter (tell.last z.body))) ∙ append-nil (tell.scopes z.body) in
    (same ∙ (own ∙ sym none), subst (λ (es : List EventId). length es ≤ most_scopes) (sym same) few)

-- a process that is not the active one knows its scopes, and is told of none
pub knows_other : {B : Type 0} (tell : Telling B) (s t : State B) (e : EventId) (left : List Callback) (p : ProcId)
    (x : Signal) (z : ProcessOf B) → s.control ≡ Active e left p x → t.scopes ≡ s.scopes
    → ((q : ProcId) (v : Bool) → entered_by t.control q v ≡ []) → is_process z.id p ≡ false → KnowsItsScopes tell s z
    → KnowsItsScopes tell t z
knows_other tell s t e left p x z active scopes entered is h =
    let v : Bool = is_enter (tell.last z.body) in
    let none : entered_by s.control z.id v ≡ [] = ap (λ (k : Control). entered_by k z.id v) active ∙ entered_other e left p x z.id v (is_process-swap p z.id ∙ is) in
    let old : tell.scopes z.body ++ entered_by s.control z.id v ≡ tell.scopes z.body = ap (λ (es : List EventId). tell.scopes z.body ++ es) none ∙ append-nil (tell.scopes z.body) in
    knows_nothing_new tell s t z scopes entered (h.0 ∙ old) h.1

-- once p was polled, and nobody is told of a request, each process knows its scopes, p by its new body
pub knows_polled : {B : Type 0} (g : Plan B) (tell : Telling B) (s t : State B) (e : EventId) (left : List Callback)
    (p : ProcId) (x : Signal) (y : ProcessOf B) (b : B) (z : ProcessOf B) → IsWaitingPoll g tell s e left p x y b
    → t.scopes ≡ s.scopes → ((q : ProcId) (v : Bool) → entered_by t.control q v ≡ []) → KnowsItsScopes tell s z → (v : Bool)
    → is_process z.id p ≡ v → KnowsItsScopes tell t (if v then record z { body = b } else z)
knows_polled g tell s t e left p x y b z h scopes entered w true is =
    let own : (requests_of z.id s ≡ scopes_told (tell.scopes y.body) (tell.last y.body) x) × (length (requests_of z.id s) ≤ most_scopes) = own_scopes g tell s e left p x y h.active h.found h.lawful z.id is in
    knows_nothing_new tell s t (record z { body = b }) scopes entered (own.0 ∙ sym h.scopes) own.1
knows_polled g tell s t e left p x y b z h scopes entered w false is = knows_other tell s t e left p x z h.active scopes entered is w

-- the body of p is replaced, no scope is opened or closed, and p is told of no request
pub waiting_polled : {B : Type 0} (g : Plan B) (tell : Telling B) (s : State B) (e : EventId) (left : List Callback)
    (p : ProcId) (x : Signal) (y : ProcessOf B) (b : B) (d : Calendar) (k : Control) (processed drawn : ℕ)
    (lines : List Line) → IsWaitingPoll g tell s e left p x y b → Grown s.facilities.calendar d
    → ((w : Waiter) → waits_well s.facilities.calendar w ≡ true → is_pending d w.event ≡ true)
    → ((q : ProcId) (v : Bool) → entered_by k q v ≡ [])
    → WaitingBasis g tell (moved s d (with_body p b s).processes k processed drawn lines)
waiting_polled {B} g tell s e left p x y b d k processed drawn lines h grown pending entered =
    let f : ProcessOf B → ProcessOf B = λ z. if is_process z.id p then record z { body = b } else z in
    let t : State B = moved s d (with_body p b s).processes k processed drawn lines in
    waiting_moved g tell s d (with_body p b s).processes k processed drawn lines grown pending (holds_of_all (λ z. is_alive z.process s ≡ true → is_alive z.process t ≡ true) s.scopes (λ z w. alive_changed p z.process (λ n. record n { body = b }) s (λ n. refl) ∙ w))
    (All-map (KnowsItsScopes tell t) f s.processes (All-weaker (KnowsItsScopes tell s) (λ z. KnowsItsScopes tell t (f z)) (λ z w. knows_polled g tell s t e left p x y b z h refl entered w (is_process z.id p) refl) s.processes h.lawful.bodies)) h.lawful

-- ---- it waits, or ends

if_pending : (v : Bool) (c d : Calendar) (f : EventId) → is_pending d f ≡ is_pending c f → is_pending (if v then d else c) f ≡ is_pending c f
if_pending true c d f h = h
if_pending false c d f h = refl

pub pending_failed_defused : (e : EventId) (c : Calendar) (f : EventId) → is_pending (defuse_failed e c) f ≡ is_pending c f
pending_failed_defused e c f = if_pending (is_fail (event_at c e).outcome) c (defuse e c) f (change_event-keeps (λ x. is_none x.outcome) e f (λ x. record x { defused = true }) c (λ x. refl))

pub if_waiting : {B : Type 0} (g : Plan B) (tell : Telling B) (v : Bool) (s t : State B) → WaitingBasis g tell s
    → WaitingBasis g tell t → WaitingBasis g tell (if v then s else t)
if_waiting g tell true s t h w = h
if_waiting g tell false s t h w = w

-- the active process waits for an event, or goes on at once
pub waiting_wait : {B : Type 0} (g : Plan B) (tell : Telling B) (s : State B) (e : EventId) (left : List Callback)
    (p : ProcId) (x : Signal) (y : ProcessOf B) (b : B) (d : Calendar) (processed drawn : ℕ) (lines : List Line)
    (n : EventId) → IsWaitingPoll g tell s e left p x y b → Grown s.facilities.calendar d
    → ((w : Waiter) → waits_well s.facilities.calendar w ≡ true → is_pending d w.event ≡ true)
    → WaitingBasis g tell (wait n p (moved s d (with_body p b s).processes s.control processed drawn lines))
waiting_wait {B} g tell s e left p x y b d processed drawn lines n h grown pending =
    let t : State B = moved s d (with_body p b s).processes s.control processed drawn lines in
    let n_told : Signal = signal_of (event_at d n).outcome in
    let on : State B = told n_told (on_events (defuse_failed n) t) in
    let off : State B = rest (on_events (register n (callback.Resume p)) t) in
    if_waiting g tell (is_processed d n) on (change_process p (λ z. record z { target = n }) off)
    (waiting_polled g tell s e left p x y b (defuse_failed n d) (told_more n_told s.control) processed drawn lines h (grown_joined s.facilities.calendar d (defuse_failed n d) grown (grown_failed_defused n d))
    (λ w waits. pending_failed_defused n d w.event ∙ pending w waits)
    (λ q v. ap (λ (k : Control). entered_by (told_more n_told k) q v) h.active ∙ entered_resumed e left p n_told q v (of_is_resumption (event_at d n).outcome)))
    (waiting_retargeted g tell p n off (waiting_polled g tell s e left p x y b (register n (callback.Resume p) d) (not_active s.control) processed drawn lines h (record { longer = grown.longer; kinds = grown.kinds; cancelled = grown.cancelled }) pending
    (λ q v. ap (λ (k : Control). entered_by (not_active k) q v) h.active)))

none_at : {X Y : Type 0} (test : X → Bool) (h : X → Y) (x : X) (xs : List X) (v : Bool) → test x ≡ v
    → map h (if v then x ∷ filter test xs else filter test xs) ≡ []
    → (map h (filter test xs) ≡ [] → All (λ z. test z ≡ false) xs) → All (λ z. test z ≡ false) (x ∷ xs)
none_at test h x xs true is none later = cc
none_at test h x xs false is none later = All-cons (λ z. test z ≡ false) x xs is (later none)

-- where nothing passes, all fail
pub none_passes : {X Y : Type 0} (test : X → Bool) (h : X → Y) (xs : List X) → map h (filter test xs) ≡ [] → All (λ z. test z ≡ false) xs
none_passes test h [] none = All-nil (λ z. test z ≡ false)
none_passes test h (x ∷ xs) none = none_at test h x xs (test x) refl none (none_passes test h xs)

not_of : {B : Type 0} (p q : ProcId) (z : ProcessOf B) → is_process q p ≡ false → is_process z.id q ≡ true → not (is_process z.id p) ≡ true
not_of p q z h is = not_from_false (is_process z.id p) (ap (λ (n : ProcId). is_process n p) (same_process q z.id is) ∙ h)

-- a process that is not p stays alive when p ends
pub alive_without : {B : Type 0} (p q : ProcId) (s : State B) → is_process q p ≡ false → is_alive q s ≡ true
    → list_any (λ z. is_process z.id q) (filter (λ z. not (is_process z.id p)) s.processes) ≡ true
alive_without p q s h alive = any-filter_same (λ z. is_process z.id q) (λ z. not (is_process z.id p)) true (λ z is. not_of p q z h is) s.processes ∙ alive

alive_ended : {B : Type 0} (p q : ProcId) (b : B) (s : State B) → is_process q p ≡ false → is_alive q s ≡ true
    → list_any (λ z. is_process z.id q) (filter (λ z. not (is_process z.id p)) (with_body p b s).processes) ≡ true
alive_ended p q b s h alive = alive_without p q (with_body p b s) h (alive_changed p q (λ n. record n { body = b }) s (λ n. refl) ∙ alive)

knows_ended : {B : Type 0} (tell : Telling B) (s t : State B) (e : EventId) (left : List Callback) (p : ProcId) (x : Signal)
    (b : B) (z : ProcessOf B) → s.control ≡ Active e left p x → t.scopes ≡ s.scopes
    → ((q : ProcId) (v : Bool) → entered_by t.control q v ≡ []) → KnowsItsScopes tell s z → (v : Bool)
    → is_process z.id p ≡ v → is_process (if v then record z { body = b } else z).id p ≡ false
    → KnowsItsScopes tell t (if v then record z { body = b } else z)
knows_ended tell s t e left p x b z active scopes entered h true is not_p = absurd (true≢false (sym is ∙ not_p))
knows_ended tell s t e left p x b z active scopes entered h false is not_p = knows_other tell s t e left p x z active scopes entered is h

-- the active process ends with no open scope
pub waiting_ended : {B : Type 0} (g : Plan B) (tell : Telling B) (s : State B) (e : EventId) (left : List Callback)
    (p : ProcId) (x : Signal) (y : ProcessOf B) (b : B) (d : Calendar) (processed drawn : ℕ) (lines : List Line)
    → s.control ≡ Active e left p x → process_at p s ≡ Some y → scopes_told (tell.scopes y.body) (tell.last y.body) x ≡ []
    → Grown s.facilities.calendar d
    → ((w : Waiter) → waits_well s.facilities.calendar w ≡ true → is_pending d w.event ≡ true) → WaitingBasis g tell s
    → WaitingBasis g tell (moved s d (filter (λ z. not (is_process z.id p)) (with_body p b s).processes) (not_active s.control) processed drawn lines)
waiting_ended {B} g tell s e left p x y b d processed drawn lines active found none grown pending h =
    let f : ProcessOf B → ProcessOf B = λ z. if is_process z.id p then record z { body = b } else z in
    let test : ProcessOf B → Bool = λ z. not (is_process z.id p) in
    let ps : List (ProcessOf B) = map f s.processes in
    let t : State B = moved s d (filter test ps) (not_active s.control) processed drawn lines in
    let own : (requests_of p s ≡ scopes_told (tell.scopes y.body) (tell.last y.body) x) × (length (requests_of p s) ≤ most_scopes) = own_scopes g tell s e left p x y active found h p (eq-eqb p.0 p.0 refl) in
    let no_scopes : All (λ z. is_process z.process p ≡ false) s.scopes = none_passes (λ z. is_process z.process p) (λ z. z.request) s.scopes (own.0 ∙ none) in
    let entered : (q : ProcId) (v : Bool) → entered_by t.control q v ≡ [] = λ q v. ap (λ (k : Control). entered_by (not_active k) q v) active in
    let R : ProcessOf B → Type 0 = λ z. is_process z.id p ≡ false → KnowsItsScopes tell t z in
    let each : All R ps = All-map R f s.processes (All-weaker (KnowsItsScopes tell s) (λ z. R (f z)) (λ z w. knows_ended tell s t e left p x b z active refl entered w (is_process z.id p) refl) s.processes h.bodies) in
    let kept : All R (filter test ps) = All-filter test R ps each in
    let passed : All (λ z. test z ≡ true) (filter test ps) = filter_passes test ps in
    waiting_moved g tell s d (filter test ps) (not_active s.control) processed drawn lines grown pending
    (All-weaker (λ z. is_process z.process p ≡ false) (λ z. is_alive z.process s ≡ true → is_alive z.process t ≡ true) (λ z w alive. alive_ended p z.process b s w alive) s.scopes no_scopes)
    (λ k z below. kept k z below (not-true _ (passed k z below))) h

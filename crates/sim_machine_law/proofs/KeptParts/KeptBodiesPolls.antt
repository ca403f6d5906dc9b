-- The bodies of all processes once one of them was polled.
use Rattle.std.proofs.Common.{◌≡◌, Bool, true, false, not, List, Some, refl, sym, subst, ap, ◌∙◌, if◌then◌else◌, arith, filter, map, All}
use Rattle.std.specs.List.{list_all}
use Rattle.std.proofs.lemmas.Bool.{true≢false, not-true}
use Rattle.std.proofs.lemmas.List.Elements.{All-weaker, All-map, All-filter, filter_passes, All-same}
use Rattle.sim_types.specs.declared.event.EventId.{EventId}
use Rattle.sim_types.specs.declared.event.ProcId.{ProcId}
use Rattle.sim_types.specs.declared.event.Signal.{Signal}
use Rattle.sim_types.specs.declared.event.Callback.{Callback}
use Rattle.sim_types.specs.declared.event.Callback.TheVariants as callback
use Rattle.sim_machine.specs.State.{Calendar, ProcessOf, Control, Calling, Active, State}
use Rattle.sim_machine.specs.Events.{is_process, event_at, is_processed, register}
use Rattle.sim_machine.specs.Scopes.{on_events}
use Rattle.sim_machine.specs.Processes.{process_at, with_body, change_process, told_more, not_active, tell as told, rest, signal_of, defuse_failed, wait}
use Rattle.sim_machine.specs.Tellings.{Telling}
use Rattle.sim_machine.specs.BodyLaw.{places_kept}
use Rattle.sim_machine.specs.LawfulBodies.{LawfulBodies, place_fits, waits_or_new, told_fits, is_told_well}
use Rattle.sim_machine_law.proofs.KeptParts.KeptBodies.{IsBodyWell, bodies_well, bodies_lawful, find_has, find_passes, places_grown, places_polled, fits_resumed, of_is_resumption}
use Rattle.sim_machine_law.proofs.KeptParts.KeptBodiesEvents.{Grown, grown_joined, grown_failed_defused}
use Rattle.sim_machine_law.proofs.KeptParts.KeptProcessesParts.{is_process-swap, is_process-yes}

then_first : (b p q : Bool) → b ≡ true → (if b then p else q) ≡ p
then_first b p q h = rw h refl

pub then_second : (b p q : Bool) → b ≡ false → (if b then p else q) ≡ q
then_second b p q h = rw h refl

-- a process other than the active one waits
pub waits_other : {B : Type 0} (tell : Telling B) (c : Calendar) (q : ProcId) (b : B) (e : EventId) (left : List Callback)
    (p : ProcId) (x : Signal) → is_process q p ≡ false → is_told_well tell c q b (Active e left p x) ≡ waits_or_new tell b
waits_other tell c q b e left p x h = then_second (is_process p q) (told_fits tell c b x) (waits_or_new tell b) (is_process-swap p q ∙ h)

-- and the active one is told
pub told_active : {B : Type 0} (tell : Telling B) (c : Calendar) (q : ProcId) (b : B) (e : EventId) (left : List Callback)
    (p : ProcId) (x : Signal) → is_process q p ≡ true → is_told_well tell c q b (Active e left p x) ≡ told_fits tell c b x
told_active tell c q b e left p x h = then_first (is_process p q) (told_fits tell c b x) (waits_or_new tell b) (is_process-swap p q ∙ h)

-- ---- nobody was polled

well_moved : {B : Type 0} (tell : Telling B) (sound : B → Type 0) (c d : Calendar) (k l : Control) (z : ProcessOf B)
    → Grown c d → (is_told_well tell c z.id z.body k ≡ true → is_told_well tell d z.id z.body l ≡ true)
    → IsBodyWell tell sound c k z → IsBodyWell tell sound d l z
well_moved tell sound c d k l z g keeps h = record { body = h.body; own = h.own; places = places_grown c d g (tell.places z.body) h.places; told = keeps h.told }

-- the processes stay, and what they are told still fits
pub bodies_moved : {B : Type 0} (tell : Telling B) (sound : B → Type 0) (s t : State B) → t.processes ≡ s.processes
    → Grown s.facilities.calendar t.facilities.calendar
    → ((q : ProcId) (b : B) → is_told_well tell s.facilities.calendar q b s.control ≡ true → is_told_well tell t.facilities.calendar q b t.control ≡ true)
    → LawfulBodies tell sound s → LawfulBodies tell sound t
bodies_moved tell sound s t same g keeps h =
    let c : Calendar = s.facilities.calendar in
    let d : Calendar = t.facilities.calendar in
    bodies_lawful tell sound t (All-same (IsBodyWell tell sound d t.control) t.processes s.processes same
    (All-weaker (IsBodyWell tell sound c s.control) (IsBodyWell tell sound d t.control) (λ z w. well_moved tell sound c d s.control t.control z g (keeps z.id z.body) w) s.processes (bodies_well tell sound s h)))

if_well : {B : Type 0} (tell : Telling B) (sound : B → Type 0) (c : Calendar) (k : Control) (n : EventId) (z : ProcessOf B)
    (v : Bool) → IsBodyWell tell sound c k z → IsBodyWell tell sound c k (if v then record z { target = n } else z)
if_well tell sound c k n z true h = record { body = h.body; own = h.own; places = h.places; told = h.told }
if_well tell sound c k n z false h = h

-- a process may wait for another event
pub bodies_retargeted : {B : Type 0} (tell : Telling B) (sound : B → Type 0) (p : ProcId) (n : EventId) (s : State B)
    → LawfulBodies tell sound s → LawfulBodies tell sound (change_process p (λ z. record z { target = n }) s)
bodies_retargeted {B} tell sound p n s h =
    let P : ProcessOf B → Type 0 = IsBodyWell tell sound s.facilities.calendar s.control in
    let f : ProcessOf B → ProcessOf B = λ z. if is_process z.id p then record z { target = n } else z in
    bodies_lawful tell sound (change_process p (λ z. record z { target = n }) s) (All-map P f s.processes
    (All-weaker P (λ z. P (f z)) (λ z w. if_well tell sound s.facilities.calendar s.control n z (is_process z.id p) w) s.processes (bodies_well tell sound s h)))

-- ---- one was polled

-- the body of a process that is found knows its number
pub own_number : {B : Type 0} (tell : Telling B) (sound : B → Type 0) (s : State B) (p : ProcId) (y : ProcessOf B)
    → LawfulBodies tell sound s → process_at p s ≡ Some y → tell.own y.body ≡ p
own_number tell sound s p y h found =
    find_has (λ z. tell.own z.body ≡ z.id) (λ z. is_process z.id p) s.processes y found h.own ∙ is_process-yes y.id p (find_passes (λ z. is_process z.id p) s.processes y found)

-- what a poll of the active process p brings to the bodies: p's was y, and is b now
pub record IsBodyPoll {B : Type 0} (tell : Telling B) (sound : B → Type 0) (s : State B) (e : EventId) (left : List Callback) (p : ProcId) (x : Signal) (y : ProcessOf B) (b : B) : Type 0 where
  pub active : s.control ≡ Active e left p x
  pub found : process_at p s ≡ Some y
  pub is_sound : sound b
  pub own : tell.own b ≡ tell.own y.body
  pub places : places_kept (tell.last y.body) x (tell.places y.body) (tell.places b) ≡ true
  pub lawful : LawfulBodies tell sound s

-- the bodies under the control that is known
pub all_active : {B : Type 0} (tell : Telling B) (sound : B → Type 0) (s : State B) (k : Control) → s.control ≡ k
    → LawfulBodies tell sound s → All (IsBodyWell tell sound s.facilities.calendar k) s.processes
all_active {B} tell sound s k is h =
    let P : Control → Type 0 = λ j. All (IsBodyWell tell sound s.facilities.calendar j) s.processes in
    subst P is (bodies_well tell sound s h)

-- the body that was polled knows the number of its process
pub own_now : {B : Type 0} (tell : Telling B) (sound : B → Type 0) (s : State B) (e : EventId) (left : List Callback)
    (p : ProcId) (x : Signal) (y : ProcessOf B) (b : B) → IsBodyPoll tell sound s e left p x y b → tell.own b ≡ p
own_now tell sound s e left p x y b h = h.own ∙ own_number tell sound s p y h.lawful h.found

-- its places fit
pub places_now : {B : Type 0} (tell : Telling B) (sound : B → Type 0) (s : State B) (e : EventId) (left : List Callback)
    (p : ProcId) (x : Signal) (y : ProcessOf B) (b : B) → IsBodyPoll tell sound s e left p x y b
    → list_all (place_fits s.facilities.calendar) (tell.places b) ≡ true
places_now tell sound s e left p x y b h =
    let c : Calendar = s.facilities.calendar in
    let own : IsBodyWell tell sound c (Active e left p x) y = find_has (IsBodyWell tell sound c (Active e left p x)) (λ z. is_process z.id p) s.processes y h.found (all_active tell sound s (Active e left p x) h.active h.lawful) in
    let told : told_fits tell c y.body x ≡ true = sym (told_active tell c y.id y.body e left p x (find_passes (λ z. is_process z.id p) s.processes y h.found)) ∙ own.told in
    places_polled tell c y.body x (tell.places y.body) (tell.places b) told own.places h.places

well_polled : {B : Type 0} (tell : Telling B) (sound : B → Type 0) (c d : Calendar) (e : EventId) (left : List Callback)
    (p : ProcId) (x : Signal) (b : B) (l : Control) (z : ProcessOf B) → Grown c d → sound b → tell.own b ≡ p
    → list_all (place_fits d) (tell.places b) ≡ true
    → ((q : ProcId) → is_process q p ≡ true → is_told_well tell d q b l ≡ true)
    → ((q : ProcId) (v : B) → is_process q p ≡ false → waits_or_new tell v ≡ true → is_told_well tell d q v l ≡ true)
    → IsBodyWell tell sound c (Active e left p x) z → (v : Bool) → is_process z.id p ≡ v
    → IsBodyWell tell sound d l (if v then record z { body = b } else z)
well_polled tell sound c d e left p x b l z g sb numbered places own others h true is = record { body = sb; own = numbered ∙ sym (is_process-yes z.id p is); places = places; told = own z.id is }
well_polled tell sound c d e left p x b l z g sb numbered places own others h false is =
    let waits : waits_or_new tell z.body ≡ true = sym (waits_other tell c z.id z.body e left p x is) ∙ h.told in
    record { body = h.body; own = h.own; places = places_grown c d g (tell.places z.body) h.places; told = others z.id z.body is waits }

-- the body of p is replaced, and the control says what fits
pub bodies_polled : {B : Type 0} (tell : Telling B) (sound : B → Type 0) (s t : State B) (e : EventId) (left : List Callback)
    (p : ProcId) (x : Signal) (y : ProcessOf B) (b : B) → IsBodyPoll tell sound s e left p x y b
    → t.processes ≡ (with_body p b s).processes → Grown s.facilities.calendar t.facilities.calendar
    → ((q : ProcId) → is_process q p ≡ true → is_told_well tell t.facilities.calendar q b t.control ≡ true)
    → ((q : ProcId) (v : B) → is_process q p ≡ false → waits_or_new tell v ≡ true → is_told_well tell t.facilities.calendar q v t.control ≡ true)
    → LawfulBodies tell sound t
bodies_polled {B} tell sound s t e left p x y b h same g own others =
    let c : Calendar = s.facilities.calendar in
    let d : Calendar = t.facilities.calendar in
    let P : ProcessOf B → Type 0 = IsBodyWell tell sound c (Active e left p x) in
    let Q : ProcessOf B → Type 0 = IsBodyWell tell sound d t.control in
    let f : ProcessOf B → ProcessOf B = λ z. if is_process z.id p then record z { body = b } else z in
    let places : list_all (place_fits d) (tell.places b) ≡ true = places_grown c d g (tell.places b) (places_now tell sound s e left p x y b h) in
    bodies_lawful tell sound t (All-same Q t.processes (map f s.processes) same (All-map Q f s.processes
    (All-weaker P (λ z. Q (f z)) (λ z w. well_polled tell sound c d e left p x b t.control z g h.is_sound (own_now tell sound s e left p x y b h) places own others w (is_process z.id p) refl) s.processes (all_active tell sound s (Active e left p x) h.active h.lawful))))

-- the active process goes on, and is told what fits
pub bodies_going_on : {B : Type 0} (tell : Telling B) (sound : B → Type 0) (s t : State B) (e : EventId)
    (left : List Callback) (p : ProcId) (x : Signal) (y : ProcessOf B) (b : B) (n : Signal)
    → IsBodyPoll tell sound s e left p x y b → t.processes ≡ (with_body p b s).processes
    → Grown s.facilities.calendar t.facilities.calendar → t.control ≡ told_more n s.control
    → told_fits tell t.facilities.calendar b n ≡ true → LawfulBodies tell sound t
bodies_going_on tell sound s t e left p x y b n h same g control fits =
    let d : Calendar = t.facilities.calendar in
    let on : t.control ≡ Active e left p n = control ∙ ap (told_more n) h.active in
    bodies_polled tell sound s t e left p x y b h same g
    (λ q is. ap (is_told_well tell d q b) on ∙ (told_active tell d q b e left p n is ∙ fits))
    (λ q v is waits. ap (is_told_well tell d q v) on ∙ (waits_other tell d q v e left p n is ∙ waits))

-- the active process rests, and its body waits
pub bodies_resting : {B : Type 0} (tell : Telling B) (sound : B → Type 0) (s t : State B) (e : EventId)
    (left : List Callback) (p : ProcId) (x : Signal) (y : ProcessOf B) (b : B) → IsBodyPoll tell sound s e left p x y b
    → t.processes ≡ (with_body p b s).processes → Grown s.facilities.calendar t.facilities.calendar
    → t.control ≡ not_active s.control → waits_or_new tell b ≡ true → LawfulBodies tell sound t
bodies_resting tell sound s t e left p x y b h same g control fits =
    let d : Calendar = t.facilities.calendar in
    let off : t.control ≡ Calling e left = control ∙ ap not_active h.active in
    bodies_polled tell sound s t e left p x y b h same g (λ q is. ap (is_told_well tell d q b) off ∙ fits) (λ q v is waits. ap (is_told_well tell d q v) off ∙ waits)

pub if_bodies : {B : Type 0} (tell : Telling B) (sound : B → Type 0) (v : Bool) (s t : State B) → LawfulBodies tell sound s
    → LawfulBodies tell sound t → LawfulBodies tell sound (if v then s else t)
if_bodies tell sound true s t h w = h
if_bodies tell sound false s t h w = w

-- the active process waits for an event, or goes on at once
pub bodies_wait : {B : Type 0} (tell : Telling B) (sound : B → Type 0) (s t : State B) (e : EventId) (left : List Callback)
    (p : ProcId) (x : Signal) (y : ProcessOf B) (b : B) (n : EventId) → IsBodyPoll tell sound s e left p x y b
    → t.processes ≡ (with_body p b s).processes → Grown s.facilities.calendar t.facilities.calendar → t.control ≡ s.control
    → waits_or_new tell b ≡ true → LawfulBodies tell sound (wait n p t)
bodies_wait {B} tell sound s t e left p x y b n h same g control waits =
    let c : Calendar = t.facilities.calendar in
    let n_told : Signal = signal_of (event_at c n).outcome in
    let on : State B = told n_told (on_events (defuse_failed n) t) in
    let off : State B = rest (on_events (register n (callback.Resume p)) t) in
    if_bodies tell sound (is_processed c n) on (change_process p (λ z. record z { target = n }) off)
    (bodies_going_on tell sound s on e left p x y b n_told h same (grown_joined s.facilities.calendar c (defuse_failed n c) g (grown_failed_defused n c)) (ap (told_more n_told) control) (fits_resumed tell (defuse_failed n c) b n_told waits (of_is_resumption (event_at c n).outcome)))
    (bodies_retargeted tell sound p n off (bodies_resting tell sound s off e left p x y b h same (grown_joined s.facilities.calendar c (register n (callback.Resume p) c) g (record { longer = omega arith; kinds = λ f made. refl; cancelled = λ f. refl })) (ap not_active control) waits))

well_ended : {B : Type 0} (tell : Telling B) (sound : B → Type 0) (c d : Calendar) (e : EventId) (left : List Callback)
    (p : ProcId) (x : Signal) (b : B) (z : ProcessOf B) → Grown c d → IsBodyWell tell sound c (Active e left p x) z
    → (v : Bool) → is_process z.id p ≡ v → is_process (if v then record z { body = b } else z).id p ≡ false
    → IsBodyWell tell sound d (Calling e left) (if v then record z { body = b } else z)
well_ended tell sound c d e left p x b z g h true is not_p = absurd (true≢false (sym is ∙ not_p))
well_ended tell sound c d e left p x b z g h false is not_p =
    record { body = h.body; own = h.own; places = places_grown c d g (tell.places z.body) h.places; told = sym (waits_other tell c z.id z.body e left p x is) ∙ h.told }

-- the active process ends
pub bodies_ended : {B : Type 0} (tell : Telling B) (sound : B → Type 0) (s t : State B) (e : EventId) (left : List Callback)
    (p : ProcId) (x : Signal) (b : B) → s.control ≡ Active e left p x
    → t.processes ≡ filter (λ z. not (is_process z.id p)) (with_body p b s).processes
    → Grown s.facilities.calendar t.facilities.calendar → t.control ≡ not_active s.control → LawfulBodies tell sound s
    → LawfulBodies tell sound t
bodies_ended {B} tell sound s t e left p x b active same g control h =
    let c : Calendar = s.facilities.calendar in
    let d : Calendar = t.facilities.calendar in
    let P : ProcessOf B → Type 0 = IsBodyWell tell sound c (Active e left p x) in
    let Q : ProcessOf B → Type 0 = IsBodyWell tell sound d (Calling e left) in
    let R : ProcessOf B → Type 0 = λ z. is_process z.id p ≡ false → Q z in
    let f : ProcessOf B → ProcessOf B = λ z. if is_process z.id p then record z { body = b } else z in
    let test : ProcessOf B → Bool = λ z. not (is_process z.id p) in
    let ps : List (ProcessOf B) = map f s.processes in
    let off : t.control ≡ Calling e left = control ∙ ap not_active active in
    let each : All R ps = All-map R f s.processes (All-weaker P (λ z. R (f z)) (λ z w. well_ended tell sound c d e left p x b z g w (is_process z.id p) refl) s.processes (all_active tell sound s (Active e left p x) active h)) in
    let kept : All R (filter test ps) = All-filter test R ps each in
    let passed : All (λ z. test z ≡ true) (filter test ps) = filter_passes test ps in
    let others : All Q (filter test ps) = λ k z below. kept k z below (not-true _ (passed k z below)) in
    let S : Control → Type 0 = λ k. All (IsBodyWell tell sound d k) t.processes in
    bodies_lawful tell sound t (subst S (sym off) (All-same Q t.processes (filter test ps) same others))

-- What a process does to another one, and how interruptions come, as the machine has it.
use Rattle.std.proofs.Common.{◌≡◌, ◌+◌, ℕ, arith, Bool, true, false, List, [], ◌∷◌, refl, sym, ap, subst, ◌∙◌, Option, Some, None, cond}
use Rattle.std.specs.Prelude.{find, is_some, ◌||◌}
use Rattle.std.specs.Option.{option_map}
use Rattle.std.specs.List.{list_any}
use Rattle.sim_types.specs.Throws.{ended_process, process_itself}
use Rattle.sim_types.specs.declared.event.EventId.{EventId}
use Rattle.sim_types.specs.declared.event.ProcId.{ProcId}
use Rattle.sim_types.specs.declared.event.Throw.{Throw}
use Rattle.sim_types.specs.declared.event.Callback.{Callback}
use Rattle.sim_types.specs.declared.event.Callback.TheVariants as callback
use Rattle.sim_types.specs.declared.event.Signal.{Signal}
use Rattle.sim_types.specs.declared.event.Signal.TheVariants as signal
use Rattle.sim_machine.specs.State.{EventOf, Control, Idle, Calling, Active, Over, State, Plan}
use Rattle.sim_machine.specs.Events.{is_process, event_at, unregister, is_resume_of}
use Rattle.sim_machine.specs.Triggering.{make_interruption}
use Rattle.sim_machine.specs.Scopes.{on_events}
use Rattle.sim_machine.specs.Processes.{process_at, is_alive, told_more, tell, signal_of, target_of, stop_waiting}
use Rattle.sim_machine.specs.Effect.{calendar, to_another}
use Rattle.sim_machine.specs.Standing.{left_of}
use Rattle.sim_machine.specs.Steps.{control_to}
use Rattle.sim_procs.specs.RecordOf.{RecordOf, record_of}
use Rattle.sim_happen_model.specs.TableOf.{IsKept, kept_at}
use Rattle.sim_happen_model.specs.HappenOf.{HappenOf, unheld_event}
use Rattle.sim_happen_model.specs.Shows.{Turns, Follows}
use Rattle.sim_happen_law.proofs.Changes.Following.{read_is}
use Rattle.sim_steps_model.specs.declared.mode.Mode.{Mode}
use Rattle.sim_steps_model.specs.declared.mode.Mode.TheVariants as mode
use Rattle.sim_steps_model.specs.PartsOf.{PartsOf, control_of, IsCalling, with_happen}
use Rattle.sim_steps_model.specs.StandsFor.{process_of}
use Rattle.sim_steps_model.specs.Becoming.{Stands, Becomes, BecomesWith}
use Rattle.sim_steps_model.specs.Calling.{called}
use Rattle.sim_happen_model.specs.HolderChanges.{StatesTrade}
use Rattle.sim_accounts.proofs.CalendarChanges.{plainly_interruption, plainly_unregistered}
use Rattle.sim_accounts.proofs.StateChanges.{processed_trade}
use Rattle.sim_steps_law.proofs.Kernels.Becoming.{becomes_then, becomes_as, becomes_none, becomes_within, becomes_followed, becomes_made, becomes_told, owing_controlled}
use Rattle.sim_steps_law.proofs.Callbacks.Calls.{calling_now}
use Rattle.sim_steps_law.proofs.Kernels.Running.{process_found}
use Rattle.sim_machine.specs.Bodies.{BodyOf}

-- ---- whether a process is alive

any_is : {X : Type 0} (test : X → Bool) (xs : List X) → list_any test xs ≡ is_some (find test xs)
any_is test [] = refl
any_is {X} test (x ∷ xs) = at (test x) (any_is test xs)
  where
    at : (b : Bool) → list_any test xs ≡ is_some (find test xs) → (b || list_any test xs) ≡ is_some (cond b (Some x) (find test xs))
    at true h = refl
    at false h = h

pub some_mapped_is : {X Y : Type 0} (f : X → Y) (o : Option X) → is_some (option_map f o) ≡ is_some o
some_mapped_is f None = refl
some_mapped_is f (Some x) = refl

-- who has a record is alive
pub alive_is : {B Code : Type 0} (a : PartsOf B Code) (p : ProcId) (s : State B) → Stands a s → is_alive p s ≡ is_some (record_of p a.live)
alive_is a p s h =
    any_is (λ x. is_process x.id p) s.processes
    ∙ (ap is_some (process_found a s p h.distinct h.stands) ∙ some_mapped_is process_of (record_of p a.live))

-- ---- to do something to another process

-- one that has ended
pub another_ended : {B Code : Type 0} {body : BodyOf B Code} (p q : ProcId) (does : State B → State B) (a n : PartsOf B Code) →
    is_some (record_of q a.live) ≡ false →
    n ≡ record a { control = told_more (signal.Raised ended_process) a.control } → Becomes body (to_another p q does) a n
another_ended {B} {Code} {body} p q does a n ended is =
    subst (Becomes body (to_another p q does) a) (sym is)
    (becomes_as (tell (signal.Raised ended_process)) (to_another p q does) a _
    (λ s h. rw (alive_is a q s h, ended) refl) (becomes_told (signal.Raised ended_process) a))

-- the process itself
pub another_itself : {B Code : Type 0} {body : BodyOf B Code} (p q : ProcId) (does : State B → State B) (a n : PartsOf B Code) →
    is_some (record_of q a.live) ≡ true →
    is_process q p ≡ true → n ≡ record a { control = told_more (signal.Raised process_itself) a.control } → Becomes body (to_another p q does) a n
another_itself {B} {Code} {body} p q does a n lives itself is =
    subst (Becomes body (to_another p q does) a) (sym is)
    (becomes_as (tell (signal.Raised process_itself)) (to_another p q does) a _
    (λ s h. rw (alive_is a q s h, lives, itself) refl) (becomes_told (signal.Raised process_itself) a))

-- one that is alive
pub another_does : {B Code : Type 0} {body : BodyOf B Code} {more : ℕ} (p q : ProcId) (does : State B → State B) (a m n : PartsOf B Code) →
    is_some (record_of q a.live) ≡ true →
    is_process q p ≡ false → BecomesWith body more does a m → n ≡ record m { control = told_more signal.Done m.control } →
    BecomesWith body more (to_another p q does) a n
another_does {B} {Code} {body} {more} p q does a m n lives other done is =
    let goes_on : BecomesWith body (more + 0) (λ s. tell signal.Done (does s)) a (record m { control = told_more signal.Done m.control }) =
    becomes_then does (tell signal.Done) a m _ done (becomes_told signal.Done m) in
    subst (BecomesWith body more (to_another p q does) a) (sym is)
    (becomes_as (λ s. tell signal.Done (does s)) (to_another p q does) a _ (λ s h. rw (alive_is a q s h, lives, other) refl)
    (becomes_within (more + 0) more (λ s. tell signal.Done (does s)) a _ (omega arith) goes_on))

-- it is interrupted
pub interrupted_becomes : {B Code : Type 0} {body : BodyOf B Code} (p q : ProcId) (t : Throw) (a n : PartsOf B Code) (x : HappenOf) →
    is_some (record_of q a.live) ≡ true →
    is_process q p ≡ false → Turns (make_interruption q t) unheld_event a.shared.happen x →
    n ≡ record (with_happen x a) { control = told_more signal.Done a.control } → Becomes body (to_another p q (on_events (make_interruption q t))) a n
interrupted_becomes p q t a n x lives other made is =
    another_does p q (on_events (make_interruption q t)) a (with_happen x a) n lives other
    (becomes_made (make_interruption q t) a x (plainly_interruption q t) made) is

-- ---- an interruption comes

-- what a process waits for, as its record tells it
pub target_is : {B Code : Type 0} (a : PartsOf B Code) (p : ProcId) (r : RecordOf B) (s : State B) → record_of p a.live ≡ Some r → Stands a s →
    target_of p (process_at p s) ≡ r.target
target_is a p r s found h = ap (target_of p) (process_found a s p h.distinct h.stands) ∙ ap (λ o. target_of p (option_map process_of o)) found

-- the callbacks that are left while an event's are called
pub left_calling : (m : Mode) (left : List Callback) (event : EventId) → IsCalling event (control_of m left) → left_of (control_of m left) ≡ left
left_calling mode.Idle left event h = absurd h
left_calling (mode.Calling e) left event h = refl
left_calling (mode.Active e p x) left event h = absurd h
left_calling (mode.Over why e) left event h = absurd h

-- to a process that is alive: it waits no longer, and is thrown the interruption
pub struck_becomes : {B Code : Type 0} {body : BodyOf B Code} (g : Plan B) (a n : PartsOf B Code)
    (x : HappenOf) (event : EventId) (p : ProcId) (r : RecordOf B) (told : Signal) →
    IsCalling event a.control → IsKept a.shared.happen.events event → record_of p a.live ≡ Some r →
    Follows (unregister r.target (is_resume_of p)) a.shared.happen x →
    told ≡ signal_of (kept_at a.shared.happen.events event).event.outcome → left_of a.control ≡ x.left →
    n ≡ record (with_happen x a) { control = Active event x.left p told } → Becomes body (called g event (callback.Strike p)) a n
struck_becomes {B} {Code} {body} g a n x event p r told calling kept found follows is_told left is =
    let stops : State B → State B = on_events (unregister r.target (is_resume_of p)) in
    let runs : Control → Control = λ c. Active event (left_of c) p told in
    let alive : is_some (record_of p a.live) ≡ true = ap is_some found in
    let same : n ≡ record (with_happen x a) { control = runs a.control } =
    is ∙ ap (λ (l : List Callback). let m : PartsOf B Code = record (with_happen x a) { control = Active event l p told } in m) (sym left) in
    subst (Becomes body (called g event (callback.Strike p)) a) (sym same)
    (becomes_as (λ s. let t : State B = stops s in record t { control = runs t.control }) (called g event (callback.Strike p)) a _
    (λ s h.
    let read : (event_at (calendar s) event).outcome ≡ (kept_at a.shared.happen.events event).event.outcome =
    ap (λ (y : EventOf). y.outcome) (sym (read_is a.shared.happen (calendar s) event kept h.stands.facilities.calendar)) in
    let strikes : called g event (callback.Strike p) s
    ≡ control_to (Active event (left_of s.control) p (signal_of (event_at (calendar s) event).outcome)) (stop_waiting p s) =
    rw (alive_is a p s h, alive) refl in
    sym (strikes ∙ rw (read, ← is_told, target_is a p r s found h) refl))
    (becomes_then stops (λ t. record t { control = runs t.control }) a (with_happen x a) _
    (becomes_followed (unregister r.target (is_resume_of p)) a x (λ c. plainly_unregistered r.target (is_resume_of p) c (λ y. refl)) follows)
    (owing_controlled [] runs (with_happen x a) (λ s h. still_processed s (calling_now (with_happen x a) event s calling h)))))
  where
    still_processed : (s : State B) → s.control ≡ Calling event (left_of s.control) →
        StatesTrade a.setup.events (body.tell a.code) [] [] s (record s { control = Active event (left_of s.control) p told })
    still_processed s is_calling =
        processed_trade a.setup.events (body.tell a.code) s (Active event (left_of s.control) p told)
        [] [] (λ f. rw is_calling (omega arith)) (λ f. omega arith)

-- to a process that has ended nothing comes
pub not_struck : {B Code : Type 0} {body : BodyOf B Code} (g : Plan B) (a : PartsOf B Code) (event : EventId) (p : ProcId) →
    IsCalling event a.control →
    is_some (record_of p a.live) ≡ false → Becomes body (called g event (callback.Strike p)) a a
not_struck {B} {Code} {body} g a event p calling ended =
    becomes_as (λ s. s) (called g event (callback.Strike p)) a a
    (λ s h. sym (stays p s (alive_is a p s h ∙ ended)
    ∙ ap (λ c. control_to c s) (sym (called_is s.control event (subst (IsCalling event) h.stands.control calling)))))
    (becomes_none a)
  where
    stays : (q : ProcId) (s : State B) → is_alive q s ≡ false →
        called g event (callback.Strike q) s ≡ control_to (Calling event (left_of s.control)) s
    stays q s none = rw none refl

    called_is : (c : Control) (e : EventId) → IsCalling e c → c ≡ Calling e (left_of c)
    called_is Idle e h = absurd h
    called_is (Calling f left) e h = rw h refl
    called_is (Active f left q y) e h = absurd h
    called_is (Over why f left) e h = absurd h

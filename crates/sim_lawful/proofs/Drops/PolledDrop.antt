-- A process drops another: that one ends at once, or an error is raised, and the one that runs goes on.
use Rattle.std.proofs.Common.{◌≡◌, ℤ, Bool, true, false, not, List, [], ◌∷◌, filter, map, Option, Some, refl, sym, subst, ap, ◌∙◌, if◌then◌else◌}
use Rattle.std.specs.Prelude.{find, fold}
use Rattle.std.proofs.lemmas.Bool.{cond_both, not-false}
use Rattle.sim_types.specs.declared.event.EventId.{EventId}
use Rattle.sim_types.specs.declared.event.ProcId.{ProcId}
use Rattle.sim_types.specs.declared.event.Signal.{Signal}
use Rattle.sim_types.specs.declared.event.Callback.{Callback}
use Rattle.sim_types.specs.declared.event.Outcome.TheVariants as outcome
use Rattle.sim_types.specs.declared.event.Signal.TheVariants as signal
use Rattle.sim_types.specs.declared.op.Op.{Op}
use Rattle.sim_types.specs.declared.op.Op.TheVariants as op
use Rattle.sim_machine.specs.State.{OpenScope, ProcessOf, State, Plan}
use Rattle.sim_machine.specs.Events.{is_process, unregister, is_resume_of, without_first}
use Rattle.sim_machine.specs.Triggering.{trigger}
use Rattle.sim_machine.specs.Scopes.{on_events, close_scope, scopes_inwards, leave_all}
use Rattle.sim_machine.specs.Processes.{process_at, is_alive, with_body, target_of, event_of, strip_resume, end_process, drop_process, tell as told}
use Rattle.sim_machine.specs.Effect.{raise}
use Rattle.sim_machine.specs.Steps.{polled}
use Rattle.sim_machine.specs.Tellings.{Telling, CodeFacts}
use Rattle.sim_machine_law.proofs.KeptParts.KeptProcessesParts.{is_process-yes}
use Rattle.sim_machine_law.proofs.KeptParts.KeptTimesCases.{if_cases}
use Rattle.sim_machine_law.proofs.KeptParts.KeptWaitingPolls.{alive_changed}
use Rattle.sim_machine_law.proofs.Events.ChangedCalendars.{AsksFor, HasAsked}
use Rattle.sim_lawful.proofs.Drops.DroppedBodies.{bodies_dropped}
use Rattle.sim_lawful.proofs.Drops.DroppedProcess.{MayDrop, IsScopeless, scopeless, scopeless_state, stopped_state, times_dropped, registrations_dropped_process, processes_dropped, interruptions_dropped, conditions_dropped_process, chains_dropped_process}
use Rattle.sim_lawful.proofs.Drops.DroppedWaiting.{waiting_dropped}
use Rattle.sim_machine_law.proofs.Processes.EndedProcesses.{is_other}
use Rattle.sim_lawful.proofs.Drops.LeftCapacities.{capacities_dropped}
use Rattle.sim_lawful.proofs.Calendars.ReplacedCalendars.{replace_same}
use Rattle.sim_lawful.proofs.Polls.ToldAnswers.{lawful_done, lawful_raised}
use Rattle.sim_machine_law.proofs.KeptParts.LawfulBasis.{AreScopesApart, LawfulBasis}

-- p runs and drops q, where no two open scopes are of one request
pub lawful-dropped : {B : Type 0} (g : Plan B) (tell : Telling B) (sound : B → Type 0) (s : State B) (e : EventId)
    (left : List Callback) (p : ProcId) (x : Signal) (q : ProcId) (value : ℤ) → AreScopesApart s → MayDrop s e left p x q
    → LawfulBasis g tell sound s → LawfulBasis g tell sound (drop_process q value s)
lawful-dropped g tell sound s e left p x q value distinct may h =
    record {
      times = times_dropped g tell sound s e left p x q value may h;
      registrations = registrations_dropped_process g tell sound s e left p x q value may h;
      processes = processes_dropped g tell sound s e left p x q value may h;
      interruptions = interruptions_dropped g tell sound s e left p x q value may h;
      waiting = waiting_dropped g tell sound s e left p x q value distinct may h;
      capacities = capacities_dropped g.setup.resources s q value h.capacities;
      conditions = conditions_dropped_process g tell sound s e left p x q value may h;
      bodies = bodies_dropped g tell sound s e left p x q value may h;
      chains = chains_dropped_process g tell sound s e left p x q value may h;
    }

-- ---- the body of the one that runs may be replaced before or after

abbrev with_new : {B : Type 0} → ProcId → B → ProcessOf B → ProcessOf B
with_new p b x = if is_process x.id p then record x { body = b } else x

if_kept : {B : Type 0} {Y : Type 0} (part : ProcessOf B → Y) (p : ProcId) (b : B) (x : ProcessOf B)
    → part (record x { body = b }) ≡ part x → part (with_new p b x) ≡ part x
if_kept part p b x same = cond_both (is_process x.id p) (record x { body = b }) x (λ y. part y ≡ part x) (λ a. same) (λ a. refl)

target_kept : {B : Type 0} (p q : ProcId) (b : B) (xs : List (ProcessOf B))
    → target_of q (find (λ (x : ProcessOf B). is_process x.id q) (map (with_new p b) xs))
    ≡ target_of q (find (λ (x : ProcessOf B). is_process x.id q) xs)
target_kept p q b [] = refl
target_kept {B} p q b (x ∷ xs) =
    let t : ProcessOf B → Bool = λ y. is_process y.id q in
    let id : (with_new p b x).id ≡ x.id = if_kept (λ y. y.id) p b x refl in
    let P : Bool → Type 0 = λ v. target_of q (if v then Some (with_new p b x) else find t (map (with_new p b) xs)) ≡ target_of q (if t x then Some x else find t xs) in
    subst P (sym (ap (λ (n : ProcId). is_process n q) id)) (at (t x) (target_kept p q b xs))
  where
    at : (v : Bool)
        → target_of q (find (λ (y : ProcessOf B). is_process y.id q) (map (with_new p b) xs))
        ≡ target_of q (find (λ (y : ProcessOf B). is_process y.id q) xs)
        → target_of q (if v then Some (with_new p b x) else find (λ (y : ProcessOf B). is_process y.id q) (map (with_new p b) xs))
        ≡ target_of q (if v then Some x else find (λ (y : ProcessOf B). is_process y.id q) xs)
    at true later = if_kept (λ y. y.target) p b x refl
    at false later = later

others_kept : {B : Type 0} (p q : ProcId) (b : B) (xs : List (ProcessOf B))
    → filter (is_other q) (map (with_new p b) xs) ≡ map (with_new p b) (filter (is_other q) xs)
others_kept p q b [] = refl
others_kept {B} p q b (x ∷ xs) =
    let y : ProcessOf B = with_new p b x in
    let later : filter (is_other q) (map (with_new p b) xs) ≡ map (with_new p b) (filter (is_other q) xs) = others_kept p q b xs in
    let same : is_other q y ≡ is_other q x = if_kept (is_other q) p b x refl in
    cond_both (is_other q x) (x ∷ filter (is_other q) xs) (filter (is_other q) xs) (λ zs. filter (is_other q) (y ∷ map (with_new p b) xs) ≡ map (with_new p b) zs)
    (λ a. rw (same ∙ a) (ap (λ zs. y ∷ zs) later)) (λ a. rw (same ∙ a) later)

-- scopes are left whatever processes there are
closed_with : {B : Type 0} (ps : List (ProcessOf B)) (xs : List OpenScope) (s : State B)
    → fold close_scope (record s { processes = ps }) xs ≡ record (fold close_scope s xs) { processes = ps }
closed_with ps [] s = refl
closed_with ps (x ∷ xs) s = closed_with ps xs (close_scope s x)

drop_then_body : {B : Type 0} (s : State B) (p q : ProcId) (b : B) (value : ℤ)
    → (scopeless_state q s).processes ≡ s.processes
    → drop_process q value (with_body p b s) ≡ with_body p b (drop_process q value s)
drop_then_body {B} s p q b value same =
    let f : ProcessOf B → ProcessOf B = with_new p b in
    let ps : List (ProcessOf B) = map f s.processes in
    let n : EventId = target_of q (process_at q s) in
    let t : State B = scopeless_state q s in
    let stopped : EventId → State B = λ m. record (on_events (unregister m (is_resume_of q)) (record s { processes = ps })) { control = strip_resume q s.control } in
    let ends : State B → State B = λ u. end_process q (outcome.Ok value) u in
    let with_processes : List (ProcessOf B) → State B = λ zs. on_events (trigger (event_of q) (outcome.Ok value)) (record t { processes = zs }) in
    ap (λ (m : EventId). ends (leave_all q (stopped m))) (target_kept p q b s.processes)
    ∙ (ap ends (closed_with ps (scopes_inwards q (stopped_state q s)) (stopped_state q s))
    ∙ ap with_processes (others_kept p q b s.processes ∙ ap (λ zs. map f (filter (is_other q) zs)) (sym same)))

-- ---- the one that runs goes on

found_other : {B : Type 0} (p q : ProcId) (xs : List (ProcessOf B)) → is_process q p ≡ false
    → find (λ (x : ProcessOf B). is_process x.id p) (filter (is_other q) xs)
    ≡ find (λ (x : ProcessOf B). is_process x.id p) xs
found_other p q [] apart = refl
found_other {B} p q (x ∷ xs) apart =
    let rest : List (ProcessOf B) = filter (is_other q) xs in
    let t : ProcessOf B → Bool = λ y. is_process y.id p in
    let later : find t rest ≡ find t xs = found_other p q xs apart in
    cond_both (is_other q x) (x ∷ rest) rest (λ zs. find t zs ≡ find t (x ∷ xs)) (λ a. ap (λ (o : Option (ProcessOf B)). if t x then Some x else o) later)
    (λ a. let is_q : x.id ≡ q = is_process-yes x.id q (not-false (is_process x.id q) a) in
    let fails : t x ≡ false = ap (λ (n : ProcId). is_process n p) is_q ∙ apart in
    rw fails later)

module _ {B : Type 0} (g : Plan B) (tell : Telling B) (sound : B → Type 0) (s : State B) (f : CodeFacts) (e : EventId) (left : List Callback) (p : ProcId) (x : Signal) (y : ProcessOf B) (b : B) where
  pub lawful-polled_drop : (q : ProcId) (value : ℤ) → AreScopesApart s
      → AsksFor g tell sound s f e left p x y b (op.Drop q value)
      → LawfulBasis g tell sound (polled g p (op.Drop q value) b s)
  lawful-polled_drop q value distinct asks =
      let o : Op = op.Drop q value in
      let r : State B = with_body p b s in
      let t : State B = drop_process q value s in
      let done : State B = told signal.Done (drop_process q value r) in
      let has_asked : HasAsked g tell sound s f e left p x y b o = record { active = asks.active; found = asks.found; is_sound = asks.is_sound; lawful = asks.lawful; poll = asks.poll; scopes = asks.poll.scopes } in
      let alive_is : is_alive q r ≡ is_alive q s = alive_changed p q (λ z. record z { body = b }) s (λ z. refl) in
      if_cases (λ u. LawfulBasis g tell sound u) (not (is_alive q r)) (raise 4 r) (if is_process q p then raise 5 r else done) (λ ended. lawful_raised g tell sound s f e left p x y b o 4 has_asked refl refl)
      (λ alive. if_cases (λ u. LawfulBasis g tell sound u) (is_process q p) (raise 5 r) done (λ same. lawful_raised g tell sound s f e left p x y b o 5 has_asked refl refl)
      (λ other.
      let may : MayDrop s e left p x q = record { active = asks.active; other = other; alive = sym alive_is ∙ not-false (is_alive q r) alive } in
      let k : IsScopeless s e left p x q = scopeless g.setup.events s e left p x q may asks.lawful.processes in
      let dropped : LawfulBasis g tell sound t = lawful-dropped g tell sound s e left p x q value distinct may asks.lawful in
      let still : process_at p t ≡ Some y = found_other p q (scopeless_state q s).processes other ∙ (ap (λ (zs : List (ProcessOf B)). find (λ (z : ProcessOf B). is_process z.id p) zs) k.leaves.processes ∙ asks.found) in
      let then_asked : HasAsked g tell sound t f e (without_first (is_resume_of q) left) p x y b o = record { active = k.control; found = still; is_sound = asks.is_sound; lawful = dropped; poll = asks.poll; scopes = asks.poll.scopes } in
      subst (λ (u : State B). LawfulBasis g tell sound (told signal.Done u)) (sym (drop_then_body s p q b value k.leaves.processes))
      (lawful_done g tell sound t f e (without_first (is_resume_of q) left) p x y b o (λ c. c) then_asked (replace_same g tell sound t dropped) refl refl)))

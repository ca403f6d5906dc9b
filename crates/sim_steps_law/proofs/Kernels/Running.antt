-- What is known of the process that runs.
use Rattle.std.proofs.Common.{◌≡◌, ◌≢◌, ◌<◌, ◌^◌, Bool, true, false, List, [], ◌∷◌, length, refl, ap, subst, ◌∙◌, arith, Option, Some, None, map, cond}
use Rattle.std.specs.Prelude.{All, AllPairs, not, ◌||◌, find, if◌then◌else◌, IsSome}
use Rattle.std.specs.Option.{option_map}
use Rattle.std.specs.List.{list_any}
use Rattle.std.proofs.lemmas.Option.{none-some, same_Some}
use Rattle.std.proofs.lemmas.Bool.{false≢true, ltb-true, lt-ltb}
use Rattle.sim_types.specs.declared.event.EventId.{EventId}
use Rattle.sim_types.specs.declared.event.ProcId.{ProcId}
use Rattle.sim_types.specs.declared.event.Callback.{Callback}
use Rattle.sim_types.specs.declared.event.Signal.{Signal}
use Rattle.sim_types.specs.declared.event.Signal.TheVariants as signal
use Rattle.sim_types.proofs.Permutations.{find-IsPermutation}
use Rattle.sim_machine.specs.State.{Calendar, ProcessOf, Control, Idle, Calling, Active, Over, State}
use Rattle.sim_machine.specs.Events.{is_process, is_processed}
use Rattle.sim_machine.specs.Processes.{process_at, is_alive}
use Rattle.sim_machine.specs.Tellings.{Telling}
use Rattle.sim_machine.specs.MayFollow.{may_be_told, makes_kind}
use Rattle.sim_machine.specs.NumberBounds.{most_events, tells_within_bound}
use Rattle.sim_machine.specs.Standing.{was_made, kind_at}
use Rattle.sim_machine.specs.LawfulProcesses.{is_active}
use Rattle.sim_machine.specs.LawfulBodies.{told_fits, is_told_well}
use Rattle.sim_machine_law.proofs.KeptParts.KeptTimesCases.{found_has}
use Rattle.sim_machine_law.proofs.KeptParts.KeptBodies.{four_parts}
use Rattle.sim_machine_law.proofs.KeptParts.KeptProcessesParts.{same_process, is_process-yes, is_process-self}
use Rattle.sim_machine.specs.Bodies.{BodyOf, start_of}
use Rattle.sim_machine.specs.BodyLaw.{IsLawfulBody}
use Rattle.sim_procs.specs.Premises.{CanBeTold}
use Rattle.sim_procs.specs.RecordOf.{RecordOf, record_of}
use Rattle.sim_steps_model.specs.PartsOf.{PartsOf, IsRunning}
use Rattle.sim_steps_model.specs.StandsFor.{StandsFor, StandsForSome, process_of}

mapped_at : {B : Type 0} (r : RecordOf B) (o : Option (ProcessOf B)) (q : Option (RecordOf B)) (b : Bool) → o ≡ option_map process_of q →
    cond b (Some (process_of r)) o ≡ option_map process_of (cond b (Some r) q)
mapped_at r o q true h = refl
mapped_at r o q false h = h

find_mapped : {B : Type 0} (p : ProcId) (live : List (RecordOf B)) →
    find (λ x. is_process x.id p) (map process_of live) ≡ option_map process_of (record_of p live)
find_mapped p [] = refl
find_mapped p (r ∷ live) = mapped_at r (find (λ x. is_process x.id p) (map process_of live))
    (record_of p live) (is_process r.id p) (find_mapped p live)

-- the live process of the machine is that of the record
pub process_found : {B Code : Type 0} (parts : PartsOf B Code) (s : State B) (p : ProcId) → AllPairs (λ x y. x.id ≢ y.id) s.processes →
    StandsFor parts s →
    process_at p s ≡ option_map process_of (record_of p parts.live)
process_found parts s p distinct st =
    find-IsPermutation (λ x. x.id.0) p.0 s.processes (map process_of parts.live) st.processes
    (λ i j d before below. λ e. distinct i j d before below (same_process _ _ e)) ∙ find_mapped p parts.live

-- ---- what is found

any_found : {X : Type 0} (test : X → Bool) (xs : List X) → list_any test xs ≡ true → IsSome (find test xs)
any_found test [] h = absurd (false≢true h)
any_found {X} test (x ∷ xs) h = at (test x) h (any_found test xs)
  where
    at : (b : Bool) → (b || list_any test xs) ≡ true → (list_any test xs ≡ true → IsSome (find test xs)) → IsSome (cond b (Some x) (find test xs))
    at true k later = refl
    at false k later = later k

some_mapped : {X Y : Type 0} (f : X → Y) (o : Option X) → IsSome (option_map f o) → IsSome o
some_mapped f None h = h
some_mapped f (Some x) h = refl

pub mapped_is : {X Y : Type 0} (f : X → Y) (o : Option X) (y : Y) → option_map f o ≡ Some y → (x : X) × (o ≡ Some x) × (f x ≡ y)
mapped_is f None y h = absurd (none-some y h)
mapped_is f (Some x) y h = (x, refl, same_Some (f x) y h)

-- ---- what is known by the control

-- the process that runs, and what is left to call
pub running_is : (c : Control) (event : EventId) (p : ProcId) (told : Signal) → IsRunning event p told c →
    (left : List Callback) × (c ≡ Active event left p told)
running_is Idle event p told h = absurd h
running_is (Calling e left) event p told h = absurd h
running_is (Active e left q x) event p told h = (left, rw (h.0, h.1, h.2) refl)
running_is (Over why e left) event p told h = absurd h

running_active : (event : EventId) (p : ProcId) (told : Signal) (c : Control) → IsRunning event p told c → is_active c p ≡ true
running_active event p told Idle h = absurd h
running_active event p told (Calling e left) h = absurd h
running_active event p told (Active e left q x) h = subst (λ r. is_process q r ≡ true) h.1 (is_process-self q)
running_active event p told (Over why e left) h = absurd h

told_here : {B : Type 0} (tell : Telling B) (c : Calendar) (b : B) (x told : Signal) (y w : Bool) → y ≡ true → x ≡ told →
    (if y then told_fits tell c b x else w) ≡ true → told_fits tell c b told ≡ true
told_here tell c b x told true w h same fits = subst (λ z. told_fits tell c b z ≡ true) same fits
told_here tell c b x told false w h same fits = absurd (false≢true h)

pub running_fits : {B : Type 0} (tell : Telling B) (d : Calendar) (event : EventId) (p : ProcId) (told : Signal) (b : B) (c : Control) →
    IsRunning event p told c → is_told_well tell d p b c ≡ true → told_fits tell d b told ≡ true
running_fits tell d event p told b Idle h fits = absurd h
running_fits tell d event p told b (Calling e left) h fits = absurd h
running_fits tell d event p told b (Active e left q x) h fits = told_here tell d b x told
    (is_process q p) _ (running_active event p told (Active e left q x) h) h.2 fits
running_fits tell d event p told b (Over why e left) h fits = absurd h

pub fits_told : {B : Type 0} (tell : Telling B) (c : Calendar) (b : B) (x : Signal) → told_fits tell c b x ≡ true → may_be_told (tell.last b) x ≡ true
fits_told tell c b (signal.Made e)
    h = (four_parts (may_be_told (tell.last b) (signal.Made e)) (was_made c e) (not (is_processed c e)) (makes_kind (tell.last b) (kind_at c e)) h).0
fits_told tell c b _ h = h

fits_bound : {B : Type 0} (tell : Telling B) (c : Calendar) (b : B) (x : Signal) → length c.events < 2 ^ 62 → told_fits tell c b x ≡ true →
    tells_within_bound x ≡ true
fits_bound tell c b (signal.Made e) few h =
    let made : was_made c e ≡ true =
    (four_parts (may_be_told (tell.last b) (signal.Made e)) (was_made c e)
    (not (is_processed c e)) (makes_kind (tell.last b) (kind_at c e)) h).1 in
    let below : e.0 < length c.events = ltb-true e.0 (length c.events) made in
    lt-ltb e.0 most_events (omega (arith, below, few))
fits_bound tell c b _ few h = refl

-- the law of bodies, for bodies of this code
abbrev pub KeepsLaw : {B Code : Type 0} → BodyOf B Code → Code → Type 0
KeepsLaw body code = IsLawfulBody (body.facts code) (body.tell code) (body.sound code) (start_of body code) (body.turn code)

-- the body of a process that has a record
abbrev pub IsBodyOf : {B Code : Type 0} → PartsOf B Code → ProcId → B → Type 0
IsBodyOf parts p b = option_map (λ r. r.body) (record_of p parts.live) ≡ Some b

-- what holds of each live process and its body holds of one that has a record
body_has : {B Code : Type 0} (parts : PartsOf B Code) (s : State B) (p : ProcId) (b : B) (P : ProcId → B → Type 0) →
    AllPairs (λ x y. x.id ≢ y.id) s.processes → StandsFor parts s → IsBodyOf parts p b → All (λ x. P x.id x.body) s.processes → P p b
body_has {B} parts s p b P distinct st found all =
    let r = mapped_is (λ (r : RecordOf B). r.body) (record_of p parts.live) b found in
    let here : process_at p s ≡ Some (process_of r.0) = process_found parts s p distinct st ∙ ap (option_map process_of) r.1 in
    let has = found_has (λ (x : ProcessOf B). P x.id x.body) (λ x. is_process x.id p) s.processes (process_of r.0) here all in
    subst (λ d. P p d) r.2 (subst (λ q. P q r.0.body) (is_process-yes r.0.id p has.1) has.0)

module _ {B Code : Type 0} (body : BodyOf B Code) (parts : PartsOf B Code) where
  -- what the process that runs is told fits
  told_running : (event : EventId) (p : ProcId) (told : Signal) (b : B) (h : StandsForSome body parts) → IsRunning event p told parts.control →
      IsBodyOf parts p b → told_fits (body.tell parts.code) h.state.facilities.calendar b told ≡ true
  told_running event p told b h running found =
      let s = h.state in
      let tell = body.tell parts.code in
      let fits = body_has parts s p b
      (λ q d. is_told_well tell s.facilities.calendar q d s.control ≡ true) h.lawful.processes.distinct h.stands found h.lawful.bodies.told in
      running_fits tell s.facilities.calendar event p told b s.control (subst (λ c. IsRunning event p told c) h.stands.control running) fits

  -- it has a record
  pub running_alive : (event : EventId) (p : ProcId) (told : Signal) → StandsForSome body parts → IsRunning event p told parts.control →
      IsSome (record_of p parts.live)
  running_alive event p told h running =
      let s = h.state in
      let alive : is_alive p s ≡ true =
      h.lawful.processes.active p (running_active event p told s.control (subst (λ c. IsRunning event p told c) h.stands.control running)) in
      some_mapped process_of (record_of p parts.live)
      (subst IsSome (process_found parts s p h.lawful.processes.distinct h.stands) (any_found (λ x. is_process x.id p) s.processes alive))

  -- its body is sound, may be told what it is told, and an event that it is told was made
  pub running_can_be_told : (event : EventId) (p : ProcId) (told : Signal) (b : B) → StandsForSome body parts → IsRunning event p told parts.control →
      IsBodyOf parts p b → length parts.shared.happen.events < 2 ^ 62 → CanBeTold body parts.code b told
  running_can_be_told event p told b h running found few =
      let tell = body.tell parts.code in
      let fits = told_running event p told b h running found in
      record {
        sound = body_has parts h.state p b (λ q d. body.sound parts.code d) h.lawful.processes.distinct h.stands found h.lawful.bodies.bodies;
        told = fits_told tell h.state.facilities.calendar b told fits;
        bound = fits_bound tell h.state.facilities.calendar b told (subst (λ n. n < 2 ^ 62) h.stands.facilities.calendar.made few) fits;
      }

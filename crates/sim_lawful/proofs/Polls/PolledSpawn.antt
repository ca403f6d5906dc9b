-- A process spawns another: the new process is made, and the one that runs goes on and is told of it. Its event has the new
-- process's number.
use Rattle.std.proofs.Common.{◌≡◌, ℕ, ◌<◌, ℤ, Bool, true, false, List, [], ◌∷◌, ◌++◌, map, length, Some, refl, sym, subst, ap, ◌∙◌, arith, if◌then◌else◌}
use Rattle.std.specs.Prelude.{IsTrue, nat_lt, slice_index_or, find}
use Rattle.std.proofs.lemmas.Bool.{and_from, and_parts}
use Rattle.std.proofs.lemmas.List.{map-append}
use Rattle.sim_types.specs.declared.event.EventId.{EventId}
use Rattle.sim_types.specs.declared.event.ProcId.{ProcId}
use Rattle.sim_types.specs.declared.event.Signal.{Signal}
use Rattle.sim_types.specs.declared.event.Callback.{Callback}
use Rattle.sim_types.specs.declared.event.Signal.TheVariants as signal
use Rattle.sim_types.specs.declared.op.Op.{Op}
use Rattle.sim_types.specs.declared.op.Op.TheVariants as op
use Rattle.sim_machine.specs.State.{EventOf, Calendar, ProcessOf, Active, State, Plan}
use Rattle.sim_machine.specs.Events.{is_process, next_event}
use Rattle.sim_machine.specs.Triggering.{make}
use Rattle.sim_machine.specs.Scopes.{on_events}
use Rattle.sim_machine.specs.Processes.{process_at, with_body, make_events_of_process, make_process, tell as told}
use Rattle.sim_machine.specs.Effect.{calendar}
use Rattle.sim_machine.specs.Steps.{polled}
use Rattle.sim_machine.specs.Tellings.{Telling, CodeFacts}
use Rattle.sim_machine.specs.MayAsk.{arguments_fit}
use Rattle.sim_machine.specs.MayFollow.{makes_kind}
use Rattle.sim_machine.specs.BodyLaw.{IsLawfulBody, IsLawfulPoll, may_begin, may_start}
use Rattle.sim_machine.specs.Setups.{FitsCode}
use Rattle.sim_machine.specs.LawfulProcesses.{is_living_well}
use Rattle.sim_machine_law.proofs.KeptParts.KeptBodies.{find_has, find_passes}
use Rattle.sim_machine_law.proofs.KeptParts.KeptBodiesPolls.{own_number}
use Rattle.sim_lawful.proofs.KeptParts.KeptLawful.{lawful-made_process}
use Rattle.sim_machine_law.proofs.KeptParts.KeptProcessesParts.{LivesWell, is_process-yes, is_process-no, lives_well}
use Rattle.sim_lawful.proofs.KeptParts.KeptProcessesStart.{length-joined, event-joined}
use Rattle.sim_lawful.proofs.Opening.StartedPlaces.{NamedPlain, named_plain_of}
use Rattle.sim_lawful.proofs.Polls.SpawnedPlaces.{MaySpawn, spawned_starts, spawned_placed}
use Rattle.sim_machine_law.proofs.Events.ChangedCalendars.{HasAsked}
use Rattle.sim_lawful.proofs.Polls.KnownEvents.{places_fit}
use Rattle.sim_lawful.proofs.Calendars.ReplacedCalendars.{replace_same}
use Rattle.sim_lawful.proofs.Polls.ToldAnswers.{lawful_made}
use Rattle.sim_machine_law.proofs.KeptParts.LawfulBasis.{LawfulBasis}

-- ---- a process more changes nothing of the one that runs

found_at : {X : Type 0} (test : X → Bool) (x : X) (xs ys : List X) (y : X) (v : Bool)
    → (if v then Some x else find test xs) ≡ Some y → (find test xs ≡ Some y → find test (xs ++ ys) ≡ Some y)
    → (if v then Some x else find test (xs ++ ys)) ≡ Some y
found_at test x xs ys y true h later = h
found_at test x xs ys y false h later = later h

-- what is found is found in a longer list
found_before : {X : Type 0} (test : X → Bool) (xs ys : List X) (y : X) → find test xs ≡ Some y → find test (xs ++ ys) ≡ Some y
found_before test [] ys y h = cc
found_before test (x ∷ xs) ys y h = found_at test x xs ys y (test x) h (found_before test xs ys y)

stays : {X : Type 0} (v : Bool) (x y : X) → v ≡ false → (if v then x else y) ≡ y
stays v x y h = rw h refl

other_bodies : {B : Type 0} (p : ProcId) (b : B) (xs : List (ProcessOf B)) (z : ProcessOf B) → is_process z.id p ≡ false
    → map (λ (x : ProcessOf B). if is_process x.id p then record x { body = b } else x) (xs ++ z ∷ [])
    ≡ map (λ (x : ProcessOf B). if is_process x.id p then record x { body = b } else x) xs ++ z ∷ []
other_bodies {B} p b xs z apart =
    let f : ProcessOf B → ProcessOf B = λ x. if is_process x.id p then record x { body = b } else x in
    map-append f xs (z ∷ []) ∙ ap (λ (w : ProcessOf B). map f xs ++ w ∷ []) (stays (is_process z.id p) (record z { body = b }) z apart)

-- the new process may be made before the body of the old one is replaced
spawned_is : {B : Type 0} (g : Plan B) (s : State B) (p : ProcId) (b : B) (k : ℕ) (args : List ℤ)
    → p.0 < length (calendar s).events
    → polled g p (op.Spawn k args) b s ≡ told (signal.Made (next_event (calendar s)))
    (with_body p b (make_process g k args s))
spawned_is {B} g s p b k args made =
    let c : Calendar = calendar s in
    let q : ProcId = record { 0 = (next_event c).0 } in
    let new : ProcessOf B = record { id = q; body = g.start k args q; target = next_event (make _ c) } in
    let P : List (ProcessOf B) → State B = λ ps. told (signal.Made (next_event c)) (on_events make_events_of_process (record s { processes = ps })) in
    ap P (sym (other_bodies p b s.processes new (is_process-no q p (λ same. omega (arith, same, made)))))

-- ---- it is told of the new process

pub lawful-polled_spawn : {B : Type 0} (g : Plan B) (tell : Telling B) (sound : B → Type 0)
    (turn : B → ℤ → Signal → Op → B → Type 0) (s : State B) (f : CodeFacts) (e : EventId) (left : List Callback) (p : ProcId)
    (x : Signal) (y : ProcessOf B) (b : B) (k : ℕ) (args : List ℤ) → IsLawfulBody f tell sound g.start turn
    → FitsCode f g.setup → s.control ≡ Active e left p x → process_at p s ≡ Some y → sound b → LawfulBasis g tell sound s
    → IsLawfulPoll f tell y.body x (op.Spawn k args) b → LawfulBasis g tell sound (polled g p (op.Spawn k args) b s)
lawful-polled_spawn {B} g tell sound turn s f e left p x y b k args law setup active found sb h poll =
    let c : Calendar = calendar s in
    let q : ProcId = record { 0 = (next_event c).0 } in
    let t : State B = make_process g k args s in
    let at_p : y.id ≡ p = is_process-yes y.id p (find_passes (λ z. is_process z.id p) s.processes y found) in
    let lives : LivesWell c y.id y.target = lives_well s y (find_has (λ z. is_living_well s z ≡ true) (λ z. is_process z.id p) s.processes y found h.processes.living) in
    let own_b : y.id ≡ tell.own b = at_p ∙ sym (poll.own ∙ own_number tell sound s p y h.bodies found) in
    let lives_own : LivesWell c (tell.own b) y.target = subst (λ (r : ProcId). LivesWell c r y.target) own_b lives in
    let named : NamedPlain f.named c = subst (λ (n : ℕ). NamedPlain n c) setup.events (named_plain_of g.setup.events s h.processes) in
    let spawns : Op = op.Spawn k args in
    let has_asked : HasAsked g tell sound s f e left p x y b spawns = record { active = active; found = found; is_sound = sb; lawful = h; poll = poll; scopes = poll.scopes } in
    let places = places_fit g tell sound s f e left p x y b spawns has_asked in
    let may : MaySpawn f c (tell.own b) (tell.places b) = record { named = named; made = lives_own.made; kind = lives_own.kind; placed = places } in
    let asks = and_parts (nat_lt k (length f.params)) (arguments_fit f (tell.own b) (tell.places b) (slice_index_or f.params k []) args) poll.asks in
    let begins : IsTrue (may_begin f k args) = and_from (nat_lt k (length f.params)) (may_start (slice_index_or f.params k []) args) asks.0 (spawned_starts f (tell.own b) (tell.places b) (slice_index_or f.params k []) args asks.1) in
    let begun = law.starts k args q begins in
    let made : LawfulBasis g tell sound t = lawful-made_process g tell sound s f k args begins begun (spawned_placed f tell c (tell.own b) (tell.places b) k args q (g.start k args q) may asks.1 begun) (law.begins k args q begins) h in
    let still : process_at p t ≡ Some y = found_before (λ (z : ProcessOf B). is_process z.id p) s.processes _ y found in
    let low : p.0 < length c.events = subst (λ (r : ProcId). r.0 < length c.events) at_p lives.made in
    let d : Calendar = calendar t in
    let then_asked : HasAsked g tell sound t f e left p x y b spawns = record { active = active; found = still; is_sound = sb; lawful = made; poll = poll; scopes = poll.scopes } in
    subst (λ (u : State B). LawfulBasis g tell sound u) (sym (spawned_is g s p b k args low))
    (lawful_made g tell sound t f e left p x y b spawns (next_event c) (λ a. a) then_asked (replace_same g tell sound t made) refl refl
    (ap (λ (z : EventOf). makes_kind (Some spawns) z.kind) (event-joined c)) (omega (arith, length-joined c)) (ap (λ (z : EventOf). z.processed) (event-joined c)))

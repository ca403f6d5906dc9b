-- For a body that leaves nothing open, the next state of a run is there until the run has ended, and it is the only one.
use Rattle.std.proofs.Common.{◌≡◌, ◌≢◌, ◌≤◌, ◌-◌, ◌⊎◌, inl, inr, List, [], ◌∷◌, Option, Some, None, refl, sym, subst, ap, ◌∙◌, ℕ, zero, suc, ◌+◌, add-zero, Bool, true, false, cond, if◌then◌else◌, ◌||◌, ◌&&◌, arith}
use Rattle.std.specs.Prelude.{IsTrue, find, is_none, nat_le}
use Rattle.std.specs.List.{list_any}
use Rattle.std.proofs.Math.Nat.{add-suc}
use Rattle.std.proofs.lemmas.Option.{none-some}
use Rattle.sim_types.specs.declared.event.ProcId.{ProcId}
use Rattle.sim_types.specs.declared.event.Entry.{Entry}
use Rattle.sim_types.specs.declared.event.Signal.{Signal}
use Rattle.sim_types.specs.declared.line.End.{End}
use Rattle.sim_types.specs.declared.setup.Arrival.{Arrival}
use Rattle.sim_machine.specs.State.{Control, Idle, Calling, Active, Over, State, ProcessOf, Plan}
use Rattle.sim_machine.specs.Choices.{best_from}
use Rattle.sim_machine.specs.Keys.{comes_first}
use Rattle.sim_machine.specs.Agenda.{due}
use Rattle.sim_machine.specs.Events.{is_process}
use Rattle.sim_machine.specs.Processes.{process_at, is_alive}
use Rattle.sim_machine.specs.LawfulProcesses.{is_active}
use Rattle.sim_machine.specs.Effect.{calendar}
use Rattle.sim_machine.specs.Steps.{TurnFunction, IsPop, IsPoll, IsStepAt, IsStep, pop_if_any, poll_if_any, step_at, step_of}
use Rattle.sim_machine.specs.Units.{Course, is_idle, due_arrival, IsUnitAt, IsUnit, unit_at, unit_of}
use Rattle.sim_machine.specs.Runs.{end_of, end_by, after_units, opening_course, run, Runs, HasEnded, IsRun}
use Rattle.sim_machine_law.specs.Courses.{OfFunction}
use Rattle.sim_machine_law.proofs.KeptParts.KeptProcessesParts.{is_process-self}

poll_is : {B : Type 0} (g : Plan B) (turn : TurnFunction B) (p : ProcId) (x : Signal) (s : State B) (y : ProcessOf B)
    → process_at p s ≡ Some y → (o : Option (ProcessOf B)) → o ≡ Some y
    → IsPoll g (OfFunction turn) p x s (poll_if_any g turn p x o s)
poll_is g turn p x s y found o h =
    rw h (record {
      process = y;
      found = found;
      asked = (turn y.body (calendar s).time x).0;
      body = (turn y.body (calendar s).time x).1;
      turned = refl;
      then_is = refl;
    })

-- what a step needs: an entry to pop, or the active process among the living
abbrev pub CanStepAt : {B : Type 0} → State B → Control → Type 0
CanStepAt s Idle = (x : Entry) × (due (calendar s).agenda ≡ Some x)
CanStepAt s (Calling e left) = Unit {0}
CanStepAt {B} s (Active e left p x) = (y : ProcessOf B) × (process_at p s ≡ Some y)
CanStepAt s (Over why e left) = ⊥

pop_is : {B : Type 0} (s : State B) (x : Entry) → due (calendar s).agenda ≡ Some x → (o : Option Entry) → o ≡ Some x → IsPop s (pop_if_any o s)
pop_is s x found o h = rw h (record { entry = x; is_due = found; then_is = refl })

step_is_at : {B : Type 0} (g : Plan B) (turn : TurnFunction B) (s : State B) (c : Control) → CanStepAt s c
    → IsStepAt g (OfFunction turn) s (step_at g turn s c) c
step_is_at g turn s Idle h = pop_is s h.0 h.1 (due (calendar s).agenda) h.1
step_is_at g turn s (Calling e left) h = refl
step_is_at g turn s (Active e left p x) h = poll_is g turn p x s h.0 h.1 (process_at p s) h.1
step_is_at g turn s (Over why e left) h = absurd h

-- the function gives a step, where one can be made
pub step_is : {B : Type 0} (g : Plan B) (turn : TurnFunction B) (s : State B) → CanStepAt s s.control → IsStep g (OfFunction turn) s (step_of g turn s)
step_is g turn s h = step_is_at g turn s s.control h

unit_is_at : {B : Type 0} (g : Plan B) (turn : TurnFunction B) (m : Course B) (o : Option Arrival)
    → (o ≡ None → CanStepAt m.state m.state.control) → IsUnitAt g (OfFunction turn) m (unit_at g turn m o) o
unit_is_at g turn m None h = (step_is g turn m.state (h refl), refl)
unit_is_at g turn m (Some a) h = refl

pub unit_is : {B : Type 0} (g : Plan B) (turn : TurnFunction B) (m : Course B)
    → (due_arrival m.state m.left ≡ None → CanStepAt m.state m.state.control)
    → IsUnit g (OfFunction turn) m (unit_of g turn m)
unit_is g turn m h = unit_is_at g turn m (due_arrival m.state m.left) h

only_pop : {B : Type 0} (s t : State B) → IsPop s t → t ≡ pop_if_any (due (calendar s).agenda) s
only_pop s t h = rw h.is_due h.then_is

only_poll : {B : Type 0} (g : Plan B) (turn : TurnFunction B) (p : ProcId) (x : Signal) (s t : State B)
    → IsPoll g (OfFunction turn) p x s t → t ≡ poll_if_any g turn p x (process_at p s) s
only_poll g turn p x s t h = rw h.found (h.then_is ∙ rw h.turned refl)

only_step_at : {B : Type 0} (g : Plan B) (turn : TurnFunction B) (s t : State B) (c : Control) → IsStepAt g (OfFunction turn) s t c → t ≡ step_at g turn s c
only_step_at g turn s t Idle h = only_pop s t h
only_step_at g turn s t (Calling e left) h = h
only_step_at g turn s t (Active e left p x) h = only_poll g turn p x s t h
only_step_at g turn s t (Over why e left) h = absurd h

-- and it is the only one
pub only_step : {B : Type 0} (g : Plan B) (turn : TurnFunction B) (s t : State B) → IsStep g (OfFunction turn) s t → t ≡ step_of g turn s
only_step g turn s t h = only_step_at g turn s t s.control h

same_course : {B : Type 0} (a b : Course B) → a.state ≡ b.state → a.left ≡ b.left → a ≡ b
same_course {B} a b p q =
    let with_state : State B → Course B = λ s. record { state = s; left = a.left } in
    let with_left : List Arrival → Course B = λ l. record { state = b.state; left = l } in
    ap with_state p ∙ ap with_left q

only_unit_at : {B : Type 0} (g : Plan B) (turn : TurnFunction B) (m n : Course B) (o : Option Arrival)
    → IsUnitAt g (OfFunction turn) m n o → n ≡ unit_at g turn m o
only_unit_at g turn m n None h = same_course n (record m { state = step_of g turn m.state }) (only_step g turn m.state n.state h.0) h.1
only_unit_at g turn m n (Some a) h = h

pub only_unit : {B : Type 0} (g : Plan B) (turn : TurnFunction B) (m n : Course B) → IsUnit g (OfFunction turn) m n → n ≡ unit_of g turn m
only_unit g turn m n h = only_unit_at g turn m n (due_arrival m.state m.left) h

-- ---- a run that has ended stays as it is

ended_at : {B : Type 0} (g : Plan B) (turn : TurnFunction B) (s : State B) (why : End) (c : Control) (agenda : List Entry)
    (left : List Arrival) → end_by g c agenda left ≡ Some why → c ≡ s.control → agenda ≡ (calendar s).agenda
    → unit_at g turn (record { state = s; left = left }) (due_arrival s left) ≡ record { state = s; left = left }
ended_at g turn s why Idle [] [] h c a = rw (← c) (rw (← a) refl)
ended_at g turn s why Idle [] (x ∷ left) h c a = absurd (none-some why h)
ended_at g turn s why Idle (x ∷ agenda) left h c a = absurd (none-some why h)
ended_at g turn s why (Calling e calls) agenda left h c a = absurd (none-some why h)
ended_at g turn s why (Active e calls p x) agenda left h c a = absurd (none-some why h)
ended_at g turn s why (Over w e calls) agenda [] h c a = rw (← c) refl
ended_at g turn s why (Over w e calls) agenda (x ∷ left) h c a = rw (← c) refl

pub ended_stays : {B : Type 0} (g : Plan B) (turn : TurnFunction B) (m : Course B) (why : End) → end_of g m ≡ Some why → unit_of g turn m ≡ m
ended_stays g turn m why h = ended_at g turn m.state why m.state.control (calendar m.state).agenda m.left h refl refl

same_run : {B : Type 0} (g : Plan B) (turn : TurnFunction B) (m n : Course B) (why : End) → end_of g m ≡ Some why → n ≡ m → unit_of g turn n ≡ m
same_run g turn m n why h same = rw same (ended_stays g turn m why h)

-- and so does it after any number of units more
pub ended_stays_on : {B : Type 0} (g : Plan B) (turn : TurnFunction B) (m : Course B) (n : ℕ) (why : End)
    → end_of g (after_units g turn n m) ≡ Some why → (k : ℕ) → after_units g turn (n + k) m ≡ after_units g turn n m
ended_stays_on g turn m n why h zero = rw add-zero refl
ended_stays_on g turn m n why h (suc k) = rw add-suc (same_run g turn (after_units g turn n m) (after_units g turn (n + k) m) why h (ended_stays_on g turn m n why h k))

-- ---- until it has ended there is a unit more

found_by_test : {X : Type 0} (p : X → Bool) (x : X) (xs : List X) (b : Bool) → (b || list_any p xs) ≡ true
    → (list_any p xs ≡ true → (y : X) × (find p xs ≡ Some y)) → (y : X) × (cond b (Some x) (find p xs) ≡ Some y)
found_by_test p x xs true any later = (x, refl)
found_by_test p x xs false any later = later any

found_where_any : {X : Type 0} (p : X → Bool) (xs : List X) → list_any p xs ≡ true → (y : X) × (find p xs ≡ Some y)
found_where_any p [] any = absurd (cc)
found_where_any p (x ∷ xs) any = found_by_test p x xs (p x) any (λ h. found_where_any p xs h)

never_none : (a : Arrival) (b : Bool) → (if b || true then Some a else None) ≡ None → ⊥
never_none a true h = cc
never_none a false h = cc

not_waiting : {B : Type 0} (s : State B) (a : Arrival) (left : List Arrival) → Idle ≡ s.control → [] ≡ (calendar s).agenda → due_arrival s (a ∷ left) ≡ None → ⊥
not_waiting s a left c e h =
    let P : Control → Type 0 = λ k. (if is_idle k && (nat_le a.after s.processed || is_none (due (calendar s).agenda)) then Some a else None) ≡ None in
    let Q : List Entry → Type 0 = λ k. (if nat_le a.after s.processed || is_none (due k) then Some a else None) ≡ None in
    never_none a (nat_le a.after s.processed) (subst Q (sym e) (subst P (sym c) h))

-- the process that runs is alive
abbrev pub ActiveIsAlive : {B : Type 0} → State B → Control → Type 0
ActiveIsAlive s c = (p : ProcId) → IsTrue (is_active c p) → IsTrue (is_alive p s)

can_step_at : {B : Type 0} (g : Plan B) (s : State B) (c : Control) (agenda : List Entry) (left : List Arrival)
    → end_by g c agenda left ≡ None → c ≡ s.control → agenda ≡ (calendar s).agenda → ActiveIsAlive s c
    → due_arrival s left ≡ None → CanStepAt s c
can_step_at g s Idle [] [] h c a alive none = absurd (none-some _ (sym h))
can_step_at g s Idle [] (x ∷ left) h c a alive none = absurd (not_waiting s x left c a none)
can_step_at g s Idle (e ∷ es) left h c a alive none = rw (← a) (best_from (λ f d. comes_first f.key d.key) e es, refl)
can_step_at g s (Calling e calls) agenda left h c a alive none = tt
can_step_at g s (Active e calls p x) agenda left h c a alive none = found_where_any (λ y. is_process y.id p) s.processes (alive p (is_process-self p))
can_step_at g s (Over why e calls) agenda left h c a alive none = absurd (none-some why (sym h))

pub unit_where_not_ended : {B : Type 0} (g : Plan B) (turn : TurnFunction B) (m : Course B) → end_of g m ≡ None
    → ActiveIsAlive m.state m.state.control → IsUnit g (OfFunction turn) m (unit_of g turn m)
unit_where_not_ended g turn m h alive =
    unit_is g turn m (λ none. can_step_at g m.state m.state.control (calendar m.state).agenda m.left h refl refl alive none)

-- ---- so the run of the relation is the run of the function

pub only_course : {B : Type 0} (g : Plan B) (turn : TurnFunction B) (k : ℕ) (m n : Course B) → Runs g (OfFunction turn) k m n → n ≡ after_units g turn k m
only_course g turn zero m n ran = sym ran
only_course g turn (suc k) m n ran = only_unit g turn ran.0 n ran.2 ∙ ap (unit_of g turn) (only_course g turn k m ran.0 ran.1)

pub some_end : (end : Option End) → end ≢ None → (why : End) × (end ≡ Some why)
some_end None h = absurd (h refl)
some_end (Some why) h = (why, refl)

only_whole : {B : Type 0} (g : Plan B) (turn : TurnFunction B) (units limit : ℕ) (m n : Course B) → units ≤ limit
    → n ≡ after_units g turn units m → (units ≡ limit) ⊎ HasEnded g n → n ≡ after_units g turn limit m
only_whole g turn units limit m n within is (inl all) =
    let P : ℕ → Type 0 = λ k. n ≡ after_units g turn k m in
    subst P all is
only_whole g turn units limit m n within is (inr ended) =
    let end = some_end (end_of g n) ended in
    let P : Course _ → Type 0 = λ c. end_of g c ≡ Some end.0 in
    let Q : ℕ → Type 0 = λ k. n ≡ after_units g turn k m in
    let more : units + (limit - units) ≡ limit = omega (arith, within) in
    subst Q more (is ∙ sym (ended_stays_on g turn m units end.0 (subst P is end.1) (limit - units)))

pub only_run : {B : Type 0} (g : Plan B) (turn : TurnFunction B) (journal : List Arrival) (limit : ℕ) (n : Course B)
    → IsRun g (OfFunction turn) journal limit n → n ≡ run g turn journal limit
only_run g turn journal limit n r =
    only_whole g turn r.units limit (opening_course g journal) n r.within (only_course g turn r.units (opening_course g journal) n r.ran) r.whole

-- Where a kernel stands says how its machine stands: whether nothing is being done, what is due, and how a run has ended.
use Rattle.std.proofs.Common.{◌≡◌, List, [], ◌∷◌, length, Bool, true, false, Some, None, refl, ap, ◌∙◌, sym, arith}
use Rattle.std.specs.Prelude.{nat_le, is_none, ◌||◌, if◌then◌else◌}
use Rattle.std.proofs.lemmas.Bool.{false≢true}
use Rattle.std.proofs.lemmas.List.Sorted.{length_permutation}
use Rattle.sim_types.specs.declared.event.Entry.{Entry}
use Rattle.sim_types.specs.declared.line.End.{End}
use Rattle.sim_types.specs.declared.setup.Arrival.{Arrival}
use Rattle.sim_machine.specs.State.{Control, Idle, Calling, Active, Over, State, Plan}
use Rattle.sim_machine.specs.Agenda.{due}
use Rattle.sim_machine.specs.Effect.{calendar}
use Rattle.sim_machine.specs.Units.{due_arrival}
use Rattle.sim_machine.specs.Runs.{empty_end, end_by}
use Rattle.sim_steps_model.specs.PartsOf.{PartsOf}
use Rattle.sim_steps_model.specs.Resting.{rest_of, rest_in}
use Rattle.sim_steps_model.specs.StandsFor.{StandsFor}
use Rattle.sim_steps_model.specs.declared.mode.Rest.TheVariants as rest

-- nothing is being done, and whether no event is due
pub record StandsIdle {B : Type 0} (s : State B) (none_due : Bool) : Type 0 where
  pub control : Idle ≡ s.control
  pub agenda : is_none (due (calendar s).agenda) ≡ none_due

entry_due : (kept agenda : List Entry) (x : Entry) (more : List Entry) → kept ≡ x ∷ more → length kept ≡ length agenda → is_none (due agenda) ≡ false
entry_due kept [] x more is same = absurd (omega (arith, ap length is, same))
entry_due kept (y ∷ ys) x more is same = refl

none_is_due : (kept agenda : List Entry) → kept ≡ [] → length kept ≡ length agenda → is_none (due agenda) ≡ true
none_is_due kept [] is same = refl
none_is_due kept (y ∷ ys) is same = absurd (omega (arith, ap length is, same))

idle_by_parts : {B : Type 0} (c : Control) (kept agenda : List Entry) (s : State B) → c ≡ s.control → length kept ≡ length agenda
    → agenda ≡ (calendar s).agenda → rest_of c kept ≡ rest.Idle → StandsIdle s false
idle_by_parts Idle [] agenda s c same a h = absurd (cc)
idle_by_parts Idle (x ∷ kept) agenda s c same a h = record { control = c; agenda = ap (λ es. is_none (due es)) (sym a) ∙ entry_due (x ∷ kept) agenda x kept refl same }
idle_by_parts (Calling e left) kept agenda s c same a h = absurd (cc)
idle_by_parts (Active e left p told) kept agenda s c same a h = absurd (cc)
idle_by_parts (Over why e left) kept agenda s c same a h = absurd (cc)

empty_by_parts : {B : Type 0} (c : Control) (kept agenda : List Entry) (s : State B) → c ≡ s.control → length kept ≡ length agenda
    → agenda ≡ (calendar s).agenda → rest_of c kept ≡ rest.Empty → StandsIdle s true
empty_by_parts Idle [] agenda s c same a h = record { control = c; agenda = ap (λ es. is_none (due es)) (sym a) ∙ none_is_due [] agenda refl same }
empty_by_parts Idle (x ∷ kept) agenda s c same a h = absurd (cc)
empty_by_parts (Calling e left) kept agenda s c same a h = absurd (cc)
empty_by_parts (Active e left p told) kept agenda s c same a h = absurd (cc)
empty_by_parts (Over why e left) kept agenda s c same a h = absurd (cc)

module _ {B Code : Type 0} (parts : PartsOf B Code) (s : State B) (stands : StandsFor parts s) where
  as_many : length parts.shared.happen.agenda ≡ length (calendar s).agenda
  as_many = (length_permutation (calendar s).agenda parts.shared.happen.agenda stands.facilities.calendar.agenda)

  pub stands_idle : rest_in parts ≡ rest.Idle → StandsIdle s false
  stands_idle h = idle_by_parts parts.control parts.shared.happen.agenda (calendar s).agenda s stands.control as_many refl h

  pub stands_empty : rest_in parts ≡ rest.Empty → StandsIdle s true
  stands_empty h = empty_by_parts parts.control parts.shared.happen.agenda (calendar s).agenda s stands.control as_many refl h

-- ---- what comes next

-- an entry is due where as many events were processed as it says, or none is due
pub due_where : {B : Type 0} (s : State B) (none_due : Bool) (a : Arrival) (later : List Arrival) (b : Bool) → StandsIdle s none_due
    → (nat_le a.after s.processed || none_due) ≡ b → due_arrival s (a ∷ later) ≡ (if b then Some a else None)
due_where s none_due a later b h is = rw (← h.control) (rw (h.agenda, is) refl)

-- and where one is, the run has not ended
pub waits_on : {B : Type 0} (g : Plan B) (s : State B) (a : Arrival) (later : List Arrival) (agenda : List Entry) → Idle ≡ s.control
    → agenda ≡ (calendar s).agenda → end_by g s.control agenda (a ∷ later) ≡ None
waits_on g s a later [] c is = rw (← c) refl
waits_on g s a later (x ∷ agenda) c is = rw (← c) refl

pub goes_on_idle : {B : Type 0} (g : Plan B) (s : State B) (left : List Arrival) (agenda : List Entry) → Idle ≡ s.control
    → is_none (due agenda) ≡ false → end_by g s.control agenda left ≡ None
goes_on_idle g s left [] c is = absurd (cc)
goes_on_idle g s left (x ∷ agenda) c is = rw (← c) refl

-- while an event is processed nothing is due
pub busy_waits : {B : Type 0} (c : Control) (kept : List Entry) (s : State B) (left : List Arrival) → c ≡ s.control → rest_of c kept ≡ rest.Busy
    → due_arrival s left ≡ None
busy_waits c kept s [] is busy = refl
busy_waits Idle [] s (a ∷ left) is busy = absurd (cc)
busy_waits Idle (x ∷ kept) s (a ∷ left) is busy = absurd (cc)
busy_waits (Calling e calls) kept s (a ∷ left) is busy = rw (← is) refl
busy_waits (Active e calls p told) kept s (a ∷ left) is busy = rw (← is) refl
busy_waits (Over why e calls) kept s (a ∷ left) is busy = absurd (cc)

-- ---- how a machine that stands so has ended

pub over_end : {B : Type 0} (g : Plan B) (c : Control) (kept agenda : List Entry) (left : List Arrival) (why : End) → rest_of c kept ≡ rest.Over why
    → end_by g c agenda left ≡ Some why
over_end g Idle [] agenda left why h = absurd (cc)
over_end g Idle (x ∷ kept) agenda left why h = absurd (cc)
over_end g (Calling e calls) kept agenda left why h = absurd (cc)
over_end g (Active e calls p told) kept agenda left why h = absurd (cc)
over_end g (Over how e calls) kept agenda left why h = ap Some cc

pub busy_end : {B : Type 0} (g : Plan B) (c : Control) (kept agenda : List Entry) (left : List Arrival) → rest_of c kept ≡ rest.Busy
    → end_by g c agenda left ≡ None
busy_end g Idle [] agenda left h = absurd (cc)
busy_end g Idle (x ∷ kept) agenda left h = absurd (cc)
busy_end g (Calling e calls) kept agenda left h = refl
busy_end g (Active e calls p told) kept agenda left h = refl
busy_end g (Over how e calls) kept agenda left h = absurd (cc)

pub empty_has_ended : {B : Type 0} (g : Plan B) (s : State B) (agenda : List Entry) → Idle ≡ s.control → is_none (due agenda) ≡ true
    → end_by g s.control agenda [] ≡ Some (empty_end g.setup.until)
empty_has_ended g s [] c none = rw (← c) refl
empty_has_ended g s (x ∷ agenda) c none = absurd (false≢true none)

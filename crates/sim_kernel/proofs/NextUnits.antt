-- What comes next in a walk says how its machine stands.
use Rattle.std.proofs.Common.{◌≡◌, ◌≤◌, inl, inr, ℕ, ◌-◌, List, [], ◌∷◌, length, take, drop, Bool, true, false, Option, Some, None, refl, sym, ap, ◌∙◌, arith}
use Rattle.std.specs.Prelude.{nat_le, ◌||◌, if◌then◌else◌}
use Rattle.std.proofs.lemmas.Bool.Decides.{nat_tests}
use Rattle.std.proofs.lemmas.List.{take_all}
use Rattle.std.proofs.lemmas.Option.{none-some}
use Rattle.sim_types.specs.declared.line.End.{End}
use Rattle.sim_types.specs.declared.setup.Arrival.{Arrival}
use Rattle.sim_machine.specs.State.{Plan}
use Rattle.sim_machine.specs.Bodies.{BodyOf}
use Rattle.sim_machine.specs.Effect.{calendar}
use Rattle.sim_machine.specs.Runs.{HasEnded, empty_end, end_of}
use Rattle.sim_machine.specs.Units.{Course, due_arrival}
use Rattle.sim_steps_model.specs.PartsOf.{PartsOf, plan_of}
use Rattle.sim_steps_model.specs.Resting.{can_arrive, can_step, rest_in}
use Rattle.sim_steps_model.specs.declared.mode.Rest.{Rest}
use Rattle.sim_steps_model.specs.declared.mode.Rest.TheVariants as rest
use Rattle.sim_kernel.specs.Walks.{WalkOf, StandsAt, IsOver}
use Rattle.sim_kernel.specs.Walking.{next_of, next_in}
use Rattle.sim_kernel.specs.declared.walk.Next.TheVariants as next
use Rattle.sim_kernel.proofs.RestingMachines.{stands_idle, stands_empty, due_where, waits_on, goes_on_idle, busy_waits, over_end, busy_end, empty_has_ended}

-- ---- by what comes next

late_by : (b : Bool) (a : Arrival) → (if b then next.Arrival a else next.Step) ≡ next.Step → b ≡ false
late_by true a h = absurd (cc)
late_by false a h = refl

early_by : (b : Bool) (a x : Arrival) → (if b then next.Arrival a else next.Step) ≡ next.Arrival x → (b ≡ true) × (a ≡ x)
early_by true a x h = (refl, cc)
early_by false a x h = absurd (cc)

never_by : (b : Bool) (a : Arrival) → (if b then next.Arrival a else next.Step) ≡ next.End → ⊥
never_by true a h = absurd (cc)
never_by false a h = absurd (cc)

-- units are left, and a step can be made
pub step_can : (spent : Bool) (r : Rest) (processed : ℕ) (left : List Arrival) → next_of spent r processed left ≡ next.Step
    → (spent ≡ false) × (can_step r ≡ true)
step_can true r processed left h = absurd (cc)
step_can false rest.Busy processed left h = (refl, refl)
step_can false rest.Idle processed left h = (refl, refl)
step_can false rest.Empty processed [] h = absurd (cc)
step_can false rest.Empty processed (a ∷ left) h = absurd (cc)
step_can false (rest.Over why) processed left h = absurd (cc)

-- units are left, something may arrive, and this is the first that is left
pub arrival_can : (spent : Bool) (r : Rest) (processed : ℕ) (left : List Arrival) (a : Arrival) → next_of spent r processed left ≡ next.Arrival a
    → (spent ≡ false) × (can_arrive r ≡ true) × (left ≡ a ∷ drop 1 left)
arrival_can true r processed left a h = absurd (cc)
arrival_can false rest.Busy processed left a h = absurd (cc)
arrival_can false rest.Idle processed [] a h = absurd (cc)
arrival_can false rest.Idle processed (x ∷ left) a h = (refl, refl, ap (λ y. y ∷ left) (early_by (nat_le x.after processed) x a h).1)
arrival_can false rest.Empty processed [] a h = absurd (cc)
arrival_can false rest.Empty processed (x ∷ left) a h = (refl, refl, ap (λ y. y ∷ left) cc)
arrival_can false (rest.Over why) processed left a h = absurd (cc)

-- all but the first
pub rest_is : (left : List Arrival) → take (length left - 1) (drop 1 left) ≡ drop 1 left
rest_is [] = refl
rest_is (a ∷ left) = take_all _ left (omega arith)

-- ---- at a course

-- the run has not ended, and this arrives next, if anything does
pub record GoesOnWith {B : Type 0} (g : Plan B) (m : Course B) (next : Option Arrival) : Type 0 where
  pub goes_on : end_of g m ≡ None
  pub due : due_arrival m.state m.left ≡ next

module _ {B Code : Type 0} (body : BodyOf B Code) (w : WalkOf B Code) (m : Course B) (h : StandsAt body w m) where
  abbrev parts : PartsOf B Code
  parts = w.kernel.parts

  abbrev g : Plan B
  g = plan_of body parts

  pub busy_goes_on : rest_in parts ≡ rest.Busy → GoesOnWith g m None
  busy_goes_on is =
      record {
        goes_on = rw (← h.stands.control) (busy_end g parts.control parts.shared.happen.agenda (calendar m.state).agenda m.left is);
        due = busy_waits parts.control parts.shared.happen.agenda m.state m.left h.stands.control is;
      }

  step_by : (spent : Bool) (r : Rest) (left : List Arrival) → rest_in parts ≡ r → m.left ≡ left
      → next_of spent r parts.processed left ≡ next.Step → GoesOnWith g m None
  step_by true r left is same k = absurd (cc)
  step_by false rest.Busy left is same k = busy_goes_on is
  step_by false rest.Idle [] is same k =
      let idle = stands_idle parts m.state h.stands is in
      record {
        goes_on = goes_on_idle g m.state m.left (calendar m.state).agenda idle.control idle.agenda;
        due = ap (due_arrival m.state) same;
      }
  step_by false rest.Idle (a ∷ left) is same k =
      let idle = stands_idle parts m.state h.stands is in
      let late : nat_le a.after m.state.processed ≡ false = ap (nat_le a.after) (sym h.stands.processed) ∙ late_by (nat_le a.after parts.processed) a k in
      record {
        goes_on = goes_on_idle g m.state m.left (calendar m.state).agenda idle.control idle.agenda;
        due = ap (due_arrival m.state) same ∙ due_where m.state false a left false idle (rw late refl);
      }
  step_by false rest.Empty [] is same k = absurd (cc)
  step_by false rest.Empty (a ∷ left) is same k = absurd (cc)
  step_by false (rest.Over why) left is same k = absurd (cc)

  pub step_is_next : next_in w ≡ next.Step → GoesOnWith g m None
  step_is_next k = step_by (nat_le w.limit w.kernel.units) (rest_in parts) w.left refl h.left k

  arrival_by : (spent : Bool) (r : Rest) (left : List Arrival) (a : Arrival) → rest_in parts ≡ r → m.left ≡ left
      → next_of spent r parts.processed left ≡ next.Arrival a → GoesOnWith g m (Some a)
  arrival_by true r left a is same k = absurd (cc)
  arrival_by false rest.Busy left a is same k = absurd (cc)
  arrival_by false rest.Idle [] a is same k = absurd (cc)
  arrival_by false rest.Idle (x ∷ left) a is same k =
      let idle = stands_idle parts m.state h.stands is in
      let early = early_by (nat_le x.after parts.processed) x a k in
      let due : nat_le x.after m.state.processed ≡ true = ap (nat_le x.after) (sym h.stands.processed) ∙ early.0 in
      record {
        goes_on = rw same (waits_on g m.state x left (calendar m.state).agenda idle.control refl);
        due = ap (due_arrival m.state) same ∙ (due_where m.state false x left true idle (rw due refl) ∙ ap Some early.1);
      }
  arrival_by false rest.Empty [] a is same k = absurd (cc)
  arrival_by false rest.Empty (x ∷ left) a is same k =
      let idle = stands_empty parts m.state h.stands is in
      let first : x ≡ a = cc in
      record {
        goes_on = rw same (waits_on g m.state x left (calendar m.state).agenda idle.control refl);
        due = ap (due_arrival m.state) same ∙ (due_where m.state true x left true idle (either_true (nat_le x.after m.state.processed)) ∙ ap Some first);
      }
    where
      either_true : (b : Bool) → (b || true) ≡ true
      either_true true = refl
      either_true false = refl
  arrival_by false (rest.Over why) left a is same k = absurd (cc)

  pub arrival_is_next : (a : Arrival) → next_in w ≡ next.Arrival a → GoesOnWith g m (Some a)
  arrival_is_next a k = arrival_by (nat_le w.limit w.kernel.units) (rest_in parts) w.left a refl h.left k

  ended_by : (how : End) → end_of g m ≡ Some how → HasEnded g m
  ended_by how is none = none-some how (sym none ∙ is)

  end_by : (r : Rest) (left : List Arrival) → rest_in parts ≡ r → m.left ≡ left → next_of false r parts.processed left ≡ next.End → HasEnded g m
  end_by rest.Busy left is same k = absurd (cc)
  end_by rest.Idle [] is same k = absurd (cc)
  end_by rest.Idle (a ∷ left) is same k = absurd (never_by (nat_le a.after parts.processed) a k)
  end_by rest.Empty [] is same k =
      let idle = stands_empty parts m.state h.stands is in
      ended_by (empty_end g.setup.until) (rw same (empty_has_ended g m.state (calendar m.state).agenda idle.control idle.agenda))
  end_by rest.Empty (a ∷ left) is same k = absurd (cc)
  end_by (rest.Over why) left is same k =
      ended_by why (rw (← h.stands.control) (over_end g parts.control parts.shared.happen.agenda (calendar m.state).agenda m.left why is))

-- where nothing comes next, the walk makes no more units
pub end_is_next : {B Code : Type 0} (body : BodyOf B Code) (w : WalkOf B Code) → w.kernel.units ≤ w.limit → next_in w ≡ next.End → IsOver body w
end_is_next body w within k = by (nat_le w.limit w.kernel.units) refl k
  where
    by : (spent : Bool) → nat_le w.limit w.kernel.units ≡ spent → next_of spent (rest_in w.kernel.parts) w.kernel.parts.processed w.left ≡ next.End
        → IsOver body w
    by true is h = inl (grind (arith, nat_tests, within, is))
    by false is h = inr (λ m stands. end_by body w m stands (rest_in w.kernel.parts) w.left refl stands.left h)

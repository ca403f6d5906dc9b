-- The units of a run between two moments at which nothing is being done.
use Rattle.std.proofs.Common.{◌≡◌, ◌<◌, ℕ, zero, suc, ◌+◌, List, [], ◌∷◌, true, None, refl, sym, ap, ◌∙◌, subst, arith, add-zero}
use Rattle.std.proofs.Math.Nat.{add-suc}
use Rattle.std.proofs.lemmas.Bool.{false≢true}
use Rattle.sim_types.specs.declared.setup.Arrival.{Arrival}
use Rattle.sim_machine.specs.State.{Control, Idle, Calling, Active, Over, State}
use Rattle.sim_machine.specs.Steps.{step_of}
use Rattle.sim_machine.specs.Units.{Course, due_arrival, unit_of}
use Rattle.sim_machine.specs.Runs.{end_of}
use Rattle.sim_machine_law.specs.Courses.{Run, course_after}
use Rattle.sim_script_model.specs.Scripts.{Script}
use Rattle.sim_engine.specs.Sessions.{steps, is_processing}

-- where nothing is due, the unit is a step
step_where : (r : Run Script) (m : Course Script) → due_arrival m.state m.left ≡ None
    → unit_of r.plan r.turn m ≡ record { state = step_of r.plan r.turn m.state; left = m.left }
step_where r m none = rw none refl

-- while an event is processed nothing is due, and the run has not ended
busy_waits : (c : Control) (s : State Script) (left : List Arrival) → c ≡ s.control → is_processing c ≡ true → due_arrival s left ≡ None
busy_waits c s [] is busy = refl
busy_waits Idle s (a ∷ left) is busy = absurd (false≢true busy)
busy_waits (Calling e calls) s (a ∷ left) is busy = rw (← is) refl
busy_waits (Active e calls p told) s (a ∷ left) is busy = rw (← is) refl
busy_waits (Over why e calls) s (a ∷ left) is busy = absurd (false≢true busy)

pub busy_goes_on : (r : Run Script) (c : Control) (m : Course Script) → c ≡ m.state.control → is_processing c ≡ true → end_of r.plan m ≡ None
busy_goes_on r Idle m is busy = absurd (false≢true busy)
busy_goes_on r (Calling e calls) m is busy = rw (← is) refl
busy_goes_on r (Active e calls p told) m is busy = rw (← is) refl
busy_goes_on r (Over why e calls) m is busy = absurd (false≢true busy)

module _ (r : Run Script) (n : ℕ) where
  abbrev now : Course Script
  now = course_after r n

  -- nothing is due now, and an event is processed all the while until the last of so many units
  abbrev pub IsTurn : ℕ → Type 0
  IsTurn k = (i : ℕ) → 0 < i → i < k → is_processing (steps r.plan r.turn i now.state).control ≡ true

  abbrev stepped : ℕ → Course Script
  stepped k = record { state = steps r.plan r.turn k now.state; left = now.left }

  waits_at : (i : ℕ) → due_arrival now.state now.left ≡ None → (0 < i → is_processing (steps r.plan r.turn i now.state).control ≡ true)
      → due_arrival (steps r.plan r.turn i now.state) now.left ≡ None
  waits_at zero none busy = none
  waits_at (suc i) none busy = busy_waits _ (steps r.plan r.turn (suc i) now.state) now.left refl (busy (omega arith))

  -- so many units are so many steps
  pub units_are_steps : (k : ℕ) → due_arrival now.state now.left ≡ None → IsTurn k → course_after r (n + k) ≡ stepped k
  units_are_steps zero none busy = rw add-zero refl
  units_are_steps (suc k) none busy =
      rw add-suc
      (ap (unit_of r.plan r.turn) (units_are_steps k none (λ i from below. busy i from (omega (arith, below))))
      ∙ step_where r (stepped k) (waits_at k none (λ from. busy k from (omega arith))))

  -- and the run has not ended before the last of them
  goes_on_at : (i : ℕ) → end_of r.plan now ≡ None → (0 < i → is_processing (steps r.plan r.turn i now.state).control ≡ true)
      → end_of r.plan (stepped i) ≡ None
  goes_on_at zero none busy = none
  goes_on_at (suc i) none busy = busy_goes_on r _ (stepped (suc i)) refl (busy (omega arith))

  pub under_way_for : (k : ℕ) → due_arrival now.state now.left ≡ None → end_of r.plan now ≡ None → IsTurn k
      → (i : ℕ) → i < k → end_of r.plan (course_after r (n + i)) ≡ None
  under_way_for k none on busy i below =
      subst (λ m. end_of r.plan m ≡ None) (sym (units_are_steps i none (λ j from within. busy j from (omega (arith, below, within)))))
      (goes_on_at i on (λ from. busy i from below))

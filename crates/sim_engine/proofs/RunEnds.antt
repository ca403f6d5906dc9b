-- Where nothing comes next, the session tells what the whole run comes to.
use Rattle.std.proofs.Common.{◌≡◌, ◌≤◌, ◌<◌, ◌⊎◌, inl, inr, ℕ, List, [], ◌∷◌, length, Bool, true, false, Option, Some, None, refl, sym, ap, ◌∙◌, subst, arith}
use Rattle.std.specs.Prelude.{nat_le, if◌then◌else◌, unwrap_or}
use Rattle.std.proofs.lemmas.Bool.{false≢true}
use Rattle.std.proofs.lemmas.Bool.Decides.{nat_tests}
use Rattle.std.proofs.lemmas.Option.{none-some}
use Rattle.sim_types.specs.Scenarios.{ScenarioOf}
use Rattle.sim_types.specs.declared.line.End.{End}
use Rattle.sim_types.specs.declared.line.End.TheVariants as end
use Rattle.sim_types.specs.declared.setup.Arrival.{Arrival}
use Rattle.sim_machine.specs.State.{Idle}
use Rattle.sim_machine.specs.Effect.{calendar}
use Rattle.sim_machine.specs.Units.{Course}
use Rattle.sim_machine.specs.Runs.{HasEnded, empty_end, end_by, end_of}
use Rattle.sim_machine_law.specs.Courses.{Run, course_after}
use Rattle.sim_machine_law.proofs.RunLaws.MadeUnits.{made_where, stays_where}
use Rattle.sim_steps_model.specs.Resting.{rest_in, can_arrive}
use Rattle.sim_steps_model.specs.declared.mode.Rest.{Rest}
use Rattle.sim_steps_model.specs.declared.mode.Rest.TheVariants as rest
use Rattle.sim_script_model.specs.Scripts.{Script}
use Rattle.sim_script_model.specs.Scenarios.{summary}
use Rattle.sim_script_law.specs.ScenarioRuns.{run_of}
use Rattle.sim_engine.specs.RunOfScenario.{units_of}
use Rattle.sim_engine.specs.Sessions.{SessionOf, turn_of, IsSettled, end_in, report_of}
use Rattle.sim_engine.specs.Rounds.{next_of, IsRefused, StandsInRun}
use Rattle.sim_engine.specs.declared.runs.Next.TheVariants as next
use Rattle.sim_engine.specs.declared.session.Turn.TheVariants as turn
use Rattle.sim_kernel.proofs.RestingMachines.{stands_idle, stands_empty, waits_on, goes_on_idle, over_end, busy_end, empty_has_ended}

-- ---- where nothing comes next

spent_by : (b : Bool) (processed : ℕ) (left : List Arrival) → next_of (if b then turn.Over end.Limit else turn.Idle) processed left ≡ next.End → b ≡ true
spent_by true processed left h = refl
spent_by false processed [] h = absurd (cc)
spent_by false processed (a ∷ left) h = absurd (late (nat_le a.after processed) h)
  where
    late : (b : Bool) → (if b then next.Arrival a else next.Turn) ≡ next.End → ⊥
    late true k = absurd (cc)
    late false k = absurd (cc)

none_left : (processed : ℕ) (left : List Arrival) → next_of turn.Empty processed left ≡ next.End → left ≡ []
none_left processed [] h = refl
none_left processed (a ∷ left) h = absurd (cc)

module _ (s : ScenarioOf) (seed : ℕ) (journal left : List Arrival) (x : SessionOf) (h : StandsInRun s seed journal left x) where
  abbrev r : Run Script
  r = run_of s seed journal

  abbrev m : Course Script
  m = course_after r x.units

  -- how it ended, if it did, and that all units are made
  record EndsSo : Type 0 where
    how : Option End
    ends : end_of r.plan m ≡ how
    told : end_in x ≡ unwrap_or how end.Limit
    whole : (x.units ≡ x.limit) ⊎ ((why : End) × (how ≡ Some why))

  idle_at : can_arrive (rest_in x.parts) ≡ true → Idle ≡ m.state.control
  idle_at waits = by (rest_in x.parts) refl waits
    where
      by : (q : Rest) → rest_in x.parts ≡ q → can_arrive q ≡ true → Idle ≡ m.state.control
      by rest.Busy is k = absurd (false≢true k)
      by rest.Idle is k = (stands_idle x.parts m.state h.at.stands is).control
      by rest.Empty is k = (stands_empty x.parts m.state h.at.stands is).control
      by (rest.Over why) is k = absurd (false≢true k)

  refused_end : IsRefused x left → end_of r.plan m ≡ None
  refused_end refused = rw h.left_is (by left refused.some_left)
    where
      by : (ls : List Arrival) → 0 < length ls → end_by r.plan m.state.control (calendar m.state).agenda ls ≡ None
      by [] some = absurd (omega (arith, some))
      by (a ∷ ls) some = waits_on r.plan m.state a ls (calendar m.state).agenda (idle_at refused.waits) refl

  ends_at : (b : Bool) (q : Rest) → x.refused ≡ b → rest_in x.parts ≡ q → x.units ≤ x.limit → IsSettled x
      → next_of (turn_of x) x.parts.processed left ≡ next.End → EndsSo
  ends_at true q refused is within settled none =
      let why = h.refused refused in
      record { how = None; ends = refused_end why; told = rw refused refl; whole = inl why.spent }
  ends_at false rest.Busy refused is within settled none =
      record {
        how = None;
        ends = rw (← h.at.stands.control) (busy_end r.plan x.parts.control x.parts.shared.happen.agenda (calendar m.state).agenda m.left is);
        told = rw refused (rw is refl);
        whole = inl (settled (rw is refl));
      }
  ends_at false rest.Idle refused is within settled none =
      let idle = stands_idle x.parts m.state h.at.stands is in
      let turns : turn_of x ≡ (if nat_le x.limit x.units then turn.Over end.Limit else turn.Idle) = rw refused (rw is refl) in
      let spent = spent_by (nat_le x.limit x.units) x.parts.processed left (subst (λ t. next_of t x.parts.processed left ≡ next.End) turns none) in
      record {
        how = None;
        ends = goes_on_idle r.plan m.state m.left (calendar m.state).agenda idle.control idle.agenda;
        told = rw refused (rw is refl);
        whole = inl (grind (arith, nat_tests, spent, within));
      }
  ends_at false rest.Empty refused is within settled none =
      let idle = stands_empty x.parts m.state h.at.stands is in
      let turns : turn_of x ≡ turn.Empty = rw refused (rw is refl) in
      let nothing = none_left x.parts.processed left (subst (λ t. next_of t x.parts.processed left ≡ next.End) turns none) in
      record {
        how = Some (empty_end s.setup.until);
        ends = rw (h.left_is ∙ nothing) (empty_has_ended r.plan m.state (calendar m.state).agenda idle.control idle.agenda);
        told = rw refused (rw is (rw h.setup refl));
        whole = inr (empty_end s.setup.until, refl);
      }
  ends_at false (rest.Over why) refused is within settled none =
      record {
        how = Some why;
        ends = rw (← h.at.stands.control) (over_end r.plan x.parts.control x.parts.shared.happen.agenda (calendar m.state).agenda m.left why is);
        told = rw refused (rw is refl);
        whole = inr (why, refl);
      }

  module _ (within : x.units ≤ x.limit) (settled : IsSettled x) (none : next_of (turn_of x) x.parts.processed left ≡ next.End) where
    ends : EndsSo
    ends = ends_at x.refused (rest_in x.parts) refl refl within settled none

    pub whole : (x.units ≡ x.limit) ⊎ HasEnded r.plan m
    whole = by ends.whole
      where
        by : (x.units ≡ x.limit) ⊎ ((why : End) × (ends.how ≡ Some why)) → (x.units ≡ x.limit) ⊎ HasEnded r.plan m
        by (inl all) = inl all
        by (inr over) = inr (λ on. none-some over.0 (sym on ∙ ends.ends ∙ over.1))

    -- the run stays as it is
    pub stays_whole : course_after r x.limit ≡ m
    stays_whole = stays_where r.plan r.turn journal x.limit x.units within h.under_way whole

    pub summary_is : (report_of x).summary ≡ summary s seed journal x.limit
    summary_is =
        let told : end_in x ≡ unwrap_or (end_of r.plan m) end.Limit = ends.told ∙ ap (λ o. unwrap_or o end.Limit) (sym ends.ends) in
        rw stays_whole (rw (told, h.at.stands.facilities.calendar.time, h.at.stands.processed, h.at.logs, h.at.total) refl)

    -- no unit was made after the end, and none is left out
    pub units_are : x.units ≡ units_of s seed journal x.limit
    units_are = sym (made_where r.plan r.turn journal x.limit x.units within h.under_way whole)

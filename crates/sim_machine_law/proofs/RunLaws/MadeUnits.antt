-- How many units a run makes: all before which it has not ended.
use Rattle.std.proofs.Common.{◌≡◌, ◌≢◌, ◌≤◌, ◌<◌, ◌-◌, ◌⊎◌, inl, inr, List, [], ◌∷◌, Option, Some, None, refl, sym, subst, ap, ◌∙◌, ℕ, zero, suc, ◌+◌, Bool, true, false, ◌&&◌, ◌||◌, if◌then◌else◌, arith}
use Rattle.std.specs.Prelude.{is_none, nat_le}
use Rattle.std.proofs.lemmas.Option.{none-some}
use Rattle.std.proofs.lemmas.Bool.{cases_eq}
use Rattle.sim_types.specs.declared.event.Entry.{Entry}
use Rattle.sim_types.specs.declared.line.End.{End}
use Rattle.sim_types.specs.declared.setup.Arrival.{Arrival}
use Rattle.sim_machine.specs.State.{Control, Idle, Calling, Active, Over, Plan}
use Rattle.sim_machine.specs.Agenda.{due}
use Rattle.sim_machine.specs.Effect.{calendar}
use Rattle.sim_machine.specs.Steps.{TurnFunction, IsPop, IsStepAt, IsStep}
use Rattle.sim_machine.specs.Units.{Course, is_idle, IsUnit, IsUnitAt, due_arrival}
use Rattle.sim_machine.specs.Runs.{end_of, end_by, opening_course, run, Runs, HasEnded, IsRun, units_made}
use Rattle.sim_machine_law.specs.Courses.{OfFunction}
use Rattle.sim_machine_law.proofs.RunLaws.UnitLaws.{ended_stays, ended_stays_on, only_course}

module _ {B : Type 0} (g : Plan B) (turn : TurnFunction B) (journal : List Arrival) where
  -- the run of so many units at most, and whether it goes on
  abbrev course : ℕ → Course B
  course k = run g turn journal k

  abbrev GoesOn : ℕ → Type 0
  GoesOn k = end_of g (course k) ≡ None

  some_end : (end : Option End) → end ≢ None → (why : End) × (end ≡ Some why)
  some_end None h = absurd (h refl)
  some_end (Some why) h = (why, refl)

  -- a run that goes on after more units goes on after fewer
  went_on : (j k : ℕ) → j ≤ k → GoesOn k → GoesOn j
  went_on j k less on = by_end (end_of g (course j)) refl
    where
      by_end : (o : Option End) → end_of g (course j) ≡ o → GoesOn j
      by_end None is = is
      by_end (Some why) is =
          let more : j + (k - j) ≡ k = omega (arith, less) in
          let same : course k ≡ course j = subst (λ (n : ℕ). course n ≡ course j) more (ended_stays_on g turn (opening_course g journal) j why is (k - j)) in
          absurd (none-some why (sym on ∙ ap (end_of g) same ∙ is))

  -- all units are made where the run goes on
  all_made : (k : ℕ) → ((j : ℕ) → j < k → GoesOn j) → units_made g turn journal k ≡ k
  all_made zero on = refl
  all_made (suc k) on =
      ap (λ (o : Option End). if is_none o then suc (units_made g turn journal k) else units_made g turn journal k) (on k (omega arith)) ∙ ap (λ (n : ℕ). suc n) (all_made k (λ j below. on j (omega (arith, below))))

  -- and no unit after the end
  made_to_end : (units limit : ℕ) → units ≤ limit → ((j : ℕ) → j < units → GoesOn j) → HasEnded g (course units) → units_made g turn journal limit ≡ units
  made_to_end units zero within on ended = sym (none_left units within)
    where
      none_left : (n : ℕ) → n ≤ zero → n ≡ zero
      none_left n h = omega (arith, h)
  made_to_end units (suc limit) within on ended = by_size (cases_eq units (suc limit)) (λ less. made_to_end units limit less on ended)
    where
      by_size : (units ≡ suc limit) ⊎ (units ≡ suc limit → ⊥) → (units ≤ limit → units_made g turn journal limit ≡ units) →
          units_made g turn journal (suc limit) ≡ units
      by_size (inl all) fewer = subst (λ (n : ℕ). units_made g turn journal n ≡ units) all (all_made units on)
      by_size (inr differ) fewer =
          let less : units ≤ limit = omega (arith, within, differ) in
          let over = some_end (end_of g (course limit)) (λ goes_on. ended (went_on units limit less goes_on)) in
          ap (λ (o : Option End). if is_none o then suc (units_made g turn journal limit) else units_made g turn journal limit) over.1 ∙ fewer less

  -- ---- the number of units

  pub made_at_most : (limit : ℕ) → units_made g turn journal limit ≤ limit
  made_at_most zero = omega arith
  made_at_most (suc limit) = one_more (is_none (end_of g (course limit))) (units_made g turn journal limit) (made_at_most limit)
    where
      one_more : (b : Bool) (n : ℕ) → n ≤ limit → (if b then suc n else n) ≤ suc limit
      one_more true n h = omega (arith, h)
      one_more false n h = omega (arith, h)

  -- the run comes to the same where it is told how many units it makes
  record IsWhole (limit units : ℕ) : Type 0 where
    same : course units ≡ course limit
    on : (j : ℕ) → j < units → GoesOn j
    whole : (units ≡ limit) ⊎ HasEnded g (course limit)

  is_whole : (limit : ℕ) → IsWhole limit (units_made g turn journal limit)
  is_whole zero = record { same = refl; on = λ j below. absurd (none_below j below); whole = inl refl }
    where
      none_below : (j : ℕ) → j < zero → ⊥
      none_below j below = omega arith
  is_whole (suc limit) = by_end (end_of g (course limit)) refl (is_whole limit)
    where
      by_end : (o : Option End) → end_of g (course limit) ≡ o → IsWhole limit (units_made g turn journal limit) →
          IsWhole (suc limit) (if is_none o then suc (units_made g turn journal limit) else units_made g turn journal limit)
      by_end None is before =
          let all : units_made g turn journal limit ≡ limit = all_made limit (λ j below. went_on j limit (omega (arith, below)) is) in
          record {
            same = ap (λ (n : ℕ). course (suc n)) all;
            on = λ j below. went_on j limit (omega (arith, all, below)) is;
            whole = inl (ap (λ (n : ℕ). suc n) all);
          }
      by_end (Some why) is before =
          let stays : course (suc limit) ≡ course limit = ended_stays g turn (course limit) why is in
          record {
            same = before.same ∙ sym stays;
            on = before.on;
            whole = inr (λ none. none-some why (sym none ∙ ap (end_of g) stays ∙ is));
          }

  pub made_same : (limit : ℕ) → course (units_made g turn journal limit) ≡ course limit
  made_same limit = (is_whole limit).same

  pub made_on : (limit k : ℕ) → k < units_made g turn journal limit → GoesOn k
  made_on limit k below = (is_whole limit).on k below

  pub made_whole : (limit : ℕ) → (units_made g turn journal limit ≡ limit) ⊎ HasEnded g (course limit)
  made_whole limit = (is_whole limit).whole

  -- ---- a run that comes so far and no further

  -- so many units are made where the run goes on before each of them and then ends, or these are all
  pub made_where : (limit units : ℕ) → units ≤ limit → ((j : ℕ) → j < units → GoesOn j) → (units ≡ limit) ⊎ HasEnded g (course units)
      → units_made g turn journal limit ≡ units
  made_where limit units within on (inl all) = subst (λ (n : ℕ). units_made g turn journal n ≡ units) all (all_made units on)
  made_where limit units within on (inr ended) = made_to_end units limit within on ended

  pub stays_where : (limit units : ℕ) → units ≤ limit → ((j : ℕ) → j < units → GoesOn j) → (units ≡ limit) ⊎ HasEnded g (course units)
      → course limit ≡ course units
  stays_where limit units within on whole = sym (made_same limit) ∙ ap course (made_where limit units within on whole)

-- ---- no unit after the end

module _ {B : Type 0} (g : Plan B) (turn : TurnFunction B) (m n : Course B) where
  no_pop : IsPop m.state n.state → [] ≡ (calendar m.state).agenda → ⊥
  no_pop h empty = none-some h.entry (ap due empty ∙ h.is_due)

  -- no step, where the run is over or nothing is to be popped
  no_step : (c : Control) → c ≡ m.state.control → IsStep g (OfFunction turn) m.state n.state → (IsStepAt g (OfFunction turn) m.state n.state c → ⊥) → ⊥
  no_step c is step none = none (subst (λ (k : Control). IsStepAt g (OfFunction turn) m.state n.state k) (sym is) step)

  no_unit_at : (why : End) (c : Control) (agenda : List Entry) (left : List Arrival) → end_by g c agenda left ≡ Some why → c ≡ m.state.control →
      agenda ≡ (calendar m.state).agenda →
      IsUnitAt g (OfFunction turn) m n (due_arrival m.state left) → ⊥
  no_unit_at why Idle [] [] h c a unit = no_step Idle c unit.0 (λ pop. no_pop pop a)
  no_unit_at why Idle [] (x ∷ left) h c a unit = absurd (none-some why h)
  no_unit_at why Idle (x ∷ agenda) left h c a unit = absurd (none-some why h)
  no_unit_at why (Calling e calls) agenda left h c a unit = absurd (none-some why h)
  no_unit_at why (Active e calls p x) agenda left h c a unit = absurd (none-some why h)
  no_unit_at why (Over w e calls) agenda [] h c a unit = no_step (Over w e calls) c unit.0 (λ none. none)
  no_unit_at why (Over w e calls) agenda (x ∷ left) h c a unit =
      let due_in : Control → Option Arrival = λ k. if is_idle k && (nat_le x.after m.state.processed || is_none (due (calendar m.state).agenda)) then Some x else None in
      let none : due_arrival m.state (x ∷ left) ≡ None = ap due_in (sym c) in
      no_step (Over w e calls) c (subst (λ (o : Option Arrival). IsUnitAt g (OfFunction turn) m n o) none unit).0 (λ over. over)

  -- no unit is made of a run that has ended
  no_unit : (why : End) → end_of g m ≡ Some why → IsUnit g (OfFunction turn) m n → ⊥
  no_unit why h unit = no_unit_at why m.state.control (calendar m.state).agenda m.left h refl refl unit

-- ---- the units of a run of the relation

module _ {B : Type 0} (g : Plan B) (turn : TurnFunction B) (journal : List Arrival) where
  runs_on : (k : ℕ) (n : Course B) → Runs g (OfFunction turn) k (opening_course g journal) n → (j : ℕ) → j < k → end_of g (run g turn journal j) ≡ None
  runs_on zero n ran j below = absurd (omega (arith, below))
  runs_on (suc k) n ran j below = went_on g turn journal j k (omega (arith, below)) (by_end (end_of g ran.0) refl)
    where
      by_end : (o : Option End) → end_of g ran.0 ≡ o → end_of g (run g turn journal k) ≡ None
      by_end None is = ap (end_of g) (sym (only_course g turn k (opening_course g journal) ran.0 ran.1)) ∙ is
      by_end (Some why) is = absurd (no_unit g turn ran.0 n why is ran.2)

  pub units_of_run : (limit : ℕ) (n : Course B) (made : IsRun g (OfFunction turn) journal limit n) → made.units ≡ units_made g turn journal limit
  units_of_run limit n made = by_whole made.whole
    where
      on : (j : ℕ) → j < made.units → end_of g (run g turn journal j) ≡ None
      on = runs_on made.units n made.ran

      by_whole : (made.units ≡ limit) ⊎ HasEnded g n → made.units ≡ units_made g turn journal limit
      by_whole (inl all) = all ∙ sym (all_made g turn journal limit (λ j below. on j (omega (arith, all, below))))
      by_whole (inr ended) =
          let is : n ≡ run g turn journal made.units = only_course g turn made.units (opening_course g journal) n made.ran in
          sym (made_to_end g turn journal made.units limit made.within on (subst (HasEnded g) is ended))

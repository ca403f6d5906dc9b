-- What a hosted run keeps as it opens, by a turn and by an arrival, and where it is over.
use Rattle.std.proofs.Common.{◌≡◌, ◌<◌, ◌≤◌, ◌+◌, ◌-◌, ◌⊎◌, inl, inr, ℕ, length, drop, get_or, true, false, refl, sym, ap, ◌∙◌, subst, arith, length-drop, add-zero}
use Rattle.std.specs.Prelude.{Bool, All, nat_le, nat_lt, if◌then◌else◌}
use Rattle.std.proofs.lemmas.Bool.Decides.{nat_tests}
use Rattle.std.proofs.lemmas.List.{drop-drop, get_or-drop}
use Rattle.std.proofs.lemmas.List.Elements.{All-drop, All-head}
use Rattle.sim_types.specs.Scenarios.{ScenarioOf}
use Rattle.sim_types.specs.declared.line.End.TheVariants as end
use Rattle.sim_types.specs.declared.setup.Arrival.{Arrival}
use Rattle.sim_language.specs.WellFormed.{is_well_formed}
use Rattle.sim_language_law.proofs.Scenarios.PostsOfScenarios.{posts_of_scenario}
use Rattle.sim_machine.specs.Runs.{opening}
use Rattle.sim_machine.specs.Units.{arrive}
use Rattle.sim_steps_model.specs.PartsOf.{plan_of}
use Rattle.sim_steps_model.specs.Resting.{rest_in}
use Rattle.sim_steps_model.specs.declared.mode.Rest.{Rest}
use Rattle.sim_steps_model.specs.declared.mode.Rest.TheVariants as rest
use Rattle.sim_script_law.specs.ScriptMembers.{script_body}
use Rattle.sim_engine.specs.Rounds.{StandsInRun}
use Rattle.sim_engine.specs.Sessions.{SessionOf, IsAt, IsSettled, IsBusyBetween, GoesOn, steps_in, turn_of, turn_at, report_of}
use Rattle.sim_engine.specs.declared.runs.Next.TheVariants as next
use Rattle.sim_engine.specs.declared.session.Turn.TheVariants as turn
use Rattle.sim_engine.proofs.Rounds.{at_opening, turn_is_idle, arrival_is_next, open_then, waits_then, after_turn, after_arrival, after_refusal}
use Rattle.sim_engine.proofs.RunEnds.{whole, summary_is}
use Rattle.sim_host.specs.Hosting.{HostedOf, IsHosted, IsOver, IsTurn, IsArrival, IsStep, course_in, left_in, next_in, summary_in}

-- a session goes on from itself
same_run : (x : SessionOf) → GoesOn x x
same_run x = record { opened = record { code = refl; setup = refl; seed = refl }; limit = refl }

-- a unit may be made where it is idle
unit_left : (b spent : Bool) (r : Rest) → (if b then turn.Over end.Limit else turn_at spent r) ≡ turn.Idle → spent ≡ false
unit_left true spent r h = absurd (cc)
unit_left false spent rest.Busy h = absurd (cc)
unit_left false true rest.Idle h = absurd (cc)
unit_left false false rest.Idle h = refl
unit_left false spent rest.Empty h = absurd (cc)
unit_left false spent (rest.Over why) h = absurd (cc)

module _ (s : ScenarioOf) where
  pub opens : (x : HostedOf) → x.session.parts.code ≡ s → x.session.parts.setup ≡ s.setup → x.session.units ≡ 0 → x.session.refused ≡ false
      → IsAt x.session (opening (plan_of script_body x.session.parts)) → IsSettled x.session → x.arrived ≡ 0 → IsHosted s x
  opens x code setup units none_refused at settled none =
      let stands = at_opening s x.session.parts.seed s.journal x.session code setup refl units none_refused at in
      record {
        stands = subst (λ n. StandsInRun s x.session.parts.seed s.journal (drop n s.journal) x.session) (sym none) stands;
        settled = settled;
        within = omega (arith, units);
        arrived = omega (arith, none);
      }

  module _ (x : HostedOf) (h : IsHosted s x) where
    -- ---- what comes next

    pub turn_has_unit : next_in s x ≡ next.Turn → x.session.units < x.session.limit
    turn_has_unit comes =
        let late : nat_le x.session.limit x.session.units ≡ false =
        unit_left x.session.refused _ (rest_in x.session.parts) (turn_is_idle (turn_of x.session) x.session.parts.processed (left_in s x) comes) in
        grind (arith, nat_tests, late)

    pub turn_not_over : next_in s x ≡ next.Turn → IsOver s x → ⊥
    turn_not_over comes (inl ended) = ended (open_then s x.session.parts.seed s.journal (left_in s x) x.session x.session h.stands (same_run x.session) comes)
    turn_not_over comes (inr spent) = absurd (omega (arith, spent, turn_has_unit comes))

    pub arrival_not_over : (a : Arrival) → next_in s x ≡ next.Arrival a → x.session.units < x.session.limit → IsOver s x → ⊥
    arrival_not_over a comes left (inl ended) =
        ended (waits_then s x.session.parts.seed s.journal (left_in s x) x.session x.session h.stands (same_run x.session) a comes)
    arrival_not_over a comes left (inr spent) = absurd (omega (arith, spent, left))

    pub end_is_over : next_in s x ≡ next.End → IsOver s x
    end_is_over none = by (whole s x.session.parts.seed s.journal (left_in s x) x.session h.stands h.within h.settled none)
      where
        by : {A B : Type 0} → A ⊎ B → B ⊎ A
        by (inl a) = inr a
        by (inr b) = inl b

    pub arrival_over : (a : Arrival) → next_in s x ≡ next.Arrival a → IsOver s x → x.session.units ≡ x.session.limit
    arrival_over a comes over = by (nat_lt x.session.units x.session.limit) refl
      where
        by : (b : Bool) → nat_lt x.session.units x.session.limit ≡ b → x.session.units ≡ x.session.limit
        by true is = absurd (arrival_not_over a comes (grind (arith, nat_tests, is)) over)
        by false is = let within = h.within in grind (arith, nat_tests, is, within)

    -- ---- what it comes to

    pub summary_at_end : next_in s x ≡ next.End → (report_of x.session).summary ≡ summary_in s x
    summary_at_end none = summary_is s x.session.parts.seed s.journal (left_in s x) x.session h.stands h.within h.settled none

    -- where no unit is left for an entry, it ends as if that was refused
    pub summary_when_spent : (a : Arrival) → next_in s x ≡ next.Arrival a → x.session.units ≡ x.session.limit
        → record (report_of x.session).summary { end = end.Limit } ≡ summary_in s x
    summary_when_spent a comes spent =
        let refused : SessionOf = record x.session { refused = true } in
        let on : GoesOn x.session refused = record { opened = record { code = refl; setup = refl; seed = refl }; limit = refl } in
        let stands = after_refusal s x.session.parts.seed s.journal (left_in s x) x.session refused h.stands on a comes spent refl in
        summary_is s x.session.parts.seed s.journal (left_in s x) refused stands h.within h.settled refl

    -- ---- the entry that comes next

    pub entry_left : (a : Arrival) → next_in s x ≡ next.Arrival a → x.arrived < length s.journal
    entry_left a comes =
        let first = (arrival_is_next x.session (left_in s x) a comes).1 in
        let some : 0 < length (left_in s x) = rw first (omega arith) in
        omega (arith, some, length-drop x.arrived s.journal)

    pub entry_is : (a d : Arrival) → next_in s x ≡ next.Arrival a → get_or s.journal x.arrived d ≡ a
    entry_is a d comes =
        let first = (arrival_is_next x.session (left_in s x) a comes).1 in
        let there : get_or (left_in s x) 0 d ≡ get_or s.journal (x.arrived + 0) d = get_or-drop x.arrived s.journal 0 d in
        ap (λ n. get_or s.journal n d) (sym (add-zero x.arrived)) ∙ sym there ∙ ap (λ left. get_or left 0 d) first

    pub entry_port : (a : Arrival) → next_in s x ≡ next.Arrival a → is_well_formed s ≡ true → a.port < length x.session.parts.setup.ports
    entry_port a comes well_formed =
        let first = (arrival_is_next x.session (left_in s x) a comes).1 in
        let below : Arrival → Type 0 = λ e. e.port < length s.setup.ports in
        let left : All below (left_in s x) = All-drop below x.arrived s.journal (posts_of_scenario s well_formed).ports in
        subst (λ setup. a.port < length setup.ports) (sym h.stands.setup) (All-head below a (drop 1 (left_in s x)) (subst (All below) first left))

  -- ---- a step

  module _ (old new : HostedOf) (h : IsHosted s old) (on : GoesOn old.session new.session) where
    seed_kept : (n : ℕ) → StandsInRun s old.session.parts.seed s.journal (drop n s.journal) new.session → new.arrived ≡ n
        → StandsInRun s new.session.parts.seed s.journal (left_in s new) new.session
    seed_kept n stands arrived =
        subst (λ seed. StandsInRun s seed s.journal (left_in s new) new.session) (sym on.opened.seed)
        (subst (λ a. StandsInRun s old.session.parts.seed s.journal (drop a s.journal) new.session) (sym arrived) stands)

    pub turned : next_in s old ≡ next.Turn → new.arrived ≡ old.arrived → old.session.units ≤ new.session.units → new.session.units ≤ old.session.limit
        → new.session.refused ≡ false → IsSettled new.session
        → IsBusyBetween old.session.parts (new.session.units - old.session.units) (course_in s old).state
        → IsAt new.session (steps_in old.session.parts (new.session.units - old.session.units) (course_in s old).state) → IsHosted s new
    turned comes arrived more within none_refused settled busy at =
        let k = new.session.units - old.session.units in
        let units : new.session.units ≡ old.session.units + k = omega (arith, more) in
        let stands = after_turn s old.session.parts.seed s.journal (left_in s old) old.session new.session h.stands on k units comes none_refused busy at in
        record {
          stands = seed_kept old.arrived stands arrived;
          settled = settled;
          within = omega (arith, within, on.limit);
          arrived = omega (arith, arrived, h.arrived);
        }

    pub arrived_one : (a : Arrival) → next_in s old ≡ next.Arrival a → new.arrived ≡ old.arrived + 1 → new.session.units ≡ old.session.units + 1
        → new.session.units ≤ old.session.limit → new.session.refused ≡ false → IsSettled new.session
        → IsAt new.session (arrive (plan_of script_body old.session.parts) a.port a.value (course_in s old).state) → IsHosted s new
    arrived_one a comes arrived units within none_refused settled at =
        let stands = after_arrival s old.session.parts.seed s.journal (left_in s old) old.session new.session h.stands on a comes units none_refused at in
        let left : drop 1 (left_in s old) ≡ drop (old.arrived + 1) s.journal = drop-drop 1 old.arrived s.journal in
        record {
          stands = seed_kept (old.arrived + 1) (subst (λ ls. StandsInRun s old.session.parts.seed s.journal ls new.session) left stands) arrived;
          settled = settled;
          within = omega (arith, within, on.limit);
          arrived = omega (arith, arrived, entry_left old h a comes);
        }

    pub turn_steps : next_in s old ≡ next.Turn → IsHosted s new → IsTurn s old new → IsStep s old new
    turn_steps comes hosted turn =
        record {
          hosted = hosted;
          goes_on = on;
          still = λ over. absurd (turn_not_over old h comes over);
          more = inr turn.more;
          turn = λ _. turn;
          arrival = λ a other left. absurd (turn_no_arrival a (sym comes ∙ other));
        }
      where
        turn_no_arrival : (a : Arrival) → next.Turn ≡ next.Arrival a → ⊥
        turn_no_arrival a h = absurd (cc)

    pub arrival_steps : (a : Arrival) → next_in s old ≡ next.Arrival a → IsHosted s new → (old.session.units < old.session.limit → IsArrival old new)
        → (old.session.units ≡ old.session.limit → new ≡ old) → IsStep s old new
    arrival_steps a comes hosted arrives spent =
        record {
          hosted = hosted;
          goes_on = on;
          still = λ over. spent (arrival_over old h a comes over);
          more = by (nat_lt old.session.units old.session.limit) refl;
          turn = λ other. absurd (arrival_no_turn (sym comes ∙ other));
          arrival = λ e other left. arrives left;
        }
      where
        arrival_no_turn : next.Arrival a ≡ next.Turn → ⊥
        arrival_no_turn h = absurd (cc)

        by : (b : Bool) → nat_lt old.session.units old.session.limit ≡ b → IsOver s old ⊎ (old.session.units < new.session.units)
        by true is =
            let left : old.session.units < old.session.limit = grind (arith, nat_tests, is) in
            inr (omega (arith, (arrives left).unit))
        by false is = let within = h.within in inl (inr (grind (arith, nat_tests, is, within)))

  pub rests : (x : HostedOf) → IsHosted s x → next_in s x ≡ next.End → IsStep s x x
  rests x h none =
      record {
        hosted = h;
        goes_on = same_run x.session;
        still = λ _. refl;
        more = inl (end_is_over x h none);
        turn = λ other. absurd (end_no_turn (sym none ∙ other));
        arrival = λ a other left. absurd (end_no_arrival a (sym none ∙ other));
      }
    where
      end_no_turn : next.End ≡ next.Turn → ⊥
      end_no_turn h = absurd (cc)

      end_no_arrival : (a : Arrival) → next.End ≡ next.Arrival a → ⊥
      end_no_arrival a h = absurd (cc)

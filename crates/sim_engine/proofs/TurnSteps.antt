-- A turn goes on by some units more.
use Rattle.std.proofs.Common.{◌≡◌, ◌≤◌, ◌<◌, ◌⊎◌, inl, inr, ℕ, ◌+◌, ◌-◌, List, ◌++◌, Bool, true, false, refl, sym, ap, ◌∙◌, subst, arith}
use Rattle.std.specs.Prelude.{nat_le, if◌then◌else◌}
use Rattle.std.proofs.lemmas.Bool.{cases_eq, cases_lt}
use Rattle.std.proofs.lemmas.Bool.Decides.{nat_tests}
use Rattle.sim_machine.specs.State.{State}
use Rattle.sim_types.specs.declared.line.End.TheVariants as end
use Rattle.sim_steps_model.specs.PartsOf.{plan_of}
use Rattle.sim_steps_model.specs.Resting.{CanStep, rest_in}
use Rattle.sim_steps_model.specs.declared.mode.Rest.{Rest}
use Rattle.sim_steps_model.specs.declared.mode.Rest.TheVariants as rest
use Rattle.sim_script_model.specs.Scripts.{Script}
use Rattle.sim_script_model.specs.Polls.{script_turn}
use Rattle.sim_script_law.specs.ScriptMembers.{script_body}
use Rattle.sim_engine.specs.Sessions.{SessionOf, IsAt, GoesOn, turn_at, turn_of, is_busy, is_processing, steps_in, IsBusyBetween, text_of_steps}
use Rattle.sim_engine.specs.declared.session.Turn.TheVariants as turn
use Rattle.sim_engine.proofs.QuietSteps.{busy_stands}
use Rattle.sim_engine.proofs.RoundCases.{idle_where}
use Rattle.sim_engine.proofs.StepTexts.{steps_on, same_steps, steps_text}

-- ---- what goes on

pub goes_on_both : (old now later : SessionOf) → GoesOn old now → GoesOn now later → GoesOn old later
goes_on_both old now later h k =
    record {
      opened =
          record {
            code = k.opened.code ∙ h.opened.code;
            setup = k.opened.setup ∙ h.opened.setup;
            seed = k.opened.seed ∙ h.opened.seed;
          };
      limit = k.limit ∙ h.limit;
    }

-- ---- whether a unit may be made

idle_left : (b late : Bool) (q : Rest) → (if b then turn.Over end.Limit else turn_at late q) ≡ turn.Idle → late ≡ false
idle_left true late q h = absurd (cc)
idle_left false late rest.Busy h = absurd (cc)
idle_left false true rest.Idle h = absurd (cc)
idle_left false false rest.Idle h = refl
idle_left false late rest.Empty h = absurd (cc)
idle_left false late (rest.Over why) h = absurd (cc)

pub left_where : (x : SessionOf) → turn_of x ≡ turn.Idle → x.units < x.limit
left_where x h = let late = idle_left x.refused (nat_le x.limit x.units) (rest_in x.parts) h in grind (arith, nat_tests, late)

pub can_where : (x : SessionOf) → turn_of x ≡ turn.Idle → CanStep x.parts
can_where x h = rw (idle_where x h) refl

-- ---- units more

module _ (old now later : SessionOf) (kept : GoesOn old now) (from : old.units ≤ now.units) (on : now.units ≤ later.units)
    (before : (t : State Script) → IsAt old t → IsAt now (steps_in old.parts (now.units - old.units) t)) where
  -- steps after those that were made
  steps_after : (i j : ℕ) (t : State Script) → i ≡ (now.units - old.units) + j
      → steps_in now.parts j (steps_in old.parts (now.units - old.units) t) ≡ steps_in old.parts i t
  steps_after i j t is =
      let k = now.units - old.units in
      same_steps old.parts now.parts kept.opened j (steps_in old.parts k t)
      ∙ (steps_on (plan_of script_body old.parts) (script_turn old.parts.code.code) k j t ∙ ap (λ n. steps_in old.parts n t) (sym is))

  -- their steps
  pub steps_more : ((t : State Script) → IsAt now t → IsAt later (steps_in now.parts (later.units - now.units) t))
      → (t : State Script) → IsAt old t → IsAt later (steps_in old.parts (later.units - old.units) t)
  steps_more after t at =
      let u : State Script = steps_in old.parts (now.units - old.units) t in
      subst (IsAt later) (steps_after (later.units - old.units) (later.units - now.units) t (omega (arith, from, on))) (after u (before t at))

  -- an event was being processed before them, where some were made before, and all the while between them
  pub busy_more : (old.units < now.units → is_busy (rest_in now.parts) ≡ true)
      → ((t : State Script) → IsAt old t → IsBusyBetween old.parts (now.units - old.units) t)
      → ((t : State Script) → IsAt now t → IsBusyBetween now.parts (later.units - now.units) t)
      → (t : State Script) → IsAt old t → IsBusyBetween old.parts (later.units - old.units) t
  busy_more busy until between t at i above below = by (cases_lt i (now.units - old.units))
    where
      by : (i < now.units - old.units) ⊎ (now.units - old.units ≤ i) → is_processing (steps_in old.parts i t).control ≡ true
      by (inl less) = until t at i above less
      by (inr more) = at_least (cases_eq i (now.units - old.units))
        where
          at_least : (i ≡ now.units - old.units) ⊎ ((i ≡ now.units - old.units) → ⊥) → is_processing (steps_in old.parts i t).control ≡ true
          at_least (inl same) =
              subst (λ n. is_processing (steps_in old.parts n t).control ≡ true) (sym same) (busy_stands now.parts (steps_in old.parts (now.units - old.units) t) (before t at).stands (busy (omega (arith, above, same))))
          at_least (inr differs) =
              let u : State Script = steps_in old.parts (now.units - old.units) t in
              let j : ℕ = i - (now.units - old.units) in
              subst (λ v. is_processing v.control ≡ true) (steps_after i j t (omega (arith, more)))
              (between u (before t at) j (omega (arith, more, differs)) (omega (arith, more, below, from, on)))

  -- their text
  pub text_more : (ports : List (List ℕ)) (t : State Script)
      → text_of_steps ports old.parts (later.units - old.units) t
      ≡ text_of_steps ports old.parts (now.units - old.units) t ++ text_of_steps ports now.parts (later.units - now.units) (steps_in old.parts (now.units - old.units) t)
  text_more ports t =
      let all : later.units - old.units ≡ (now.units - old.units) + (later.units - now.units) = omega (arith, on, from) in
      ap (λ n. text_of_steps ports old.parts n t) all ∙ steps_text ports old.parts now.parts (now.units - old.units) (later.units - now.units) t kept.opened

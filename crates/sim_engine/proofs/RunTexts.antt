-- The text of a run, as it grows.
use Rattle.std.proofs.Common.{◌≡◌, ◌≤◌, ℕ, ℤ, zero, suc, ◌+◌, ◌-◌, List, [], ◌∷◌, ◌++◌, refl, sym, ap, ◌∙◌, subst, arith, add-zero, append-nil}
use Rattle.std.specs.Prelude.{nat_lt, Bool, true, false, if◌then◌else◌}
use Rattle.std.proofs.lemmas.Bool.Decides.{nat_tests}
use Rattle.std.proofs.Math.Nat.{add-suc}
use Rattle.sim_types.specs.Scenarios.{ScenarioOf}
use Rattle.sim_types.specs.declared.line.Line.{Line}
use Rattle.sim_types.specs.declared.line.Line.TheVariants as line
use Rattle.sim_types.specs.declared.setup.Arrival.{Arrival}
use Rattle.sim_types.specs.declared.line.Summary.{Summary}
use Rattle.sim_trace.specs.Texts.{line_text}
use Rattle.sim_machine.specs.Units.{arrive}
use Rattle.sim_steps_model.specs.PartsOf.{plan_of}
use Rattle.sim_script_law.specs.ScriptMembers.{script_body}
use Rattle.sim_machine_law.specs.Courses.{Run, course_after, lines_after}
use Rattle.sim_machine_law.proofs.RunLaws.LineLaws.{unit_adds}
use Rattle.sim_script_model.specs.Scripts.{Script}
use Rattle.sim_script_model.specs.Scenarios.{summary}
use Rattle.sim_script_law.specs.ScenarioRuns.{run_of}
use Rattle.sim_engine.specs.RunOfScenario.{printed_run}
use Rattle.sim_engine.specs.Sessions.{SessionOf, GoesOn, turn_of, IsBusyBetween, text_since, text_of_steps}
use Rattle.sim_engine.specs.Rounds.{next_of, StandsInRun, text_by}
use Rattle.sim_engine.specs.declared.runs.Next.TheVariants as next
use Rattle.sim_engine.proofs.StepTexts.{LinesBehind, behind_none, behind_both, text_is, text_behind}
use Rattle.sim_writing.proofs.WrittenUnits.{opens_without_lines, trace_append, trace_one}
use Rattle.sim_engine.proofs.Rounds.{turn_comes_to, arrival_comes_to}

-- the line on the end of a run that came to this
abbrev pub end_text : Summary → List ℕ
end_text x = line_text [] (line.Finish x.time x.processed x.end)

module _ (s : ScenarioOf) (seed : ℕ) (journal : List Arrival) where
  abbrev r : Run Script
  r = run_of s seed journal

  pub none_before : (course_after r 0).state.lines ≡ []
  none_before = opens_without_lines r.plan

  pub text_before : text_by s seed journal 0 ≡ []
  text_before = rw none_before refl

  -- ---- lines behind lines

  lines_behind : (n j : ℕ) → LinesBehind (course_after r n).state (course_after r (n + j)).state
  lines_behind n zero = rw add-zero (behind_none (course_after r n).state)
  lines_behind n (suc j) =
      let more = unit_adds r.plan r.turn (course_after r (n + j)) in
      rw add-suc (behind_both (course_after r n).state (course_after r (n + j)).state (course_after r (suc (n + j))).state (lines_behind n j) (more.0, more.2))

  text_grows : (n j : ℕ) → text_by s seed journal (n + j)
      ≡ text_by s seed journal n ++ text_since s.port_names (course_after r n).state (course_after r (n + j)).state
  text_grows n j = text_behind s.port_names (course_after r n).state (course_after r (n + j)).state (lines_behind n j)

  -- what is written by more units begins with what is written by fewer
  abbrev pub text_rest : ℕ → ℕ → List ℕ
  text_rest n limit = text_since s.port_names (course_after r n).state (course_after r (n + (limit - n))).state

  pub text_front : (n limit : ℕ) → n ≤ limit → text_by s seed journal limit ≡ text_by s seed journal n ++ text_rest n limit
  text_front n limit within =
      let all : n + (limit - n) ≡ limit = omega (arith, within) in
      ap (text_by s seed journal) (sym all) ∙ text_grows n (limit - n)

  -- ---- the text of a turn, and of an arrival

  module _ (left : List Arrival) (old new : SessionOf) (h : StandsInRun s seed journal left old) (on : GoesOn old new) where
    pub turn_text : (k : ℕ) → new.units ≡ old.units + k → next_of (turn_of old) old.parts.processed left ≡ next.Turn
        → IsBusyBetween old.parts k (course_after r old.units).state
        → text_by s seed journal new.units ≡ text_by s seed journal old.units ++ text_of_steps s.port_names old.parts k (course_after r old.units).state
    turn_text k units comes busy =
        ap (text_by s seed journal) units
        ∙ (text_grows old.units k
        ∙ ap (λ c. text_by s seed journal old.units ++ text_since s.port_names (course_after r old.units).state c.state) (turn_comes_to s seed journal left old new h on k comes busy))

    pub arrival_text : (a : Arrival) → new.units ≡ old.units + 1 → next_of (turn_of old) old.parts.processed left ≡ next.Arrival a
        → text_by s seed journal new.units ≡ text_by s seed journal old.units ++ line_text s.port_names (line.Arrive old.parts.processed a.value a.port)
    arrival_text a units comes =
        let is = arrival_comes_to s seed journal left old new h on a comes in
        let one = text_is s.port_names (course_after r old.units).state (arrive (plan_of script_body old.parts) a.port a.value (course_after r old.units).state) (line.Arrive (course_after r old.units).state.processed a.value a.port ∷ []) refl in
        ap (text_by s seed journal) units
        ∙ (text_grows old.units 1
        ∙ (ap (λ c. text_by s seed journal old.units ++ text_since s.port_names (course_after r old.units).state c.state) is
        ∙ ap (λ x. text_by s seed journal old.units ++ x) (one ∙ trace_one s.port_names (line.Arrive (course_after r old.units).state.processed a.value a.port) ∙ ap (λ p. line_text s.port_names (line.Arrive p a.value a.port)) (sym h.at.stands.processed))))

    -- the same where it came in or was refused
    pub arrived_text : (a : Arrival) (value : ℤ) → value ≡ a.value → old.units ≤ new.units → new.units ≤ old.units + 1
        → next_of (turn_of old) old.parts.processed left ≡ next.Arrival a
        → text_by s seed journal new.units ≡ text_by s seed journal old.units
        ++ (if nat_lt old.units new.units then line_text s.port_names (line.Arrive old.parts.processed value a.port) else [])
    arrived_text a value same from most comes = rw same (by (nat_lt old.units new.units) refl)
      where
        by : (b : Bool) → nat_lt old.units new.units ≡ b
            → text_by s seed journal new.units ≡ text_by s seed journal old.units ++ (if b then line_text s.port_names (line.Arrive old.parts.processed a.value a.port) else [])
        by true is = arrival_text a (grind (arith, nat_tests, from, most, is)) comes
        by false is =
            let same : new.units ≡ old.units = grind (arith, nat_tests, from, is) in
            ap (text_by s seed journal) same ∙ sym (append-nil (text_by s seed journal old.units))

  -- ---- the whole text

  whole_text : (limit : ℕ) → printed_run s seed journal limit ≡ text_by s seed journal limit ++ end_text (summary s seed journal limit)
  whole_text limit =
      let x : Summary = summary s seed journal limit in
      let last : Line = line.Finish x.time x.processed x.end in
      trace_append s.port_names (lines_after r limit) (last ∷ []) ∙ ap (λ t. text_by s seed journal limit ++ t) (trace_one s.port_names last)

-- the whole text of a run that is told by its session
pub text_told : (s : ScenarioOf) (seed : ℕ) (journal : List Arrival) (limit told most : ℕ) (x : Summary) → told ≡ seed → most ≡ limit
    → x ≡ summary s told journal most → printed_run s seed journal limit ≡ text_by s told journal most ++ end_text x
text_told s seed journal limit told most x seeds limits is =
    let all : List ℕ = printed_run s seed journal limit in
    subst (λ y. all ≡ text_by s told journal most ++ end_text y) (sym is)
    (subst (λ n. all ≡ text_by s n journal most ++ end_text (summary s n journal most)) (sym seeds)
    (subst (λ n. all ≡ text_by s seed journal n ++ end_text (summary s seed journal n)) (sym limits) (whole_text s seed journal limit)))

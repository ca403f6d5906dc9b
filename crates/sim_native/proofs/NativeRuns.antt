-- What a run of a script writes, by the words of the run of its scenario.
use Rattle.std.proofs.Common.{◌≡◌, ◌≤◌, ◌⊎◌, inl, inr, ℕ, zero, suc, ◌+◌, ◌-◌, List, [], ◌∷◌, ◌++◌, append_assoc, append-nil, refl, sym, ap, ◌∙◌, subst, arith, add-zero, Result, Ok, Err}
use Rattle.std.specs.Prelude.{IfOk}
use Rattle.std.proofs.lemmas.Bool.{false≢true}
use Rattle.sim_types.specs.Scenarios.{ScenarioOf}
use Rattle.sim_types.specs.declared.line.End.{End}
use Rattle.sim_types.specs.declared.line.Line.{Line}
use Rattle.sim_types.specs.declared.line.Line.TheVariants as line
use Rattle.sim_types.specs.declared.setup.Arrival.{Arrival}
use Rattle.sim_machine.specs.Effect.{calendar}
use Rattle.sim_machine.specs.RandomWords.{word_of}
use Rattle.sim_machine.specs.Runs.{HasEnded, Runs, end_of, end_word, opening_course, run, trace_of}
use Rattle.sim_machine.specs.State.{Plan}
use Rattle.sim_machine.specs.Units.{Course, unit_of}
use Rattle.sim_machine_law.proofs.RunLaws.LineLaws.{unit_adds}
use Rattle.sim_machine_law.proofs.RunLaws.UnitLaws.{ended_stays_on, some_end}
use Rattle.sim_outside.specs.Writes.{SinkOf, Writes}
use Rattle.sim_outside.proofs.Written.{as_failed}
use Rattle.sim_script_model.specs.Polls.{script_turn}
use Rattle.sim_script_model.specs.Scenarios.{plan_with, summary, trace}
use Rattle.sim_script_model.specs.Scripts.{Script}
use Rattle.sim_script_law.specs.ScriptMembers.{IsScriptTurn, script_body}
use Rattle.sim_script_law.proofs.Laws.OnlySteps.{only_script_unit}
use Rattle.sim_steps_model.specs.PartsOf.{plan_of}
use Rattle.sim_kernel.specs.Walks.{BeginsOn, WalkOf}
use Rattle.sim_trace.specs.Texts.{trace_text}
use Rattle.sim_writing.specs.declared.fault.RunFault.{RunFault}
use Rattle.sim_writing.specs.RunFaults.{is_write}
use Rattle.sim_writing.specs.WrittenRuns.{IsAtOpening, WritesFront, WritesRun, WritesWhole}
use Rattle.sim_writing.proofs.WrittenUnits.{trace_append}

module _ (s : ScenarioOf) (g : Plan Script) (journal : List Arrival) where
  -- the run after so many units
  abbrev course : ℕ → Course Script
  course k = run g (script_turn s.code) journal k

  -- the units of a script lead there alone
  only_course : (k : ℕ) (n : Course Script) → Runs g (IsScriptTurn s) k (opening_course g journal) n → n ≡ course k
  only_course zero n ran = sym ran
  only_course (suc k) n ran =
      only_script_unit g s ran.0 n ran.2 ∙ ap (unit_of g (script_turn s.code)) (only_course k ran.0 ran.1)

  -- and to the run's end, where it has ended or all units are made
  last_course : (limit units : ℕ) → units ≤ limit → (units ≡ limit) ⊎ HasEnded g (course units) → course units ≡ course limit
  last_course limit units within (inl all) = ap course all
  last_course limit units within (inr ended) =
      let why = some_end (end_of g (course units)) ended in
      let all : units + (limit - units) ≡ limit = omega (arith, within) in
      sym (ended_stays_on g (script_turn s.code) (opening_course g journal) units why.0 why.1 (limit - units)) ∙ ap course all

  -- ---- lines

  -- lines come behind those of fewer units
  rest_of : (n j : ℕ) → (more : List Line) × ((course (n + j)).state.lines ≡ (course n).state.lines ++ more)
  rest_of n zero = ([], ap (λ (k : ℕ). (course k).state.lines) (add-zero n) ∙ sym (append-nil (course n).state.lines))
  rest_of n (suc j) =
      let on : n + suc j ≡ suc (n + j) = omega arith in
      let before = rest_of n j in
      let next = unit_adds g (script_turn s.code) (course (n + j)) in (
        before.0 ++ next.0,
        ap (λ (k : ℕ). (course k).state.lines) on
            ∙ (next.2 ∙ (ap (λ ls. ls ++ next.0) before.1 ∙ append_assoc (course n).state.lines before.0 next.0)),
      )

  -- the text of a run begins with that of fewer units
  front_of : (ports : List (List ℕ)) (n limit : ℕ) → n ≤ limit
      → (rest : List ℕ) × (trace_text ports (trace_of g (course limit)) ≡ trace_text ports (course n).state.lines ++ rest)
  front_of ports n limit within =
      let all : n + (limit - n) ≡ limit = omega (arith, within) in
      let more = rest_of n (limit - n) in
      let m : Course Script = course limit in
      let last : List Line = line.Finish (calendar m.state).time m.state.processed (end_word g m) ∷ [] in
      let lines : m.state.lines ≡ (course n).state.lines ++ more.0 = ap (λ (k : ℕ). (course k).state.lines) (sym all) ∙ more.1 in (
        trace_text ports (more.0 ++ last),
        ap (λ ls. trace_text ports (ls ++ last)) lines
            ∙ (ap (trace_text ports) (append_assoc (course n).state.lines more.0 last) ∙ trace_append ports (course n).state.lines (more.0 ++ last)),
      )

  -- ---- what is written

  module _ (limit : ℕ) (ports : List (List ℕ)) (old new : SinkOf) where
    abbrev text : List ℕ
    text = trace_text ports (trace_of g (course limit))

    whole_last : (result : Result End RunFault) (h : WritesWhole g (IsScriptTurn s) journal limit ports old new result) → h.last ≡ course limit
    whole_last result h =
        let there = only_course h.run.units h.last h.run.ran in
        there ∙ last_course limit h.run.units h.run.within (whole there h.run.whole)
      where
        whole : h.last ≡ course h.run.units → (h.run.units ≡ limit) ⊎ HasEnded g h.last → (h.run.units ≡ limit) ⊎ HasEnded g (course h.run.units)
        whole there (inl all) = inl all
        whole there (inr ended) = inr (subst (HasEnded g) there ended)

    front_written : (result : Result End RunFault) → WritesFront g (IsScriptTurn s) journal limit ports old new result → Writes is_write old new result text
    front_written (Ok end) h = absurd (false≢true h.failed)
    front_written (Err why) h =
        let front = front_of ports h.units limit h.within in
        let there = only_course h.units h.last h.ran in
        let whole : text ≡ trace_text ports h.last.state.lines ++ front.0 = front.1 ∙ ap (λ (m : Course Script). trace_text ports m.state.lines ++ front.0) (sym there) in
        as_failed is_write is_write old new why why (trace_text ports h.last.state.lines) front.0 text h.written whole refl

    written_by : (result : Result End RunFault) → WritesRun g (IsScriptTurn s) journal limit ports old new result → Writes is_write old new result text
    written_by result (inl h) =
        subst (λ (m : Course Script). Writes is_write old new result (trace_text ports (trace_of g m))) (whole_last result h) h.written
    written_by result (inr h) = front_written result h

    end_by : (result : Result End RunFault) → WritesRun g (IsScriptTurn s) journal limit ports old new result
        → IfOk result (λ end. end ≡ end_word g (course limit))
    end_by result (inl h) = subst (λ (m : Course Script). IfOk result (λ end. end ≡ end_word g m)) (whole_last result h) h.end_is
    end_by (Ok end) (inr h) = absurd (false≢true h.failed)
    end_by (Err why) (inr h) = tt

-- ---- the walk of a run of a scenario

-- it stands at its opening
pub at_opening : (w : WalkOf Script ScenarioOf) (journal : List Arrival) → w.kernel.units ≡ 0 → BeginsOn script_body journal w → IsAtOpening script_body w
at_opening w journal units begins =
    record { units = units; begins = subst (λ left. BeginsOn script_body left w) begins.left begins }

module _ (s : ScenarioOf) (seed limit : ℕ) (journal : List Arrival) (w : WalkOf Script ScenarioOf) (code : w.kernel.parts.code ≡ s)
    (setup : w.kernel.parts.setup ≡ s.setup) (seeded : w.kernel.parts.seed ≡ seed) (begins : BeginsOn script_body journal w) (limit_is : w.limit ≡ limit) where
  plan_is : plan_of script_body w.kernel.parts ≡ plan_with s (word_of seed)
  plan_is = rw (code, setup, seeded) refl

  module _ (ports names : List (List ℕ)) (named : names ≡ ports) (said : ScenarioOf) (said_is : said ≡ s) (old new : SinkOf)
      (result : Result End RunFault)
      (h : WritesRun (plan_of script_body w.kernel.parts) (IsScriptTurn said) w.left w.limit names old new result) where
    of_scenario : WritesRun (plan_with s (word_of seed)) (IsScriptTurn s) journal limit ports old new result
    of_scenario = rw (plan_is, said_is, limit_is, sym begins.left, named) at h

    pub writes_trace : Writes is_write old new result (trace_text ports (trace s seed journal limit))
    writes_trace = written_by s (plan_with s (word_of seed)) journal limit ports old new result of_scenario

    pub tells_end : IfOk result (λ end. end ≡ (summary s seed journal limit).end)
    tells_end = end_by s (plan_with s (word_of seed)) journal limit ports old new result of_scenario

-- Steps one after another, and the text of their lines.
use Rattle.std.proofs.Common.{◌≡◌, ℕ, zero, suc, ◌+◌, List, [], ◌++◌, length, drop, refl, sym, ap, ◌∙◌, append-nil, append_assoc, add-zero}
use Rattle.std.proofs.Math.Nat.{add-suc}
use Rattle.std.proofs.Math.Seq.{drop-append_seam}
use Rattle.sim_types.specs.Scenarios.{ScenarioOf}
use Rattle.sim_types.specs.declared.line.Line.{Line}
use Rattle.sim_trace.specs.Texts.{trace_text}
use Rattle.sim_machine.specs.State.{State, Plan}
use Rattle.sim_machine.specs.Steps.{TurnFunction, step_of}
use Rattle.sim_machine.specs.Units.{Course}
use Rattle.sim_machine_law.proofs.RunLaws.LineLaws.{unit_adds}
use Rattle.sim_steps_model.specs.PartsOf.{PartsOf, IsOpenedAs, plan_of}
use Rattle.sim_script_model.specs.Scripts.{Script}
use Rattle.sim_script_model.specs.Polls.{script_turn}
use Rattle.sim_script_law.specs.ScriptMembers.{script_body}
use Rattle.sim_writing.proofs.WrittenUnits.{trace_append}
use Rattle.sim_engine.specs.Sessions.{steps, steps_in, text_since, text_of_steps}

-- ---- steps after steps

pub steps_on : (g : Plan Script) (turn : TurnFunction Script) (k j : ℕ) (t : State Script) → steps g turn j (steps g turn k t) ≡ steps g turn (k + j) t
steps_on g turn k zero t = rw add-zero refl
steps_on g turn k (suc j) t = rw add-suc (ap (step_of g turn) (steps_on g turn k j t))

-- kernels that were opened alike make the same steps
pub same_steps : (old new : PartsOf Script ScenarioOf) → IsOpenedAs old new → (k : ℕ) (t : State Script) → steps_in new k t ≡ steps_in old k t
same_steps old new h k t = rw (h.code, h.setup, h.seed) refl

-- ---- lines behind lines

-- the lines of the second state are those of the first, and more
abbrev pub LinesBehind : State Script → State Script → Type 0
LinesBehind t u = (more : List Line) × (u.lines ≡ t.lines ++ more)

pub behind_none : (t : State Script) → LinesBehind t t
behind_none t = ([], sym (append-nil t.lines))

pub behind_both : (t u v : State Script) → LinesBehind t u → LinesBehind u v → LinesBehind t v
behind_both t u v h k = (h.0 ++ k.0, k.1 ∙ (ap (λ ls. ls ++ k.0) h.1 ∙ append_assoc t.lines h.0 k.0))

step_behind : (g : Plan Script) (turn : TurnFunction Script) (t : State Script) → LinesBehind t (step_of g turn t)
step_behind g turn t =
    let m : Course Script = record { state = t; left = [] } in
    let h = unit_adds g turn m in
    (h.0, h.2)

pub steps_behind : (g : Plan Script) (turn : TurnFunction Script) (k : ℕ) (t : State Script) → LinesBehind t (steps g turn k t)
steps_behind g turn zero t = behind_none t
steps_behind g turn (suc k) t = behind_both t (steps g turn k t) (steps g turn (suc k) t) (steps_behind g turn k t) (step_behind g turn (steps g turn k t))

-- ---- their text

-- the text of the lines that are known to stand behind
pub text_is : (ports : List (List ℕ)) (t u : State Script) (more : List Line) → u.lines ≡ t.lines ++ more → text_since ports t u ≡ trace_text ports more
text_is ports t u more h = ap (λ ls. trace_text ports (drop (length t.lines) ls)) h ∙ ap (trace_text ports) (drop-append_seam t.lines more)

pub text_none : (ports : List (List ℕ)) (t : State Script) → text_since ports t t ≡ []
text_none ports t = text_is ports t t [] (sym (append-nil t.lines))

pub text_both : (ports : List (List ℕ)) (t u v : State Script) → LinesBehind t u → LinesBehind u v
    → text_since ports t v ≡ text_since ports t u ++ text_since ports u v
unfolding behind_both
text_both ports t u v h k =
    let both = behind_both t u v h k in
    text_is ports t v both.0 both.1
    ∙ trace_append ports h.0 k.0
    ∙ (ap (λ x. x ++ trace_text ports k.0) (sym (text_is ports t u h.0 h.1)) ∙ ap (λ x. text_since ports t u ++ x) (sym (text_is ports u v k.0 k.1)))

-- the whole text, before and behind
pub text_behind : (ports : List (List ℕ)) (t u : State Script) → LinesBehind t u → trace_text ports u.lines ≡ trace_text ports t.lines ++ text_since ports t u
text_behind ports t u h =
    ap (trace_text ports) h.1 ∙ (trace_append ports t.lines h.0 ∙ ap (λ x. trace_text ports t.lines ++ x) (sym (text_is ports t u h.0 h.1)))

-- the text of steps of two kernels that were opened alike
pub steps_text : (ports : List (List ℕ)) (old now : PartsOf Script ScenarioOf) (k j : ℕ) (t : State Script) → IsOpenedAs old now
    → text_of_steps ports old (k + j) t ≡ text_of_steps ports old k t ++ text_of_steps ports now j (steps_in old k t)
steps_text ports old now k j t opened =
    let u : State Script = steps_in old k t in
    let v : State Script = steps_in now j u in
    let on : v ≡ steps_in old (k + j) t = same_steps old now opened j u ∙ steps_on (plan_of script_body old) (script_turn old.code.code) k j t in
    ap (λ w. text_since ports t w) (sym on)
    ∙ text_both ports t u v (steps_behind (plan_of script_body old) (script_turn old.code.code) k t) (steps_behind (plan_of script_body now) (script_turn now.code.code) j u)

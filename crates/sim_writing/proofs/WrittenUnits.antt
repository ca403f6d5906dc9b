-- The units of a walk are those of a run, and their lines come one after the other.
use Rattle.std.proofs.Common.{◌≡◌, ◌≤◌, ℕ, zero, suc, ◌+◌, List, [], ◌∷◌, ◌++◌, append-nil, refl, sym, ap, ◌∙◌, subst, add-zero, arith}
use Rattle.std.proofs.Math.Nat.{add-suc}
use Rattle.std.proofs.lemmas.Grind.{flat_map-append}
use Rattle.std.specs.Prelude.{fold}
use Rattle.sim_types.specs.declared.line.Line.{Line}
use Rattle.sim_types.specs.declared.setup.Start.{Start}
use Rattle.sim_machine.specs.Bodies.{BodyOf}
use Rattle.sim_machine.specs.State.{Plan, State}
use Rattle.sim_machine.specs.Steps.{Turn}
use Rattle.sim_machine.specs.Runs.{Runs, opening, start_process}
use Rattle.sim_machine.specs.Units.{Course}
use Rattle.sim_procs.specs.QuietPolls.{InARow, QuietButLast}
use Rattle.sim_steps_model.specs.PartsOf.{PartsOf, plan_of}
use Rattle.sim_steps_model.specs.StandsFor.{lines_of}
use Rattle.sim_steps_model.specs.declared.mode.Units.{Units}
use Rattle.sim_kernel.specs.Walks.{WalkOf, LeadsAtLast, LeadsOn, LeadsQuietly, StandsAt}
use Rattle.sim_trace.specs.Texts.{line_text, trace_text}

-- ---- texts

pub trace_append : (ports : List (List ℕ)) (xs ys : List Line) → trace_text ports (xs ++ ys) ≡ trace_text ports xs ++ trace_text ports ys
trace_append ports xs ys = flat_map-append (line_text ports) xs ys

pub trace_one : (ports : List (List ℕ)) (x : Line) → trace_text ports (x ∷ []) ≡ line_text ports x
trace_one ports x = append-nil (line_text ports x)

-- no line is written before the first unit
starts_write_none : {B : Type 0} (g : Plan B) (t : State B) (starts : List Start) → (fold (start_process g) t starts).lines ≡ t.lines
starts_write_none g t [] = refl
starts_write_none g t (x ∷ starts) = starts_write_none g (start_process g t x) starts

pub opens_without_lines : {B : Type 0} (g : Plan B) → (opening g).lines ≡ []
opens_without_lines g = starts_write_none g _ g.setup.starts

-- ---- units in a row

module _ {B Code : Type 0} (body : BodyOf B Code) (g : Plan B) (turn : Turn B) (first : Course B) (parts : PartsOf B Code)
    (plan : g ≡ plan_of body parts) (turns : turn ≡ body.turn parts.code) where
  one_more : (n : ℕ) (mid later : Course B) → Runs g turn n first mid → LeadsOn body parts mid later → Runs g turn (suc n) first later
  one_more n mid later ran leads = (mid, ran, rw (plan, turns) leads.unit)

  -- so many units without a line
  record RanQuietly (n : ℕ) (mid later : Course B) : Type 0 where
    ran : Runs g turn n first later
    lines : later.state.lines ≡ mid.state.lines

  quietly : (n k : ℕ) (mid later : Course B) → Runs g turn n first mid → InARow (LeadsQuietly body parts) k mid later → RanQuietly (n + k) mid later
  quietly n zero mid later ran row =
      record { ran = rw add-zero (subst (Runs g turn n first) (sym row) ran); lines = ap (λ (c : Course B). c.state.lines) row }
  quietly n (suc k) mid later ran row =
      let before = quietly n k mid row.between ran row.before in
      record {
        ran = rw add-suc (one_more (n + k) row.between later before.ran row.after.leads);
        lines = row.after.lines ∙ before.lines;
      }

  -- units of which the last alone has a line
  pub record RanOn (n : ℕ) (mid : Course B) (units : Units) (new : WalkOf B Code) : Type 0 where
    pub later : Course B
    pub ran : Runs g turn (n + units.made) first later
    pub lines : later.state.lines ≡ mid.state.lines ++ lines_of units.last
    pub stands : StandsAt body new later

  pub run_on : (n : ℕ) (mid : Course B) (units : Units) (made : ℕ) (old new : WalkOf B Code) → Runs g turn n first mid → old.kernel.parts ≡ parts
      → made ≡ units.made → QuietButLast (LeadsQuietly body parts) (LeadsAtLast body old new units) made mid → RanOn n mid units new
  run_on n mid units zero old new ran same is row = absurd row
  run_on n mid units (suc k) old new ran same is row =
      let before = quietly n k mid row.between ran row.before in
      let last = row.after in
      let leads : LeadsOn body parts row.between last.later = subst (λ p. LeadsOn body p row.between last.later) same last.leads in
      record {
        later = last.later;
        ran = subst (λ (j : ℕ). Runs g turn (n + j) first last.later) is (rw add-suc (one_more (n + k) row.between last.later before.ran leads));
        lines = last.lines ∙ ap (λ ls. ls ++ lines_of units.last) before.lines;
        stands = last.stands;
      }

  -- there is one at least
  pub some_made : (mid : Course B) (units : Units) (made : ℕ) (old new : WalkOf B Code)
      → QuietButLast (LeadsQuietly body parts) (LeadsAtLast body old new units) made mid → 1 ≤ made
  some_made mid units zero old new row = absurd row
  some_made mid units (suc k) old new row = omega arith

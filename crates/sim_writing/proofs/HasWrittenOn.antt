-- What a walk has written, as it goes on.
use Rattle.std.proofs.Common.{◌≡◌, ◌≤◌, ℕ, ◌+◌, List, ◌++◌, refl, sym, ap, ◌∙◌, subst, Result, Ok, Err, arith}
use Rattle.std.specs.Prelude.{IsErrAnd}
use Rattle.sim_machine.specs.Bodies.{BodyOf}
use Rattle.sim_machine.specs.Runs.{Runs, opening_course}
use Rattle.sim_outside.specs.Writes.{SinkOf, Writes}
use Rattle.sim_outside.proofs.Written.{told_err, none_to_write, both_written, cut_behind}
use Rattle.sim_steps_model.specs.PartsOf.{IsOpenedAs, plan_of}
use Rattle.sim_steps_model.specs.StandsFor.{lines_of}
use Rattle.sim_steps_model.specs.declared.mode.Units.{Units}
use Rattle.sim_kernel.specs.Walks.{WalkOf, WaitsAsBefore, Walks}
use Rattle.sim_trace.specs.Texts.{trace_text}
use Rattle.sim_writing.specs.declared.fault.RunFault.{RunFault}
use Rattle.sim_writing.specs.declared.fault.RunFault.TheVariants as fault
use Rattle.sim_writing.specs.RunFaults.{is_write}
use Rattle.sim_writing.specs.WrittenRuns.{HasWritten, IsAtOpening}
use Rattle.sim_writing.proofs.WrittenUnits.{RanOn, opens_without_lines, run_on, some_made, trace_append}

-- what was written before memory was wanting
pub wanting_then : (old new : SinkOf) (why : RunFault) (bytes : List ℕ) → Writes {T = Unit {0}} {E = RunFault} is_write old new (Ok tt) bytes
    → why ≡ fault.Memory → Writes {T = Unit {0}} {E = RunFault} is_write old new (Err why) bytes
wanting_then old new fault.Memory bytes h is = record { whole = tt; prefix = h.prefix; never_falls = h.never_falls; ok = tt; cause = h.ok }
wanting_then old new fault.Write bytes h is = absurd (cc)

-- what was written by a call that failed, in the words of its caller
pub failed_as : (old new : SinkOf) (why : RunFault) (answer : Result (Unit {0}) RunFault) (bytes : List ℕ)
    → Writes {T = Unit {0}} {E = RunFault} is_write old new (Err why) bytes → IsErrAnd answer (λ again. again ≡ why)
    → Writes is_write old new answer bytes
failed_as old new why answer bytes h told =
    told_err is_write old new bytes answer (λ again. again ≡ why) told
    (λ again is. subst (λ w. Writes {T = Unit {0}} {E = RunFault} is_write old new (Err w) bytes) (sym is) h)

module _ {B Code : Type 0} (body : BodyOf B Code) (ports : List (List ℕ)) (old : SinkOf) (w0 : WalkOf B Code) where
  abbrev Written : SinkOf → Result (Unit {0}) RunFault → WalkOf B Code → Type 0
  Written new result w = HasWritten body ports old new result w0 w

  -- at the opening nothing is written
  pub none_yet : IsAtOpening body w0 → Written old (Ok tt) w0
  none_yet opening =
      record {
        within = omega (arith, opening.units);
        last = opening_course (plan_of body w0.kernel.parts) w0.left;
        ran = rw opening.units refl;
        written = none_to_write is_write old tt _ (ap (trace_text ports) (opens_without_lines (plan_of body w0.kernel.parts)));
        stands = opening.begins;
      }

  -- no memory was found for the next unit
  pub none_more : (new : SinkOf) (w later : WalkOf B Code) → Written new (Ok tt) w → WaitsAsBefore w later → (answer : Result (Unit {0}) RunFault)
      → IsErrAnd answer (λ why. why ≡ fault.Memory) → Written new answer later
  none_more new w later h waits (Ok x) told = absurd told
  none_more new w later h waits (Err why) told =
      record {
        within = rw waits.kernel.units h.within;
        last = h.last;
        ran = rw waits.kernel.units h.ran;
        written = wanting_then old new why (trace_text ports h.last.state.lines) h.written told;
        stands = tt;
      }

  module _ (mid new : SinkOf) (w later : WalkOf B Code) (units : Units) (h : Written mid (Ok tt) w) (walks : Walks body units w later)
      (opened : IsOpenedAs w0.kernel.parts w.kernel.parts) (count : later.kernel.units ≡ w.kernel.units + units.made)
      (within : later.kernel.units ≤ w0.limit) where
    ran_on : RanOn body (plan_of body w0.kernel.parts) (body.turn w0.kernel.parts.code)
        (opening_course (plan_of body w0.kernel.parts) w0.left) w.kernel.parts
        (rw (opened.setup, opened.seed, opened.code) refl) (rw opened.code refl) w.kernel.units h.last units later
    ran_on =
        run_on body (plan_of body w0.kernel.parts) (body.turn w0.kernel.parts.code)
        (opening_course (plan_of body w0.kernel.parts) w0.left) w.kernel.parts
        (rw (opened.setup, opened.seed, opened.code) refl) (rw opened.code refl) w.kernel.units h.last units units.made w later h.ran refl refl
        (walks.each h.last h.stands)

    text_is : trace_text ports ran_on.later.state.lines ≡ trace_text ports h.last.state.lines ++ trace_text ports (lines_of units.last)
    text_is = ap (trace_text ports) ran_on.lines ∙ trace_append ports h.last.state.lines (lines_of units.last)

    pub some_more : 1 ≤ units.made
    some_more =
        some_made body (plan_of body w0.kernel.parts) (body.turn w0.kernel.parts.code)
        (opening_course (plan_of body w0.kernel.parts) w0.left) w.kernel.parts
        (rw (opened.setup, opened.seed, opened.code) refl) (rw opened.code refl) h.last units units.made w later (walks.each h.last h.stands)

    ran_there : Runs (plan_of body w0.kernel.parts) (body.turn w0.kernel.parts.code) later.kernel.units
        (opening_course (plan_of body w0.kernel.parts) w0.left) ran_on.later
    ran_there =
        subst (λ (k : ℕ). Runs (plan_of body w0.kernel.parts) (body.turn w0.kernel.parts.code) k
        (opening_course (plan_of body w0.kernel.parts) w0.left) ran_on.later) (sym count) ran_on.ran

    -- the units that were made next, and their line
    pub more_written : (answer : Result (Unit {0}) RunFault) → Writes is_write mid new answer (trace_text ports (lines_of units.last))
        → Written new answer later
    more_written (Ok x) wrote =
        record {
          within = within;
          last = ran_on.later;
          ran = ran_there;
          written = both_written is_write is_write old mid new tt x x _ _ _ h.written wrote text_is;
          stands = ran_on.stands;
        }
    more_written (Err why) wrote =
        record {
          within = within;
          last = ran_on.later;
          ran = ran_there;
          written = cut_behind is_write is_write {V = Unit {0}} old mid new tt why _ _ _ h.written wrote text_is;
          stands = tt;
        }

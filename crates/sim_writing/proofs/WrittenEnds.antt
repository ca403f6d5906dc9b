-- What was written of a run that was written to its end, or up to the line on its end.
use Rattle.std.proofs.Common.{◌≡◌, ◌⊎◌, inl, inr, ℕ, ℤ, List, [], ◌∷◌, ◌++◌, refl, sym, ap, ◌∙◌, subst, append-nil, Result, Ok, Err}
use Rattle.std.specs.Prelude.{IsErrAnd}
use Rattle.sim_types.specs.declared.line.End.{End}
use Rattle.sim_types.specs.declared.line.Line.{Line}
use Rattle.sim_types.specs.declared.line.Line.TheVariants as line
use Rattle.sim_machine.specs.Bodies.{BodyOf}
use Rattle.sim_machine.specs.Effect.{calendar}
use Rattle.sim_machine.specs.Runs.{HasEnded, IsRun, end_word, trace_of}
use Rattle.sim_machine.specs.State.{Plan}
use Rattle.sim_outside.specs.Writes.{SinkOf, Writes}
use Rattle.sim_outside.proofs.Written.{as_failed, both_written, cut_behind}
use Rattle.sim_steps_model.specs.PartsOf.{IsOpenedAs, plan_of}
use Rattle.sim_kernel.specs.Walks.{WalkOf, IsOver}
use Rattle.sim_trace.specs.Texts.{line_text, trace_text}
use Rattle.sim_writing.specs.declared.fault.RunFault.{RunFault}
use Rattle.sim_writing.specs.RunFaults.{is_write}
use Rattle.sim_writing.specs.WrittenRuns.{HasWritten, WritesRun}
use Rattle.sim_writing.proofs.WrittenUnits.{trace_append, trace_one}

module _ {B Code : Type 0} (body : BodyOf B Code) (ports : List (List ℕ)) (old mid : SinkOf) (w0 w : WalkOf B Code)
    (h : HasWritten body ports old mid (Ok (tt {0})) w0 w) (over : IsOver body w) (limit : w.limit ≡ w0.limit)
    (opened : IsOpenedAs w0.kernel.parts w.kernel.parts) where
  abbrev g : Plan B
  g = plan_of body w0.kernel.parts

  plan_is : plan_of body w.kernel.parts ≡ g
  plan_is = rw (opened.setup, opened.seed, opened.code) refl

  run_is : IsRun g (body.turn w0.kernel.parts.code) w0.left w0.limit h.last
  run_is = record { units = w.kernel.units; within = h.within; ran = h.ran; whole = by over }
    where
      by : IsOver body w → (w.kernel.units ≡ w0.limit) ⊎ HasEnded g h.last
      by (inl all) = inl (all ∙ limit)
      by (inr ended) = inr (subst (λ q. HasEnded q h.last) plan_is (ended h.last h.stands))

  module _ (told : End) (time : ℤ) (processed : ℕ) (end_is : told ≡ end_word (plan_of body w.kernel.parts) h.last)
      (time_is : time ≡ (calendar h.last.state).time) (processed_is : processed ≡ h.last.state.processed) where
    abbrev end_line : List ℕ
    end_line = line_text [] (line.Finish time processed told)

    told_is : told ≡ end_word g h.last
    told_is = end_is ∙ ap (λ q. end_word q h.last) plan_is

    whole_is : trace_text ports (trace_of g h.last) ≡ trace_text ports h.last.state.lines ++ end_line
    whole_is =
        let last : Line = line.Finish (calendar h.last.state).time h.last.state.processed (end_word g h.last) in
        trace_append ports h.last.state.lines (last ∷ [])
        ∙ (ap (λ t. trace_text ports h.last.state.lines ++ t) (trace_one ports last)
        ∙ rw (time_is, processed_is, told_is) refl)

    abbrev IsWritten : SinkOf → Result End RunFault → Type 0
    IsWritten new answer = WritesRun g (body.turn w0.kernel.parts.code) w0.left w0.limit ports old new answer

    -- the last line was written, too
    pub ended_well : (new : SinkOf) → Writes {T = Unit {0}} {E = RunFault} is_write mid new (Ok tt) end_line → IsWritten new (Ok told)
    ended_well new wrote =
        inl (record {
          last = h.last;
          run = run_is;
          end_is = told_is;
          written = both_written is_write is_write old mid new tt tt told _ _ _ h.written wrote whole_is;
        })

    -- it was not
    pub ended_ill : (new : SinkOf) (why : RunFault) (answer : Result End RunFault) → Writes {T = Unit {0}} {E = RunFault} is_write mid new (Err why) end_line
        → IsErrAnd answer (λ again. again ≡ why) → IsWritten new answer
    ended_ill new why (Ok end) wrote again = absurd again
    ended_ill new why (Err fault) wrote again =
        inl (record {
          last = h.last;
          run = run_is;
          end_is = tt;
          written =
              as_failed is_write is_write old new why fault _ [] _
              (cut_behind is_write is_write {V = Unit {0}} old mid new tt why _ _ _ h.written wrote whole_is) (sym (append-nil _)) (ap is_write (sym again));
        })

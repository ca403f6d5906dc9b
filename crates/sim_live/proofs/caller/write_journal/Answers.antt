use Rattle.std.proofs.Common.{◌++◌, ◌+◌, true, refl, sym, ap, ◌∙◌, take}
use Rattle.std.specs.Prelude.{flat_map}
use Rattle.sim_outside.proofs.Written.{told_err, as_well, as_failed, both_written, cut_behind}
use Rattle.sim_writing.specs.RunFaults.{is_write}
use Rattle.sim_trace.specs.Texts.{arrival_text, journal_text}
use Rattle.sim_live.proofs.JournalTexts.{journal_next, journal_parted}
use Rattle.sim_live.proofs.caller.write_journal.Goals as goal

pub returns-in_err-write_all-clause-writes : goal.returns-in_err-write_all-clause-writes
returns-in_err-write_all-clause-writes g c =
    let ports = c.args.ports.now in
    let journal = c.args.journal.now in
    told_err is_write _ _ _ c.from_residual.result _ c.from_residual.ensures.1
    (λ why is. as_failed (λ _. true) is_write _ _ _ why _ (flat_map (arrival_text ports) journal) (journal_text ports journal) c.in_err-write_all.ensures.writes refl (sym (ap is_write is)))

pub returns-in_err-write_all-2-clause-writes : goal.returns-in_err-write_all-2-clause-writes
returns-in_err-write_all-2-clause-writes g c =
    let ports = c.args.ports.now in
    let journal = c.args.journal.now in
    let k = c.loop-entry.entry-index in
    let line = c.bytes.ensures ∙ c.render_arrival.ensures in
    let text = journal_next ports journal k _ c.loop-entry-test.true ∙ ap (λ l. journal_text ports (take k journal) ++ l) (sym line) in
    told_err is_write _ _ _ c.from_residual-in_err-write_all-2.result _ c.from_residual-in_err-write_all-2.ensures.1
    (λ why is. as_failed (λ _. true) is_write _ _ _ why _ _ _ (cut_behind is_write (λ _. true) {V = Unit {0}} _ _ _ _ _ _ _ _ c.loop-entry.invariant.written c.in_err-write_all-2.ensures.writes text)
    (journal_parted ports (k + 1) journal) (sym (ap is_write is)))

pub loop-entry-preserved : goal.loop-entry-preserved
loop-entry-preserved g c =
    let ports = c.args.ports.now in
    let journal = c.args.journal.now in
    let k = c.loop-entry.entry-index in
    let line = c.bytes.ensures ∙ c.render_arrival.ensures in
    let written = as_well (λ _. true) is_write _ _ _ (tt {0}) _ _ c.in_ok-write_all-2.ensures.writes line in
    record {
      written = both_written is_write is_write _ _ _ _ _ _ _ _ _ c.loop-entry.invariant.written written (journal_next ports journal k _ c.loop-entry-test.true);
      unflushed = c.in_ok-write_all-2.ensures.unflushed ∙ c.loop-entry.invariant.unflushed;
    }

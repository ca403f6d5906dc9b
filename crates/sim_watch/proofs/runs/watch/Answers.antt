use Rattle.std.proofs.Common.{rules, FitsSigned, w64, ◌≡◌, refl, sym, subst, ◌∙◌}
use Rattle.std.proofs.lemmas.Int.{to_z-of_z}
use Rattle.sim_machine.specs.Setups.{FitsCode}
use Rattle.sim_script_model.specs.Scenarios.{summary}
use Rattle.sim_script_law.specs.ScriptMembers.{script_facts}
use Rattle.sim_script_law.proofs.Laws.SetupFits.{fits_code}
use Rattle.sim_watch.specs.Following.{run_from}
use Rattle.sim_watch.proofs.Openings.{end_told, is_at_opening, left_is, processed_told, run_is, time_told}
use Rattle.sim_watch.proofs.runs.watch.Goals as goal

pub new-requires-clause-fits : goal.new-requires-clause-fits
new-requires-clause-fits c =
    let s = c.args.scenario.now in
    subst (FitsCode (script_facts s)) (sym c.setup.ensures.setup) (fits_code s c.setup.ensures.well_formed)

pub rows_of-requires : goal.rows_of-requires
rows_of-requires c =
    let opened = c.in_ok-walk.ensures in
    record {
      opening =
          is_at_opening c.args.scenario.now c.args.seed c.args.journal.now c.in_ok-walk.walk opened.code (opened.setup ∙ c.setup.ensures.setup) opened.seed opened.begins opened.units
          c.setup.ensures.well_formed c.requires.ports;
    }

pub returns-in-Ok-clause-rows : goal.returns-in-Ok-clause-rows
returns-in-Ok-clause-rows c =
    let s = c.args.scenario.now in
    let w = c.in_ok-walk.walk in
    let opened = c.in_ok-walk.ensures in
    let left = left_is s c.args.seed c.args.journal.now w opened.code (opened.setup ∙ c.setup.ensures.setup) opened.seed opened.begins in
    c.in-Ok.ensures.rows ∙ rw (opened.seed, left, opened.limit) refl

pub returns-in-Ok-clause-end : goal.returns-in-Ok-clause-end
returns-in-Ok-clause-end c =
    let s = c.args.scenario.now in
    let w = c.in_ok-walk.walk in
    let opened = c.in_ok-walk.ensures in
    let run = run_is s c.args.seed c.args.journal.now w opened.code (opened.setup ∙ c.setup.ensures.setup) opened.seed opened.begins in
    subst (λ n. c.finish-end.result.0 ≡ (summary s c.args.seed c.args.journal.now n).end) opened.limit
    (end_told s c.args.seed c.args.journal.now w.limit (run_from s w) run c.rows_of.new.walk c.in-Ok.ensures.last c.finish-end.result.0 c.finish-end.ensures.end)

pub returns-in-Ok-clause-time : goal.returns-in-Ok-clause-time
returns-in-Ok-clause-time c =
    let s = c.args.scenario.now in
    let w = c.in_ok-walk.walk in
    let opened = c.in_ok-walk.ensures in
    let run = run_is s c.args.seed c.args.journal.now w opened.code (opened.setup ∙ c.setup.ensures.setup) opened.seed opened.begins in
    let fits : FitsSigned w64 c.finish-end.result.1 = search rules in
    to_z-of_z w64 c.finish-end.result.1 fits
    ∙ subst (λ n. c.finish-end.result.1 ≡ (summary s c.args.seed c.args.journal.now n).time) opened.limit
    (time_told s c.args.seed c.args.journal.now w.limit (run_from s w) run c.rows_of.new.walk c.in-Ok.ensures.last c.finish-end.result.1 c.finish-end.ensures.time)

pub returns-in-Ok-clause-processed : goal.returns-in-Ok-clause-processed
returns-in-Ok-clause-processed c =
    let s = c.args.scenario.now in
    let w = c.in_ok-walk.walk in
    let opened = c.in_ok-walk.ensures in
    let run = run_is s c.args.seed c.args.journal.now w opened.code (opened.setup ∙ c.setup.ensures.setup) opened.seed opened.begins in
    subst (λ n. c.finish-end.result.2 ≡ (summary s c.args.seed c.args.journal.now n).processed) opened.limit
    (processed_told s c.args.seed c.args.journal.now w.limit (run_from s w) run c.rows_of.new.walk c.in-Ok.ensures.last c.finish-end.result.2 c.finish-end.ensures.processed)

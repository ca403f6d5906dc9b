-- What a live run comes to, and what is written of it.
use Rattle.std.specs.Prelude.{◌≡◌, ℕ, List, ◌++◌, Ok}
use Rattle.sim_types.specs.Scenarios.{ScenarioOf}
use Rattle.sim_types.specs.declared.line.End.{End}
use Rattle.sim_types.specs.declared.setup.Arrival.{Arrival}
use Rattle.sim_script_model.specs.Scenarios.{summary}
use Rattle.sim_trace.specs.Texts.{journal_text}
use Rattle.sim_language.specs.Reads.{reads}
use Rattle.sim_replay.specs.Sections.{with_journal}
use Rattle.sim_engine.specs.RunOfScenario.{end_of_scenario, printed_run, printed_trace}

-- the trace of the machine on this journal, and then the journal
abbrev pub live_text : ScenarioOf → ℕ → List Arrival → List ℕ
live_text s limit journal = printed_run s s.seed journal limit ++ journal_text s.port_names journal

-- how the machine ends on it
abbrev pub end_on : ScenarioOf → ℕ → List Arrival → End
end_on s limit journal = (summary s s.seed journal limit).end

-- a text says the scenario with this journal, and its run has the same trace and the same end
pub record SaysAgain (s : ScenarioOf) (limit : ℕ) (journal : List Arrival) (text : List ℕ) : Type 0 where
  pub read : reads text ≡ Ok (with_journal journal s)
  pub trace : printed_trace (with_journal journal s) limit ≡ printed_run s s.seed journal limit
  pub end : end_of_scenario (with_journal journal s) limit ≡ end_on s limit journal

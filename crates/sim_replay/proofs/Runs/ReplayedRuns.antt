-- A run of a scenario, and that of the scenario with another journal, other posters and another seed by itself.
use Rattle.std.proofs.Common.{◌≡◌, ℕ, ℤ, List, [], refl, ap, ◌∙◌}
use Rattle.std.specs.Prelude.{⊤}
use Rattle.sim_types.specs.Scenarios.{ScenarioOf}
use Rattle.sim_types.specs.declared.event.Signal.{Signal}
use Rattle.sim_types.specs.declared.op.Op.{Op}
use Rattle.sim_types.specs.declared.setup.Arrival.{Arrival}
use Rattle.sim_types.specs.declared.setup.Post.{Post}
use Rattle.sim_machine.specs.RandomWords.{word_of}
use Rattle.sim_machine.specs.State.{Plan}
use Rattle.sim_machine.specs.Steps.{TurnFunction}
use Rattle.sim_machine.specs.Runs.{run}
use Rattle.sim_body_law.proofs.AlikeBodies.{AreAlike, AsksAlike, Begins}
use Rattle.sim_body_law.proofs.AlikeRuns.{AlikeCourses, run_alike, summary_alike, trace_alike}
use Rattle.sim_script_model.specs.Polls.{script_turn}
use Rattle.sim_script_model.specs.Scenarios.{plan_with, summary, trace}
use Rattle.sim_script_model.specs.Scripts.{Script}
use Rattle.sim_replay.specs.Sections.{with_journal}
use Rattle.sim_replay.specs.Seeds.{with_seed}
use Rattle.sim_replay.proofs.Runs.OverScripts.{script_over, turned_over}

module _ (s : ScenarioOf) (entries : List Arrival) (posters : List (List Post)) (other seed : ℕ) (journal : List Arrival) (limit : ℕ) where
  abbrev again : ScenarioOf
  again = record s { journal = entries; posters = posters; seed = other }

  abbrev g : Plan Script
  g = plan_with s (word_of seed)

  abbrev turn : TurnFunction Script
  turn = script_turn s.code

  -- scripts are alike where the one is the other with the other scenario
  abbrev IsOver : Script → Script → Type 0
  IsOver b c = c ≡ script_over again b

  abbrev starts_over : Begins Script
  starts_over kind args p = script_over again (g.start kind args p)

  -- whatever they are told
  abbrev anything : Script → Signal → Type 0
  anything b told = ⊤

  asks_over : (b c : Script) → IsOver b c → (time : ℤ) (told : Signal) → AsksAlike IsOver g.start starts_over (turn b time told) (turn c time told)
  asks_over b c is time told =
      record {
        asked = ap (λ (x : Script). (turn x time told).0) is ∙ ap (λ (r : Op × Script). r.0) (turned_over again s.code b time told);
        bodies = ap (λ (x : Script). (turn x time told).1) is ∙ ap (λ (r : Op × Script). r.1) (turned_over again s.code b time told);
        spawned = λ kind args asked p. refl;
      }

  are_over : AreAlike IsOver anything g starts_over turn turn
  are_over = record { polls = λ b c is time told may. asks_over b c is time told; starts = λ i d below p. refl }

  runs_over : AlikeCourses IsOver anything g starts_over turn turn are_over (run g turn journal limit) (run (plan_with again (word_of seed)) turn journal limit)
  runs_over = run_alike IsOver anything g starts_over turn turn are_over journal (λ i d below p. refl) limit
      (λ i below. record { told = λ e left p x one is at. tt })

  pub trace_over : trace again seed journal limit ≡ trace s seed journal limit
  trace_over = trace_alike IsOver anything g starts_over turn turn are_over (run g turn journal limit) _ runs_over

  pub summary_over : summary again seed journal limit ≡ summary s seed journal limit
  summary_over = summary_alike IsOver anything g starts_over turn turn are_over (run g turn journal limit) _ runs_over

pub same_trace : (s : ScenarioOf) (seed : ℕ) (journal : List Arrival) (limit : ℕ) → trace (with_journal journal s) seed journal limit ≡ trace s seed journal limit
same_trace s seed journal limit = trace_over s journal [] s.seed seed journal limit

pub same_summary : (s : ScenarioOf) (seed : ℕ) (journal : List Arrival) (limit : ℕ)
    → summary (with_journal journal s) seed journal limit ≡ summary s seed journal limit
same_summary s seed journal limit = summary_over s journal [] s.seed seed journal limit

pub summary_reseeded : (s : ScenarioOf) (other seed limit : ℕ) → summary (with_seed other s) seed s.journal limit ≡ summary s seed s.journal limit
summary_reseeded s other seed limit = summary_over s s.journal s.posters other seed s.journal limit

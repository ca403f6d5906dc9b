-- A text without a fault says a scenario whose numbers and names fit.
--     IsFaultless whole ls      no line is faulty, and the operands of each have their shape
--     said_by, linked_by        the scenario that the lines say
use Rattle.std.specs.Prelude.{◌≡◌, refl, ◌+◌, ◌≤◌, ◌^◌, true, nat_lt, nat_le, List, [], length, None}
use Rattle.std.specs.List.{list_all}
use Rattle.std.proofs.Common.{arith, ◌∙◌}
use Rattle.std.proofs.lemmas.Bool.{le-leb, and_from, eq-eqb}
use Rattle.sim_types.specs.Scenarios.{ScenarioOf}
use Rattle.sim_language.specs.declared.form.Sort.TheVariants as sort
use Rattle.sim_language.specs.AnywhereInText.{ProcessLines, WholeText}
use Rattle.sim_language.specs.Sayings.{TextLine}
use Rattle.sim_language.specs.Places.{places, is_entry, count_above}
use Rattle.sim_language.specs.Faults.{first_fault, end_fault}
use Rattle.sim_language.specs.Links.{linked}
use Rattle.sim_language.specs.Reads.{nothing_said, with_lines}
use Rattle.sim_language.specs.FittingStatements.{script_fits}
use Rattle.sim_types.specs.Setups.{until_fits, resource_fits}
use Rattle.sim_language.specs.WellFormed.{setup_fits, kind_fits, posts_fit}
use Rattle.sim_language_law.proofs.Lines.Walking.{passed}
use Rattle.sim_language_law.proofs.Lines.LineByLine.{AllAmong}
use Rattle.sim_language_law.proofs.Setups.FittingEntries.{more_posts}
use Rattle.sim_language_law.proofs.Lines.LinesSoFar.{SoFar, so_far}
use Rattle.sim_language_law.proofs.Anywhere.SaidAnywhere.{heads_said, WholeOf}
use Rattle.sim_language_law.proofs.Anywhere.EventsAhead.{ahead_there}
use Rattle.sim_language_law.proofs.Processes.KindsOfHeads.{KindsFit, kinds_of_heads, heads_are}
use Rattle.sim_language_law.proofs.Scenarios.FittingSoFar.{Beyond, beyond_at_end}
use Rattle.sim_language_law.proofs.Statements.LinkedScripts.{scripts_linked}

pub record IsFaultless (whole : WholeText) (ls : List TextLine) : Type 0 where
  pub among : AllAmong whole ls
  pub none : first_fault whole.heads (places 1 [] ls) (end_fault ls) ≡ None

abbrev pub said_by : ProcessLines → List TextLine → ScenarioOf
said_by heads ls = with_lines heads nothing_said (places 1 [] ls)

abbrev pub linked_by : ProcessLines → List TextLine → ScenarioOf
linked_by heads ls = let s : ScenarioOf = said_by heads ls in record s { code = linked 0 s.code }

module _ (whole : WholeText) (ls : List TextLine) (text : IsFaultless whole ls) where
  pub all_lines : SoFar (said_by whole.heads ls) (1 + length ls) (passed [] ls) (said_by whole.heads ls)
  all_lines = so_far whole (end_fault ls) (said_by whole.heads ls) ls text.among text.none refl

  pub seed_fits : nat_lt (linked_by whole.heads ls).seed (2 ^ 63) ≡ true
  seed_fits = all_lines.alone.seed

  pub events_few : nat_le (linked_by whole.heads ls).setup.events 1024 ≡ true
  events_few = let few = all_lines.declared.few sort.Event in let all = all_lines.declared.sizes sort.Event in le-leb _ 1024 (omega arith)

  pub resources_few : nat_le (length (linked_by whole.heads ls).setup.resources) 1024 ≡ true
  resources_few = let few = all_lines.declared.few sort.Resource in let all = all_lines.declared.sizes sort.Resource in le-leb _ 1024 (omega arith)

  pub ports_few : nat_le (length (linked_by whole.heads ls).setup.ports) 256 ≡ true
  ports_few = let few = all_lines.declared.few sort.Port in let all = all_lines.declared.sizes sort.Port in le-leb _ 256 (omega arith)

  pub starts_few : nat_le (length (linked_by whole.heads ls).setup.starts) 65536 ≡ true
  starts_few = le-leb _ 65536 all_lines.alone.few

  pub resources_fit : list_all resource_fits (linked_by whole.heads ls).setup.resources ≡ true
  resources_fit = all_lines.alone.resources

  pub kinds_few : nat_le (length (linked_by whole.heads ls).kinds) 256 ≡ true
  kinds_few = let few = all_lines.declared.few sort.Process in let all = all_lines.declared.sizes sort.Process in le-leb _ 256 (omega arith)

  pub all_kinds_fit : list_all kind_fits (linked_by whole.heads ls).kinds ≡ true
  all_kinds_fit = all_lines.alone.kinds

  pub all_posts_fit : posts_fit (linked_by whole.heads ls) ≡ true
  all_posts_fit =
      let e = all_lines.entries in
      let few : length (said_by whole.heads ls).journal ≤ 65536 = let n = e.arrivals in let m = e.all in omega arith in
      let posters : length (said_by whole.heads ls).posters ≤ 16 = let n = e.posters in let m = e.few in omega arith in
      and_from _ _ (and_from _ _ (and_from _ _ (and_from _ _ (and_from _ _ (and_from _ _ (eq-eqb _ _ all_lines.alone.named) all_lines.alone.names) (le-leb _ 65536 few)) e.journal) e.falls) (le-leb _ 16 posters)) (more_posts (said_by whole.heads ls) (count_above is_entry (passed [] ls)) 65536 (said_by whole.heads ls).posters e.all e.posts)

-- ---- with what lines take from the whole text

module _ (whole : WholeText) (ls : List TextLine) (text : IsFaultless whole ls) (of : WholeOf whole ls) where
  heads : whole.heads ≡ heads_said ls
  heads = heads_are whole.heads ls (said_by whole.heads ls) of.heads (all_lines whole ls text).heads

  kinds_found : KindsFit whole.heads (said_by whole.heads ls)
  kinds_found = kinds_of_heads whole.heads ls (said_by whole.heads ls) heads (all_lines whole ls text).heads (all_kinds_fit whole ls text)

  beyond : Beyond whole (said_by whole.heads ls) (1 + length ls) (passed [] ls) [] (said_by whole.heads ls)
  beyond = beyond_at_end whole (end_fault ls) (said_by whole.heads ls) kinds_found (ahead_there whole ls of.declarations) ls heads text.among text.none refl

  pub end_fits : until_fits (linked_by whole.heads ls).setup.events (linked_by whole.heads ls).setup.until ≡ true
  end_fits = beyond.until

  pub all_setup_fits : setup_fits (linked_by whole.heads ls) ≡ true
  all_setup_fits =
      let so_far = and_from _ _ (and_from _ _ (and_from _ _ end_fits (events_few whole ls text)) (resources_few whole ls text)) (ports_few whole ls text) in
      and_from _ _ (and_from _ _ (and_from _ _ (and_from _ _ so_far (starts_few whole ls text)) (resources_fit whole ls text)) beyond.ports) beyond.starts

  pub scripts_fit : list_all (script_fits (linked_by whole.heads ls)) (linked_by whole.heads ls).kinds ≡ true
  scripts_fit = scripts_linked (said_by whole.heads ls) (said_by whole.heads ls).kinds ∙ beyond.processes.fits

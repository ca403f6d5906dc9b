-- What is read is a well-formed scenario.
use Rattle.std.proofs.Common.{◌≡◌, subst, true, ℕ, List, Ok}
use Rattle.std.specs.Prelude.{IsTrue}
use Rattle.sim_types.specs.Scenarios.{ScenarioOf}
use Rattle.sim_language.specs.AnywhereInText.{WholeText}
use Rattle.sim_language.specs.Sayings.{TextLine}
use Rattle.sim_language.specs.Reads.{reads}
use Rattle.sim_language.specs.WellFormed.{is_well_formed}
use Rattle.sim_language_law.proofs.Blocks.ClosedTexts.{closed_text}
use Rattle.sim_language_law.proofs.Scenarios.FittingTexts.{linked_by}
use Rattle.sim_language_law.proofs.Scenarios.ReadTexts.{Read, all_is_said, whole_of, lines_of, read_is, well_formed}

module _ (text : List ℕ) (s : ScenarioOf) where
  its_lines_are : Read text s → is_well_formed (linked_by (whole_of text).heads (lines_of text)) ≡ true
  its_lines_are read =
      let whole : WholeText = whole_of text in
      let ls : List TextLine = lines_of text in
      well_formed whole ls read.faultless read.whole (closed_text whole.heads ls (all_is_said whole ls read.faultless.among) read.faultless.none)

  pub read_well_formed : reads text ≡ Ok s → IsTrue (is_well_formed s)
  read_well_formed says = let read = read_is text s says in subst (λ t. IsTrue (is_well_formed t)) read.is (its_lines_are read)

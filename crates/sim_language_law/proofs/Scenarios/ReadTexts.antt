-- A text that is read says a well-formed scenario, as far as its code is closed.
--     all_is_said        the operands of each line have the shape of its form
--     well_formed        of the lines of a faultless text whose blocks are closed
--     read_is            a text that is read is faultless, and the scenario is that of its lines
use Rattle.std.specs.Prelude.{◌≡◌, refl, ℕ, Bool, true, false, if◌then◌else◌, List, [], ◌∷◌, Option, Some, None, Ok, Err}
use Rattle.std.specs.List.{All, AllByRecursion}
use Rattle.std.proofs.lemmas.Bool.{and_from}
use Rattle.std.proofs.lemmas.List.Elements.{All-from_recursion}
use Rattle.sim_types.specs.Scenarios.{ScenarioOf}
use Rattle.sim_types.specs.declared.fault.Fault.{Fault}
use Rattle.sim_types.specs.declared.fault.FaultKind.TheVariants as fault
use Rattle.sim_language.specs.Lines.{lines}
use Rattle.sim_language.specs.AnywhereInText.{ProcessLines, WholeText, whole_text}
use Rattle.sim_language.specs.Sayings.{TextLine, Saying, Blank, Wrong, Says, sayings}
use Rattle.sim_language.specs.Said.{IsSaid}
use Rattle.sim_language.specs.Places.{places}
use Rattle.sim_language.specs.Faults.{first_fault, end_fault}
use Rattle.sim_language.specs.Reads.{unless_faulty, is_too_long, reads_text, reads}
use Rattle.sim_language.specs.WellFormed.{kinds_fit, is_well_formed}
use Rattle.sim_language_law.proofs.Lines.LineByLine.{Among, AllAmong}
use Rattle.sim_language_law.proofs.Blocks.ClosedTexts.{Closed}
use Rattle.sim_language_law.proofs.Scenarios.FittingTexts.{IsFaultless, said_by, linked_by, seed_fits, all_setup_fits, kinds_few, all_kinds_fit, scripts_fit, all_posts_fit}
use Rattle.sim_language_law.proofs.Anywhere.SaidAnywhere.{WholeOf}
use Rattle.sim_language_law.proofs.Anywhere.TextsAmong.{all_among}
use Rattle.sim_language_law.proofs.Anywhere.TakenFromTexts.{taken_from_text}

-- ---- operands

is_said : (whole : WholeText) (saying : Saying) → Among whole saying → IsSaid saying
is_said whole Blank among = tt
is_said whole (Wrong kind) among = tt
is_said whole (Says f slots) among = among.fits

each_is_said : (whole : WholeText) (ls : List TextLine) → AllAmong whole ls → AllByRecursion (λ l. IsSaid l.saying) ls
each_is_said whole [] among = tt
each_is_said whole (l ∷ ls) among = (is_said whole l.saying among.0, each_is_said whole ls among.1)

pub all_is_said : (whole : WholeText) (ls : List TextLine) → AllAmong whole ls → All (λ l. IsSaid l.saying) ls
all_is_said whole ls among = All-from_recursion (λ l. IsSaid l.saying) ls (each_is_said whole ls among)

-- ---- faultless texts

module _ (whole : WholeText) (ls : List TextLine) (text : IsFaultless whole ls) (of : WholeOf whole ls) where
  -- where the code is closed, and the kinds begin where processes do
  pub well_formed : Closed (said_by whole.heads ls) → is_well_formed (linked_by whole.heads ls) ≡ true
  well_formed closed =
      let few = and_from _ _ (kinds_few whole ls text) (all_kinds_fit whole ls text) in
      let kinds : kinds_fit (linked_by whole.heads ls) ≡ true = and_from _ _ (and_from _ _ (and_from _ _ few closed.begin) closed.count) (scripts_fit whole ls text of) in
      let setup = and_from _ _ (seed_fits whole ls text) (all_setup_fits whole ls text of) in
      and_from _ _ (and_from _ _ (and_from _ _ setup kinds) closed.fits) (all_posts_fit whole ls text)

-- ---- texts that are read

abbrev pub whole_of : List ℕ → WholeText
whole_of bytes = whole_text (lines bytes)

-- the lines of a text
abbrev pub lines_of : List ℕ → List TextLine
lines_of bytes = sayings (whole_of bytes) (lines bytes)

pub record Read (bytes : List ℕ) (t : ScenarioOf) : Type 0 where
  pub faultless : IsFaultless (whole_of bytes) (lines_of bytes)
  pub whole : WholeOf (whole_of bytes) (lines_of bytes)
  pub is : linked_by (whole_of bytes).heads (lines_of bytes) ≡ t

pub read_is : (bytes : List ℕ) (t : ScenarioOf) → reads bytes ≡ Ok t → Read bytes t
read_is bytes t h = too_long (is_too_long bytes) h
  where
    heads : ProcessLines
    heads = (whole_of bytes).heads

    ls : List TextLine
    ls = lines_of bytes

    faulty : (o : Option Fault) → first_fault heads (places 1 [] ls) (end_fault ls) ≡ o → unless_faulty o (said_by heads ls) ≡ Ok t → Read bytes t
    faulty (Some f) e read = absurd cc
    faulty None e read = record {
      faultless = record { among = all_among (whole_of bytes) (lines bytes); none = e };
      whole = taken_from_text (end_fault ls) (lines bytes) e;
      is = cc;
    }

    too_long : (b : Bool) → (if b then Err (record { line = 0; kind = fault.TooLong }) else reads_text (whole_of bytes) (lines bytes)) ≡ Ok t
        → Read bytes t
    too_long true read = absurd cc
    too_long false read = faulty (first_fault heads (places 1 [] ls) (end_fault ls)) refl read

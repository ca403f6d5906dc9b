use Rattle.sim_replay.proofs.Texts.TextsWithJournals.{reads_with_journal}
use Rattle.sim_replay.proofs.journals.texts_with_journals.Goals as goal

pub returns : goal.returns
returns c = λ text s entries says can few. reads_with_journal text s says entries can few

use Rattle.std.proofs.Common.{◌==◌, sym}
use Rattle.sim_words.proofs.Fronts.{up_to_found, up_to_none}
use Rattle.sim_words.proofs.mark.up_to.Goals as goal

pub returns-in-Some : goal.returns-in-Some
returns-in-Some c = up_to_found (λ b. b == c.args.mark) c.args.bytes.now c.in-Some.at (sym c.in-Some.ensures)

pub returns-in-None : goal.returns-in-None
returns-in-None c = up_to_none (λ b. b == c.args.mark) c.args.bytes.now (sym c.in-None.ensures)

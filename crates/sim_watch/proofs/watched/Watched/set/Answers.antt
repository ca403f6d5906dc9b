use Rattle.std.proofs.Common.{rules, FitsSigned, w64, refl}
use Rattle.std.proofs.lemmas.Int.{to_z-of_z}
use Rattle.sim_watch.proofs.watched.Watched.set.Goals as goal

pub returns : goal.returns
returns c =
    let old = c.self.inside.row in
    let held : FitsSigned w64 c.args.measure.held = search rules in
    let least : FitsSigned w64 old.hleast = search rules in
    let most : FitsSigned w64 old.hmost = search rules in
    let less : FitsSigned w64 c.min-self-inside.result = search rules in
    let more : FitsSigned w64 c.max-self-inside-3.result = search rules in
    rw (to_z-of_z w64 c.min-self-inside.result less, to_z-of_z w64 c.max-self-inside-3.result more, c.max-self-inside.ensures, c.max-self-inside-2.ensures, c.min-self-inside.ensures.value, c.max-self-inside-3.ensures.value, ← c.self.view_is, to_z-of_z w64 old.hleast least, to_z-of_z w64 old.hmost most, to_z-of_z w64 c.args.measure.held held) refl

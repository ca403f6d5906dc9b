use Rattle.std.proofs.Common.{◌≡◌, ◌∙◌, None, sym}
use Rattle.sim_verify.proofs.Taken.{none_is, taken_right, taken_wrong}
use Rattle.sim_verify.proofs.checker.CheckerSink.write.Goals as goal
use Rattle.sim_verify.proofs.checker.CheckerSink.write.Goals.{then-right-piece, else-right-piece}

pub returns-clause-bytes : goal.returns-clause-bytes
returns-clause-bytes g c =
    let none : c.self.inside.wrong ≡ None = none_is c.self.inside.wrong (sym c.is_some.ensures ∙ c.if-is_some.false) in
    let right = c.same_bytes-right.result in
    let given = c.self.inside.given.now in
    let at = c.self.inside.at in
    let piece = c.args.piece.now in
    let same = c.same_bytes-right.ensures.same in
    elim c.if-right-piece.branch [
      | then-right-piece w ↦ rw (w.self-inside-is, w.taken-is, ← c.self.view_is, none) (taken_wrong given piece at right same w.if-right-piece.true)
      | else-right-piece w ↦ rw (w.self-inside-is, w.taken-is, ← c.self.view_is, none) (taken_right given piece at right same)
    ]

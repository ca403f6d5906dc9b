use Rattle.std.proofs.Common.{sym, w64, FitsSigned, rules}
use Rattle.std.proofs.lemmas.Int.{to_z-of_z}
use Rattle.sim_native.proofs.ShopHurries.{drew_hurries, mended_hurries, said_hurries, worked_hurries}
use Rattle.sim_native.proofs.shop.machine.Machine.hurry.Goals as goal

pub returns-in-Draws-Number-clause-passes : goal.returns-in-Draws-Number-clause-passes
returns-in-Draws-Number-clause-passes c =
    let fits : FitsSigned w64 c.in-Draws-Number.left = search rules in
    let started = rw (to_z-of_z w64 c.args.now c.ranges.now, to_z-of_z w64 c.in-Draws-Number.left fits) at c.start_part.ensures in
    let some = sym (rw (to_z-of_z w64 c.in-Draws-Number.left fits) at c.if-not-is_made.ensures) in
    rw (started, c.in-Draws-Number.is-0, c.in-Draws-Number.is-1) (drew_hurries c.args.now c.args.self.now c.in-Draws-Number.left some)

pub returns-in-Works-Value-clause-passes : goal.returns-in-Works-Value-clause-passes
returns-in-Works-Value-clause-passes c =
    rw (c.finish_part.ensures, c.in-Works-Value.is-0, c.in-Works-Value.is-1) (worked_hurries c.args.now c.args.self.now c.in-Works-Value.field-0-1)

pub returns-in-CrewLeft-Done-clause-passes : goal.returns-in-CrewLeft-Done-clause-passes
returns-in-CrewLeft-Done-clause-passes c =
    let noted = rw (to_z-of_z w64 c.args.now c.ranges.now) at c.note_time.ensures in
    let some = sym c.if-not-none_left.ensures in
    rw (noted, c.in-CrewLeft-Done.is-0, c.in-CrewLeft-Done.is-1) (mended_hurries c.args.now c.args.self.now some)

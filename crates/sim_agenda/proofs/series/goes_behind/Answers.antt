use Rattle.std.proofs.Common.{◌≡◌, ◌-◌, length, get_or, rules}
use Rattle.sim_agenda.proofs.Rising.{rises_behind}
use Rattle.sim_agenda.proofs.series.goes_behind.Goals as goal

pub returns-in-Some-clause-rises : goal.returns-in-Some-clause-rises
returns-in-Some-clause-rises c =
    let xs = c.args.series.now.items in
    let last = c.in-Some.last.now in
    let at : last ≡ get_or xs (length xs - 1) last = search rules in
    λ h. rises_behind xs c.args.entry.now last at (c.less.ensures.less.0 h) c.requires.rises

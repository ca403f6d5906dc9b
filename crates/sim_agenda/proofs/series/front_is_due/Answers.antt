use Rattle.std.proofs.Common.{◌≡◌, ◌<◌, length, get_or, sym, ◌∙◌, rules}
use Rattle.std.proofs.lemmas.Bool.{true≢false}
use Rattle.sim_agenda.proofs.Rising.{front_due, first_due}
use Rattle.sim_agenda.proofs.series.front_is_due.Goals as goal

pub returns-in-Some-Some-clause-front : goal.returns-in-Some-Some-clause-front
returns-in-Some-Some-clause-front c =
    let xs = c.args.series.now.items in
    let ys = c.args.heap.now in
    let front = c.in-Some-Some.front.now in
    let first = c.in-Some-Some.first.now in
    let at : front ≡ get_or xs 0 front = search rules in
    let top : first ≡ get_or ys 0 first = search rules in
    let some : 0 < length xs = search rules in
    λ h. front_due xs ys front first at top some c.requires.heap (c.less.ensures.less.0 h)

pub returns-in-Some-Some-clause-first : goal.returns-in-Some-Some-clause-first
returns-in-Some-Some-clause-first c =
    let xs = c.args.series.now.items in
    let ys = c.args.heap.now in
    let front = c.in-Some-Some.front.now in
    let first = c.in-Some-Some.first.now in
    let at : front ≡ get_or xs 0 front = search rules in
    let top : first ≡ get_or ys 0 first = search rules in
    let some : 0 < length ys = search rules in
    λ h. first_due xs ys front first at top some c.requires.rises (λ less. true≢false (sym (c.less.ensures.less.1 less) ∙ h))

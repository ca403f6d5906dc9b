use Rattle.std.proofs.Common.{◌≡◌, ◌+◌, ◌++◌, length, length-append, arith}
use Rattle.sim_agenda.proofs.Comparing.{once_only, once_and_up}
use Rattle.sim_agenda.proofs.Joining.{put_behind, put_for_other}
use Rattle.sim_agenda.proofs.backlog.Backlog.push.Goals as goal

pub returns-then-goes_behind-clause-entries : goal.returns-then-goes_behind-clause-entries
returns-then-goes_behind-clause-entries c =
    rw (← c.self.view_is) (put_behind c.self.inside.heap.items c.self.inside.series.items _ c.args.entry c.push_back_reserved.ensures.items)

pub returns-else-goes_behind-clause-entries : goal.returns-else-goes_behind-clause-entries
returns-else-goes_behind-clause-entries c =
    let other = c.exchange_only-other in
    rw (← c.self.view_is) (put_for_other c.self.inside.heap.items c.self.inside.series.items other.new.series.items _ c.args.entry
    other.result other.ensures.moved c.push.ensures.moved)

pub returns-then-goes_behind-clause-count : goal.returns-then-goes_behind-clause-count
returns-then-goes_behind-clause-count c =
    let xs = c.self.inside.heap.items in
    let ys = c.self.inside.series.items in
    let all : length (xs ++ ys) ≡ length xs + length ys = length-append xs ys in
    rw (← c.self.view_is) (once_only ys (length (xs ++ ys)) c.args.count.now _ (omega arith) c.goes_behind.ensures.once c.goes_behind.ensures.alone)

pub returns-else-goes_behind-clause-count : goal.returns-else-goes_behind-clause-count
returns-else-goes_behind-clause-count c =
    let xs = c.self.inside.heap.items in
    let ys = c.self.inside.series.items in
    let all : length (xs ++ ys) ≡ length xs + length ys = length-append xs ys in
    rw (← c.self.view_is) (once_and_up ys (length (xs ++ ys)) _ c.args.count.now c.goes_behind.new.count _ (omega arith) c.goes_behind.ensures.once
    c.goes_behind.ensures.alone c.push.ensures.count)

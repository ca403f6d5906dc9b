use Rattle.std.proofs.Common.{◌≡◌, ◌+◌, ◌<◌, ◌++◌, length, length-append, arith}
use Rattle.sim_agenda.specs.Series.{FirstIsDue}
use Rattle.sim_agenda.proofs.Comparing.{twice_only, twice_and_half}
use Rattle.sim_agenda.proofs.Joining.{latter_pops, top_taken}
use Rattle.sim_agenda.proofs.Spreading.{window_pop_spread, window_pop_spare, backlog_pop}
use Rattle.sim_agenda.proofs.agenda.Agenda.pop.Goals as goal

pub invariant_of-self : goal.invariant_of-self
invariant_of-self c =
    window_pop_spread c.pop.result c.self.inside.backlog c.self.inside.window c.pop.new.self c.pop.ensures c.self.invariant

pub returns-then-window_is_due-clause-due : goal.returns-then-window_is_due-clause-due
returns-then-window_is_due-clause-due c =
    let old = c.self.inside in
    let due = c.window_is_due.ensures in
    let yes = c.if-window_is_due.true in
    rw (← c.self.view_is) (latter_pops c.pop.result old.backlog.entries old.window c.pop.new.self _ _ (due.some yes) c.pop.ensures (due.window yes))

pub returns-then-window_is_due-clause-spare : goal.returns-then-window_is_due-clause-spare
returns-then-window_is_due-clause-spare c =
    let old = c.self.inside in
    rw (← c.self.view_is) (window_pop_spare c.pop.result old.backlog.spare old.window c.pop.new.self c.self.invariant.room c.pop.ensures)

pub returns-then-window_is_due-clause-count : goal.returns-then-window_is_due-clause-count
returns-then-window_is_due-clause-count c =
    let xs = c.self.inside.backlog.entries in
    let ys = c.self.inside.window in
    let all : length (xs ++ ys) ≡ length xs + length ys = length-append xs ys in
    let some : 0 < length ys = c.window_is_due.ensures.some c.if-window_is_due.true in
    rw (← c.self.view_is) (twice_only (length (xs ++ ys)) c.args.count.now c.window_is_due.new.count (omega arith) c.window_is_due.ensures.twice)

pub invariant_of-self-2 : goal.invariant_of-self-2
invariant_of-self-2 c =
    let old = c.self.inside in
    let due = c.in_ok-entry.ensures in
    backlog_pop old.backlog c.pop-2.new.self old.window c.restart.new.self c.in_ok-entry.entry due.due due.spare c.restart.ensures c.self.invariant

pub returns-clause-due : goal.returns-clause-due
returns-clause-due c =
    let old = c.self.inside in
    let first : FirstIsDue old.window old.backlog.entries = c.window_is_due.ensures.backlog c.if-window_is_due.false in
    rw (← c.self.view_is, c.restart.ensures) (top_taken old.backlog.entries old.window c.pop-2.new.self.entries c.in_ok-entry.entry c.in_ok-entry.ensures.due first)

pub returns-clause-count : goal.returns-clause-count
returns-clause-count c =
    let xs = c.self.inside.backlog.entries in
    let ys = c.self.inside.window in
    let all : length (xs ++ ys) ≡ length xs + length ys = length-append xs ys in
    let first : FirstIsDue ys xs = c.window_is_due.ensures.backlog c.if-window_is_due.false in
    rw (← c.self.view_is) (twice_and_half ys xs (length (xs ++ ys)) c.args.count.now c.window_is_due.new.count _ all first.none c.window_is_due.ensures.twice
    c.window_is_due.ensures.alone c.in_ok-entry.ensures.count c.in_ok-entry.ensures.half)

use Rattle.std.proofs.Common.{◌≡◌, ◌+◌, ◌-◌, ◌≤◌, ◌++◌, length, length-append, ap, arith, rules}
use Rattle.sim_agenda.proofs.Comparing.{once_only, once_and_half}
use Rattle.sim_agenda.proofs.Joining.{put_among, put_latter}
use Rattle.sim_agenda.proofs.Spreading.{backlog_put, window_put_spread, window_put_spare}
use Rattle.sim_agenda.proofs.agenda.Agenda.push.Goals as goal

pub invariant_of-self : goal.invariant_of-self
invariant_of-self c =
    let old = c.self.inside in
    let new = c.push-then-not-push in
    let room : 1 ≤ old.backlog.spare - length old.window = omega (arith, ap (λ a. a.spare) c.self.view_is, c.requires.room) in
    let kept : c.push.new.self ≡ old.window = search rules in
    backlog_put old.backlog new.new.self old.window c.push.new.self c.args.entry room new.ensures.entries new.ensures.spare kept c.self.invariant

pub invariant_of-self-else-not-push : goal.invariant_of-self-else-not-push
invariant_of-self-else-not-push c =
    let old = c.self.inside in
    let room : 1 ≤ old.backlog.spare - length old.window = omega (arith, ap (λ a. a.spare) c.self.view_is, c.requires.room) in
    window_put_spread old.backlog old.window c.push.new.self c.args.entry room (c.push.ensures.entries (search rules)) c.self.invariant

pub returns-then-not-push-clause-entries : goal.returns-then-not-push-clause-entries
returns-then-not-push-clause-entries c =
    let old = c.self.inside in
    let kept : c.push.new.self ≡ old.window = search rules in
    rw (← c.self.view_is, kept) (put_among old.backlog.entries old.window c.push-then-not-push.new.self.entries c.args.entry c.push-then-not-push.ensures.entries)

pub returns-then-not-push-clause-count : goal.returns-then-not-push-clause-count
returns-then-not-push-clause-count c =
    let xs = c.self.inside.backlog.entries in
    let ys = c.self.inside.window in
    let all : length (xs ++ ys) ≡ length xs + length ys = length-append xs ys in
    rw (← c.self.view_is) (once_and_half ys (length xs) (length (xs ++ ys)) c.args.count.now c.push.new.count _ (omega arith) (omega arith) c.push.ensures.once
    c.push.ensures.alone c.push-then-not-push.ensures.count)

pub returns-else-not-push-clause-entries : goal.returns-else-not-push-clause-entries
returns-else-not-push-clause-entries c =
    let old = c.self.inside in
    rw (← c.self.view_is) (put_latter old.backlog.entries old.window c.push.new.self c.args.entry (c.push.ensures.entries (search rules)))

pub returns-else-not-push-clause-spare : goal.returns-else-not-push-clause-spare
returns-else-not-push-clause-spare c =
    let old = c.self.inside in
    let room : 1 ≤ old.backlog.spare - length old.window = omega (arith, ap (λ a. a.spare) c.self.view_is, c.requires.room) in
    rw (← c.self.view_is) (window_put_spare old.backlog.spare old.window c.push.new.self c.args.entry room (c.push.ensures.entries (search rules)))

pub returns-else-not-push-clause-count : goal.returns-else-not-push-clause-count
returns-else-not-push-clause-count c =
    let xs = c.self.inside.backlog.entries in
    let ys = c.self.inside.window in
    let all : length (xs ++ ys) ≡ length xs + length ys = length-append xs ys in
    rw (← c.self.view_is) (omega (arith, once_only ys (length (xs ++ ys)) c.args.count.now c.push.new.count (omega arith) c.push.ensures.once c.push.ensures.alone))

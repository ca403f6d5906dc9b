use Rattle.std.proofs.Common.{map, sym, arith, rules}
use Rattle.sim_stores.proofs.Storing.{sound_cancel}
use Rattle.sim_shared_model.proofs.Apart.{differ_left, differ_right}
use Rattle.sim_stores.proofs.Leaving.{among_both}
use Rattle.sim_stores.proofs.Trying.{tried_leave}
use Rattle.sim_stores.proofs.shelf.Shelf.cancel.Goals as goal

pub leave_queue-put-requires : goal.leave_queue-put-requires
leave_queue-put-requires c =
    record { apart = differ_left (map (λ w. w.event) c.self.inside.puts.items) (map (λ w. w.event) c.self.inside.gets.items) c.self.invariant.0.differ }

pub leave_queue-get-requires : goal.leave_queue-get-requires
leave_queue-get-requires c =
    record { apart = differ_right (map (λ w. w.event) c.self.inside.puts.items) (map (λ w. w.event) c.self.inside.gets.items) c.self.invariant.0.differ }

pub invariant_of-self : goal.invariant_of-self
invariant_of-self c =
    let differ = differ_right (map (λ w. w.event) c.self.inside.puts.items) (map (λ w. w.event) c.self.inside.gets.items) c.self.invariant.0.differ in (
      rw (c.leave_queue-put.ensures.besides, c.leave_queue-get.ensures.besides) (sound_cancel _ _ _ _ c.self.invariant.0 c.args.event),
      omega (arith, c.leave_queue-put.ensures.len, c.self.invariant.1),
      rw (c.leave.ensures, c.leave_queue-get.ensures.besides)
          (tried_leave _ _ _ _ c.self.invariant.2 c.args.event differ (rw c.leave_queue-get.ensures.waited at c.if-get.true)),
    )

pub invariant_of-self-else-get : goal.invariant_of-self-else-get
invariant_of-self-else-get c = (
  rw (c.leave_queue-put.ensures.besides, c.leave_queue-get.ensures.besides) (sound_cancel _ _ _ _ c.self.invariant.0 c.args.event),
  omega (arith, c.leave_queue-put.ensures.len, c.self.invariant.1),
  rw (c.leave_queue-get.ensures.same (search rules)) c.self.invariant.2,
)

pub returns-clause-waited : goal.returns-clause-waited
returns-clause-waited c =
    rw (c.leave_queue-put.ensures.waited, c.leave_queue-get.ensures.waited, ← c.self.view_is)
    (sym (among_both (λ w. w.event) (λ w. w.event) c.args.event c.self.inside.puts.items c.self.inside.gets.items))

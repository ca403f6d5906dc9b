use Rattle.std.proofs.Common.{ap, ℕ, ◌+◌}
use Rattle.sim_lanes.proofs.Taking.{may_store_head, taken_one}
use Rattle.sim_lanes.proofs.taker.LaneTaker.store_head.Goals as goal

pub store-requires : goal.store-requires
store-requires c =
    let e = c.end-place.ensures in
    rw c.deref.ensures (may_store_head c.self.invariant c.self.view_is c.self.inside.seat.id c.args.p _ c.requires.lane _ c.requires.read e.place (ap (λ (k : ℕ). k + 1) e.count))

pub invariant_of-self : goal.invariant_of-self
invariant_of-self c =
    let e = c.end-place.ensures in let s = c.store.ensures in
    taken_one c.self.invariant c.self.view_is c.store.new.seat.table_id c.store.new.seat.me c.args.p c.deref.result.now.shared.table_id.slots c.end-place.result.place (c.end-place.result.count + 1) c.index_mut.result.now c.requires.lane s.0 s.2 e.place c.requires.read
    (ap (λ (k : ℕ). k + 1) e.count) c.index_mut.ensures.value

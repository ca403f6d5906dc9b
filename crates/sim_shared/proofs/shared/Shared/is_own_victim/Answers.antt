use Rattle.std.proofs.Common.{w64, ◌<◌, ap, ◌∙◌, length}
use Rattle.std.proofs.lemmas.Int.{to_z-of_z}
use Rattle.sim_types.specs.declared.setup.Resource.{Resource}
use Rattle.sim_machine.specs.Events.{next_event}
use Rattle.sim_machine.specs.MayAsk.{takes_requests}
use Rattle.sim_shared_law.proofs.Shown.ResourcePlaces.{declared_at, got_is, same_length}
use Rattle.sim_shared_law.proofs.Waiters.RequestsAndAmounts.{own_victim_shown}
use Rattle.sim_shared.proofs.shared.Shared.is_own_victim.Goals as goal

pub own_victim-requires : goal.own_victim-requires
own_victim-requires c =
    let x = c.index.result.now in
    let asked : c.args.res < length c.self.inside.setup.value = rw (← c.self.view_is) at c.requires.res in
    let within : c.args.res < length c.self.inside.resources.items = rw (same_length c.self.inside.resources.items c.self.inside.setup.value c.self.invariant.opened) asked in
    let there = got_is c.self.inside.resources.items c.args.res x within c.index.ensures in
    ap (λ (r : Resource). takes_requests r.kind) (declared_at c.self.inside.resources.items c.self.inside.setup.value c.args.res x c.self.invariant.opened there)
    ∙ (rw (← c.self.view_is) at c.requires.slots)

pub returns : goal.returns
returns c = λ f shown.
    let x = c.index.result.now in
    let asked : c.args.res < length c.self.inside.setup.value = rw (← c.self.view_is) at c.requires.res in
    let within : c.args.res < length c.self.inside.resources.items = rw (same_length c.self.inside.resources.items c.self.inside.setup.value c.self.invariant.opened) asked in
    let there = got_is c.self.inside.resources.items c.args.res x within c.index.ensures in
    let same = declared_at c.self.inside.resources.items c.self.inside.setup.value c.args.res x c.self.invariant.opened there in
    let h = rw (← c.self.view_is) at shown in
    let key_is = rw (to_z-of_z w64 c.args.priority c.ranges.priority) at (c.request_key-key.ensures f shown) in
    let key = rw (← c.self.view_is) at key_is in
    rw (← c.self.view_is) (own_victim_shown c.self.inside.setup.value c.args.res c.args.process c.args.priority c.args.preempts c.request_key-key.result f c.own_victim.result
    (c.own_victim.ensures c.self.inside.setup.value c.args.res (next_event f.calendar) f same (h.resources c.args.res x there)) key)

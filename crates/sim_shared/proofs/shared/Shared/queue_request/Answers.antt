use Rattle.std.proofs.Common.{◌<◌, refl, ap, ◌∙◌, length}
use Rattle.sim_types.specs.declared.setup.Resource.{Resource}
use Rattle.sim_machine.specs.MayAsk.{takes_requests}
use Rattle.sim_shared_law.proofs.Shown.ResourcePlaces.{declared_at, got_is, same_length, has_place, sound_used}
use Rattle.sim_shared.proofs.shared.Shared.queue_request.Goals as goal

pub add_request-requires-clause-slots : goal.add_request-requires-clause-slots
add_request-requires-clause-slots c =
    let x = c.index_mut.result.now in
    let asked : c.args.res < length c.self.inside.setup.value = rw (← c.self.view_is) at c.requires.res in
    let within : c.args.res < length c.self.inside.resources.items = rw (same_length c.self.inside.resources.items c.self.inside.setup.value c.self.invariant.opened) asked in
    let there = got_is c.self.inside.resources.items c.args.res x within c.index_mut.ensures.value in
    ap (λ (r : Resource). takes_requests r.kind) (declared_at c.self.inside.resources.items c.self.inside.setup.value c.args.res x c.self.invariant.opened there) ∙ (rw (← c.self.view_is) at c.requires.slots)

pub add_request-requires-clause-place : goal.add_request-requires-clause-place
add_request-requires-clause-place c =
    let x = c.index_mut.result.now in
    let asked : c.args.res < length c.self.inside.setup.value = rw (← c.self.view_is) at c.requires.res in
    let within : c.args.res < length c.self.inside.resources.items = rw (same_length c.self.inside.resources.items c.self.inside.setup.value c.self.invariant.opened) asked in
    let there = got_is c.self.inside.resources.items c.args.res x within c.index_mut.ensures.value in
    let unused = rw (← c.self.view_is) at c.requires.place in
    has_place c.self.inside.used c.self.inside.resources.items c.self.inside.setup.value c.args.res x unused there c.self.invariant

pub add_request-requires-clause-absent : goal.add_request-requires-clause-absent
add_request-requires-clause-absent c =
    let x = c.index_mut.result.now in
    let asked : c.args.res < length c.self.inside.setup.value = rw (← c.self.view_is) at c.requires.res in
    let within : c.args.res < length c.self.inside.resources.items = rw (same_length c.self.inside.resources.items c.self.inside.setup.value c.self.invariant.opened) asked in
    let there = got_is c.self.inside.resources.items c.args.res x within c.index_mut.ensures.value in
    (rw (← c.self.view_is) at c.requires.absent.each) c.args.res x there

pub invariant_of-self : goal.invariant_of-self
invariant_of-self c =
    let x = c.index_mut.result.now in
    let asked : c.args.res < length c.self.inside.setup.value = rw (← c.self.view_is) at c.requires.res in
    let within : c.args.res < length c.self.inside.resources.items = rw (same_length c.self.inside.resources.items c.self.inside.setup.value c.self.invariant.opened) asked in
    let there = got_is c.self.inside.resources.items c.args.res x within c.index_mut.ensures.value in
    let unused = rw (← c.self.view_is) at c.requires.place in
    sound_used c.self.inside.used c.self.inside.resources.items c.self.inside.setup.value c.args.res x c.add_request.new.resource unused there (c.add_request.ensures c.args.res).declared c.self.invariant

pub returns : goal.returns
returns c =
    let x = c.index_mut.result.now in
    let asked : c.args.res < length c.self.inside.setup.value = rw (← c.self.view_is) at c.requires.res in
    let within : c.args.res < length c.self.inside.resources.items = rw (same_length c.self.inside.resources.items c.self.inside.setup.value c.self.invariant.opened) asked in
    let there = got_is c.self.inside.resources.items c.args.res x within c.index_mut.ensures.value in
    let joined = c.add_request.ensures c.args.res in
    rw (← c.self.view_is) (record { before = x; after = c.add_request.new.resource; there = there; joined = joined; rest = refl })

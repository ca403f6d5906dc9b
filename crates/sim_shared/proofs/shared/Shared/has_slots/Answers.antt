use Rattle.std.proofs.Common.{◌<◌, ap, ◌∙◌, length}
use Rattle.sim_types.specs.declared.setup.Resource.{Resource}
use Rattle.sim_machine.specs.MayAsk.{takes_requests}
use Rattle.sim_shared_law.proofs.Shown.ResourcePlaces.{declared_at, got_is, same_length}
use Rattle.sim_shared.proofs.shared.Shared.has_slots.Goals as goal

pub returns : goal.returns
returns c =
    let x = c.index.result.now in
    let asked : c.args.res < length c.self.inside.setup.value = rw (← c.self.view_is) at c.requires.res in
    let within : c.args.res < length c.self.inside.resources.items = rw (same_length c.self.inside.resources.items c.self.inside.setup.value c.self.invariant.opened) asked in
    let there = got_is c.self.inside.resources.items c.args.res x within c.index.ensures in
    let same = declared_at c.self.inside.resources.items c.self.inside.setup.value c.args.res x c.self.invariant.opened there in
    rw (← c.self.view_is) (c.is_desk.ensures ∙ ap (λ (r : Resource). takes_requests r.kind) same)

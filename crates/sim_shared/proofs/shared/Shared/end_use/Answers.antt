use Rattle.std.proofs.Common.{◌<◌, ◌∙◌, length}
use Rattle.sim_shared_law.proofs.Shown.ResourcePlaces.{sound_set, got_is, same_length}
use Rattle.sim_shared_law.proofs.Shown.ReleasedSlots.{kind_kept, end_use_follows}
use Rattle.sim_shared.proofs.shared.Shared.end_use.Goals as goal

pub invariant_of-self : goal.invariant_of-self
invariant_of-self c =
    let x = c.index_mut.result.now in
    let asked : c.args.res < length c.self.inside.setup.value = rw (← c.self.view_is) at c.requires.res in
    let within : c.args.res < length c.self.inside.resources.items = rw (same_length c.self.inside.resources.items c.self.inside.setup.value c.self.invariant.opened) asked in
    let there = got_is c.self.inside.resources.items c.args.res x within c.index_mut.ensures.value in
    sound_set c.self.inside.used c.self.inside.resources.items c.self.inside.setup.value c.args.res x c.release.new.resource there
    (kind_kept c.args.request x c.release.new.resource c.release.ensures.released) c.release.ensures.place c.self.invariant

pub returns-clause-follows : goal.returns-clause-follows
returns-clause-follows c =
    let x = c.index_mut.result.now in
    let asked : c.args.res < length c.self.inside.setup.value = rw (← c.self.view_is) at c.requires.res in
    let within : c.args.res < length c.self.inside.resources.items = rw (same_length c.self.inside.resources.items c.self.inside.setup.value c.self.invariant.opened) asked in
    let there = got_is c.self.inside.resources.items c.args.res x within c.index_mut.ensures.value in
    let slots = rw (← c.self.view_is) at c.requires.slots in
    rw (← c.self.view_is) (end_use_follows _ c.args.res x c.release.new.resource c.args.request there slots
    (λ unused. c.release.ensures.same (c.release.ensures.used ∙ unused)) c.release.ensures.released)

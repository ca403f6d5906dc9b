use Rattle.std.proofs.Common.{◌<◌, sym, ap, ◌∙◌, length}
use Rattle.sim_happen_model.specs.HappenOf.{IsOpen}
use Rattle.sim_shared_model.specs.Resources.{waiting_at}
use Rattle.sim_shared_model.specs.Waiting.{waits_in, besides_at}
use Rattle.sim_shared_law.proofs.Shown.ResourcePlaces.{declared_alike, sound_set, got_is, same_length}
use Rattle.sim_shared_law.proofs.Waiters.WaitingEvents.{all_among}
use Rattle.sim_shared_law.proofs.Waiters.MadeEvents.{shut_room}
use Rattle.sim_shared_law.proofs.Waiters.CancelledEvents.{cancelled_at, declared_besides}
use Rattle.sim_shared.proofs.shared.Shared.cancel_at.Goals as goal

pub shut-requires : goal.shut-requires
shut-requires c =
    let x = c.index_mut.result.now in
    let asked : c.args.at < length c.self.inside.setup.value = rw (← c.self.view_is) at c.requires.at in
    let within : c.args.at < length c.self.inside.resources.items = rw (same_length c.self.inside.resources.items c.self.inside.setup.value c.self.invariant.opened) asked in
    let there = got_is c.self.inside.resources.items c.args.at x within c.index_mut.ensures.value in
    let opened = rw (← c.self.view_is) at c.requires.open.each in
    record { is_open = all_among (IsOpen c.self.inside.happen) c.args.event (waiting_at x) (sym c.if-not-cancel.ensures.waited) (opened c.args.at x there) }

pub invariant_of-self-2 : goal.invariant_of-self-2
invariant_of-self-2 c =
    let x = c.index_mut.result.now in
    let asked : c.args.at < length c.self.inside.setup.value = rw (← c.self.view_is) at c.requires.at in
    let within : c.args.at < length c.self.inside.resources.items = rw (same_length c.self.inside.resources.items c.self.inside.setup.value c.self.invariant.opened) asked in
    let there = got_is c.self.inside.resources.items c.args.at x within c.index_mut.ensures.value in
    let kind = declared_alike (besides_at c.args.event x) c.cancel.new.resource c.cancel.ensures.besides ∙ declared_besides c.args.event x in
    sound_set c.self.inside.used c.self.inside.resources.items c.self.inside.setup.value c.args.at x c.cancel.new.resource there kind c.cancel.ensures.place c.self.invariant

pub returns-clause-waited : goal.returns-clause-waited
returns-clause-waited c =
    let x = c.index_mut.result.now in
    let asked : c.args.at < length c.self.inside.setup.value = rw (← c.self.view_is) at c.requires.at in
    let within : c.args.at < length c.self.inside.resources.items = rw (same_length c.self.inside.resources.items c.self.inside.setup.value c.self.invariant.opened) asked in
    let there = got_is c.self.inside.resources.items c.args.at x within c.index_mut.ensures.value in
    rw (← c.self.view_is) (c.if-not-cancel.ensures.waited ∙ ap (waits_in c.args.event) (sym there))

pub returns-clause-never_less : goal.returns-clause-never_less
returns-clause-never_less c = rw (← c.self.view_is) (shut_room c.self.inside.happen c.shut.new.self c.args.event c.shut.ensures.cancelled c.shut.ensures.room)

pub returns-clause-cancelled : goal.returns-clause-cancelled
returns-clause-cancelled c found =
    let x = c.index_mut.result.now in
    let asked : c.args.at < length c.self.inside.setup.value = rw (← c.self.view_is) at c.requires.at in
    let within : c.args.at < length c.self.inside.resources.items = rw (same_length c.self.inside.resources.items c.self.inside.setup.value c.self.invariant.opened) asked in
    let there = got_is c.self.inside.resources.items c.args.at x within c.index_mut.ensures.value in
    rw (← c.self.view_is) (cancelled_at _ c.shut.new.self c.args.at x c.cancel.new.resource c.args.event there (sym c.if-not-cancel.ensures.waited) c.cancel.ensures.besides c.shut.ensures.cancelled)

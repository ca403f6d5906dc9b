use Rattle.sim_shared.specs.Opening.{AreOpened}
use Rattle.sim_shared.proofs.OpenedResources.{sound_opened, opened_shown}
use Rattle.sim_shared.proofs.shared.Shared.new.Goals as goal

pub invariant_of-result : goal.invariant_of-result
invariant_of-result c =
    let opened : AreOpened c.args.resources.now c.in_ok-opened.opened.items = rw (← c.as_slice.ensures) c.in_ok-opened.ensures in
    rw c.of.ensures (sound_opened c.in_ok-opened.opened.items c.args.resources.now c.requires.fit c.requires.few opened)

pub returns-clause-shows : goal.returns-clause-shows
returns-clause-shows c =
    let opened : AreOpened c.args.resources.now c.in_ok-opened.opened.items = rw (← c.as_slice.ensures) c.in_ok-opened.ensures in
    opened_shown _ (rw c.of.ensures opened) c.in_ok-new.ensures.calendar

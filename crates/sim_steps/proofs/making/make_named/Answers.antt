use Rattle.std.proofs.Common.{◌≡◌, ◌+◌, ◌∙◌, subst, arith}
use Rattle.sim_types.specs.declared.event.EventKind.TheVariants as kind
use Rattle.sim_machine.specs.Runs.{first_calendar}
use Rattle.sim_happen_model.specs.HappenOf.{held}
use Rattle.sim_happen_model.specs.Shows.{Shows}
use Rattle.sim_happen_law.proofs.Changes.NewEvents.{is_new}
use Rattle.sim_steps_law.proofs.Kernels.Keeping.{held_by_few}
use Rattle.sim_steps_law.proofs.Kernels.Rooms.{roomier_shows}
use Rattle.sim_steps_law.proofs.Kernels.Made.{named_shown, events_named}
use Rattle.sim_steps_law.proofs.Holders.NamedHolders.{held_once, once_made, once_more}
use Rattle.sim_steps.proofs.making.make_named.Goals as goal

pub hold-requires-clause-kept : goal.hold-requires-clause-kept
hold-requires-clause-kept c = (is_new kind.Plain c.reserve.new.self c.make-event.new.self c.make-event.result c.make-event.ensures.made c.make-event.ensures.id).kept

pub hold-requires-clause-few : goal.hold-requires-clause-few
hold-requires-clause-few c =
    let made = rw c.reserve.ensures.rest at c.make-event.ensures.made in
    held_by_few 1 c.make-event.new.self (omega arith) (once_made (c.loop-made.made + 1) c.loop-made.happen c.make-event.new.self c.loop-made.invariant.held made.held) c.make-event.result

pub loop-made-preserved : goal.loop-made-preserved
loop-made-preserved c =
    let n = c.loop-made.made in
    let a = c.loop-made.happen in
    let room = roomier_shows a c.reserve.new.self.spare (first_calendar n) c.loop-made.invariant.shows in
    let made = rw c.reserve.ensures.rest at c.make-event.ensures.made in
    let id = rw c.reserve.ensures.rest at c.make-event.ensures.id in
    let shown = c.hold.ensures.held.each (first_calendar (n + 1)) (named_shown n _ _ made room) in
    record {
      shows = shown;
      left = c.hold.ensures.held.left ∙ (made.left ∙ c.loop-made.invariant.left);
      held = once_more (n + 1) a c.make-event.new.self c.hold.new.self c.make-event.result c.loop-made.invariant.held id made.held c.hold.ensures.held.held;
      events = omega (arith, shown.made, events_named (n + 1));
    }

pub returns-clause-shows : goal.returns-clause-shows
returns-clause-shows c =
    let all : c.loop-made.made ≡ c.args.named = omega (arith, c.loop-made-test.false, c.loop-made.auto.made-end) in
    subst (λ n. Shows c.loop-made.happen (first_calendar n)) all c.loop-made.invariant.shows

pub returns-clause-held : goal.returns-clause-held
returns-clause-held c =
    let all : c.loop-made.made ≡ c.args.named = omega (arith, c.loop-made-test.false, c.loop-made.auto.made-end) in
    subst (λ n. held c.loop-made.happen ≡ held_once (n + 1)) all c.loop-made.invariant.held

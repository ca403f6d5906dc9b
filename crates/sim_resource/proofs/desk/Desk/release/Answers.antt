use Rattle.std.proofs.Common.{arith, length, ◌≡◌, ◌≤◌, false, ◌∙◌, sym}
use Rattle.std.specs.List.{list_any}
use Rattle.sim_machine.specs.Events.{is_same}
use Rattle.sim_shared_model.proofs.LeftOut.{none_any}
use Rattle.sim_resource.proofs.DeskChanges.{sound_released, fewer_users}
use Rattle.sim_resource.proofs.desk.Desk.release.Goals as goal

pub invariant_of-self : goal.invariant_of-self
invariant_of-self c =
    let a = c.self.inside in
    let left = c.remove.ensures in
    let fewer : length c.remove.new.self.users ≤ length a.users.users = rw left.others (fewer_users c.args.request a.users.users) in (
      sound_released a.kind a.capacity a.queue.items a.users c.self.invariant.0 c.args.request c.remove.new.self left.others left.ranked,
      record { places = c.self.invariant.1.places; slots = omega (arith, c.self.invariant.1.slots, c.self.invariant.0.within, fewer, left.spare) },
    )

pub returns-clause-kept : goal.returns-clause-kept
returns-clause-kept c = λ no.
    let a = c.self.inside in
    let none : list_any (λ u. is_same u.request c.args.request) a.users.users ≡ false = sym c.remove.ensures.used ∙ no in
    rw (c.remove.ensures.others, none_any (λ u. is_same u.request c.args.request) a.users.users none) c.self.view_is

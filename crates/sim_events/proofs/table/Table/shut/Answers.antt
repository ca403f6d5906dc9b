use Rattle.std.proofs.Common.{true, refl}
use Rattle.sim_events.specs.declared.slot.Slot.{Slot}
use Rattle.sim_happen_model.specs.Changes.{with_cancelled}
use Rattle.sim_events.proofs.Rewriting.{is_kept, rewrites_slot}
use Rattle.sim_events.proofs.Forgetting.{Forgotten, forgotten_slot}
use Rattle.sim_events.proofs.table.Table.shut.Goals as goal

pub forget_unneeded-requires-clause-store : goal.forget_unneeded-requires-clause-store
forget_unneeded-requires-clause-store c =
    let i = c.self.inside in
    let x = c.index_mut.result.now in
    let r = rewrites_slot i.index.places i.store i.left c.self.invariant c.args.event c.key_of-key.result x c.key_of-key.ensures c.index_mut.ensures.value
    (record x { cancelled = true }) with_cancelled refl refl refl refl in
    record { left = i.left; stored = r.stored }

done : (c : goal.After-forget_unneeded)
    → Forgotten c.self.inside.index c.self.inside.store c.self.inside.left c.forget_unneeded.new.index c.forget_unneeded.new.store c.self.inside.left
    c.args.event with_cancelled
done c =
    let i = c.self.inside in
    let t = c.self.invariant in
    let at = c.key_of-key.ensures in
    let found = c.index_mut.ensures.value in
    let x = c.index_mut.result.now in
    let y : Slot = record x { cancelled = true } in
    let r = rewrites_slot i.index.places i.store i.left t c.args.event c.key_of-key.result x at found y with_cancelled refl refl refl refl in
    let settled = (t.in_order c.args.event (is_kept _ _ _ t c.args.event c.key_of-key.result at)).1 in
    forgotten_slot i.index c.forget_unneeded.new.index i.store c.forget_unneeded.new.store i.left t c.args.event c.key_of-key.result x y with_cancelled at found
    r settled c.forget_unneeded.ensures

pub invariant_of-self : goal.invariant_of-self
invariant_of-self c = (done c).sound

pub returns-clause-events : goal.returns-clause-events
returns-clause-events c = rw (← c.self.view_is) (done c).events

pub returns-clause-left : goal.returns-clause-left
returns-clause-left c = rw (← c.self.view_is) (done c).left

pub returns-clause-kept_and_spare : goal.returns-clause-kept_and_spare
returns-clause-kept_and_spare c = rw (← c.self.view_is) (done c).all

pub returns-clause-callbacks : goal.returns-clause-callbacks
returns-clause-callbacks c = rw (← c.self.view_is) (done c).callbacks

pub returns-clause-conditions : goal.returns-clause-conditions
returns-clause-conditions c = rw (← c.self.view_is) (done c).conditions

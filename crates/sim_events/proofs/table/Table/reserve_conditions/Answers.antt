use Rattle.std.proofs.Common.{refl, arith}
use Rattle.sim_events.proofs.Slabs.{reserved_get, reserved_len}
use Rattle.sim_events.proofs.Extending.{sound_reserved}
use Rattle.sim_events.proofs.table.Table.reserve_conditions.Goals as goal

pub invariant_of-self : goal.invariant_of-self
invariant_of-self c =
    let t = c.self.invariant in
    let parts = c.reserve.ensures.rest_kept in
    sound_reserved _ c.self.inside.store (record c.self.inside.store { parts = c.reserve.new.self }) _ t (λ k. refl) (record { linked = λ w o c l. l; same = λ c. refl }) (reserved_get c.self.inside.store.parts c.reserve.new.self parts) t.stored.slots_fit (omega (arith, t.stored.parts_fit, reserved_len c.self.inside.store.parts c.reserve.new.self parts, c.reserve.ensures.capacity))

use Rattle.std.proofs.Common.{refl, ap, arith}
use Rattle.sim_index.specs.IndexOf.{IndexOf}
use Rattle.sim_events.proofs.Slabs.{reserved_get, reserved_len}
use Rattle.sim_events.proofs.Extending.{sound_reserved}
use Rattle.sim_events.proofs.table.Table.reserve.Goals as goal

pub invariant_of-self-in_err-reserve-2 : goal.invariant_of-self-in_err-reserve-2
invariant_of-self-in_err-reserve-2 c =
    let t = c.self.invariant in
    let places = ap (λ (i : IndexOf). i.places) c.reserve.ensures.places in
    let slots = c.reserve-2.ensures.rest_kept in
    rw places (sound_reserved _ c.self.inside.store (record c.self.inside.store { slots = c.reserve-2.new.self }) _ t (reserved_get c.self.inside.store.slots c.reserve-2.new.self slots) (record { linked = λ w o c l. l; same = λ c. refl }) (λ k. refl) (omega (arith, t.stored.slots_fit, reserved_len c.self.inside.store.slots c.reserve-2.new.self slots, c.reserve-2.ensures.capacity)) t.stored.parts_fit)

pub invariant_of-self-2 : goal.invariant_of-self-2
invariant_of-self-2 c =
    let t = c.self.invariant in
    let places = ap (λ (i : IndexOf). i.places) c.reserve.ensures.places in
    let slots = c.reserve-2.ensures.rest_kept in
    rw places (sound_reserved _ c.self.inside.store (record c.self.inside.store { slots = c.reserve-2.new.self; nodes = c.reserve-3.new.self }) _ t (reserved_get c.self.inside.store.slots c.reserve-2.new.self slots) c.reserve-3.ensures.chains (λ k. refl) (omega (arith, t.stored.slots_fit, reserved_len c.self.inside.store.slots c.reserve-2.new.self slots, c.reserve-2.ensures.capacity)) t.stored.parts_fit)

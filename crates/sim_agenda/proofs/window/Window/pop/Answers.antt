use Rattle.std.proofs.Common.{◌≡◌, ◌-◌, ◌<◌, [], ◌∷◌, map, length, get_or, ◌∙◌, arith, rules}
use Rattle.sim_agenda.proofs.Queues.{read_at, written_at, as_many}
use Rattle.sim_agenda.proofs.Turning.{ring_full, ring_first, ring_filled, ring_takes, ring_len, ring_slides}
use Rattle.sim_agenda.proofs.window.Window.pop.Goals as goal

pub place_in_ring-place-requires-clause-number : goal.place_in_ring-place-requires-clause-number
place_in_ring-place-requires-clause-number c =
    let inside = c.self.inside in
    let xss = map (λ q. q.items) inside.queues.items in
    ring_first xss inside.turn inside.start inside.first inside.len c.self.invariant (omega (arith, c.if-self-eq0.false))

pub invariant_of-self : goal.invariant_of-self
invariant_of-self c =
    let inside = c.self.inside in
    absurd (cc (c.in_err-popped.ensures.some (ring_filled inside.queues.items inside.turn inside.start inside.first inside.len c.self.invariant
    (omega (arith, c.if-self-eq0.false)) _ c.place_in_ring-place.ensures c.index_mut.result.now c.index_mut.ensures.value)))

pub returns-in_err-popped : goal.returns-in_err-popped
returns-in_err-popped c =
    let inside = c.self.inside in
    absurd (cc (c.in_err-popped.ensures.some (ring_filled inside.queues.items inside.turn inside.start inside.first inside.len c.self.invariant
    (omega (arith, c.if-self-eq0.false)) _ c.place_in_ring-place.ensures c.index_mut.result.now c.index_mut.ensures.value)))

pub next_filled-self-inside-requires-clause-len : goal.next_filled-self-inside-requires-clause-len
next_filled-self-inside-requires-clause-len c =
    let inside = c.self.inside in
    let qs = inside.queues.items in
    let xss = map (λ q. q.items) qs in
    let first = inside.first in
    let place = c.place_in_ring-place.result in
    let x = c.in_ok-popped.popped in
    let left = c.take_front.new.series in
    let some : 0 < inside.len = omega (arith, c.if-self-eq0.false) in
    let full : length xss ≡ 64 = ring_full xss inside.turn inside.start first inside.len c.self.invariant some in
    let within : place < length qs = omega (arith, full, as_many qs, c.place_in_ring-place.ensures) in
    let at : get_or xss place [] ≡ x ∷ left.items = read_at qs place c.index_mut.result.now within c.index_mut.ensures.value ∙ c.in_ok-popped.ensures.items in
    rw (c.deref.ensures.value, written_at qs place left)
    (ring_len xss inside.turn inside.start first inside.len c.self.invariant place some c.place_in_ring-place.ensures x left.items at (inside.len - 1)
    (omega (arith, some)))

pub invariant_of-self-2 : goal.invariant_of-self-2
invariant_of-self-2 c =
    let inside = c.self.inside in
    let qs = inside.queues.items in
    let xss = map (λ q. q.items) qs in
    let first = inside.first in
    let place = c.place_in_ring-place.result in
    let x = c.in_ok-popped.popped in
    let left = c.take_front.new.series in
    let some : 0 < inside.len = omega (arith, c.if-self-eq0.false) in
    let full : length xss ≡ 64 = ring_full xss inside.turn inside.start first inside.len c.self.invariant some in
    let within : place < length qs = omega (arith, full, as_many qs, c.place_in_ring-place.ensures) in
    let at : get_or xss place [] ≡ x ∷ left.items = read_at qs place c.index_mut.result.now within c.index_mut.ensures.value ∙ c.in_ok-popped.ensures.items in
    let next = rw (c.deref.ensures.value, written_at qs place left) at c.next_filled-self-inside.ensures in
    rw (written_at qs place left)
    (ring_slides xss inside.turn inside.start first inside.len c.self.invariant place some c.place_in_ring-place.ensures x left.items at _ _ (inside.len - 1)
    (search rules) next.before next.filled (omega (arith, some)))

pub returns : goal.returns
returns c =
    let inside = c.self.inside in
    let qs = inside.queues.items in
    let xss = map (λ q. q.items) qs in
    let first = inside.first in
    let place = c.place_in_ring-place.result in
    let x = c.in_ok-popped.popped in
    let left = c.take_front.new.series in
    let some : 0 < inside.len = omega (arith, c.if-self-eq0.false) in
    let full : length xss ≡ 64 = ring_full xss inside.turn inside.start first inside.len c.self.invariant some in
    let within : place < length qs = omega (arith, full, as_many qs, c.place_in_ring-place.ensures) in
    let at : get_or xss place [] ≡ x ∷ left.items = read_at qs place c.index_mut.result.now within c.index_mut.ensures.value ∙ c.in_ok-popped.ensures.items in
    rw (← c.self.view_is) (rw (written_at qs place left)
    (ring_takes xss inside.turn inside.start first inside.len c.self.invariant place some c.place_in_ring-place.ensures x left.items at))

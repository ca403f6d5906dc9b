use Rattle.std.proofs.Common.{◌≡◌, ◌<◌, [], map, length, get_or, ◌∙◌, arith, rules}
use Rattle.std.specs.Prelude.{IsSome}
use Rattle.sim_agenda.specs.Windows.{turned}
use Rattle.sim_agenda.proofs.Queues.{read_at, as_many, window_front}
use Rattle.sim_agenda.proofs.Turning.{length_turned, ring_some, ring_full, ring_first, ring_at}
use Rattle.sim_agenda.proofs.window.Window.first.Goals as goal

pub place_in_ring-requires-clause-number : goal.place_in_ring-requires-clause-number
place_in_ring-requires-clause-number c =
    let inside = c.self.inside in
    let xss = map (λ q. q.items) inside.queues.items in
    ring_first xss inside.turn inside.start inside.first inside.len c.self.invariant (omega (arith, c.if-self-eq0.false))

pub returns : goal.returns
returns c =
    let inside = c.self.inside in
    let qs = inside.queues.items in
    let xss = map (λ q. q.items) qs in
    let first = inside.first in
    let place = c.place_in_ring.result in
    let more : 0 < inside.len = omega (arith, c.if-self-eq0.false) in
    let full : length xss ≡ 64 = ring_full xss inside.turn inside.start first inside.len c.self.invariant more in
    let inner : first < length (turned inside.turn xss) =
    omega (arith, ring_some xss inside.turn inside.start first inside.len c.self.invariant more, length_turned inside.turn xss) in
    let within : place < length qs = omega (arith, full, as_many qs, c.place_in_ring.ensures) in
    let at : get_or (turned inside.turn xss) first [] ≡ c.index.result.now.items =
    ring_at xss inside.turn inside.start first inside.len c.self.invariant place more c.place_in_ring.ensures
    ∙ read_at qs place c.index.result.now within c.index.ensures in
    let some : 0 < length c.index.result.now.items → IsSome c.front.result = λ some. c.front.ensures.variant.1 (search rules) in
    rw (← c.self.view_is)
    (window_front (turned inside.turn xss) inside.start first inside.len c.self.invariant.window c.index.result.now.items c.front.result at inner
    some c.front.ensures.lookup)

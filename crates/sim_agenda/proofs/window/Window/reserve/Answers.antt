use Rattle.std.proofs.Common.{◌≡◌, [], map, length, vec_len, sym, ap, ◌∙◌, arith, rules}
use Rattle.sim_agenda.specs.Windows.{joined, turned}
use Rattle.sim_agenda.proofs.Queues.{as_many, no_queues, joined_none, empty_at}
use Rattle.sim_agenda.proofs.Turning.{length_turned, turned_none, ring_opens}
use Rattle.sim_agenda.proofs.window.Window.reserve.Goals as goal

pub invariant_of-self-2 : goal.invariant_of-self-2
invariant_of-self-2 c =
    let inside = c.self.inside in
    let qs = inside.queues.items in
    let xss = map (λ q. q.items) qs in
    let us = c.in_ok-self-inside.field-0.items in
    let none : vec_len inside.queues ≡ 0 = search rules in
    let old : joined (turned inside.turn xss) ≡ [] =
    no_queues (turned inside.turn xss) (omega (arith, as_many qs, none, inside.queues.ok, length_turned inside.turn xss)) in
    ring_opens (map (λ q. q.items) us) inside.turn inside.start inside.len (empty_at us c.in_ok-self-inside.ensures.empty)
    (omega (arith, as_many us, c.in_ok-self-inside.ensures.len, c.in_ok-self-inside.field-0.ok)) c.self.invariant.within
    (c.self.invariant.window.all ∙ ap length old)

pub returns : goal.returns
returns c =
    let inside = c.self.inside in
    let qs = inside.queues.items in
    let xss = map (λ q. q.items) qs in
    let us = c.in_ok-self-inside.field-0.items in
    let none : vec_len inside.queues ≡ 0 = search rules in
    let old : joined (turned inside.turn xss) ≡ [] =
    no_queues (turned inside.turn xss) (omega (arith, as_many qs, none, inside.queues.ok, length_turned inside.turn xss)) in
    joined_none (turned inside.turn (map (λ q. q.items) us)) (turned_none inside.turn (map (λ q. q.items) us) (empty_at us c.in_ok-self-inside.ensures.empty)
    (omega (arith, as_many us, c.in_ok-self-inside.ensures.len, c.in_ok-self-inside.field-0.ok)) c.self.invariant.within) ∙ sym old ∙ c.self.view_is

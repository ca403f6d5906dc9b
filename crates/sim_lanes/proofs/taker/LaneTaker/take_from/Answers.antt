use Rattle.std.proofs.Common.{rules, ◌≡◌, ◌∙◌, refl, sym, to_z, of_z, w64}
use Rattle.std.proofs.lemmas.Int.{to_z-of_z}
use Rattle.sim_lanes.proofs.Taking.{found_none, took_from}
use Rattle.sim_lanes.proofs.taker.LaneTaker.take_from.Goals as goal

pub returns-then-load_tail-count-clause-none : goal.returns-then-load_tail-count-clause-none
returns-then-load_tail-count-clause-none c =
    let t = c.load_tail.ensures in
    found_none c.args.self.now c.load_tail.new.self c.args.p c.load_tail.result c.requires t.knows t.found (c.if-load_tail-count.true ∙ c.end-count.ensures.count)

pub returns-clause-some : goal.returns-clause-some
returns-clause-some c =
    let t = c.load_tail.ensures in let count = c.end-count.ensures.count in
    let value : to_z w64 (of_z w64 c.load_value-value.result) ≡ c.load_value-value.result = to_z-of_z w64 c.load_value-value.result (search rules) in
    took_from c.args.self.now c.load_tail.new.self c.load_port-port.new.self c.load_value-value.new.self c.store_head.new.self
    c.args.p c.load_tail.result c.load_port-port.result c.load_value-value.result _ c.requires t.knows t.found (λ e. c.if-load_tail-count.false (e ∙ sym count))
    c.load_port-port.ensures c.load_value-value.ensures c.store_head.ensures refl count (λ k. record { port = c.load_port-port.result; value = value k })

use Rattle.std.proofs.Common.{rules, ◌≡◌, ◌-◌, ◌∙◌, true, false, length, drop, deque_len, arith}
use Rattle.std.proofs.lemmas.Iterator.{IsFirst-from_position}
use Rattle.std.proofs.lemmas.Iterator.Consumers.{YieldsList-from_deque}
use Rattle.std.proofs.lemmas.List.{length-drop, take_all}
use Rattle.sim_stores.specs.Items.{is_in_range}
use Rattle.sim_stores.proofs.row.place_within.Goals as goal

pub returns : goal.returns
returns c =
    let within = is_in_range c.args.least c.args.greatest in
    let from = c.args.from in
    let xs = c.args.items.now.items in
    let len : deque_len c.args.items.now ≡ length xs = search rules in
    let rest = take_all (deque_len c.args.items.now - from) (drop from xs) (omega (arith, len, length-drop from xs)) in
    IsFirst-from_position _ _ _ (λ x. within x ≡ true) (λ x. within x ≡ false) c.position.ensures.ran (YieldsList-from_deque (drop from xs) (c.range.ensures.rest ∙ rest)) (λ x q k. search rules) (λ x q k. search rules)

use Rattle.std.proofs.Common.{rules, ◌≡◌, length, ◌∙◌}
use Rattle.sim_machine.specs.Events.{is_same}
use Rattle.sim_resource.proofs.Removals.{alone_of, place_found}
use Rattle.sim_resource.proofs.queue.place_of.Goals as goal

pub returns : goal.returns
returns c =
    let ws = c.args.queue.now.items in
    let alone = alone_of (λ w. w.request) c.args.request ws c.requires.apart in
    let len : c.len.result ≡ length ws = c.len.ensures ∙ c.args.queue.now.ok.0 in
    place_found (λ w. is_same w.request c.args.request) ws c.find_place.result alone len (λ i b h. search rules) c.find_place.ensures

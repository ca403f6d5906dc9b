use Rattle.std.proofs.Common.{rules, ◌≡◌, length, ◌∙◌}
use Rattle.sim_machine.specs.Events.{is_same}
use Rattle.sim_resource.proofs.Removals.{alone_of, place_found}
use Rattle.sim_resource.proofs.users.place_of.Goals as goal

pub returns : goal.returns
returns c =
    let gs = c.args.users.now.items in
    let alone = alone_of (λ g. g.user.request) c.args.request gs c.requires.apart in
    let len : c.len.result ≡ length gs = c.len.ensures ∙ c.args.users.now.ok.0 in
    place_found (λ g. is_same g.user.request c.args.request) gs c.find_place.result alone len (λ i b h. search rules) c.find_place.ensures

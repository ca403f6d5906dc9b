use Rattle.std.proofs.Common.{◌≡◌, ◌<◌, position, length, Some, sym, ◌∙◌, rules}
use Rattle.sim_machine.specs.Events.{is_same}
use Rattle.sim_resource.proofs.Removals.{alone_of, taken_out, place_within, one_passes, none_passes, none_taken}
use Rattle.sim_resource.proofs.users.take_out.Goals as goal

pub returns-in-Some-clause-used : goal.returns-in-Some-clause-used
returns-in-Some-clause-used c =
    let at : position (λ g. is_same g.user.request c.args.request) c.args.users.now.items ≡ Some c.in-Some.place = sym c.place_of.ensures ∙ c.in-Some.is in
    sym (one_passes (λ g. is_same g.user.request c.args.request) c.args.users.now.items c.in-Some.place at)

pub returns-in-Some-clause-others : goal.returns-in-Some-clause-others
returns-in-Some-clause-others c =
    let gs = c.args.users.now.items in
    let i = c.in-Some.place in
    let at : position (λ g. is_same g.user.request c.args.request) gs ≡ Some i = sym c.place_of.ensures ∙ c.in-Some.is in
    let within : i < length gs = place_within (λ g. is_same g.user.request c.args.request) gs i at in
    let alone = alone_of (λ g. g.user.request) c.args.request gs c.requires.apart in
    let left = taken_out (λ g. is_same g.user.request c.args.request) gs i alone at in
    search rules

pub returns-in-None-clause-used : goal.returns-in-None-clause-used
returns-in-None-clause-used c =
    sym (none_passes (λ g. is_same g.user.request c.args.request) c.args.users.now.items (sym c.place_of.ensures ∙ c.in-None.is))

pub returns-in-None-clause-others : goal.returns-in-None-clause-others
returns-in-None-clause-others c =
    sym (none_taken (λ g. is_same g.user.request c.args.request) c.args.users.now.items (sym c.place_of.ensures ∙ c.in-None.is))

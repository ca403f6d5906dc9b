use Rattle.std.proofs.Common.{◌≡◌, ◌<◌, position, length, Some, sym, ◌∙◌, rules}
use Rattle.sim_machine.specs.Events.{is_same}
use Rattle.sim_resource.proofs.Removals.{alone_of, taken_out, place_within, one_passes, none_passes, none_taken}
use Rattle.sim_resource.proofs.queue.take_out.Goals as goal

pub returns-in-Some-clause-waited : goal.returns-in-Some-clause-waited
returns-in-Some-clause-waited c =
    let at : position (λ w. is_same w.request c.args.request) c.args.queue.now.items ≡ Some c.in-Some.place = sym c.place_of.ensures ∙ c.in-Some.is in
    sym (one_passes (λ w. is_same w.request c.args.request) c.args.queue.now.items c.in-Some.place at)

pub returns-in-Some-clause-others : goal.returns-in-Some-clause-others
returns-in-Some-clause-others c =
    let at : position (λ w. is_same w.request c.args.request) c.args.queue.now.items ≡ Some c.in-Some.place = sym c.place_of.ensures ∙ c.in-Some.is in
    let within : c.in-Some.place < length c.args.queue.now.items = place_within (λ w. is_same w.request c.args.request) c.args.queue.now.items c.in-Some.place at in
    let left = taken_out (λ w. is_same w.request c.args.request) c.args.queue.now.items c.in-Some.place (alone_of (λ w. w.request) c.args.request c.args.queue.now.items c.requires.apart) at in
    search rules

pub returns-in-None-clause-waited : goal.returns-in-None-clause-waited
returns-in-None-clause-waited c =
    sym (none_passes (λ w. is_same w.request c.args.request) c.args.queue.now.items (sym c.place_of.ensures ∙ c.in-None.is))

pub returns-in-None-clause-others : goal.returns-in-None-clause-others
returns-in-None-clause-others c =
    sym (none_taken (λ w. is_same w.request c.args.request) c.args.queue.now.items (sym c.place_of.ensures ∙ c.in-None.is))

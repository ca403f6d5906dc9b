use Rattle.std.proofs.Common.{◌≡◌, ◌∙◌, count_by, rules}
use Rattle.sim_code.proofs.GivenVariables.{gives, count_of_given}
use Rattle.sim_code.proofs.draft.count_given.Goals as goal

pub returns : goal.returns
returns c = let e : c.count.result ≡ count_by (λ slot. gives slot.role) c.args.slots.now = search rules in e ∙ count_of_given c.args.slots.now

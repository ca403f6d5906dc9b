use Rattle.std.proofs.Common.{rules, refl}
use Rattle.sim_plain.proofs.plain.PlainAnyBody.poll.Goals as goal

-- it is one poll
pub returns-clause-polls : goal.returns-clause-polls
returns-clause-polls g c = record {
  between = c.args.self.now;
  before = refl;
  after = record { asks = search rules; leaves = search rules };
}

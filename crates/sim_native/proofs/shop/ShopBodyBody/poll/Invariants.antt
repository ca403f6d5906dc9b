use Rattle.std.proofs.Common.{◌≡◌, ◌<◌, ◌-◌}
use Rattle.sim_procs.specs.Premises.{CanBeTold}
use Rattle.sim_procs.specs.QuietPolls.{QuietPolls, told_after}
use Rattle.sim_script_law.specs.ScriptMembers.{script_body}
use Rattle.sim_native.proofs.shop.ShopBodyBody.poll.Given as goal

-- so many polls were made in a row in which it asked for nothing, and it can be told this next
abbrev pub invariant-loop-quiet : goal.invariant-loop-quiet
invariant-loop-quiet l =
    record {
      most : l.quiet < l.most;
      polls : QuietPolls script_body l.code l.now l.fn.signal l.quiet l.fn.self l.self;
      told : l.told ≡ told_after l.quiet l.fn.signal;
      can : CanBeTold script_body l.code l.self l.told;
    }

abbrev pub decreases-loop-quiet : goal.decreases-loop-quiet
decreases-loop-quiet l = l.most - l.quiet

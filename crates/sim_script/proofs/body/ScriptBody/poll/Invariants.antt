use Rattle.std.proofs.Common.{◌≤◌, ◌-◌, IsFalse}
use Rattle.sim_types.specs.declared.event.Signal.TheVariants as signal
use Rattle.sim_procs.specs.Premises.{CanBeTold}
use Rattle.sim_procs.specs.QuietPolls.{Polls}
use Rattle.sim_script_law.specs.ScriptMembers.{script_body}
use Rattle.sim_script.specs.StatementGroups.{asked_where}
use Rattle.sim_script.proofs.body.ScriptBody.poll.Given as goal

-- so many polls were made in a row, and where it asked for nothing it can be told next that this is done
abbrev pub invariant-loop-asks : goal.invariant-loop-asks
invariant-loop-asks l =
    record {
      most : l.made ≤ l.most;
      polls : Polls script_body l.code l.now l.fn.signal l.made l.fn.self (asked_where l.asks l.asked) l.self;
      told : IsFalse l.asks → CanBeTold script_body l.code l.self signal.Done;
    }

abbrev pub decreases-loop-asks : goal.decreases-loop-asks
decreases-loop-asks l = l.most - l.made

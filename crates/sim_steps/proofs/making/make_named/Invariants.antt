use Rattle.std.proofs.Common.{◌≡◌, ◌+◌, length}
use Rattle.sim_machine.specs.Runs.{first_calendar}
use Rattle.sim_happen_model.specs.HappenOf.{held}
use Rattle.sim_happen_model.specs.Shows.{Shows}
use Rattle.sim_steps_law.proofs.Holders.NamedHolders.{held_once}
use Rattle.sim_steps.proofs.making.make_named.Given as goal

-- so many named events are made, each of which is held
abbrev pub invariant-loop-made : goal.invariant-loop-made
invariant-loop-made l =
    record {
      shows : Shows l.happen (first_calendar l.made);
      left : l.happen.left ≡ l.initial.happen.left;
      held : held l.happen ≡ held_once (l.made + 1);
      events : length l.happen.events ≡ l.made + 1;
    }

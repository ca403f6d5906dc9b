use Rattle.std.proofs.Common.{◌≡◌, ◌≤◌, length, vec_len}
use Rattle.std.specs.Vec.{vec_capacity}
use Rattle.sim_shared.proofs.OpenedResources.{HaveOpened}
use Rattle.sim_shared.proofs.opening.open_all.Given as goal

-- so many have been opened, and there is room for all
abbrev pub invariant-loop-i : goal.invariant-loop-i
invariant-loop-i l =
    record {
      opened : HaveOpened l.i l.resources l.opened.items;
      count : length l.opened.items ≡ l.i;
      len : vec_len l.opened ≡ l.i;
      room : length l.resources ≤ vec_capacity l.opened;
    }

use Rattle.std.proofs.Common.{◌≡◌, ◌≤◌, vec_len, vec_capacity}
use Rattle.sim_host.proofs.Stepping.{HaveStepped}
use Rattle.sim_host.proofs.all.step_each.Given as goal

-- the runs so far were stepped, and there is room for what the others come to
abbrev pub invariant-loop-run : goal.invariant-loop-run
invariant-loop-run l =
    record {
      so_far : HaveStepped l.scenario l.initial.runs l.runs l.run-index l.over l.room.items;
      few : vec_len l.room ≤ l.run-index;
      room : vec_capacity l.room ≡ vec_capacity l.initial.room;
    }

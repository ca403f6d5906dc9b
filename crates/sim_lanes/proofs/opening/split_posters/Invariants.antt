use Rattle.std.proofs.Common.{◌≡◌}
use Rattle.std.specs.Arc.{arc_value}
use Rattle.sim_lanes.specs.Opening.{HasSplit, fresh_posters}
use Rattle.sim_lanes.proofs.opening.split_posters.Given as goal

abbrev pub invariant-loop-p : goal.invariant-loop-p
invariant-loop-p l = record {
  split : HasSplit (arc_value l.table).shared.key (arc_value l.table).shared.table_id l.seat.table_id l.seat.me l.p;
  posters : l.posters.items ≡ fresh_posters (arc_value l.table).shared.table_id (arc_value l.table).shared.key l.p;
}

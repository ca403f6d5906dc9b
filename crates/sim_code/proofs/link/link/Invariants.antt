use Rattle.std.proofs.Common.{◌≡◌, ◌++◌, take, drop}
use Rattle.sim_language.specs.Links.{closings, linked}
use Rattle.sim_code.proofs.link.link.Given as goal

abbrev pub invariant-loop-place : goal.invariant-loop-place
invariant-loop-place l = record {
  code : l.code.items ≡ take l.place l.initial.code.items ++ linked l.place (drop l.place l.initial.code.items);
  closings : l.closings ≡ closings l.place (drop l.place l.initial.code.items);
}

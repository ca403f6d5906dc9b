use Rattle.std.proofs.Common.{◌≡◌, drop}
use Rattle.sim_procs.specs.RecordOf.{scope_of}
use Rattle.sim_procs.proofs.scopes.Scopes.of_request.Given as goal

-- the scope is not among those looked at
abbrev pub invariant-loop-scope : goal.invariant-loop-scope
invariant-loop-scope l = scope_of l.request (drop l.scope-index l.scope-items) ≡ scope_of l.request l.scope-items

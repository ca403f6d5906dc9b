use Rattle.std.specs.Prelude.{◌≡◌, length}
use Rattle.std.specs.List.{AllPass}
use Rattle.sim_machine.specs.Setups.{start_fits}
use Rattle.sim_bodies.specs.Travellers.{traveller_facts}
use Rattle.sim_bodies.proofs.tests.land_starts.Given as goal

-- the starts so far fit
abbrev pub invariant-loop-kind : goal.invariant-loop-kind
invariant-loop-kind g l = record { pass : AllPass (start_fits traveller_facts) l.starts; few : length l.starts ≡ l.kind-index }

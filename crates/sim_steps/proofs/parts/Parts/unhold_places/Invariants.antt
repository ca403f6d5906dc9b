use Rattle.sim_steps_model.specs.PartsOf.{KeepsButHappen}
use Rattle.sim_steps_law.proofs.Holders.HeldPlaces.{OwesBehind}
use Rattle.sim_steps.proofs.parts.Parts.unhold_places.Given as goal

-- what stands in the places from here on is to be given back
abbrev pub invariant-loop-at : goal.invariant-loop-at
invariant-loop-at g l =
    record {
      owes : OwesBehind g.B.LawfulBody.body (g.B.Body.events_held l.body) l.at l.initial.self l.self;
      rest : KeepsButHappen l.initial.self l.self;
    }

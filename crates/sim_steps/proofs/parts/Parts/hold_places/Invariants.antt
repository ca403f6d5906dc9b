use Rattle.std.proofs.Common.{ℕ}
use Rattle.sim_happen_model.specs.TableOf.{IsKept}
use Rattle.sim_accounts.proofs.ChangedPlaces.{in_place}
use Rattle.sim_steps_model.specs.PartsOf.{KeepsButHappen}
use Rattle.sim_steps_law.proofs.Holders.HeldPlaces.{HoldsBefore}
use Rattle.sim_steps.proofs.parts.Parts.hold_places.Given as goal

-- what stands in the places so far is held, and what stands in any is kept
abbrev pub invariant-loop-at : goal.invariant-loop-at
invariant-loop-at g l =
    record {
      holds : HoldsBefore g.B.LawfulBody.body (g.B.Body.events_held l.body) l.at l.initial.self l.self;
      kept : (i : ℕ) → IsKept l.self.shared.happen.events (in_place (g.B.Body.events_held l.body) i);
      rest : KeepsButHappen l.initial.self l.self;
    }

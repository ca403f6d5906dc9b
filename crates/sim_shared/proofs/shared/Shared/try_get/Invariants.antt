use Rattle.std.proofs.Common.{◌≡◌, [], ◌∷◌}
use Rattle.sim_machine.specs.Trying as trying
use Rattle.sim_shared_model.specs.Measuring.{ChangesOnlyAt}
use Rattle.sim_shared_model.specs.Serving.{DoesPart, AreOpenAt, count_waiting_at}
use Rattle.sim_shared.proofs.shared.Shared.try_get.Given as goal

-- a part of the try is done, and who waits here is open
abbrev pub invariant-gets : goal.invariant-gets
invariant-gets l =
    record {
      part : DoesPart (trying.try_get l.fn.self.setup l.res) l.fn.self l.self;
      are_open : AreOpenAt l.res l.self;
      setup : l.self.setup ≡ l.fn.self.setup;
      spare : l.self.happen.spare ≡ l.fn.self.happen.spare;
      used : l.self.used ≡ l.fn.self.used;
      touched : ChangesOnlyAt (l.res ∷ []) l.fn.self l.self;
    }

-- who waits
abbrev pub decreases-gets : goal.decreases-gets
decreases-gets l = count_waiting_at l.res l.self

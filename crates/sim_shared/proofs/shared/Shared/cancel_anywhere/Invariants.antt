use Rattle.std.proofs.Common.{◌≡◌, ◌<◌, ℕ, false, length}
use Rattle.std.specs.Prelude.{slice_get, Some}
use Rattle.sim_shared_model.specs.AnyShared.{SharedResource}
use Rattle.sim_shared_model.specs.Waiting.{waits_at}
use Rattle.sim_shared.proofs.shared.Shared.cancel_anywhere.Given as goal

-- the event waits at none of the places so far, and all is as it was
abbrev pub invariant-loop-at : goal.invariant-loop-at
invariant-loop-at l =
    record {
      same : l.self ≡ l.fn.self;
      end : l.at-end ≡ length l.fn.self.resources;
      none : (n : ℕ) (x : SharedResource) → n < l.at → slice_get l.fn.self.resources n ≡ Some x → waits_at l.event x ≡ false;
    }

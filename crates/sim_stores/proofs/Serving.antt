-- One waiter of a queue is served.
use Rattle.std.proofs.Common.{◌≡◌, ◌<◌, List, [], ◌∷◌, length, Option, Some, None, refl, subst, sym, arith}
use Rattle.std.proofs.lemmas.List.Elements.{All-nil}
use Rattle.sim_types.specs.declared.event.EventId.{EventId}
use Rattle.sim_machine.specs.Attempts as attempts
use Rattle.sim_machine.specs.Trying.{Reach, First, WhileServed}
use Rattle.sim_machine.specs.Trying as trying
use Rattle.sim_shared_model.specs.StoreQueues.{looked_at, ServesOne}

-- a try looks at the first in any case
pub looks_at_first : {W : Type 0} (reach : Reach) (w : W) (ws : List W) → 0 < length (looked_at reach (w ∷ ws))
looks_at_first First w ws = omega arith
looks_at_first WhileServed w ws = omega arith
looks_at_first trying.All w ws = omega arith

-- the first of a queue is served
unfoldable pub serves_first : {W : Type 0} (reach : Reach) (attempt : W → Option attempts.Served) (of : W
    → EventId) (ws left : List W) (w : W) (deed : attempts.Served)
    → ws ≡ w ∷ left → attempt w ≡ Some deed → ServesOne reach attempt of ws left (record { event = of w; value = deed.value })
serves_first reach attempt of ws left w deed stood served =
    record {
      passed = [];
      waiter = w;
      behind = left;
      deed = deed;
      stood = stood;
      stay = refl;
      reached = subst (λ vs. 0 < length (looked_at reach vs)) (sym stood) (looks_at_first reach w left);
      unserved = All-nil (λ v. attempt v ≡ None);
      served = served;
      told = refl;
    }

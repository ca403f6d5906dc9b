-- An event is one of those that wait, told by the waiters.
use Rattle.std.proofs.Common.{◌≡◌, ◌||◌, List, [], ◌∷◌, refl, ap, map}
use Rattle.std.specs.List.{list_any}
use Rattle.sim_types.specs.declared.event.EventId.{EventId}
use Rattle.sim_machine.specs.Events.{is_same}

pub any_of_events : {W : Type 0} (event : W → EventId) (e : EventId) (ws : List W) →
    list_any (λ w. is_same (event w) e) ws ≡ list_any (λ f. is_same f e) (map event ws)
any_of_events event e [] = refl
any_of_events event e (w ∷ ws) = ap (λ b. is_same (event w) e || b) (any_of_events event e ws)

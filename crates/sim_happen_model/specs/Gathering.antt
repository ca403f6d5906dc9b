-- How the value of a condition is gathered from what is kept.
use Rattle.std.specs.Prelude.{◌≡◌, ℕ, zero, suc, List, [], ◌∷◌, ◌++◌, filter, flat_map, Option, is_some, if◌then◌else◌}
use Rattle.sim_types.specs.declared.event.EventId.{EventId}
use Rattle.sim_machine.specs.Conditions.{first_places}
use Rattle.sim_happen_model.specs.TableOf.{Kept, kept_at, kept_condition}

-- the events that are no conditions, of which e is made, down to this depth
abbrev pub leaves_in : ℕ → List (Option Kept) → EventId → List EventId
leaves_in zero events e = []
leaves_in (suc depth) events e =
    if is_some (kept_at events e).event.condition
    then flat_map (leaves_in depth events) (kept_condition events e).members
    else e ∷ []

-- those that are processed, each once
abbrev pub value_from : List (Option Kept) → List EventId → List EventId
value_from events es = first_places (filter (λ e. (kept_at events e).event.processed) es)

-- a value gets what these leaves add to it
pub record Gathers (events : List (Option Kept)) (leaves old new : List EventId) : Type 0 where
  pub each : (done : List EventId) → old ≡ value_from events done → new ≡ value_from events (done ++ leaves)

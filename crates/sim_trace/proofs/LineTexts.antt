-- The words of an event line, joined.
use Rattle.std.proofs.Common.{◌≡◌, ℕ, List, ◌∷◌, ◌++◌, refl}
use Rattle.std.specs.List.{join_with_byte}
use Rattle.sim_types.specs.declared.event.Outcome.{Outcome}
use Rattle.sim_types.specs.declared.event.Outcome.TheVariants as outcome
use Rattle.sim_trace.specs.Texts.{outcome_words}

pub join_outcome : (w : List ℕ) (o : Outcome) → join_with_byte 32 (w ∷ outcome_words o) ≡ w ++ 32 ∷ join_with_byte 32 (outcome_words o)
join_outcome w (outcome.Ok value) = refl
join_outcome w (outcome.Fail thrown) = refl

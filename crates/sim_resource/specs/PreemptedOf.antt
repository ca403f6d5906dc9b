-- What is remembered of requests that were preempted.
use Rattle.std.specs.Prelude.{◌≡◌, ℕ, List, Option, Some, All, slice_get, bit_and}
use Rattle.sim_types.specs.declared.event.EventId.{EventId}
use Rattle.sim_machine.specs.State.{User}

-- the requests that are remembered, each at its place, and the bits of a number that name a place
pub record PreemptedOf : Type 0 where
  pub places : List (Option EventId)
  pub lowest_bits : ℕ

-- the place of a request
abbrev pub place_of_request : ℕ → EventId → ℕ
place_of_request lowest_bits request = bit_and request.0 lowest_bits

-- a request is remembered: it stands at its place
abbrev pub IsRemembered : PreemptedOf → EventId → Type 0
IsRemembered p request = slice_get p.places (place_of_request p.lowest_bits request) ≡ Some (Some request)

-- none of these users has a request that is remembered
abbrev pub NoUserIsRemembered : PreemptedOf → List User → Type 0
NoUserIsRemembered p us = All (λ u. IsRemembered p u.request → ⊥) us

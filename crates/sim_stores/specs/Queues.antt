-- Waiters that leave a queue. Only the code of this crate knows it.
use Rattle.std.specs.Prelude.{◌≡◌, true, false, ℕ, ◌<◌, ℤ, ◌≤ℤ◌, ◌<ℤ◌, List, ◌∷◌, length, take, slice_index_or, Option, All, MatchOption}
use Rattle.std.specs.List.{list_any}
use Rattle.sim_types.specs.declared.event.EventId.{EventId}
use Rattle.sim_machine.specs.Events.{is_same}
use Rattle.sim_shared_model.specs.declared.stock.WaitingAmount.{WaitingAmount}

-- the first is taken out of a queue, and its amount is at most so much
pub record PopsWithin (most : ℤ) (old : List WaitingAmount) (first : WaitingAmount) (after : List WaitingAmount) : Type 0 where
  pub stood : old ≡ first ∷ after
  pub fits : first.amount ≤ℤ most

-- the first, if there is one, has an amount that is more, and all stays
pub record PopsNone (most : ℤ) (old after : List WaitingAmount) : Type 0 where
  pub more : All (λ w. most <ℤ w.amount) (take 1 old)
  pub same : after ≡ old

-- one or none is taken out
abbrev pub PopsIfWithin : ℤ → List WaitingAmount → Option WaitingAmount → List WaitingAmount → Type 0
PopsIfWithin most old result after = MatchOption result (PopsNone most old after) (λ first. PopsWithin most old first after)

-- who waits at this place of a queue is of this event
pub record StandsAt {W : Type 0} (event : W → EventId) (e : EventId) (ws : List W) (at : ℕ) : Type 0 where
  pub waiter : W
  pub within : at < length ws
  pub there : waiter ≡ slice_index_or ws at waiter
  pub same : is_same (event waiter) e ≡ true

-- the place of a waiter of this event, if there is one
abbrev pub IsPlaceOf : {W : Type 0} → (W → EventId) → EventId → List W → Option ℕ → Type 0
IsPlaceOf event e ws result = MatchOption result (list_any (λ w. is_same (event w) e) ws ≡ false) (StandsAt event e ws)

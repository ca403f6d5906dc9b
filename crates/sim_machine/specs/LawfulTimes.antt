-- Lawful times: the agenda holds what is triggered, from now to the last time.
use Rattle.std.specs.Prelude.{Bool, ℕ, ◌^◌, pos, ◌+◌, ◌≡◌, ◌≢◌, ◌<◌, ◌≤ℤ◌, count_by, is_some, All, AllPairs}
use Rattle.sim_types.specs.declared.event.EventId.{EventId}
use Rattle.sim_machine.specs.State.{EventOf, Calendar}
use Rattle.sim_machine.specs.Events.{is_same, is_triggered}
use Rattle.sim_machine.specs.Standing.{one_if}

-- whether an event is triggered, or was
abbrev pub has_outcome : EventOf → Bool
has_outcome x = is_some x.outcome

-- how many events have an outcome
abbrev pub outcomes : Calendar → ℕ
outcomes c = count_by has_outcome c.events

-- the agenda has each event that is triggered and not yet processed, once, and its times are from now to the last one;
-- its numbers differ and were given out, so one entry is due; and it was given an entry for each event with an outcome
-- but event 0, which has its outcome from the start
pub record LawfulTimes (c : Calendar) : Type 0 where
  pub not_negative : pos 0 ≤ℤ c.time
  pub in_limit : c.time ≤ℤ pos (2 ^ 62)
  pub distinct : AllPairs (λ x y. x.key.number ≢ y.key.number) c.agenda
  pub numbers : All (λ x. x.key.number < c.scheduled) c.agenda
  pub later : All (λ x. c.time ≤ℤ x.key.time) c.agenda
  pub in_time : All (λ x. x.key.time ≤ℤ pos (2 ^ 62)) c.agenda
  pub triggered : (e : EventId) → count_by (λ x. is_same x.event e) c.agenda ≡ one_if (is_triggered c e)
  pub scheduled : c.scheduled + 1 ≡ outcomes c

-- How many events have an outcome, as events are made and changed.
use Rattle.std.proofs.Common.{◌≡◌, ℕ, Bool, ◌+◌, ◌<◌, ◌≤◌, true, false, List, [], ◌∷◌, length, refl, ap, ◌∙◌, arith, ◌⊎◌, inl, inr, zero, suc, replicate}
use Rattle.std.specs.Prelude.{cond, count_by}
use Rattle.std.proofs.lemmas.Bool.{cases_lt}
use Rattle.std.proofs.lemmas.List.{set_past}
use Rattle.std.proofs.lemmas.List.Sums.{sum_by-append, sum_by-cons, sum_by-set, count_by-le-length}
use Rattle.sim_types.specs.declared.event.EventId.{EventId}
use Rattle.sim_types.specs.declared.event.EventKind.{EventKind}
use Rattle.sim_types.specs.declared.event.EventKind.TheVariants as kind
use Rattle.sim_machine.specs.State.{EventOf, Calendar}
use Rattle.sim_machine.specs.Events.{event_at, pending_event, change_event}
use Rattle.sim_machine.specs.Triggering.{make}
use Rattle.sim_machine.specs.Runs.{event_zero, first_calendar}
use Rattle.sim_machine.specs.LawfulTimes.{LawfulTimes, has_outcome, outcomes}

-- how much an event counts
abbrev counts : EventOf → ℕ
counts x = cond (has_outcome x) 1 0

changed_from : (n old new m : ℕ) → n + old ≡ m + new → old ≡ 0 → new ≡ 1 → n ≡ m + 1
changed_from n old new m sum none one = omega (arith, sum, none, one)

same_from : (n old new m : ℕ) → n + old ≡ m + new → new ≡ old → n ≡ m
same_from n old new m sum same = omega (arith, sum, same)

module _ (e : EventId) (change : EventOf → EventOf) (c : Calendar) where
  abbrev had_outcome : Bool
  had_outcome = has_outcome (event_at c e)

  abbrev gets_outcome : Bool
  gets_outcome = has_outcome (change (event_at c e))

  abbrev after_change : ℕ
  after_change = outcomes (change_event e change c)

  changed_sum : e.0 < length c.events → outcomes (change_event e change c) + counts (event_at c e) ≡ outcomes c + counts (change (event_at c e))
  changed_sum made = sum_by-set counts c.events e.0 (change (event_at c e)) (pending_event kind.Plain) made

  -- an event that had none gets one
  pub outcomes_triggered : e.0 < length c.events → had_outcome ≡ false → gets_outcome ≡ true → after_change ≡ outcomes c + 1
  outcomes_triggered made none some =
      changed_from (outcomes (change_event e change c)) (counts (event_at c e)) (counts (change (event_at c e))) (outcomes c) (changed_sum made) (rw none refl) (rw some refl)

  outcomes_set : gets_outcome ≡ had_outcome → (e.0 < length c.events) ⊎ (length c.events ≤ e.0) → after_change ≡ outcomes c
  outcomes_set same (inl made) =
      same_from (outcomes (change_event e change c)) (counts (event_at c e)) (counts (change (event_at c e))) (outcomes c) (changed_sum made) (rw same refl)
  outcomes_set same (inr unmade) = ap (count_by has_outcome) (set_past c.events e.0 (change (event_at c e)) unmade)

  -- a change that leaves its outcome
  pub outcomes_changed : ((x : EventOf) → has_outcome (change x) ≡ has_outcome x) → after_change ≡ outcomes c
  outcomes_changed same = outcomes_set (same (event_at c e)) (cases_lt e.0 (length c.events))

-- a pending event more
pub outcomes_made : (k : EventKind) (c : Calendar) → outcomes (make k c) ≡ outcomes c
outcomes_made k c = sum_by-append counts c.events (pending_event k ∷ []) ∙ omega arith

-- the named events have none at first
outcomes_named : (n : ℕ) → count_by has_outcome (replicate n (pending_event kind.Plain)) ≡ 0
outcomes_named zero = refl
outcomes_named (suc n) = outcomes_named n

-- and event 0 has one
pub outcomes_first : (n : ℕ) → 0 + 1 ≡ outcomes (first_calendar n)
outcomes_first n =
    let named : List EventOf = replicate n (pending_event kind.Plain) in
    let later : count_by has_outcome named ≡ 0 = outcomes_named n in
    let all : outcomes (first_calendar n) ≡ 1 + count_by has_outcome named = sum_by-cons counts event_zero named in
    omega (arith, later, all)

less_than : (n m k : ℕ) → n + 1 ≡ m → m ≤ k → n < k
less_than n m k same most = omega (arith, same, most)

-- so fewer events were scheduled than made
pub scheduled_below : (c : Calendar) → LawfulTimes c → c.scheduled < length c.events
scheduled_below c h = less_than c.scheduled (outcomes c) (length c.events) h.scheduled (count_by-le-length has_outcome c.events)

-- The interruption that a preemption makes.
use Rattle.std.proofs.Common.{◌≡◌, ◌<◌, ℤ, pos, ◌+ℤ◌, ◌∷◌, length, Some, true, ap, ◌∙◌, arith}
use Rattle.std.proofs.lemmas.Int.{ints}
use Rattle.sim_types.specs.declared.event.EventId.{EventId}
use Rattle.sim_types.specs.declared.event.ProcId.{ProcId}
use Rattle.sim_types.specs.declared.event.Throw.{Throw}
use Rattle.sim_types.specs.declared.event.EventKind.TheVariants as kind
use Rattle.sim_types.specs.declared.event.Outcome.TheVariants as outcome
use Rattle.sim_types.specs.declared.event.Callback.TheVariants as callback
use Rattle.sim_machine.specs.State.{EventOf, Calendar}
use Rattle.sim_machine.specs.Events.{event_at, next_event, defuse, register}
use Rattle.sim_machine.specs.Triggering.{make, make_interruption}
use Rattle.sim_machine_law.specs.Desks.{urgent_entry}
use Rattle.sim_machine_law.proofs.Events.EventLaws.{change_event-same, change_event-length, make-length}

module _ (p : ProcId) (t : Throw) (c : Calendar) where
  abbrev new : EventId
  new = next_event c

  abbrev made : Calendar
  made = register new (callback.Strike p) (make kind.Interrupt c)

  in_made : new.0 < length made.events
  in_made = omega (arith, make-length kind.Interrupt c)

  in_defused : new.0 < length (defuse new made).events
  in_defused = omega (arith, in_made, change_event-length new (λ x. record x { defused = true }) made)

  scheduled : event_at (make_interruption p t c) new ≡ record (event_at (defuse new made) new) { outcome = Some (outcome.Fail t) }
  scheduled =
      change_event-same new (λ x. record x { outcome = Some (outcome.Fail t) }) (record (make_interruption p t c) { events = (defuse new made).events }) in_defused

  pub throws : (event_at (make_interruption p t c) new).outcome ≡ Some (outcome.Fail t)
  throws = ap (λ (x : EventOf). x.outcome) scheduled

  pub is_defused : (event_at (make_interruption p t c) new).defused ≡ true
  is_defused =
      ap (λ (x : EventOf). x.defused) (scheduled ∙ ap (λ (x : EventOf). record x { outcome = Some (outcome.Fail t) }) (change_event-same new (λ x. record x { defused = true }) made in_made))

  pub urgent_now : (make_interruption p t c).agenda ≡ urgent_entry new c ∷ c.agenda
  urgent_now = ap (λ (n : ℤ). (record (urgent_entry new c) { key = record { time = n; priority = 0; number = c.scheduled } }) ∷ c.agenda) (no_delay c.time)
    where
      no_delay : (n : ℤ) → n +ℤ pos 0 ≡ n
      no_delay n = omega (arith, ints)

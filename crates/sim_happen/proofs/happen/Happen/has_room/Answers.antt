use Rattle.std.proofs.Common.{◌+◌, ◌≤◌, length, ◌∙◌, sym, arith}
use Rattle.std.proofs.lemmas.Bool.{false≢true, leb-true}
use Rattle.sim_happen_model.specs.TableOf.{kept_count}
use Rattle.sim_happen_law.proofs.Changes.Spares.{spare_is, places_are, events_are}
use Rattle.sim_happen.proofs.happen.Happen.has_room.Goals as goal
use Rattle.sim_happen.proofs.happen.Happen.has_room.Goals.{then-slots-events, else-slots-events}

pub returns-then-has_room : goal.returns-then-has_room
returns-then-has_room c =
    let a = c.self.inside.agenda in
    let t = c.self.inside.table in
    elim c.if-slots-events.branch [
      | then-slots-events w ↦
          let seen = w.has_room.ensures.0 (sym w.value-is ∙ c.if-has_room.true) in
          let places : kept_count t.events + c.args.events ≤ length a.entries + a.spare =
          omega (arith, c.slots.ensures.count, c.room.ensures, w.if-slots-events.true) in
          rw (← c.self.view_is) (
            (λ yes. (spare_is a t _ places seen.0, seen.1, c.has_room_for_conditions.ensures.0 yes)),
            (λ room. c.has_room_for_conditions.ensures.1 room.2),
          )
      | else-slots-events w ↦ absurd (omega (arith, leb-true _ _ (sym w.value-is ∙ c.if-has_room.true), w.if-slots-events.false))
    ]

pub returns-else-has_room : goal.returns-else-has_room
returns-else-has_room c =
    let a = c.self.inside.agenda in
    let t = c.self.inside.table in
    elim c.if-slots-events.branch [
      | then-slots-events w ↦
          rw (← c.self.view_is) (
            (λ yes. absurd (false≢true (sym c.if-has_room.false ∙ yes))),
            (λ room. w.value-is ∙ w.has_room.ensures.1 (events_are a t _ room.0, room.1)),
          )
      | else-slots-events w ↦
          rw (← c.self.view_is) (
            (λ yes. absurd (false≢true (sym c.if-has_room.false ∙ yes))),
            (λ room. absurd (omega (arith, places_are a t _ c.self.invariant.places room.0, c.slots.ensures.count, c.room.ensures, w.if-slots-events.false))),
          )
    ]

use Rattle.std.proofs.Common.{◌≡◌, ℕ, ◌∙◌, List, [], ◌∷◌, Option, Some, None, refl, sym, ap, subst}
use Rattle.sim_types.specs.declared.event.EventId.{EventId}
use Rattle.sim_types.specs.declared.event.EventKind.TheVariants as kind
use Rattle.sim_machine.specs.State.{EventOf, Calendar}
use Rattle.sim_machine.specs.Runs.{first_calendar}
use Rattle.sim_machine.specs.Triggering.{make}
use Rattle.sim_machine_law.proofs.Events.EventLaws.{same_event}
use Rattle.sim_happen_model.specs.HappenOf.{unheld_event}
use Rattle.std.specs.Prelude.{pos, IsFalse}
use Rattle.sim_types.specs.declared.event.Callback.TheVariants as callback
use Rattle.sim_machine.specs.Events.{register}
use Rattle.sim_machine.specs.Triggering.{succeed}
use Rattle.sim_happen_model.specs.TableOf.{kept_at}
use Rattle.sim_happen_model.specs.Holders.{HasOwnHolder}
use Rattle.sim_trials.proofs.Known.{Known, known_then, known_of, opened, known_rest, known_stepped, event_known, few_known, own_known, done, none_there}
use Rattle.sim_trials.proofs.happen.an_event_is_processed.Goals as goal

abbrev one : EventId
one = record { 0 = 1 }

abbrev c2 : Calendar
c2 = make kind.Plain (first_calendar 0)

abbrev c3 : Calendar
c3 = register one (callback.Resume (record { 0 = 4 })) c2

abbrev c4 : Calendar
c4 = succeed one (pos 7) c3

abbrev hs2 : List (Option ℕ)
hs2 = Some 1 ∷ Some 0 ∷ []

pub register-requires-clause-unprocessed : goal.register-requires-clause-unprocessed
register-requires-clause-unprocessed g c =
    let k1 = opened _ _ c.in_ok-happen.ensures.calendar c.in_ok-happen.ensures.held c.reserve.ensures.rest in
    let same = same_event c.make-event.result one (c.make-event.ensures.id ∙ k1.shows.made) in
    let k2 : Known _ c2 hs2 = known_then (make kind.Plain) unheld_event _ _ _ _ c.make-event.ensures.made k1 in
    subst (λ e. IsFalse (kept_at c.make-event.new.self.events e).event.processed) (sym same) (ap (λ (x : EventOf). x.processed) (event_known _ _ _ k2 one refl))

pub succeed-requires-clause-not_cancelled : goal.succeed-requires-clause-not_cancelled
succeed-requires-clause-not_cancelled g c =
    let k1 = opened _ _ c.in_ok-happen.ensures.calendar c.in_ok-happen.ensures.held c.reserve.ensures.rest in
    let same = same_event c.make-event.result one (c.make-event.ensures.id ∙ k1.shows.made) in
    let k2 : Known _ c2 hs2 = known_then (make kind.Plain) unheld_event _ _ _ _ c.make-event.ensures.made k1 in
    let k3 : Known _ c3 hs2 = known_of (λ e. register e (callback.Resume (record { 0 = 4 }))) (λ e hs. hs) _ one same _ _ c2 hs2 c.register.ensures.follows k2 in
    subst (λ e. IsFalse (kept_at c.register.new.self.events e).event.cancelled) (sym same) (ap (λ (x : EventOf). x.cancelled) (event_known _ _ _ k3 one refl))

pub step-requires-clause-few : goal.step-requires-clause-few
step-requires-clause-few g c =
    let k1 = opened _ _ c.in_ok-happen.ensures.calendar c.in_ok-happen.ensures.held c.reserve.ensures.rest in
    let same = same_event c.make-event.result one (c.make-event.ensures.id ∙ k1.shows.made) in
    let k2 : Known _ c2 hs2 = known_then (make kind.Plain) unheld_event _ _ _ _ c.make-event.ensures.made k1 in
    let k3 : Known _ c3 hs2 = known_of (λ e. register e (callback.Resume (record { 0 = 4 }))) (λ e hs. hs) _ one same _ _ c2 hs2 c.register.ensures.follows k2 in
    let pending = subst (λ e. (kept_at c.register.new.self.events e).event.outcome ≡ None) (sym same) (ap (λ (x : EventOf). x.outcome) (event_known _ _ _ k3 one refl)) in
    let k4 : Known _ c4 hs2 = known_of (λ e. succeed e (pos 7)) (λ e hs. hs) _ one same _ _ c3 hs2 (done _ _ _ c.succeed.ensures.refused (none_there _ pending) c.succeed.ensures.ok) k3 in
    few_known _ _ _ k4 refl

pub settle-requires : goal.settle-requires
settle-requires g c =
    let k1 = opened _ _ c.in_ok-happen.ensures.calendar c.in_ok-happen.ensures.held c.reserve.ensures.rest in
    let same = same_event c.make-event.result one (c.make-event.ensures.id ∙ k1.shows.made) in
    let k2 : Known _ c2 hs2 = known_then (make kind.Plain) unheld_event _ _ _ _ c.make-event.ensures.made k1 in
    let k3 : Known _ c3 hs2 = known_of (λ e. register e (callback.Resume (record { 0 = 4 }))) (λ e hs. hs) _ one same _ _ c2 hs2 c.register.ensures.follows k2 in
    let pending = subst (λ e. (kept_at c.register.new.self.events e).event.outcome ≡ None) (sym same) (ap (λ (x : EventOf). x.outcome) (event_known _ _ _ k3 one refl)) in
    let k4 : Known _ c4 hs2 = known_of (λ e. succeed e (pos 7)) (λ e hs. hs) _ one same _ _ c3 hs2 (done _ _ _ c.succeed.ensures.refused (none_there _ pending) c.succeed.ensures.ok) k3 in
    let k5 = known_stepped _ _ _ _ _ _ c4 hs2 refl refl c.step.ensures.steps k4 in
    let k6 = known_rest _ _ _ _ c.next.ensures.rest k5 in
    let k7 = known_rest _ _ _ _ c.next-2.ensures.rest k6 in
    record { held = subst (λ e. HasOwnHolder c.next-2.new.self.events e) (sym same) (own_known _ _ _ k7 refl one 0 refl) }

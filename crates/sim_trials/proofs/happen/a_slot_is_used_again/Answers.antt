use Rattle.std.proofs.Common.{ℕ, ◌∙◌, List, [], ◌∷◌, Option, Some, refl, sym, ap, subst, arith}
use Rattle.sim_types.specs.declared.event.EventId.{EventId}
use Rattle.sim_types.specs.declared.event.EventKind.TheVariants as kind
use Rattle.sim_machine.specs.State.{EventOf, Calendar}
use Rattle.sim_machine.specs.Runs.{first_calendar}
use Rattle.sim_machine.specs.Triggering.{make}
use Rattle.sim_machine_law.proofs.Events.EventLaws.{same_event}
use Rattle.sim_happen_model.specs.HappenOf.{unheld_event, one_more}
use Rattle.sim_machine.specs.Events.{cancel_event}
use Rattle.sim_happen_model.specs.HappenOf.{IsOpen, gone_if_unheld}
use Rattle.sim_happen_model.specs.Holders.{HasOwnHolder}
use Rattle.sim_trials.proofs.Known.{Known, known_then, known_of, opened, kept_known, event_known, own_known, made_unheld}
use Rattle.sim_trials.proofs.happen.a_slot_is_used_again.Goals as goal

abbrev one : EventId
one = record { 0 = 1 }

abbrev c2 : Calendar
c2 = make kind.Get (first_calendar 0)

abbrev hs3 : List (Option ℕ)
hs3 = Some 1 ∷ Some 1 ∷ []

pub shut-requires : goal.shut-requires
shut-requires g c =
    let k1 = opened _ _ c.in_ok-happen.ensures.calendar c.in_ok-happen.ensures.held c.reserve.ensures.rest in
    let same = same_event c.make-gone.result one (c.make-gone.ensures.id ∙ k1.shows.made) in
    let k2 : Known _ c2 (Some 1 ∷ Some 0 ∷ []) = known_then (make kind.Get) unheld_event _ _ _ _ c.make-gone.ensures.made k1 in
    let k3 : Known _ c2 hs3 = known_of (λ e d. d) one_more _ one same _ _ c2 _ c.hold.ensures.held k2 in
    let is = event_known _ _ _ k3 one refl in
    record {
      is_open = subst (λ e. IsOpen c.hold.new.self e) (sym same) (record {
        kept = kept_known _ _ _ k3 one refl;
        pending = ap (λ (x : EventOf). x.outcome) is;
        not_cancelled = ap (λ (x : EventOf). x.cancelled) is;
      });
    }

pub unhold-requires : goal.unhold-requires
unhold-requires g c =
    let k1 = opened _ _ c.in_ok-happen.ensures.calendar c.in_ok-happen.ensures.held c.reserve.ensures.rest in
    let same = same_event c.make-gone.result one (c.make-gone.ensures.id ∙ k1.shows.made) in
    let k2 : Known _ c2 (Some 1 ∷ Some 0 ∷ []) = known_then (make kind.Get) unheld_event _ _ _ _ c.make-gone.ensures.made k1 in
    let k3 : Known _ c2 hs3 = known_of (λ e d. d) one_more _ one same _ _ c2 _ c.hold.ensures.held k2 in
    let k4 : Known _ (cancel_event one c2) hs3 = known_of cancel_event gone_if_unheld _ one same _ _ c2 hs3 c.shut.ensures.cancelled k3 in
    record { held = subst (λ e. HasOwnHolder c.shut.new.self.events e) (sym same) (own_known _ _ _ k4 refl one 0 refl) }

pub make-later-requires-clause-number : goal.make-later-requires-clause-number
make-later-requires-clause-number g c =
    let k1 = opened _ _ c.in_ok-happen.ensures.calendar c.in_ok-happen.ensures.held c.reserve.ensures.rest in
    let same = same_event c.make-gone.result one (c.make-gone.ensures.id ∙ k1.shows.made) in
    let k2 : Known _ c2 (Some 1 ∷ Some 0 ∷ []) = known_then (make kind.Get) unheld_event _ _ _ _ c.make-gone.ensures.made k1 in
    let k3 : Known _ c2 hs3 = known_of (λ e d. d) one_more _ one same _ _ c2 _ c.hold.ensures.held k2 in
    let k4 : Known _ (cancel_event one c2) hs3 = known_of cancel_event gone_if_unheld _ one same _ _ c2 hs3 c.shut.ensures.cancelled k3 in
    omega (arith, made_unheld c.shut.new.self c.unhold.new.self _ _ _ c.unhold.ensures.events k4)

-- Resources as they open: nobody waits, and more room changes nothing else.
use Rattle.std.proofs.Common.{◌≡◌, subst, sym}
use Rattle.std.proofs.lemmas.Bool.{false≢true}
use Rattle.sim_machine.specs.State.{Facilities}
use Rattle.sim_happen_model.specs.HappenOf.{IsOpen}
use Rattle.sim_shared.specs.Opening.{first_facilities}
use Rattle.sim_shared_model.specs.Resources.{waiting_at}
use Rattle.sim_shared_model.specs.SharedOf.{SharedOf}
use Rattle.sim_shared_model.specs.ShowsAll.{ShowsAll}
use Rattle.sim_shared_model.specs.Waiting.{AreAllOpen}
use Rattle.sim_shared_law.proofs.Waiters.CancelledEvents.{waits_there}
use Rattle.sim_shared_law.proofs.Waiters.JoinedEvents.{all_from_each}

pub nobody_waits : (h : SharedOf) → ShowsAll h first_facilities → AreAllOpen h
nobody_waits h shown = record {
  each = λ res x there. all_from_each (IsOpen h.happen) (waiting_at x) (λ e among. absurd (false≢true (waits_there h first_facilities res x e shown there among)));
}

pub shown_with_room : (a b : SharedOf) (f : Facilities) → b ≡ record a { happen = record a.happen { spare = b.happen.spare } } → ShowsAll a f → ShowsAll b f
shown_with_room a b f same h =
    let s = h.calendar in
    subst (λ x. ShowsAll x f) (sym same) (record {
      calendar = record { time = s.time; scheduled = s.scheduled; agenda = s.agenda; made = s.made; kept = s.kept; unmade = s.unmade };
      opened = h.opened;
      resources = h.resources;
      tidy = h.tidy;
    })

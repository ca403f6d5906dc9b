-- How many events are made, and what room they take, where one is made and what waits is tried.
use Rattle.std.proofs.Common.{◌≡◌, ℕ, zero, suc, ◌+◌, List, refl, ap, ◌∙◌, arith}
use Rattle.std.specs.Prelude.{Option}
use Rattle.sim_machine.specs.State.{Facilities}
use Rattle.sim_happen_model.specs.TableOf.{Spare}
use Rattle.sim_happen_model.specs.Changes.{more_events, more_callbacks}
use Rattle.sim_happen_model.specs.HappenOf.{held, as_before, unheld_event}
use Rattle.sim_shared_model.specs.SharedOf.{SharedOf}
use Rattle.sim_shared_model.specs.ShowsAll.{TurnsAll, FollowsAll}
use Rattle.sim_shared_model.specs.Making.{MakesAll, unheld_events}
use Rattle.sim_shared_law.proofs.Shown.FollowingFacilities.{turns_all_then}

-- in whatever order
unheld_later : (n : ℕ) (hs : List (Option ℕ)) → unheld_events n (unheld_event hs) ≡ unheld_event (unheld_events n hs)
unheld_later zero hs = refl
unheld_later (suc n) hs = ap unheld_event (unheld_later n hs)

-- the room of one more
room_more : (n : ℕ) (s : Spare) → more_events (suc n) (more_callbacks (suc n) s) ≡ more_events 1 (more_callbacks 1 (more_events n (more_callbacks n s)))
room_more n s =
    ap (λ k. let t : Spare = record { events = k; callbacks = s.callbacks + suc n; conditions = s.conditions } in t) {x = s.events + suc n} {y = s.events + n + 1} (omega arith)
    ∙ ap (λ k. let t : Spare = record { events = s.events + n + 1; callbacks = k; conditions = s.conditions } in t) {x = s.callbacks + suc n} {y = s.callbacks + n + 1} (omega arith)

-- one event is made, and what is done then makes some more
pub makes_after : (most : ℕ) (f g : Facilities → Facilities) (a m b : SharedOf) → TurnsAll f unheld_event a m
    → more_events 1 (more_callbacks 1 m.happen.spare) ≡ a.happen.spare → MakesAll most g m b → MakesAll (most + 1) (λ x. g (f x)) a b
makes_after most f g a m b first room later = record {
  made = suc later.made;
  at_most = omega (arith, later.at_most);
  turns =
      let both : TurnsAll (λ x. g (f x)) (λ hs. unheld_events later.made (unheld_event hs)) a b = turns_all_then f g unheld_event (unheld_events later.made) a m b first later.turns in
      record { each = both.each; held = both.held ∙ unheld_later later.made (held a.happen); left = both.left; setup = both.setup };
  spare = room_more later.made b.happen.spare ∙ (ap (λ s. more_events 1 (more_callbacks 1 s)) later.spare ∙ room);
}

-- one event is made, and what is done then makes none
pub makes_before : (f g : Facilities → Facilities) (a m b : SharedOf) → TurnsAll f unheld_event a m
    → more_events 1 (more_callbacks 1 m.happen.spare) ≡ a.happen.spare → FollowsAll g m b → b.happen.spare ≡ m.happen.spare
    → MakesAll 1 (λ x. g (f x)) a b
makes_before f g a m b first room later same = record {
  made = 1;
  at_most = omega arith;
  turns = turns_all_then f g unheld_event as_before a m b first later;
  spare = ap (λ s. more_events 1 (more_callbacks 1 s)) same ∙ room;
}

-- One turn after another, and what a turn of the calendar makes of the facilities.
use Rattle.std.proofs.Common.{◌≡◌, ℕ, ◌≤◌, true, List, length, refl, subst, ap, ◌∙◌, Option, Some, None, arith, IsTrue}
use Rattle.std.specs.Prelude.{nat_lt}
use Rattle.std.proofs.lemmas.Bool.Decides.{nat_tests}
use Rattle.std.proofs.lemmas.List.Elements.{All-weaker}
use Rattle.sim_types.specs.declared.event.EventId.{EventId}
use Rattle.sim_types.specs.declared.setup.Resource.{Resource}
use Rattle.sim_machine.specs.State.{Calendar, Facilities, Waiter, Deed}
use Rattle.sim_machine.specs.Standing.{was_made}
use Rattle.sim_machine.specs.LawfulLedger.{LawfulLedger, served_by, was_made_if_any}
use Rattle.sim_machine.specs.Trying.{on_calendar}
use Rattle.sim_happen_model.specs.HappenOf.{HappenOf}
use Rattle.sim_happen_model.specs.Shows.{Turns}
use Rattle.sim_shared_model.specs.AnyShared.{SharedResource}
use Rattle.sim_shared_model.specs.declared.resource.AnyResource.TheVariants.{Desk, Tank, Shelf}
use Rattle.sim_shared_model.specs.SharedOf.{SharedOf}
use Rattle.sim_shared_model.specs.ShowsAll.{ShowsAt, ShowsAll, AreTidy, TurnsAll}

-- ---- one after another

pub turns_all_then : (f g : Facilities → Facilities) (p q : List (Option ℕ) → List (Option ℕ)) (a b d : SharedOf) → TurnsAll f p a b → TurnsAll g q b d
    → TurnsAll (λ x. g (f x)) (λ hs. q (p hs)) a d
turns_all_then f g p q a b d t u = record {
  each = λ x h. u.each (f x) (t.each x h);
  held = u.held ∙ ap q t.held;
  left = u.left ∙ t.left;
  setup = u.setup ∙ t.setup;
}

-- a change that comes to the same at all facilities that are shown
pub turns_all_as : (f g : Facilities → Facilities) (p : List (Option ℕ) → List (Option ℕ)) (a b : SharedOf)
    → ((x : Facilities) → ShowsAll a x → f x ≡ g x) → TurnsAll f p a b → TurnsAll g p a b
turns_all_as f g p a b same t = record {
  each = λ x h. subst (ShowsAll b) (same x h) (t.each x h);
  held = t.held;
  left = t.left;
  setup = t.setup;
}

-- ---- a turn of the calendar

below_more : (n a b : ℕ) → nat_lt n a ≡ true → a ≤ b → nat_lt n b ≡ true
below_more n a b h k = grind (arith, nat_tests)

made_more : (c d : Calendar) → length c.events ≤ length d.events → (o : Option EventId) → was_made_if_any c o ≡ true → was_made_if_any d o ≡ true
made_more c d more None h = h
made_more c d more (Some x) h = below_more x.0 (length c.events) (length d.events) h more

-- no event is made less
pub ledger_later : (f : Facilities) (d : Calendar) → length f.calendar.events ≤ length d.events → LawfulLedger f → LawfulLedger (record f { calendar = d })
ledger_later f d more h = record {
  once = h.once;
  apart = h.apart;
  made = All-weaker (λ (x : Deed). was_made_if_any f.calendar (served_by x) ≡ true) (λ x. was_made_if_any d (served_by x) ≡ true)
      (λ x q. made_more f.calendar d more (served_by x) q) f.ledger h.made;
}

pub tidy_later : (n : ℕ) (f : Facilities) (d : Calendar) → length f.calendar.events ≤ length d.events → AreTidy n f → AreTidy n (record f { calendar = d })
tidy_later n f d more h = record {
  waiting = h.waiting;
  placed = h.placed;
  made = All-weaker (λ (w : Waiter). IsTrue (was_made f.calendar w.event)) (λ w. IsTrue (was_made d w.event))
      (λ w q. below_more w.event.0 (length f.calendar.events) (length d.events) q more) f.waiters h.made;
  ledger = ledger_later f d more h.ledger;
}

-- what stands at the places is not the calendar's
pub shown_later : (rs : List Resource) (res : ℕ) (x : SharedResource) (f : Facilities) (d : Calendar) → ShowsAt rs res x f
    → ShowsAt rs res x (record f { calendar = d })
shown_later rs res (Desk x) f d h = record { queue = h.queue; gets = h.gets; users = h.users }
shown_later rs res (Tank x) f d h = record { puts = h.puts; gets = h.gets; level = h.level }
shown_later rs res (Shelf x) f d h = record { puts = h.puts; gets = h.gets; items = h.items }

pub turns_on_calendar : (change : Calendar → Calendar) (holds : List (Option ℕ) → List (Option ℕ)) (a : SharedOf) (x : HappenOf)
    → ((c : Calendar) → length c.events ≤ length (change c).events) → Turns change holds a.happen x
    → TurnsAll (on_calendar change) holds a (record a { happen = x })
turns_on_calendar change holds a x more t = record {
  each = λ f h. record {
    calendar = t.each f.calendar h.calendar;
    opened = h.opened;
    resources = λ res y there. shown_later a.setup res y f (change f.calendar) (h.resources res y there);
    tidy = tidy_later (length a.setup) f (change f.calendar) (more f.calendar) h.tidy;
  };
  held = t.held;
  left = t.left;
  setup = refl;
}

-- What a cancel and the end of a scope leave as it was.
use Rattle.std.proofs.Common.{◌≡◌, ◌≢◌, ℕ, ◌+◌, ℤ, Bool, true, false, not, List, [], ◌∷◌, ◌++◌, refl, sym, subst, ap, ◌∙◌, if◌then◌else◌, filter, cond}
use Rattle.std.specs.List.{list_any}
use Rattle.sim_types.specs.declared.event.EventId.{EventId}
use Rattle.sim_machine.specs.State.{User, Deed, Released, Facilities}
use Rattle.sim_machine.specs.Events.{is_same, event_at}
use Rattle.sim_machine.specs.Trying.{write_deed}
use Rattle.sim_machine.specs.Users.{users, items, level_after}
use Rattle.sim_machine.specs.Requests.{is_user, waits, cancel, leave}
use Rattle.sim_machine_law.specs.Desks.{users_besides}
use Rattle.sim_machine_law.proofs.KeptParts.KeptTimesCases.{if_cases}
use Rattle.sim_machine_law.proofs.Events.EventLaws.{same_event, change_event-other}
use Rattle.sim_machine_law.proofs.Ledger.UsersOfDeeds.{users_released}
use Rattle.sim_machine_law.proofs.Ledger.LedgerSteps.{items_released, level_released}
use Rattle.sim_machine_law.proofs.Requests.ReleasedUsers.{none_taken, ledger_cancelled, release_made}

-- taking out twice is taking out once
taken_twice : {X : Type 0} (test : X → Bool) (xs : List X) → filter test (filter test xs) ≡ filter test xs
taken_twice test [] = refl
taken_twice {X} test (x ∷ xs) = by_test (test x) refl (taken_twice test xs)
  where
    by_test : (b : Bool) → test x ≡ b → filter test (filter test xs) ≡ filter test xs →
        filter test (if b then x ∷ filter test xs else filter test xs) ≡ (if b then x ∷ filter test xs else filter test xs)
    by_test true is h = ap (λ (b : Bool). cond b (x ∷ filter test (filter test xs)) (filter test (filter test xs))) is ∙ ap (λ (ys : List X). x ∷ ys) h
    by_test false is h = h

-- ---- a cancel

module _ (e : EventId) (f : Facilities) where
  pub agenda_cancelled : (cancel e f).calendar.agenda ≡ f.calendar.agenda
  agenda_cancelled = if_cases (λ (g : Facilities). g.calendar.agenda ≡ f.calendar.agenda) (waits e f) _ f (λ is. refl) (λ isnt. refl)

  pub scheduled_cancelled : (cancel e f).calendar.scheduled ≡ f.calendar.scheduled
  scheduled_cancelled = if_cases (λ (g : Facilities). g.calendar.scheduled ≡ f.calendar.scheduled) (waits e f) _ f (λ is. refl) (λ isnt. refl)

  pub registered_cancelled : (cancel e f).calendar.registered ≡ f.calendar.registered
  registered_cancelled = if_cases (λ (g : Facilities). g.calendar.registered ≡ f.calendar.registered) (waits e f) _ f (λ is. refl) (λ isnt. refl)

  pub others_cancelled : (x : EventId) → x ≢ e → event_at (cancel e f).calendar x ≡ event_at f.calendar x
  others_cancelled x differ =
      if_cases (λ (g : Facilities). event_at g.calendar x ≡ event_at f.calendar x) (waits e f) _ f
      (λ is. change_event-other e x (λ y. record y { cancelled = true }) f.calendar (λ same. differ (same_event x e same))) (λ isnt. refl)

-- ---- the end of a scope

module _ (res : ℕ) (request : EventId) (f : Facilities) where
  -- what holds of the ledger, and of the ledger with a release more where the request uses a slot, holds after
  left_ledger : (P : List Deed → Type 0) →
      (list_any (λ (u : User). is_same u.request request) (users res f.ledger) ≡ true → P (f.ledger ++ Released res request ∷ [])) →
      (list_any (λ (u : User). is_same u.request request) (users res f.ledger) ≡ false → P f.ledger) → P (leave res request f).ledger
  left_ledger P used unused =
      let g : Facilities = release_made res request f in
      let same : g.ledger ≡ f.ledger = ledger_cancelled request f in
      let uses : List Deed → Bool = λ ledger. list_any (λ (u : User). is_same u.request request) (users res ledger) in
      if_cases (λ (h : Facilities). P h.ledger) (is_user res request g) (write_deed (Released res request) g) g
      (λ is. subst (λ (ledger : List Deed). P (ledger ++ Released res request ∷ [])) (sym same) (used (ap uses (sym same) ∙ is)))
      (λ isnt. subst P (sym same) (unused (ap uses (sym same) ∙ isnt)))

  pub users_left : users res (leave res request f).ledger ≡ users_besides request (users res f.ledger)
  users_left =
      left_ledger (λ ledger. users res ledger ≡ users_besides request (users res f.ledger)) (λ used. users_released res res request f.ledger)
      (λ unused. sym (none_taken (λ (u : User). is_same u.request request) (users res f.ledger) unused))

  pub other_users_left : (n : ℕ) → users_besides request (users n (leave res request f).ledger) ≡ users_besides request (users n f.ledger)
  other_users_left n =
      left_ledger (λ ledger. users_besides request (users n ledger) ≡ users_besides request (users n f.ledger))
      (λ used. ap (users_besides request) (users_released n res request f.ledger) ∙ taken_twice (λ (u : User). not (is_same u.request request)) (users n f.ledger)) (λ unused. refl)

  pub items_left : (n : ℕ) → items n (leave res request f).ledger ≡ items n f.ledger
  items_left n = left_ledger (λ ledger. items n ledger ≡ items n f.ledger) (λ used. items_released n res request f.ledger) (λ unused. refl)

  pub level_left : (opening : ℤ) (n : ℕ) → level_after opening n (leave res request f).ledger ≡ level_after opening n f.ledger
  level_left opening n =
      left_ledger (λ ledger. level_after opening n ledger ≡ level_after opening n f.ledger) (λ used. level_released opening n res request f.ledger) (λ unused. refl)

  pub scheduled_left : (leave res request f).calendar.scheduled ≡ f.calendar.scheduled + 1
  scheduled_left =
      let g : Facilities = release_made res request f in
      ap (λ (n : ℕ). n + 1) (if_cases (λ (h : Facilities). h.calendar.scheduled ≡ f.calendar.scheduled) (is_user res request g) (write_deed (Released res request) g) g (λ is. scheduled_cancelled request f) (λ isnt. scheduled_cancelled request f))

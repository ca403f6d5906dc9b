-- The callbacks of an event where the first that passes a test is taken out.
use Rattle.std.proofs.Common.{◌≡◌, ◌≢◌, Bool, true, false, List, [], ◌∷◌, refl, ap, arith, map, filter, ◌&&◌}
use Rattle.std.proofs.lemmas.Bool.Decides.{nat_tests}
use Rattle.sim_types.specs.declared.event.EventId.{EventId}
use Rattle.sim_types.specs.declared.event.Callback.{Callback}
use Rattle.sim_machine.specs.State.{Registration, Calendar}
use Rattle.sim_machine.specs.Events.{is_same, callbacks_of, unregister, without_first}

abbrev calls_at : EventId → List Registration → List Callback
calls_at e rs = map (λ (r : Registration). r.callback) (filter (λ r. is_same r.event e) rs)

abbrev taken_at : EventId → (Callback → Bool) → List Registration → List Registration
taken_at e test rs = without_first (λ r. is_same r.event e && test r.callback) rs

one_taken : (e : EventId) (test : Callback → Bool) (r : Registration) (rs : List Registration) (a b : Bool) → is_same r.event e ≡ a → test r.callback ≡ b
    → calls_at e (taken_at e test rs) ≡ without_first test (calls_at e rs)
    → calls_at e (taken_at e test (r ∷ rs)) ≡ without_first test (calls_at e (r ∷ rs))
one_taken e test r rs true true h k later = rw (h, k) refl
one_taken e test r rs true false h k later = rw (h, k) (rw (h) (ap (λ xs. r.callback ∷ xs) later))
one_taken e test r rs false true h k later = rw (h) (rw (h) later)
one_taken e test r rs false false h k later = rw (h) (rw (h) later)

calls_taken : (e : EventId) (test : Callback → Bool) (rs : List Registration) → calls_at e (taken_at e test rs) ≡ without_first test (calls_at e rs)
calls_taken e test [] = refl
calls_taken e test (r ∷ rs) = one_taken e test r rs (is_same r.event e) (test r.callback) refl refl (calls_taken e test rs)

pub callbacks_of-unregister_same : (e : EventId) (test : Callback → Bool) (c : Calendar)
    → callbacks_of e (unregister e test c) ≡ without_first test (callbacks_of e c)
callbacks_of-unregister_same e test c = calls_taken e test c.registered

not_both : (e f g : EventId) → g.0 ≢ f.0 → is_same e f ≡ true → is_same e g ≡ false
not_both e f g differ h = grind (arith, nat_tests)

differ_at : (r e f : EventId) → f.0 ≢ e.0 → is_same r e ≡ true → is_same r f ≡ true → ⊥
differ_at r e f differ h k = grind (arith, nat_tests)

other_taken : (e f : EventId) (test : Callback → Bool) (r : Registration) (rs : List Registration) (a b c : Bool) → f.0 ≢ e.0 → is_same r.event e ≡ a
    → test r.callback ≡ b → is_same r.event f ≡ c → calls_at f (taken_at e test rs) ≡ calls_at f rs
    → calls_at f (taken_at e test (r ∷ rs)) ≡ calls_at f (r ∷ rs)
other_taken e f test r rs true true c differ h k l later = rw (h, k) (rw (not_both r.event e f differ h) refl)
other_taken e f test r rs true false true differ h k l later = absurd (differ_at r.event e f differ h l)
other_taken e f test r rs true false false differ h k l later = rw (h, k) (rw l later)
other_taken e f test r rs false b true differ h k l later = rw h (rw l (ap (λ xs. r.callback ∷ xs) later))
other_taken e f test r rs false b false differ h k l later = rw h (rw l later)

calls_others : (e f : EventId) (test : Callback → Bool) (rs : List Registration) → f.0 ≢ e.0 → calls_at f (taken_at e test rs) ≡ calls_at f rs
calls_others e f test [] differ = refl
calls_others e f test (r ∷ rs) differ = other_taken e f test r rs (is_same r.event e) (test r.callback) (is_same r.event f) differ refl refl refl (calls_others e f test rs differ)

pub callbacks_of-unregister_other : (e f : EventId) (test : Callback → Bool) (c : Calendar) → f.0 ≢ e.0
    → callbacks_of f (unregister e test c) ≡ callbacks_of f c
callbacks_of-unregister_other e f test c differ = calls_others e f test c.registered differ

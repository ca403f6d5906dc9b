-- An event that is not closed is named, or nothing keeps it but conditions.
use Rattle.std.proofs.Common.{◌≡◌, ◌≢◌, ℕ, ◌+◌, ◌<◌, Bool, true, false, ◌||◌, ◌&&◌, not, filter, refl, ap, ◌∙◌, arith, ◌⊎◌, inl, inr, ⊎_elim}
use Rattle.std.specs.Prelude.{nat_le, count_by}
use Rattle.std.specs.List.{list_any, sum_by}
use Rattle.std.proofs.lemmas.Bool.{cases_eq, ne_eqb, or_cases, not-true}
use Rattle.std.proofs.lemmas.Bool.Decides.{nat_tests}
use Rattle.sim_types.specs.declared.event.EventId.{EventId}
use Rattle.sim_types.specs.declared.setup.Class.TheVariants as class
use Rattle.sim_machine.specs.State.{ProcessOf, Calendar, State}
use Rattle.sim_machine.specs.Events.{is_same}
use Rattle.sim_machine.specs.Standing.{callbacks_in_all, one_if, left_of}
use Rattle.sim_machine.specs.KeptEvents.{is_closed, is_in_process, is_in_body, triggers, is_to_be_triggered, is_kept_alone}
use Rattle.sim_machine.specs.Tellings.{Place, Telling, is_class}
use Rattle.sim_machine_law.proofs.Events.CallbackLaws.{count_by-cons, count_by-map, counts_one}
use Rattle.sim_happen_model.specs.Naming.{named_in_places, held_by_process, times_named, held_alone}
use Rattle.sim_accounts.proofs.Counts.{is_same-swap, one_if_pos, one_pos, count_any, any_count, sum_any, any_sum, count_same, count_filter}

-- who passes an outcome on to e
abbrev pub awaiting : {B : Type 0} → State B → EventId → ℕ
awaiting s e = callbacks_in_all (triggers e) s.facilities.calendar s.control

-- event 0 is held for good
pub zero_alone : {B : Type 0} (named : ℕ) (tell : Telling B) (s : State B) (e : EventId) → e.0 ≡ 0 → held_alone named tell s e ≡ 1 + awaiting s e
zero_alone named tell s e h = rw h refl

-- any other is held where it is named
pub other_alone : {B : Type 0} (named : ℕ) (tell : Telling B) (s : State B) (e : EventId) → e.0 ≢ 0
    → held_alone named tell s e ≡ times_named named tell s e + awaiting s e
other_alone named tell s e h = rw (ne_eqb e.0 0 h) refl

-- ---- one process

module _ {B : Type 0} (tell : Telling B) (e : EventId) (x : ProcessOf B) where
  abbrev holds : Place → Bool
  holds y = not (is_class y.class class.Number) && is_same y.event e

  places_count : count_by (is_same e) (named_in_places tell x.body) ≡ count_by holds (tell.places x.body)
  places_count =
      let keep : Place → Bool = λ y. not (is_class y.class class.Number) in
      count_by-map (is_same e) (λ (y : Place). y.event) (filter keep (tell.places x.body))
      ∙ (count_filter (λ y. is_same e y.event) keep (tell.places x.body) ∙ count_same (λ y. keep y && is_same e y.event) holds (λ y. ap (λ b. keep y && b) (is_same-swap e y.event)) (tell.places x.body))

  held_count : held_by_process tell e x ≡ one_if (is_same x.target e) + count_by holds (tell.places x.body)
  held_count = omega (arith, count_by-cons (is_same e) x.target (named_in_places tell x.body), ap one_if (is_same-swap e x.target), places_count)

  body_holds : 0 < held_by_process tell e x → is_in_body tell e x ≡ true
  body_holds h =
      ⊎_elim (λ here. or_left (is_same x.target e) (list_any holds (tell.places x.body)) (one_if_pos (is_same x.target e) here))
      (λ there. or_right (is_same x.target e) (list_any holds (tell.places x.body)) (count_any holds (tell.places x.body) there))
      (one_pos (one_if (is_same x.target e)) (count_by holds (tell.places x.body)) (omega (arith, h, held_count)))
    where
      or_left : (a b : Bool) → a ≡ true → (a || b) ≡ true
      or_left a b k = rw k refl

      or_right : (a b : Bool) → b ≡ true → (a || b) ≡ true
      or_right true b k = refl
      or_right false b k = k

  body_held : is_in_body tell e x ≡ true → 0 < held_by_process tell e x
  body_held h =
      ⊎_elim (λ here. omega (arith, held_count, counts_one (is_same x.target e) here)) (λ there. omega (arith, held_count, any_count holds (tell.places x.body) there))
      (or_cases (is_same x.target e) (list_any holds (tell.places x.body)) h)

-- ---- all reasons but conditions

any_of_six : (a b c d e f g : Bool) → (b ≡ true) ⊎ ((c ≡ true) ⊎ ((d ≡ true) ⊎ ((e ≡ true) ⊎ ((f ≡ true) ⊎ (g ≡ true)))))
    → (a || b || c || d || e || (f || g)) ≡ true
any_of_six a b c d e f g (inl h) = grind arith
any_of_six a b c d e f g (inr (inl h)) = grind arith
any_of_six a b c d e f g (inr (inr (inl h))) = grind arith
any_of_six a b c d e f g (inr (inr (inr (inl h)))) = grind arith
any_of_six a b c d e f g (inr (inr (inr (inr (inl h))))) = grind arith
any_of_six a b c d e f g (inr (inr (inr (inr (inr h))))) = grind arith

module _ {B : Type 0} (named : ℕ) (tell : Telling B) (s : State B) (e : EventId) where
  abbrev c : Calendar
  c = s.facilities.calendar

  abbrev in_scope : Bool
  in_scope = list_any (λ x. is_same x.request e) s.scopes

  abbrev is_awaited : Bool
  is_awaited = list_any (λ r. triggers e r.callback) c.registered

  abbrev is_left : Bool
  is_left = list_any (triggers e) (left_of s.control)

  abbrev in_process : Bool
  in_process = is_in_process s.control e

  abbrev in_body : Bool
  in_body = list_any (is_in_body tell e) s.processes

  scopes_count : count_by (λ x. is_same e x.request) s.scopes ≡ count_by (λ x. is_same x.request e) s.scopes
  scopes_count = count_same (λ x. is_same e x.request) (λ x. is_same x.request e) (λ x. is_same-swap e x.request) s.scopes

  abbrev Reasons : Type 0
  Reasons = (nat_le e.0 named ≡ true) ⊎ ((in_process ≡ true) ⊎ ((in_body ≡ true) ⊎ ((in_scope ≡ true) ⊎ ((is_awaited ≡ true) ⊎ (is_left ≡ true)))))

  named_for : 0 < times_named named tell s e + awaiting s e → Reasons
  named_for h =
      let n1 : ℕ = one_if (nat_le e.0 named) in
      let n2 : ℕ = one_if in_process in
      let n3 : ℕ = sum_by (held_by_process tell e) s.processes in
      let n4 : ℕ = count_by (λ x. is_same x.request e) s.scopes in
      let n5 : ℕ = count_by (λ r. triggers e r.callback) c.registered in
      let n6 : ℕ = count_by (triggers e) (left_of s.control) in
      ⊎_elim (λ q. inl (one_if_pos (nat_le e.0 named) q)) (λ q. inr
      (⊎_elim (λ q. inl (one_if_pos in_process q)) (λ q. inr
      (⊎_elim (λ q. inl (sum_any (is_in_body tell e) (held_by_process tell e) (body_holds tell e) s.processes q)) (λ q. inr
      (⊎_elim (λ q. inl (count_any (λ x. is_same x.request e) s.scopes q)) (λ q. inr
      (⊎_elim (λ q. inl (count_any (λ r. triggers e r.callback) c.registered q)) (λ q. inr (count_any (triggers e) (left_of s.control) q))
      (one_pos n5 n6 q))) (one_pos n4 (n5 + n6) q))) (one_pos n3 (n4 + (n5 + n6)) q))) (one_pos n2 (n3 + (n4 + (n5 + n6))) q)))
      (one_pos n1 (n2 + (n3 + (n4 + (n5 + n6)))) (omega (arith, h, scopes_count)))

  reasoned : Reasons → is_kept_alone named tell s e ≡ true
  reasoned h = any_of_six (not (is_closed c e)) (nat_le e.0 named) in_process in_body in_scope is_awaited is_left h

  zero_named : e.0 ≡ 0 → nat_le e.0 named ≡ true
  zero_named h = grind (arith, nat_tests)

  -- what is held but for conditions is kept but for conditions
  pub alone_if_held : 0 < held_alone named tell s e → is_kept_alone named tell s e ≡ true
  alone_if_held h =
      ⊎_elim (λ zero. reasoned (inl (zero_named zero))) (λ other. reasoned (named_for (omega (arith, h, other_alone named tell s e other)))) (cases_eq e.0 0)

  pub alone_if_open : is_closed c e ≡ false → is_kept_alone named tell s e ≡ true
  alone_if_open h = open_is (not (is_closed c e)) (nat_le e.0 named) in_process in_body in_scope is_awaited is_left (rw h refl)
    where
      open_is : (a b c d e f g : Bool) → a ≡ true → (a || b || c || d || e || (f || g)) ≡ true
      open_is a b c d e f g h = grind arith

  -- ---- and each reason counts

  named_held : 0 < times_named named tell s e + awaiting s e → 0 < held_alone named tell s e
  named_held h =
      ⊎_elim (λ zero. omega (arith, zero_alone named tell s e zero)) (λ other. omega (arith, h, other_alone named tell s e other)) (cases_eq e.0 0)

  pub held_for_good : nat_le e.0 named ≡ true → 0 < held_alone named tell s e
  held_for_good h = named_held (omega (arith, counts_one (nat_le e.0 named) h))

  pub held_in_process : in_process ≡ true → 0 < held_alone named tell s e
  held_in_process h = named_held (omega (arith, counts_one in_process h))

  pub held_in_body : in_body ≡ true → 0 < held_alone named tell s e
  held_in_body h = named_held (omega (arith, any_sum (is_in_body tell e) (held_by_process tell e) (body_held tell e) s.processes h))

  pub held_in_scope : in_scope ≡ true → 0 < held_alone named tell s e
  held_in_scope h = named_held (omega (arith, scopes_count, any_count (λ x. is_same x.request e) s.scopes h))

  pub held_triggered : is_to_be_triggered e s ≡ true → 0 < held_alone named tell s e
  held_triggered h =
      ⊎_elim (λ q. named_held (omega (arith, any_count (λ r. triggers e r.callback) c.registered q))) (λ q. named_held (omega (arith, any_count (triggers e) (left_of s.control) q)))
      (or_cases is_awaited is_left h)

  -- so what is kept but for conditions is open, or held but for conditions
  pub held_if_alone : is_kept_alone named tell s e ≡ true → (is_closed c e ≡ false) ⊎ (0 < held_alone named tell s e)
  held_if_alone h =
      let a : Bool = not (is_closed c e) in
      let b : Bool = nat_le e.0 named in
      let p2 : Bool = a || b in
      let p3 : Bool = p2 || in_process in
      let p4 : Bool = p3 || in_body in
      let p5 : Bool = p4 || in_scope in
      ⊎_elim (λ q. ⊎_elim (λ q. ⊎_elim (λ q. ⊎_elim (λ q. ⊎_elim (λ q. inl (not-true (is_closed c e) q)) (λ q. inr (held_for_good q)) (or_cases a b q))
      (λ q. inr (held_in_process q)) (or_cases p2 in_process q)) (λ q. inr (held_in_body q)) (or_cases p3 in_body q)) (λ q. inr (held_in_scope q)) (or_cases p4 in_scope q))
      (λ q. inr (held_triggered q)) (or_cases p5 (is_to_be_triggered e s) h)

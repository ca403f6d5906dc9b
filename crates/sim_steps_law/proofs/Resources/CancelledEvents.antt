-- An event that a body may cancel is no condition.
use Rattle.std.proofs.Common.{◌≡◌, ◌<◌, ℕ, true, false, ◌&&◌, ◌||◌, List, [], ◌∷◌, length, refl, sym, subst, ◌∙◌, Option, Some, None, ⊎_elim}
use Rattle.std.specs.Prelude.{◌==◌, is_some}
use Rattle.std.specs.List.{list_any, list_all}
use Rattle.std.proofs.lemmas.Bool.{and_parts, eqb-true, false≢true, ltb-true, or_cases}
use Rattle.sim_types.specs.declared.event.EventId.{EventId}
use Rattle.sim_types.specs.declared.event.EventKind.{EventKind}
use Rattle.sim_types.specs.declared.event.EventKind.TheVariants as kind
use Rattle.sim_types.specs.declared.setup.Class.{Class}
use Rattle.sim_types.specs.declared.setup.Class.TheVariants as class
use Rattle.sim_machine.specs.State.{Calendar, EventOf}
use Rattle.sim_machine.specs.Events.{event_at, is_same}
use Rattle.sim_machine.specs.LawfulBodies.{place_fits}
use Rattle.sim_machine.specs.LawfulConditions.{IsConditionByKind, is_condition_kind}
use Rattle.sim_machine.specs.LawfulProcesses.{is_plain_kind}
use Rattle.sim_machine.specs.MayAsk.{is_in_place, is_zero}
use Rattle.sim_machine.specs.Standing.{kind_at, was_made}
use Rattle.sim_machine.specs.Tellings.{Place, is_class, kind_fits}
use Rattle.sim_machine_law.proofs.Events.EventLaws.{is_same-yes, same_event}

-- ---- by its kind

no_condition : (x : EventOf) → IsConditionByKind x → is_condition_kind x.kind ≡ false → x.condition ≡ None
no_condition x by_kind off = at x.condition (by_kind ∙ off)
  where
    at : {X : Type 0} (o : Option X) → is_some o ≡ false → o ≡ None
    at None h = refl
    at (Some y) h = absurd (false≢true (sym h))

plain_is : (k : EventKind) → is_plain_kind k ≡ true → is_condition_kind k ≡ false
plain_is kind.Plain h = refl
plain_is _ h = absurd (false≢true h)

move_is : (z : Class) → is_class z class.Move ≡ true → (k : EventKind) → kind_fits z k ≡ true → is_condition_kind k ≡ false
move_is class.Move h kind.Put w = refl
move_is class.Move h kind.Get w = refl
move_is class.Move h _ w = absurd (false≢true w)
move_is _ h k w = absurd (false≢true h)

-- ---- what stands in the places of the body

-- event 0 was made and is plain, and an event of a place of class move was made and is a put or a get
module _ (c : Calendar) (kinds : (n : ℕ) → n < length c.events → IsConditionByKind (event_at c (record { 0 = n }))) (made : 0 < length c.events)
    (plain : is_plain_kind (kind_at c (record { 0 = 0 })) ≡ true) where
  abbrev IsPlain : EventId → Type 0
  IsPlain e = (event_at c e).condition ≡ None

  zero_plain : (e : EventId) → e.0 ≡ 0 → IsPlain e
  zero_plain e is =
      let none : IsPlain (record { 0 = 0 }) =
      no_condition (event_at c (record { 0 = 0 })) (kinds 0 made) (plain_is (kind_at c (record { 0 = 0 })) plain) in
      subst IsPlain (same_event (record { 0 = 0 }) e (sym is)) none

  placed_plain : (e : EventId) (xs : List Place) → list_all (place_fits c) xs ≡ true →
      list_any (λ x. is_class x.class class.Move && is_same x.event e) xs ≡ true →
      IsPlain e
  placed_plain e [] h any = absurd (false≢true any)
  placed_plain e (x ∷ xs) h any =
      let all = and_parts (place_fits c x) (list_all (place_fits c) xs) h in
      ⊎_elim
      (λ here. let both = and_parts (is_class x.class class.Move) (is_same x.event e) here in
      subst IsPlain (is_same-yes x.event e both.1)
      (⊎_elim (λ zero. zero_plain x.event (eqb-true x.event.0 0 zero)) (λ fits. move_plain both.0 fits)
      (or_cases (x.event.0 == 0) (was_made c x.event && kind_fits x.class (kind_at c x.event)) all.0)))
      (λ later. placed_plain e xs all.1 later)
      (or_cases (is_class x.class class.Move && is_same x.event e) (list_any (λ z. is_class z.class class.Move && is_same z.event e) xs) any)
    where
      move_plain : is_class x.class class.Move ≡ true → (was_made c x.event && kind_fits x.class (kind_at c x.event)) ≡ true → IsPlain x.event
      move_plain moves fits =
          let parts = and_parts (was_made c x.event) (kind_fits x.class (kind_at c x.event)) fits in
          no_condition (event_at c x.event) (kinds x.event.0 (ltb-true x.event.0 (length c.events) parts.0))
          (move_is x.class moves (kind_at c x.event) parts.1)

  pub cancelled_plain : (e : EventId) (xs : List Place) → list_all (place_fits c) xs ≡ true → (is_zero e || is_in_place xs class.Move e) ≡ true →
      IsPlain e
  cancelled_plain e xs h may =
      ⊎_elim (λ zero. zero_plain e (eqb-true e.0 0 zero)) (λ placed. placed_plain e xs h placed)
      (or_cases (is_zero e) (is_in_place xs class.Move e) may)

-- What an attempt at a put or get of a store does: the item, what the event is given, and who waits on.
use Rattle.std.proofs.Common.{◌≡◌, ℤ, pos, ◌<◌, ◌<ℤ◌, Bool, true, false, List, length, Option, Some, None, refl, sym, subst, ap, ◌∙◌, if◌then◌else◌, arith}
use Rattle.std.specs.Prelude.{int_lt}
use Rattle.std.proofs.lemmas.Bool.{false_from_ne_true}
use Rattle.std.proofs.lemmas.Bool.Decides.{nat_tests}
use Rattle.std.proofs.lemmas.Int.{ints}
use Rattle.sim_types.specs.declared.event.Outcome.TheVariants as outcome
use Rattle.sim_types.specs.declared.setup.Resource.{Resource}
use Rattle.sim_machine.specs.State.{Want, Give, Take, Waiter, Item, Deed, Deposited, Taken, EventOf, Facilities}
use Rattle.sim_machine.specs.Events.{event_at}
use Rattle.sim_machine.specs.Triggering.{succeed}
use Rattle.sim_machine.specs.Users.{resource_at, items, item_for}
use Rattle.sim_machine.specs.Attempts.{Served, is_container, fill, drain, deposit, hand_out}
use Rattle.sim_machine.specs.Trying.{level, serve, serve_if_any, attempt_for, attempt}
use Rattle.sim_machine_law.specs.Stocks.{item_of, HasItemSpace, IsHandedOut, IsPutIn}
use Rattle.sim_machine_law.proofs.Events.EventLaws.{change_event-same}
use Rattle.sim_machine_law.proofs.Stocks.FoundItems.{items_deposited, items_taken}

-- the event of a waiter that is served has its value
served_value : (w : Waiter) (value : ℤ) (deed : Deed) (f : Facilities) → w.event.0 < length f.calendar.events →
    (event_at (serve w value deed f).calendar w.event).outcome ≡ Some (outcome.Ok value)
served_value w value deed f made =
    ap (λ (y : EventOf). y.outcome) (change_event-same w.event (λ y. record y { outcome = Some (outcome.Ok value) }) (record (succeed w.event value f.calendar) { events = f.calendar.events }) made)

module _ (rs : List Resource) (w : Waiter) (f : Facilities) (store : is_container (resource_at rs w.res).kind ≡ false) where
  abbrev stock : List Item
  stock = items w.res f.ledger

  -- ---- gets

  module _ (least greatest : ℤ) (wants : w.want ≡ Take least greatest) where
    got : (o : Option Item) → item_for (resource_at rs w.res).kind least greatest stock ≡ o → attempt rs w f ≡ serve_if_any w (hand_out w.res o) f
    got o found =
        let r : Resource = resource_at rs w.res in
        let served : Bool → Option Item → Facilities = λ b x. serve_if_any w (if b then drain w.res (level rs w.res f) least else hand_out w.res x) f in
        ap (λ (v : Want). attempt_for rs r w v f) wants ∙ ap (λ (b : Bool). served b (item_for r.kind least greatest stock)) store ∙ ap (served false) found

    pub handed_out : (x : Item) → w.event.0 < length f.calendar.events → item_for (resource_at rs w.res).kind least greatest stock ≡ Some x →
        IsHandedOut w x f (attempt rs w f)
    handed_out x made found =
        subst (IsHandedOut w x f) (sym (got (Some x) found))
        (record { taken = items_taken w.res w.res x.put f.ledger; given = served_value w x.value (Taken w.res x.put) f made; waits_on = refl })

    pub none_handed : item_for (resource_at rs w.res).kind least greatest stock ≡ None → attempt rs w f ≡ f
    none_handed found = got None found

  -- ---- puts

  module _ (value priority : ℤ) (wants : w.want ≡ Give value priority) where
    put_if : (b : Bool) → int_lt (pos (length stock)) (resource_at rs w.res).capacity ≡ b →
        attempt rs w f ≡ serve_if_any w (if b then Some (record { value = pos 0; deed = Deposited w.res (item_of w value priority) }) else None) f
    put_if b room =
        let r : Resource = resource_at rs w.res in
        let put : Option Served = deposit r w.res stock (item_of w value priority) in
        let served : Bool → Option Served = λ x. if x then Some (record { value = pos 0; deed = Deposited w.res (item_of w value priority) }) else None in
        ap (λ (v : Want). attempt_for rs r w v f) wants ∙ ap (λ (x : Bool). serve_if_any w (if x then fill r w.res (level rs w.res f) value else put) f) store ∙ ap (λ (x : Bool). serve_if_any w (served x) f) room

    pub put_in : w.event.0 < length f.calendar.events → HasItemSpace (resource_at rs w.res) stock → IsPutIn w (item_of w value priority) f (attempt rs w f)
    put_in made room =
        let x : Item = item_of w value priority in
        subst (IsPutIn w x f) (sym (put_if true (less_yes (pos (length stock)) (resource_at rs w.res).capacity room)))
        (record { deposited = items_deposited w.res x f.ledger; given = served_value w (pos 0) (Deposited w.res x) f made; waits_on = refl })
      where
        less_yes : (a b : ℤ) → a <ℤ b → int_lt a b ≡ true
        less_yes a b h = grind (arith, ints, nat_tests)

    pub none_put_in : ¬ HasItemSpace (resource_at rs w.res) stock → attempt rs w f ≡ f
    none_put_in full = put_if false (less_no (pos (length stock)) (resource_at rs w.res).capacity full)
      where
        less_no : (a b : ℤ) → ¬ (a <ℤ b) → int_lt a b ≡ false
        less_no a b h = false_from_ne_true (int_lt a b) (λ yes. h (is_less a b yes))
          where
            is_less : (a b : ℤ) → int_lt a b ≡ true → a <ℤ b
            is_less a b h = grind (arith, ints, nat_tests)

-- A holder that is given back leaves all that is kept as it is shown, and what goes is closed.
use Rattle.std.proofs.Common.{◌≡◌, ℕ, ◌<◌, true, false, ◌||◌, List, ◌∷◌, length, refl, sym, ap, subst, ◌∙◌, arith, ◌⊎◌, ⊎_elim, Option, Some, None}
use Rattle.std.specs.Prelude.{IsSome, slice_set}
use Rattle.std.proofs.lemmas.Bool.{false≢true, or_left, or_right}
use Rattle.std.proofs.lemmas.Option.{none-some}
use Rattle.std.specs.List.Sorted.{IsPermutation}
use Rattle.std.proofs.Math.ListN.{length-set}
use Rattle.sim_types.specs.declared.event.EventId.{EventId}
use Rattle.sim_machine.specs.State.{EventOf, Calendar}
use Rattle.sim_machine.specs.KeptEvents.{is_closed}
use Rattle.sim_happen_model.specs.TableOf.{Kept, IsKept, kept_at, kept_or_new}
use Rattle.sim_happen_model.specs.Changes.{without_holder}
use Rattle.sim_happen_model.specs.HappenOf.{HappenOf}
use Rattle.sim_happen_model.specs.Shows.{IsShown, Shows}
use Rattle.sim_happen_model.specs.Holders.{unheld}
use Rattle.sim_happen_law.proofs.Shown.KeptPlaces.{kept_made, at_set}
use Rattle.sim_happen_law.proofs.Changes.Shutting.{unneeded_is}
use Rattle.sim_happen_model.specs.Accounts.{Balanced, AreGoneClosed}
use Rattle.sim_accounts.proofs.GivenBack.{StaysTrue, BalancedWith, unheld_with}

-- so many events were made; what is kept of them is shown by c, and what is kept no more is closed in it
record AreShown (c : Calendar) (made : ℕ) (es : List (Option Kept)) : Type 0 where
  count : length es ≡ made
  kept : (e : EventId) → IsKept es e → IsShown c e (kept_at es e)
  gone : AreGoneClosed es c

closed_now : (c : Calendar) (e : EventId) (k : Kept) → IsShown c e k → (k.event.processed ≡ true) ⊎ (k.event.cancelled ≡ true) → is_closed c e ≡ true
closed_now c e k shown is =
    sym (ap (λ (x : EventOf). x.processed || x.cancelled) shown.event)
    ∙ ⊎_elim (λ p. or_left k.event.processed k.event.cancelled p) (λ p. or_right k.event.processed k.event.cancelled p) is

module _ (c : Calendar) (made : ℕ) where
  -- one place is changed, whose event is shown or gone for good
  placed : (e : EventId) (o : Option Kept) (es : List (Option Kept)) → IsKept es e → (IsSome o → IsShown c e (kept_or_new o))
      → (o ≡ None → is_closed c e ≡ true)
      → AreShown c made es → AreShown c made (slice_set es e.0 o)
  placed e o es kept here off s =
      let there : e.0 < length es = kept_made es e kept in
      let P : EventId → Option Kept → Type 0 = λ f x. IsSome x → IsShown c f (kept_or_new x) in
      let Q : EventId → Option Kept → Type 0 = λ f x. f.0 < length es → x ≡ None → is_closed c f ≡ true in
      record {
        count = length-set es e.0 o ∙ s.count;
        kept = at_set P es e o there here (λ g differ. s.kept g);
        gone = record { each = λ f below. at_set Q es e o there (λ less none. off none) (λ g differ. s.gone.each g) f (omega (arith, below, length-set es e.0 o)) };
      }

  stays_shown : StaysTrue (AreShown c made)
  stays_shown = record {
    fewer = λ e es kept s. let shown = s.kept e kept in
        placed e (Some (without_holder (kept_at es e))) es kept (λ some. record { event = shown.event; callbacks = shown.callbacks }) (λ none. absurd (none-some _ (sym none))) s;
    gone = λ e es kept off s.
        placed e None es kept (λ some. absurd (false≢true some)) (λ none. closed_now c e (kept_at es e) (s.kept e kept) (unneeded_is (without_holder (kept_at es e)) off).1) s;
  }

module _ (h n : HappenOf) (c : Calendar) (e : EventId) (alone : EventId → ℕ) (todo : List EventId) (s : Shows h c) (g : AreGoneClosed h.events c) (b : Balanced alone (e ∷ todo) h.events) (is : n.events ≡ unheld e h.events) where
  after : BalancedWith (AreShown c (length h.events)) alone todo n.events
  after =
      subst (BalancedWith (AreShown c (length h.events)) alone todo) (sym is)
      (unheld_with (AreShown c (length h.events)) (stays_shown c (length h.events)) alone e todo h.events (record { balanced = b; besides = record { count = refl; kept = s.kept; gone = g } }))

  pub unheld_gone : AreGoneClosed n.events c
  unheld_gone = after.besides.gone

  pub unheld_shown : n ≡ record h { events = n.events; spare = n.spare } → Shows n c
  unheld_shown rest = record {
    time = ap (λ (x : HappenOf). x.time) rest ∙ s.time;
    scheduled = ap (λ (x : HappenOf). x.scheduled) rest ∙ s.scheduled;
    agenda = subst (λ (x : HappenOf). IsPermutation c.agenda x.agenda) (sym rest) s.agenda;
    made = after.besides.count ∙ s.made;
    kept = after.besides.kept;
    unmade = s.unmade;
  }

-- ---- what is open stays

-- f is kept, and is this event
record StaysKept (f : EventId) (x : EventOf) (es : List (Option Kept)) : Type 0 where
  kept : IsKept es f
  event : (kept_at es f).event ≡ x

module _ (f : EventId) (x : EventOf) (is_open : (x.processed || x.cancelled) ≡ false) where
  placed_open : (e : EventId) (o : Option Kept) (es : List (Option Kept)) → IsKept es e → (f ≡ e → IsSome o × ((kept_or_new o).event ≡ x))
      → StaysKept f x es → StaysKept f x (slice_set es e.0 o)
  placed_open e o es kept here s =
      let P : EventId → Option Kept → Type 0 = λ g p. f ≡ g → IsSome p × ((kept_or_new p).event ≡ x) in
      let after = at_set P es e o (kept_made es e kept) here (λ g differ same. subst (λ n. IsKept es n × ((kept_at es n).event ≡ x)) same (s.kept, s.event)) f refl in
      record { kept = after.0; event = after.1 }

  shut_not : (k : Kept) → k.event ≡ x → (k.event.processed ≡ true) ⊎ (k.event.cancelled ≡ true) → ⊥
  shut_not k same closed =
      false≢true (sym is_open ∙ (sym (ap (λ (y : EventOf). y.processed || y.cancelled) same) ∙ ⊎_elim (λ p. or_left k.event.processed k.event.cancelled p) (λ p. or_right k.event.processed k.event.cancelled p) closed))

  stays_open : StaysTrue (StaysKept f x)
  stays_open = record {
    fewer = λ e es kept s. placed_open e (Some (without_holder (kept_at es e))) es kept (λ same. (refl, subst (λ n. (kept_at es n).event ≡ x) same s.event)) s;
    gone = λ e es kept off s. placed_open e None es kept
        (λ same. absurd (shut_not (kept_at es e) (subst (λ n. (kept_at es n).event ≡ x) same s.event) (unneeded_is (without_holder (kept_at es e)) off).1)) s;
  }

pub open_stays : (alone : EventId → ℕ) (e f : EventId) (todo : List EventId) (es : List (Option Kept)) → Balanced alone (e ∷ todo) es → IsKept es f
    → ((kept_at es f).event.processed || (kept_at es f).event.cancelled) ≡ false
    → IsKept (unheld e es) f × ((kept_at (unheld e es) f).event ≡ (kept_at es f).event)
open_stays alone e f todo es b kept is_open =
    let x : EventOf = (kept_at es f).event in
    let after = (unheld_with (StaysKept f x) (stays_open f x is_open) alone e todo es (record { balanced = b; besides = record { kept = kept; event = refl } })).besides in
    (after.kept, after.event)

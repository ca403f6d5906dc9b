-- An event goes where nobody holds it.
use Rattle.std.proofs.Common.{◌≡◌, ◌≢◌, ⊎_elim, fold, ℕ, ◌+◌, ◌<◌, ◌≤◌, Bool, true, false, not, ◌||◌, List, [], ◌∷◌, ◌++◌, length, refl, sym, ap, subst, ◌∙◌, arith, zero, suc, Option, Some, None, if◌then◌else◌, ◌⊎◌, inl, inr}
use Rattle.std.specs.Prelude.{slice_set, slice_index_or, nat_lt, IsSome, count_by}
use Rattle.std.specs.List.{sum_by}
use Rattle.std.proofs.lemmas.Bool.{false≢true}
use Rattle.sim_types.specs.declared.event.EventId.{EventId}
use Rattle.sim_machine.specs.State.{EventOf}
use Rattle.sim_machine.specs.Events.{is_same, cancel_event}
use Rattle.sim_machine_law.proofs.Events.CallbackLaws.{count_by-cons, count_by-append, counts_one, counts_none}
use Rattle.sim_happen_model.specs.Agendas.{AgendaOf}
use Rattle.sim_happen_model.specs.TableOf.{Kept, IsKept, TableOf, kept_at, kept_count, kept_and_spare, kept_or_new, is_needed}
use Rattle.sim_happen_model.specs.Changes.{change_or_forget, some_if_needed, with_cancelled, without_holder}
use Rattle.sim_happen_model.specs.HappenOf.{HappenOf, held, gone_if_unheld, none_if_unheld}
use Rattle.sim_happen_model.specs.Holders.{members_in, member_count, memberships, AreOwed, HasOwnHolder, unheld_within}
use Rattle.sim_happen_model.specs.Shows.{IsShown, Turns}
use Rattle.sim_happen_model.specs.Sound.{awaits, kept_one, pending_one, spare_in, AreNarrow, IsInOrder, IsSound}
use Rattle.sim_happen_law.proofs.Changes.Spares.{kept_fewer, spare_given}
use Rattle.sim_happen_law.proofs.Shown.KeptPlaces.{kept_made, kept_is, at_set, sum_set}
use Rattle.sim_happen_law.proofs.Changes.Held.{held_set, held_at, holders_at}
use Rattle.sim_happen_law.proofs.Shown.Shown.{shows_set, same_but_changed, changed_shown}
use Rattle.sim_happen_law.proofs.Changes.Following.{SameTime, shows_time}
use Rattle.sim_happen_law.proofs.Changes.Soundness.{owed_with, narrow_less, members_at, sound_set, awaits_pending, of_outcome_not, memberships_set}
use Rattle.sim_machine_law.proofs.Events.EventLaws.{same_event, is_same-self}
use Rattle.std.proofs.lemmas.Bool.{ne_eqb, lt-ltb, cases_eq}

-- ---- who holds what

or_some : (a : Bool) (k : Kept) → a ≡ true → (if (not a || nat_lt 0 k.holders) then Some k else None) ≡ (if nat_lt 0 k.holders then Some k else None)
or_some true k h = refl
or_some false k h = absurd (false≢true h)

or_right : (a : Bool) → (a || true) ≡ true
or_right true = refl
or_right false = refl

-- the event as it stays, or nothing
abbrev pub if_held : Kept → Option Kept
if_held k = if nat_lt 0 k.holders then Some k else None

cancelled_stays : (k : Kept) → some_if_needed (with_cancelled k) ≡ if_held (with_cancelled k)
cancelled_stays k = or_some (k.event.processed || true) (with_cancelled k) (or_right k.event.processed)

holders_if : (k : Kept) (n : ℕ) → n ≡ k.holders → holders_at (if nat_lt 0 n then Some k else None) ≡ none_if_unheld (Some n)
holders_if k zero h = refl
holders_if k (suc n) h = rw (lt-ltb 0 (suc n) (omega arith), ne_eqb (suc n) 0 (λ same. omega (arith, same))) (ap (λ m. Some m) (sym h))

-- of either
by_held : (P : Option Kept → Type 0) (k : Kept) (n : ℕ) → n ≡ k.holders → (n ≡ 0 → P None) → P (Some k) → P (if nat_lt 0 n then Some k else None)
by_held P k zero h none some = none refl
by_held P k (suc n) h none some = rw (lt-ltb 0 (suc n) (omega arith)) some

pub held_or_gone : (P : Option Kept → Type 0) (k : Kept) → (k.holders ≡ 0 → P None) → P (Some k) → P (if_held k)
held_or_gone P k none some = by_held P k k.holders refl none some

-- ---- it is cancelled

-- what is left of a cancelled event
abbrev left_of_cancelled : List (Option Kept) → EventId → Option Kept
left_of_cancelled es e = if_held (with_cancelled (kept_at es e))

pub turns_shut : (h n : HappenOf) (e : EventId) → IsKept h.events e → SameTime h n
    → n.events ≡ slice_set h.events e.0 (some_if_needed (with_cancelled (kept_at h.events e)))
    → Turns (cancel_event e) (gone_if_unheld e) h n
turns_shut h n e kept t is =
    let k : Kept = kept_at h.events e in
    let mark : EventOf → EventOf = λ y. record y { cancelled = true } in
    let now : n.events ≡ slice_set h.events e.0 (left_of_cancelled h.events e) = is ∙ ap (slice_set h.events e.0) (cancelled_stays k) in
    let here : slice_index_or (held h) e.0 None ≡ Some k.holders = held_at h e ∙ ap holders_at (kept_is h.events e kept) in
    record {
      each = λ c s. let u = shows_time h n c t s in
          let P : Option Kept → Type 0 = λ o. IsSome o → IsShown (cancel_event e c) e (kept_or_new o) in
          shows_set h n c (cancel_event e c) e (left_of_cancelled h.events e) kept now
          (held_or_gone P (with_cancelled k) (λ none some. absurd (false≢true some)) (λ some. changed_shown h c e mark (with_cancelled k) kept s refl refl))
          (same_but_changed e mark c) (record { time = u.time; scheduled = u.scheduled; agenda = u.agenda }) s;
      held = held_set h n e (left_of_cancelled h.events e) now ∙ ap (slice_set (held h) e.0) (holders_if (with_cancelled k) k.holders refl ∙ ap none_if_unheld (sym here));
      left = t.left;
    }

-- ---- holders once an event is gone

memberships_gone : (es : List (Option Kept)) (e f : EventId) → IsKept es e
    → memberships (slice_set es e.0 None) f + count_by (is_same f) (members_in (kept_at es e)) ≡ memberships es f
memberships_gone es e f kept = omega (arith, sum_set (member_count f) es e None kept)

-- one that nobody holds is gone, and each of its members has a holder to give back
pub owed_gone : (todo : List EventId) (es : List (Option Kept)) (e : EventId) → IsKept es e
    → memberships es e + count_by (is_same e) todo ≡ 0 → AreOwed todo es → AreOwed (members_in (kept_at es e) ++ todo) (slice_set es e.0 None)
owed_gone todo es e kept none owed =
    let ms : List EventId = members_in (kept_at es e) in
    let P : EventId → Option Kept → Type 0 = λ f o. memberships es f + count_by (is_same f) todo ≤ (kept_or_new o).holders in
    record {
      each = λ f.
          let less = at_set P es e None (kept_made es e kept) (omega (arith, none)) (λ g differ. owed.each g) f in
          omega (arith, less, memberships_gone es e f kept, count_by-append (is_same f) ms todo);
    }

pub owed_fewer : (ms es : List EventId) (events : List (Option Kept)) → AreOwed (ms ++ es) events → AreOwed es events
owed_fewer ms es events owed = record { each = λ f. omega (arith, owed.each f, count_by-append (is_same f) ms es) }

narrow_gone : (es : List (Option Kept)) (e : EventId) → IsKept es e → AreNarrow es → AreNarrow (slice_set es e.0 None)
narrow_gone es e kept n =
    let P : EventId → Option Kept → Type 0 = λ f o. (members_in (kept_or_new o) ≡ members_at es f) ⊎ (members_in (kept_or_new o) ≡ []) in
    narrow_less es (slice_set es e.0 None) (at_set P es e None (kept_made es e kept) (inr refl) (λ g differ. inl refl)) n

narrow_with : (es : List (Option Kept)) (e : EventId) (k : Kept) → IsKept es e → members_in k ≡ members_in (kept_at es e)
    → AreNarrow es → AreNarrow (slice_set es e.0 (Some k))
narrow_with es e k kept same n =
    let P : EventId → Option Kept → Type 0 = λ f o. (members_in (kept_or_new o) ≡ members_at es f) ⊎ (members_in (kept_or_new o) ≡ []) in
    narrow_less es (slice_set es e.0 (Some k)) (at_set P es e (Some k) (kept_made es e kept) (inl same) (λ g differ. inl refl)) n

new_in_order : IsInOrder (kept_or_new None)
new_in_order = record { cancelled = λ c. refl; pending = λ p. refl }

pub sound_shut : (h n : HappenOf) (room : ℕ) (e : EventId) → IsKept h.events e → (kept_at h.events e).event.outcome ≡ None → SameTime h n
    → n.events ≡ slice_set h.events e.0 (some_if_needed (with_cancelled (kept_at h.events e))) → IsSound h room → IsSound n room
sound_shut h n room e kept pending t is s =
    let k : Kept = kept_at h.events e in
    let j : Kept = with_cancelled k in
    let o : Option Kept = if_held j in
    let now : n.events ≡ slice_set h.events e.0 o = is ∙ ap (slice_set h.events e.0) (cancelled_stays k) in
    let none : awaits k ≡ false = awaits_pending k pending in
    let here : memberships h.events e + 0 ≤ k.holders = s.members.each e in
    sound_set h n room e o kept t now
    (held_or_gone (λ x. awaits (kept_or_new x) ≡ awaits k) j (λ z. sym none) (awaits_pending j pending ∙ sym none))
    (held_or_gone (λ x. pending_one x ≤ pending_one (Some k)) j (λ z. omega arith) (omega arith))
    (held_or_gone (λ x. kept_one x ≤ 1) j (λ z. omega arith) (omega arith))
    (held_or_gone (λ x. IsInOrder (kept_or_new x)) j (λ z. new_in_order) (record { cancelled = λ c. pending; pending = (s.order.each e).pending }))
    (held_or_gone (λ x. AreOwed [] (slice_set h.events e.0 x)) j
    (λ z. owed_fewer (members_in k) [] (slice_set h.events e.0 None) (owed_gone [] h.events e kept (omega (arith, here, z)) s.members))
    (owed_with [] h.events e j kept refl (omega arith) s.members))
    (held_or_gone (λ x. AreNarrow (slice_set h.events e.0 x)) j (λ z. narrow_gone h.events e kept s.narrow) (narrow_with h.events e j kept refl s.narrow))
    s

-- ---- a holder fewer

needed_by : (P : Option Kept → Type 0) (j : Kept) (b : Bool) → is_needed j ≡ b → (b ≡ false → P None) → (b ≡ true → P (Some j)) → P (if b then Some j else None)
needed_by P j true h none some = some refl
needed_by P j false h none some = none refl

pub needed_or_gone : (P : Option Kept → Type 0) (j : Kept) → (is_needed j ≡ false → P None) → (is_needed j ≡ true → P (Some j)) → P (some_if_needed j)
needed_or_gone P j none some = needed_by P j (is_needed j) refl none some

closed_by : (processed cancelled : Bool) (n : ℕ) → (not (processed || cancelled) || nat_lt 0 n) ≡ false → (n ≡ 0) × ((processed ≡ true) ⊎ (cancelled ≡ true))
closed_by true c zero h = (refl, inl refl)
closed_by true c (suc n) h = absurd (false≢true (sym h ∙ lt-ltb 0 (suc n) (omega arith)))
closed_by false true zero h = (refl, inr refl)
closed_by false true (suc n) h = absurd (false≢true (sym h ∙ lt-ltb 0 (suc n) (omega arith)))
closed_by false false n h = absurd (false≢true (sym h))

pub unneeded_is : (j : Kept) → is_needed j ≡ false → (j.holders ≡ 0) × ((j.event.processed ≡ true) ⊎ (j.event.cancelled ≡ true))
unneeded_is j h = closed_by j.event.processed j.event.cancelled j.holders h

closed_awaits : (k : Kept) → IsInOrder k → (k.event.processed ≡ true) ⊎ (k.event.cancelled ≡ true) → awaits k ≡ false
closed_awaits k order (inl processed) = of_outcome_not k.event.outcome k.event.processed processed
closed_awaits k order (inr cancelled) = awaits_pending k (order.cancelled cancelled)

-- an event that has a holder is kept
pub kept_if_held : (o : Option Kept) → 0 < (kept_or_new o).holders → IsSome o
kept_if_held None h = absurd (omega (arith, h))
kept_if_held (Some k) h = refl

pub own_kept : (es : List (Option Kept)) (e : EventId) → HasOwnHolder es e → IsKept es e
own_kept es e h = kept_if_held (slice_index_or es e.0 None) (omega (arith, h))

-- an own holder is one that is owed
pub owed_own : (es : List (Option Kept)) (e : EventId) → HasOwnHolder es e → AreOwed [] es → AreOwed (e ∷ []) es
owed_own es e own owed = record {
  each = λ f. ⊎_elim
      (λ (same : f.0 ≡ e.0). let here = same_event f e same in
      subst (λ g. memberships es g + count_by (is_same g) (e ∷ []) ≤ (kept_at es g).holders) (sym here) (omega (arith, own, count_by-cons (is_same e) e [], counts_one (is_same e e) (is_same-self e))))
      (λ (differ : f.0 ≢ e.0). omega (arith, owed.each f, count_by-cons (is_same f) e [], counts_none (is_same f e) (ne_eqb f.0 e.0 differ)))
      (cases_eq f.0 e.0);
}

pub own_owed : (es : List (Option Kept)) (e : EventId) (todo : List EventId) → AreOwed (e ∷ todo) es → HasOwnHolder es e
own_owed es e todo owed = omega (arith, owed.each e, count_by-cons (is_same e) e todo, counts_one (is_same e e) (is_same-self e))

-- it stays with one holder fewer
pub owed_stays : (todo : List EventId) (es : List (Option Kept)) (e : EventId) → IsKept es e → AreOwed (e ∷ todo) es
    → AreOwed todo (slice_set es e.0 (Some (without_holder (kept_at es e))))
owed_stays todo es e kept owed =
    let j : Kept = without_holder (kept_at es e) in
    let P : EventId → Option Kept → Type 0 = λ f o. memberships es f + count_by (is_same f) todo ≤ (kept_or_new o).holders in
    record {
      each = λ f.
          let same = memberships_set es e f j kept refl in
          let less = at_set P es e (Some j) (kept_made es e kept)
          (omega (arith, owed.each e, count_by-cons (is_same e) e todo, counts_one (is_same e e) (is_same-self e)))
          (λ g differ. omega (arith, owed.each g, count_by-cons (is_same g) e todo)) f in
          omega (arith, same, less);
    }

-- or goes with the last
pub owed_goes : (todo : List EventId) (es : List (Option Kept)) (e : EventId) → IsKept es e
    → (without_holder (kept_at es e)).holders ≡ 0 → AreOwed (e ∷ todo) es
    → AreOwed (members_in (kept_at es e) ++ todo) (slice_set es e.0 None)
owed_goes todo es e kept last owed =
    owed_gone todo es e kept (omega (arith, last, owed.each e, count_by-cons (is_same e) e todo, counts_one (is_same e e) (is_same-self e)))
    (record { each = λ f. omega (arith, owed.each f, count_by-cons (is_same f) e todo) })

pub sound_released : (h n : HappenOf) (room : ℕ) (e : EventId) → HasOwnHolder h.events e → SameTime h n
    → n.events ≡ slice_set h.events e.0 (some_if_needed (without_holder (kept_at h.events e))) → IsSound h room → IsSound n room
sound_released h n room e own t is s =
    let k : Kept = kept_at h.events e in
    let j : Kept = without_holder k in
    let kept : IsKept h.events e = own_kept h.events e own in
    let order : IsInOrder k = s.order.each e in
    let owed : AreOwed (e ∷ []) h.events = owed_own h.events e own s.members in
    sound_set h n room e (some_if_needed j) kept t is
    (needed_or_gone (λ x. awaits (kept_or_new x) ≡ awaits k) j (λ z. sym (closed_awaits k order (unneeded_is j z).1)) (λ z. refl))
    (needed_or_gone (λ x. pending_one x ≤ pending_one (Some k)) j (λ z. omega arith) (λ z. omega arith))
    (needed_or_gone (λ x. kept_one x ≤ 1) j (λ z. omega arith) (λ z. omega arith))
    (needed_or_gone (λ x. IsInOrder (kept_or_new x)) j (λ z. new_in_order) (λ z. record { cancelled = order.cancelled; pending = order.pending }))
    (needed_or_gone (λ x. AreOwed [] (slice_set h.events e.0 x)) j
    (λ z. owed_fewer (members_in k) [] (slice_set h.events e.0 None) (owed_goes [] h.events e kept (unneeded_is j z).0 owed)) (λ z. owed_stays [] h.events e kept owed))
    (needed_or_gone (λ x. AreNarrow (slice_set h.events e.0 x)) j (λ z. narrow_gone h.events e kept s.narrow) (λ z. narrow_with h.events e j kept refl s.narrow))
    s

-- the room of what goes is given again
pub released_spare : (a : AgendaOf) (t u : TableOf) (e : EventId) → HasOwnHolder t.events e → sum_by kept_one t.events ≤ length a.entries + a.spare
    → u.events ≡ change_or_forget e without_holder t.events → kept_and_spare u ≡ kept_and_spare t
    → kept_count u.events + (spare_in a u).events ≡ kept_count t.events + (spare_in a t).events
released_spare a t u e own fit is same =
    let j : Kept = without_holder (kept_at t.events e) in
    let one = needed_or_gone (λ o. kept_one o ≤ 1) j (λ z. omega arith) (λ z. omega arith) in
    spare_given a t u same fit (kept_fewer t.events u.events e (some_if_needed j) (own_kept t.events e own) is one)

-- ---- and so on through what it held

pub by_need : (es : List (Option Kept)) (depth : ℕ) (e : EventId) (b : Bool) → is_needed (without_holder (kept_at es e)) ≡ b
    → unheld_within (suc depth) e es ≡ (if b then slice_set es e.0 (Some (without_holder (kept_at es e))) else fold (λ fs m. unheld_within depth m fs) (slice_set es e.0 None) (members_in (kept_at es e)))
by_need es depth e b h = rw h refl

abbrev Unholds : ℕ → Type 0
Unholds depth = (e : EventId) (todo : List EventId) (es : List (Option Kept)) → AreOwed (e ∷ todo) es → AreOwed todo (unheld_within depth e es)

all_unheld : (depth : ℕ) → Unholds depth → (ms todo : List EventId) (es : List (Option Kept)) → AreOwed (ms ++ todo) es
    → AreOwed todo (fold (λ fs m. unheld_within depth m fs) es ms)
all_unheld depth each [] todo es owed = owed
all_unheld depth each (m ∷ ms) todo es owed = all_unheld depth each ms todo (unheld_within depth m es) (each m (ms ++ todo) es owed)

unheld_by : (depth : ℕ) → Unholds depth → (e : EventId) (todo : List EventId) (es : List (Option Kept)) (b : Bool)
    → is_needed (without_holder (kept_at es e)) ≡ b
    → AreOwed (e ∷ todo) es → AreOwed todo (unheld_within (suc depth) e es)
unheld_by depth each e todo es true h owed =
    subst (AreOwed todo) (sym (by_need es depth e true h)) (owed_stays todo es e (own_kept es e (own_owed es e todo owed)) owed)
unheld_by depth each e todo es false h owed =
    let kept = own_kept es e (own_owed es e todo owed) in
    subst (AreOwed todo) (sym (by_need es depth e false h))
    (all_unheld depth each (members_in (kept_at es e)) todo (slice_set es e.0 None) (owed_goes todo es e kept (unneeded_is (without_holder (kept_at es e)) h).0 owed))

-- what is still owed stays owed
pub owed_unheld : (depth : ℕ) → Unholds depth
owed_unheld zero e todo es owed = owed_fewer (e ∷ []) todo es owed
owed_unheld (suc depth) e todo es owed = unheld_by depth (owed_unheld depth) e todo es (is_needed (without_holder (kept_at es e))) refl owed

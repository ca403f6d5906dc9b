-- How many hold each event that is kept.
use Rattle.std.proofs.Common.{◌≡◌, ℕ, ◌+◌, ◌<◌, ◌≤◌, ◌^◌, zero, suc, map, List, [], ◌∷◌, length, sym, subst, arith, Option, Some, None}
use Rattle.std.specs.Prelude.{◌==◌, slice_index_or, slice_set, All, IfSome}
use Rattle.std.specs.Option.{option_map}
use Rattle.std.proofs.lemmas.List.{length-append, length-set}
use Rattle.std.proofs.lemmas.List.Elements.{All-cons, All-head, All-tail, All-nil, All-append, All-set, All-weaker}
use Rattle.sim_types.specs.declared.event.EventId.{EventId}
use Rattle.sim_happen_model.specs.TableOf.{Kept, kept_at}
use Rattle.sim_happen_model.specs.HappenOf.{HappenOf, AreHeldByFew, held, as_before, unheld_event, one_more, none_if_unheld, gone_if_unheld}
use Rattle.sim_happen_law.proofs.Changes.Held.{holders_at}
use Rattle.sim_machine_law.proofs.KeptParts.KeptTimesCases.{if_cases}
use Rattle.sim_shared_model.specs.Making.{unheld_events}
use Rattle.sim_steps_model.specs.PartsOf.{PartsOf}
use Rattle.sim_steps_model.specs.Becoming.{AreFew, AddsFew, most_held}

-- so many holders at most
abbrev pub AtMost : ℕ → Option ℕ → Type 0
AtMost most x = IfSome x (λ n. n ≤ most)

at_most_weaker : (m n : ℕ) → m ≤ n → (x : Option ℕ) → AtMost m x → AtMost n x
at_most_weaker m n h None k = tt
at_most_weaker m n h (Some i) k = omega (arith, h, k)

pub few_weaker : (m n : ℕ) (hs : List (Option ℕ)) → m ≤ n → AreFew m hs → AreFew n hs
few_weaker m n hs h k = record { each = All-weaker (AtMost m) (AtMost n) (at_most_weaker m n h) hs k.each }

-- an event more, which nobody holds
pub few_made : (most : ℕ) (hs : List (Option ℕ)) → AreFew most hs → AreFew most (unheld_event hs)
few_made most hs h =
    record { each = All-append (AtMost most) hs (Some 0 ∷ []) h.each (All-cons (AtMost most) (Some 0) [] (omega arith) (All-nil (AtMost most))) }

more_of : (most : ℕ) (x : Option ℕ) → AtMost most x → AtMost (most + 1) (option_map (λ n. n + 1) x)
more_of most None h = tt
more_of most (Some n) h = omega (arith, h)

more_at : (most : ℕ) (hs : List (Option ℕ)) (i : ℕ) → All (AtMost most) hs →
    All (AtMost (most + 1)) (slice_set hs i (option_map (λ n. n + 1) (slice_index_or hs i None)))
more_at most [] i h = All-nil (AtMost (most + 1))
more_at most (x ∷ hs) zero h =
    All-cons (AtMost (most + 1)) (option_map (λ n. n + 1) x) hs (more_of most x (All-head (AtMost most) x hs h))
    (All-weaker (AtMost most) (AtMost (most + 1)) (at_most_weaker most (most + 1) (omega arith)) hs (All-tail (AtMost most) x hs h))
more_at most (x ∷ hs) (suc i) h =
    All-cons (AtMost (most + 1)) x _ (at_most_weaker most (most + 1) (omega arith) x (All-head (AtMost most) x hs h))
    (more_at most hs i (All-tail (AtMost most) x hs h))

-- one holder more of an event
pub few_held : (most : ℕ) (e : EventId) (hs : List (Option ℕ)) → AreFew most hs → AreFew (most + 1) (one_more e hs)
few_held most e hs h = record { each = more_at most hs e.0 h.each }

-- an event that goes where nobody holds it
pub few_gone : (most : ℕ) (e : EventId) (hs : List (Option ℕ)) → AreFew most hs → AreFew most (gone_if_unheld e hs)
few_gone most e hs h =
    record {
      each = All-set (AtMost most) hs e.0 (none_if_unheld (slice_index_or hs e.0 None))
          (still (slice_index_or hs e.0 None) (at_place hs e.0 h.each)) h.each;
    }
  where
    still : (x : Option ℕ) → AtMost most x → AtMost most (none_if_unheld x)
    still None k = tt
    still (Some n) k = if_cases (λ (x : Option ℕ). AtMost most x) (n == 0) None (Some n) (λ is. tt) (λ not_so. k)

    at_place : (gs : List (Option ℕ)) (i : ℕ) → All (AtMost most) gs → AtMost most (slice_index_or gs i None)
    at_place [] i k = tt
    at_place (x ∷ gs) zero k = All-head (AtMost most) x gs k
    at_place (x ∷ gs) (suc i) k = at_place gs i (All-tail (AtMost most) x gs k)

-- ---- what is known of an event then

few_of : (most : ℕ) (es : List (Option Kept)) (i : ℕ) → All (λ o. AtMost most (holders_at o)) es →
    (kept_at es (record { 0 = i })).holders ≤ most
few_of most [] i h = omega arith
few_of most (None ∷ es) zero h = omega arith
few_of most (Some k ∷ es) zero h = All-head (λ o. AtMost most (holders_at o)) (Some k) es h
few_of most (o ∷ es) (suc i) h = few_of most es i (All-tail (λ o. AtMost most (holders_at o)) o es h)

unmapped : (most : ℕ) (es : List (Option Kept)) → All (AtMost most) (map holders_at es) → All (λ o. AtMost most (holders_at o)) es
unmapped most [] h = All-nil (λ o. AtMost most (holders_at o))
unmapped most (o ∷ es) h =
    All-cons (λ o. AtMost most (holders_at o)) o es (All-head (AtMost most) (holders_at o) (map holders_at es) h)
    (unmapped most es (All-tail (AtMost most) (holders_at o) (map holders_at es) h))

pub few_here : (most : ℕ) (es : List (Option Kept)) (e : EventId) → AreFew most (map holders_at es) → (kept_at es e).holders ≤ most
few_here most es e h = few_of most es e.0 (unmapped most es h.each)

pub are_few : (h : HappenOf) → AreFew (2 ^ 40) (held h) → AreHeldByFew h.events
are_few h all e = omega (arith, few_here (2 ^ 40) h.events e all)

pub held_by_few : (most : ℕ) (h : HappenOf) → most < 2 ^ 60 → AreFew most (held h) → AreHeldByFew h.events
held_by_few most h few all e = omega (arith, few, few_here most h.events e all)

-- ---- what becomes of the holders

-- how the holders change: as many events were made or more, and each that is kept has so many holders more at most
pub record AddsHolders (more : ℕ) (holds : List (Option ℕ) → List (Option ℕ)) : Type 0 where
  pub longer : (hs : List (Option ℕ)) → length hs ≤ length (holds hs)
  pub few : (most : ℕ) (hs : List (Option ℕ)) → AreFew most hs → AreFew (most + more) (holds hs)

pub adds_none : AddsHolders 0 as_before
adds_none = record { longer = λ hs. omega arith; few = λ most hs h. few_weaker most (most + 0) hs (omega arith) h }

pub adds_unheld : (n : ℕ) → AddsHolders 0 (unheld_events n)
adds_unheld zero = adds_none
adds_unheld (suc n) =
    record {
      longer = λ hs. omega (arith, (adds_unheld n).longer hs, length-append (unheld_events n hs) (Some 0 ∷ []));
      few = λ most hs h. few_made (most + 0) (unheld_events n hs) ((adds_unheld n).few most hs h);
    }

pub adds_one_more : (e : EventId) → AddsHolders 1 (one_more e)
adds_one_more e =
    record {
      longer = λ hs. omega (arith, length-set hs e.0 (option_map (λ n. n + 1) (slice_index_or hs e.0 None)));
      few = λ most hs h. few_held most e hs h;
    }

pub adds_then : (m n : ℕ) (p q : List (Option ℕ) → List (Option ℕ)) → AddsHolders m p → AddsHolders n q → AddsHolders (m + n) (λ hs. q (p hs))
adds_then m n p q h k =
    record {
      longer = λ hs. omega (arith, h.longer hs, k.longer (p hs));
      few = λ most hs all. few_weaker (most + m + n) (most + (m + n)) (q (p hs)) (omega arith) (k.few (most + m) (p hs) (h.few most hs all));
    }

-- so many holders more, or fewer than so many
pub adds_more : (m n : ℕ) (p : List (Option ℕ) → List (Option ℕ)) → m ≤ n → AddsHolders m p → AddsHolders n p
adds_more m n p few h =
    record { longer = h.longer; few = λ most hs all. few_weaker (most + m) (most + n) (p hs) (omega (arith, few)) (h.few most hs all) }

-- ---- from kernel to kernel

pub few_by : {B Code : Type 0} (more : ℕ) (holds : List (Option ℕ) → List (Option ℕ)) (a b : PartsOf B Code) → AddsHolders more holds →
    held b.shared.happen ≡ holds (held a.shared.happen) → AddsFew more a b
few_by more holds a b adds is =
    record { few = λ most h. subst (AreFew (most + more)) (sym is) (adds.few most (held a.shared.happen) h) }

pub few_same : {B Code : Type 0} (a b : PartsOf B Code) → held b.shared.happen ≡ held a.shared.happen → AddsFew 0 a b
few_same a b same = few_by 0 as_before a b adds_none same

pub few_then : {B Code : Type 0} (m n : ℕ) (a b c : PartsOf B Code) → AddsFew m a b → AddsFew n b c → AddsFew (m + n) a c
few_then m n a b c p q =
    record { few = λ most h. few_weaker (most + m + n) (most + (m + n)) (held c.shared.happen) (omega arith) (q.few (most + m) (p.few most h)) }

pub few_more : {B Code : Type 0} (m n : ℕ) (a b : PartsOf B Code) → m ≤ n → AddsFew m a b → AddsFew n a b
few_more m n a b few p = record { few = λ most h. few_weaker (most + m) (most + n) (held b.shared.happen) (omega (arith, few)) (p.few most h) }

-- what gives no event a holder more gives none too many
pub none_is_few : 0 ≤ most_held
none_is_few = omega arith

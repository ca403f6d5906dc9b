-- Where a kernel is opened each event that is there has one holder, for good.
use Rattle.std.proofs.Common.{◌≡◌, ℕ, zero, suc, ◌+◌, ◌<◌, ◌≤◌, true, false, List, [], ◌∷◌, ◌++◌, length, replicate, slice_set, Option, Some, None, refl, sym, ap, subst, ◌∙◌, arith, ⊎_elim}
use Rattle.std.specs.Prelude.{All, IfSome, IsSome, count_by, nat_le, slice_index_or}
use Rattle.std.specs.Option.{option_map}
use Rattle.std.proofs.lemmas.Bool.{cases_lt}
use Rattle.std.proofs.lemmas.Bool.Decides.{nat_tests}
use Rattle.std.proofs.lemmas.List.{get_or_default, get_or_past, length-map, length-replicate, replicate-append-replicate}
use Rattle.std.proofs.lemmas.List.Elements.{All-cons, All-nil}
use Rattle.std.proofs.lemmas.List.Sums.{sum_by-le}
use Rattle.sim_types.specs.declared.event.EventId.{EventId}
use Rattle.sim_types.specs.declared.event.EventKind.TheVariants as kind
use Rattle.sim_machine.specs.State.{EventOf}
use Rattle.sim_machine.specs.Bodies.{BodyOf}
use Rattle.sim_machine.specs.Conditions.{condition_of}
use Rattle.sim_machine.specs.Events.{is_same, pending_event}
use Rattle.sim_machine.specs.Runs.{blank_state, event_zero, first_calendar}
use Rattle.sim_machine.specs.Standing.{one_if}
use Rattle.sim_happen_model.specs.TableOf.{Kept, kept_at, kept_or_new}
use Rattle.sim_happen_model.specs.HappenOf.{HappenOf, held, one_more, unheld_event}
use Rattle.sim_happen_model.specs.Holders.{member_count, members_in, memberships}
use Rattle.sim_happen_model.specs.Shows.{Shows}
use Rattle.sim_happen_law.proofs.Changes.Held.{held_at, holders_at}
use Rattle.sim_accounts.proofs.Quiet.{blank_alone}
use Rattle.sim_steps_model.specs.PartsOf.{PartsOf, plan_of}
use Rattle.sim_steps_model.specs.StandsFor.{Balances}
use Rattle.sim_steps_model.specs.Becoming.{AreFew}
use Rattle.sim_steps_law.proofs.Kernels.Keeping.{few_made}

-- ---- one holder each

-- so many events that are held once
abbrev pub held_once : ℕ → List (Option ℕ)
held_once n = replicate n (Some 1)

length_once : (n : ℕ) → length (held_once n) ≡ n
length_once n = let one : Option ℕ = Some 1 in length-replicate n one

abbrev AtMostOne : Option ℕ → Type 0
AtMostOne x = IfSome x (λ n. n ≤ 1)

once_each : (n : ℕ) → All AtMostOne (held_once n)
once_each zero = All-nil AtMostOne
once_each (suc n) = let one : AtMostOne (Some 1) = omega arith in All-cons AtMostOne (Some 1) (held_once n) one (once_each n)

pub once_few : (n : ℕ) (h : HappenOf) → held h ≡ held_once n → AreFew 1 (held h)
once_few n h is = subst (AreFew 1) (sym is) (record { each = once_each n })

-- one that is made, and not held yet
pub once_made : (n : ℕ) (a m : HappenOf) → held a ≡ held_once n → held m ≡ unheld_event (held a) → AreFew 1 (held m)
once_made n a m is made = subst (AreFew 1) (sym made) (few_made 1 (held a) (once_few n a is))

last_held : (hs : List (Option ℕ)) →
    slice_set (hs ++ Some 0 ∷ []) (length hs) (option_map (λ n. n + 1) (slice_index_or (hs ++ Some 0 ∷ []) (length hs) None)) ≡ hs ++ Some 1 ∷ []
last_held [] = refl
last_held (x ∷ hs) = ap (λ ys. x ∷ ys) (last_held hs)

last_more : (hs : List (Option ℕ)) (e : EventId) → e.0 ≡ length hs → one_more e (unheld_event hs) ≡ hs ++ Some 1 ∷ []
last_more hs e is = rw is (last_held hs)

once_then : (n : ℕ) → held_once n ++ Some 1 ∷ [] ≡ held_once (n + 1)
once_then n = let one : Option ℕ = Some 1 in replicate-append-replicate n 1 one

-- and one that is made and held
pub once_more : (n : ℕ) (a m b : HappenOf) (e : EventId) → held a ≡ held_once n → e.0 ≡ length a.events →
    held m ≡ unheld_event (held a) → held b ≡ one_more e (held m) → held b ≡ held_once (n + 1)
once_more n a m b e is last made holds =
    let same : e.0 ≡ length (held_once n) = omega (arith, last, length-map a.events holders_at, ap length is, length_once n) in
    holds ∙ (ap (one_more e) (made ∙ ap unheld_event is) ∙ (last_more (held_once n) e same ∙ once_then n))

-- ---- no event has members

pending_alone : (n i : ℕ) → (slice_index_or (replicate n (pending_event kind.Plain)) i (pending_event kind.Plain)).condition ≡ None
pending_alone zero i = refl
pending_alone (suc n) zero = refl
pending_alone (suc n) (suc i) = pending_alone n i

named_alone : (n i : ℕ) → (slice_index_or (event_zero ∷ replicate n (pending_event kind.Plain)) i (pending_event kind.Plain)).condition ≡ None
named_alone n zero = refl
named_alone n (suc i) = pending_alone n i

module _ (n : ℕ) (h : HappenOf) (shown : Shows h (first_calendar n)) where
  no_members : (e : EventId) → members_in (kept_at h.events e) ≡ []
  no_members e = by (slice_index_or h.events e.0 None) refl
    where
      by : (o : Option Kept) → slice_index_or h.events e.0 None ≡ o → members_in (kept_at h.events e) ≡ []
      by None is = rw is refl
      by (Some k) is =
          let there : IsSome (slice_index_or h.events e.0 None) = rw is refl in
          ap (λ (x : EventOf). (condition_of x.condition).members) (shown.kept e there).event ∙ ap (λ o. (condition_of o).members) (named_alone n e.0)

  none_in : (e : EventId) (i : ℕ) → member_count e (slice_index_or h.events i None) ≤ 0
  none_in e i = omega (arith, ap (count_by (is_same e)) (no_members (record { 0 = i })))

  no_memberships : (e : EventId) → memberships h.events e ≡ 0
  no_memberships e =
      omega (
        arith,
        sum_by-le (member_count e) 0 h.events
            (λ i d below. subst (λ o. member_count e o ≤ 0) (get_or_default h.events i None d below) (none_in e i)),
      )

-- ---- the accounts balance

-- how many hold an event, if it is kept
abbrev count_at : Option ℕ → ℕ
count_at None = 0
count_at (Some n) = n

count_is : (o : Option Kept) → (kept_or_new o).holders ≡ count_at (holders_at o)
count_is None = refl
count_is (Some k) = refl

once_within : (n i : ℕ) → i < n → slice_index_or (held_once n) i None ≡ Some 1
once_within zero i below = absurd (omega (arith, below))
once_within (suc n) zero below = refl
once_within (suc n) (suc i) below = once_within n i (omega (arith, below))

once_at : (n i : ℕ) → count_at (slice_index_or (held_once (n + 1)) i None) ≡ one_if (nat_le i n)
once_at n i = ⊎_elim within past (cases_lt i (n + 1))
  where
    within : i < n + 1 → count_at (slice_index_or (held_once (n + 1)) i None) ≡ one_if (nat_le i n)
    within below = let is : nat_le i n ≡ true = grind (arith, nat_tests) in rw (once_within (n + 1) i below, is) refl

    past : n + 1 ≤ i → count_at (slice_index_or (held_once (n + 1)) i None) ≡ one_if (nat_le i n)
    past le =
        let is : nat_le i n ≡ false = grind (arith, nat_tests) in
        rw (get_or_past (held_once (n + 1)) i None (omega (arith, le, length_once (n + 1))), is) refl

pub blank_balances : {B Code : Type 0} {body : BodyOf B Code} (parts : PartsOf B Code) →
    Shows parts.shared.happen (first_calendar parts.setup.events) →
    held parts.shared.happen ≡ held_once (parts.setup.events + 1) → Balances body [] parts (blank_state (plan_of body parts))
blank_balances {B} {Code} {body} parts shown is =
    let n : ℕ = parts.setup.events in
    let h : HappenOf = parts.shared.happen in
    let made : length h.events ≡ n + 1 = omega (arith, length-map h.events holders_at, ap length is, length_once (n + 1)) in
    let holders : (e : EventId) → (kept_at h.events e).holders ≡ one_if (nat_le e.0 n) =
    λ e. count_is (slice_index_or h.events e.0 None) ∙ (ap count_at (sym (held_at h e) ∙ ap (λ hs. slice_index_or hs e.0 None) is) ∙ once_at n e.0) in
    record {
      holders = record {
        each = λ e. omega (arith, holders e, blank_alone (body.tell parts.code) (plan_of body parts) e, no_memberships n h shown e);
        older = λ e. subst (λ es. All (λ m. m.0 < e.0) es) (sym (no_members n h shown e)) (All-nil (λ m. m.0 < e.0));
      };
      gone = record {
        each = λ e below none.
            let there : Some 1 ≡ None =
            sym (once_within (n + 1) e.0 (omega (arith, below, made)))
            ∙ (ap (λ hs. slice_index_or hs e.0 None) (sym is) ∙ (held_at h e ∙ ap holders_at none)) in
            cc;
      };
    }

-- What is known of a happening, one of whose calendars is known, and who is kept by how many holders.
use Rattle.std.proofs.Common.{◌≡◌, ℕ, ◌+◌, ◌<◌, ◌^◌, Bool, true, false, ◌&&◌, List, [], ◌∷◌, length, get_or, refl, sym, ap, subst, ◌∙◌, arith, zero, suc, fold, Option, Some, None, Result, Ok, Err}
use Rattle.std.specs.Prelude.{slice_index_or, slice_set, nat_lt, is_none, IsSome, ◌↔◌, IsErr, IfOk, OnOk, MatchOption}
use Rattle.std.specs.List.Sorted.{IsPermutation}
use Rattle.std.proofs.lemmas.List.Sorted.{length_permutation}
use Rattle.std.proofs.Math.ListN.{length-set}
use Rattle.std.specs.List.{sum_by}
use Rattle.std.proofs.lemmas.Bool.{ltb-true, false≢true}
use Rattle.std.proofs.lemmas.Option.{same_Some}
use Rattle.std.proofs.lemmas.List.Sums.{sum_by-cons}
use Rattle.sim_types.specs.declared.event.EventId.{EventId}
use Rattle.sim_types.specs.declared.event.Entry.{Entry}
use Rattle.sim_types.specs.declared.event.EventKind.TheVariants as kind
use Rattle.sim_types.specs.declared.line.Line.{Line}
use Rattle.sim_types.specs.declared.event.Outcome.{Outcome}
use Rattle.sim_machine.specs.Agenda.{due, popped}
use Rattle.sim_machine.specs.Runs.{first_calendar}
use Rattle.sim_machine.specs.State.{EventOf, Calendar}
use Rattle.sim_machine.specs.Events.{event_at, pending_event}
use Rattle.sim_happen_model.specs.TableOf.{Kept, IsKept, kept_at, kept_or_new, is_needed}
use Rattle.sim_happen_model.specs.Changes.{without_holder}
use Rattle.sim_happen_model.specs.HappenOf.{HappenOf, AreHeldByFew, held, one_more}
use Rattle.sim_happen_model.specs.Holders.{members_in, member_count, HasOwnHolder, unheld, unheld_within}
use Rattle.sim_happen_model.specs.Shows.{Shows, Turns, PopsEntry}
use Rattle.sim_happen_law.proofs.Shown.KeptPlaces.{kept_is}
use Rattle.sim_happen_law.proofs.Changes.Held.{holders_at, held_at, kept_of}
use Rattle.sim_happen_law.proofs.Changes.Shutting.{by_need}

pub record Known (h : HappenOf) (c : Calendar) (hs : List (Option ℕ)) : Type 0 where
  pub shows : Shows h c
  pub held : held h ≡ hs

pub known_then : (f : Calendar → Calendar) (p : List (Option ℕ) → List (Option ℕ)) (a b : HappenOf) (c : Calendar) (hs : List (Option ℕ))
    → Turns f p a b → Known a c hs → Known b (f c) (p hs)
known_then f p a b c hs t k = record { shows = t.each c k.shows; held = t.held ∙ ap p k.held }

-- the event that the turn is about is named otherwise
pub known_of : (f : EventId → Calendar → Calendar) (p : EventId → List (Option ℕ) → List (Option ℕ)) (e n : EventId) → e ≡ n
    → (a b : HappenOf) (c : Calendar) (hs : List (Option ℕ)) → Turns (f e) (p e) a b → Known a c hs → Known b (f n c) (p n hs)
known_of f p e n same a b c hs t k = subst (λ x. Known b (f x c) (p x hs)) same (known_then (f e) (p e) a b c hs t k)

-- the entry that is due is popped
pub known_popped : (x y : Entry) (told : Line) (a b : HappenOf) (c : Calendar) (hs : List (Option ℕ)) → due c.agenda ≡ Some y
    → PopsEntry x told a b → Known a c hs → Known b (popped y c) (one_more y.event hs)
known_popped x y told a b c hs is p k =
    let same : x ≡ y = same_Some _ _ (sym (p.due c k.shows) ∙ is) in
    subst (λ z. Known b (popped z c) (one_more z.event hs)) same (record { shows = p.each c k.shows; held = p.held ∙ ap (one_more x.event) k.held })

-- only the room changes
pub known_spare : (a b : HappenOf) (c : Calendar) (hs : List (Option ℕ)) → b ≡ record a { spare = b.spare } → Known a c hs → Known b c hs
known_spare a b c hs same k =
    let s = k.shows in
    subst (λ h. Known h c hs) (sym same) (record {
      shows = record { time = s.time; scheduled = s.scheduled; agenda = s.agenda; made = s.made; kept = s.kept; unmade = s.unmade };
      held = k.held;
    })

-- room was made as nothing had happened yet
pub opened : (a b : HappenOf) → Shows a (first_calendar 0) → held a ≡ Some 1 ∷ [] → b ≡ record a { spare = b.spare }
    → Known b (first_calendar 0) (Some 1 ∷ [])
opened a b shows holds same = known_spare a b _ _ same (record { shows = shows; held = holds })

-- only the room and the callbacks that are left to call change
pub known_rest : (a b : HappenOf) (c : Calendar) (hs : List (Option ℕ)) → b ≡ record a { left = b.left; spare = b.spare } → Known a c hs → Known b c hs
known_rest a b c hs same k =
    let s = k.shows in
    subst (λ h. Known h c hs) (sym same) (record {
      shows = record { time = s.time; scheduled = s.scheduled; agenda = s.agenda; made = s.made; kept = s.kept; unmade = s.unmade };
      held = k.held;
    })

module _ (h : HappenOf) (c : Calendar) (hs : List (Option ℕ)) (k : Known h c hs) where
  holds : (e : EventId) → slice_index_or hs e.0 None ≡ holders_at (slice_index_or h.events e.0 None)
  holds e = sym (ap (λ (gs : List (Option ℕ)). slice_index_or gs e.0 None) k.held) ∙ held_at h e

  pub kept_known : (e : EventId) → IsSome (slice_index_or hs e.0 None) → IsKept h.events e
  kept_known e some = kept_of (slice_index_or h.events e.0 None) (subst IsSome (holds e) some)

  pub event_known : (e : EventId) → IsSome (slice_index_or hs e.0 None) → (kept_at h.events e).event ≡ event_at c e
  event_known e some = (k.shows.kept e (kept_known e some)).event

  pub holders_known : (e : EventId) (n : ℕ) → slice_index_or hs e.0 None ≡ Some n → (kept_at h.events e).holders ≡ n
  holders_known e n is =
      let kept = kept_known e (subst (λ (o : Option ℕ). IsSome o) (sym is) refl) in
      same_Some _ _ (sym (ap holders_at (kept_is h.events e kept)) ∙ (sym (holds e) ∙ is))

-- ---- few hold each

-- how many hold it, if it is kept
abbrev or_zero : Option ℕ → ℕ
or_zero None = 0
or_zero (Some n) = n

abbrev pub are_few : List (Option ℕ) → Bool
are_few [] = true
are_few (o ∷ hs) = nat_lt (or_zero o) (2 ^ 60) && are_few hs

both : (a b : Bool) → (a && b) ≡ true → (a ≡ true) × (b ≡ true)
both true b h = (refl, h)
both false b h = absurd (false≢true h)

few_at : (hs : List (Option ℕ)) → are_few hs ≡ true → (n : ℕ) → or_zero (get_or hs n None) < 2 ^ 60
few_at [] h n = omega arith
few_at (o ∷ hs) h zero = ltb-true (or_zero o) (2 ^ 60) (both (nat_lt (or_zero o) (2 ^ 60)) (are_few hs) h).0
few_at (o ∷ hs) h (suc n) = few_at hs (both (nat_lt (or_zero o) (2 ^ 60)) (are_few hs) h).1 n

holders_or_zero : (o : Option Kept) → (kept_or_new o).holders ≡ or_zero (holders_at o)
holders_or_zero None = refl
holders_or_zero (Some k) = refl

pub few_known : (h : HappenOf) (c : Calendar) (hs : List (Option ℕ)) → Known h c hs → are_few hs ≡ true → AreHeldByFew h.events
few_known h c hs k few = λ e.
    let is = holders_or_zero (slice_index_or h.events e.0 None) ∙ ap or_zero (sym (holds h c hs k e)) in
    omega (arith, is, few_at hs few e.0)

-- ---- where there is no condition, each holder is an event's own

abbrev pub are_plain : List EventOf → Bool
are_plain [] = true
are_plain (x ∷ xs) = is_none x.condition && are_plain xs

none_is : {X : Type 0} (o : Option X) → is_none o ≡ true → o ≡ None
none_is None h = refl
none_is (Some x) h = absurd (false≢true h)

plain_at : (xs : List EventOf) → are_plain xs ≡ true → (n : ℕ) → (get_or xs n (pending_event kind.Plain)).condition ≡ None
plain_at [] h n = refl
plain_at (x ∷ xs) h zero = none_is x.condition (both (is_none x.condition) (are_plain xs) h).0
plain_at (x ∷ xs) h (suc n) = plain_at xs (both (is_none x.condition) (are_plain xs) h).1 n

sum_none : {X : Type 0} (f : Option X → ℕ) (xs : List (Option X)) → ((n : ℕ) → f (get_or xs n None) ≡ 0) → sum_by f xs ≡ 0
sum_none f [] h = refl
sum_none f (x ∷ xs) h = omega (arith, sum_by-cons f x xs, h 0, sum_none f xs (λ n. h (suc n)))

no_members : (e : EventId) (o : Option Kept) → (IsSome o → (kept_or_new o).event.condition ≡ None) → member_count e o ≡ 0
no_members e None h = refl
no_members e (Some k) h = rw (h refl) refl

pub own_known : (h : HappenOf) (c : Calendar) (hs : List (Option ℕ)) → Known h c hs → are_plain c.events ≡ true
    → (e : EventId) (n : ℕ) → slice_index_or hs e.0 None ≡ Some (suc n) → HasOwnHolder h.events e
own_known h c hs k plain e n is =
    let none = sum_none (member_count e) h.events (λ m. let f : EventId = record { 0 = m } in
    no_members e (get_or h.events m None) (λ kept. ap (λ (x : EventOf). x.condition) (k.shows.kept f kept).event ∙ plain_at c.events plain m)) in
    omega (arith, none, holders_known h c hs k e (suc n) is)

-- ---- what the calls answer

-- what is refused only for a reason that is not there is done
pub done : {T E : Type 0} (r : Result T E) (P Q : Type 0) → (IsErr r ↔ Q) → ¬ Q → OnOk r P → P
done (Ok x) P Q refused none ok = ok
done (Err x) P Q refused none ok = absurd (none (refused.0 refl))

pub none_there : (o : Option Outcome) → o ≡ None → ¬ IsSome o
none_there o none some = false≢true (subst (λ (p : Option Outcome). IsSome p) none some)

no_entry : (xs : List Entry) (x : Entry) (ys : List Entry) → IsPermutation (x ∷ xs) ys → ys ≡ [] → ⊥
no_entry xs x ys same none = omega (arith, length_permutation (x ∷ xs) ys same, ap (λ (zs : List Entry). length zs) none)

-- an entry is due, so it is popped
pub known_stepped : (r : Option Line) (x y : Entry) (xs : List Entry) (a b : HappenOf) (c : Calendar) (hs : List (Option ℕ)) → c.agenda ≡ x ∷ xs
    → due c.agenda ≡ Some y → MatchOption r ((a.agenda ≡ []) × (b ≡ a)) (λ told. (z : Entry) × PopsEntry z told a b)
    → Known a c hs → Known b (popped y c) (one_more y.event hs)
known_stepped None x y xs a b c hs agenda is none k = absurd (no_entry xs x a.agenda (subst (λ ys. IsPermutation ys a.agenda) agenda k.shows.agenda) none.0)
known_stepped (Some told) x y xs a b c hs agenda is some k = known_popped some.0 y told a b c hs is some.1 k

-- nothing is made or lost as holders are given back
same_length : (depth : ℕ) → ((m : EventId) (es : List (Option Kept)) → length (unheld_within depth m es) ≡ length es)
    → (ms : List EventId) (es : List (Option Kept)) → length (fold (λ fs m. unheld_within depth m fs) es ms) ≡ length es
same_length depth each [] es = refl
same_length depth each (m ∷ ms) es = same_length depth each ms (unheld_within depth m es) ∙ each m es

unheld_by : (depth : ℕ) → ((m : EventId) (es : List (Option Kept)) → length (unheld_within depth m es) ≡ length es)
    → (e : EventId) (es : List (Option Kept)) (b : Bool) → is_needed (without_holder (kept_at es e)) ≡ b → length (unheld_within (suc depth) e es) ≡ length es
unheld_by depth each e es true h = ap (λ (fs : List (Option Kept)). length fs) (by_need es depth e true h) ∙ length-set es e.0 (Some (without_holder (kept_at es e)))
unheld_by depth each e es false h =
    ap (λ (fs : List (Option Kept)). length fs) (by_need es depth e false h) ∙ (same_length depth each (members_in (kept_at es e)) (slice_set es e.0 None) ∙ length-set es e.0 None)

length_unheld : (depth : ℕ) (e : EventId) (es : List (Option Kept)) → length (unheld_within depth e es) ≡ length es
length_unheld zero e es = refl
length_unheld (suc depth) e es = unheld_by depth (length_unheld depth) e es (is_needed (without_holder (kept_at es e))) refl

pub made_unheld : (a b : HappenOf) (c : Calendar) (hs : List (Option ℕ)) (e : EventId) → b.events ≡ unheld e a.events → Known a c hs
    → length b.events ≡ length c.events
made_unheld a b c hs e is k = ap (λ (es : List (Option Kept)). length es) is ∙ (length_unheld (e.0 + 1) e a.events ∙ k.shows.made)

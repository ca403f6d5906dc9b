-- The value of a condition is gathered leaf by leaf.
use Rattle.std.proofs.Common.{◌≡◌, ℕ, ◌+◌, ◌-◌, ◌<◌, ◌≤◌, Bool, true, false, not, ◌||◌, List, [], ◌∷◌, ◌++◌, length, take, fold, filter, refl, sym, ap, subst, ◌∙◌, arith, zero, suc, Option, if◌then◌else◌}
use Rattle.std.specs.Prelude.{slice_index_or, All, flat_map, is_some, IsSome}
use Rattle.std.specs.List.{sum_by, list_any, Contains}
use Rattle.std.proofs.lemmas.Bool.{false≢true, lt-ltb}
use Rattle.sim_types.specs.Few.{pushed_within}
use Rattle.std.proofs.lemmas.List.{take_more, take_all, append-nil, append_assoc}
use Rattle.std.proofs.lemmas.List.Elements.{filter-append, All-head, All-tail}
use Rattle.std.proofs.lemmas.List.Sums.{sum_by-cons}
use Rattle.std.proofs.lemmas.Map.Views.{Contains-from_any, list_any-from_Contains}
use Rattle.std.specs.Cmp.{IsEquivalence}
use Rattle.std.proofs.lemmas.Bool.Decides.{nat_tests}
use Rattle.sim_types.specs.declared.event.EventId.{EventId}
use Rattle.sim_machine.specs.State.{EventOf, Calendar}
use Rattle.sim_machine.specs.Events.{is_same, is_processed, is_fail, event_at, unregister, is_check_of}
use Rattle.sim_machine.specs.Conditions.{condition_of, is_condition, members_of, most_weight, leaves_within, first_places, value_of, fix_value, change_condition, take_checks_within}
use Rattle.sim_machine_law.proofs.Events.EventLaws.{is_same-self, is_same-yes}
use Rattle.sim_machine_law.proofs.ConditionLaws.ConditionValues.{stands_already, stands_last}
use Rattle.sim_happen_model.specs.TableOf.{Kept, IsKept, kept_at, kept_condition}
use Rattle.sim_happen_model.specs.HappenOf.{HappenOf}
use Rattle.sim_happen_model.specs.Holders.{AreOwed}
use Rattle.sim_happen_model.specs.Shows.{Shows, Follows}
use Rattle.sim_happen_model.specs.Seen.{seen}
use Rattle.sim_happen_model.specs.Sound.{weight_in}
use Rattle.sim_happen_model.specs.Gathering.{leaves_in, value_from, Gathers}
use Rattle.sim_happen_law.proofs.Shown.SeenShown.{event_seen}
use Rattle.sim_happen_law.proofs.Changes.Following.{read_is, turns_as, follows_none, event_then, kept_then}
use Rattle.sim_happen_law.proofs.Conditions.Memberships.{members_kept}
use Rattle.sim_happen_law.proofs.Conditions.Weights.{sum_next}

-- ---- one leaf

abbrev is_done : List (Option Kept) → EventId → Bool
is_done es e = (kept_at es e).event.processed

same_turned : (e f : EventId) → is_same e f ≡ is_same f e
same_turned e f = grind (arith, nat_tests)

both_same : (e x y : EventId) → is_same y x ≡ true → is_same e y ≡ true → is_same e x ≡ true
both_same e x y h k = grind (arith, nat_tests)

one_without : (e x y : EventId) (ys : List EventId) (a b : Bool) → is_same y x ≡ a → is_same e y ≡ b → is_same e x ≡ false
    → list_any (is_same e) (filter (λ f. not (is_same f x)) ys) ≡ list_any (is_same e) ys
    → list_any (is_same e) (filter (λ f. not (is_same f x)) (y ∷ ys)) ≡ list_any (is_same e) (y ∷ ys)
one_without e x y ys true true h k differ later = absurd (false≢true (sym differ ∙ both_same e x y h k))
one_without e x y ys true false h k differ later = rw (h, k) later
one_without e x y ys false b h k differ later = rw h (ap (λ z. is_same e y || z) later)

without_other : (e x : EventId) (xs : List EventId) → is_same e x ≡ false → list_any (is_same e) (filter (λ f. not (is_same f x)) xs) ≡ list_any (is_same e) xs
without_other e x [] differ = refl
without_other e x (y ∷ ys) differ = one_without e x y ys (is_same y x) (is_same e y) refl refl differ (without_other e x ys differ)

any_by : (e x : EventId) (xs fs : List EventId) (b : Bool) → is_same e x ≡ b → list_any (is_same e) fs ≡ list_any (is_same e) xs
    → list_any (is_same e) (x ∷ filter (λ f. not (is_same f x)) fs) ≡ list_any (is_same e) (x ∷ xs)
any_by e x xs fs true h later = rw h refl
any_by e x xs fs false h later = rw h (without_other e x fs h ∙ later)

-- an event stands among the first places where it stands at all
any_first : (e : EventId) (xs : List EventId) → list_any (is_same e) (first_places xs) ≡ list_any (is_same e) xs
any_first e [] = refl
any_first e (x ∷ xs) = any_by e x xs (first_places xs) (is_same e x) refl (any_first e xs)

same_equivalence : IsEquivalence is_same
same_equivalence = record {
  refl = is_same-self;
  symm = same_turned;
  congr = λ x y z h. ap (λ e. is_same e z) (is_same-yes x y h);
}

contained : (xs : List EventId) (e : EventId) → Contains xs e → list_any (is_same e) xs ≡ true
contained xs e c = list_any-from_Contains same_equivalence e xs c

-- what a leaf adds that is processed, and was not there
abbrev done_of : List (Option Kept) → List EventId → List EventId
done_of es xs = filter (is_done es) xs

filtered_one : (es : List (Option Kept)) (done : List EventId) (e : EventId) (b : Bool) → is_done es e ≡ b
    → done_of es (done ++ e ∷ []) ≡ done_of es done ++ (if b then e ∷ [] else [])
filtered_one es done e true h = filter-append (is_done es) done (e ∷ []) ∙ ap (λ xs. done_of es done ++ xs) (rw h refl)
filtered_one es done e false h = filter-append (is_done es) done (e ∷ []) ∙ ap (λ xs. done_of es done ++ xs) (rw h refl)

pub leaf_out : (es : List (Option Kept)) (e : EventId) (old : List EventId) → (kept_at es e).event.processed ≡ false → Gathers es (e ∷ []) old old
leaf_out es e old out = record {
  each = λ done is. is ∙ ap first_places (sym (filtered_one es done e false out ∙ append-nil (done_of es done)));
}

pub leaf_again : (es : List (Option Kept)) (e : EventId) (old : List EventId) → (kept_at es e).event.processed ≡ true → list_any (is_same e) old ≡ true
    → Gathers es (e ∷ []) old old
leaf_again es e old out there = record {
  each = λ done is.
      let again : Contains (done_of es done) e = Contains-from_any (λ x y h. is_same-yes x y h) e (done_of es done) (sym (any_first e (done_of es done)) ∙ (ap (list_any (is_same e)) (sym is) ∙ there)) in
      is ∙ sym (ap first_places (filtered_one es done e true out) ∙ stands_already (done_of es done) e again);
}

pub leaf_new : (es : List (Option Kept)) (e : EventId) (old new : List EventId) → (kept_at es e).event.processed ≡ true → list_any (is_same e) old ≡ false
    → new ≡ old ++ e ∷ [] → Gathers es (e ∷ []) old new
leaf_new es e old new out not_there more = record {
  each = λ done is.
      let none : ¬ Contains (done_of es done) e = λ c. false≢true (sym (sym (any_first e (done_of es done)) ∙ (ap (list_any (is_same e)) (sym is) ∙ not_there)) ∙ contained (done_of es done) e c) in
      more ∙ (ap (λ xs. xs ++ e ∷ []) is ∙ sym (ap first_places (filtered_one es done e true out) ∙ stands_last (done_of es done) e none));
}

push_fits : {X : Type 0} (n : ℕ) (xs : List X) (x : X) → length xs < n → pushed_within n xs x ≡ xs ++ x ∷ []
push_fits n xs x room = rw (lt-ltb (length xs) n room) refl

pub leaf_pushed : (xs ys : List EventId) (e : EventId) → ys ≡ pushed_within 64 xs e → length xs < most_weight → ys ≡ xs ++ e ∷ []
leaf_pushed xs ys e is room = is ∙ push_fits 64 xs e room

-- ---- leaves one after the other

pub gathers_none : (es : List (Option Kept)) (old : List EventId) → Gathers es [] old old
gathers_none es old = record { each = λ done is. is ∙ ap (value_from es) (sym (append-nil done)) }

pub gathers_then : (es : List (Option Kept)) (xs ys a b d : List EventId) → Gathers es xs a b → Gathers es ys b d → Gathers es (xs ++ ys) a d
gathers_then es xs ys a b d p q = record { each = λ done is. q.each (done ++ xs) (p.each done is) ∙ ap (value_from es) (append_assoc done xs ys) }

flat_push : (f : EventId → List EventId) (ms : List EventId) (m : EventId) → flat_map f (ms ++ m ∷ []) ≡ flat_map f ms ++ f m
flat_push f [] m = append-nil (f m)
flat_push f (x ∷ ms) m = ap (λ xs. f x ++ xs) (flat_push f ms m) ∙ sym (append_assoc (f x) (flat_map f ms) (f m))

sum_taken : (f : EventId → ℕ) (ms : List EventId) (i : ℕ) → sum_by f (take i ms) ≤ sum_by f ms
sum_taken f [] zero = omega arith
sum_taken f [] (suc i) = omega arith
sum_taken f (m ∷ ms) zero = omega arith
sum_taken f (m ∷ ms) (suc i) = omega (arith, sum_taken f ms i, sum_by-cons f m ms, sum_by-cons f m (take i ms))

-- so many members joined the value
pub record GathersUpTo (depth : ℕ) (es : List (Option Kept)) (ms : List EventId) (i : ℕ) (old now : List EventId) : Type 0 where
  pub gathers : Gathers es (flat_map (leaves_in depth es) (take i ms)) old now
  pub few : length now ≤ length old + sum_by (weight_in depth es) (take i ms)
  pub light : length old + 1 + sum_by (weight_in depth es) ms ≤ most_weight

weight_of_condition : (depth : ℕ) (es : List (Option Kept)) (e : EventId) (n : ℕ) → 0 < depth → n + weight_in depth es e ≤ most_weight
    → n + 1 + sum_by (weight_in (depth - 1) es) (kept_condition es e).members ≤ most_weight
weight_of_condition zero es e n deep h = absurd (omega (arith, deep))
weight_of_condition (suc depth) es e n deep h =
    let same : depth ≡ suc depth - 1 = omega arith in
    subst (λ d. n + 1 + sum_by (weight_in d es) (kept_condition es e).members ≤ most_weight) same (omega (arith, h))

pub gather_first : (depth : ℕ) (es : List (Option Kept)) (e : EventId) (ms old : List EventId) → 0 < depth → length old + weight_in depth es e ≤ most_weight
    → ms ≡ (kept_condition es e).members → GathersUpTo (depth - 1) es ms 0 old old
gather_first depth es e ms old deep light is = record {
  gathers = gathers_none es old;
  few = omega arith;
  light = subst (λ xs. length old + 1 + sum_by (weight_in (depth - 1) es) xs ≤ most_weight) (sym is) (weight_of_condition depth es e (length old) deep light);
}

pub gather_fits : (depth : ℕ) (es : List (Option Kept)) (ms : List EventId) (i : ℕ) (d : EventId) (old now : List EventId)
    → i < length ms → GathersUpTo depth es ms i old now
    → length now + weight_in depth es (slice_index_or ms i d) ≤ most_weight
gather_fits depth es ms i d old now within g =
    omega (arith, g.few, g.light, sum_next (weight_in depth es) ms i d within, sum_taken (weight_in depth es) ms (i + 1))

pub gather_next : (depth : ℕ) (es : List (Option Kept)) (ms : List EventId) (i : ℕ) (d : EventId) (old now new : List EventId)
    → i < length ms → GathersUpTo depth es ms i old now
    → Gathers es (leaves_in depth es (slice_index_or ms i d)) now new → length new ≤ length now + weight_in depth es (slice_index_or ms i d)
    → GathersUpTo depth es ms (i + 1) old new
gather_next depth es ms i d old now new within g more few =
    let m : EventId = slice_index_or ms i d in
    let f : EventId → List EventId = leaves_in depth es in
    record {
      gathers = subst (λ xs. Gathers es xs old new) (sym (ap (flat_map f) (take_more ms i d within) ∙ flat_push f (take i ms) m))
          (gathers_then es (flat_map f (take i ms)) (f m) old now new g.gathers more);
      few = omega (arith, few, g.few, sum_next (weight_in depth es) ms i d within);
      light = g.light;
    }

leaves_by : (depth : ℕ) (es : List (Option Kept)) (e : EventId) (b : Bool) → is_some (kept_at es e).event.condition ≡ b
    → leaves_in (suc depth) es e ≡ (if b then flat_map (leaves_in depth es) (kept_condition es e).members else e ∷ [])
leaves_by depth es e b h = rw h refl

pub gather_last : (depth : ℕ) (es : List (Option Kept)) (e : EventId) (ms : List EventId) (i : ℕ) (old now : List EventId) → 0 < depth
    → is_some (kept_at es e).event.condition ≡ true → ms ≡ (kept_condition es e).members → length ms ≤ i → GathersUpTo (depth - 1) es ms i old now
    → Gathers es (leaves_in depth es e) old now × (length now ≤ length old + weight_in depth es e)
gather_last zero es e ms i old now deep composed is whole g = absurd (omega (arith, deep))
gather_last (suc depth) es e ms i old now deep composed is whole g =
    let same : suc depth - 1 ≡ depth = omega arith in
    let all : take i ms ≡ (kept_condition es e).members = take_all i ms whole ∙ is in
    let leaves : Gathers es (flat_map (leaves_in depth es) (kept_condition es e).members) old now = subst (λ xs. Gathers es (flat_map (leaves_in depth es) xs) old now) all (subst (λ n. Gathers es (flat_map (leaves_in n es) (take i ms)) old now) same g.gathers) in
    let few : length now ≤ length old + sum_by (weight_in depth es) (kept_condition es e).members = subst (λ xs. length now ≤ length old + sum_by (weight_in depth es) xs) all (subst (λ n. length now ≤ length old + sum_by (weight_in n es) (take i ms)) same g.few) in
    (subst (λ xs. Gathers es xs old now) (sym (leaves_by depth es e true composed)) leaves, omega (arith, few))

pub gather_leaf : (depth : ℕ) (es : List (Option Kept)) (e : EventId) (old now : List EventId) → 0 < depth → is_some (kept_at es e).event.condition ≡ false
    → Gathers es (e ∷ []) old now → length now ≤ length old + 1 → Gathers es (leaves_in depth es e) old now × (length now ≤ length old + weight_in depth es e)
gather_leaf zero es e old now deep plain g few = absurd (omega (arith, deep))
gather_leaf (suc depth) es e old now deep plain g few = (subst (λ xs. Gathers es xs old now) (sym (leaves_by depth es e false plain)) g, omega (arith, few))

pub gather_nothing : (depth : ℕ) (es : List (Option Kept)) (e : EventId) (old : List EventId) → depth ≤ 0 → Gathers es (leaves_in depth es e) old old
gather_nothing zero es e old h = gathers_none es old
gather_nothing (suc depth) es e old h = absurd (omega (arith, h))

pub weight_positive : (depth : ℕ) (es : List (Option Kept)) (e : EventId) → 1 ≤ weight_in depth es e
weight_positive zero es e = omega arith
weight_positive (suc depth) es e = omega arith

-- ---- what is shown

filter_flat : (p : EventId → Bool) (f : EventId → List EventId) (ms : List EventId) → filter p (flat_map f ms) ≡ flat_map (λ m. filter p (f m)) ms
filter_flat p f [] = refl
filter_flat p f (m ∷ ms) = filter-append p (f m) (flat_map f ms) ∙ ap (λ xs. filter p (f m) ++ xs) (filter_flat p f ms)

flat_on : (P : EventId → Type 0) (f g : EventId → List EventId) (ms : List EventId) → All P ms
    → ((m : EventId) → P m → f m ≡ g m) → flat_map f ms ≡ flat_map g ms
flat_on P f g [] all same = refl
flat_on P f g (m ∷ ms) all same = ap (λ xs. xs ++ flat_map f ms) (same m (All-head P m ms all)) ∙ ap (λ xs. g m ++ xs) (flat_on P f g ms (All-tail P m ms all) same)

one_filtered : (p q : EventId → Bool) (e : EventId) (b : Bool) → p e ≡ b → q e ≡ b → filter p (e ∷ []) ≡ filter q (e ∷ [])
one_filtered p q e true h k = rw (h, k) refl
one_filtered p q e false h k = rw (h, k) refl

leaves_at : (depth : ℕ) (c : Calendar) (e : EventId) (b : Bool) → is_condition c e ≡ b
    → leaves_within (suc depth) c e ≡ (if b then flat_map (leaves_within depth c) (members_of c e) else e ∷ [])
leaves_at depth c e b h = rw h refl

shown_by : (h : HappenOf) (c : Calendar) → Shows h c → AreOwed [] h.events → (depth : ℕ)
    → ((e : EventId) → IsKept h.events e → filter (is_processed c) (leaves_within depth c e) ≡ done_of h.events (leaves_in depth h.events e))
    → (e : EventId) (b : Bool) → IsKept h.events e → is_some (kept_at h.events e).event.condition ≡ b
    → filter (is_processed c) (leaves_within (suc depth) c e) ≡ done_of h.events (leaves_in (suc depth) h.events e)
shown_by h c s owed depth each e true kept composed =
    let is : (kept_at h.events e).event ≡ event_at c e = read_is h c e kept s in
    let ms : List EventId = (kept_condition h.events e).members in
    let members : members_of c e ≡ ms = ap (λ (x : EventOf). (condition_of x.condition).members) (sym is) in
    ap (filter (is_processed c)) (leaves_at depth c e true (ap (λ (x : EventOf). is_some x.condition) (sym is) ∙ composed) ∙ ap (flat_map (leaves_within depth c)) members)
    ∙ (filter_flat (is_processed c) (leaves_within depth c) ms
    ∙ (flat_on (IsKept h.events) (λ m. filter (is_processed c) (leaves_within depth c m)) (λ m. done_of h.events (leaves_in depth h.events m)) ms (members_kept h.events e owed) each
    ∙ (sym (filter_flat (is_done h.events) (leaves_in depth h.events) ms) ∙ ap (done_of h.events) (sym (leaves_by depth h.events e true composed)))))
shown_by h c s owed depth each e false kept plain =
    let is : (kept_at h.events e).event ≡ event_at c e = read_is h c e kept s in
    ap (filter (is_processed c)) (leaves_at depth c e false (ap (λ (x : EventOf). is_some x.condition) (sym is) ∙ plain))
    ∙ (one_filtered (is_processed c) (is_done h.events) e (is_done h.events e) (ap (λ (x : EventOf). x.processed) (sym is)) refl ∙ ap (done_of h.events) (sym (leaves_by depth h.events e false plain)))

done_shown : (h : HappenOf) (c : Calendar) → Shows h c → AreOwed [] h.events → (depth : ℕ) (e : EventId) → IsKept h.events e
    → filter (is_processed c) (leaves_within depth c e) ≡ done_of h.events (leaves_in depth h.events e)
done_shown h c s owed zero e kept = refl
done_shown h c s owed (suc depth) e kept = shown_by h c s owed depth (done_shown h c s owed depth) e (is_some (kept_at h.events e).event.condition) kept refl

pub value_shown : (h : HappenOf) (c : Calendar) (cond : EventId) (value : List EventId) → Shows h c → AreOwed [] h.events → IsKept h.events cond
    → Gathers h.events (leaves_in (most_weight + 1) h.events cond) [] value → value ≡ value_of cond c
value_shown h c cond value s owed kept g = g.each [] refl ∙ ap first_places (sym (done_shown h c s owed (most_weight + 1) cond kept))

-- ---- it is built

abbrev pub fixed_if_ok : EventId → Calendar → Calendar
fixed_if_ok cond c = if is_fail (event_at c cond).outcome then c else fix_value cond c

failed_is : (a : HappenOf) (c : Calendar) (cond : EventId) (b : Bool) → IsKept a.events cond → is_fail (kept_at a.events cond).event.outcome ≡ b → Shows a c
    → is_fail (event_at c cond).outcome ≡ b
failed_is a c cond b kept h s = ap (λ (x : EventOf). is_fail x.outcome) (sym (read_is a c cond kept s)) ∙ h

pub fixed_failed : (a : HappenOf) (cond : EventId) → IsKept a.events cond
    → is_fail (kept_at a.events cond).event.outcome ≡ true → Follows (fixed_if_ok cond) a a
fixed_failed a cond kept failed = turns_as (λ c. c) (fixed_if_ok cond) _ a a (λ c s. rw (failed_is a c cond true kept failed s) refl) (follows_none a)

pub fixed_ok : (a b : HappenOf) (cond : EventId) (value : List EventId) → IsKept a.events cond → is_fail (kept_at a.events cond).event.outcome ≡ false
    → ((c : Calendar) → Shows a c → value ≡ value_of cond c) → Follows (change_condition cond (λ x. record x { value = value })) a b
    → Follows (fixed_if_ok cond) a b
fixed_ok a b cond value kept ok is t =
    turns_as (change_condition cond (λ x. record x { value = value })) (fixed_if_ok cond) _ a b
    (λ c s. ap (λ v. change_condition cond (λ x. record x { value = v }) c) (is c s) ∙ rw (failed_is a c cond false kept ok s) refl) t

-- where checks are taken out, the events stay
all_keep_by : (f : Calendar → EventId → Calendar) → ((c : Calendar) (m : EventId) → (f c m).events ≡ c.events)
    → (ms : List EventId) (c : Calendar) → (fold f c ms).events ≡ c.events
all_keep_by f each [] c = refl
all_keep_by f each (m ∷ ms) c = all_keep_by f each ms (f c m) ∙ each c m

takes_keep : (depth : ℕ) (cond : EventId) (c : Calendar) → (take_checks_within depth cond c).events ≡ c.events
takes_keep zero cond c = refl
takes_keep (suc depth) cond c = all_keep_by (λ d m. take_checks_within depth m (unregister m (is_check_of cond) d)) (λ d m. takes_keep depth m (unregister m (is_check_of cond) d)) (members_of c cond) c

pub still_condition : (a b : HappenOf) (depth : ℕ) (cond : EventId) → IsKept a.events cond → Follows (take_checks_within depth cond) a b
    → IsSome (kept_at a.events cond).event.condition → IsSome (kept_at b.events cond).event.condition
still_condition a b depth cond kept t some =
    let is = event_then (take_checks_within depth cond) _ a b cond t (kept_then (take_checks_within depth cond) a b cond t kept) in
    let same : event_at (take_checks_within depth cond (seen a)) cond ≡ event_at (seen a) cond =
    ap (λ es. let d : Calendar = record (seen a) { events = es } in event_at d cond) (takes_keep depth cond (seen a)) in
    subst (λ (x : EventOf). IsSome x.condition) (sym (is ∙ (same ∙ sym (event_seen a cond)))) some

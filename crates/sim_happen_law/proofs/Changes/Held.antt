-- Who holds what once an event is changed or made.
use Rattle.std.proofs.Common.{◌≡◌, ℕ, ◌+◌, List, [], ◌∷◌, ◌++◌, map, refl, sym, ap, subst, ◌∙◌, arith, zero, suc, Option, Some, None, get_or}
use Rattle.std.specs.Prelude.{slice_index_or, slice_set, IsSome}
use Rattle.std.specs.Option.{option_map}
use Rattle.std.proofs.lemmas.Option.{same_Some}
use Rattle.std.proofs.Math.ListN.{get_or-map}
use Rattle.std.proofs.lemmas.List.{map-append}
use Rattle.sim_types.specs.declared.event.EventId.{EventId}
use Rattle.sim_happen_model.specs.TableOf.{Kept, Spare, IsKept, kept_at, kept_count}
use Rattle.sim_happen_model.specs.Changes.{more_callbacks}
use Rattle.std.specs.Prelude.{is_some, count_by}
use Rattle.sim_machine.specs.Standing.{one_if}
use Rattle.sim_machine_law.proofs.Events.CallbackLaws.{count_by-cons}
use Rattle.sim_happen_model.specs.HappenOf.{HappenOf, held, unheld_event, one_more, KeepsRoom}
use Rattle.sim_happen_law.proofs.Shown.KeptPlaces.{kept_is}

abbrev pub holders_at : Option Kept → Option ℕ
holders_at o = option_map (λ (k : Kept). k.holders) o

mapped_set : (es : List (Option Kept)) (n : ℕ) (o : Option Kept) → map holders_at (slice_set es n o) ≡ slice_set (map holders_at es) n (holders_at o)
mapped_set [] n o = refl
mapped_set (x ∷ es) zero o = refl
mapped_set (x ∷ es) (suc n) o = ap (λ ys. holders_at x ∷ ys) (mapped_set es n o)

pub held_set : (h n : HappenOf) (e : EventId) (o : Option Kept) → n.events ≡ slice_set h.events e.0 o → held n ≡ slice_set (held h) e.0 (holders_at o)
held_set h n e o is = ap (λ es. map holders_at es) is ∙ mapped_set h.events e.0 o

pub held_at : (h : HappenOf) (e : EventId) → slice_index_or (held h) e.0 None ≡ holders_at (slice_index_or h.events e.0 None)
held_at h e = get_or-map holders_at h.events e.0 None

set_again : {X : Type 0} (xs : List (Option X)) (n : ℕ) → slice_set xs n (get_or xs n None) ≡ xs
set_again [] n = refl
set_again (x ∷ xs) zero = refl
set_again (x ∷ xs) (suc n) = ap (λ ys. x ∷ ys) (set_again xs n)

-- a change of what nobody holds
pub held_same : (h n : HappenOf) (e : EventId) (k : Kept) → IsKept h.events e → n.events ≡ slice_set h.events e.0 (Some k)
    → k.holders ≡ (kept_at h.events e).holders → held n ≡ held h
held_same h n e k kept is same =
    let here : slice_index_or (held h) e.0 None ≡ Some k.holders = held_at h e ∙ (ap holders_at (kept_is h.events e kept) ∙ ap (λ m. Some m) (sym same)) in
    held_set h n e (Some k) is ∙ (ap (slice_set (held h) e.0) (sym here) ∙ set_again (held h) e.0)

pub held_more : (h n : HappenOf) (e : EventId) (k : Kept) → IsKept h.events e → n.events ≡ slice_set h.events e.0 (Some k)
    → k.holders ≡ (kept_at h.events e).holders + 1 → held n ≡ one_more e (held h)
held_more h n e k kept is more =
    let here : slice_index_or (held h) e.0 None ≡ Some (kept_at h.events e).holders = held_at h e ∙ ap holders_at (kept_is h.events e kept) in
    held_set h n e (Some k) is ∙ ap (slice_set (held h) e.0) (ap (λ m. Some m) more ∙ sym (ap (λ o. option_map (λ m. m + 1) o) here))

pub held_made : (h n : HappenOf) (k : Kept) → n.events ≡ h.events ++ Some k ∷ [] → k.holders ≡ 0 → held n ≡ unheld_event (held h)
held_made h n k is none = ap (λ es. map holders_at es) is ∙ (map-append holders_at h.events (Some k ∷ []) ∙ ap (λ m. held h ++ Some m ∷ []) none)

-- ---- what is kept stays kept

pub kept_of : (o : Option Kept) → IsSome (holders_at o) → IsSome o
kept_of None h = absurd (cc)
kept_of (Some k) h = refl

pub of_kept : (o : Option Kept) → IsSome o → IsSome (holders_at o)
of_kept None h = absurd (cc)
of_kept (Some k) h = refl

pub kept_by_held : (a b : HappenOf) (e : EventId) → held b ≡ held a → IsKept a.events e → IsKept b.events e
kept_by_held a b e same kept =
    kept_of (slice_index_or b.events e.0 None) (subst IsSome (sym (ap (λ (hs : List (Option ℕ)). slice_index_or hs e.0 None) same ∙ held_at a e) ∙ held_at b e) (of_kept (slice_index_or a.events e.0 None) kept))

-- with as many holders
pub holders_by_held : (a b : HappenOf) (e : EventId) → held b ≡ held a → IsKept a.events e → (kept_at b.events e).holders ≡ (kept_at a.events e).holders
holders_by_held a b e same kept =
    let later = kept_by_held a b e same kept in
    same_Some _ _ (sym (ap holders_at (kept_is b.events e later)) ∙ (sym (held_at b e) ∙ (ap (λ (hs : List (Option ℕ)). slice_index_or hs e.0 None) same ∙ (held_at a e ∙ ap holders_at (kept_is a.events e kept)))))

one_counted : (o : Option Kept) → is_some o ≡ is_some (holders_at o)
one_counted None = refl
one_counted (Some k) = refl

held_counts : (es : List (Option Kept)) → kept_count es ≡ count_by is_some (map holders_at es)
held_counts [] = refl
held_counts (o ∷ es) = omega (arith, count_by-cons is_some o es, count_by-cons is_some (holders_at o) (map holders_at es), held_counts es, ap one_if (one_counted o))

-- so many are kept
pub count_by_held : (a b : HappenOf) → held b ≡ held a → kept_count b.events ≡ kept_count a.events
count_by_held a b same = held_counts b.events ∙ (ap (λ (hs : List (Option ℕ)). count_by is_some hs) same ∙ sym (held_counts a.events))

pub room_by_held : (a b : HappenOf) (n : ℕ) → held b ≡ held a → b.spare ≡ more_callbacks n a.spare → KeepsRoom a b
room_by_held a b n same spare = record {
  events = omega (arith, count_by_held a b same, ap (λ (s : Spare). s.events) spare);
  callbacks = omega (arith, ap (λ (s : Spare). s.callbacks) spare);
  conditions = omega (arith, ap (λ (s : Spare). s.conditions) spare);
}

pub same_room_by_held : (a b : HappenOf) → held b ≡ held a → b.spare ≡ a.spare → KeepsRoom a b
same_room_by_held a b same spare = record {
  events = omega (arith, count_by_held a b same, ap (λ (s : Spare). s.events) spare);
  callbacks = omega (arith, ap (λ (s : Spare). s.callbacks) spare);
  conditions = omega (arith, ap (λ (s : Spare). s.conditions) spare);
}

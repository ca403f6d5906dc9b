-- Entries in rising order, and entries that none of them comes before.
use Rattle.std.proofs.Common.{◌≡◌, ◌-◌, ◌<◌, List, [], ◌∷◌, ◌++◌, length, get_or, Option, Some, None, refl, sym, ap, subst, ◌∙◌, inl, inr, arith}
use Rattle.std.specs.Prelude.{option_to_list}
use Rattle.std.proofs.lemmas.Bool.{cases_eq}
use Rattle.std.proofs.lemmas.List.{get_or_default}
use Rattle.std.proofs.lemmas.List.Quantifiers.{all_pairs_push}
use Rattle.sim_types.specs.Keys.{IsLess}
use Rattle.sim_types.specs.declared.event.Entry.{Entry}
use Rattle.sim_types.proofs.Permutations.{AllPairs-head, AllPairs-tail}
use Rattle.sim_types.proofs.KeyLemmas.{IsLess-irrefl, IsLess-trans}
use Rattle.sim_agenda.specs.Heaps.{IsHeap}
use Rattle.sim_agenda.specs.Series.{Rises, IsDue, FrontIsDue, FirstIsDue}
use Rattle.sim_agenda.proofs.Heaping.{first_of_heap}
use Rattle.sim_agenda.proofs.Keys.{not_before, one_way, same_not_before}

-- an entry that comes after the last comes after all
pub rises_behind : (xs : List Entry) (x last : Entry) → last ≡ get_or xs (length xs - 1) last → IsLess last.key x.key → Rises xs → Rises (xs ++ x ∷ [])
rises_behind xs x last is less h =
    all_pairs_push (λ (u v : Entry). IsLess u.key v.key) xs x h
    (λ k d inside.
    let end : last ≡ get_or xs (length xs - 1) d = is ∙ get_or_default xs (length xs - 1) last d (omega (arith, inside)) in
    let last_before : IsLess (get_or xs (length xs - 1) d).key x.key = subst (λ (u : Entry). IsLess u.key x.key) end less in
    elim (cases_eq k (length xs - 1)) [
      | inl at ↦ subst (λ n. IsLess (get_or xs n d).key x.key) (sym at) last_before
      | inr off ↦ IsLess-trans _ _ _ (h k (length xs - 1) d (omega arith) (omega arith)) last_before
    ])

-- none comes before the front
pub front_first : (xs : List Entry) (x : Entry) → x ≡ get_or xs 0 x → Rises xs → IsDue x xs
front_first xs x is h = λ k d inside.
    let front : get_or xs 0 d ≡ x = get_or_default xs 0 d x (omega (arith, inside)) ∙ sym is in
    elim (cases_eq k 0) [
      | inl at ↦ same_not_before _ _ x x (ap (λ n. get_or xs n d) at ∙ front) refl (IsLess-irrefl x.key)
      | inr off ↦ same_not_before (get_or xs k d) x (get_or xs k d) (get_or xs 0 d) refl (sym front) (one_way _ _ (h 0 k d (omega arith) inside))
    ]

-- what comes before one entry of all those does not matter, where another stands before all of them
pub due_through : (xs : List Entry) (x y : Entry) → ¬ IsLess y.key x.key → IsDue y xs → IsDue x xs
due_through xs x y before h = λ k d inside. not_before x.key y.key (get_or xs k d).key before (h k d inside)

-- none comes before the first of a heap
pub top_first : (xs : List Entry) (x : Entry) → x ≡ get_or xs 0 x → IsHeap xs → IsDue x xs
top_first xs x is heap = λ k d inside. same_not_before _ _ _ _ (get_or_default xs k d x inside) is (first_of_heap xs x heap k k (omega arith) inside)

same_front : (xs rest : List Entry) (x y : Entry) → xs ≡ x ∷ rest → y ≡ get_or xs 0 y → x ≡ y
same_front xs rest x y is first = sym (first ∙ ap (λ us. get_or us 0 y) is)

-- the front of the series comes before the first of the heap
pub front_due : (series heap : List Entry) (front first : Entry) → front ≡ get_or series 0 front → first ≡ get_or heap 0 first → 0 < length series
    → IsHeap heap → IsLess front.key first.key → FrontIsDue series heap
front_due series heap front first at top some h less =
    record {
      some = some;
      due = λ x rest is. due_through heap x first
          (same_not_before first x first front refl (same_front series rest x front is at) (one_way _ _ less)) (top_first heap first top h);
    }

-- it does not
pub first_due : (series heap : List Entry) (front first : Entry) → front ≡ get_or series 0 front → first ≡ get_or heap 0 first → 0 < length heap
    → Rises series → ¬ IsLess front.key first.key → FirstIsDue series heap
first_due series heap front first at top some h stays =
    record {
      none = λ none. absurd (omega (arith, some, ap length none));
      due = λ x more due. due_through series x front (not_before x.key first.key front.key
          (same_not_before first x (get_or heap 0 first) x top refl (due 0 first some)) stays) (front_first series front at h);
    }

-- what is left once the front is taken
pub rises_left : (result : Option Entry) (xs rest : List Entry) → xs ≡ option_to_list result ++ rest → Rises xs → Rises rest
rises_left None xs rest is h = subst Rises is h
rises_left (Some x) xs rest is h = AllPairs-tail (λ (u v : Entry). IsLess u.key v.key) x rest (subst Rises is h)

-- none of those behind an entry of the series comes before it
pub all_behind : (x : Entry) (rest : List Entry) → Rises (x ∷ rest) → IsDue x rest
all_behind x rest h = λ k d inside. one_way x.key (get_or rest k d).key (AllPairs-head (λ (u v : Entry). IsLess u.key v.key) x rest h k d inside)

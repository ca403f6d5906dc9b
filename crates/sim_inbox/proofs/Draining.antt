-- What is taken of a queue once all posters have joined.
use Rattle.std.proofs.Common.{◌≡◌, ℕ, zero, suc, ◌+◌, ◌<◌, List, [], ◌∷◌, ◌++◌, length, drop, map, get_or, Some, None, sym, refl, ap, ◌∙◌, subst, arith, append_assoc}
use Rattle.std.proofs.lemmas.List.{append-nil, length-append, length-map}
use Rattle.std.proofs.Math.Seq.{drop-append_seam}
use Rattle.std.specs.Prelude.{unwrap_or}
use mathlib.Core.Logic.{dite}
use native.Mathlib.Decide.{ℕ_discrete}
use Rattle.sim_types.specs.declared.setup.Post.{Post}
use Rattle.sim_inbox.specs.Closing.{AreLeft, HaveJoined, IsNextTaken, lists_of}
use Rattle.sim_inbox.specs.Delivery.{Whole}
use Rattle.sim_inbox.specs.Lists.{entry, numbered, entries_by, items_by, untaken}
use Rattle.sim_inbox.specs.QueueEnds.{QueueTakerOf, taken_from, NoneLeft}
use Rattle.sim_inbox.specs.declared.taken.Taken.{Taken}
use Rattle.sim_inbox.proofs.Lists.{numbered_snoc, entries_own, entries_other, items_append, items_own, items_other}
use Rattle.sim_inbox.proofs.TakenNext.{next_own, next_other}
use Rattle.sim_inbox.proofs.Untaken.{untaken_fewer}

-- these entries were taken since
pub record Drained (before now : QueueTakerOf) (entries : List Taken) : Type 0 where
  pub is : now ≡ record before { taken = before.taken ++ entries }
  pub numbers : (p : ℕ) → entries_by p entries ≡ numbered p (length (taken_from before p)) (items_by p entries)
  pub count : length entries + length (untaken (taken_from now) 0 (lists_of before)) ≡ length (untaken (taken_from before) 0 (lists_of before))

pub drained_none : (before : QueueTakerOf) (entries : List Taken) → entries ≡ [] → Drained before before entries
drained_none before entries nothing = subst (λ (l : List Taken). Drained before before l) (sym nothing) (record {
  is = sym (λ k. record before { taken = append-nil before.taken k });
  numbers = λ p. refl;
  count = omega arith;
})

some_at : (lists : List (List Post)) (p : ℕ) → p < length lists → get_or (map Some lists) p None ≡ Some (get_or lists p [])
some_at [] p less = absurd (omega arith)
some_at (x ∷ xs) zero less = refl
some_at (x ∷ xs) (suc p) less = some_at xs p (omega arith)

lists_long : (t : QueueTakerOf) → length (lists_of t) ≡ length t.wholes
lists_long t = length-map t.wholes (λ whole. unwrap_or whole [])

-- the list of a poster that has joined
whole_at : (t : QueueTakerOf) (p : ℕ) → HaveJoined t → p < length t.wholes → get_or t.wholes p None ≡ Some (get_or (lists_of t) p [])
whole_at t p joined less = ap (λ (ws : List Whole). get_or ws p None) joined ∙ some_at (lists_of t) p (let n = lists_long t in omega (arith, less, n))

-- the lists that have joined
pub lists_joined : (t : QueueTakerOf) (lists : List (List Post)) → t.wholes ≡ map Some lists → lists_of t ≡ lists
lists_joined t lists e = ap (map (λ whole. unwrap_or whole [])) e ∙ unwrapped lists
  where
    unwrapped : (ls : List (List Post)) → map (λ whole. unwrap_or whole []) (map Some ls) ≡ ls
    unwrapped [] = refl
    unwrapped (x ∷ xs) = ap (λ (l : List (List Post)). x ∷ l) (unwrapped xs)

pub have_joined : (t : QueueTakerOf) (lists : List (List Post)) → t.wholes ≡ map Some lists → HaveJoined t
have_joined t lists e = e ∙ ap (map Some) (sym (lists_joined t lists e))

-- with each entry one fewer is left
pub drained_fewer : (before now then : QueueTakerOf) (entries : List Taken) (t : Taken) → HaveJoined before → Drained before now entries
    → IsNextTaken now then t
    → length (untaken (taken_from then) 0 (lists_of before)) + 1 ≡ length (untaken (taken_from now) 0 (lists_of before))
drained_fewer before now then entries t joined d h =
    let p : ℕ = t.poster in
    let e : 0 + p ≡ p = omega arith in
    let same : now.wholes ≡ before.wholes = ap (λ (a : QueueTakerOf). a.wholes) d.is in
    let long : length now.wholes ≡ length before.wholes = ap (λ (w : List Whole). length w) same in
    let own = h.own in
    let less : p < length before.wholes = omega (arith, own, long) in
    let more = h.more (get_or (lists_of before) p []) (ap (λ (w : List Whole). get_or w p None) same ∙ whole_at before p joined less) in
    untaken_fewer (taken_from now) (taken_from then) p 0 t.item (lists_of before)
    (subst (λ (q : ℕ). taken_from then q ≡ taken_from now q ++ t.item ∷ []) (sym e) (next_own now then t p h refl))
    (λ q ne. next_other now then t q h (λ z. ne (sym z ∙ sym e)))
    (let n = lists_long before in omega (arith, less, n))
    (subst (λ (q : ℕ). length (taken_from now q) < length (get_or (lists_of before) p [])) (sym e) more)

-- the entries of each poster have its next serials, with one entry more too
numbers_more : (before now then : QueueTakerOf) (entries : List Taken) (t : Taken) → Drained before now entries → IsNextTaken now then t
    → (p : ℕ) → entries_by p (entries ++ t ∷ []) ≡ numbered p (length (taken_from before p)) (items_by p (entries ++ t ∷ []))
numbers_more before now then entries t d h p =
    let n : ℕ = length (taken_from before p) in
    let now_taken : taken_from now p ≡ taken_from before p ++ items_by p entries = ap (λ (a : QueueTakerOf). items_by p a.taken) d.is ∙ items_append p before.taken entries in
    dite (ℕ_discrete t.poster p)
    (λ e. let s : t.serial ≡ n + length (items_by p entries) =
    h.serial ∙ ap (λ (q : ℕ). length (taken_from now q)) e ∙ ap (λ (l : List Post). length l) now_taken ∙ length-append (taken_from before p) (items_by p entries) in
    let same : t ≡ entry p (n + length (items_by p entries)) t.item = (λ k. record { poster = e k; serial = s k; item = t.item }) in
    entries_own p entries t e ∙ (λ k. d.numbers p k ++ same k ∷ []) ∙ sym (numbered_snoc p n (items_by p entries) t.item) ∙ ap (numbered p n) (sym (items_own p entries t e)))
    (λ ne. entries_other p entries t ne ∙ d.numbers p ∙ ap (numbered p n) (sym (items_other p entries t ne)))

pub drained_more : (before now then : QueueTakerOf) (entries more : List Taken) (t : Taken) → HaveJoined before → Drained before now entries
    → IsNextTaken now then t
    → more ≡ entries ++ t ∷ [] → Drained before then more
drained_more before now then entries more t joined d h grown = subst (λ (l : List Taken). Drained before then l) (sym grown) (record {
  is = h.is ∙ (λ k. record (d.is k) { taken = (d.is k).taken ++ t ∷ [] }) ∙ (λ k. record before { taken = append_assoc before.taken entries (t ∷ []) k });
  numbers = numbers_more before now then entries t d h;
  count = (let c = drained_fewer before now then entries t joined d h in let old = d.count in let n = length-append entries (t ∷ []) in omega (arith, c, old, n));
})

module _ (before now : QueueTakerOf) (entries : List Taken) (joined : HaveJoined before) (d : Drained before now entries) (none : NoneLeft now) where
  -- where nothing is left, a list is what was taken before and since
  taken_whole : (p : ℕ) → p < length (lists_of before) → get_or (lists_of before) p [] ≡ taken_from before p ++ items_by p entries
  taken_whole p less =
      let within : p < length before.wholes = (let n = lists_long before in omega (arith, less, n)) in
      let same : now.wholes ≡ before.wholes = ap (λ (a : QueueTakerOf). a.wholes) d.is in
      let long : length now.wholes ≡ length before.wholes = ap (λ (w : List Whole). length w) same in
      none p (get_or (lists_of before) p []) (omega (arith, within, long)) (ap (λ (w : List Whole). get_or w p None) same ∙ whole_at before p joined within)
      ∙ ap (λ (a : QueueTakerOf). items_by p a.taken) d.is ∙ items_append p before.taken entries

  rest_is : (p : ℕ) → p < length (lists_of before) → drop (length (taken_from before p)) (get_or (lists_of before) p []) ≡ items_by p entries
  rest_is p less = ap (drop (length (taken_from before p))) (taken_whole p less) ∙ drop-append_seam (taken_from before p) (items_by p entries)

  -- and the entries are what was left of each
  pub drained_all : AreLeft (taken_from before) (lists_of before) entries
  drained_all = record {
    left = λ p less. d.numbers p ∙ ap (numbered p (length (taken_from before p))) (sym (rest_is p less));
    begins = λ p less. ap (λ (l : List Post). taken_from before p ++ l) (rest_is p less) ∙ sym (taken_whole p less);
  }

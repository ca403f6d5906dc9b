-- The loops of a take and of a close.
use Rattle.std.proofs.Common.{◌≡◌, ◌≢◌, ℕ, ◌+◌, ◌<◌, ◌≤◌, List, [], ◌∷◌, ◌++◌, length, drop, take, get_or, sym, refl, ap, ◌∙◌, subst, arith, append_assoc}
use Rattle.std.proofs.lemmas.List.{append-nil, length-append, length-map}
use Rattle.std.proofs.Math.ListN.{get_or-map}
use mathlib.Core.Logic.{dite}
use native.Mathlib.Decide.{ℕ_discrete}
use Rattle.sim_types.specs.declared.setup.Post.{Post}
use Rattle.sim_inbox.specs.declared.taken.Taken.{Taken}
use Rattle.sim_inbox.specs.Lists.{entry, numbered, Begins, IsTaken, untaken}
use Rattle.sim_inbox.proofs.Lists.{numbered_snoc}
use Rattle.sim_inbox.proofs.Untaken.{untaken_next}
use Rattle.sim_lanes.specs.Views.{new_lane, lane}
use Rattle.sim_lanes.specs.Ends.{TakerOf, taken_of}
use Rattle.sim_lanes.specs.Takes.{SameElsewhere, TookFrom, FoundNone}
use Rattle.sim_lanes.specs.Closing.{whole_of, wholes_of}
use Rattle.sim_lanes.specs.declared.view.LaneView.{LaneView}
use Rattle.sim_lanes.proofs.Taking.{same_trans}

-- ---- a take: nothing was found in the lanes below i
pub record Scanned (before now : TakerOf) (i : ℕ) : Type 0 where
  pub inbox : now.inbox ≡ before.inbox
  pub many : length now.lanes ≡ length before.lanes
  pub taken : (q : ℕ) → taken_of now q ≡ taken_of before q
  pub found : (q : ℕ) → q < i → ((lane before.lanes q).loads < (lane now.lanes q).loads) × ((lane now.lanes q).posted_seen ≡ length (taken_of now q))
  pub later : (q : ℕ) → i ≤ q → lane now.lanes q ≡ lane before.lanes q

pub scanned_none : (before : TakerOf) → Scanned before before 0
scanned_none before = record { inbox = refl; many = refl; taken = λ q. refl; found = λ q less. absurd (omega arith); later = λ q le. refl }

pub scanned_more : (before now then : TakerOf) (i : ℕ) → Scanned before now i → FoundNone now then i → Scanned before then (i + 1)
scanned_more before now then i s f =
    let e = f.elsewhere in
    record {
      inbox = e.inbox ∙ s.inbox;
      many = e.many ∙ s.many;
      taken = λ q. dite (ℕ_discrete q i)
          (λ is. subst (λ (k : ℕ). taken_of then k ≡ taken_of before k) (sym is) (f.taken ∙ s.taken i))
          (λ ne. ap (λ (g : LaneView). g.taken) (e.others q ne) ∙ s.taken q);
      found = λ q less. dite (ℕ_discrete q i)
          (λ is. subst (λ (k : ℕ). ((lane before.lanes k).loads < (lane then.lanes k).loads) × ((lane then.lanes k).posted_seen ≡ length (taken_of then k))) (sym is)
          (subst (λ (g : LaneView). g.loads < (lane then.lanes i).loads) (s.later i (omega arith)) f.loaded, f.found))
          (λ ne. subst (λ (g : LaneView). ((lane before.lanes q).loads < g.loads) × (g.posted_seen ≡ length g.taken)) (sym (e.others q ne))
          (s.found q (let n : q ≢ i = ne in omega arith)));
      later = λ q le. e.others q (λ is. omega (arith, is)) ∙ s.later q (omega arith);
    }

pub scanned_taken : (before now then : TakerOf) (i : ℕ) (t : Taken) → i < length before.lanes → Scanned before now i → TookFrom now then i t
    → (t.poster < length before.lanes) × IsTaken (taken_of before) (taken_of then) t
scanned_taken before now then i t less s f =
    let p = f.poster in let e = f.elsewhere in (
      omega (arith, p, less),
      record {
        own = subst (λ (k : ℕ). taken_of then k ≡ taken_of before k ++ t.item ∷ []) (sym p) (f.taken ∙ ap (λ (l : List Post). l ++ t.item ∷ []) (s.taken i));
        serial = f.serial ∙ ap (λ (l : List Post). length l) (s.taken i ∙ ap (taken_of before) (sym p));
        others = λ q ne. ap (λ (g : LaneView). g.taken) (e.others q (λ x. ne (x ∙ sym p))) ∙ s.taken q;
      },
    )

-- ---- a drain: what was taken of lane p so far stands in the list
pub record Drained (before now : TakerOf) (p : ℕ) (items0 items : List Taken) : Type 0 where
  pub elsewhere : SameElsewhere before now p
  pub since : List Post
  pub taken : taken_of now p ≡ taken_of before p ++ since
  pub items_are : items ≡ items0 ++ numbered p (length (taken_of before p)) since

pub drained_none : (before : TakerOf) (p : ℕ) (items : List Taken) → Drained before before p items items
drained_none before p items = record {
  elsewhere = record { inbox = refl; many = refl; whole = refl; others = λ q ne. refl };
  since = [];
  taken = sym (append-nil (taken_of before p));
  items_are = sym (append-nil items);
}

pub drained_more : (before now then : TakerOf) (p : ℕ) (items0 items items' : List Taken) (t : Taken) → Drained before now p items0 items
    → TookFrom now then p t
    → items' ≡ items ++ t ∷ [] → Drained before then p items0 items'
drained_more before now then p items0 items items' t d f is =
    let n : ℕ = length (taken_of before p) in
    let serial : t.serial ≡ n + length d.since = f.serial ∙ ap (λ (l : List Post). length l) d.taken ∙ length-append (taken_of before p) d.since in
    let same : t ≡ entry p (n + length d.since) t.item = λ k. record { poster = f.poster k; serial = serial k; item = t.item } in
    record {
      elsewhere = same_trans before now then p d.elsewhere f.elsewhere;
      since = d.since ++ t.item ∷ [];
      taken = f.taken ∙ ap (λ (l : List Post). l ++ t.item ∷ []) d.taken ∙ append_assoc (taken_of before p) d.since (t.item ∷ []);
      items_are = is ∙ (λ k. d.items_are k ++ same k ∷ []) ∙ append_assoc items0 (numbered p n d.since) (entry p (n + length d.since) t.item ∷ [])
          ∙ ap (λ (l : List Taken). items0 ++ l) (sym (numbered_snoc p n d.since t.item));
    }

-- ---- the drain of all: the lanes below i were drained into the list
pub record DrainedAll (before now : TakerOf) (i : ℕ) (items0 items : List Taken) : Type 0 where
  pub many : length now.lanes ≡ length before.lanes
  pub later : (q : ℕ) → i ≤ q → lane now.lanes q ≡ lane before.lanes q
  pub items_are : items ≡ items0 ++ untaken (taken_of before) 0 (take i (wholes_of before))
  pub begin : (q : ℕ) → q < i → Begins (taken_of before q) (whole_of (lane before.lanes q))

pub drained_all_none : (before : TakerOf) (items : List Taken) → DrainedAll before before 0 items items
drained_all_none before items = record { many = refl; later = λ q le. refl; items_are = sym (append-nil items); begin = λ q less. absurd (omega arith) }

pub whole_at : (t : TakerOf) (i : ℕ) → get_or (wholes_of t) i [] ≡ whole_of (lane t.lanes i)
whole_at t i = get_or-map whole_of t.lanes i (new_lane 0 0)

pub drained_all_more : (before now then : TakerOf) (i : ℕ) (items0 items items' : List Taken) → i < length before.lanes → DrainedAll before now i items0 items
    → SameElsewhere now then i → items' ≡ items ++ numbered i (length (taken_of now i)) (drop (length (taken_of now i)) (whole_of (lane now.lanes i)))
    → Begins (taken_of now i) (whole_of (lane now.lanes i)) → DrainedAll before then (i + 1) items0 items'
drained_all_more before now then i items0 items items' less d e is begins =
    let same = d.later i (omega arith) in
    let lists : List (List Post) = wholes_of before in
    let of : LaneView → List Taken = λ g. numbered i (length g.taken) (drop (length g.taken) (whole_of g)) in
    let next = untaken_next (taken_of before) lists i [] (let m = length-map before.lanes whole_of in omega (arith, less, m))
    ∙ ap (λ (l : List Post). untaken (taken_of before) 0 (take i lists) ++ numbered i (length (taken_of before i)) (drop (length (taken_of before i)) l)) (whole_at before i) in
    record {
      many = e.many ∙ d.many;
      later = λ q le. e.others q (λ x. omega (arith, x)) ∙ d.later q (omega arith);
      items_are = is ∙ (λ k. d.items_are k ++ of (same k)) ∙ append_assoc items0 (untaken (taken_of before) 0 (take i lists)) (of (lane before.lanes i))
          ∙ ap (λ (l : List Taken). items0 ++ l) (sym next);
      begin = λ q l. dite (ℕ_discrete q i)
          (λ x. subst (λ (k : ℕ). Begins (taken_of before k) (whole_of (lane before.lanes k))) (sym x) (subst (λ (g : LaneView). Begins g.taken (whole_of g)) same begins))
          (λ ne. d.begin q (let n : q ≢ i = ne in omega arith));
    }

-- A get is served with the item that it is given.
use Rattle.std.proofs.Common.{◌≡◌, ℕ, suc, ◌+◌, ◌-◌, ◌<◌, ◌≤◌, ℤ, Bool, true, false, cond, List, [], ◌∷◌, ◌++◌, length, take, drop, get_or, Option, Some, None, refl, sym, ap, subst, ◌∙◌, arith, find, ⊎_elim, All}
use Rattle.std.specs.List.{remove}
use Rattle.std.proofs.lemmas.Bool.{false≢true, cases_lt}
use Rattle.std.proofs.lemmas.List.{take-append-drop, drop_more, length-take-le, length-append, get_or_at, take_all, take-append-le}
use Rattle.std.proofs.lemmas.List.Edits.{length-remove}
use Rattle.std.proofs.Math.Seq.{take-append-add}
use Rattle.std.proofs.lemmas.List.Elements.{All-weaker}
use Rattle.sim_machine.specs.State.{Item, Taken}
use Rattle.sim_machine.specs.Users.{first_of_list, least_item}
use Rattle.sim_machine.specs.Attempts.{hand_out}
use Rattle.sim_machine.specs.Trying.{get_reach}
use Rattle.sim_shared_model.specs.declared.stock.Served.{Served}
use Rattle.sim_shared_model.specs.declared.stock.WaitingPut.{WaitingPut}
use Rattle.sim_shared_model.specs.declared.stock.WaitingGet.{WaitingGet}
use Rattle.sim_stores.specs.declared.stock.Stock.{Stock}
use Rattle.sim_shared_model.specs.declared.stock.ShelfKind.{ShelfKind}
use Rattle.sim_shared_model.specs.declared.stock.ShelfKind.TheVariants as kind
use Rattle.sim_stores.specs.Items.{GivesItem, is_in_range}
use Rattle.sim_stores.specs.Stocks.{kind_of_stock, items_of_stock}
use Rattle.sim_shared_model.specs.Shelves.{Leaves, ShelfOf, store_kind, given_to, attempt_hand_out, HandsOut}
use Rattle.sim_stores.specs.Finding.{given_from, FindsGet}
use Rattle.sim_stores.proofs.Given.{fails_first, none_found, found_passes}
use Rattle.sim_stores.proofs.Looking.{looked_few}
use Rattle.sim_stores.proofs.Storing.{sound_hand_out}
use Rattle.sim_stores.proofs.Trying.{front_without, front_before, none_of_tried}
use Rattle.sim_stores.specs.Sound.{IsSoundShelf}
use Rattle.sim_stores.specs.declared.tried.Tried.{Tried}
use Rattle.sim_stores.specs.TriedGets.{IsTried}

-- ---- what was not given before is not given afterwards

not_none : {X : Type 0} (x : X) → Some x ≡ None → ⊥
not_none x h = cc

found_step : {X : Type 0} (b : Bool) (x : X) (o p : Option X) → cond b (Some x) o ≡ None → (o ≡ None → p ≡ None) → cond b (Some x) p ≡ None
found_step true x o p h f = absurd (not_none x h)
found_step false x o p h f = f h

still_nowhere : {X : Type 0} (p : X → Bool) (us : List X) (x : X) (vs : List X) → find p (us ++ x ∷ vs) ≡ None → find p (us ++ vs) ≡ None
still_nowhere p [] x vs h = (fails_first p (p x) x (find p vs) h).1
still_nowhere p (u ∷ us) x vs h = found_step (p u) u (find p (us ++ x ∷ vs)) (find p (us ++ vs)) h (still_nowhere p us x vs)

some_first : (us : List Item) (x : Item) (vs : List Item) → first_of_list (us ++ x ∷ vs) ≡ None → ⊥
some_first [] x vs h = not_none x h
some_first (u ∷ us) x vs h = not_none u h

some_least : (us : List Item) (x : Item) (vs : List Item) → least_item (us ++ x ∷ vs) ≡ None → ⊥
some_least [] x vs h = cc
some_least (u ∷ us) x vs h = cc

none_after : (k : ShelfKind) (xs ys : List Item) (x : Item) (w : WaitingGet) → Leaves x xs ys → given_to k xs w ≡ None → given_to k ys w ≡ None
none_after kind.Fifo xs ys x w h none = absurd (some_first h.before x h.behind (ap first_of_list (sym h.stood) ∙ none))
none_after kind.Priority xs ys x w h none = absurd (some_least h.before x h.behind (ap least_item (sym h.stood) ∙ none))
none_after kind.Filter xs ys x w h none =
    ap (λ zs. given_to kind.Filter zs w) h.stay ∙ still_nowhere _ h.before x h.behind (ap (λ zs. given_to kind.Filter zs w) (sym h.stood) ∙ none)

-- ---- an item that is given comes after those of which none is given

-- where one of them is given, there is one to be given
gives_one : (k : ShelfKind) (us : List Item) (x : Item) (vs more : List Item) (w : WaitingGet) → given_to k (us ++ x ∷ vs) w ≡ Some x
    → given_to k (us ++ x ∷ more) w ≡ None → ⊥
gives_one kind.Fifo us x vs more w given none = some_first us x more none
gives_one kind.Priority us x vs more w given none = some_least us x more none
gives_one kind.Filter us x vs more w given none =
    let test : Item → Bool = is_in_range w.least w.greatest in
    let long : length us < length (us ++ x ∷ more) = omega (arith, length-append us (x ∷ more)) in
    let fails : test x ≡ false = ap test (sym (get_or_at us x more x (length us) refl)) ∙ none_found test (us ++ x ∷ more) none (length us) x long in
    false≢true (sym fails ∙ found_passes test (us ++ x ∷ vs) x given)

-- the item that is given comes after the first n, of which none is given
given_after : (k : ShelfKind) (us : List Item) (x : Item) (vs : List Item) (w : WaitingGet) (n : ℕ) → given_to k (us ++ x ∷ vs) w ≡ Some x
    → given_to k (take n (us ++ x ∷ vs)) w ≡ None → n ≤ length us
given_after k us x vs w n given none =
    ⊎_elim {C = n ≤ length us}
    (λ near.
    let m : ℕ = n - length us - 1 in
    let front : take n (us ++ x ∷ vs) ≡ us ++ x ∷ take m vs =
    ap (λ i. take i (us ++ x ∷ vs)) (omega (arith, near)) ∙ take-append-add us (x ∷ vs) (suc m) in
    absurd (gives_one k us x vs (take m vs) w given (ap (λ ys. given_to k ys w) (sym front) ∙ none)))
    (λ far. far) (cases_lt (length us) n)

-- ---- the get is served

module _ (capacity : ℕ) (puts : List WaitingPut) where
  abbrev shelf : ShelfKind → List Item → List WaitingGet → ℕ → ℕ → ShelfOf
  shelf k xs ws more_puts more_gets =
      record { kind = k; capacity = capacity; puts = puts; gets = ws; items = xs; spare_puts = more_puts; spare_gets = more_gets }

  module _ (gets : List WaitingGet) (old new : Stock) (at : ℕ) (value : ℤ) (w : WaitingGet) (left : List WaitingGet)
      (f : FindsGet gets old at value new) (is : w ≡ get_or gets at w) (removed : left ≡ remove gets at) where
    abbrev before : List Item
    before = (items_of_stock old).items

    abbrev after : List Item
    after = (items_of_stock new).items

    inside : at < length gets
    inside = omega (arith, f.within, looked_few (get_reach (store_kind (kind_of_stock old))) gets)

    gives : GivesItem (given_from old w) before value after
    gives = subst (λ v. GivesItem (given_from old v) before value after) (sym is) (f.gives w)

    parted : gets ≡ take at gets ++ w ∷ drop (suc at) gets
    parted =
        let next : at + 1 ≡ suc at = omega arith in
        let rest = drop_more gets at w inside ∙ (ap (λ n. get_or gets at w ∷ drop n gets) next ∙ ap (λ v. v ∷ drop (suc at) gets) (sym is)) in
        sym (take-append-drop at gets) ∙ ap (λ vs. take at gets ++ vs) rest

    pub handed_sound : IsSoundShelf capacity before puts gets → IsSoundShelf capacity after puts left
    handed_sound h =
        sound_hand_out capacity before puts gets h (take at gets) w (drop (suc at) gets) left gives.item after parted removed gives.leaves

    -- the first items are those that the get had been tried with, and they stay
    same_front : (t : Tried) → IsTried (kind_of_stock old) before gets t → at < t.gets
        → (t.items ≤ length gives.leaves.before) × (take t.items after ≡ take t.items before)
    same_front t h near =
        let none : given_to (kind_of_stock old) (take t.items before) w ≡ None = none_of_tried (kind_of_stock old) before gets t h at t.items w is (λ _. refl) (λ far. absurd (omega (arith, near, far))) in
        let l = gives.leaves in
        let behind : t.items ≤ length l.before = given_after (kind_of_stock old) l.before gives.item l.behind w t.items
        (ap (λ xs. given_to (kind_of_stock old) xs w) (sym l.stood) ∙ gives.is) (ap (λ xs. given_to (kind_of_stock old) (take t.items xs) w) (sym l.stood) ∙ none) in (
          behind,
          ap (take t.items) l.stay ∙ (take-append-le t.items l.before l.behind behind
              ∙ sym (ap (take t.items) l.stood ∙ take-append-le t.items l.before (gives.item ∷ l.behind) behind)),
        )

    -- where the get had been tried
    stays_tried : (t : Tried) → IsTried (kind_of_stock old) before gets t → at < t.gets → length left + 1 ≡ length gets
        → IsTried (kind_of_stock new) after left (record { gets = t.gets - 1; items = t.items })
    stays_tried t h near fewer =
        let front = same_front t h near in
        record {
          gets = omega (arith, h.gets, fewer);
          items = omega (arith, front.0, ap length gives.leaves.stay, length-append gives.leaves.before gives.leaves.behind);
          none = subst (λ vs. All (λ v. given_to (kind_of_stock new) (take t.items after) v ≡ None) (take (t.gets - 1) vs)) (sym removed)
              (All-weaker (λ v. given_to (kind_of_stock old) (take t.items before) v ≡ None) (λ v. given_to (kind_of_stock new) (take t.items after) v ≡ None)
              (λ v none. ap (λ k. given_to k (take t.items after) v) f.kind ∙ (ap (λ xs. given_to (kind_of_stock old) xs v) front.1 ∙ none))
              (take (t.gets - 1) (remove gets at)) (front_without (λ v. given_to (kind_of_stock old) (take t.items before) v ≡ None) t.gets at gets h.gets inside h.none));
        }

    none_left : (v : WaitingGet) → given_from old v ≡ None → given_from new v ≡ None
    none_left v h = ap (λ k. given_to k after v) f.kind ∙ none_after (kind_of_stock old) before after gives.item v gives.leaves h

    -- what has been tried stays tried: if the get had been, the item is none of those that it had been tried with, else all
    -- before it have been tried with all items
    pub handed_tried : (t u : Tried) → IsTried (kind_of_stock old) before gets t
        → (at < t.gets → u ≡ record { gets = t.gets - 1; items = t.items }) → (t.gets ≤ at → u ≡ record { gets = at; items = length after })
        → IsTried (kind_of_stock new) after left u
    handed_tried t u h tried untried =
        let fewer : length left + 1 ≡ length gets = ap (λ vs. length vs + 1) removed ∙ length-remove gets at inside in
        ⊎_elim {C = IsTried (kind_of_stock new) after left u}
        (λ near. subst (IsTried (kind_of_stock new) after left) (sym (tried near)) (stays_tried t h near fewer))
        (λ far. subst (IsTried (kind_of_stock new) after left) (sym (untried far)) (record {
          gets = omega (arith, fewer, inside);
          items = omega arith;
          none = subst (λ ys. All (λ v. given_to (kind_of_stock new) ys v ≡ None) (take at left)) (sym (take_all (length after) after (omega arith)))
              (subst (λ vs. All (λ v. given_from new v ≡ None) (take at vs)) (sym removed)
              (front_before (λ v. given_from new v ≡ None) at gets inside (All-weaker (λ v. given_from old v ≡ None) (λ v. given_from new v ≡ None) none_left (take at gets) f.passed)));
        })) (cases_lt at t.gets)

    pub hands_out : (res spare_puts spare_gets more_puts more_gets : ℕ) → spare_puts ≤ more_puts → more_gets ≡ spare_gets + 1
        → HandsOut res (shelf (kind_of_stock old) before gets spare_puts spare_gets) (record { event = w.event; value = value })
        (shelf (kind_of_stock new) after left more_puts more_gets)
    hands_out res spare_puts spare_gets more_puts more_gets never_less one_more =
        let s : ShelfOf = shelf (kind_of_stock old) before gets spare_puts spare_gets in
        let t : ShelfOf = shelf (kind_of_stock new) after left more_puts more_gets in
        let None_before : WaitingGet → Type 0 = λ v. given_from old v ≡ None in
        record {
          one = record {
            passed = take at gets;
            waiter = w;
            behind = drop (suc at) gets;
            deed = record { value = gives.item.value; deed = Taken res gives.item.put };
            stood = parted;
            stay = removed;
            reached = omega (arith, f.within, length-take-le at gets (omega (arith, inside)));
            unserved = All-weaker None_before (λ v. attempt_hand_out res s v ≡ None) (λ v h. ap (hand_out res) h) (take at gets) f.passed;
            served = ap (hand_out res) gives.is;
            told = ap (λ z. let x : Served = record { event = w.event; value = z } in x) gives.told;
          };
          item = gives.item;
          given = gives.is;
          leaves = gives.leaves;
          passed = All-weaker None_before (λ v. attempt_hand_out res t v ≡ None) (λ v h. ap (hand_out res) (none_left v h)) (take at gets) f.passed;
          rest = ap (λ k. shelf k after left more_puts more_gets) f.kind ∙ ap (λ n. shelf (kind_of_stock old) after left more_puts n) one_more;
          room = never_less;
        }

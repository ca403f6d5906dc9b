-- What has been tried stays tried, as gets and items come and go.
use Rattle.std.proofs.Common.{◌≡◌, ℕ, ◌+◌, ◌-◌, ◌<◌, ◌≤◌, true, List, [], ◌∷◌, ◌++◌, length, map, take, get_or, None, refl, sym, subst, ◌∙◌, arith, All, ⊎_elim}
use Rattle.std.specs.List.{list_any, remove}
use Rattle.std.proofs.lemmas.Bool.{cases_lt}
use Rattle.std.proofs.lemmas.List.{take-append-le, length_push, length-take-le, get_or-take}
use Rattle.std.proofs.lemmas.List.Edits.{length-remove, get_or-remove_below, get_or-remove_above}
use Rattle.std.proofs.lemmas.List.Folds.{Any-from_list_any}
use Rattle.sim_types.specs.declared.event.EventId.{EventId}
use Rattle.sim_machine.specs.State.{Item}
use Rattle.sim_machine.specs.Events.{is_same}
use Rattle.sim_shared_model.specs.declared.stock.WaitingGet.{WaitingGet}
use Rattle.sim_shared_model.specs.declared.stock.ShelfKind.{ShelfKind}
use Rattle.sim_shared_model.specs.declared.stock.ShelfKind.TheVariants as kind
use Rattle.sim_shared_model.specs.StoreQueues.{besides, AllDiffer}
use Rattle.sim_shared_model.specs.Shelves.{given_to}
use Rattle.sim_stores.specs.declared.tried.Tried.{Tried}
use Rattle.sim_stores.specs.TriedGets.{IsTried}
use Rattle.sim_stores.proofs.Leaving.{removed_at}

-- ---- fronts of lists

module _ {X : Type 0} (P : X → Type 0) where
  -- where the element at any place is removed, the front has one less
  pub front_without : (n i : ℕ) (xs : List X) → n ≤ length xs → i < length xs → All P (take n xs) → All P (take (n - 1) (remove xs i))
  front_without n i xs few inside all = λ k d below.
      let left = length-remove xs i inside in
      let near : k < n - 1 = omega (arith, below, length-take-le (n - 1) (remove xs i) (omega (arith, left, few))) in
      let len = length-take-le n xs few in
      let same = get_or-take (n - 1) (remove xs i) k d near in
      let at_k : P (get_or xs k d) = subst P (get_or-take n xs k d (omega (arith, near))) (all k d (omega (arith, near, len))) in
      let at_next : P (get_or xs (k + 1) d) = subst P (get_or-take n xs (k + 1) d (omega (arith, near))) (all (k + 1) d (omega (arith, near, len))) in
      ⊎_elim {C = P (get_or (take (n - 1) (remove xs i)) k d)}
      (λ before. subst P (sym (same ∙ get_or-remove_below xs i d k before inside)) at_k)
      (λ behind. subst P (sym (same ∙ get_or-remove_above xs i d k behind inside)) at_next) (cases_lt k i)

  -- before the place where one is removed all stay
  pub front_before : (i : ℕ) (xs : List X) → i < length xs → All P (take i xs) → All P (take i (remove xs i))
  front_before i xs inside all = λ k d below.
      let left = length-remove xs i inside in
      let near : k < i = omega (arith, below, length-take-le i (remove xs i) (omega (arith, left, inside))) in
      subst P (get_or-take i xs k d near ∙ sym (get_or-take i (remove xs i) k d near ∙ get_or-remove_below xs i d k near inside))
      (all k d (omega (arith, near, length-take-le i xs (omega (arith, inside)))))

-- where there is no item, none is given
nothing_given : (k : ShelfKind) (w : WaitingGet) → given_to k [] w ≡ None
nothing_given kind.Fifo w = refl
nothing_given kind.Priority w = refl
nothing_given kind.Filter w = refl

module _ (k : ShelfKind) (xs : List Item) (ws : List WaitingGet) (t : Tried) (h : IsTried k xs ws t) where
  -- a get is given none of the items that it has been tried with
  pub none_of_tried : (at n : ℕ) (w : WaitingGet) → w ≡ get_or ws at w → (at < t.gets → n ≡ t.items) → (t.gets ≤ at → n ≡ 0)
      → given_to k (take n xs) w ≡ None
  none_of_tried at n w is before behind =
      ⊎_elim {C = given_to k (take n xs) w ≡ None}
      (λ near. subst (λ m. given_to k (take m xs) w ≡ None) (sym (before near))
      (subst (λ v. given_to k (take t.items xs) v ≡ None) (get_or-take t.gets ws at w near ∙ sym is) (h.none at w (omega (arith, near, length-take-le t.gets ws h.gets)))))
      (λ far. subst (λ m. given_to k (take m xs) w ≡ None) (sym (behind far)) (nothing_given k w)) (cases_lt at t.gets)

  -- ---- gets and items come and go

  -- a get waits behind the others
  pub tried_join : (w : WaitingGet) → IsTried k xs (ws ++ w ∷ []) t
  tried_join w =
      record {
        gets = omega (arith, h.gets, length_push ws w);
        items = h.items;
        none = subst (All (λ v. given_to k (take t.items xs) v ≡ None)) (sym (take-append-le t.gets ws (w ∷ []) h.gets)) h.none;
      }

  -- an item is put behind the others
  pub tried_put : (x : Item) → IsTried k (xs ++ x ∷ []) ws t
  tried_put x =
      record {
        gets = h.gets;
        items = omega (arith, h.items, length_push xs x);
        none = subst (λ ys. All (λ v. given_to k ys v ≡ None) (take t.gets ws)) (sym (take-append-le t.items xs (x ∷ []) h.items)) h.none;
      }

  -- a get of this event leaves
  pub tried_leave : (e : EventId) → AllDiffer (map (λ w. w.event) ws) → list_any (λ w. is_same w.event e) ws ≡ true
      → IsTried k xs (besides (λ w. w.event) e ws) (record { gets = t.gets - 1; items = t.items })
  tried_leave e differ waits =
      let place = Any-from_list_any (λ (w : WaitingGet). is_same w.event e) ws waits in
      let i : ℕ = place.0 in
      let w : WaitingGet = place.1 in
      let inside : i < length ws = place.2 in
      let passes : is_same (get_or ws i w).event e ≡ true = subst (λ (v : WaitingGet). is_same v.event e ≡ true) (sym place.3) place.4 in
      let left : remove ws i ≡ besides (λ v. v.event) e ws = removed_at (λ (v : WaitingGet). v.event) e ws i w inside passes differ in
      let u : Tried = record { gets = t.gets - 1; items = t.items } in
      subst (λ vs. IsTried k xs vs u) left
      (record {
        gets = omega (arith, h.gets, length-remove ws i inside);
        items = h.items;
        none = front_without (λ v. given_to k (take t.items xs) v ≡ None) t.gets i ws h.gets inside h.none;
      })

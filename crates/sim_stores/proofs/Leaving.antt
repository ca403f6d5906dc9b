-- What waits for an event leaves its queue.
use Rattle.std.proofs.Common.{◌≡◌, ◌≢◌, ◌||◌, ℕ, zero, suc, ◌<◌, get_or, All, not, Bool, true, false, cond, List, [], ◌∷◌, ◌++◌, length, map, filter, refl, sym, ap, subst, ◌∙◌, arith}
use Rattle.std.specs.Prelude.{HoldsAt, Option, Some, None}
use Rattle.std.specs.List.{list_any, remove}
use Rattle.std.proofs.lemmas.Bool.{false≢true}
use Rattle.std.proofs.lemmas.Bool.Decides.{nat_tests}
use Rattle.std.proofs.lemmas.List.{get_or_default}
use Rattle.std.proofs.lemmas.List.Elements.{filter-append, All-head, All-tail}
use Rattle.std.proofs.lemmas.List.Folds.{list_any-append}
use Rattle.std.proofs.lemmas.List.Kept.{AllPairs-filter}
use Rattle.sim_types.proofs.Permutations.{AllPairs-head, AllPairs-tail}
use Rattle.sim_types.specs.declared.event.EventId.{EventId}
use Rattle.sim_machine.specs.Events.{is_same}
use Rattle.sim_shared_model.specs.StoreQueues.{stands_among, AllDiffer, besides}
use Rattle.sim_shared_model.proofs.Apart.{Apart}
use Rattle.sim_places.specs.Places.{IsPlaceFound}
use Rattle.sim_stores.specs.Queues.{IsPlaceOf}

module _ {X : Type 0} (p : X → Bool) where
  stays_step : (b r : Bool) (x : X) (us vs : List X) → (b || r) ≡ false → (r ≡ false → us ≡ vs) → cond (not b) (x ∷ us) us ≡ x ∷ vs
  stays_step true r x us vs h f = absurd (false≢true (sym h))
  stays_step false r x us vs h f = ap (λ ws. x ∷ ws) (f h)

  -- where no element passes the test, all stay
  pub all_stay : (xs : List X) → list_any p xs ≡ false → filter (λ x. not (p x)) xs ≡ xs
  all_stay [] h = refl
  all_stay (x ∷ xs) h = stays_step (p x) (list_any p xs) x (filter (λ y. not (p y)) xs) xs h (all_stay xs)

  -- where each fails, none passes
  pub none_passes : (xs : List X) → ((k : ℕ) (d : X) → k < length xs → p (get_or xs k d) ≡ false) → list_any p xs ≡ false
  none_passes [] fails = refl
  none_passes (x ∷ xs) fails =
      ap (λ b. b || list_any p xs) (fails 0 x (omega arith)) ∙ none_passes xs (λ k d below. fails (suc k) d (omega (arith, below)))

  or_true : (b : Bool) → (b || true) ≡ true
  or_true true = refl
  or_true false = refl

  -- one does that stands at a place
  pub one_passes : (xs : List X) (i : ℕ) (d : X) → i < length xs → p (get_or xs i d) ≡ true → list_any p xs ≡ true
  one_passes [] i d below passes = absurd (omega (arith, below))
  one_passes (x ∷ xs) zero d below passes = ap (λ b. b || list_any p xs) passes
  one_passes (x ∷ xs) (suc i) d below passes = ap (λ b. p x || b) (one_passes xs i d (omega (arith, below)) passes) ∙ or_true (p x)

module _ {W : Type 0} (event : W → EventId) (e : EventId) where
  mapped_step : (b : Bool) (w : W) (ws : List W) → map event (cond b (w ∷ ws) ws) ≡ cond b (event w ∷ map event ws) (map event ws)
  mapped_step true w ws = refl
  mapped_step false w ws = refl

  -- their events are those that are not this one
  pub events_besides : (ws : List W) → map event (besides event e ws) ≡ filter (λ f. not (is_same f e)) (map event ws)
  events_besides [] = refl
  events_besides (w ∷ ws) =
      mapped_step (not (is_same (event w) e)) w (besides event e ws)
      ∙ ap (λ es. cond (not (is_same (event w) e)) (event w ∷ es) es) (events_besides ws)

  pub among_events : (ws : List W) → stands_among e (map event ws) ≡ list_any (λ w. is_same (event w) e) ws
  among_events [] = refl
  among_events (w ∷ ws) = ap (λ b. is_same (event w) e || b) (among_events ws)

  another : (f g : EventId) → Apart f g → is_same f e ≡ true → is_same g e ≡ false
  another f g h is = grind (arith, nat_tests)

  -- behind the event none is of it
  none_behind : (f : EventId) (ws : List W) → is_same f e ≡ true → All (Apart f) (map event ws) → list_any (λ w. is_same (event w) e) ws ≡ false
  none_behind f [] is h = refl
  none_behind f (w ∷ ws) is h =
      ap (λ b. b || list_any (λ v. is_same (event v) e) ws) (another f (event w) (All-head (Apart f) (event w) (map event ws) h) is)
      ∙ none_behind f ws is (All-tail (Apart f) (event w) (map event ws) h)

  removed_step : (b : Bool) (w : W) (ws : List W) (i : ℕ) (d : W) → is_same (event w) e ≡ b → i < length ws → is_same (event (get_or ws i d)) e ≡ true
      → All (Apart (event w)) (map event ws) → remove ws i ≡ besides event e ws → w ∷ remove ws i ≡ cond (not b) (w ∷ besides event e ws) (besides event e ws)
  removed_step true w ws i d is below passes apart rest =
      absurd (false≢true (sym (none_behind (event w) ws is apart) ∙ one_passes (λ v. is_same (event v) e) ws i d below passes))
  removed_step false w ws i d is below passes apart rest = ap (λ vs. w ∷ vs) rest

  -- without the waiter at a place there are all that are not of its event
  pub removed_at : (ws : List W) (i : ℕ) (d : W) → i < length ws → is_same (event (get_or ws i d)) e ≡ true → AllDiffer (map event ws)
      → remove ws i ≡ besides event e ws
  removed_at [] i d below passes apart = absurd (omega (arith, below))
  removed_at (w ∷ ws) zero d below passes apart =
      sym (ap (λ b. cond (not b) (w ∷ besides event e ws) (besides event e ws)) passes
      ∙ all_stay (λ v. is_same (event v) e) ws (none_behind (event w) ws passes (AllPairs-head Apart (event w) (map event ws) apart)))
  removed_at (w ∷ ws) (suc i) d below passes apart =
      let inside : i < length ws = omega (arith, below) in
      removed_step (is_same (event w) e) w ws i d refl inside passes (AllPairs-head Apart (event w) (map event ws) apart)
      (removed_at ws i d inside passes (AllPairs-tail Apart (event w) (map event ws) apart))

  -- a place that was found is that of a waiter of the event, and where none was found there is none
  pub place_of_event : (ws : List W) {n : ℕ} {answers : ℕ → Bool → Type 0} (found : Option ℕ) → n ≡ length ws
      → ((i : ℕ) (b : Bool) → answers i b → HoldsAt (λ w. b ≡ is_same (event w) e) ws i) → IsPlaceFound n answers found → IsPlaceOf event e ws found
  place_of_event ws None len test f =
      none_passes (λ w. is_same (event w) e) ws (λ k d below. sym (test k false (f.all_fail refl k (omega (arith, len, below))) d))
  place_of_event [] (Some i) len test f = let below = f.passes.0 in absurd (omega (arith, len, below))
  place_of_event (w ∷ ws) (Some i) len test f =
      let below = f.passes.0 in
      let within : i < length (w ∷ ws) = omega (arith, len, below) in
      record {
        waiter = get_or (w ∷ ws) i w;
        within = within;
        there = get_or_default (w ∷ ws) i w (get_or (w ∷ ws) i w) within;
        same = sym (test i true f.passes.1 w);
      }

module _ {W V : Type 0} (of : W → EventId) (by : V → EventId) (e : EventId) (us : List W) (vs : List V) where
  -- those that are left in two queues differ as before
  pub differ_besides : AllDiffer (map of us ++ map by vs) → AllDiffer (map of (besides of e us) ++ map by (besides by e vs))
  differ_besides h =
      let parts : filter (λ f. not (is_same f e)) (map of us ++ map by vs) ≡ map of (besides of e us) ++ map by (besides by e vs) =
      filter-append (λ f. not (is_same f e)) (map of us) (map by vs)
      ∙ (ap (λ es. es ++ filter (λ f. not (is_same f e)) (map by vs)) (sym (events_besides of e us)) ∙ ap (λ es. map of (besides of e us) ++ es) (sym (events_besides by e vs))) in
      subst AllDiffer parts (AllPairs-filter (λ f g. f.0 ≢ g.0) (λ f. not (is_same f e)) (map of us ++ map by vs) h)

  -- the event waits in the one queue or in the other
  pub among_both : stands_among e (map of us ++ map by vs) ≡ (list_any (λ w. is_same (of w) e) us || list_any (λ w. is_same (by w) e) vs)
  among_both =
      list_any-append (λ f. is_same f e) (map of us) (map by vs)
      ∙ (ap (λ b. b || stands_among e (map by vs)) (among_events of e us) ∙ ap (λ b. list_any (λ w. is_same (of w) e) us || b) (among_events by e vs))

-- Resources as they open, one after another.
use Rattle.std.proofs.Common.{rules, ◌≡◌, ℕ, zero, suc, ◌+◌, ◌<◌, ◌^◌, pos, List, [], ◌∷◌, ◌++◌, length, refl, sym, subst, ap, ◌∙◌, Some, None, map, slice_get, take, arith}
use Rattle.std.specs.List.{AllPass}
use Rattle.std.proofs.lemmas.Option.{none-some, same_Some}
use Rattle.std.proofs.lemmas.List.{map-append}
use Rattle.std.proofs.lemmas.List.Elements.{All-nil}
use Rattle.std.proofs.Math.Seq.{take-suc, take-length}
use Rattle.sim_types.specs.declared.setup.Resource.{Resource}
use Rattle.sim_types.specs.declared.setup.ResourceKind.{ResourceKind}
use Rattle.sim_types.specs.declared.setup.ResourceKind.TheVariants as resource
use Rattle.sim_types.specs.Setups.{resource_fits}
use Rattle.sim_machine.specs.Runs.{first_calendar}
use Rattle.sim_machine.specs.Users.{resource_at, in_order}
use Rattle.sim_happen_model.specs.Shows.{Shows}
use Rattle.sim_shared_model.specs.DeskOf.{waiters_at}
use Rattle.sim_shared_model.specs.AnyShared.{SharedResource}
use Rattle.sim_shared_model.specs.declared.resource.AnyResource.TheVariants.{Desk, Tank, Shelf}
use Rattle.sim_shared_model.specs.Resources.{declared_as, without_opening}
use Rattle.sim_shared_model.specs.SharedOf.{SharedOf}
use Rattle.sim_shared_model.specs.ShowsAll.{ShowsAt, ShowsAll, amount_waiting, put_waiting, get_waiting}
use Rattle.sim_shared_model.specs.Places.{IsSoundShared}
use Rattle.sim_shared.specs.Opening.{IsUntouched, IsOpened, AreOpened, first_facilities}

-- so many have been opened
pub record HaveOpened (i : ℕ) (rs : List Resource) (xs : List SharedResource) : Type 0 where
  pub declared : map declared_as xs ≡ map without_opening (take i rs)
  pub each : (n : ℕ) (x : SharedResource) → slice_get xs n ≡ Some x → IsOpened (resource_at rs n) x

pub opened_none : (rs : List Resource) → HaveOpened 0 rs []
opened_none rs = record { declared = refl; each = λ n x found. absurd (none-some x found) }

at_each_more : {X : Type 0} (P : ℕ → X → Type 0) (xs : List X) (x : X) → P (length xs) x → ((n : ℕ) (y : X) → slice_get xs n ≡ Some y → P n y) →
    (n : ℕ) (y : X) → slice_get (xs ++ x ∷ []) n ≡ Some y → P n y
at_each_more P [] x here each zero y h = subst (P zero) (same_Some x y h) here
at_each_more P [] x here each (suc n) y h = absurd (none-some y h)
at_each_more P (z ∷ xs) x here each zero y h = each zero y h
at_each_more P (z ∷ xs) x here each (suc n) y h = at_each_more (λ m. P (suc m)) xs x here (λ m w found. each (suc m) w found) n y h

pub opened_more : (i : ℕ) (rs : List Resource) (xs : List SharedResource) (x : SharedResource) → length xs ≡ i → i < length rs →
    IsOpened (resource_at rs i) x → HaveOpened i rs xs → HaveOpened (i + 1) rs (xs ++ x ∷ [])
opened_more i rs xs x long within opened h =
    let none : Resource = record { kind = resource.Plain; capacity = pos 0; opening = pos 0 } in
    let more : take (i + 1) rs ≡ take i rs ++ resource_at rs i ∷ [] = ap (λ k. take k rs) {y = suc i} (omega arith) ∙ take-suc rs i none within in
    record {
      declared = map-append declared_as xs (x ∷ []) ∙ (ap (λ ys. ys ++ declared_as x ∷ []) h.declared
          ∙ (ap (λ r. map without_opening (take i rs) ++ r ∷ []) opened.declared
          ∙ (sym (map-append without_opening (take i rs) (resource_at rs i ∷ [])) ∙ ap (map without_opening) (sym more))));
      each = at_each_more (λ n y. IsOpened (resource_at rs n) y) xs x (subst (λ n. IsOpened (resource_at rs n) x) (sym long) opened) h.each;
    }

pub opened_all : (i : ℕ) (rs : List Resource) (xs : List SharedResource) → i ≡ length rs → HaveOpened i rs xs → AreOpened rs xs
opened_all i rs xs all h = record {
  declared = h.declared ∙ ap (map without_opening) (ap (λ k. take k rs) all ∙ take-length rs);
  each = h.each;
}

-- ---- what is kept and shown of them

pub sound_opened : (xs : List SharedResource) (rs : List Resource) → AllPass resource_fits rs → length rs < 2 ^ 32 → AreOpened rs xs
    → IsSoundShared None xs rs
sound_opened xs rs fit few h = record {
  opened = h.declared;
  fit = fit;
  few = few;
  places = record { within = tt; others = λ n x found unused. (h.each n x found).place };
}

nobody_in_order : (k : ResourceKind) → in_order k [] ≡ []
nobody_in_order resource.Plain = refl
nobody_in_order resource.Priority = refl
nobody_in_order resource.Preemptive = refl
nobody_in_order resource.Container = refl
nobody_in_order resource.Store = refl
nobody_in_order resource.PStore = refl
nobody_in_order resource.FStore = refl

untouched_shown : (rs : List Resource) (n : ℕ) (x : SharedResource) → IsUntouched (resource_at rs n) x → ShowsAt rs n x first_facilities
untouched_shown rs n (Desk d) h = record {
  queue = ap (waiters_at n) h.0 ∙ sym (nobody_in_order (resource_at rs n).kind);
  gets = refl;
  users = h.1;
}
untouched_shown rs n (Tank t) h = record {
  puts = ap (map amount_waiting) h.0 ∙ rw (nobody_in_order (resource_at rs n).kind) refl;
  gets = ap (map amount_waiting) h.1;
  level = h.2;
}
untouched_shown rs n (Shelf s) h = record {
  puts = ap (map (put_waiting n)) h.0 ∙ sym (nobody_in_order (resource_at rs n).kind);
  gets = ap (map (get_waiting n)) h.1;
  items = h.2;
}

pub opened_shown : (h : SharedOf) → AreOpened h.setup h.resources → Shows h.happen (first_calendar 0) → ShowsAll h first_facilities
opened_shown h opened shown = record {
  calendar = shown;
  opened = opened.declared;
  resources = λ n x found. untouched_shown h.setup n x (opened.each n x found).untouched;
  tidy = record {
    waiting = search rules;
    placed = All-nil _;
    made = All-nil _;
    ledger = record { once = search rules; apart = All-nil _; made = All-nil _ };
  };
}

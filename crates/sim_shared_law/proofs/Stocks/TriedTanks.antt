-- A put or get at a container that is tried, in its place among the resources (SimPy's Container).
use Rattle.std.proofs.Common.{◌≡◌, ◌≢◌, ℕ, ℤ, pos, ◌+ℤ◌, ◌-ℤ◌, Bool, true, false, ◌&&◌, not, List, [], ◌∷◌, sym, ap, ◌∙◌, Option, Some, None, map, filter, if◌then◌else◌}
use Rattle.std.specs.Prelude.{◌==◌, int_le, All}
use Rattle.std.proofs.lemmas.Bool.{false≢true, and_parts, eqb-true, ne_eqb}
use Rattle.std.proofs.lemmas.Option.{none-some, same_Some}
use Rattle.std.proofs.lemmas.List.{append-nil}
use Rattle.std.proofs.lemmas.List.Elements.{All-head, All-tail, filter_passes}
use Rattle.sim_types.specs.declared.setup.Resource.{Resource}
use Rattle.sim_types.specs.declared.setup.ResourceKind.{ResourceKind}
use Rattle.sim_types.specs.declared.setup.ResourceKind.TheVariants as resource
use Rattle.sim_machine.specs.State.{Want, Slot, Give, Take, Waiter, Deed, Filled, Drained, Facilities}
use Rattle.sim_machine.specs.Users.{resource_at, wants_to_put, put_queue, get_queue, users, items, item_for}
use Rattle.sim_machine.specs.Attempts.{is_container, fill, drain, deposit, hand_out}
use Rattle.sim_machine.specs.Attempts as attempts
use Rattle.sim_machine.specs.Trying.{level, serve_if_any, attempt_for}
use Rattle.sim_machine_law.proofs.Ledger.LedgerSteps.{users_step, items_step, all_stay}
use Rattle.sim_machine_law.proofs.Ledger.TriedQueues.{all_in_order}
use Rattle.sim_shared_model.specs.declared.stock.WaitingAmount.{WaitingAmount}
use Rattle.sim_shared_model.specs.Tanks.{TankOf, container_of, attempt_fill, attempt_drain}
use Rattle.sim_shared_model.specs.Resources.{without_opening}
use Rattle.sim_shared_model.specs.ShowsAll.{AmountFor, amount_of, amount_for, amount_waiting, ShowsTank}
use Rattle.sim_shared_law.proofs.Desks.ServedWaiters.{StaysAt}
use Rattle.sim_shared_law.proofs.Stocks.AlikeQueues.{AreAlike, AnswersAs}

-- ---- who waits

-- a put at the container of this place, as the machine has it
pub record IsPutOf (res : ℕ) (w : WaitingAmount) (v : Waiter) : Type 0 where
  pub event : v.event ≡ w.event
  pub place : v.res ≡ res
  pub priority : ℤ
  pub want : v.want ≡ Give w.amount priority

-- and a get
pub record IsGetOf (res : ℕ) (w : WaitingAmount) (v : Waiter) : Type 0 where
  pub event : v.event ≡ w.event
  pub place : v.res ≡ res
  pub greatest : ℤ
  pub want : v.want ≡ Take w.amount greatest

pub same_first : {X : Type 0} (x y : X) (xs ys : List X) → x ∷ xs ≡ y ∷ ys → x ≡ y
same_first x y xs ys h = cc

pub same_rest : {X : Type 0} (x y : X) (xs ys : List X) → x ∷ xs ≡ y ∷ ys → xs ≡ ys
same_rest x y xs ys h = cc

pub none_first : {X : Type 0} (x : X) (xs : List X) → [] ≡ x ∷ xs → ⊥
none_first x xs h = cc

put_of_want : (want : Want) (amount : ℤ) → Some amount ≡ amount_of want → wants_to_put want ≡ true → (priority : ℤ) × (want ≡ Give amount priority)
put_of_want (Slot process key) amount h puts = absurd (none-some amount (sym h))
put_of_want (Give n priority) amount h puts = (priority, ap (λ m. Give m priority) (sym (same_Some amount n h)))
put_of_want (Take least greatest) amount h puts = absurd (false≢true puts)

get_of_want : (want : Want) (amount : ℤ) → Some amount ≡ amount_of want → not (wants_to_put want) ≡ true → (greatest : ℤ) × (want ≡ Take amount greatest)
get_of_want (Slot process key) amount h gets = absurd (false≢true gets)
get_of_want (Give n priority) amount h gets = absurd (false≢true gets)
get_of_want (Take least greatest) amount h gets = (greatest, ap (λ m. Take m greatest) (sym (same_Some amount least h)))

abbrev is_put_at : ℕ → Waiter → Bool
is_put_at res v = (v.res == res) && wants_to_put v.want

abbrev is_get_at : ℕ → Waiter → Bool
is_get_at res v = (v.res == res) && not (wants_to_put v.want)

put_of : (res : ℕ) (w : WaitingAmount) (v : Waiter) → amount_waiting w ≡ amount_for v → is_put_at res v ≡ true → IsPutOf res w v
put_of res w v same at =
    let parts = and_parts (v.res == res) (wants_to_put v.want) at in
    let want = put_of_want v.want w.amount (ap (λ (x : AmountFor). x.amount) same) parts.1 in
    record { event = sym (ap (λ (x : AmountFor). x.event) same); place = eqb-true v.res res parts.0; priority = want.0; want = want.1 }

get_of : (res : ℕ) (w : WaitingAmount) (v : Waiter) → amount_waiting w ≡ amount_for v → is_get_at res v ≡ true → IsGetOf res w v
get_of res w v same at =
    let parts = and_parts (v.res == res) (not (wants_to_put v.want)) at in
    let want = get_of_want v.want w.amount (ap (λ (x : AmountFor). x.amount) same) parts.1 in
    record { event = sym (ap (λ (x : AmountFor). x.event) same); place = eqb-true v.res res parts.0; greatest = want.0; want = want.1 }

-- queues of the same amounts are alike
alike_amounts : (R : WaitingAmount → Waiter → Type 0) (test : Waiter → Bool)
    → ((w : WaitingAmount) (v : Waiter) → amount_waiting w ≡ amount_for v → test v ≡ true → R w v)
    → (ws : List WaitingAmount) (vs : List Waiter) → All (λ v. test v ≡ true) vs → map amount_waiting ws ≡ map amount_for vs → AreAlike R ws vs
alike_amounts R test each [] [] passes same = tt
alike_amounts R test each [] (v ∷ vs) passes same = absurd (none_first (amount_for v) (map amount_for vs) same)
alike_amounts R test each (w ∷ ws) [] passes same = absurd (none_first (amount_waiting w) (map amount_waiting ws) (sym same))
alike_amounts R test each (w ∷ ws) (v ∷ vs) passes same = (
  each w v (same_first (amount_waiting w) (amount_for v) (map amount_waiting ws) (map amount_for vs) same) (All-head (λ u. test u ≡ true) v vs passes),
  alike_amounts R test each ws vs (All-tail (λ u. test u ≡ true) v vs passes) (same_rest (amount_waiting w) (amount_for v) (map amount_waiting ws) (map amount_for vs) same),
)

pub puts_alike : (rs : List Resource) (res : ℕ) (t : TankOf) (f : Facilities) → ShowsTank rs res t f
    → AreAlike (IsPutOf res) t.puts (put_queue rs res f.waiters)
puts_alike rs res t f s =
    alike_amounts (IsPutOf res) (is_put_at res) (put_of res) t.puts (put_queue rs res f.waiters)
    (all_in_order (λ v. is_put_at res v ≡ true) (resource_at rs res).kind (filter (is_put_at res) f.waiters) (filter_passes (is_put_at res) f.waiters)) s.puts

pub gets_alike : (rs : List Resource) (res : ℕ) (t : TankOf) (f : Facilities) → ShowsTank rs res t f
    → AreAlike (IsGetOf res) t.gets (get_queue res f.waiters)
gets_alike rs res t f s =
    alike_amounts (IsGetOf res) (is_get_at res) (get_of res) t.gets (get_queue res f.waiters) (filter_passes (is_get_at res) f.waiters) s.gets

-- ---- what the machine's attempt answers

pub fill_answers : (rs : List Resource) (res : ℕ) (t : TankOf) (f : Facilities) → container_of t ≡ without_opening (resource_at rs res)
    → ShowsTank rs res t f → AnswersAs rs (IsPutOf res) (attempt_fill res t) f
fill_answers rs res t f same s w v r =
    let kind : (resource_at rs res).kind ≡ resource.Container = sym (ap (λ (x : Resource). x.kind) same) in
    let capacity : (resource_at rs res).capacity ≡ t.capacity = sym (ap (λ (x : Resource). x.capacity) same) in
    let put : ℕ → Option attempts.Served = λ m. deposit (resource_at rs m) m (items m f.ledger) (record { put = v.event; value = w.amount; priority = r.priority }) in
    let served : ResourceKind → ℕ → Facilities = λ k m. serve_if_any v (if is_container k then fill (resource_at rs m) m (level rs m f) w.amount else put m) f in
    let filled : ℤ → ℤ → Facilities = λ l c. serve_if_any v (if int_le (l +ℤ w.amount) c then Some (record { value = pos 0; deed = Filled res w.amount }) else None) f in
    ap (λ x. attempt_for rs (resource_at rs v.res) v x f) r.want ∙ ap (λ m. served (resource_at rs m).kind m) r.place ∙ ap (λ k. served k res) kind
    ∙ ap (λ c. filled (level rs res f) c) capacity ∙ ap (λ l. filled l t.capacity) (sym s.level)

pub drain_answers : (rs : List Resource) (res : ℕ) (t : TankOf) (f : Facilities) → container_of t ≡ without_opening (resource_at rs res)
    → ShowsTank rs res t f → AnswersAs rs (IsGetOf res) (attempt_drain res t) f
drain_answers rs res t f same s w v r =
    let kind : (resource_at rs res).kind ≡ resource.Container = sym (ap (λ (x : Resource). x.kind) same) in
    let served : ResourceKind → ℕ → Facilities = λ k m. serve_if_any v (if is_container k then drain m (level rs m f) w.amount else hand_out m (item_for k w.amount r.greatest (items m f.ledger))) f in
    let drained : ℤ → Facilities = λ l. serve_if_any v (if int_le w.amount l then Some (record { value = pos 0; deed = Drained res w.amount }) else None) f in
    ap (λ x. attempt_for rs (resource_at rs v.res) v x f) r.want ∙ ap (λ m. served (resource_at rs m).kind m) r.place ∙ ap (λ k. served k res) kind
    ∙ ap drained (sym s.level)

-- ---- what is done then

-- what is answered where a test is passed
pub if_answered : (b : Bool) (x y : attempts.Served) → (if b then Some x else None) ≡ Some y → x ≡ y
if_answered true x y h = same_Some x y h
if_answered false x y h = absurd (none-some y h)

pub filled_is : (res : ℕ) (t : TankOf) (w : WaitingAmount) (x : attempts.Served) → attempt_fill res t w ≡ Some x
    → record { value = pos 0; deed = Filled res w.amount } ≡ x
filled_is res t w x h = if_answered (int_le (t.level +ℤ w.amount) t.capacity) (record { value = pos 0; deed = Filled res w.amount }) x h

pub drained_is : (res : ℕ) (t : TankOf) (w : WaitingAmount) (x : attempts.Served) → attempt_drain res t w ≡ Some x
    → record { value = pos 0; deed = Drained res w.amount } ≡ x
drained_is res t w x h = if_answered (int_le w.amount t.level) (record { value = pos 0; deed = Drained res w.amount }) x h

-- it is nothing to any other resource
pub filled_stays : (res n : ℕ) (amount : ℤ) (ledger : List Deed) → n ≢ res → StaysAt n (Filled res amount) ledger
filled_stays res n amount ledger other = record {
  users_stay = users_step n (Filled res amount) ledger ∙ (append-nil (filter (λ u. true) (users n ledger)) ∙ all_stay (users n ledger));
  items_stay = items_step n (Filled res amount) ledger ∙ (append-nil (filter (λ x. true) (items n ledger)) ∙ all_stay (items n ledger));
  level_stays = ap (λ b. if b then amount else pos 0) (ne_eqb res n (λ same. other (sym same)));
}

pub drained_stays : (res n : ℕ) (amount : ℤ) (ledger : List Deed) → n ≢ res → StaysAt n (Drained res amount) ledger
drained_stays res n amount ledger other = record {
  users_stay = users_step n (Drained res amount) ledger ∙ (append-nil (filter (λ u. true) (users n ledger)) ∙ all_stay (users n ledger));
  items_stay = items_step n (Drained res amount) ledger ∙ (append-nil (filter (λ x. true) (items n ledger)) ∙ all_stay (items n ledger));
  level_stays = ap (λ b. if b then pos 0 -ℤ amount else pos 0) (ne_eqb res n (λ same. other (sym same)));
}

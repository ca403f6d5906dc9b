-- A put or get at a store that is tried, in its place among the resources (SimPy's Store).
use Rattle.std.proofs.Common.{◌≡◌, ℕ, ℤ, pos, Bool, false, List, [], ◌∷◌, length, refl, sym, ap, ◌∙◌, Option, Some, None, map, if◌then◌else◌}
use Rattle.std.specs.Prelude.{int_lt}
use Rattle.std.proofs.lemmas.Option.{same_Some}
use Rattle.sim_types.specs.declared.setup.Resource.{Resource}
use Rattle.sim_types.specs.declared.setup.ResourceKind.{ResourceKind}
use Rattle.sim_machine.specs.State.{Waiter, Item, Deposited, Taken, Facilities}
use Rattle.sim_machine.specs.Users.{resource_at, items, item_for, put_queue, get_queue}
use Rattle.sim_machine.specs.Attempts.{is_container, fill, drain, deposit, hand_out}
use Rattle.sim_machine.specs.Attempts as attempts
use Rattle.sim_machine.specs.Trying.{level, serve_if_any, attempt}
use Rattle.sim_shared_model.specs.declared.stock.ShelfKind.{ShelfKind}
use Rattle.sim_shared_model.specs.declared.stock.ShelfKind.TheVariants as kind
use Rattle.sim_shared_model.specs.declared.stock.WaitingPut.{WaitingPut}
use Rattle.sim_shared_model.specs.declared.stock.WaitingGet.{WaitingGet}
use Rattle.sim_shared_model.specs.Shelves.{ShelfOf, store_of, store_kind, brought_by, given_to, attempt_deposit, attempt_hand_out}
use Rattle.sim_shared_model.specs.Resources.{without_opening}
use Rattle.sim_shared_model.specs.ShowsAll.{put_waiting, get_waiting, ShowsShelf}
use Rattle.sim_shared_law.proofs.Stocks.AlikeQueues.{AreAlike, AnswersAs}
use Rattle.sim_shared_law.proofs.Stocks.TriedTanks.{same_first, same_rest, none_first, if_answered}

-- ---- who waits

-- a waiter is the one that this says
abbrev pub Is : {W : Type 0} → (W → Waiter) → W → Waiter → Type 0
Is to w v = v ≡ to w

alike_mapped : {W : Type 0} (to : W → Waiter) (ws : List W) (vs : List Waiter) → map to ws ≡ vs → AreAlike (Is to) ws vs
alike_mapped to [] [] same = tt
alike_mapped to [] (v ∷ vs) same = absurd (none_first v vs same)
alike_mapped to (w ∷ ws) [] same = absurd (none_first (to w) (map to ws) (sym same))
alike_mapped to (w ∷ ws) (v ∷ vs) same =
    (sym (same_first (to w) v (map to ws) vs same), alike_mapped to ws vs (same_rest (to w) v (map to ws) vs same))

pub shelf_puts_alike : (rs : List Resource) (res : ℕ) (s : ShelfOf) (f : Facilities) → ShowsShelf rs res s f
    → AreAlike (Is (put_waiting res)) s.puts (put_queue rs res f.waiters)
shelf_puts_alike rs res s f h = alike_mapped (put_waiting res) s.puts (put_queue rs res f.waiters) h.puts

pub shelf_gets_alike : (rs : List Resource) (res : ℕ) (s : ShelfOf) (f : Facilities) → ShowsShelf rs res s f
    → AreAlike (Is (get_waiting res)) s.gets (get_queue res f.waiters)
shelf_gets_alike rs res s f h = alike_mapped (get_waiting res) s.gets (get_queue res f.waiters) h.gets

-- ---- what the machine's attempt answers

no_container : (k : ShelfKind) → is_container (store_kind k) ≡ false
no_container kind.Fifo = refl
no_container kind.Priority = refl
no_container kind.Filter = refl

-- a waiter that is the one may be put in its place
answers_for : {W : Type 0} (rs : List Resource) (to : W → Waiter) (answer : W → Option attempts.Served) (f : Facilities)
    → ((w : W) → attempt rs (to w) f ≡ serve_if_any (to w) (answer w) f) → AnswersAs rs (Is to) answer f
answers_for rs to answer f each w v is = ap (λ u. attempt rs u f) is ∙ each w ∙ ap (λ u. serve_if_any u (answer w) f) (sym is)

pub deposit_answers : (rs : List Resource) (res : ℕ) (s : ShelfOf) (f : Facilities) → store_of s ≡ without_opening (resource_at rs res)
    → ShowsShelf rs res s f → AnswersAs rs (Is (put_waiting res)) (attempt_deposit res s) f
deposit_answers rs res s f same h =
    let store : is_container (resource_at rs res).kind ≡ false = sym (ap (λ (x : Resource). is_container x.kind) same) ∙ no_container s.kind in
    let capacity : (resource_at rs res).capacity ≡ pos s.capacity = sym (ap (λ (x : Resource). x.capacity) same) in
    answers_for rs (put_waiting res) (attempt_deposit res s) f (λ w.
    let u : Waiter = put_waiting res w in
    let put : ℤ → List Item → Option attempts.Served = λ c xs. if int_lt (pos (length xs)) c then Some (record { value = pos 0; deed = Deposited res (brought_by w) }) else None in
    ap (λ b. serve_if_any u (if b then fill (resource_at rs res) res (level rs res f) w.value else deposit (resource_at rs res) res (items res f.ledger) (brought_by w)) f) store
    ∙ ap (λ c. serve_if_any u (put c (items res f.ledger)) f) capacity ∙ ap (λ xs. serve_if_any u (put (pos s.capacity) xs) f) (sym h.items))

pub hand_out_answers : (rs : List Resource) (res : ℕ) (s : ShelfOf) (f : Facilities) → store_of s ≡ without_opening (resource_at rs res)
    → ShowsShelf rs res s f → AnswersAs rs (Is (get_waiting res)) (attempt_hand_out res s) f
hand_out_answers rs res s f same h =
    let is_kind : (resource_at rs res).kind ≡ store_kind s.kind = sym (ap (λ (x : Resource). x.kind) same) in
    answers_for rs (get_waiting res) (attempt_hand_out res s) f (λ w.
    let u : Waiter = get_waiting res w in
    let got : Bool → ResourceKind → List Item → Facilities = λ b k xs. serve_if_any u (if b then drain res (level rs res f) w.least else hand_out res (item_for k w.least w.greatest xs)) f in
    ap (λ k. got (is_container k) k (items res f.ledger)) is_kind ∙ ap (λ b. got b (store_kind s.kind) (items res f.ledger)) (no_container s.kind)
    ∙ ap (λ xs. got false (store_kind s.kind) xs) (sym h.items))

-- ---- what is done then

pub deposited_is : (res : ℕ) (s : ShelfOf) (w : WaitingPut) (x : attempts.Served) → attempt_deposit res s w ≡ Some x
    → record { value = pos 0; deed = Deposited res (brought_by w) } ≡ x
deposited_is res s w x h =
    if_answered (int_lt (pos (length s.items)) (pos s.capacity)) (record { value = pos 0; deed = Deposited res (brought_by w) }) x h

pub handed_is : (res : ℕ) (s : ShelfOf) (w : WaitingGet) (item : Item) (x : attempts.Served) → given_to s.kind s.items w ≡ Some item
    → attempt_hand_out res s w ≡ Some x → record { value = item.value; deed = Taken res item.put } ≡ x
handed_is res s w item x given h =
    same_Some (record { value = item.value; deed = Taken res item.put }) x (sym (ap (hand_out res) given) ∙ h)

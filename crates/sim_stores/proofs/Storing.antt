-- What holds of every store, as waiters join and leave and items come and go.
use Rattle.std.proofs.Common.{◌≡◌, ℕ, ◌<◌, ◌≤◌, pos, true, false, Some, None, if◌then◌else◌, List, [], ◌∷◌, ◌++◌, length, map, sym, ap, subst, arith}
use Rattle.std.specs.Prelude.{int_lt}
use Rattle.std.proofs.lemmas.Bool.Decides.{nat_tests}
use Rattle.std.proofs.lemmas.Int.{ints}
use Rattle.std.proofs.lemmas.List.{length_push, length-append}
use Rattle.sim_types.specs.declared.event.EventId.{EventId}
use Rattle.sim_machine.specs.State.{Item, Deposited}
use Rattle.sim_machine.specs.Attempts as attempts
use Rattle.sim_machine.specs.Trying.{put_reach}
use Rattle.sim_shared_model.specs.declared.stock.WaitingPut.{WaitingPut}
use Rattle.sim_shared_model.specs.declared.stock.WaitingGet.{WaitingGet}
use Rattle.sim_shared_model.specs.declared.stock.ShelfKind.{ShelfKind}
use Rattle.sim_shared_model.specs.StoreQueues.{stands_among, AllDiffer, besides}
use Rattle.sim_shared_model.specs.Shelves.{Leaves, ShelfOf, store_kind, brought_by, attempt_deposit, Deposits}
use Rattle.sim_shared_model.proofs.Apart.{differ_first, differ_second, differ_without, differ_served}
use Rattle.sim_stores.proofs.Leaving.{differ_besides}
use Rattle.sim_stores.proofs.Serving.{serves_first}
use Rattle.sim_stores.specs.Sound.{IsSoundShelf}

abbrev put_event : WaitingPut → EventId
put_event w = w.event

abbrev get_event : WaitingGet → EventId
get_event w = w.event

module _ (capacity : ℕ) (items : List Item) (puts : List WaitingPut) (gets : List WaitingGet) (h : IsSoundShelf capacity items puts gets) where
  -- a put waits behind the others
  pub sound_join_put : (w : WaitingPut) → stands_among w.event (map put_event puts ++ map get_event gets) ≡ false
      → IsSoundShelf capacity items (puts ++ w ∷ []) gets
  sound_join_put w new = record { few = h.few; differ = differ_first put_event get_event puts gets w new h.differ }

  -- a get waits behind the others
  pub sound_join_get : (w : WaitingGet) → stands_among w.event (map put_event puts ++ map get_event gets) ≡ false
      → IsSoundShelf capacity items puts (gets ++ w ∷ [])
  sound_join_get w new = record { few = h.few; differ = differ_second put_event get_event puts gets w new h.differ }

  -- those of an event leave
  pub sound_cancel : (e : EventId) → IsSoundShelf capacity items (besides put_event e puts) (besides get_event e gets)
  sound_cancel e = record { few = h.few; differ = differ_besides put_event get_event e puts gets h.differ }

  -- the first put is served, and its item is one more
  pub sound_deposit : (w : WaitingPut) (left : List WaitingPut) (more : List Item) (x : Item) → puts ≡ w ∷ left → more ≡ items ++ x ∷ []
      → length items < capacity
      → IsSoundShelf capacity more left gets
  sound_deposit w left more x stood put room =
      record {
        few = omega (arith, ap length put, length_push items x, room);
        differ = differ_without [] w.event (map put_event left ++ map get_event gets) (subst (λ ws. AllDiffer (map put_event ws ++ map get_event gets)) stood h.differ);
      }

  -- a get is served, and one item less is there
  pub sound_hand_out : (passed : List WaitingGet) (w : WaitingGet) (behind left : List WaitingGet) (x : Item) (rest : List Item) → gets ≡ passed ++ w ∷ behind
      → left ≡ passed ++ behind → Leaves x items rest → IsSoundShelf capacity rest puts left
  sound_hand_out passed w behind left x rest stood stay leaves =
      record {
        few = omega (arith, ap length leaves.stood, ap length leaves.stay, length-append leaves.before (x ∷ leaves.behind), length-append leaves.before leaves.behind, h.few);
        differ = subst (λ ws. AllDiffer (map put_event puts ++ map get_event ws)) (sym stay) (differ_served put_event get_event puts gets passed w behind stood h.differ);
      }

-- ---- tries

lesser : (m n : ℕ) → m < n → int_lt (pos m) (pos n) ≡ true
lesser m n h = grind (arith, ints, nat_tests)

-- the first put is served
pub deposits : (res : ℕ) (s : ShelfOf) (k : ShelfKind) (w : WaitingPut) (left : List WaitingPut) (items : List Item) (spare : ℕ)
    → k ≡ s.kind → s.puts ≡ w ∷ left → items ≡ s.items ++ brought_by w ∷ []
    → length s.items < s.capacity → s.spare_puts ≤ spare
    → Deposits res s (record { event = w.event; value = pos 0 }) (record s { kind = k; puts = left; items = items; spare_puts = spare })
unfolding serves_first
deposits res s k w left items spare same stood put room never_less =
    let deed : attempts.Served = record { value = pos 0; deed = Deposited res (brought_by w) } in
    let served : attempt_deposit res s w ≡ Some deed = ap (λ b. if b then Some deed else None) (lesser (length s.items) s.capacity room) in
    record {
      one = serves_first (put_reach (store_kind s.kind)) (attempt_deposit res s) put_event s.puts left w deed stood served;
      items = put;
      rest = ap (λ l. let x : ShelfOf = record s { kind = l; puts = left; items = items; spare_puts = spare } in x) same;
      room = never_less;
    }

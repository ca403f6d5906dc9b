-- Amounts that wait at a container, are filled in or drained.
use Rattle.std.proofs.Common.{◌≡◌, ◌==◌, ℕ, ◌+◌, ℤ, pos, ◌+ℤ◌, ◌-ℤ◌, ◌≤ℤ◌, ◌<ℤ◌, w64, FitsSigned, to_z, of_z, not, true, false, List, [], ◌∷◌, ◌++◌, map, Some, None, sym, ap, subst, ◌∙◌, arith, All, if◌then◌else◌}
use Rattle.std.specs.Prelude.{int_le}
use Rattle.std.proofs.lemmas.Bool.Decides.{nat_tests}
use Rattle.std.proofs.lemmas.Int.{ints, to_z-of_z}
use Rattle.std.proofs.lemmas.List.Elements.{All-cons, All-nil, All-head, All-tail, All-append, All-filter}
use Rattle.sim_types.specs.declared.event.EventId.{EventId}
use Rattle.sim_types.specs.Limits.{most_level}
use Rattle.sim_machine.specs.State.{Filled, Drained}
use Rattle.sim_machine.specs.Events.{is_same}
use Rattle.sim_machine.specs.Attempts.{fill, drain}
use Rattle.sim_machine.specs.Attempts as attempts
use Rattle.sim_machine.specs.Trying.{WhileServed}
use Rattle.sim_shared_model.specs.declared.stock.WaitingAmount.{WaitingAmount}
use Rattle.sim_shared_model.specs.StoreQueues.{stands_among, AllDiffer, besides}
use Rattle.sim_stores.specs.Queues.{PopsWithin}
use Rattle.sim_shared_model.specs.Tanks.{TankOf, attempt_fill, attempt_drain, Fills, Drains}
use Rattle.sim_shared_model.proofs.Apart.{differ_first, differ_second, differ_without}
use Rattle.sim_stores.proofs.Leaving.{differ_besides}
use Rattle.sim_stores.proofs.Serving.{serves_first}
use Rattle.sim_stores.specs.Sound.{IsSoundTank}

abbrev event : WaitingAmount → EventId
event w = w.event

-- ---- sums

pub sum_kept : (a b : ℤ) → FitsSigned w64 a → FitsSigned w64 b → FitsSigned w64 (a +ℤ b) →
    to_z w64 (of_z w64 (to_z w64 (of_z w64 a) +ℤ to_z w64 (of_z w64 b))) ≡ a +ℤ b
sum_kept a b p q r = rw (to_z-of_z w64 a p, to_z-of_z w64 b q) (to_z-of_z w64 (a +ℤ b) r)

pub difference_kept : (a b : ℤ) → FitsSigned w64 a → FitsSigned w64 b → FitsSigned w64 (a -ℤ b) →
    to_z w64 (of_z w64 (to_z w64 (of_z w64 a) -ℤ to_z w64 (of_z w64 b))) ≡ a -ℤ b
difference_kept a b p q r = rw (to_z-of_z w64 a p, to_z-of_z w64 b q) (to_z-of_z w64 (a -ℤ b) r)

fits_le : (a b : ℤ) → a ≤ℤ b → int_le a b ≡ true
fits_le a b h = grind (arith, ints, nat_tests)

here : (res : ℕ) (a : ℤ) → (if res == res then a else pos 0) ≡ a
here res a = grind (arith, nat_tests)

-- a level and an amount
raised : (l a : ℤ) → pos 0 ≤ℤ l → pos 0 <ℤ a → pos 0 ≤ℤ (l +ℤ a)
raised l a p q = grind (arith, ints)

within : (c l a : ℤ) → a ≤ℤ (c -ℤ l) → (l +ℤ a) ≤ℤ c
within c l a p = grind (arith, ints)

lowered : (l a : ℤ) → a ≤ℤ l → pos 0 ≤ℤ (l -ℤ a)
lowered l a p = grind (arith, ints)

below : (c l a : ℤ) → l ≤ℤ c → pos 0 <ℤ a → (l -ℤ a) ≤ℤ c
below c l a p q = grind (arith, ints)

negated : (l a : ℤ) → (l -ℤ a) ≡ l +ℤ (pos 0 -ℤ a)
negated l a = grind (arith, ints)

level_fits : (c z : ℤ) → pos 0 ≤ℤ z → z ≤ℤ c → c ≤ℤ most_level → FitsSigned w64 z
level_fits c z p q r = grind (arith, ints)

difference_fits : (c l : ℤ) → pos 0 ≤ℤ l → l ≤ℤ c → c ≤ℤ most_level → FitsSigned w64 (c -ℤ l)
difference_fits c l p q r = grind (arith, ints)

-- ---- what holds of every container

-- its level is a number of 64 bits
pub sound_fits : (capacity level : ℤ) (puts gets : List WaitingAmount) → IsSoundTank capacity level puts gets → FitsSigned w64 level
sound_fits capacity level puts gets h = level_fits capacity level h.low h.high h.most

-- and so is what is free
pub free_fits : (capacity level : ℤ) (puts gets : List WaitingAmount) → IsSoundTank capacity level puts gets → FitsSigned w64 (capacity -ℤ level)
free_fits capacity level puts gets h = difference_fits capacity level h.low h.high h.most

-- a put waits behind the others
pub sound_put : (capacity level : ℤ) (puts gets : List WaitingAmount) (w : WaitingAmount) → IsSoundTank capacity level puts gets → pos 0 <ℤ w.amount
    → stands_among w.event (map event puts ++ map event gets) ≡ false → IsSoundTank capacity level (puts ++ w ∷ []) gets
sound_put capacity level puts gets w h some new =
    record {
      low = h.low;
      high = h.high;
      most = h.most;
      put = All-append (λ v. pos 0 <ℤ v.amount) puts (w ∷ []) h.put (All-cons (λ v. pos 0 <ℤ v.amount) w [] some (All-nil (λ v. pos 0 <ℤ v.amount)));
      got = h.got;
      differ = differ_first event event puts gets w new h.differ;
    }

-- a get waits behind the others
pub sound_get : (capacity level : ℤ) (puts gets : List WaitingAmount) (w : WaitingAmount) → IsSoundTank capacity level puts gets → pos 0 <ℤ w.amount
    → stands_among w.event (map event puts ++ map event gets) ≡ false → IsSoundTank capacity level puts (gets ++ w ∷ [])
sound_get capacity level puts gets w h some new =
    record {
      low = h.low;
      high = h.high;
      most = h.most;
      put = h.put;
      got = All-append (λ v. pos 0 <ℤ v.amount) gets (w ∷ []) h.got (All-cons (λ v. pos 0 <ℤ v.amount) w [] some (All-nil (λ v. pos 0 <ℤ v.amount)));
      differ = differ_second event event puts gets w new h.differ;
    }

-- those of an event leave
pub sound_besides : (capacity level : ℤ) (puts gets : List WaitingAmount) (e : EventId) → IsSoundTank capacity level puts gets
    → IsSoundTank capacity level (besides event e puts) (besides event e gets)
sound_besides capacity level puts gets e h =
    record {
      low = h.low;
      high = h.high;
      most = h.most;
      put = All-filter (λ v. not (is_same v.event e)) (λ v. pos 0 <ℤ v.amount) puts h.put;
      got = All-filter (λ v. not (is_same v.event e)) (λ v. pos 0 <ℤ v.amount) gets h.got;
      differ = differ_besides event event e puts gets h.differ;
    }

-- the first put is filled in
pub sound_filled : (capacity level most sum : ℤ) (puts gets left : List WaitingAmount) (w : WaitingAmount) → IsSoundTank capacity level puts gets
    → most ≡ capacity -ℤ level → sum ≡ level +ℤ w.amount → PopsWithin most puts w left → IsSoundTank capacity sum left gets
sound_filled capacity level most sum puts gets left w h free is pops =
    let all : All (λ v. pos 0 <ℤ v.amount) (w ∷ left) = subst (All (λ v. pos 0 <ℤ v.amount)) pops.stood h.put in
    let some : pos 0 <ℤ w.amount = All-head (λ v. pos 0 <ℤ v.amount) w left all in
    let fits : w.amount ≤ℤ (capacity -ℤ level) = subst (λ m. w.amount ≤ℤ m) free pops.fits in
    record {
      low = subst (λ l. pos 0 ≤ℤ l) (sym is) (raised level w.amount h.low some);
      high = subst (λ l. l ≤ℤ capacity) (sym is) (within capacity level w.amount fits);
      most = h.most;
      put = All-tail (λ v. pos 0 <ℤ v.amount) w left all;
      got = h.got;
      differ = differ_without [] w.event (map event left ++ map event gets) (subst (λ ws. AllDiffer (map event ws ++ map event gets)) pops.stood h.differ);
    }

-- the first get is drained
pub sound_drained : (capacity level most rest : ℤ) (puts gets left : List WaitingAmount) (w : WaitingAmount) → IsSoundTank capacity level puts gets
    → most ≡ level → rest ≡ level -ℤ w.amount → PopsWithin most gets w left → IsSoundTank capacity rest puts left
sound_drained capacity level most rest puts gets left w h free is pops =
    let all : All (λ v. pos 0 <ℤ v.amount) (w ∷ left) = subst (All (λ v. pos 0 <ℤ v.amount)) pops.stood h.got in
    let some : pos 0 <ℤ w.amount = All-head (λ v. pos 0 <ℤ v.amount) w left all in
    record {
      low = subst (λ l. pos 0 ≤ℤ l) (sym is) (lowered level w.amount (subst (λ m. w.amount ≤ℤ m) free pops.fits));
      high = subst (λ l. l ≤ℤ capacity) (sym is) (below capacity level w.amount h.high some);
      most = h.most;
      put = h.put;
      got = All-tail (λ v. pos 0 <ℤ v.amount) w left all;
      differ = differ_without (map event puts) w.event (map event left) (subst (λ ws. AllDiffer (map event puts ++ map event ws)) pops.stood h.differ);
    }

-- ---- tries

pub fills : (res : ℕ) (t : TankOf) (w : WaitingAmount) (left : List WaitingAmount) (most sum : ℤ) (spare : ℕ) → most ≡ t.capacity -ℤ t.level
    → sum ≡ t.level +ℤ w.amount
    → spare ≡ t.spare_puts + 1 → PopsWithin most t.puts w left
    → Fills res t (record { event = w.event; value = pos 0 }) (record t { puts = left; level = sum; spare_puts = spare })
unfolding serves_first
fills res t w left most sum spare free is more pops =
    let fits : (t.level +ℤ w.amount) ≤ℤ t.capacity = within t.capacity t.level w.amount (subst (λ m. w.amount ≤ℤ m) free pops.fits) in
    let deed : attempts.Served = record { value = pos 0; deed = Filled res w.amount } in
    let served : attempt_fill res t w ≡ Some deed = ap (λ b. if b then Some deed else None) (fits_le (t.level +ℤ w.amount) t.capacity fits) in
    record {
      one = serves_first WhileServed (attempt_fill res t) event t.puts left w deed pops.stood served;
      level = is ∙ ap (λ a. t.level +ℤ a) (sym (here res w.amount));
      rest = ap (λ (n : ℕ). let x : TankOf = record t { puts = left; level = sum; spare_puts = n } in x) more;
    }

pub drains : (res : ℕ) (t : TankOf) (w : WaitingAmount) (left : List WaitingAmount) (most rest : ℤ) (spare : ℕ) → most ≡ t.level → rest ≡ t.level -ℤ w.amount
    → spare ≡ t.spare_gets + 1 → PopsWithin most t.gets w left
    → Drains res t (record { event = w.event; value = pos 0 }) (record t { gets = left; level = rest; spare_gets = spare })
unfolding serves_first
drains res t w left most rest spare free is more pops =
    let deed : attempts.Served = record { value = pos 0; deed = Drained res w.amount } in
    let served : attempt_drain res t w ≡ Some deed = ap (λ b. if b then Some deed else None) (fits_le w.amount t.level (subst (λ m. w.amount ≤ℤ m) free pops.fits)) in
    record {
      one = serves_first WhileServed (attempt_drain res t) event t.gets left w deed pops.stood served;
      level = is ∙ (negated t.level w.amount ∙ ap (λ a. t.level +ℤ a) (sym (here res (pos 0 -ℤ w.amount))));
      rest = ap (λ (n : ℕ). let x : TankOf = record t { gets = left; level = rest; spare_gets = n } in x) more;
    }

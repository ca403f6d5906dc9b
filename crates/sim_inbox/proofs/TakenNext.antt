-- One entry more, as a taker's caller sees it.
use Rattle.std.proofs.Common.{◌≡◌, ◌≢◌, ℕ, ◌<◌, [], ◌∷◌, ◌++◌, length, Option, Some, None, sym, refl, ap, ◌∙◌, subst}
use Rattle.std.specs.Prelude.{MatchOption, IfSome}
use Rattle.sim_inbox.specs.Closing.{IsNextTaken}
use Rattle.sim_inbox.specs.Delivery as say
use Rattle.sim_inbox.specs.Delivery.{taken_of, wholes_of}
use Rattle.sim_inbox.specs.Lists.{IsTaken, items_by}
use Rattle.sim_inbox.specs.QueueEnds.{QueueTakerOf, inbox_of, taken_from, taker_of}
use Rattle.sim_inbox.specs.declared.taken.Taken.{Taken}
use Rattle.sim_inbox.specs.declared.rule.View.{View}
use Rattle.sim_inbox.proofs.Lists.{items_own, items_other}

popped_next : (v w : View) (z z' : ℕ × ℕ) (t : Taken) → z' ≡ z → say.Pops v t w → IsNextTaken (taker_of z v) (taker_of z' w) t
popped_next v w z z' t same h =
    record { is = λ k. record { inbox = inbox_of (same k); taken = taken_of (h.is k); wholes = wholes_of (h.is k) }; own = h.own; serial = h.serial; more = h.more }

-- a pop's entry is the next
pub taken_next : (old : QueueTakerOf) (z z' : ℕ × ℕ) (v w : View) (r : Option Taken) (X : Type 0) → taker_of z v ≡ old → z' ≡ z
    → MatchOption r X (λ t. say.Pops v t w)
    → IfSome r (IsNextTaken old (taker_of z' w))
taken_next old z z' v w None X is same h = tt
taken_next old z z' v w (Some t) X is same h = subst (λ (o : QueueTakerOf). IsNextTaken o (taker_of z' w) t) is (popped_next v w z z' t same h)

-- what the next entry adds to what was taken of each poster
pub next_own : (before after : QueueTakerOf) (t : Taken) (p : ℕ) → IsNextTaken before after t → t.poster ≡ p
    → taken_from after p ≡ taken_from before p ++ t.item ∷ []
next_own before after t p h e = ap (λ (a : QueueTakerOf). items_by p a.taken) h.is ∙ items_own p before.taken t e

pub next_other : (before after : QueueTakerOf) (t : Taken) (p : ℕ) → IsNextTaken before after t → t.poster ≢ p → taken_from after p ≡ taken_from before p
next_other before after t p h ne = ap (λ (a : QueueTakerOf). items_by p a.taken) h.is ∙ items_other p before.taken t ne

pub is_taken : (before after : QueueTakerOf) (r : Option Taken) → IfSome r (IsNextTaken before after)
    → IfSome r (λ t. (t.poster < length before.wholes) × IsTaken (taken_from before) (taken_from after) t)
is_taken before after None h = tt
is_taken before after (Some t) h = (
  h.own,
  record {
    own = next_own before after t t.poster h refl;
    serial = h.serial;
    others = λ p ne. next_other before after t p h (λ e. ne (sym e));
  },
)

-- A chain is empty, stays as its nodes stay, or passes from one owner to another.
use Rattle.std.proofs.Common.{◌≡◌, ◌≢◌, ℕ, zero, suc, ◌∷◌, Option, cond, eqb, refl, sym, ap, ◌∙◌}
use Rattle.std.proofs.lemmas.Bool.{eq-eqb, ne_eqb}
use Rattle.slab.specs.Slab.{Slab, get}
use Rattle.sim_callbacks.specs.declared.chain.Node.{Node}
use Rattle.sim_callbacks.specs.declared.chain.Chain.{Chain}
use Rattle.sim_callbacks.specs.Chains.{node_or_blank, node_at, callbacks_from, first_key, Owners, AreLinked, IsLinked, IsEmpty}
use Rattle.sim_callbacks.specs.Keeping.{KeepsAll, PassedOn, MayBePassedOn}

pub empty_chain : (chain : Chain) → chain.count ≡ 0 → IsEmpty chain
empty_chain chain none = record { none = λ nodes. rw none refl; anyones = λ nodes w o. record { links = rw none tt } }

-- the same nodes, with more room or not
pub keeps_all : (old new : Slab Node) → new ≡ record old { capacity = new.capacity } → KeepsAll old new
keeps_all old new same = record {
  linked = λ w o c l. record { links = rw (first c) (links w o c.count 0 (first_key old c) c.last l.links) };
  same = λ c. ap (λ k. callbacks_from new c.count k) (first c) ∙ callbacks c.count (first_key old c);
}
  where
    node : (k : ℕ) → get new k ≡ get old k
    node k = ap (λ s. get s k) same

    first : (c : Chain) → first_key new c ≡ first_key old c
    first c = ap (λ (s : Option Node). (node_or_blank s).next) (node c.last)

    links : (w : Owners) (o n low at last : ℕ) → AreLinked old w.owner w.rank o low n at last → AreLinked new w.owner w.rank o low n at last
    links w o zero low at last l = tt
    links w o (suc n) low at last l = (record { there = rw (node at) l.0.there; mine = l.0.mine; after = l.0.after; ends = l.0.ends }, rw (node at) (links w o n (suc (w.rank at)) (node_at old at).next last l.1))

    callbacks : (n at : ℕ) → callbacks_from new n at ≡ callbacks_from old n at
    callbacks zero at = refl
    callbacks (suc n) at = rw (node at) (ap (λ cs. (node_at old at).callback ∷ cs) (callbacks n (node_at old at).next))

-- a chain is handed from one owner to another
handed : (nodes : Slab Node) (owner rank owner' : ℕ → ℕ) (o o' : ℕ) → ((k : ℕ) → owner k ≡ o → owner' k ≡ o') → (n low at last : ℕ)
    → AreLinked nodes owner rank o low n at last → AreLinked nodes owner' rank o' low n at last
handed nodes owner rank owner' o o' hands zero low at last l = tt
handed nodes owner rank owner' o o' hands (suc n) low at last l = (record { there = l.0.there; mine = hands at l.0.mine; after = l.0.after; ends = l.0.ends }, handed nodes owner rank owner' o o' hands n (suc (rank at)) (node_at nodes at).next last l.1)

module _ (w : Owners) (o p : ℕ) where
  passed : ℕ → ℕ
  passed k = cond (eqb (w.owner k) o) p (w.owner k)

  passed_other : (q k : ℕ) → q ≢ o → w.owner k ≡ q → passed k ≡ q
  unfolding passed
  passed_other q k apart is = rw (ne_eqb (w.owner k) o (λ s. apart (sym is ∙ s))) is

  passed_own : (k : ℕ) → w.owner k ≡ o → passed k ≡ p
  unfolding passed
  passed_own k is = rw (eq-eqb (w.owner k) o is) refl

  pub passed_on : (nodes : Slab Node) (chain : Chain) → IsLinked nodes w o chain → PassedOn nodes w o p chain
  passed_on nodes chain l = record {
    owners = record { owner = passed; rank = w.rank };
    here = record {
      links = handed nodes w.owner w.rank passed o p (λ k m. passed_own k m) chain.count 0 (first_key nodes chain) chain.last l.links;
    };
    others = λ q c apart h. record {
      links = handed nodes w.owner w.rank passed q q (λ k m. passed_other q k apart m) c.count 0 (first_key nodes c) c.last h.links;
    };
  }

pub may_be_passed_on : (chain : Chain) → MayBePassedOn chain
may_be_passed_on chain = λ nodes w o p l. passed_on w o p nodes chain l

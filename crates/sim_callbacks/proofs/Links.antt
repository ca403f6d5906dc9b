-- Chains of nodes in a slab, as nodes are added, changed and taken out.
use Rattle.std.proofs.Common.{◌≡◌, ◌≢◌, ℕ, zero, suc, ◌+◌, ◌<◌, ◌≤◌, Bool, true, false, List, [], ◌∷◌, ◌++◌, length, get_or, set, Some, None, is_some, IsSome, cond, refl, sym, ap, ◌∙◌, arith, count_by, ◌||◌}
use Rattle.std.specs.List.{list_any}
use Rattle.std.proofs.lemmas.List.{get_or-set_other}
use Rattle.std.proofs.lemmas.List.Sums.{sum_by-set}
use Rattle.slab.specs.Slab.{Slab, get, slab_len}
use Rattle.slab.proofs.SlabLemmas.{ContainsKey-within}
use Rattle.sim_types.specs.declared.event.Callback.{Callback}
use Rattle.sim_machine.specs.Events.{without_first}
use Rattle.sim_callbacks.specs.declared.chain.Node.{Node}
use Rattle.sim_callbacks.specs.Chains.{node_at, callbacks_from, key_at, AreLinked}
use Rattle.sim_callbacks.specs.Places.{without_at}

pub weaken : (nodes : Slab Node) (owner rank : ℕ → ℕ) (o low low' n at last : ℕ) → low' ≤ low → AreLinked nodes owner rank o low n at last
    → AreLinked nodes owner rank o low' n at last
weaken nodes owner rank o low low' zero at last h l = tt
weaken nodes owner rank o low low' (suc n) at last h l = (record { there = l.0.there; mine = l.0.mine; after = omega (arith, l.0.after); ends = l.0.ends }, l.1)

-- a node stays as it is, with its owner and rank
pub record Stays (old new : Slab Node) (rank owner' rank' : ℕ → ℕ) (o k : ℕ) : Type 0 where
  pub same : get new k ≡ get old k
  pub mine : owner' k ≡ o
  pub after : rank' k ≡ rank k

module _ (old new : Slab Node) (owner rank owner' rank' : ℕ → ℕ) (o : ℕ) where
  -- where the nodes of a chain stay, it stays
  pub other : (n low at last : ℕ) → ((k : ℕ) → owner k ≡ o → low ≤ rank k → IsSome (get old k) → Stays old new rank owner' rank' o k)
      → AreLinked old owner rank o low n at last → AreLinked new owner' rank' o low n at last
  other zero low at last stays l = tt
  other (suc n) low at last stays l =
      let s = stays at l.0.mine l.0.after l.0.there in
      let rest : AreLinked new owner' rank' o (suc (rank at)) n (node_at old at).next last = other n (suc (rank at)) (node_at old at).next last (λ k m a t. stays k m (omega (arith, l.0.after)) t) l.1 in (
        record { there = rw s.same l.0.there; mine = s.mine; after = rw s.after l.0.after; ends = l.0.ends },
        rw (s.after, s.same) rest,
      )

  pub other_callbacks : (n low at last : ℕ) → ((k : ℕ) → owner k ≡ o → low ≤ rank k → IsSome (get old k) → Stays old new rank owner' rank' o k)
      → AreLinked old owner rank o low n at last → callbacks_from new n at ≡ callbacks_from old n at
  other_callbacks zero low at last stays l = refl
  other_callbacks (suc n) low at last stays l =
      let s = stays at l.0.mine l.0.after l.0.there in
      let rest : callbacks_from new n (node_at old at).next ≡ callbacks_from old n (node_at old at).next = other_callbacks n (suc (rank at)) (node_at old at).next last (λ k m a t. stays k m (omega (arith, l.0.after)) t) l.1 in
      rw s.same (ap (λ cs. (node_at old at).callback ∷ cs) rest)

module _ (nodes : Slab Node) (owner rank : ℕ → ℕ) (o : ℕ) where
  -- what is known of a node of a chain
  pub record IsMine (low k : ℕ) : Type 0 where
    pub there : IsSome (get nodes k)
    pub mine : owner k ≡ o
    pub after : low ≤ rank k

  pub mine_weaker : (low low' k : ℕ) → low' ≤ low → IsMine low k → IsMine low' k
  mine_weaker low low' k h m = record { there = m.there; mine = m.mine; after = omega (arith, m.after) }

  pub last_mine : (n low at last : ℕ) → AreLinked nodes owner rank o low (suc n) at last → IsMine low last
  last_mine zero low at last l = rw (sym (l.0.ends refl)) (record { there = l.0.there; mine = l.0.mine; after = l.0.after })
  last_mine (suc n) low at last l = mine_weaker (suc (rank at)) low last (omega (arith, l.0.after)) (last_mine n (suc (rank at)) (node_at nodes at).next last l.1)

  pub key_mine : (i n low at last : ℕ) → i < n → AreLinked nodes owner rank o low n at last → IsMine low (key_at nodes i at)
  key_mine i zero low at last h l = absurd (omega arith)
  key_mine zero (suc n) low at last h l = record { there = l.0.there; mine = l.0.mine; after = l.0.after }
  key_mine (suc i) (suc n) low at last h l = mine_weaker (suc (rank at)) low (key_at nodes i (node_at nodes at).next) (omega (arith, l.0.after)) (key_mine i n (suc (rank at)) (node_at nodes at).next last (omega arith) l.1)

  -- the key of the last node is the last one's
  pub last_key : (n low at last : ℕ) → AreLinked nodes owner rank o low (suc n) at last → key_at nodes n at ≡ last
  last_key zero low at last l = l.0.ends refl
  last_key (suc n) low at last l = last_key n (suc (rank at)) (node_at nodes at).next last l.1

-- ---- a chain as a ring: its first node is the one that its last node names

module _ (old new : Slab Node) (owner rank owner' rank' : ℕ → ℕ) (o : ℕ) where
  -- where the nodes of a chain stay, its last node names the same first
  pub ring_first : (n at last : ℕ) → ((k : ℕ) → owner k ≡ o → IsSome (get old k) → Stays old new rank owner' rank' o k)
      → AreLinked old owner rank o 0 (suc n) at last → (node_at new last).next ≡ (node_at old last).next
  ring_first n at last stays l =
      let final = last_mine old owner rank o n 0 at last l in
      let s = stays last final.mine final.there in
      rw s.same refl

  pub ring_links : (n last : ℕ) → ((k : ℕ) → owner k ≡ o → IsSome (get old k) → Stays old new rank owner' rank' o k)
      → AreLinked old owner rank o 0 n (node_at old last).next last → AreLinked new owner' rank' o 0 n (node_at new last).next last
  ring_links zero last stays l = tt
  ring_links (suc n) last stays l =
      let first = (node_at old last).next in
      let links : AreLinked new owner' rank' o 0 (suc n) first last =
      other old new owner rank owner' rank' o (suc n) 0 first last (λ k m a t. stays k m t) l in
      rw (ring_first n first last stays l) links

  pub ring_callbacks : (n last : ℕ) → ((k : ℕ) → owner k ≡ o → IsSome (get old k) → Stays old new rank owner' rank' o k)
      → AreLinked old owner rank o 0 n (node_at old last).next last
      → callbacks_from new n (node_at new last).next ≡ callbacks_from old n (node_at old last).next
  ring_callbacks zero last stays l = refl
  ring_callbacks (suc n) last stays l =
      let first = (node_at old last).next in
      let rest : callbacks_from new (suc n) first ≡ callbacks_from old (suc n) first =
      other_callbacks old new owner rank owner' rank' o (suc n) 0 first last (λ k m a t. stays k m t) l in
      rw (ring_first n first last stays l) rest

-- ---- how many nodes a chain has

taken : Slab Node → ℕ → Slab Node
taken nodes k = record nodes { slots = set nodes.slots k None }

taken_other : (nodes : Slab Node) (k other : ℕ) → other ≢ k → get (taken nodes k) other ≡ get nodes other
unfolding taken
taken_other nodes k other h = get_or-set_other nodes.slots k other None None h

taken_len : (nodes : Slab Node) (k : ℕ) → IsSome (get nodes k) → slab_len (taken nodes k) + 1 ≡ slab_len nodes
unfolding taken
taken_len nodes k there =
    let change : count_by is_some (set nodes.slots k None) + cond (is_some (get_or nodes.slots k None)) 1 0 ≡ count_by is_some nodes.slots + 0 = sum_by-set (λ s. cond (is_some s) 1 0) nodes.slots k None None (ContainsKey-within nodes k there) in
    omega (arith, rw there at change)

-- no chain has more nodes than the slab
pub links_fit : (owner rank : ℕ → ℕ) (o n : ℕ) (nodes : Slab Node) (low at last : ℕ) → AreLinked nodes owner rank o low n at last → n ≤ slab_len nodes
links_fit owner rank o zero nodes low at last l = omega arith
links_fit owner rank o (suc n) nodes low at last l =
    let rest : AreLinked (taken nodes at) owner rank o (suc (rank at)) n (node_at nodes at).next last = other nodes (taken nodes at) owner rank owner rank o n (suc (rank at)) (node_at nodes at).next last (λ k m a t. record { same = taken_other nodes at k (λ s. omega (arith, a, ap rank s)); mine = m; after = refl }) l.1 in
    omega (arith, links_fit owner rank o n (taken nodes at) (suc (rank at)) (node_at nodes at).next last rest, taken_len nodes at l.0.there)

-- ---- a node is appended

-- the last node names the new one, and the chain's other nodes stay
pub record Appends (old new : Slab Node) (owner rank owner' rank' : ℕ → ℕ) (o last key : ℕ) (c : Callback) : Type 0 where
  pub stays : (k : ℕ) → owner k ≡ o → k ≢ last → IsSome (get old k) → Stays old new rank owner' rank' o k
  pub linked : get new last ≡ Some (record (node_at old last) { next = key })
  pub last_mine : owner' last ≡ o
  pub last_after : rank' last ≡ rank last
  pub node : Node
  pub added : get new key ≡ Some node
  pub callback : node.callback ≡ c
  pub mine : owner' key ≡ o
  pub after : rank last < rank' key

module _ (old new : Slab Node) (owner rank owner' rank' : ℕ → ℕ) (o last key : ℕ) (c : Callback) where
  pub append_links : Appends old new owner rank owner' rank' o last key c → (n low at : ℕ) → AreLinked old owner rank o low (suc n) at last
      → AreLinked new owner' rank' o low (suc (suc n)) at key
  append_links a zero low at l =
      let here : at ≡ last = l.0.ends refl in
      let final : AreLinked new owner' rank' o (suc (rank last)) 1 key key = (record { there = rw a.added refl; mine = a.mine; after = omega (arith, a.after); ends = λ z. refl }, tt) in (
        record { there = rw (here, a.linked) refl; mine = rw here a.last_mine; after = rw here (rw a.last_after (rw here at l.0.after)); ends = λ z. absurd (omega arith) },
        rw (here, a.last_after, a.linked) final,
      )
  append_links a (suc n) low at l =
      let later = last_mine old owner rank o n (suc (rank at)) (node_at old at).next last l.1 in
      let s = a.stays at l.0.mine (λ e. omega (arith, later.after, ap rank e)) l.0.there in
      let rest : AreLinked new owner' rank' o (suc (rank at)) (suc (suc n)) (node_at old at).next key = append_links a n (suc (rank at)) (node_at old at).next l.1 in (
        record { there = rw s.same l.0.there; mine = s.mine; after = rw s.after l.0.after; ends = λ z. absurd (omega arith) },
        rw (s.after, s.same) rest,
      )

  pub append_from : Appends old new owner rank owner' rank' o last key c → (n low at : ℕ) → AreLinked old owner rank o low (suc n) at last
      → callbacks_from new (suc (suc n)) at ≡ callbacks_from old (suc n) at ++ c ∷ []
  append_from a zero low at l = rw (l.0.ends refl, a.linked, a.added, a.callback) refl
  append_from a (suc n) low at l =
      let later = last_mine old owner rank o n (suc (rank at)) (node_at old at).next last l.1 in
      let s = a.stays at l.0.mine (λ e. omega (arith, later.after, ap rank e)) l.0.there in
      let rest : callbacks_from new (suc (suc n)) (node_at old at).next ≡ callbacks_from old (suc n) (node_at old at).next ++ c ∷ [] = append_from a n (suc (rank at)) (node_at old at).next l.1 in
      rw s.same (ap (λ cs. (node_at old at).callback ∷ cs) rest)

-- ---- a node is taken out

module _ (old new : Slab Node) (owner rank : ℕ → ℕ) (o : ℕ) where
  -- the last node names another, and the chain's other nodes stay
  pub turn_links : (n low at last f : ℕ) → ((k : ℕ) → low ≤ rank k → k ≢ last → IsSome (get old k) → get new k ≡ get old k)
      → get new last ≡ Some (record (node_at old last) { next = f })
      → AreLinked old owner rank o low n at last → AreLinked new owner rank o low n at last
  turn_links zero low at last f stays turned l = tt
  turn_links (suc zero) low at last f stays turned l =
      (record { there = rw (l.0.ends refl, turned) refl; mine = l.0.mine; after = l.0.after; ends = l.0.ends }, tt)
  turn_links (suc (suc n)) low at last f stays turned l =
      let later = last_mine old owner rank o n (suc (rank at)) (node_at old at).next last l.1 in
      let same = stays at l.0.after (λ e. omega (arith, later.after, ap rank e)) l.0.there in
      let rest : AreLinked new owner rank o (suc (rank at)) (suc n) (node_at old at).next last =
      turn_links (suc n) (suc (rank at)) (node_at old at).next last f
      (λ k a differs t. stays k (omega (arith, a, l.0.after)) differs t) turned l.1 in
      (record { there = rw same l.0.there; mine = l.0.mine; after = l.0.after; ends = l.0.ends }, rw same rest)

  pub turn_from : (n low at last f : ℕ) → ((k : ℕ) → low ≤ rank k → k ≢ last → IsSome (get old k) → get new k ≡ get old k)
      → get new last ≡ Some (record (node_at old last) { next = f })
      → AreLinked old owner rank o low n at last → callbacks_from new n at ≡ callbacks_from old n at
  turn_from zero low at last f stays turned l = refl
  turn_from (suc zero) low at last f stays turned l = rw (l.0.ends refl, turned) refl
  turn_from (suc (suc n)) low at last f stays turned l =
      let later = last_mine old owner rank o n (suc (rank at)) (node_at old at).next last l.1 in
      let same = stays at l.0.after (λ e. omega (arith, later.after, ap rank e)) l.0.there in
      let rest : callbacks_from new (suc n) (node_at old at).next ≡ callbacks_from old (suc n) (node_at old at).next =
      turn_from (suc n) (suc (rank at)) (node_at old at).next last f
      (λ k a differs t. stays k (omega (arith, a, l.0.after)) differs t) turned l.1 in
      rw same (ap (λ cs. (node_at old at).callback ∷ cs) rest)

  -- the rest of a chain whose first node goes, and whose last node names another
  pub first_links : (n low at last f : ℕ) → ((k : ℕ) → k ≢ at → k ≢ last → IsSome (get old k) → get new k ≡ get old k)
      → get new last ≡ Some (record (node_at old last) { next = f })
      → AreLinked old owner rank o low (suc n) at last → AreLinked new owner rank o low n (node_at old at).next last
  first_links n low at last f stays turned l =
      weaken new owner rank o (suc (rank at)) low n (node_at old at).next last (omega (arith, l.0.after))
      (turn_links n (suc (rank at)) (node_at old at).next last f (λ k a differs t. stays k (λ s. omega (arith, a, ap rank s)) differs t) turned l.1)

  pub first_from : (n low at last f : ℕ) → ((k : ℕ) → k ≢ at → k ≢ last → IsSome (get old k) → get new k ≡ get old k)
      → get new last ≡ Some (record (node_at old last) { next = f })
      → AreLinked old owner rank o low (suc n) at last → callbacks_from new n (node_at old at).next ≡ callbacks_from old n (node_at old at).next
  first_from n low at last f stays turned l =
      turn_from n (suc (rank at)) (node_at old at).next last f (λ k a differs t. stays k (λ s. omega (arith, a, ap rank s)) differs t) turned l.1

  -- p is the node before q, and names what q named; q is gone
  pub record Unlinks (p q : ℕ) : Type 0 where
    pub stays : (k : ℕ) → k ≢ p → k ≢ q → IsSome (get old k) → get new k ≡ get old k
    pub linked : get new p ≡ Some (record (node_at old p) { next = (node_at old q).next })

  pub unlink_links : (p q : ℕ) → Unlinks p q → (i n low at last last' : ℕ) → i ≤ n → p ≡ key_at old i at → q ≡ key_at old (suc i) at
      → (i ≡ n → last' ≡ p) → (i ≢ n → last' ≡ last) → AreLinked old owner rank o low (suc (suc n)) at last
      → AreLinked new owner rank o low (suc n) at last'
  unlink_links p q u zero n low at last last' h is_p is_q final further l = (
    record { there = rw (sym is_p, u.linked) refl; mine = l.0.mine; after = l.0.after; ends = λ z. sym is_p ∙ sym (final (sym z)) },
    rw (sym is_p, u.linked) (rest n final further l),
  )
    where
      rest : (n : ℕ) → (0 ≡ n → last' ≡ p) → (0 ≢ n → last' ≡ last) → AreLinked old owner rank o low (suc (suc n)) at last
          → AreLinked new owner rank o (suc (rank p)) n (node_at old q).next last'
      rest zero final further l = tt
      rest (suc n) final further l =
          let second : AreLinked old owner rank o (suc (rank p)) (suc (suc n)) q last = rw (is_p, is_q) l.1 in
          let same : last' ≡ last = further (λ e. omega (arith, e)) in
          let later : AreLinked new owner rank o (suc (rank q)) (suc n) (node_at old q).next last = other old new owner rank owner rank o (suc n) (suc (rank q)) (node_at old q).next last (λ k m a t. record { same = u.stays k (λ s. omega (arith, a, second.0.after, ap rank s)) (λ s. omega (arith, a, ap rank s)) t; mine = m; after = refl }) second.1 in
          rw same (weaken new owner rank o (suc (rank q)) (suc (rank p)) (suc n) (node_at old q).next last (omega (arith, second.0.after)) later)
  unlink_links p q u (suc i) zero low at last last' h is_p is_q final further l = absurd (omega arith)
  unlink_links p q u (suc i) (suc n) low at last last' h is_p is_q final further l =
      let p_later : IsMine old owner rank o (suc (rank at)) p = rw is_p (key_mine old owner rank o i (suc (suc n)) (suc (rank at)) (node_at old at).next last (omega arith) l.1) in
      let q_later : IsMine old owner rank o (suc (rank at)) q = rw is_q (key_mine old owner rank o (suc i) (suc (suc n)) (suc (rank at)) (node_at old at).next last (omega arith) l.1) in
      let same = u.stays at (λ s. omega (arith, p_later.after, ap rank s)) (λ s. omega (arith, q_later.after, ap rank s)) l.0.there in
      let rest : AreLinked new owner rank o (suc (rank at)) (suc n) (node_at old at).next last' = unlink_links p q u i n (suc (rank at)) (node_at old at).next last last' (omega arith) is_p is_q (λ e. final (ap (λ k. suc k) e)) (λ e. further (λ s. e (omega (arith, s)))) l.1 in (
        record { there = rw same l.0.there; mine = l.0.mine; after = l.0.after; ends = λ z. absurd (omega arith) },
        rw same rest,
      )

  pub unlink_from : (p q : ℕ) → Unlinks p q → (i n low at last : ℕ) → i ≤ n → p ≡ key_at old i at → q ≡ key_at old (suc i) at
      → AreLinked old owner rank o low (suc (suc n)) at last
      → callbacks_from new (suc n) at ≡ without_at (suc i) (callbacks_from old (suc (suc n)) at)
  unlink_from p q u zero n low at last h is_p is_q l =
      let second : AreLinked old owner rank o (suc (rank p)) (suc n) q last = rw (is_p, is_q) l.1 in
      let later : callbacks_from new n (node_at old q).next ≡ callbacks_from old n (node_at old q).next = other_callbacks old new owner rank owner rank o n (suc (rank q)) (node_at old q).next last (λ k m a t. record { same = u.stays k (λ s. omega (arith, a, second.0.after, ap rank s)) (λ s. omega (arith, a, ap rank s)) t; mine = m; after = refl }) second.1 in
      rw (sym is_p, u.linked) (ap (λ cs. (node_at old p).callback ∷ cs) (later ∙ ap (λ k. callbacks_from old n (node_at old k).next) (is_q ∙ ap (λ k. (node_at old k).next) (sym is_p))))
  unlink_from p q u (suc i) zero low at last h is_p is_q l = absurd (omega arith)
  unlink_from p q u (suc i) (suc n) low at last h is_p is_q l =
      let p_later : IsMine old owner rank o (suc (rank at)) p = rw is_p (key_mine old owner rank o i (suc (suc n)) (suc (rank at)) (node_at old at).next last (omega arith) l.1) in
      let q_later : IsMine old owner rank o (suc (rank at)) q = rw is_q (key_mine old owner rank o (suc i) (suc (suc n)) (suc (rank at)) (node_at old at).next last (omega arith) l.1) in
      let same = u.stays at (λ s. omega (arith, p_later.after, ap rank s)) (λ s. omega (arith, q_later.after, ap rank s)) l.0.there in
      rw same (ap (λ cs. (node_at old at).callback ∷ cs) (unlink_from p q u i n (suc (rank at)) (node_at old at).next last (omega arith) is_p is_q l.1))

-- ---- the first callback that passes a test

module _ (nodes : Slab Node) (test : Callback → Bool) where
  pub from_without_first : (i n at : ℕ) → i < n → ((j : ℕ) → j < i → test (node_at nodes (key_at nodes j at)).callback ≡ false)
      → test (node_at nodes (key_at nodes i at)).callback ≡ true
      → without_first test (callbacks_from nodes n at) ≡ without_at i (callbacks_from nodes n at)
  from_without_first i zero at h earlier here = absurd (omega arith)
  from_without_first zero (suc n) at h earlier here = rw here refl
  from_without_first (suc i) (suc n) at h earlier here =
      rw (earlier 0 (omega arith)) (ap (λ cs. (node_at nodes at).callback ∷ cs) (from_without_first i n (node_at nodes at).next (omega arith) (λ j below. earlier (suc j) (omega arith)) here))

  pub from_any : (i n at : ℕ) → i < n → test (node_at nodes (key_at nodes i at)).callback ≡ true → list_any test (callbacks_from nodes n at) ≡ true
  from_any i zero at h here = absurd (omega arith)
  from_any zero (suc n) at h here = rw here refl
  from_any (suc i) (suc n) at h here = go (test (node_at nodes at).callback) (from_any i n (node_at nodes at).next (omega arith) here)
    where
      go : (b : Bool) → list_any test (callbacks_from nodes n (node_at nodes at).next) ≡ true
          → b || list_any test (callbacks_from nodes n (node_at nodes at).next) ≡ true
      go true h = refl
      go false h = h

  pub from_none : (n at : ℕ) → ((j : ℕ) → j < n → test (node_at nodes (key_at nodes j at)).callback ≡ false) → list_any test (callbacks_from nodes n at) ≡ false
  from_none zero at none = refl
  from_none (suc n) at none = rw (none 0 (omega arith)) (from_none n (node_at nodes at).next (λ j h. none (suc j) (omega arith)))

-- a list in which nothing passes has nothing to lose
pub without_none : (test : Callback → Bool) (cs : List Callback) → list_any test cs ≡ false → without_first test cs ≡ cs
without_none test [] h = refl
without_none test (c ∷ cs) h = go (test c) refl h (without_none test cs)
  where
    go : (b : Bool) → test c ≡ b → b || list_any test cs ≡ false → (list_any test cs ≡ false → without_first test cs ≡ cs)
        → cond b cs (c ∷ without_first test cs) ≡ c ∷ cs
    go true is h rest = absurd (cc)
    go false is h rest = ap (λ xs. c ∷ xs) (rest h)

pub length_from : (nodes : Slab Node) (n at : ℕ) → length (callbacks_from nodes n at) ≡ n
length_from nodes zero at = refl
length_from nodes (suc n) at = ap (λ k. suc k) (length_from nodes n (node_at nodes at).next)

pub key_next : (nodes : Slab Node) (i at : ℕ) → key_at nodes (suc i) at ≡ (node_at nodes (key_at nodes i at)).next
key_next nodes zero at = refl
key_next nodes (suc i) at = key_next nodes i (node_at nodes at).next

-- the rank rises along a chain, so its nodes are all different
pub key_apart : (nodes : Slab Node) (owner rank : ℕ → ℕ) (o i j n low at last : ℕ) → i < j → j < n → AreLinked nodes owner rank o low n at last
    → key_at nodes i at ≢ key_at nodes j at
key_apart nodes owner rank o i zero n low at last h h' l = absurd (omega arith)
key_apart nodes owner rank o i (suc j) zero low at last h h' l = absurd (omega arith)
key_apart nodes owner rank o zero (suc j) (suc n) low at last h h' l = λ same.
    let later = key_mine nodes owner rank o j n (suc (rank at)) (node_at nodes at).next last (omega arith) l.1 in
    omega (arith, later.after, ap rank same)
key_apart nodes owner rank o (suc i) (suc j) (suc n) low at last h h' l =
    key_apart nodes owner rank o i j n (suc (rank at)) (node_at nodes at).next last (omega arith) (omega arith) l.1

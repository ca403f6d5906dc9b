-- What each change of the nodes does to all chains.
use Rattle.std.proofs.Common.{◌≡◌, ◌≢◌, ℕ, zero, suc, ◌+◌, ◌<◌, ◌≤◌, [], ◌∷◌, ◌++◌, Option, Some, None, IsSome, cond, eqb, refl, sym, ap, ◌∙◌}
use Rattle.std.proofs.Common.{inl, inr, arith}
use Rattle.std.proofs.lemmas.Bool.{cases_eq, false≢true, eq-eqb, ne_eqb}
use Rattle.std.proofs.lemmas.Option.{same_Some}
use Rattle.slab.specs.Slab.{Slab, get, slab_len, Updates, with_value}
use Rattle.slab.proofs.SlabLemmas.{Updates-with_value}
use Rattle.sim_types.specs.declared.event.Callback.{Callback}
use Rattle.sim_callbacks.specs.declared.chain.Node.{Node}
use Rattle.sim_callbacks.specs.declared.chain.Chain.{Chain}
use Rattle.sim_callbacks.specs.Chains.{node_or_blank, node_at, callbacks_from, key_at, first_key, callbacks_in, Owners, AreLinked, IsLinked, IsChain}
use Rattle.sim_callbacks.specs.Keeping.{Relinked}
use Rattle.sim_callbacks.specs.Places.{without_at}
use Rattle.sim_callbacks.proofs.Links.{Stays, ring_links, ring_callbacks, last_mine, last_key, key_mine, Appends, append_links, append_from, links_fit}
use Rattle.sim_callbacks.proofs.Links.{first_links, first_from, Unlinks, unlink_links, unlink_from, IsMine, key_apart}

pub node_read : (nodes : Slab Node) (k : ℕ) (x : Node) → get nodes k ≡ Some x → node_at nodes k ≡ x
node_read nodes k x is = rw is refl

-- what the node of a key names
pub named : (nodes : Slab Node) (k : ℕ) (x : Node) → get nodes k ≡ Some x → x.next ≡ (node_at nodes k).next
named nodes k x is = ap (λ (y : Node). y.next) (sym (node_read nodes k x is))

-- the chain of o is new, and the nodes of all others stay
pub relinked_from : (old new : Slab Node) (w owners : Owners) (o : ℕ) (chain : Chain) → IsLinked new owners o chain
    → ((p k : ℕ) → p ≢ o → w.owner k ≡ p → IsSome (get old k) → Stays old new w.rank owners.owner owners.rank p k) → Relinked old new w o chain
relinked_from old new w owners o chain here stays =
    record {
      owners = owners;
      here = here;
      others = λ p c apart l. record {
        links = ring_links old new w.owner w.rank owners.owner owners.rank p c.count c.last (λ k m t. stays p k apart m t) l.links;
      };
      same = λ p c apart l. ring_callbacks old new w.owner w.rank owners.owner owners.rank p c.count c.last (λ k m t. stays p k apart m t) l.links;
    }

-- a key without a node is no key of a node
pub vacant_apart : (nodes : Slab Node) (key k : ℕ) → get nodes key ≡ None → IsSome (get nodes k) → k ≢ key
vacant_apart nodes key k vacant there same = false≢true (rw (same, vacant) at there)

module _ (old new : Slab Node) (w : Owners) (o key : ℕ) where
  owned : ℕ → ℕ
  owned k = cond (eqb k key) o (w.owner k)

  owned_key : owned key ≡ o
  unfolding owned
  owned_key = rw (eq-eqb key key refl) refl

  owned_other : (k : ℕ) → k ≢ key → owned k ≡ w.owner k
  unfolding owned
  owned_other k h = rw (ne_eqb k key h) refl

  ranked : ℕ → ℕ → ℕ
  ranked last k = cond (eqb k key) (suc (w.rank last)) (w.rank k)

  ranked_key : (last : ℕ) → ranked last key ≡ suc (w.rank last)
  unfolding ranked
  ranked_key last = rw (eq-eqb key key refl) refl

  ranked_other : (last k : ℕ) → k ≢ key → ranked last k ≡ w.rank k
  unfolding ranked
  ranked_other last k h = rw (ne_eqb k key h) refl

  -- ---- a callback is appended

  -- the first node of a chain names itself
  pub append_first : (chain' : Chain) (x : Node) → get old key ≡ None → Updates old new key (Some x) → x.next ≡ key → chain'.last ≡ key
      → chain'.count ≡ 1 → Relinked old new w o chain'
  append_first chain' x vacant updates first last count =
      let here : AreLinked new owned (ranked key) o 0 1 key key =
      (record { there = rw updates.changed refl; mine = owned_key; after = omega arith; ends = λ z. refl }, tt) in
      let at : first_key new chain' ≡ key = ap (λ k. (node_at new k).next) last ∙ sym (named new key x updates.changed) ∙ first in
      relinked_from old new w (record { owner = owned; rank = ranked key }) o chain' (record { links = rw (at, last, count) here }) (λ p k apart m t.
      let differs = vacant_apart old key k vacant t in
      record { same = updates.others k differs; mine = owned_other k differs ∙ m; after = ranked_other key k differs })

  -- what an append does to the nodes
  pub record IsAppended (chain : Chain) (c : Callback) : Type 0 where
    pub vacant : get old key ≡ None
    pub node : Node
    pub added : get new key ≡ Some node
    pub callback : node.callback ≡ c
    pub next : node.next ≡ first_key old chain
    pub linked : get new chain.last ≡ Some (record (node_at old chain.last) { next = key })
    pub stays : (k : ℕ) → k ≢ key → k ≢ chain.last → get new k ≡ get old k

  appends : (n : ℕ) (chain : Chain) (c : Callback) → IsAppended chain c → AreLinked old w.owner w.rank o 0 (suc n) (first_key old chain) chain.last
      → Appends old new w.owner w.rank owned (ranked chain.last) o chain.last key c
  appends n chain c a l =
      let last = last_mine old w.owner w.rank o n 0 (first_key old chain) chain.last l in
      let apart = vacant_apart old key chain.last a.vacant last.there in
      record {
        stays = λ k m not_last t. let differs = vacant_apart old key k a.vacant t in record { same = a.stays k differs not_last; mine = owned_other k differs ∙ m; after = ranked_other chain.last k differs };
        linked = a.linked;
        last_mine = owned_other chain.last apart ∙ last.mine;
        last_after = ranked_other chain.last chain.last apart;
        node = a.node;
        added = a.added;
        callback = a.callback;
        mine = owned_key;
        after = omega (arith, ranked_key chain.last);
      }

  -- the new last node names the first one
  first_still : (chain chain' : Chain) (c : Callback) → IsAppended chain c → chain'.last ≡ key → first_key new chain' ≡ first_key old chain
  first_still chain chain' c a last = ap (λ k. (node_at new k).next) last ∙ sym (named new key a.node a.added) ∙ a.next

  pub append_last : (n : ℕ) (chain chain' : Chain) (c : Callback) → IsAppended chain c → chain.count ≡ suc n
      → chain'.last ≡ key → chain'.count ≡ suc (suc n) → IsLinked old w o chain → Relinked old new w o chain'
  append_last n chain chain' c a many last count linked =
      let first = first_key old chain in
      let links : AreLinked old w.owner w.rank o 0 (suc n) first chain.last = rw many at linked.links in
      let whole = appends n chain c a links in
      let here : AreLinked new owned (ranked chain.last) o 0 (suc (suc n)) first key =
      append_links old new w.owner w.rank owned (ranked chain.last) o chain.last key c whole n 0 first links in
      let final = last_mine old w.owner w.rank o n 0 first chain.last links in
      let owners : Owners = record { owner = owned; rank = ranked chain.last } in
      relinked_from old new w owners o chain' (record { links = rw (first_still chain chain' c a last, last, count) here }) (λ p k apart m t.
      let differs = vacant_apart old key k a.vacant t in
      let not_last : k ≢ chain.last = λ s. apart (sym m ∙ ap w.owner s ∙ final.mine) in
      record { same = a.stays k differs not_last; mine = owned_other k differs ∙ m; after = ranked_other chain.last k differs })

  pub append_callbacks : (n : ℕ) (chain chain' : Chain) (c : Callback) → IsAppended chain c → chain.count ≡ suc n
      → chain'.last ≡ key → chain'.count ≡ suc (suc n) → IsLinked old w o chain → callbacks_in new chain' ≡ callbacks_in old chain ++ c ∷ []
  append_callbacks n chain chain' c a many last count linked =
      let first = first_key old chain in
      let links : AreLinked old w.owner w.rank o 0 (suc n) first chain.last = rw many at linked.links in
      let whole = appends n chain c a links in
      rw (first_still chain chain' c a last, count, many)
      (append_from old new w.owner w.rank owned (ranked chain.last) o chain.last key c whole n 0 first links)

-- ---- a node goes

-- q is gone, and p, the node before it, names what q named; where a chain has one node, p is q
pub record Cuts (old new : Slab Node) (p q : ℕ) : Type 0 where
  pub stays : (k : ℕ) → k ≢ p → k ≢ q → get new k ≡ get old k
  pub linked : p ≢ q → get new p ≡ Some (record (node_at old p) { next = (node_at old q).next })

module _ (old new : Slab Node) (w : Owners) (o : ℕ) (n : ℕ) (chain chain' : Chain) where
  cut_stays : (p q : ℕ) → Cuts old new p q → w.owner p ≡ o → w.owner q ≡ o → (p' k : ℕ) → p' ≢ o → w.owner k ≡ p' → IsSome (get old k)
      → Stays old new w.rank w.owner w.rank p' k
  cut_stays p q cuts p_mine q_mine p' k apart m t =
      let not_p : k ≢ p = λ s. apart (sym m ∙ ap w.owner s ∙ p_mine) in
      let not_q : k ≢ q = λ s. apart (sym m ∙ ap w.owner s ∙ q_mine) in
      record { same = cuts.stays k not_p not_q; mine = m; after = refl }

  -- ---- the first

  -- the last node of more than one is not the first
  last_apart : (m at last : ℕ) → AreLinked old w.owner w.rank o 0 (suc (suc m)) at last → last ≢ at
  last_apart m at last l =
      let later = last_mine old w.owner w.rank o m (suc (w.rank at)) (node_at old at).next last l.1 in
      λ same. omega (arith, later.after, ap w.rank same)

  first_rest : Cuts old new chain.last (first_key old chain) → (m : ℕ)
      → AreLinked old w.owner w.rank o 0 (suc m) (first_key old chain) chain.last
      → AreLinked new w.owner w.rank o 0 m (node_at new chain.last).next chain.last
  first_rest cuts zero links = tt
  first_rest cuts (suc m) links =
      let first = first_key old chain in
      let turned = cuts.linked (last_apart m first chain.last links) in
      let rest : AreLinked new w.owner w.rank o 0 (suc m) (node_at old first).next chain.last =
      first_links old new w.owner w.rank o (suc m) 0 first chain.last (node_at old first).next
      (λ k not_first not_last t. cuts.stays k not_last not_first) turned links in
      rw turned rest

  first_others : Cuts old new chain.last (first_key old chain) → (m : ℕ)
      → AreLinked old w.owner w.rank o 0 (suc m) (first_key old chain) chain.last
      → callbacks_from new m (node_at new chain.last).next ≡ callbacks_from old m (node_at old (first_key old chain)).next
  first_others cuts zero links = refl
  first_others cuts (suc m) links =
      let first = first_key old chain in
      let turned = cuts.linked (last_apart m first chain.last links) in
      let rest : callbacks_from new (suc m) (node_at old first).next ≡ callbacks_from old (suc m) (node_at old first).next =
      first_from old new w.owner w.rank o (suc m) 0 first chain.last (node_at old first).next
      (λ k not_first not_last t. cuts.stays k not_last not_first) turned links in
      rw turned rest

  pub first_out : Cuts old new chain.last (first_key old chain) → chain.count ≡ suc n → chain'.last ≡ chain.last → chain'.count ≡ n
      → IsLinked old w o chain → Relinked old new w o chain'
  first_out cuts many last count linked =
      let first = first_key old chain in
      let links : AreLinked old w.owner w.rank o 0 (suc n) first chain.last = rw many at linked.links in
      let final = last_mine old w.owner w.rank o n 0 first chain.last links in
      relinked_from old new w w o chain' (record { links = rw (last, count) (first_rest cuts n links) })
      (cut_stays chain.last first cuts final.mine links.0.mine)

  pub first_callbacks : Cuts old new chain.last (first_key old chain) → chain.count ≡ suc n → chain'.last ≡ chain.last → chain'.count ≡ n
      → IsLinked old w o chain → callbacks_in old chain ≡ (node_at old (first_key old chain)).callback ∷ callbacks_in new chain'
  first_callbacks cuts many last count linked =
      let first = first_key old chain in
      let links : AreLinked old w.owner w.rank o 0 (suc n) first chain.last = rw many at linked.links in
      rw (many, last, count) (ap (λ cs. (node_at old first).callback ∷ cs) (sym (first_others cuts n links)))

  -- ---- a later one

  module _ (i p q : ℕ) (cuts : Cuts old new p q) (many : chain.count ≡ suc (suc n)) (h : i ≤ n) (is_p : p ≡ key_at old i (first_key old chain))
      (is_q : q ≡ key_at old (suc i) (first_key old chain)) (final : i ≡ n → chain'.last ≡ p) (further : i ≢ n → chain'.last ≡ chain.last)
      (count : chain'.count ≡ suc n) (linked : IsLinked old w o chain) where
    links : AreLinked old w.owner w.rank o 0 (suc (suc n)) (first_key old chain) chain.last
    links = rw many at linked.links

    p_apart : p ≢ q
    p_apart = rw (is_p, is_q)
        (key_apart old w.owner w.rank o i (suc i) (suc (suc n)) 0 (first_key old chain) chain.last (omega arith) (omega arith) links)

    unlinks : Unlinks old new w.owner w.rank o p q
    unlinks = record { stays = λ k not_p not_q t. cuts.stays k not_p not_q; linked = cuts.linked p_apart }

    last_is : key_at old (suc n) (first_key old chain) ≡ chain.last
    last_is = last_key old w.owner w.rank o (suc n) 0 (first_key old chain) chain.last links

    last_not : (j : ℕ) → j < suc n → chain.last ≢ key_at old j (first_key old chain)
    last_not j below = λ same.
        key_apart old w.owner w.rank o j (suc n) (suc (suc n)) 0 (first_key old chain) chain.last below (omega arith) links (sym same ∙ sym last_is)

    -- the last node names the same first, whether it is another node than it was or not
    first_same : first_key new chain' ≡ first_key old chain
    first_same = elim (cases_eq i n) [
      | inl e ↦
          let q_last : q ≡ chain.last = is_q ∙ ap (λ j. key_at old (suc j) (first_key old chain)) e ∙ last_is in
          let turned : Node = record (node_at old p) { next = (node_at old q).next } in
          ap (λ k. (node_at new k).next) (final e) ∙ sym (named new p turned (cuts.linked p_apart)) ∙ ap (λ k. (node_at old k).next) q_last
      | inr e ↦
          let not_p : chain.last ≢ p = rw is_p (last_not i (omega (arith, h))) in
          let not_q : chain.last ≢ q = rw is_q (last_not (suc i) (omega (arith, h, e))) in
          ap (λ k. (node_at new k).next) (further e) ∙ ap (λ (s : Option Node). (node_or_blank s).next) (cuts.stays chain.last not_p not_q)
    ]

    pub later_out : Relinked old new w o chain'
    later_out =
        let first = first_key old chain in
        let here : AreLinked new w.owner w.rank o 0 (suc n) first chain'.last =
        unlink_links old new w.owner w.rank o p q unlinks i n 0 first chain.last chain'.last h is_p is_q final further links in
        let p_mine : IsMine old w.owner w.rank o 0 p =
        rw is_p (key_mine old w.owner w.rank o i (suc (suc n)) 0 first chain.last (omega arith) links) in
        let q_mine : IsMine old w.owner w.rank o 0 q =
        rw is_q (key_mine old w.owner w.rank o (suc i) (suc (suc n)) 0 first chain.last (omega arith) links) in
        relinked_from old new w w o chain' (record { links = rw (first_same, count) here }) (cut_stays p q cuts p_mine.mine q_mine.mine)

    pub later_callbacks : callbacks_in new chain' ≡ without_at (suc i) (callbacks_in old chain)
    later_callbacks =
        rw (first_same, count, many) (unlink_from old new w.owner w.rank o p q unlinks i n 0 (first_key old chain) chain.last h is_p is_q links)

-- ---- a node of any place goes, as p, the node before it, names what q named

pub unlinked : (old new : Slab Node) (w : Owners) (o : ℕ) (chain chain' : Chain) (i m p q : ℕ) → Cuts old new p q → i < chain.count
    → q ≡ key_at old i (first_key old chain) → p ≡ key_at old i chain.last → (i + 1 ≡ chain.count → chain'.last ≡ p)
    → (i + 1 ≢ chain.count → chain'.last ≡ chain.last) → chain.count ≡ suc m → chain'.count ≡ m → IsLinked old w o chain
    → Relinked old new w o chain' × (callbacks_in new chain' ≡ without_at i (callbacks_in old chain))
unlinked old new w o chain chain' zero m p q cuts h is_q is_p final further many count linked =
    let cut : Cuts old new chain.last (first_key old chain) = rw (is_p, is_q) at cuts in
    let last : chain'.last ≡ chain.last = elim (cases_eq 1 chain.count) [
      | inl e ↦ final e ∙ is_p
      | inr e ↦ further e
    ] in (
      first_out old new w o m chain chain' cut many last count linked,
      sym (ap (λ cs. without_at 0 cs) (first_callbacks old new w o m chain chain' cut many last count linked)),
    )
unlinked old new w o chain chain' (suc i) zero p q cuts h is_q is_p final further many count linked = absurd (omega (arith, h, many))
unlinked old new w o chain chain' (suc i) (suc n) p q cuts h is_q is_p final further many count linked =
    let within : i ≤ n = omega (arith, h, many) in
    let ends : i ≡ n → chain'.last ≡ p = λ e. final (omega (arith, e, many)) in
    let stays : i ≢ n → chain'.last ≡ chain.last = λ e. further (λ s. e (omega (arith, s, many))) in (
      later_out old new w o n chain chain' i p q cuts many within is_p is_q ends stays count linked,
      later_callbacks old new w o n chain chain' i p q cuts many within is_p is_q ends stays count linked,
    )

-- no chain has more nodes than the slab
pub chain_fits : (nodes : Slab Node) (chain : Chain) → IsChain nodes chain → chain.count ≤ slab_len nodes
chain_fits nodes chain c =
    links_fit c.owners.owner c.owners.rank c.whose chain.count nodes 0 (first_key nodes chain) chain.last c.linked.links

pub count_up : (n : ℕ) → n ≢ 0 → (m : ℕ) × (n ≡ suc m)
count_up zero h = absurd (h refl)
count_up (suc m) h = (m, refl)

pub last_there : (nodes : Slab Node) (chain : Chain) → IsChain nodes chain → chain.count ≢ 0 → IsSome (get nodes chain.last)
last_there nodes chain c h =
    let up = count_up chain.count h in
    let first = first_key nodes chain in
    let links : AreLinked nodes c.owners.owner c.owners.rank c.whose 0 (suc up.0) first chain.last = rw up.1 at c.linked.links in
    (last_mine nodes c.owners.owner c.owners.rank c.whose up.0 0 first chain.last links).there

pub key_there : (nodes : Slab Node) (chain : Chain) (i : ℕ) → IsChain nodes chain → i < chain.count
    → IsSome (get nodes (key_at nodes i (first_key nodes chain)))
key_there nodes chain i c h =
    (key_mine nodes c.owners.owner c.owners.rank c.whose i chain.count 0 (first_key nodes chain) chain.last h c.linked.links).there

-- the node before the one of a place: the last, or one of an earlier place
pub before_there : (nodes : Slab Node) (chain : Chain) (i : ℕ) → IsChain nodes chain → i < chain.count
    → IsSome (get nodes (key_at nodes i chain.last))
before_there nodes chain zero c h = last_there nodes chain c (λ none. omega (arith, h, none))
before_there nodes chain (suc i) c h = key_there nodes chain i c (omega (arith, h))

-- ---- what the calls of the slab make true

-- a key with a node keeps it while another one is added
pub there_still : (old mid : Slab Node) (key k : ℕ) (slot : Option Node) → get old key ≡ None → Updates old mid key slot → IsSome (get old k)
    → IsSome (get mid k)
there_still old mid key k slot vacant updates there = rw (updates.others k (vacant_apart old key k vacant there)) there

pub appended_by : (old mid : Slab Node) (w : Owners) (o key : ℕ) (chain : Chain) (c : Callback) (x y : Node) → IsSome (get old chain.last)
    → get old key ≡ None → Updates old mid key (Some y) → y.callback ≡ c → y.next ≡ first_key old chain → Some x ≡ get mid chain.last
    → IsAppended old (with_value mid chain.last (record { callback = x.callback; next = key })) w o key chain c
appended_by old mid w o key chain c x y there vacant updates is_c is_next read =
    let apart : chain.last ≢ key = vacant_apart old key chain.last vacant there in
    let still = there_still old mid key chain.last (Some y) vacant updates there in
    let write = Updates-with_value mid chain.last (record { callback = x.callback; next = key }) still in
    let was : get old chain.last ≡ Some x = sym (updates.others chain.last apart) ∙ sym read in
    record {
      vacant = vacant;
      node = y;
      added = write.others key (λ s. apart (sym s)) ∙ updates.changed;
      callback = is_c;
      next = is_next;
      linked = write.changed ∙ rw was refl;
      stays = λ k not_key not_last. write.others k not_last ∙ updates.others k not_key;
    }

-- the node before names what the other named, and then the other is taken out
pub cut_by : (old new : Slab Node) (p q : ℕ) (x y : Node) → get old p ≡ Some x → get old q ≡ Some y
    → Updates (with_value old p (record { callback = x.callback; next = y.next })) new q None → Cuts old new p q
cut_by old new p q x y is_x is_y updates =
    let write = Updates-with_value old p (record { callback = x.callback; next = y.next }) (rw is_x refl) in
    record {
      stays = λ k not_p not_q. updates.others k not_q ∙ write.others k not_p;
      linked = λ apart. updates.others p apart ∙ write.changed ∙ rw (is_x, is_y) refl;
    }

-- every key with a node still has one while what a node names changes
pub cut_there : (old : Slab Node) (p q : ℕ) (z : Node) → IsSome (get old p) → IsSome (get old q) → IsSome (get (with_value old p z) q)
cut_there old p q z there_p there_q =
    let write = Updates-with_value old p z there_p in
    elim (cases_eq q p) [
      | inl same ↦ rw (same, write.changed) refl
      | inr apart ↦ rw (write.others q apart) there_q
    ]

-- the node taken out has the callback that it had
pub cut_callback : (old : Slab Node) (p q : ℕ) (x y node : Node) → get old p ≡ Some x → get old q ≡ Some y
    → get (with_value old p (record { callback = x.callback; next = y.next })) q ≡ Some node → node.callback ≡ (node_at old q).callback
cut_callback old p q x y node is_x is_y removed =
    let z : Node = record { callback = x.callback; next = y.next } in
    let write = Updates-with_value old p z (rw is_x refl) in
    elim (cases_eq q p) [
      | inl same ↦
          let taken : Some node ≡ Some z = sym removed ∙ ap (λ k. get (with_value old p z) k) same ∙ write.changed in
          ap (λ (v : Node). v.callback) (same_Some node z taken) ∙ rw (same, is_x) refl
      | inr apart ↦ ap (λ (v : Node). v.callback) (sym (node_read old q node (sym (write.others q apart) ∙ removed)))
    ]

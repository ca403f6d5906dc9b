-- Each step keeps the rule of a queue.
use Rattle.std.proofs.Common.{◌≡◌, ◌≢◌, ℕ, zero, suc, ◌+◌, ◌<◌, Bool, true, false, cond, eqb, eq-eqb, ne_eqb, List, [], ◌∷◌, ◌++◌, length, get_or, set, map, Some, None, rules, sym, refl, ap, ◌∙◌, subst, arith, append_assoc, ◌⊎◌, ⊎_elim, inl, inr}
use Rattle.std.proofs.lemmas.List.{length-append, length-map, length-set, get_or-set_same, get_or-set_other}
use Rattle.std.specs.List.{All}
use Rattle.std.proofs.lemmas.List.Elements.{All-append, All-cons, All-tail}
use mathlib.Core.Option.{some, some-injective, some-ne-none}
use mathlib.Core.Logic.{dite}
use native.Mathlib.Decide.{ℕ_discrete}
use lib.ListN.{get_elem?}
use Rattle.crossbeam_queue.specs.Fifo.{Pushes, Pops, Forks, Merges, Learns}
use Rattle.crossbeam_queue.proofs.Lists.{at_set}
use Rattle.sim_types.specs.declared.setup.Post.{Post}
use Rattle.sim_inbox.specs.Delivery as say
use Rattle.sim_inbox.specs.Delivery.{History, Whole, AreWhole, IsSo, Delivers, number_of, posted_of, taken_of, wholes_of, IsPoster, IsTaker, with_post, Knows, split_off, next_poster, joined_by}
use Rattle.sim_inbox.specs.Lists.{entry, numbered, entries_by, items_by}
use Rattle.sim_inbox.specs.declared.taken.Taken.{Taken}
use Rattle.sim_inbox.specs.declared.rule.View.{View}
use Rattle.sim_inbox.specs.declared.rule.View.TheVariants.{Poster, Taker, Spent}
use Rattle.sim_inbox.proofs.Lists.{numbered_snoc, length_numbered, items_numbered, serial_at, entries_append, entries_own, entries_other, entries_first, items_append}

none_is_no_list : (l : List Post) → None ≢ Some l
none_is_no_list l e = grind rules

some_list : (l k : List Post) → Some l ≡ Some k → l ≡ k
some_list l k e = grind rules

true_is_not_false : (b : Bool) → b ≡ true → b ≡ false → ⊥
true_is_not_false b t f = grind (rules, t, f)

-- ---- functions of a poster's number, changed at one
abbrev changed : {A : Type 0} → (ℕ → A) → ℕ → A → ℕ → A
changed f p a q = cond (eqb q p) a (f q)

changed_here : {A : Type 0} (f : ℕ → A) (p : ℕ) (a : A) → changed f p a p ≡ a
changed_here f p a = ap (λ (b : Bool). cond b a (f p)) (eq-eqb p p refl)

changed_else : {A : Type 0} (f : ℕ → A) (p q : ℕ) (a : A) → q ≢ p → changed f p a q ≡ f q
changed_else f p q a ne = ap (λ (b : Bool). cond b a (f q)) (ne_eqb q p ne)

-- ---- lists
all_mid : (P : Taken → Type 0) (xs : List Taken) (y : Taken) (ys : List Taken) → All P (xs ++ y ∷ ys) → P y
all_mid P [] y ys h = h 0 y (omega arith)
all_mid P (x ∷ xs) y ys h = all_mid P xs y ys (All-tail P x (xs ++ y ∷ ys) h)

at_end : {A : Type 0} (l : List A) (a b : A) (j : ℕ) → get_elem? (l ++ a ∷ []) j ≡ some b → (get_elem? l j ≡ some b) ⊎ ((j ≡ length l) × (a ≡ b))
at_end [] a b zero e = inr (refl, some-injective a b e)
at_end [] a b (suc j) e = absurd (some-ne-none b (sym e))
at_end (x ∷ xs) a b zero e = inl e
at_end (x ∷ xs) a b (suc j) e = ⊎_elim (λ y. inl y) (λ y. inr (ap suc y.0, y.1)) (at_end xs a b j e)

whole_before : (wholes : List Whole) (p : ℕ) (l : List Post) → p < length wholes + 1 → get_or (wholes ++ None ∷ []) p None ≡ Some l
    → (p < length wholes) × (get_or wholes p None ≡ Some l)
whole_before [] zero l less e = absurd (none_is_no_list l e)
whole_before [] (suc p) l less e = absurd (omega arith)
whole_before (x ∷ xs) zero l less e = (omega arith, e)
whole_before (x ∷ xs) (suc p) l less e = let r = whole_before xs p l (omega arith) e in let r0 = r.0 in (omega arith, r.1)

-- ---- the opening
abbrev begun : History
begun = record { made = 0; posted = λ p. []; taken = []; joined = λ p. false }

first_known : (id : ℕ) (v : View) → get_elem? (Taker [] [] ∷ []) id ≡ some v → IsSo begun id v
first_known zero v e = subst (λ (u : View). IsSo begun 0 u) (some-injective _ v e) (refl, refl, refl, λ p l less x. absurd (omega arith))
first_known (suc id) v e = absurd (some-ne-none v (sym e))

pub begins : Delivers [] (Taker [] [] ∷ [])
begins = record {
  history = begun;
  kept = λ p. refl;
  own = λ k d l. absurd (omega arith);
  passes = refl;
  unmade = λ p le. (refl, refl);
  known = λ id v e. first_known id v e;
}

-- ---- a push
abbrev with_posted : History → ℕ → List Post → History
with_posted h p l = record h { posted = changed h.posted p l }

-- what the other passes know stays so, since the poster has not joined
others_at_push : (h : History) (p : ℕ) (l : List Post) (id j : ℕ) → id ≡ suc p → h.joined p ≡ false → j ≢ id → (u : View) → IsSo h j u
    → IsSo (with_posted h p l) j u
others_at_push h p l id j is live apart (Poster n posted) f =
    let f0 = f.0 in let ne : n ≢ p = λ x. apart (f0 ∙ ap suc x ∙ sym is) in (f.0, f.1, f.2, changed_else h.posted p n l ne ∙ f.3)
others_at_push h p l id j is live apart (Taker taken wholes) f =
    (f.0, f.1, f.2, λ q k less e. let w = f.3 q k less e in let ne : q ≢ p = λ x. true_is_not_false (h.joined q) w.1 (ap h.joined x ∙ live) in (changed_else h.posted p q l ne ∙ w.0, w.1))
others_at_push h p l id j is live apart Spent f = tt

pub pushes : (n id : ℕ) (v : View) (t : Taken) → IsPoster v → t.poster ≡ number_of v → t.serial ≡ length (posted_of v)
    → Pushes Delivers n id v t (λ w. w ≡ with_post v t)
pushes n id v t is number serial items views room d at =
    let h : History = d.history in
    let p : ℕ = number_of v in
    let posted : List Post = posted_of v in
    let so = d.known id (Poster p posted) (at ∙ ap some is) in
    let more : List Post = posted ++ t.item ∷ [] in
    let after : History = with_posted h p more in
    let same : t ≡ entry p (0 + length posted) t.item = (let e : t.serial ≡ 0 + length posted = omega (arith, serial) in λ k. record { poster = number k; serial = e k; item = t.item }) in (
      with_post v t,
      record {
        history = after;
        kept = λ q. ap (entries_by q) (sym (append_assoc h.taken items (t ∷ []))) ∙ dite (ℕ_discrete q p)
            (λ e. entries_own q (h.taken ++ items) t (number ∙ sym e) ∙ ap (λ (l : List Taken). l ++ t ∷ []) (d.kept q)
            ∙ subst (λ (r : ℕ). numbered r 0 (h.posted r) ++ t ∷ [] ≡ numbered r 0 (after.posted r)) (sym e)
            ((λ k. numbered p 0 (so.3 k) ++ same k ∷ []) ∙ sym (numbered_snoc p 0 posted t.item) ∙ ap (λ (l : List Post). numbered p 0 l) (sym (changed_here h.posted p more))))
            (λ ne. entries_other q (h.taken ++ items) t (λ x. ne (sym x ∙ number)) ∙ d.kept q ∙ ap (λ (l : List Post). numbered q 0 l) (sym (changed_else h.posted p q more ne)));
        own = subst (λ (l : List Taken). All (λ (x : Taken). x.poster < h.made) l) (append_assoc h.taken items (t ∷ []))
            (All-append (λ (x : Taken). x.poster < h.made) (h.taken ++ items) (t ∷ []) d.own (All-cons (λ (x : Taken). x.poster < h.made) t [] (let l = so.1 in omega (arith, number, l)) (λ k d l. absurd (omega arith))));
        passes = length-set views id (with_post v t) ∙ d.passes;
        unmade = λ q le. let less = so.1 in let e : q ≢ p = λ x. omega (arith, x) in (changed_else h.posted p q more e ∙ (d.unmade q le).0, (d.unmade q le).1);
        known = λ j u e. ⊎_elim (λ x. subst (λ (y : ℕ × View). IsSo after y.0 y.1) (λ k. (sym x.0 k, x.1 k)) (so.0, so.1, so.2, changed_here h.posted p more))
            (λ x. others_at_push h p more id j so.0 so.2 x.0 u (d.known j u x.1)) (at_set views id j (with_post v t) u e);
      },
      refl,
    )

-- ---- a pop
abbrev with_taken : History → Taken → History
with_taken h t = record h { taken = h.taken ++ t ∷ [] }

others_at_pop : (h : History) (t : Taken) (j : ℕ) → j ≢ 0 → (u : View) → IsSo h j u → IsSo (with_taken h t) j u
others_at_pop h t j apart (Poster n posted) f = f
others_at_pop h t j apart (Taker taken wholes) f = absurd (apart f.0)
others_at_pop h t j apart Spent f = tt

pub pops : (id : ℕ) (v : View) → IsTaker v → Pops Delivers id v (say.Pops v)
pops id v is x items views d at =
    let h : History = d.history in
    let so = d.known id (Taker (taken_of v) (wholes_of v)) (at ∙ ap some is) in
    let w : View = Taker (taken_of v ++ x ∷ []) (wholes_of v) in
    let all : (h.taken ++ x ∷ []) ++ items ≡ h.taken ++ x ∷ items = append_assoc h.taken (x ∷ []) items in
    let long = so.2 in
    let own = all_mid (λ t. t.poster < h.made) h.taken x items d.own in
    let p : ℕ = x.poster in
    let entries : entries_by p h.taken ++ x ∷ entries_by p items ≡ numbered p 0 (h.posted p) =
    ap (λ (l : List Taken). entries_by p h.taken ++ l) (sym (entries_first p x items refl)) ∙ sym (entries_append p h.taken (x ∷ items)) ∙ d.kept p in
    let serial = serial_at p 0 (entries_by p h.taken) x (entries_by p items) (h.posted p) entries in
    let many : length (items_by p (taken_of v)) ≡ length (entries_by p h.taken) = length-map (entries_by p (taken_of v)) (λ t. t.item) ∙ ap (λ (l : List Taken). length (entries_by p l)) so.1 in (
      w,
      record {
        history = with_taken h x;
        kept = λ q. ap (entries_by q) all ∙ d.kept q;
        own = subst (λ (l : List Taken). All (λ (t : Taken). t.poster < h.made) l) (sym all) d.own;
        passes = length-set views id w ∙ d.passes;
        unmade = d.unmade;
        known = λ j u e. ⊎_elim (λ y. subst (λ (z : ℕ × View). IsSo (with_taken h x) z.0 z.1) (λ k. (sym y.0 k, y.1 k)) (so.0, ap (λ (l : List Taken). l ++ x ∷ []) so.1, so.2, so.3))
            (λ y. others_at_pop h x j (λ z. y.0 (z ∙ sym so.0)) u (d.known j u y.1)) (at_set views id j w u e);
      },
      record {
        is = refl;
        own = omega (arith, own, long);
        serial = omega (arith, serial, many);
        more = λ whole e.
            let known = so.3 p whole (omega (arith, own, long)) e in
            let m : length (entries_by p h.taken) + length (x ∷ entries_by p items) ≡ length whole =
            sym (length-append (entries_by p h.taken) (x ∷ entries_by p items)) ∙ ap (λ (y : List Taken). length y) entries ∙ length_numbered p 0 (h.posted p) ∙ ap (λ (y : List Post). length y) known.0 in
            omega (arith, many, m);
      },
    )

pub learns : (id : ℕ) (v : View) → IsTaker v → Learns Delivers id v (Knows v)
learns id v is items views d at p whole less e =
    let h : History = d.history in
    let so = d.known id (Taker (taken_of v) (wholes_of v)) (at ∙ ap some is) in
    let known = so.3 p whole less e in
    sym known.0 ∙ sym (items_numbered p 0 (h.posted p)) ∙ ap (map (λ (t : Taken). t.item)) (sym (d.kept p)) ∙ items_append p h.taken items ∙ ap (λ (l : List Taken). items_by p l ++ items_by p items) (sym so.1)

-- ---- a split
abbrev with_poster : History → History
with_poster h = record h { made = suc h.made }

others_at_split : (h : History) (j : ℕ) → j ≢ 0 → (u : View) → IsSo h j u → IsSo (with_poster h) j u
others_at_split h j apart (Poster n posted) f = let l = f.1 in (f.0, omega (arith, l), f.2, f.3)
others_at_split h j apart (Taker taken wholes) f = absurd (apart f.0)
others_at_split h j apart Spent f = tt

pub forks : (id : ℕ) (v : View) → IsTaker v → Forks Delivers id v (split_off v) (next_poster v)
forks id v is items views d at =
    let h : History = d.history in
    let after : History = with_poster h in
    let so = d.known id (Taker (taken_of v) (wholes_of v)) (at ∙ ap some is) in
    let made : length (wholes_of v) ≡ h.made = so.2 in
    let fresh = d.unmade (length (wholes_of v)) (let e = made in omega (arith, e)) in
    let vs : List View = set views id (split_off v) in
    let k = d.passes in
    record {
      history = after;
      kept = d.kept;
      own = λ k x l. let less = d.own k x l in omega (arith, less);
      passes = length-append vs (next_poster v ∷ []) ∙ (let l = length-set views id (split_off v) in omega (arith, l, k));
      unmade = λ p le. d.unmade p (omega arith);
      known = λ j u e. ⊎_elim
          (λ x. ⊎_elim (λ y. subst (λ (z : ℕ × View). IsSo after z.0 z.1) (λ k. (sym y.0 k, y.1 k)) (
            so.0,
            so.1,
            length-append (wholes_of v) (None ∷ []) ∙ (let q : length (wholes_of v) + 1 ≡ suc h.made = omega (arith, made) in q),
            λ p l less e'. let r = whole_before (wholes_of v) p l (let n = length-append (wholes_of v) (None ∷ []) in omega (arith, less, n)) e' in so.3 p l r.0 r.1,
          ))
          (λ y. others_at_split h j (λ q. y.0 (q ∙ sym so.0)) u (d.known j u y.1)) (at_set views id j (split_off v) u x))
          (λ x. subst (λ (z : ℕ × View). IsSo after z.0 z.1)
          (let long : length vs ≡ j = sym x.0 in let there : suc (length (wholes_of v)) ≡ j = (let l = length-set views id (split_off v) in omega (arith, l, k, made, long)) in (λ k. (there k, x.1 k)))
          (refl, (let q : length (wholes_of v) < suc h.made = omega (arith, made) in q), fresh.1, fresh.0))
          (at_end vs (next_poster v) u j e);
    }

-- ---- a join
abbrev with_joined : History → ℕ → History
with_joined h p = record h { joined = changed h.joined p true }

others_at_join : (h : History) (p j : ℕ) → j ≢ 0 → j ≢ suc p → (u : View) → IsSo h j u → IsSo (with_joined h p) j u
others_at_join h p j apart two (Poster n posted) f =
    let f0 = f.0 in let ne : n ≢ p = λ x. two (f0 ∙ ap suc x) in (f.0, f.1, changed_else h.joined p n true ne ∙ f.2, f.3)
others_at_join h p j apart two (Taker taken wholes) f = absurd (apart f.0)
others_at_join h p j apart two Spent f = tt

-- the lists that are known, with that of the poster that joins
wholes_at_join : (h : History) (wholes : List Whole) (p : ℕ) (posted : List Post) → AreWhole h wholes → p < length wholes → h.posted p ≡ posted
    → AreWhole (with_joined h p) (set wholes p (Some posted))
wholes_at_join h wholes p posted so there is q l less e =
    let long = length-set wholes p (Some posted) in
    dite (ℕ_discrete q p)
    (λ same. subst (λ (r : ℕ). (h.posted r ≡ l) × (changed h.joined p true r ≡ true)) (sym same)
    (is ∙ some_list posted l (sym (get_or-set_same wholes p (Some posted) None there) ∙ ap (λ (r : ℕ). get_or (set wholes p (Some posted)) r None) (sym same) ∙ e), changed_here h.joined p true))
    (λ ne. let old = so q l (omega (arith, less, long)) (sym (get_or-set_other wholes p q (Some posted) None ne) ∙ e) in (old.0, changed_else h.joined p q true ne ∙ old.1))

pub merges : (id other : ℕ) (v w : View) → IsTaker v → IsPoster w → Merges Delivers id v other w (joined_by v w) Spent
merges id other v w is_taker is_poster items views d at apart there =
    let h : History = d.history in
    let p : ℕ = number_of w in
    let so = d.known id (Taker (taken_of v) (wholes_of v)) (at ∙ ap some is_taker) in
    let was : get_elem? views other ≡ some w = ⊎_elim (λ x. absurd (apart x.0)) (λ x. x.1) (at_set views id other (joined_by v w) w there) in
    let theirs = d.known other (Poster p (posted_of w)) (was ∙ ap some is_poster) in
    let made = theirs.1 in let long = so.2 in
    let after : History = with_joined h p in
    record {
      history = after;
      kept = d.kept;
      own = d.own;
      passes = length-set (set views id (joined_by v w)) other Spent ∙ length-set views id (joined_by v w) ∙ d.passes;
      unmade = λ q le. let e : q ≢ p = λ x. omega (arith, x) in ((d.unmade q le).0, changed_else h.joined p q true e ∙ (d.unmade q le).1);
      known = λ j u e. ⊎_elim (λ x. subst (λ (z : ℕ × View). IsSo after z.0 z.1) (λ k. (sym x.0 k, x.1 k)) tt)
          (λ x. ⊎_elim
          (λ y. subst (λ (z : ℕ × View). IsSo after z.0 z.1) (λ k. (sym y.0 k, y.1 k))
          (so.0, so.1, length-set (wholes_of v) p (Some (posted_of w)) ∙ so.2, wholes_at_join h (wholes_of v) p (posted_of w) so.3 (omega (arith, made, long)) theirs.3))
          (λ y. others_at_join h p j (λ q. y.0 (q ∙ sym so.0)) (λ q. x.0 (q ∙ sym theirs.0)) u (d.known j u y.1))
          (at_set views id j (joined_by v w) u x.1))
          (at_set (set views id (joined_by v w)) other j Spent u e);
    }

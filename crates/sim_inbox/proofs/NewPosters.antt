-- Posters, one after another.
use Rattle.std.proofs.Common.{◌≡◌, ◌≢◌, ℕ, zero, suc, List, [], ◌∷◌, ◌++◌, length, replicate, Some, None, rules, sym, refl, ap, ◌∙◌, subst, ◌⊎◌, ⊎_elim, inl, inr}
use Rattle.std.proofs.lemmas.List.{length-replicate}
use Rattle.std.specs.Prelude.{slice_get}
use Rattle.sim_inbox.specs.Delivery.{next_poster}
use Rattle.sim_inbox.specs.QueueEnds.{ArePostersOf, HavePostedNothing, IsPosting, QueuePosterOf}
use Rattle.sim_inbox.specs.declared.rule.View.{View}
use Rattle.sim_inbox.specs.declared.rule.View.TheVariants.{Poster, Taker}

some_poster : (x y : QueuePosterOf) → Some x ≡ Some y → x ≡ y
some_poster x y e = grind rules

none_is_no_poster : (x : QueuePosterOf) → None ≢ Some x
none_is_no_poster x e = grind rules

at_end : (l : List QueuePosterOf) (a b : QueuePosterOf) (j : ℕ) → slice_get (l ++ a ∷ []) j ≡ Some b → (slice_get l j ≡ Some b) ⊎ ((j ≡ length l) × (a ≡ b))
at_end [] a b zero e = inr (refl, some_poster a b e)
at_end [] a b (suc j) e = absurd (none_is_no_poster b e)
at_end (x ∷ xs) a b zero e = inl e
at_end (x ∷ xs) a b (suc j) e = ⊎_elim (λ y. inl y) (λ y. inr (ap suc y.0, y.1)) (at_end xs a b j e)

-- a poster with the next number
pub posters_more : (inbox : List ℕ) (posters more : List QueuePosterOf) (x : QueuePosterOf) → ArePostersOf inbox posters → more ≡ posters ++ x ∷ []
    → x.number ≡ length posters
    → x.inbox ≡ inbox → ArePostersOf inbox more
posters_more inbox posters more x are is number same p y e =
    ⊎_elim (λ z. are p y z) (λ z. subst (λ (u : QueuePosterOf). (u.number ≡ p) × (u.inbox ≡ inbox)) z.1 (number ∙ sym z.0, same))
    (at_end posters x y p (ap (λ (l : List QueuePosterOf). slice_get l p) (sym is) ∙ e))

pub nothing_more : (posters more : List QueuePosterOf) (x : QueuePosterOf) → HavePostedNothing posters → more ≡ posters ++ x ∷ [] → x.posted ≡ []
    → HavePostedNothing more
nothing_more posters more x none is nothing p y e =
    ⊎_elim (λ z. none p y z) (λ z. ap (λ (u : QueuePosterOf). u.posted) (sym z.1) ∙ nothing)
    (at_end posters x y p (ap (λ (l : List QueuePosterOf). slice_get l p) (sym is) ∙ e))

-- what the pass of the next poster knows
pub next_is : (v first : View) (n : ℕ) → first ≡ Taker [] (replicate n None) → v ≡ next_poster first → v ≡ Poster n []
next_is v first n is next = next ∙ ap next_poster is ∙ ap (λ (k : ℕ). Poster k []) (length-replicate n None)

pub next_posting : (v first : View) (n : ℕ) → first ≡ Taker [] (replicate n None) → v ≡ next_poster first → IsPosting v n 0
next_posting v first n is next = subst (λ (u : View). IsPosting u n 0) (sym (next_is v first n is next)) (record { is_poster = refl; number_is = refl; count_is = refl })

-- ---- without the last
front_of : (l : List QueuePosterOf) (a b : QueuePosterOf) (j : ℕ) → slice_get l j ≡ Some b → slice_get (l ++ a ∷ []) j ≡ Some b
front_of [] a b j e = absurd (none_is_no_poster b e)
front_of (x ∷ xs) a b zero e = e
front_of (x ∷ xs) a b (suc j) e = front_of xs a b j e

last_of : (l : List QueuePosterOf) (a : QueuePosterOf) → slice_get (l ++ a ∷ []) (length l) ≡ Some a
last_of [] a = refl
last_of (x ∷ xs) a = last_of xs a

pub posters_last : (inbox : List ℕ) (posters rest : List QueuePosterOf) (x : QueuePosterOf) → ArePostersOf inbox posters → posters ≡ rest ++ x ∷ []
    → (x.number ≡ length rest) × (x.inbox ≡ inbox)
posters_last inbox posters rest x are is = subst (ArePostersOf inbox) is are (length rest) x (last_of rest x)

pub posters_front : (inbox : List ℕ) (posters rest : List QueuePosterOf) (x : QueuePosterOf) → ArePostersOf inbox posters → posters ≡ rest ++ x ∷ []
    → ArePostersOf inbox rest
posters_front inbox posters rest x are is p y e = subst (ArePostersOf inbox) is are p y (front_of rest x y p e)

pub nothing_last : (posters rest : List QueuePosterOf) (x : QueuePosterOf) → HavePostedNothing posters → posters ≡ rest ++ x ∷ [] → x.posted ≡ []
nothing_last posters rest x none is = subst HavePostedNothing is none (length rest) x (last_of rest x)

pub nothing_front : (posters rest : List QueuePosterOf) (x : QueuePosterOf) → HavePostedNothing posters → posters ≡ rest ++ x ∷ [] → HavePostedNothing rest
nothing_front posters rest x none is p y e = subst HavePostedNothing is none p y (front_of rest x y p e)

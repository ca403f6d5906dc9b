-- The blocks that are closed further down, the innermost last.
use Rattle.std.proofs.Common.{◌≡◌, refl, sym, ap, ◌∙◌, ℕ, suc, ◌+◌, ◌-◌, ◌<◌, ◌≤◌, List, [], ◌∷◌, ◌++◌, length, take, drop, set, get_or, reverse, arith}
use Rattle.std.proofs.lemmas.List.{reverse-append, take_all, take_more, take_more_set, length-set, nil_from_length, append_assoc, get_or_at, set_at, length-take-le}
use Rattle.std.proofs.Math.Seq.{take-suc, drop-cons}
use Rattle.sim_types.specs.declared.script.Stmt.{Stmt}
use Rattle.sim_types.specs.declared.script.Stmt.TheVariants as stmt
use Rattle.sim_language.specs.Links.{Closing, split_at, closings_then, closings, link, linked}

pub front_and_last : {A : Type 0} (xs : List A) (x : A) → 0 < length xs → x ≡ get_or xs (length xs - 1) x → xs ≡ take (length xs - 1) xs ++ x ∷ []
front_and_last xs x h e =
    sym (take_all (length xs - 1 + 1) xs (omega arith)) ∙ take_more xs (length xs - 1) x (omega arith)
    ∙ ap (λ y. take (length xs - 1) xs ++ y ∷ []) (sym e)

pub front_and_set : {A : Type 0} (xs : List A) (y : A) → 0 < length xs → set xs (length xs - 1) y ≡ take (length xs - 1) xs ++ y ∷ []
front_and_set xs y h =
    sym (take_all (length xs - 1 + 1) (set xs (length xs - 1) y) (omega (arith, length-set xs (length xs - 1) y)))
    ∙ take_more_set xs (length xs - 1) y (omega arith)

pub reverse_push : {A : Type 0} (xs : List A) (x : A) → reverse (xs ++ x ∷ []) ≡ x ∷ reverse xs
reverse_push xs x = reverse-append xs (x ∷ [])

-- the innermost is split at a place
pub split_last : (place n : ℕ) (cs : List Closing) (b : Closing) → n ≡ length cs → 0 < n → b ≡ get_or cs (n - 1) b
    → reverse (set cs (n - 1) (record { past = b.past; split = place })) ≡ split_at place (reverse cs)
split_last place n cs b l h e = rw l (from (rw l at h) (rw l at e))
  where
    from : 0 < length cs → b ≡ get_or cs (length cs - 1) b
        → reverse (set cs (length cs - 1) (record { past = b.past; split = place })) ≡ split_at place (reverse cs)
    from h e =
        ap reverse (front_and_set cs (record { past = b.past; split = place }) h) ∙ reverse_push (take (length cs - 1) cs) (record { past = b.past; split = place })
        ∙ sym (ap (λ l. split_at place (reverse l)) (front_and_last cs b h e) ∙ ap (split_at place) (reverse_push (take (length cs - 1) cs) b))

pub split_none : (place : ℕ) (cs : List Closing) → length cs ≤ 0 → reverse cs ≡ split_at place (reverse cs)
split_none place cs h = rw (nil_from_length cs (omega arith)) refl

-- which blocks are closed does not depend on where a statement goes on
pub closings_then_link : (n : ℕ) (s : Stmt) (ds cs : List Closing) → closings_then n (link s ds) cs ≡ closings_then n s cs
closings_then_link n (stmt.Loop past) ds cs = refl
closings_then_link n (stmt.Repeat times past) ds cs = refl
closings_then_link n (stmt.If test other) ds cs = refl
closings_then_link n (stmt.Else past) ds cs = refl
closings_then_link n (stmt.Try catch) ds cs = refl
closings_then_link n (stmt.Catch kind value past) ds cs = refl
closings_then_link n s ds cs = refl

-- the statement at p is linked, where those behind it are
module _ (p q : ℕ) (code first : List Stmt) (cs : List Closing) (x : Stmt)
    (is_next : q ≡ suc p) (inside : p < length first)
    (is_code_at : code ≡ take q first ++ linked q (drop q first))
    (is_stack_at : cs ≡ closings q (drop q first))
    (is_x : x ≡ get_or code p x) where
  is_code : code ≡ take (suc p) first ++ linked (suc p) (drop (suc p) first)
  is_code = rw is_next at is_code_at

  is_stack : cs ≡ closings (suc p) (drop (suc p) first)
  is_stack = rw is_next at is_stack_at

  parted : code ≡ take p first ++ get_or first p x ∷ linked (suc p) (drop (suc p) first)
  parted = is_code ∙ ap (λ l. l ++ linked (suc p) (drop (suc p) first)) (take-suc first p x inside) ∙ append_assoc (take p first) _ _

  same : x ≡ get_or first p x
  same = is_x ∙ ap (λ l. get_or l p x) parted ∙ get_or_at (take p first) _ _ x p (length-take-le p first (omega arith))

  next : drop p first ≡ x ∷ drop (suc p) first
  next = drop-cons first p x inside ∙ ap (λ y. y ∷ drop (suc p) first) (sym same)

  pub linked_more : set code p (link x cs) ≡ take p first ++ linked p (drop p first)
  linked_more =
      ap (λ l. set l p (link x cs)) parted ∙ set_at (take p first) _ _ (link x cs) p (length-take-le p first (omega arith))
      ∙ ap (λ ds. take p first ++ link x ds ∷ linked (suc p) (drop (suc p) first)) is_stack ∙ ap (λ l. take p first ++ linked p l) (sym next)

  pub closings_more : closings_then p (link x cs) cs ≡ closings p (drop p first)
  closings_more = closings_then_link p x cs cs ∙ ap (closings_then p x) is_stack ∙ ap (closings p) (sym next)

-- A value for the last poster.
use Rattle.std.proofs.Common.{◌≡◌, refl, sym, ap, ◌∙◌, ℕ, ◌-◌, ◌<◌, ◌≤◌, List, [], ◌∷◌, ◌++◌, length, take, set, get_or, arith}
use Rattle.std.proofs.lemmas.List.{nil_from_length}
use Rattle.sim_types.specs.declared.setup.Post.{Post}
use Rattle.sim_language.specs.Reads.{onto_last}
use Rattle.sim_code.proofs.Linking.{front_and_last, front_and_set}

onto_last_push : (post : Post) (front : List (List Post)) (posts : List Post) → onto_last post (front ++ posts ∷ []) ≡ front ++ (posts ++ post ∷ []) ∷ []
onto_last_push post [] posts = refl
onto_last_push post (x ∷ []) posts = refl
onto_last_push post (x ∷ y ∷ front) posts = ap (λ l. x ∷ l) (onto_last_push post (y ∷ front) posts)

pub onto_last_set : (post : Post) (n : ℕ) (posters : List (List Post)) (posts after : List Post) → n ≡ length posters → 0 < n
    → posts ≡ get_or posters (n - 1) posts → after ≡ posts ++ post ∷ [] → set posters (n - 1) after ≡ onto_last post posters
onto_last_set post n posters posts after l h e is_after = rw l (from (rw l at h) (rw l at e))
  where
    from : 0 < length posters → posts ≡ get_or posters (length posters - 1) posts → set posters (length posters - 1) after ≡ onto_last post posters
    from h e =
        front_and_set posters after h ∙ ap (λ p. take (length posters - 1) posters ++ p ∷ []) is_after
        ∙ sym (ap (onto_last post) (front_and_last posters posts h e) ∙ onto_last_push post (take (length posters - 1) posters) posts)

pub onto_none : (post : Post) (posters : List (List Post)) → length posters ≤ 0 → posters ≡ onto_last post posters
onto_none post posters h = rw (nil_from_length posters (omega arith)) refl

-- Elements that move, the last first, to the end of another list, which is then reversed.
use Rattle.std.proofs.Common.{◌≡◌, List, [], ◌∷◌, ◌++◌, reverse, sym, ap, ◌∙◌, append_assoc}
use Rattle.std.proofs.lemmas.List.{append-nil, reverse-append}

-- none has moved
pub moved_none : {A : Type 0} (all gone : List A) → gone ≡ [] → all ≡ all ++ reverse gone
moved_none {A} all gone none = sym (ap (λ (l : List A). all ++ reverse l) none ∙ append-nil all)

-- one more has moved
pub moved_more : {A : Type 0} (all rest next gone more : List A) (x : A) → all ≡ rest ++ reverse gone → rest ≡ next ++ x ∷ [] → more ≡ gone ++ x ∷ []
    → all ≡ next ++ reverse more
moved_more {A} all rest next gone more x is popped pushed =
    is ∙ ap (λ (l : List A). l ++ reverse gone) popped ∙ append_assoc next (x ∷ []) (reverse gone)
    ∙ ap (λ (l : List A). next ++ l) (sym (ap reverse pushed ∙ reverse-append gone (x ∷ [])))

-- all have moved
pub moved_all : {A : Type 0} (all rest gone turned : List A) → all ≡ rest ++ reverse gone → rest ≡ [] → turned ≡ reverse gone → turned ≡ all
moved_all {A} all rest gone turned is none reversed = reversed ∙ sym (is ∙ ap (λ (l : List A). l ++ reverse gone) none)

-- Whether two words are the same does not depend on their order.
use Rattle.std.proofs.Common.{◌≡◌, refl, sym, ap, ◌∙◌, Bool, true, false, ◌||◌, codes}
use Rattle.std.proofs.lemmas.Bool.{true≢false}
use Rattle.std.proofs.lemmas.Slice.Eq.{bytes_eq-Decides}
use Rattle.sim_language.specs.declared.form.Version.{Version}
use Rattle.sim_language.specs.declared.form.Version.TheVariants.{Two}
use Rattle.sim_language.specs.Lines.{Word, same, is_among}
use Rattle.sim_language.specs.Names.{common_words, is_reserved}

pub same_is : (v w : Word) → same v w ≡ true → v ≡ w
same_is v w h = (bytes_eq-Decides v w).0 h

same_back : (v w : Word) → same v w ≡ true → same w v ≡ true
same_back v w h = (bytes_eq-Decides w v).1 (sym (same_is v w h))

pub same_swapped : (v w : Word) → same v w ≡ same w v
same_swapped v w = by (same v w) (same w v) refl refl
  where
    by : (b c : Bool) → same v w ≡ b → same w v ≡ c → same v w ≡ same w v
    by true c e f = e ∙ sym (same_back v w e)
    by false true e f = absurd (true≢false (sym (same_back w v f) ∙ e))
    by false false e f = e ∙ sym f

-- the words of the second version, one tried behind the others
pub reserved_in_two : (version : Version) (w chain : Word) → version ≡ Two → chain ≡ codes "chain"
    → (same w chain || is_among w common_words) ≡ is_reserved version w
reserved_in_two version w chain two is = rw (two, is) (ap (λ b. b || is_among w common_words) (same_swapped w (codes "chain")))

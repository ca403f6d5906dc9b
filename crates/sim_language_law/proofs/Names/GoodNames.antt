-- Names that a faultless line cites: declared, and of the sort that is wanted.
--     sort_is           a name that is wanted has its sort
--     declared_is       a name that is no process's is declared above
use Rattle.std.specs.Prelude.{◌≡◌, refl, Bool, true, false, List, Option, Some, None, is_none}
use Rattle.std.proofs.Common.{sym, ap, ◌∙◌}
use Rattle.std.proofs.lemmas.Bool.{true≢false, not-false}
use Rattle.std.proofs.lemmas.Option.{none-some, same_Some}
use Rattle.sim_language.specs.declared.form.Sort.{Sort}
use Rattle.sim_language.specs.declared.form.Sort.TheVariants as sort
use Rattle.sim_language.specs.declared.form.Meaning.{Meaning}
use Rattle.sim_language.specs.declared.shape.Role.TheVariants.{Names}
use Rattle.sim_language.specs.Lines.{Word}
use Rattle.sim_language.specs.Named.{Named, value_of, is_named}
use Rattle.sim_language.specs.Forms.{declares_sort, same_sort}
use Rattle.sim_language.specs.AnywhereInText.{ProcessLines, WholeText}
use Rattle.sim_language.specs.Declarations.{sort_of, sort_by}
use Rattle.sim_language.specs.Places.{LineInText}
use Rattle.sim_language.specs.NameFaults.{is_other}
use Rattle.sim_language_law.proofs.Lines.CleanLines.{GoodSlot}

pub same_sort_is : (o p : Sort) → same_sort o p ≡ true → o ≡ p
same_sort_is sort.Resource sort.Resource h = refl
same_sort_is sort.Event sort.Event h = refl
same_sort_is sort.Port sort.Port h = refl
same_sort_is sort.Process sort.Process h = refl
same_sort_is o p h = absurd (true≢false (sym h))

wanted : (o : Sort) (found : Option Sort) → is_none found ≡ false → is_other o found ≡ false → found ≡ Some o
wanted o None known other = absurd (true≢false known)
wanted o (Some p) known other = ap Some (sym (same_sort_is o p (not-false (same_sort o p) other)))

pub sort_is : (whole : WholeText) (place : LineInText) (o : Sort) (w : Word) → GoodSlot whole place (record { role = Names o; word = w })
    → sort_of whole.heads place.above.declared w ≡ Some o
sort_is whole place o w good = wanted o (sort_of whole.heads place.above.declared w) good.known good.sort

pub declared_is : (heads : ProcessLines) (ds : List (Named Meaning)) (o : Sort) (w : Word) → same_sort sort.Process o ≡ false → sort_of heads ds w ≡ Some o
    → (d : Meaning) × (value_of w ds ≡ Some d) × (declares_sort d.form ≡ Some o)
declared_is heads ds o w other h = by (value_of w ds) refl h
  where
    as_head : (b : Bool) → sort_by None b ≡ Some o → same_sort sort.Process o ≡ true
    as_head true e = rw (← same_Some sort.Process o e) refl
    as_head false e = absurd (none-some o e)

    by : (found : Option Meaning) → value_of w ds ≡ found → sort_by found (is_named w heads) ≡ Some o
        → (d : Meaning) × (value_of w ds ≡ Some d) × (declares_sort d.form ≡ Some o)
    by None e sorted = absurd (true≢false (sym (as_head (is_named w heads) sorted) ∙ other))
    by (Some d) e sorted = (d, e, sorted)

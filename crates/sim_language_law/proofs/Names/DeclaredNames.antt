-- The declared names of a faultless text: as many of each sort as the scenario has, each with its number.
--     Declared ds s            so it is for the names ds that lines declare and the scenario s that they say
--     declared_nothing, declared_line      at the start, and behind each line
use Rattle.std.specs.Prelude.{◌≡◌, refl, ℕ, zero, suc, ◌+◌, ◌≤◌, ◌<◌, Bool, true, false, ◌||◌, nat_le, List, [], ◌∷◌, ◌++◌, length, filter, Option, Some, None, option_map, slice_get}
use Rattle.std.specs.List.{list_any}
use Rattle.std.proofs.Common.{arith, sym, ap, ◌∙◌, subst, ◌⊎◌, inl, inr}
use Rattle.std.proofs.lemmas.Bool.{or_parts, leb-false}
use Rattle.std.proofs.lemmas.Option.{none-some, same_Some}
use Rattle.std.proofs.lemmas.List.{length_push, length-append}
use Rattle.std.proofs.lemmas.List.Elements.{filter-append}
use Rattle.sim_types.specs.Scenarios.{ScenarioOf}
use Rattle.sim_types.specs.declared.setup.Resource.{Resource}
use Rattle.sim_types.specs.declared.setup.ResourceKind.{ResourceKind}
use Rattle.sim_language.specs.declared.form.Form.{Form}
use Rattle.sim_language.specs.declared.form.Form.TheVariants as form
use Rattle.sim_language.specs.declared.form.Meaning.{Meaning}
use Rattle.sim_language.specs.declared.form.Sort.{Sort}
use Rattle.sim_language.specs.declared.form.Sort.TheVariants as sort
use Rattle.sim_language.specs.Lines.{Word, same}
use Rattle.sim_language.specs.Named.{Named, value_of, is_named, with_one}
use Rattle.sim_language.specs.Forms.{declares_sort, same_sort}
use Rattle.sim_language.specs.Shapes.{Context, shape}
use Rattle.sim_language.specs.Declarations.{is_of_sort, is_declared_as, count_of, with_declared}
use Rattle.sim_language.specs.Places.{Above}
use Rattle.sim_language.specs.NameFaults.{declares_again}
use Rattle.sim_language.specs.LimitFaults.{most_of, sort_is_full}
use Rattle.sim_language.specs.Reads.{nothing_said}
use Rattle.sim_language_law.proofs.Operands.ByShape.{Rule, rule_all}
use Rattle.sim_language_law.proofs.Names.NamedLists.{value_of_kept, value_of_push, with_one_new}
use Rattle.sim_language_law.proofs.Lines.Additions.{Added, AResource, AnEvent, APort, AKind, put_in}
use Rattle.sim_language_law.proofs.Lines.AdditionsByForm.{sort_added, resource_kind, Told}

abbrev pub one_if : Bool → ℕ
one_if true = 1
one_if false = 0

-- ---- how many things of a sort the scenario has

abbrev pub size : Sort → ScenarioOf → ℕ
size sort.Resource s = length s.setup.resources
size sort.Event s = s.setup.events
size sort.Port s = length s.setup.ports
size sort.Process s = length s.kinds

pub size_put : (o : Sort) (a : Added) (s : ScenarioOf) → size o (put_in a s) ≡ size o s + one_if (is_of_sort o (sort_added a))
size_put sort.Resource (AResource kind capacity opening) s = length_push s.setup.resources _
size_put sort.Event AnEvent s = refl
size_put sort.Port (APort name kind) s = length_push s.setup.ports kind
size_put sort.Process (AKind kind) s = length_push s.kinds kind
size_put o a s = omega arith

-- ---- how many names of a sort are declared

pub count_push : (o : Sort) (ds : List (Named Meaning)) (d : Named Meaning) → count_of o (ds ++ d ∷ []) ≡ count_of o ds + one_if (is_declared_as o d)
count_push o ds d = ap length (filter-append (is_declared_as o) ds (d ∷ [])) ∙ (length-append (filter (is_declared_as o) ds) (filter (is_declared_as o) (d ∷ [])) ∙ ap (λ n. count_of o ds + n) (by (is_declared_as o d) refl))
  where
    by : (b : Bool) → is_declared_as o d ≡ b → length (filter (is_declared_as o) (d ∷ [])) ≡ one_if (is_declared_as o d)
    by true e = rw e refl
    by false e = rw e refl

-- ---- what a line declares

-- the names behind a line: those above, and one more if the form declares one
abbrev pub Grown : Form → Option Sort → List (Named Meaning) → List (Named Meaning) → Type 0
Grown f None ds es = es ≡ ds
Grown f (Some o) ds es = (w : Word) × (is_named w ds ≡ false) × (es ≡ ds ++ record { name = w; value = record { form = f; number = count_of o ds } } ∷ [])

one_grown : (f : Form) (o : Sort) (ds : List (Named Meaning)) (w : Word) (others : Bool) → (is_named w ds || others) ≡ false
    → Grown f (Some o) ds (with_one ds (record { name = w; value = record { form = f; number = count_of o ds } }))
one_grown f o ds w others again = let parts = or_parts (is_named w ds) others again in (w, parts.0, with_one_new ds (record { name = w; value = record { form = f; number = count_of o ds } }) parts.0)

pub grown : (context : Context) (above : Above) (f : Form)
    → Rule context [] (shape f)
    (λ slots. list_any (declares_again above) slots ≡ false → Grown f (declares_sort f) above.declared (with_declared above.declared f (declares_sort f) slots))
grown context above form.Resource = λ n c again. one_grown form.Resource sort.Resource above.declared n _ again
grown context above form.Priority = λ n c again. one_grown form.Priority sort.Resource above.declared n _ again
grown context above form.Preemptive = λ n c again. one_grown form.Preemptive sort.Resource above.declared n _ again
grown context above form.Container = λ n c o again. one_grown form.Container sort.Resource above.declared n _ again
grown context above form.Store = λ n c again. one_grown form.Store sort.Resource above.declared n _ again
grown context above form.PStore = λ n c again. one_grown form.PStore sort.Resource above.declared n _ again
grown context above form.FStore = λ n c again. one_grown form.FStore sort.Resource above.declared n _ again
grown context above form.Event = λ n again. one_grown form.Event sort.Event above.declared n _ again
grown context above form.Port = λ n p again. one_grown form.Port sort.Port above.declared n _ again
grown context above form.Process = λ n ws again. one_grown form.Process sort.Process above.declared n _ again
grown context above f = rule_all context [] (shape f) (λ slots. list_any (declares_again above) slots ≡ false → Grown f (declares_sort f) above.declared (with_declared above.declared f (declares_sort f) slots)) (λ slots again. refl)

-- what is declared keeps its meaning
pub grown_kept : (f : Form) (o : Option Sort) (ds es : List (Named Meaning)) (w : Word) (d : Meaning) → Grown f o ds es
    → value_of w ds ≡ Some d → value_of w es ≡ Some d
grown_kept f None ds es w d more h = subst (λ fs. value_of w fs ≡ Some d) (sym more) h
grown_kept f (Some o) ds es w d more h = subst (λ fs. value_of w fs ≡ Some d) (sym more.2) (value_of_kept w ds _ d h)

-- what is declared was so above, or is so by the line
pub grown_cases : (f : Form) (o : Option Sort) (ds es : List (Named Meaning)) (w : Word) (d : Meaning) → Grown f o ds es
    → value_of w es ≡ Some d → (value_of w ds ≡ Some d) ⊎ (f ≡ d.form)
grown_cases f None ds es w d more h = inl (subst (λ fs. value_of w fs ≡ Some d) more h)
grown_cases f (Some o) ds es w d more h = by (value_of_push w ds _ d (subst (λ fs. value_of w fs ≡ Some d) more.2 h))
  where
    by : (value_of w ds ≡ Some d) ⊎ ((same w more.0 ≡ true) × (record { form = f; number = count_of o ds } ≡ d)) → (value_of w ds ≡ Some d) ⊎ (f ≡ d.form)
    by (inl old) = inl old
    by (inr new) = inr (ap (λ c. c.form) new.1)

-- ---- the names and the scenario

pub record Declared (ds : List (Named Meaning)) (s : ScenarioOf) : Type 0 where
  pub sizes : (o : Sort) → size o s ≡ count_of o ds
  pub few : (o : Sort) → count_of o ds ≤ most_of o
  -- a name's number is that of a thing of its sort
  pub numbers : (w : Word) (d : Meaning) (o : Sort) → value_of w ds ≡ Some d → declares_sort d.form ≡ Some o → d.number < count_of o ds
  -- and that of a resource is of the kind that its form tells
  pub kinds : (w : Word) (d : Meaning) → value_of w ds ≡ Some d → declares_sort d.form ≡ Some sort.Resource
      → option_map (λ r. r.kind) (slice_get s.setup.resources d.number) ≡ Some (resource_kind d.form)

pub declared_nothing : Declared [] nothing_said
declared_nothing = record {
  sizes = none;
  few = λ o. omega arith;
  numbers = λ w d o h e. absurd (none-some d h);
  kinds = λ w d h e. absurd (none-some d h);
}
  where
    none : (o : Sort) → size o nothing_said ≡ 0
    none sort.Resource = refl
    none sort.Event = refl
    none sort.Port = refl
    none sort.Process = refl

-- the first of a list keep their places
kept_kind : (rs : List Resource) (r : Resource) (i : ℕ) (k : ResourceKind)
    → option_map (λ q. q.kind) (slice_get rs i) ≡ Some k → option_map (λ q. q.kind) (slice_get (rs ++ r ∷ []) i) ≡ Some k
kept_kind [] r i k h = absurd (none-some k h)
kept_kind (q ∷ rs) r zero k h = h
kept_kind (q ∷ rs) r (suc i) k h = kept_kind rs r i k h

last_kind : (rs : List Resource) (r : Resource) → option_map (λ q. q.kind) (slice_get (rs ++ r ∷ []) (length rs)) ≡ Some r.kind
last_kind [] r = refl
last_kind (q ∷ rs) r = last_kind rs r

pub kind_put : (a : Added) (s : ScenarioOf) (i : ℕ) (k : ResourceKind)
    → option_map (λ q. q.kind) (slice_get s.setup.resources i) ≡ Some k
    → option_map (λ q. q.kind) (slice_get (put_in a s).setup.resources i) ≡ Some k
kind_put (AResource kind c o) s i k h = kept_kind s.setup.resources _ i k h
kind_put a s i k h = h

new_kind : (f : Form) (a : Added) (s : ScenarioOf) → Told f a → declares_sort f ≡ Some sort.Resource
    → option_map (λ q. q.kind) (slice_get (put_in a s).setup.resources (length s.setup.resources)) ≡ Some (resource_kind f)
new_kind f a s told e = by a (told.sort ∙ e) told.made
  where
    by : (b : Added) → sort_added b ≡ Some sort.Resource → Rattle.sim_language_law.proofs.Lines.AdditionsByForm.IsMadeBy f b
        → option_map (λ q. q.kind) (slice_get (put_in b s).setup.resources (length s.setup.resources))
        ≡ Some (resource_kind f)
    by (AResource kind c o) h made = last_kind s.setup.resources _ ∙ ap Some made
    by b h made = absurd cc

few_push : (p o : Sort) (count : Sort → ℕ) → count o < most_of o → ((q : Sort) → count q ≤ most_of q) → count p + one_if (same_sort p o) ≤ most_of p
few_push sort.Resource sort.Resource count h few = omega arith
few_push sort.Event sort.Event count h few = omega arith
few_push sort.Port sort.Port count h few = omega arith
few_push sort.Process sort.Process count h few = omega arith
few_push p o count h few = let bound = few p in omega arith

same_sort_self : (o : Sort) → same_sort o o ≡ true
same_sort_self sort.Resource = refl
same_sort_self sort.Event = refl
same_sort_self sort.Port = refl
same_sort_self sort.Process = refl

declared_same : (a : Added) (ds : List (Named Meaning)) (s : ScenarioOf) → sort_added a ≡ None → Declared ds s → Declared ds (put_in a s)
declared_same a ds s e h = record {
  sizes = λ o. size_put o a s ∙ (rw e (let same : size o s + 0 ≡ size o s = omega arith in same ∙ h.sizes o));
  few = h.few;
  numbers = h.numbers;
  kinds = λ w d named sort. kind_put a s d.number (resource_kind d.form) (h.kinds w d named sort);
}

declared_more : (f : Form) (a : Added) (o : Sort) (ds es : List (Named Meaning)) (s : ScenarioOf) → Told f a
    → declares_sort f ≡ Some o → nat_le (most_of o) (count_of o ds) ≡ false → Grown f (Some o) ds es → Declared ds s
    → Declared es (put_in a s)
declared_more f a o ds es s told e full more h = record {
  sizes = λ p. size_put p a s ∙ (rw (told.sort, e) (rw (h.sizes p) (sym (counts p))));
  few = λ p. rw (counts p) (few_push p o (λ q. count_of q ds) (leb-false (most_of o) (count_of o ds) full) h.few);
  numbers = λ w d p named sort. numbers w d p (value_of_push w ds _ d (subst (λ fs. value_of w fs ≡ Some d) more.2 named)) sort;
  kinds = λ w d named sort. kinds w d (value_of_push w ds _ d (subst (λ fs. value_of w fs ≡ Some d) more.2 named)) sort;
}
  where
    meaning : Meaning
    meaning = record { form = f; number = count_of o ds }

    counts : (p : Sort) → count_of p es ≡ count_of p ds + one_if (same_sort p o)
    counts p = ap (count_of p) more.2 ∙ (count_push p ds (record { name = more.0; value = meaning }) ∙ (rw e refl))

    one_more : count_of o ds < count_of o es
    one_more = let more : count_of o es ≡ count_of o ds + 1 = counts o ∙ ap (λ b. count_of o ds + one_if b) (same_sort_self o) in omega arith

    numbers : (w : Word) (d : Meaning) (p : Sort) → (value_of w ds ≡ Some d) ⊎ ((same w more.0 ≡ true) × (meaning ≡ d))
        → declares_sort d.form ≡ Some p → d.number < count_of p es
    numbers w d p (inl known) sort = let below = h.numbers w d p known sort in omega (arith, counts p)
    numbers w d p (inr last) sort = subst (λ c. declares_sort c.form ≡ Some p → c.number < count_of p es) last.1 (λ k. subst (λ q. count_of o ds < count_of q es) (same_Some o p (sym e ∙ k)) one_more) sort

    at_end : o ≡ sort.Resource → length s.setup.resources ≡ count_of o ds
    at_end k = h.sizes sort.Resource ∙ ap (λ q. count_of q ds) (sym k)

    kinds : (w : Word) (d : Meaning) → (value_of w ds ≡ Some d) ⊎ ((same w more.0 ≡ true) × (meaning ≡ d))
        → declares_sort d.form ≡ Some sort.Resource
        → option_map (λ r. r.kind) (slice_get (put_in a s).setup.resources d.number) ≡ Some (resource_kind d.form)
    kinds w d (inl known) sort = kind_put a s d.number (resource_kind d.form) (h.kinds w d known sort)
    kinds w d (inr last) sorted = subst (λ c. declares_sort c.form ≡ Some sort.Resource → option_map (λ r. r.kind) (slice_get (put_in a s).setup.resources c.number) ≡ Some (resource_kind c.form)) last.1 (λ k. subst (λ n. option_map (λ r. r.kind) (slice_get (put_in a s).setup.resources n) ≡ Some (resource_kind f)) (at_end (same_Some o sort.Resource (sym e ∙ k))) (new_kind f a s told k)) sorted

pub declared_line : (f : Form) (a : Added) (above : Above) (es : List (Named Meaning)) (s : ScenarioOf) → Told f a
    → sort_is_full above (declares_sort f) ≡ false → Grown f (declares_sort f) above.declared es → Declared above.declared s
    → Declared es (put_in a s)
declared_line f a above es s told full more h = by (declares_sort f) refl full more
  where
    by : (o : Option Sort) → declares_sort f ≡ o → sort_is_full above o ≡ false → Grown f o above.declared es → Declared es (put_in a s)
    by None e free same = subst (λ fs. Declared fs (put_in a s)) (sym same) (declared_same a above.declared s (told.sort ∙ e) h)
    by (Some o) e free one = declared_more f a o above.declared es s told e free one h

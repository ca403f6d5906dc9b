-- The names that lines declare.
--     declared above      the names that the lines above declare, in their order
use Rattle.std.specs.Prelude.{ℕ, Bool, false, if◌then◌else◌, List, [], ◌∷◌, length, filter, Option, Some, None}
use Rattle.sim_language.specs.declared.form.Form.{Form}
use Rattle.sim_language.specs.declared.form.Meaning.{Meaning}
use Rattle.sim_language.specs.declared.form.Sort.{Sort}
use Rattle.sim_language.specs.declared.form.Sort.TheVariants as sort
use Rattle.sim_language.specs.Lines.{Word}
use Rattle.sim_language.specs.Named.{Named, value_of, with_one, is_named}
use Rattle.sim_language.specs.Forms.{declares_sort, same_sort}
use Rattle.sim_language.specs.Shapes.{Operand}
use Rattle.sim_language.specs.AnywhereInText.{ProcessLines}
use Rattle.sim_language.specs.Sayings.{TextLine, Saying, Blank, Wrong, Says}

abbrev pub is_of_sort : Sort → Option Sort → Bool
is_of_sort s None = false
is_of_sort s (Some t) = same_sort s t

abbrev pub is_declared_as : Sort → Named Meaning → Bool
is_declared_as s d = is_of_sort s (declares_sort d.value.form)

abbrev pub count_of : Sort → List (Named Meaning) → ℕ
count_of s ds = length (filter (is_declared_as s) ds)

-- one name more; a name that is there already keeps its meaning
abbrev pub with_declared : List (Named Meaning) → Form → Option Sort → List Operand → List (Named Meaning)
with_declared ds f (Some s) (slot ∷ slots) = with_one ds (record { name = slot.word; value = record { form = f; number = count_of s ds } })
with_declared ds f sort slots = ds

abbrev pub declared_behind : List (Named Meaning) → Saying → List (Named Meaning)
declared_behind ds Blank = ds
declared_behind ds (Wrong kind) = ds
declared_behind ds (Says f slots) = with_declared ds f (declares_sort f) slots

-- by the lines above, the nearest first
abbrev pub declared : List TextLine → List (Named Meaning)
declared [] = []
declared (l ∷ above) = declared_behind (declared above) l.saying

-- ---- what a word is declared as

abbrev pub sort_by : Option Meaning → Bool → Option Sort
sort_by (Some d) is_head = declares_sort d.form
sort_by None is_head = if is_head then Some sort.Process else None

-- a resource, event or port is declared from its line on, a process anywhere
abbrev pub sort_of : ProcessLines → List (Named Meaning) → Word → Option Sort
sort_of heads ds w = sort_by (value_of w ds) (is_named w heads)

abbrev pub sort_declared : List (Named Meaning) → Word → Option Sort
sort_declared ds w = by (value_of w ds)
  where
    by : Option Meaning → Option Sort
    by None = None
    by (Some d) = declares_sort d.form

abbrev pub is_event : List (Named Meaning) → Word → Bool
is_event ds w = is_of_sort sort.Event (sort_declared ds w)

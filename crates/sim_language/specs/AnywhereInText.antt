-- What a line takes from lines anywhere in its text, above it or below.
--     whole_text lines      the version of the text, its process lines, and the names that its lines declare
use Rattle.std.specs.Prelude.{ℕ, suc, Bool, false, ◌&&◌, if◌then◌else◌, List, [], ◌∷◌, map, filter_map, codes, Option, None, Some, option_map, unwrap_or}
use Rattle.std.specs.Option.{option_and_then}
use Rattle.sim_types.specs.declared.setup.Class.{Class}
use Rattle.sim_language.specs.declared.form.Sort.{Sort}
use Rattle.sim_language.specs.declared.form.Sort.TheVariants as sort
use Rattle.sim_language.specs.declared.form.Version.{Version}
use Rattle.sim_language.specs.declared.form.Version.TheVariants.{One, Two}
use Rattle.sim_language.specs.declared.shape.Ahead.{Ahead}
use Rattle.sim_language.specs.declared.shape.Ahead.TheVariants.{Undeclared, NoEvent, EventAt}
use Rattle.sim_language.specs.Lines.{Word, same, cut, words}
use Rattle.sim_language.specs.Names.{is_name}
use Rattle.sim_language.specs.Named.{Named, value_of, with_all}
use Rattle.sim_language.specs.Parameters.{parameter_class}
use Rattle.sim_language.specs.Forms.{common_first_words, declares_sort, form_at}

-- ---- the version

-- the words of the first line that has some
abbrev pub first_worded : List Word → List Word
first_worded [] = []
first_worded (l ∷ ls) = by (words (cut l)) (first_worded ls)
  where
    by : List Word → List Word → List Word
    by [] below = below
    by (w ∷ ws) below = w ∷ ws

abbrev pub is_second_header : List Word → Bool
is_second_header (v ∷ w ∷ []) = same v (codes "scenario") && same w (codes "2")
is_second_header ws = false

-- a text that begins with `scenario 2` is of the second version
abbrev pub version_of : List Word → Version
version_of ls = if is_second_header (first_worded ls) then Two else One

-- ---- the process lines

-- the process lines of a text, each with the classes of its parameters
abbrev pub ProcessLines : Type 0
ProcessLines = List (Named (List Class))

-- the parameters of a process; none where no process has the name
abbrev pub parameters : ProcessLines → Word → List Class
parameters heads name = unwrap_or (value_of name heads) []

-- a line whose first word is `process` and whose second is a name declares a process; its parameters are the further words
abbrev pub head_of : Version → List Word → Option (Named (List Class))
head_of version (p ∷ name ∷ params) = if same p (codes "process") && is_name version name then Some (record { name = name; value = map parameter_class params }) else None
head_of version other = None

-- each process by the first line that declares it
abbrev pub heads_of : Version → List Word → ProcessLines
heads_of version ls = with_all [] (filter_map (λ l. head_of version (words (cut l))) ls)

-- ---- the names that lines declare

-- what a line with this first word declares, if it declares something
abbrev pub sort_begun : Word → Option Sort
sort_begun w = option_and_then declares_sort (form_at w common_first_words)

-- its second word is the name
abbrev pub declaration : List Word → Option (Named Sort)
declaration (w ∷ name ∷ rest) = option_map (λ s. record { name = name; value = s }) (sort_begun w)
declaration other = None

abbrev pub declarations : List Word → List (Named Sort)
declarations ls = filter_map (λ l. declaration (words (cut l))) ls

abbrev pub ahead_here : Sort → Ahead
ahead_here sort.Event = EventAt 0
ahead_here s = NoEvent

-- events are counted in the order of their lines
abbrev pub ahead_behind : Sort → Ahead → Ahead
ahead_behind sort.Event (EventAt n) = EventAt (suc n)
ahead_behind s a = a

-- what the first line that declares the name declares it as
abbrev pub ahead : Word → List (Named Sort) → Ahead
ahead w [] = Undeclared
ahead w (d ∷ ds) = if same w d.name then ahead_here d.value else ahead_behind d.value (ahead w ds)

-- ---- all of it

pub record WholeText : Type 0 where
  pub version : Version
  pub heads : ProcessLines
  pub declarations : List (Named Sort)

abbrev pub whole_text : List Word → WholeText
whole_text ls = let version : Version = version_of ls in record { version = version; heads = heads_of version ls; declarations = declarations ls }

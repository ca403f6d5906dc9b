-- What a word is by itself, as the code keeps it beside the word.
use Rattle.std.specs.Prelude.{if◌then◌else◌, codes, ℤ, Option, Some, None}
use Rattle.sim_language.specs.Lines.{Word, same}
use Rattle.sim_language.specs.Numbers.{literal}
use Rattle.sim_lines.specs.declared.word_kind.WordKind.{WordKind}
use Rattle.sim_lines.specs.declared.word_kind.WordKind.TheVariants.{Number, Now, Val, Me, Infinite, Other}

-- the kind of a word that is no literal
abbrev pub fixed_kind : Word → WordKind
fixed_kind w =
    if same w (codes "now") then Now
    else (if same w (codes "val") then Val
    else (if same w (codes "me") then Me
    else (if same w (codes "inf") then Infinite else Other)))

abbrev pub kind_of : Word → WordKind
kind_of w = by (literal w)
  where
    by : Option ℤ → WordKind
    by None = fixed_kind w
    by (Some n) = Number n

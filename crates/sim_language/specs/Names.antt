-- Names: 1 to 32 small letters, digits and '_', the first a letter, and no word of the language in the text's version.
use Rattle.std.specs.Prelude.{ℕ, Bool, false, not, ◌||◌, ◌&&◌, ◌==◌, nat_le, List, [], ◌∷◌, length, codes}
use Rattle.std.specs.List.{list_all}
use Rattle.sim_language.specs.declared.form.Version.{Version}
use Rattle.sim_language.specs.declared.form.Version.TheVariants.{One, Two}
use Rattle.sim_language.specs.Lines.{Word, pieces, is_blank, is_among}
use Rattle.sim_language.specs.Numbers.{is_digit}

abbrev pub is_small_letter : ℕ → Bool
is_small_letter c = nat_le 97 c && nat_le c 122

-- a byte that a name may have behind its first
abbrev pub may_stand_in_name : ℕ → Bool
may_stand_in_name c = is_small_letter c || is_digit c || (c == 95)

-- the words of both versions of the language
abbrev pub common_words : List Word
common_words = pieces is_blank (codes "scenario until seed resource priority preemptive container store pstore fstore event port process end start let count timeout wait succeed fail all any has spawn interrupt drop raise finish with request preempt release put get cancel loop repeat if else try catch break log draw journal poster after now val me inf empty min max proc")

-- `chain` is a word of the second version alone
abbrev pub reserved : Version → List Word
reserved One = common_words
reserved Two = codes "chain" ∷ common_words

abbrev pub is_reserved : Version → Word → Bool
is_reserved version w = is_among w (reserved version)

abbrev pub is_spelled : Word → Bool
is_spelled [] = false
is_spelled (c ∷ cs) = is_small_letter c && nat_le (length cs) 31 && list_all may_stand_in_name cs

abbrev pub is_name : Version → Word → Bool
is_name version w = is_spelled w && not (is_reserved version w)

-- Numbers as words.
--     literal_within low high w      an optional '-' and 1 to 19 digits, where the number is in this range
--     decimal_within low high w      1 to 8 digits, where the number is in this range, for the words of a command
use Rattle.std.specs.Prelude.{ℕ, ◌+◌, ◌-◌, ◌*◌, ◌^◌, Bool, false, ◌||◌, ◌&&◌, ◌==◌, if◌then◌else◌, nat_le, [], ◌∷◌, length, ℤ, pos, neg_ℤ, Option, Some, None, option_map}
use Rattle.std.specs.Int.Signed.{le_z}
use Rattle.std.specs.List.{list_all}
use Rattle.sim_language.specs.Lines.{Word}

abbrev pub is_digit : ℕ → Bool
is_digit c = nat_le 48 c && nat_le c 57

-- between one digit and so many, and nothing else
abbrev pub is_number : ℕ → Word → Bool
is_number most w = nat_le 1 (length w) && nat_le (length w) most && list_all is_digit w

-- the number that digits write behind those of n
abbrev pub number_after : ℕ → Word → ℕ
number_after n [] = n
number_after n (c ∷ cs) = number_after (n * 10 + (c - 48)) cs

-- the number that at most so many digits write, if the word is one
abbrev pub number : ℕ → Word → Option ℕ
number most w = if is_number most w then Some (number_after 0 w) else None

-- ---- literals

-- the number with its sign, if the word is one
abbrev pub signed : Word → Option ℤ
signed [] = None
signed (c ∷ cs) = if c == 45 then option_map (λ n. neg_ℤ (pos n)) (number 19 cs) else option_map pos (number 19 (c ∷ cs))

-- the number, where it lies from low to high
abbrev pub between : ℤ → ℤ → Option ℤ → Option ℤ
between low high None = None
between low high (Some n) = if le_z low n && le_z n high then Some n else None

abbrev pub literal_within : ℤ → ℤ → Word → Option ℤ
literal_within low high w = between low high (signed w)

-- the numbers of 64 bits with a sign
abbrev pub least : ℤ
least = neg_ℤ (pos (2 ^ 63))

abbrev pub greatest : ℤ
greatest = pos (2 ^ 63 - 1)

abbrev pub literal : Word → Option ℤ
literal = literal_within least greatest

-- the word begins as a number does: with a digit or '-'
abbrev pub looks_numeric : Word → Bool
looks_numeric [] = false
looks_numeric (c ∷ cs) = (c == 45) || is_digit c

-- ---- numbers of a command
abbrev pub within : ℕ → ℕ → Option ℕ → Option ℕ
within low high None = None
within low high (Some n) = if nat_le low n && nat_le n high then Some n else None

abbrev pub decimal_within : ℕ → ℕ → Word → Option ℕ
decimal_within low high w = within low high (number 8 w)

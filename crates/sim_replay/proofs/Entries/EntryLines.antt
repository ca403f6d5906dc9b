-- The lines of a journal as it is written: what they say.
--     journal_said      the first line
--     entries_said      the lines of the entries
use Rattle.std.proofs.Common.{◌≡◌, refl, sym, ap, ap₂, subst, ◌∙◌, ℕ, suc, ◌+◌, ◌<◌, ◌≤◌, ◌^◌, Bool, true, false, not, ◌&&◌, ◌||◌, ◌==◌, nat_le, nat_lt, List, [], ◌∷◌, length, map, decimal, codes, ℤ, pos, Some, arith}
use Rattle.std.specs.Prelude.{negsuc, nat_abs}
use Rattle.std.specs.Fmt.{signed_decimal}
use Rattle.std.specs.Int.Signed.{le_z}
use Rattle.std.specs.List.{All, join_with_byte, list_all}
use Rattle.std.proofs.lemmas.List.Elements.{All-head, All-tail}
use Rattle.std.proofs.lemmas.Bool.{false≢true, and_parts, and_from, le-leb, leb-true, lt-ltb, le-ltb, eqb-true}
use Rattle.std.proofs.lemmas.Int.{ints}
use Rattle.std.proofs.lemmas.Fmt.{decimal_nonempty, length-decimal-le}
use Rattle.sim_types.specs.Limits.{last_time}
use Rattle.sim_types.specs.Setups.{is_within}
use Rattle.sim_types.specs.declared.setup.Arrival.{Arrival}
use Rattle.sim_language.specs.declared.form.Form.TheVariants as form
use Rattle.sim_language.specs.declared.form.Section.TheVariants.{InJournal}
use Rattle.sim_language.specs.declared.form.Sort.TheVariants as sort
use Rattle.sim_language.specs.declared.form.Version.{Version}
use Rattle.sim_language.specs.declared.form.Version.TheVariants.{One, Two}
use Rattle.sim_language.specs.declared.shape.Role.TheVariants.{Within, Names}
use Rattle.sim_language.specs.Lines.{Word, cut, words, is_empty}
use Rattle.sim_language.specs.Numbers.{is_digit, literal_within, literal, least, greatest}
use Rattle.sim_language.specs.Names.{is_small_letter, may_stand_in_name, is_spelled, is_reserved, is_name}
use Rattle.sim_language.specs.Shapes.{Operand, any_literal}
use Rattle.sim_language.specs.AnywhereInText.{WholeText}
use Rattle.sim_language.specs.Sayings.{TextLine, Saying, Says, Setting, saying, line_of, setting_behind, lines_from}
use Rattle.sim_trace.specs.Texts.{port_word}
use Rattle.sim_language_law.proofs.Lines.LineByLine.{line}
use Rattle.sim_replay.proofs.Entries.WrittenNumbers.{digits_written, literal_written}
use Rattle.sim_replay.proofs.Entries.WordsOfLines.{is_plain, all_more, is_plain_word, words_joined, text_joined, cut_joined, length_joined}
use Rattle.sim_replay.proofs.Sections.PlainLines.{in_plain}
use Rattle.sim_language_law.proofs.Scenarios.PostsOfScenarios.{spelled_short}

-- ---- plain words

digit_plain : (c : ℕ) → is_digit c ≡ true → is_plain c ≡ true
digit_plain c h =
    let parts = and_parts (nat_le 48 c) (nat_le c 57) h in
    let low = leb-true 48 c parts.0 in
    let high = leb-true c 57 parts.1 in
    and_from (nat_lt 35 c) (nat_le c 126) (lt-ltb 35 c (omega arith)) (le-leb c 126 (omega arith))

letter_plain : (c : ℕ) → is_small_letter c ≡ true → is_plain c ≡ true
letter_plain c h =
    let parts = and_parts (nat_le 97 c) (nat_le c 122) h in
    let low = leb-true 97 c parts.0 in
    let high = leb-true c 122 parts.1 in
    and_from (nat_lt 35 c) (nat_le c 126) (lt-ltb 35 c (omega arith)) (le-leb c 126 (omega arith))

name_byte_plain : (c : ℕ) → may_stand_in_name c ≡ true → is_plain c ≡ true
name_byte_plain c h = by (is_small_letter c) refl (is_digit c) refl (c == 95) refl h
  where
    by : (a : Bool) → is_small_letter c ≡ a → (b : Bool) → is_digit c ≡ b → (d : Bool) → (c == 95) ≡ d → (a || b || d) ≡ true → is_plain c ≡ true
    by true e b f d g some = letter_plain c e
    by false e true f d g some = digit_plain c f
    by false e false f true g some = subst (λ x. is_plain x ≡ true) (sym (eqb-true c 95 g)) refl
    by false e false f false g some = absurd (false≢true some)

some_word : (w : Word) → 0 < length w → not (is_empty w) ≡ true
some_word [] h = absurd (omega (arith, h))
some_word (c ∷ w) h = refl

decimal_plain : (n : ℕ) → n < 2 ^ 64 → is_plain_word (decimal n) ≡ true
decimal_plain n h =
    and_from _ _ (some_word (decimal n) (decimal_nonempty n h)) (all_more is_digit is_plain digit_plain (decimal n) (digits_written n h))

-- how great the numbers of a literal are
magnitude : (z : ℤ) → is_within least greatest z ≡ true → nat_abs z < 2 ^ 63 + 1
magnitude z h = let parts = and_parts (le_z least z) (le_z z greatest) h in grind (arith, ints, parts.0, parts.1)

signed_plain : (z : ℤ) → is_within least greatest z ≡ true → is_plain_word (signed_decimal z) ≡ true
signed_plain (pos n) h = let small = magnitude (pos n) h in decimal_plain n (omega (arith, small))
signed_plain (negsuc n) h =
    let small = magnitude (negsuc n) h in
    (and_parts (not (is_empty (decimal (suc n)))) _ (decimal_plain (suc n) (omega (arith, small)))).1

spelled_plain : (w : Word) → is_spelled w ≡ true → is_plain_word w ≡ true
spelled_plain [] h = absurd (false≢true h)
spelled_plain (c ∷ cs) h =
    let parts = and_parts (is_small_letter c && nat_le (length cs) 31) (list_all may_stand_in_name cs) h in
    and_from _ _ (letter_plain c (and_parts (is_small_letter c) _ parts.0).0) (all_more may_stand_in_name is_plain name_byte_plain cs parts.1)

-- ---- lengths

signed_short : (z : ℤ) → is_within least greatest z ≡ true → length (signed_decimal z) ≤ 21
signed_short (pos n) h =
    let small = magnitude (pos n) h in
    let few = length-decimal-le 19 n (omega arith) (omega (arith, small)) (omega (arith, small)) in
    omega (arith, few)
signed_short (negsuc n) h =
    let small = magnitude (negsuc n) h in
    let few = length-decimal-le 19 (suc n) (omega arith) (omega (arith, small)) (omega (arith, small)) in
    omega (arith, few)

-- ---- an entry

-- its numbers are in their ranges, and its port has a name
pub record GoodEntry (version : Version) (ports : List Word) (a : Arrival) : Type 0 where
  pub after : a.after ≤ 2 ^ 62
  pub poster : a.poster < 16
  pub serial : a.serial < 65536
  pub name : is_name version (port_word ports a.port) ≡ true
  pub value : is_within least greatest a.value ≡ true

abbrev pub entry_slots : List Word → Arrival → List Operand
entry_slots ports a =
    record { role = Within (pos 0) last_time; word = decimal a.after }
    ∷ record { role = Within (pos 0) (pos 15); word = decimal a.poster }
    ∷ record { role = Within (pos 0) (pos 65535); word = decimal a.serial }
    ∷ record { role = Names sort.Port; word = port_word ports a.port }
    ∷ record { role = any_literal; word = signed_decimal a.value } ∷ []

-- the words behind `after`
abbrev pub words_behind : List Word → Arrival → List Word
words_behind ports a = decimal a.after ∷ decimal a.poster ∷ decimal a.serial ∷ port_word ports a.port ∷ signed_decimal a.value ∷ []

abbrev pub arrival_words : List Word → Arrival → List Word
arrival_words ports a = codes "after" ∷ words_behind ports a

abbrev pub entry_line : List Word → Arrival → TextLine
entry_line ports a = line (arrival_words ports a) (Says form.After (entry_slots ports a))

-- its line, as it is written
abbrev pub entry_written : List Word → Arrival → Word
entry_written ports a = join_with_byte 32 (arrival_words ports a)

-- a natural number in its range is read as itself
natural_within : (m n : ℕ) → n ≤ m → is_within (pos 0) (pos m) (pos n) ≡ true
natural_within m n h = grind (arith, ints, h)

natural_small : (n : ℕ) → n ≤ 2 ^ 62 → is_within least greatest (pos n) ≡ true
natural_small n h = grind (arith, ints, h)

pub natural_read : (m n : ℕ) → n ≤ m → m ≤ 2 ^ 62 → literal_within (pos 0) (pos m) (decimal n) ≡ Some (pos n)
natural_read m n h few = literal_written (pos 0) (pos m) (pos n) (natural_small n (omega (arith, h, few))) (natural_within m n h)

module _ (version : Version) (ports : List Word) (a : Arrival) (good : GoodEntry version ports a) where
  spelled : is_spelled (port_word ports a.port) ≡ true
  spelled = (and_parts (is_spelled (port_word ports a.port)) (not (is_reserved version (port_word ports a.port))) good.name).0

  pub entry_plain : list_all is_plain_word (arrival_words ports a) ≡ true
  entry_plain =
      let after = good.after in
      let poster = good.poster in
      let serial = good.serial in
      rw (
        decimal_plain a.after (omega (arith, after)),
        decimal_plain a.poster (omega (arith, poster)),
        decimal_plain a.serial (omega (arith, serial)),
        spelled_plain (port_word ports a.port) spelled,
        signed_plain a.value good.value,
      ) refl

  pub entry_short : length (entry_written ports a) ≤ 200
  entry_short =
      let after = good.after in
      let poster = good.poster in
      let serial = good.serial in
      let k = length-decimal-le 20 a.after (omega arith) (omega (arith, after)) (omega (arith, after)) in
      let p = length-decimal-le 20 a.poster (omega arith) (omega (arith, poster)) (omega (arith, poster)) in
      let n = length-decimal-le 20 a.serial (omega arith) (omega (arith, serial)) (omega (arith, serial)) in
      let name = spelled_short (port_word ports a.port) spelled in
      let value = signed_short a.value good.value in
      let five = length_joined 32 (port_word ports a.port) (signed_decimal a.value) [] name in
      let four = length_joined 20 (decimal a.serial) (port_word ports a.port) (signed_decimal a.value ∷ []) n in
      let three = length_joined 20 (decimal a.poster) (decimal a.serial) (port_word ports a.port ∷ signed_decimal a.value ∷ []) p in
      let two = length_joined 20 (decimal a.after) (decimal a.poster) (decimal a.serial ∷ port_word ports a.port ∷ signed_decimal a.value ∷ []) k in
      let one = length_joined 5 (codes "after") (decimal a.after)
      (decimal a.poster ∷ decimal a.serial ∷ port_word ports a.port ∷ signed_decimal a.value ∷ []) (omega arith) in
      omega (arith, one, two, three, four, five, value)

  pub after_read : literal_within (pos 0) last_time (decimal a.after) ≡ Some (pos a.after)
  after_read = natural_read (2 ^ 62) a.after good.after (omega arith)

  poster_read : literal_within (pos 0) (pos 15) (decimal a.poster) ≡ Some (pos a.poster)
  poster_read = let h = good.poster in natural_read 15 a.poster (omega (arith, h)) (omega arith)

  serial_read : literal_within (pos 0) (pos 65535) (decimal a.serial) ≡ Some (pos a.serial)
  serial_read = let h = good.serial in natural_read 65535 a.serial (omega (arith, h)) (omega arith)

  pub after_literal : literal (decimal a.after) ≡ Some (pos a.after)
  after_literal = literal_written least greatest (pos a.after) (natural_small a.after good.after) (natural_small a.after good.after)

  pub poster_literal : literal (decimal a.poster) ≡ Some (pos a.poster)
  poster_literal =
      let h = good.poster in
      let small = natural_small a.poster (omega (arith, h)) in
      literal_written least greatest (pos a.poster) small small

  pub serial_literal : literal (decimal a.serial) ≡ Some (pos a.serial)
  serial_literal =
      let h = good.serial in
      let small = natural_small a.serial (omega (arith, h)) in
      literal_written least greatest (pos a.serial) small small

  pub value_read : literal_within least greatest (signed_decimal a.value) ≡ Some a.value
  value_read = literal_written least greatest a.value good.value good.value

-- ---- what the lines say

-- a line, from the words that are left of it
line_is : (s : Setting) (l c : Word) (ws : List Word) (said : Saying) → cut l ≡ c → words c ≡ ws → saying s c ws ≡ said → line_of s l ≡ line ws said
line_is s l c ws said e f g = rw (e, f, g) refl

line_then : (s : Setting) (l : Word) (ls ws : List Word) → words (cut l) ≡ ws → setting_behind ws s ≡ s
    → lines_from s (l ∷ ls) ≡ line_of s l ∷ lines_from s ls
line_then s l ls ws e f = ap (λ t. line_of s l ∷ lines_from t ls) (ap (λ vs. setting_behind vs s) e ∙ f)

-- the setting of the lines behind `journal`
abbrev pub in_journal : WholeText → Setting
in_journal whole = record { whole = whole; section = InJournal; posters = 0 }

-- the lines of a journal
abbrev pub journal_lines : List Word → List Arrival → List TextLine
journal_lines ports entries = line (codes "journal" ∷ []) (Says form.Journal []) ∷ map (entry_line ports) entries

module _ (whole : WholeText) where
  first_said : (version : Version) → version ≡ whole.version
      → saying (in_plain whole) (codes "journal") (codes "journal" ∷ []) ≡ Says form.Journal []
  first_said One e = rw (← e) refl
  first_said Two e = rw (← e) refl

  entry_said : (ports : List Word) (a : Arrival) → GoodEntry whole.version ports a
      → saying (in_journal whole) (entry_written ports a) (arrival_words ports a) ≡ Says form.After (entry_slots ports a)
  entry_said ports a good =
      rw (
        text_joined (codes "after") (words_behind ports a) (entry_plain whole.version ports a good),
        le-ltb 200 (length (entry_written ports a)) (entry_short whole.version ports a good),
        after_read whole.version ports a good,
        poster_read whole.version ports a good,
        serial_read whole.version ports a good,
        value_read whole.version ports a good,
        good.name,
      ) refl

  -- the words of an entry, as it is written
  entry_words : (ports : List Word) (a : Arrival) → GoodEntry whole.version ports a → words (cut (entry_written ports a)) ≡ arrival_words ports a
  entry_words ports a good =
      let plain = entry_plain whole.version ports a good in
      ap words {x = cut (entry_written ports a)} {y = entry_written ports a} (cut_joined (codes "after") (words_behind ports a) plain)
      ∙ words_joined (codes "after") (words_behind ports a) plain

  entry_line_of : (ports : List Word) (a : Arrival) → GoodEntry whole.version ports a
      → line_of (in_journal whole) (entry_written ports a) ≡ entry_line ports a
  entry_line_of ports a good =
      let plain = entry_plain whole.version ports a good in
      line_is (in_journal whole) (entry_written ports a) (entry_written ports a) (arrival_words ports a) (Says form.After (entry_slots ports a))
      (cut_joined (codes "after") (words_behind ports a) plain) (words_joined (codes "after") (words_behind ports a) plain) (entry_said ports a good)

  pub entries_said : (ports : List Word) (entries : List Arrival) → All (GoodEntry whole.version ports) entries
      → lines_from (in_journal whole) (map (entry_written ports) entries) ≡ map (entry_line ports) entries
  entries_said ports [] good = refl
  entries_said ports (a ∷ entries) good =
      let here = All-head (GoodEntry whole.version ports) a entries good in
      let rest = entries_said ports entries (All-tail (GoodEntry whole.version ports) a entries good) in
      line_then (in_journal whole) (entry_written ports a) (map (entry_written ports) entries) (arrival_words ports a)
      (entry_words ports a here) refl
      ∙ ap₂ (λ l ls. l ∷ ls) (entry_line_of ports a here) rest

  pub all_said : (ports : List Word) (entries : List Arrival) → All (GoodEntry whole.version ports) entries
      → lines_from (in_plain whole) (codes "journal" ∷ map (entry_written ports) entries) ≡ journal_lines ports entries
  all_said ports entries good = rw (first_said whole.version refl, entries_said ports entries good) refl

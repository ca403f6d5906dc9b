-- The text of the shop is a scenario, whatever its size.
--     no_fault          its lines have no fault
--     shop_is_read      the text of each size says a scenario
use Rattle.std.proofs.Common.{◌≡◌, refl, ℕ, ◌*◌, ◌^◌, ◌<◌, ◌≤◌, true, false, List, [], ◌∷◌, ◌++◌, take, drop, length, decimal, sym, subst, ap, ◌∙◌, arith, None, Option, IsOk}
use Rattle.std.specs.List.{list_all}
use Rattle.std.proofs.lemmas.Bool.Decides.{nat_tests}
use Rattle.sim_types.specs.declared.fault.Fault.{Fault}
use Rattle.sim_language.specs.Lines.{Word, is_line_feed, lines}
use Rattle.sim_language.specs.AnywhereInText.{ProcessLines, whole_text}
use Rattle.sim_language.specs.Sayings.{TextLine, line_of, lines_from, setting_behind}
use Rattle.sim_language.specs.Places.{places}
use Rattle.sim_language.specs.Reads.{is_too_long, reads_lines, reads_text, reads}
use Rattle.sim_language.specs.Faults.{first_fault, end_fault}
use Rattle.sim_shop.specs.Shop.{setup_lines, breaker_lines, machine_lines, filler_lines, chief_lines, shop_lines, shop_text, text_of_lines, crews_of}
use Rattle.sim_shop.proofs.Numerals.{IsNumeral, decimal_is_numeral, has_no_line_feed}
use Rattle.sim_shop.proofs.Pieces.{is_one_piece}
use Rattle.sim_shop.proofs.LinesOfTexts.{lines_back, is_short, few_bytes}
use Rattle.sim_shop.proofs.NumberedLines.{crews_text, count_text, shop_whole, in_shop, crews_line, count_line, crews_cut_to, count_cut_to, crews_said, count_said}

-- ---- its lines but for the three in which a number stands

abbrev first_lines : List Word
first_lines = take 3 (setup_lines [])

abbrev process_lines : List Word
process_lines = breaker_lines ++ (machine_lines ++ (filler_lines ++ take 1 (chief_lines [] [])))

abbrev spawning_lines : List Word
spawning_lines = take 3 (drop 2 (chief_lines [] []))

abbrev last_lines : List Word
last_lines = drop 6 (chief_lines [] [])

-- ---- what they say

abbrev said : List Word → List TextLine
said ls = lines_from in_shop ls

abbrev shop_said : Word → Word → List TextLine
shop_said crews machines =
    said first_lines ++ (crews_line crews
    ∷ (said process_lines ++ (count_line crews
    ∷ (said spawning_lines ++ (count_line machines
    ∷ said last_lines)))))

-- the lines below are in the same setting
next_line : (l : Word) (below : List Word) (line : TextLine) → line_of in_shop l ≡ line → setting_behind line.words in_shop ≡ in_shop
    → said (l ∷ below) ≡ line ∷ said below
next_line l below line e stays =
    ap (λ k. k ∷ lines_from (setting_behind k.words in_shop) below) e ∙ ap (λ s. line ∷ lines_from s below) stays

abbrev fault_in : ProcessLines → List TextLine → Option Fault
fault_in heads ls = first_fault heads (places 1 [] ls) (end_fault ls)

-- whatever the numbers are
no_fault : (crews machines : Word) → fault_in shop_whole.heads (shop_said crews machines) ≡ None
no_fault crews machines = refl

faultless_is_read : (heads : ProcessLines) (ls : List TextLine) → fault_in heads ls ≡ None → IsOk (reads_lines heads ls)
faultless_is_read heads ls none = rw none refl

said_is_read : (crews machines : Word) → IsOk (reads_lines shop_whole.heads (shop_said crews machines))
said_is_read crews machines = faultless_is_read shop_whole.heads (shop_said crews machines) (no_fault crews machines)

-- ---- the text

text_is_read : (text : List ℕ) (ls : List Word) → is_too_long text ≡ false → lines text ≡ ls → whole_text ls ≡ shop_whole
    → IsOk (reads_lines shop_whole.heads (said ls)) → IsOk (reads text)
text_is_read text ls short e whole read = rw (short, e) (subst (λ w. IsOk (reads_text w ls)) (sym whole) read)

module _ (crews machines : Word) (c n : ℕ) (p : IsNumeral crews c) (q : IsNumeral machines n) where
  whole_alike : whole_text (shop_lines crews machines) ≡ shop_whole
  whole_alike = rw (crews_cut_to crews c p, count_cut_to crews c p, count_cut_to machines n q) refl

  lines_said : 0 < c → said (shop_lines crews machines) ≡ shop_said crews machines
  lines_said some =
      let third : List Word = spawning_lines ++ count_text machines ∷ last_lines in
      let second : List Word = process_lines ++ count_text crews ∷ third in
      ap (λ below. said first_lines ++ below)
      (next_line (crews_text crews) second (crews_line crews) (crews_said crews c p some) refl
      ∙ ap (λ below. crews_line crews ∷ (said process_lines ++ below))
      (next_line (count_text crews) third (count_line crews) (count_said crews c p) refl
      ∙ ap (λ below. count_line crews ∷ (said spawning_lines ++ below))
      (next_line (count_text machines) last_lines (count_line machines) (count_said machines n q) refl)))

  one_line_each : list_all (is_one_piece is_line_feed) (shop_lines crews machines) ≡ true
  one_line_each = rw (has_no_line_feed crews c p, has_no_line_feed machines n q) refl

  short_lines : list_all is_short (shop_lines crews machines) ≡ true
  short_lines =
      let setup : is_short (crews_text crews) ≡ true = grind (arith, nat_tests, p.few) in
      let fillers : is_short (count_text crews) ≡ true = grind (arith, nat_tests, p.few) in
      let counted : is_short (count_text machines) ≡ true = grind (arith, nat_tests, q.few) in
      rw (setup, fillers, counted) refl

  not_too_long : is_too_long (text_of_lines (shop_lines crews machines)) ≡ false
  not_too_long =
      let few : length (text_of_lines (shop_lines crews machines)) ≤ 201 * 61 = few_bytes (shop_lines crews machines) short_lines in
      grind (arith, nat_tests, few)

  numbered_is_read : 0 < c → IsOk (reads (text_of_lines (shop_lines crews machines)))
  numbered_is_read some =
      let ls : List Word = shop_lines crews machines in
      let read : IsOk (reads_lines shop_whole.heads (said ls)) =
      subst (λ k. IsOk (reads_lines shop_whole.heads k)) (sym (lines_said some)) (said_is_read crews machines) in
      text_is_read (text_of_lines ls) ls not_too_long (lines_back ls one_line_each) whole_alike read

pub shop_is_read : (size : ℕ) → size < 2 ^ 32 → IsOk (reads (shop_text size))
shop_is_read size small =
    let crews : IsNumeral (decimal (crews_of size)) (crews_of size) = decimal_is_numeral (crews_of size) (omega arith) in
    numbered_is_read (decimal (crews_of size)) (decimal size) (crews_of size) size crews (decimal_is_numeral size small) (omega arith)

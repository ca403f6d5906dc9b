-- The lines that a text is made of.
--     lines_back      are its lines
--     few_bytes       of so many bytes a line, the text has no more than so many
use Rattle.std.proofs.Common.{◌≡◌, refl, ◌*◌, ◌≤◌, Bool, true, List, [], ◌∷◌, length, nat_le, ap, ◌∙◌, arith, length-append}
use Rattle.std.specs.List.{list_all}
use Rattle.std.proofs.lemmas.Bool.{and_parts}
use Rattle.std.proofs.lemmas.Bool.Decides.{nat_tests}
use Rattle.sim_language.specs.Lines.{Word, is_line_feed, lines}
use Rattle.sim_shop.specs.Shop.{text_of_lines}
use Rattle.sim_shop.proofs.Pieces.{is_one_piece, piece_ended}

pub lines_back : (ls : List Word) → list_all (is_one_piece is_line_feed) ls ≡ true → lines (text_of_lines ls) ≡ ls
lines_back [] h = refl
lines_back (l ∷ ls) h =
    let parts = and_parts (is_one_piece is_line_feed l) (list_all (is_one_piece is_line_feed) ls) h in
    piece_ended is_line_feed l (text_of_lines ls) 10 parts.0 refl ∙ ap (λ more. l ∷ more) (lines_back ls parts.1)

abbrev pub is_short : Word → Bool
is_short l = nat_le (length l) 200

pub few_bytes : (ls : List Word) → list_all is_short ls ≡ true → length (text_of_lines ls) ≤ 201 * length ls
few_bytes [] h = omega arith
few_bytes (l ∷ ls) h =
    let parts = and_parts (is_short l) (list_all is_short ls) h in
    grind (arith, nat_tests, length-append l (10 ∷ text_of_lines ls), few_bytes ls parts.1, parts.0)

-- Lines on some things in a row, each with its number.
--     lines_next        the lines on the first ones, with the next one
--     lines_parted      the lines on the first ones, and on all others
use Rattle.std.proofs.Common.{◌≡◌, ℕ, zero, suc, ◌+◌, ◌<◌, List, [], ◌∷◌, ◌++◌, length, take, drop, refl, sym, ap, ◌∙◌, append_assoc, append-nil, arith}
use Rattle.std.specs.Prelude.{slice_index_or}
use Rattle.std.proofs.lemmas.List.{length-take-le, take_more}
use Rattle.sim_trace.specs.SummaryTexts.{numbered}

module _ {X : Type 0} (text : ℕ → X → List ℕ) where
  line_behind : (from : ℕ) (xs : List X) (x : X) → numbered text from (xs ++ x ∷ []) ≡ numbered text from xs ++ text (from + length xs) x
  line_behind from [] x = append-nil (text from x) ∙ ap (λ n. text n x) (omega arith)
  line_behind from (y ∷ xs) x =
      ap (λ more. text from y ++ more) (line_behind (from + 1) xs x ∙ ap (λ n. numbered text (from + 1) xs ++ text n x) (omega arith))
      ∙ sym (append_assoc (text from y) (numbered text (from + 1) xs) (text (from + length (y ∷ xs)) x))

  pub lines_next : (xs : List X) (k : ℕ) (d : X) → k < length xs
      → numbered text 0 (take (k + 1) xs) ≡ numbered text 0 (take k xs) ++ text k (slice_index_or xs k d)
  lines_next xs k d below =
      let x : X = slice_index_or xs k d in
      ap (numbered text 0) (take_more xs k d below)
      ∙ (line_behind 0 (take k xs) x ∙ ap (λ n. numbered text 0 (take k xs) ++ text n x) (omega (arith, length-take-le k xs (omega (arith, below)))))

  parted : (from n : ℕ) (xs : List X) → numbered text from xs ≡ numbered text from (take n xs) ++ numbered text (from + n) (drop n xs)
  parted from zero xs = ap (λ k. numbered text k xs) (omega arith)
  parted from (suc n) [] = refl
  parted from (suc n) (x ∷ xs) =
      ap (λ more. text from x ++ more) (parted (from + 1) n xs ∙ ap (λ k. numbered text (from + 1) (take n xs) ++ numbered text k (drop n xs)) (omega arith))
      ∙ sym (append_assoc (text from x) (numbered text (from + 1) (take n xs)) (numbered text (from + suc n) (drop n xs)))

  pub lines_parted : (n : ℕ) (xs : List X) → numbered text 0 xs ≡ numbered text 0 (take n xs) ++ numbered text (0 + n) (drop n xs)
  lines_parted n xs = parted 0 n xs

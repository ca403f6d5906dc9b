-- Where the words of each lane lie. Word 0 is of no lane. The lanes follow it in order, each with its head, its tail and
-- two words for each cell.
use Rattle.std.specs.Prelude.{ℕ, zero, suc, ◌+◌, ◌*◌, ◌%◌, List, [], ◌∷◌}

-- how many words a lane of so many cells takes
abbrev pub width : ℕ → ℕ
width capacity = 2 + 2 * capacity

-- the place of lane p, where the first lane lies at `place`. A lane's head lies at its place, and its tail behind it
abbrev pub lane_at : ℕ → List ℕ → ℕ → ℕ
lane_at place [] p = place
lane_at place (c ∷ cs) zero = place
lane_at place (c ∷ cs) (suc p) = lane_at (place + width c) cs p

-- the number of words, where the first lane lies at `place`
abbrev pub end_of : ℕ → List ℕ → ℕ
end_of place [] = place
end_of place (c ∷ cs) = end_of (place + width c) cs

-- the cell of the post with serial k. Its first word is for the port, and the next one for the value
abbrev pub cell : ℕ → ℕ → ℕ → ℕ
cell place capacity k = place + 2 + 2 * (k % capacity)

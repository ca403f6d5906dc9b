-- Draws.
use Rattle.std.specs.Prelude.{◌+◌, refl, [], ◌∷◌}
use Rattle.std.specs.Fmt.{digits}
use Rattle.sim_worked.specs.Printed.{PrintsDrawn}

-- a negative delay is thrown as error 1 and caught; a draw from a range of one number gives that number
negative_delay_and_draw : PrintsDrawn (λ number. 0)
    ("scenario 1" ∷ "until empty" ∷ "process p" ∷ "try" ∷ "timeout -1" ∷ "catch k v" ∷ "log v" ∷
    "end" ∷ "draw x 5 5" ∷ "log x" ∷ "end" ∷ "start p" ∷ [])
    ("@0 0 0 init 2 ok 0" ∷ "log 0 1 1" ∷ "log 0 1 5" ∷ "@0 1 1 process 1 ok 0" ∷ "end empty 0 2" ∷
    [])
unfolding digits
negative_delay_and_draw = refl

-- draws take the words in order, each modulo the size of the range; a draw from nothing takes none, and is error
-- 8
words_in_order : PrintsDrawn (λ number. 27 + number)
    ("scenario 1" ∷ "until empty" ∷ "process p" ∷ "draw x 0 9" ∷ "log x" ∷ "try" ∷ "draw x 2 1" ∷
    "catch k v" ∷ "log v" ∷ "end" ∷ "draw x -4 5" ∷ "log x" ∷ "draw x 3 3" ∷ "log x" ∷ "end" ∷
    "start p" ∷ [])
    ("@0 0 0 init 2 ok 0" ∷ "log 0 1 7" ∷ "log 0 1 8" ∷ "log 0 1 4" ∷ "log 0 1 3" ∷
    "@0 1 1 process 1 ok 0" ∷ "end empty 0 2" ∷ [])
unfolding digits
words_in_order = refl

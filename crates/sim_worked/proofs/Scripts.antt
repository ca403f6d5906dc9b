-- Scripts: what a process computes, catches and draws.
use Rattle.std.specs.Prelude.{refl, [], ◌∷◌}
use Rattle.std.specs.Fmt.{digits}
use Rattle.sim_worked.specs.Printed.{Prints}

-- a process pauses for 5 and logs the time
one_timeout : Prints 1000
    ("scenario 1" ∷ "until empty" ∷ "process p" ∷ "timeout 5" ∷ "log now" ∷ "end" ∷ "start p" ∷ [])
    ("@0 0 0 init 2 ok 0" ∷ "@5 1 1 timeout 3 ok 0" ∷ "log 5 1 5" ∷ "@5 1 2 process 1 ok 0" ∷
    "end empty 5 3" ∷ [])
unfolding digits
one_timeout = refl

-- a loop that is broken off, a division by 0 that is caught as error 7, and the value that a process ends with
loop_break_and_catch : Prints 1000
    ("scenario 1" ∷ "until empty" ∷ "process p n" ∷ "let s = 0" ∷ "loop" ∷ "let s = s + n" ∷
    "let c = s < 7" ∷ "if c" ∷ "else" ∷ "break" ∷ "end" ∷ "end" ∷ "log s" ∷ "try" ∷
    "let s = s % 0" ∷ "catch k v" ∷ "log v" ∷ "end" ∷ "finish s" ∷ "end" ∷ "start p 3" ∷ [])
    ("@0 0 0 init 2 ok 0" ∷ "log 0 1 9" ∷ "log 0 1 7" ∷ "@0 1 1 process 1 ok 9" ∷ "end empty 0 2" ∷
    [])
unfolding digits
loop_break_and_catch = refl

-- division goes towards zero, and the remainder has the sign of the first number
division_and_remainder : Prints 1000
    ("scenario 1" ∷ "until empty" ∷ "process p" ∷ "let a = -7 / 2" ∷ "log a" ∷ "let a = -7 % 2" ∷
    "log a" ∷ "let a = 7 / -2" ∷ "log a" ∷ "let a = 7 % -2" ∷ "log a" ∷ "end" ∷ "start p" ∷ [])
    ("@0 0 0 init 2 ok 0" ∷ "log 0 1 -3" ∷ "log 0 1 -1" ∷ "log 0 1 -3" ∷ "log 0 1 1" ∷
    "@0 1 1 process 1 ok 0" ∷ "end empty 0 2" ∷ [])
unfolding digits
division_and_remainder = refl

-- a catch line that is reached leaves the try
catch_line_leaves_its_try : Prints 1000
    ("scenario 1" ∷ "until empty" ∷ "process p" ∷ "loop" ∷ "try" ∷ "catch k v" ∷ "end" ∷ "break" ∷
    "end" ∷ "log 1" ∷ "end" ∷ "start p" ∷ [])
    ("@0 0 0 init 2 ok 0" ∷ "log 0 1 1" ∷ "@0 1 1 process 1 ok 0" ∷ "end empty 0 2" ∷ [])
unfolding digits
catch_line_leaves_its_try = refl

-- a timeout past 2 ^ 62 is refused with error 9, and one at 2 ^ 62 comes
last_time : Prints 1000
    ("scenario 1" ∷ "until empty" ∷ "process p" ∷ "try" ∷ "timeout 4611686018427387905" ∷
    "catch k v" ∷ "log v" ∷ "end" ∷ "timeout 4611686018427387904" ∷ "log now" ∷ "end" ∷
    "start p" ∷ [])
    ("@0 0 0 init 2 ok 0" ∷ "log 0 1 9" ∷ "@4611686018427387904 1 1 timeout 3 ok 0" ∷
    "log 4611686018427387904 1 4611686018427387904" ∷ "@4611686018427387904 1 2 process 1 ok 0" ∷
    "end empty 4611686018427387904 3" ∷ [])
unfolding digits
last_time = refl

-- Conditions within conditions, and how wide they may be.
use Rattle.std.specs.Prelude.{refl, [], ◌∷◌}
use Rattle.std.specs.Fmt.{digits}
use Rattle.sim_worked.specs.Printed.{Prints}

-- a condition over a condition and a timeout: its value has the timeout alone, and once it is built the failure
-- of a member within is not defused
nested_condition_loses_checks : Prints 1000
    ("scenario 1" ∷ "until empty" ∷ "event e" ∷ "event f" ∷ "process p" ∷ "t = timeout 1 0" ∷
    "b = all e f" ∷ "a = any b t" ∷ "wait a" ∷ "has y a t" ∷ "log y" ∷ "has y a e" ∷ "log y" ∷
    "fail f 5" ∷ "end" ∷ "start p" ∷ [])
    ("@0 0 0 init 4 ok 0" ∷ "@1 1 1 timeout 5 ok 0" ∷ "@1 1 2 cond 7 ok 0" ∷ "log 1 3 1" ∷
    "log 1 3 0" ∷ "@1 1 3 event 2 fail 3 5" ∷ "end crash 1 4" ∷ [])
unfolding digits
nested_condition_loses_checks = refl

-- the value of a condition has the processed events of a nested one, and not the nested one
value_through_nested : Prints 1000
    ("scenario 1" ∷ "until empty" ∷ "event e" ∷ "process p" ∷ "t = timeout 1 0" ∷
    "u = timeout 2 0" ∷ "b = any t e" ∷ "a = all b u" ∷ "wait a" ∷ "has y a t" ∷ "log y" ∷
    "has y a u" ∷ "log y" ∷ "has y a e" ∷ "log y" ∷ "has y a b" ∷ "log y" ∷ "end" ∷ "start p" ∷ [])
    ("@0 0 0 init 3 ok 0" ∷ "@1 1 1 timeout 4 ok 0" ∷ "@1 1 3 cond 6 ok 0" ∷
    "@2 1 2 timeout 5 ok 0" ∷ "@2 1 4 cond 7 ok 0" ∷ "log 2 2 1" ∷ "log 2 2 1" ∷ "log 2 2 0" ∷
    "log 2 2 0" ∷ "@2 1 5 process 2 ok 0" ∷ "end empty 2 6" ∷ [])
unfolding digits
value_through_nested = refl

-- weight 64 is made, 65 is refused
weight_64_and_65 : Prints 1000
    ("scenario 1" ∷ "until empty" ∷ "event e" ∷ "process p" ∷
    "b = all e e e e e e e e e e e e e e e" ∷ "c = all b b b" ∷
    "d = all c e e e e e e e e e e e e e e" ∷ "try" ∷ "f = all c e e e e e e e e e e e e e e e" ∷
    "catch k v" ∷ "log v" ∷ "end" ∷ "end" ∷ "start p" ∷ [])
    ("@0 0 0 init 3 ok 0" ∷ "log 0 2 10" ∷ "@0 1 1 process 2 ok 0" ∷ "end empty 0 2" ∷ [])
unfolding digits
weight_64_and_65 = refl

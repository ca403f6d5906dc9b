-- Conditions.
use Rattle.std.specs.Prelude.{refl, [], ◌∷◌}
use Rattle.std.specs.Fmt.{digits}
use Rattle.sim_worked.specs.Printed.{Prints}

-- `all` of no members succeeds at once
empty_condition : Prints 1000
    ("scenario 1" ∷ "until empty" ∷ "process p" ∷ "a = all" ∷ "wait a" ∷ "log val" ∷ "end" ∷
    "start p" ∷ [])
    ("@0 0 0 init 2 ok 0" ∷ "@0 1 1 cond 3 ok 0" ∷ "log 0 1 0" ∷ "@0 1 2 process 1 ok 0" ∷
    "end empty 0 3" ∷ [])
unfolding digits
empty_condition = refl

-- any of no members succeeds at once
any_of_nothing : Prints 1000
    ("scenario 1" ∷ "until empty" ∷ "process p" ∷ "a = any" ∷ "wait a" ∷ "log val" ∷ "end" ∷
    "start p" ∷ [])
    ("@0 0 0 init 2 ok 0" ∷ "@0 1 1 cond 3 ok 0" ∷ "log 0 1 0" ∷ "@0 1 2 process 1 ok 0" ∷
    "end empty 0 3" ∷ [])
unfolding digits
any_of_nothing = refl

-- a member that fails is defused, and its condition fails with the same throw
failing_member : Prints 1000
    ("scenario 1" ∷ "until empty" ∷ "event e" ∷ "process p" ∷ "t = timeout 1 0" ∷ "a = all e t" ∷
    "try" ∷ "wait a" ∷ "catch k v" ∷ "log v" ∷ "end" ∷ "end" ∷ "process q" ∷ "fail e 3" ∷ "end" ∷
    "start p" ∷ "start q" ∷ [])
    ("@0 0 0 init 3 ok 0" ∷ "@0 0 1 init 5 ok 0" ∷ "@0 1 3 event 1 fail 3 3" ∷
    "@0 1 4 process 4 ok 0" ∷ "@0 1 5 cond 7 fail 3 3" ∷ "log 0 2 3" ∷ "@0 1 6 process 2 ok 0" ∷
    "@1 1 2 timeout 6 ok 0" ∷ "end empty 1 7" ∷ [])
unfolding digits
failing_member = refl

-- a member that fails once its condition is triggered is not defused, and the run crashes
late_failure_crashes : Prints 1000
    ("scenario 1" ∷ "until empty" ∷ "event e" ∷ "event f" ∷ "process p" ∷ "a = all e f" ∷ "try" ∷
    "wait a" ∷ "catch k v" ∷ "log v" ∷ "end" ∷ "end" ∷ "process q" ∷ "fail e 3" ∷ "fail f 4" ∷
    "end" ∷ "start p" ∷ "start q" ∷ [])
    ("@0 0 0 init 4 ok 0" ∷ "@0 0 1 init 6 ok 0" ∷ "@0 1 2 event 1 fail 3 3" ∷
    "@0 1 3 event 2 fail 3 4" ∷ "end crash 0 4" ∷ [])
unfolding digits
late_failure_crashes = refl

-- a failed member that is processed stands in the value of an AnyOf
failed_leaf_stands_in_the_value : Prints 1000
    ("scenario 1" ∷ "until empty" ∷ "event e" ∷ "event f" ∷ "process p" ∷ "a = any e f" ∷ "try" ∷
    "wait f" ∷ "catch k v" ∷ "end" ∷ "wait a" ∷ "has y a f" ∷ "log y" ∷ "has y a e" ∷ "log y" ∷
    "end" ∷ "process q" ∷ "succeed e 1" ∷ "fail f 2" ∷ "end" ∷ "start p" ∷ "start q" ∷ [])
    ("@0 0 0 init 4 ok 0" ∷ "@0 0 1 init 6 ok 0" ∷ "@0 1 2 event 1 ok 1" ∷
    "@0 1 3 event 2 fail 3 2" ∷ "@0 1 4 process 5 ok 0" ∷ "@0 1 5 cond 7 ok 0" ∷ "log 0 3 1" ∷
    "log 0 3 1" ∷ "@0 1 6 process 3 ok 0" ∷ "end empty 0 7" ∷ [])
unfolding digits
failed_leaf_stands_in_the_value = refl

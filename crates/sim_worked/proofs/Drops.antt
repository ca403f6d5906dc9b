-- Processes that another one drops.
use Rattle.std.specs.Prelude.{refl, [], ◌∷◌}
use Rattle.std.specs.Fmt.{digits}
use Rattle.sim_worked.specs.Printed.{Prints}

-- a process that is dropped before it began never begins
drop_before_begin : Prints 1000
    ("scenario 1" ∷ "until empty" ∷ "process child" ∷ "log 1" ∷ "end" ∷ "process boss" ∷
    "p = spawn child" ∷ "drop p 6" ∷ "end" ∷ "start boss" ∷ [])
    ("@0 0 0 init 2 ok 0" ∷ "@0 0 1 init 4 ok 0" ∷ "@0 1 2 process 3 ok 6" ∷
    "@0 1 3 process 1 ok 0" ∷ "end empty 0 4" ∷ [])
unfolding digits
drop_before_begin = refl

-- one event resumes two processes, and the first drops the second: the second is not resumed any more, and its
-- scopes are left
drop_between_callbacks : Prints 1000
    ("scenario 1" ∷ "until empty" ∷ "resource desk 1" ∷ "event e" ∷ "process second" ∷
    "with r = request desk" ∷ "wait r" ∷ "timeout 1" ∷ "wait e" ∷ "log 2" ∷ "end" ∷ "end" ∷
    "process first q:proc" ∷ "wait e" ∷ "drop q 9" ∷ "end" ∷ "process third" ∷ "timeout 2" ∷
    "with r = request desk" ∷ "wait r" ∷ "log 3" ∷ "end" ∷ "end" ∷ "process boss" ∷
    "q = spawn second" ∷ "spawn first q" ∷ "spawn third" ∷ "timeout 5" ∷ "succeed e 0" ∷ "end" ∷
    "start boss" ∷ [])
    ("@0 0 0 init 3 ok 0" ∷ "@0 0 1 init 5 ok 0" ∷ "@0 0 2 init 7 ok 0" ∷ "@0 0 3 init 9 ok 0" ∷
    "@0 1 5 request 11 ok 0" ∷ "@1 1 7 timeout 13 ok 0" ∷ "@2 1 6 timeout 12 ok 0" ∷
    "@5 1 4 timeout 10 ok 0" ∷ "@5 1 8 event 1 ok 0" ∷ "@5 1 9 process 2 ok 0" ∷
    "@5 1 10 release 15 ok 0" ∷ "@5 1 11 process 4 ok 9" ∷ "@5 1 12 process 6 ok 0" ∷
    "@5 1 13 request 14 ok 0" ∷ "log 5 8 3" ∷ "@5 1 14 release 16 ok 0" ∷
    "@5 1 15 process 8 ok 0" ∷ "end empty 5 16" ∷ [])
unfolding digits
drop_between_callbacks = refl

-- a drop leaves the innermost scope first
drop_leaves_innermost_first : Prints 1000
    ("scenario 1" ∷ "until empty" ∷ "resource m 1" ∷ "resource n 1" ∷ "process q" ∷
    "with a = request m" ∷ "wait a" ∷ "with b = request n" ∷ "wait b" ∷ "timeout 9" ∷ "end" ∷
    "end" ∷ "end" ∷ "process wm" ∷ "with a = request m" ∷ "wait a" ∷ "log 1" ∷ "end" ∷ "end" ∷
    "process wn" ∷ "with a = request n" ∷ "wait a" ∷ "log 2" ∷ "end" ∷ "end" ∷ "process boss" ∷
    "q = spawn q" ∷ "timeout 1" ∷ "spawn wm" ∷ "spawn wn" ∷ "timeout 1" ∷ "drop q 0" ∷ "end" ∷
    "start boss" ∷ [])
    ("@0 0 0 init 2 ok 0" ∷ "@0 0 1 init 4 ok 0" ∷ "@0 1 3 request 6 ok 0" ∷
    "@0 1 4 request 7 ok 0" ∷ "@1 1 2 timeout 5 ok 0" ∷ "@1 0 6 init 10 ok 0" ∷
    "@1 0 7 init 12 ok 0" ∷ "@2 1 8 timeout 13 ok 0" ∷ "@2 1 9 release 16 ok 0" ∷
    "@2 1 10 release 17 ok 0" ∷ "@2 1 11 process 3 ok 0" ∷ "@2 1 12 process 1 ok 0" ∷
    "@2 1 13 request 15 ok 0" ∷ "log 2 11 2" ∷ "@2 1 14 request 14 ok 0" ∷ "log 2 9 1" ∷
    "@2 1 15 release 18 ok 0" ∷ "@2 1 16 process 11 ok 0" ∷ "@2 1 17 release 19 ok 0" ∷
    "@2 1 18 process 9 ok 0" ∷ "@9 1 5 timeout 8 ok 0" ∷ "end empty 9 19" ∷ [])
unfolding digits
drop_leaves_innermost_first = refl

-- Interruptions, and processes that fail.
use Rattle.std.specs.Prelude.{refl, [], ◌∷◌}
use Rattle.std.specs.Fmt.{digits}
use Rattle.sim_worked.specs.Printed.{Prints}

-- a process that does not catch an interruption fails with it, and the run crashes
uncaught_interrupt : Prints 1000
    ("scenario 1" ∷ "until empty" ∷ "process sleeper" ∷ "timeout 10" ∷ "end" ∷ "process boss" ∷
    "p = spawn sleeper" ∷ "timeout 3" ∷ "interrupt p 7" ∷ "end" ∷ "start boss" ∷ [])
    ("@0 0 0 init 2 ok 0" ∷ "@0 0 1 init 4 ok 0" ∷ "@3 1 2 timeout 5 ok 0" ∷
    "@3 0 4 interrupt 7 fail 1 7" ∷ "@3 1 5 process 1 ok 0" ∷ "@3 1 6 process 3 fail 1 7" ∷
    "end crash 3 6" ∷ [])
unfolding digits
uncaught_interrupt = refl

-- a process that catches an interruption waits for something else then, and the timeout that it waited for wakes
-- nobody
caught_interrupt : Prints 1000
    ("scenario 1" ∷ "until empty" ∷ "process sleeper" ∷ "try" ∷ "timeout 10" ∷ "catch k v" ∷
    "log v" ∷ "timeout 20" ∷ "end" ∷ "end" ∷ "process boss" ∷ "p = spawn sleeper" ∷ "timeout 3" ∷
    "interrupt p 7" ∷ "end" ∷ "start boss" ∷ [])
    ("@0 0 0 init 2 ok 0" ∷ "@0 0 1 init 4 ok 0" ∷ "@3 1 2 timeout 5 ok 0" ∷
    "@3 0 4 interrupt 7 fail 1 7" ∷ "log 3 3 7" ∷ "@3 1 5 process 1 ok 0" ∷
    "@10 1 3 timeout 6 ok 0" ∷ "@23 1 6 timeout 8 ok 0" ∷ "@23 1 7 process 3 ok 0" ∷
    "end empty 23 8" ∷ [])
unfolding digits
caught_interrupt = refl

-- two interruptions of one process come in order; the second finds it ended and does nothing
two_interrupts : Prints 1000
    ("scenario 1" ∷ "until empty" ∷ "process sleeper" ∷ "try" ∷ "timeout 10" ∷ "catch k v" ∷
    "log v" ∷ "end" ∷ "end" ∷ "process boss" ∷ "p = spawn sleeper" ∷ "timeout 3" ∷
    "interrupt p 7" ∷ "interrupt p 8" ∷ "end" ∷ "start boss" ∷ [])
    ("@0 0 0 init 2 ok 0" ∷ "@0 0 1 init 4 ok 0" ∷ "@3 1 2 timeout 5 ok 0" ∷
    "@3 0 4 interrupt 7 fail 1 7" ∷ "log 3 3 7" ∷ "@3 0 5 interrupt 8 fail 1 8" ∷
    "@3 1 6 process 1 ok 0" ∷ "@3 1 7 process 3 ok 0" ∷ "@10 1 3 timeout 6 ok 0" ∷
    "end empty 10 8" ∷ [])
unfolding digits
two_interrupts = refl

-- an interruption of an ended process is refused with error 4, and one of the process itself with error 5
interrupts_refused : Prints 1000
    ("scenario 1" ∷ "until empty" ∷ "process c" ∷ "end" ∷ "process p" ∷ "q = spawn c" ∷ "wait q" ∷
    "try" ∷ "interrupt q 1" ∷ "catch k v" ∷ "log v" ∷ "end" ∷ "try" ∷ "interrupt me 1" ∷
    "catch k v" ∷ "log v" ∷ "end" ∷ "end" ∷ "start p" ∷ [])
    ("@0 0 0 init 2 ok 0" ∷ "@0 0 1 init 4 ok 0" ∷ "@0 1 2 process 3 ok 0" ∷ "log 0 1 4" ∷
    "log 0 1 5" ∷ "@0 1 3 process 1 ok 0" ∷ "end empty 0 4" ∷ [])
unfolding digits
interrupts_refused = refl

-- an interruption of a process that has not begun comes after its init event, at its first target
interrupt_before_the_beginning : Prints 1000
    ("scenario 1" ∷ "until empty" ∷ "process c" ∷ "try" ∷ "timeout 5" ∷ "catch k v" ∷ "log v" ∷
    "end" ∷ "end" ∷ "process p" ∷ "q = spawn c" ∷ "interrupt q 7" ∷ "end" ∷ "start p" ∷ [])
    ("@0 0 0 init 2 ok 0" ∷ "@0 0 1 init 4 ok 0" ∷ "@0 0 2 interrupt 5 fail 1 7" ∷ "log 0 3 7" ∷
    "@0 1 3 process 1 ok 0" ∷ "@0 1 5 process 3 ok 0" ∷ "@5 1 4 timeout 6 ok 0" ∷
    "end empty 5 6" ∷ [])
unfolding digits
interrupt_before_the_beginning = refl

-- a process that fails is waited for by the one that spawned it, which catches what is thrown
spawned_process_fails : Prints 1000
    ("scenario 1" ∷ "until empty" ∷ "process c" ∷ "timeout 1" ∷ "raise 9" ∷ "end" ∷ "process p" ∷
    "q = spawn c" ∷ "try" ∷ "wait q" ∷ "catch k v" ∷ "log k" ∷ "log v" ∷ "end" ∷ "end" ∷
    "start p" ∷ [])
    ("@0 0 0 init 2 ok 0" ∷ "@0 0 1 init 4 ok 0" ∷ "@1 1 2 timeout 5 ok 0" ∷
    "@1 1 3 process 3 fail 3 9" ∷ "log 1 1 3" ∷ "log 1 1 9" ∷ "@1 1 4 process 1 ok 0" ∷
    "end empty 1 5" ∷ [])
unfolding digits
spawned_process_fails = refl

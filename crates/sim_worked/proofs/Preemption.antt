-- Preemption.
use Rattle.std.specs.Prelude.{refl, [], ◌∷◌}
use Rattle.std.specs.Fmt.{digits}
use Rattle.sim_worked.specs.Printed.{Prints}

-- a request with a smaller key takes the slot of a user, which is interrupted with the time since which it was a
-- user
preemption : Prints 1000
    ("scenario 1" ∷ "until empty" ∷ "preemptive m 1" ∷ "process holder" ∷
    "with r = request m 1 preempt" ∷ "wait r" ∷ "try" ∷ "timeout 10" ∷ "catch k v" ∷ "log k" ∷
    "log v" ∷ "end" ∷ "end" ∷ "end" ∷ "process rush" ∷ "timeout 4" ∷
    "with r = request m 0 preempt" ∷ "wait r" ∷ "timeout 1" ∷ "end" ∷ "end" ∷ "start holder" ∷
    "start rush" ∷ [])
    ("@0 0 0 init 2 ok 0" ∷ "@0 0 1 init 4 ok 0" ∷ "@0 1 2 request 5 ok 0" ∷
    "@4 1 3 timeout 6 ok 0" ∷ "@4 0 5 interrupt 9 fail 2 0" ∷ "log 4 1 2" ∷ "log 4 1 0" ∷
    "@4 1 6 request 8 ok 0" ∷ "@4 1 7 release 10 ok 0" ∷ "@4 1 8 process 1 ok 0" ∷
    "@5 1 9 timeout 11 ok 0" ∷ "@5 1 10 release 12 ok 0" ∷ "@5 1 11 process 3 ok 0" ∷
    "@10 1 4 timeout 7 ok 0" ∷ "end empty 10 12" ∷ [])
unfolding digits
preemption = refl

-- a preempting request of equal priority that comes later waits, since its key is greater
equal_priority_waits : Prints 1000
    ("scenario 1" ∷ "until empty" ∷ "preemptive m 1" ∷ "process holder" ∷
    "with r = request m 1 preempt" ∷ "wait r" ∷ "try" ∷ "timeout 10" ∷ "catch k v" ∷ "log k" ∷
    "log v" ∷ "end" ∷ "end" ∷ "end" ∷ "process rush" ∷ "timeout 4" ∷
    "with r = request m 1 preempt" ∷ "wait r" ∷ "timeout 1" ∷ "end" ∷ "end" ∷ "start holder" ∷
    "start rush" ∷ [])
    ("@0 0 0 init 2 ok 0" ∷ "@0 0 1 init 4 ok 0" ∷ "@0 1 2 request 5 ok 0" ∷
    "@4 1 3 timeout 6 ok 0" ∷ "@10 1 4 timeout 7 ok 0" ∷ "@10 1 5 release 9 ok 0" ∷
    "@10 1 6 process 1 ok 0" ∷ "@10 1 7 request 8 ok 0" ∷ "@11 1 8 timeout 10 ok 0" ∷
    "@11 1 9 release 11 ok 0" ∷ "@11 1 10 process 3 ok 0" ∷ "end empty 11 11" ∷ [])
unfolding digits
equal_priority_waits = refl

-- a request that does not preempt waits, though its priority comes first
waiting_form_preempts_nobody : Prints 1000
    ("scenario 1" ∷ "until empty" ∷ "preemptive m 1" ∷ "process holder" ∷
    "with r = request m 1 preempt" ∷ "wait r" ∷ "try" ∷ "timeout 10" ∷ "catch k v" ∷ "log k" ∷
    "log v" ∷ "end" ∷ "end" ∷ "end" ∷ "process rush" ∷ "timeout 4" ∷ "with r = request m 0 wait" ∷
    "wait r" ∷ "timeout 1" ∷ "end" ∷ "end" ∷ "start holder" ∷ "start rush" ∷ [])
    ("@0 0 0 init 2 ok 0" ∷ "@0 0 1 init 4 ok 0" ∷ "@0 1 2 request 5 ok 0" ∷
    "@4 1 3 timeout 6 ok 0" ∷ "@10 1 4 timeout 7 ok 0" ∷ "@10 1 5 release 9 ok 0" ∷
    "@10 1 6 process 1 ok 0" ∷ "@10 1 7 request 8 ok 0" ∷ "@11 1 8 timeout 10 ok 0" ∷
    "@11 1 9 release 11 ok 0" ∷ "@11 1 10 process 3 ok 0" ∷ "end empty 11 11" ∷ [])
unfolding digits
waiting_form_preempts_nobody = refl

-- a request that would preempt the process that makes it is refused with error 5
own_victim : Prints 1000
    ("scenario 1" ∷ "until empty" ∷ "preemptive m 1" ∷ "process p" ∷
    "with a = request m 1 preempt" ∷ "wait a" ∷ "try" ∷ "with b = request m 0 preempt" ∷
    "wait b" ∷ "end" ∷ "catch k v" ∷ "log v" ∷ "end" ∷ "end" ∷ "end" ∷ "start p" ∷ [])
    ("@0 0 0 init 2 ok 0" ∷ "@0 1 1 request 3 ok 0" ∷ "log 0 1 5" ∷ "@0 1 2 release 4 ok 0" ∷
    "@0 1 3 process 1 ok 0" ∷ "end empty 0 4" ∷ [])
unfolding digits
own_victim = refl

-- own victim is judged at the front of the queue, which is an older request of another process
own_victim_at_front : Prints 1000
    ("scenario 1" ∷ "until empty" ∷ "preemptive m 2" ∷ "process p" ∷
    "with a = request m 5 preempt" ∷ "wait a" ∷ "timeout 4" ∷ "try" ∷
    "with b = request m 9 preempt" ∷ "wait b" ∷ "end" ∷ "catch k v" ∷ "log v" ∷ "end" ∷
    "timeout 9" ∷ "end" ∷ "end" ∷ "process v" ∷ "with r = request m 1 preempt" ∷ "wait r" ∷
    "timeout 3" ∷ "end" ∷ "end" ∷ "process x" ∷ "timeout 1" ∷ "with r = request m 0 wait" ∷
    "wait r" ∷ "timeout 9" ∷ "end" ∷ "end" ∷ "process w" ∷ "timeout 2" ∷
    "with r = request m 3 preempt" ∷ "wait r" ∷ "log 3" ∷ "end" ∷ "end" ∷ "start p" ∷ "start v" ∷
    "start x" ∷ "start w" ∷ [])
    ("@0 0 0 init 2 ok 0" ∷ "@0 0 1 init 4 ok 0" ∷ "@0 0 2 init 6 ok 0" ∷ "@0 0 3 init 8 ok 0" ∷
    "@0 1 4 request 9 ok 0" ∷ "@0 1 5 request 10 ok 0" ∷ "@1 1 6 timeout 11 ok 0" ∷
    "@2 1 7 timeout 12 ok 0" ∷ "@3 1 9 timeout 14 ok 0" ∷ "@3 1 10 release 17 ok 0" ∷
    "@3 1 11 process 3 ok 0" ∷ "@3 1 12 request 15 ok 0" ∷ "@4 1 8 timeout 13 ok 0" ∷
    "log 4 1 5" ∷ "@12 1 13 timeout 18 ok 0" ∷ "@12 1 15 release 20 ok 0" ∷
    "@12 1 16 process 5 ok 0" ∷ "@12 1 17 request 16 ok 0" ∷ "log 12 7 3" ∷
    "@12 1 18 release 21 ok 0" ∷ "@12 1 19 process 7 ok 0" ∷ "@13 1 14 timeout 19 ok 0" ∷
    "@13 1 20 release 22 ok 0" ∷ "@13 1 21 process 1 ok 0" ∷ "end empty 13 22" ∷ [])
unfolding digits
own_victim_at_front = refl

-- a release's try preempts too
release_try_preempts : Prints 1000
    ("scenario 1" ∷ "until empty" ∷ "preemptive m 2" ∷ "process p" ∷
    "with a = request m 5 preempt" ∷ "wait a" ∷ "try" ∷ "timeout 20" ∷ "catch k v" ∷ "log k" ∷
    "log v" ∷ "end" ∷ "end" ∷ "end" ∷ "process v" ∷ "with r = request m 1 preempt" ∷ "wait r" ∷
    "timeout 3" ∷ "release r" ∷ "end" ∷ "end" ∷ "process x" ∷ "timeout 1" ∷
    "with r = request m 0 wait" ∷ "wait r" ∷ "timeout 9" ∷ "end" ∷ "end" ∷ "process w" ∷
    "timeout 2" ∷ "with r = request m 3 preempt" ∷ "wait r" ∷ "log 3" ∷ "end" ∷ "end" ∷
    "start p" ∷ "start v" ∷ "start x" ∷ "start w" ∷ [])
    ("@0 0 0 init 2 ok 0" ∷ "@0 0 1 init 4 ok 0" ∷ "@0 0 2 init 6 ok 0" ∷ "@0 0 3 init 8 ok 0" ∷
    "@0 1 4 request 9 ok 0" ∷ "@0 1 5 request 10 ok 0" ∷ "@1 1 6 timeout 11 ok 0" ∷
    "@2 1 7 timeout 12 ok 0" ∷ "@3 1 9 timeout 14 ok 0" ∷ "@3 1 10 release 17 ok 0" ∷
    "@3 1 11 release 18 ok 0" ∷ "@3 0 14 interrupt 19 fail 2 0" ∷ "log 3 1 2" ∷ "log 3 1 0" ∷
    "@3 1 12 process 3 ok 0" ∷ "@3 1 13 request 15 ok 0" ∷ "@3 1 15 request 16 ok 0" ∷
    "log 3 7 3" ∷ "@3 1 16 release 20 ok 0" ∷ "@3 1 17 process 1 ok 0" ∷
    "@3 1 19 release 22 ok 0" ∷ "@3 1 20 process 7 ok 0" ∷ "@12 1 18 timeout 21 ok 0" ∷
    "@12 1 21 release 23 ok 0" ∷ "@12 1 22 process 5 ok 0" ∷ "@20 1 8 timeout 13 ok 0" ∷
    "end empty 20 23" ∷ [])
unfolding digits
release_try_preempts = refl

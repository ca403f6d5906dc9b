-- The keys by which requests preempt.
use Rattle.std.specs.Prelude.{refl, [], ◌∷◌}
use Rattle.std.specs.Fmt.{digits}
use Rattle.sim_worked.specs.Printed.{Prints}

-- of two users of one priority the later request is preempted, though the earlier one is of the wait form
key_has_a_time : Prints 1000
    ("scenario 1" ∷ "until empty" ∷ "preemptive m 2" ∷ "process a" ∷ "with r = request m 1 wait" ∷
    "wait r" ∷ "timeout 9" ∷ "end" ∷ "end" ∷ "process b" ∷ "timeout 1" ∷
    "with r = request m 1 preempt" ∷ "wait r" ∷ "try" ∷ "timeout 9" ∷ "catch k v" ∷ "log v" ∷
    "end" ∷ "end" ∷ "end" ∷ "process c" ∷ "timeout 2" ∷ "with r = request m 0 preempt" ∷
    "wait r" ∷ "end" ∷ "end" ∷ "start a" ∷ "start b" ∷ "start c" ∷ [])
    ("@0 0 0 init 2 ok 0" ∷ "@0 0 1 init 4 ok 0" ∷ "@0 0 2 init 6 ok 0" ∷ "@0 1 3 request 7 ok 0" ∷
    "@1 1 4 timeout 8 ok 0" ∷ "@1 1 7 request 11 ok 0" ∷ "@2 1 5 timeout 9 ok 0" ∷
    "@2 0 9 interrupt 14 fail 2 1" ∷ "log 2 3 1" ∷ "@2 1 10 request 13 ok 0" ∷
    "@2 1 11 release 15 ok 0" ∷ "@2 1 12 process 3 ok 0" ∷ "@2 1 13 release 16 ok 0" ∷
    "@2 1 14 process 5 ok 0" ∷ "@9 1 6 timeout 10 ok 0" ∷ "@9 1 15 release 17 ok 0" ∷
    "@9 1 16 process 1 ok 0" ∷ "@10 1 8 timeout 12 ok 0" ∷ "end empty 10 17" ∷ [])
unfolding digits
key_has_a_time = refl

-- of two users of one priority and time the one of the wait form is preempted, though it was granted first
key_has_a_third_part : Prints 1000
    ("scenario 1" ∷ "until empty" ∷ "preemptive m 2" ∷ "process a" ∷ "with r = request m 1 wait" ∷
    "wait r" ∷ "try" ∷ "timeout 9" ∷ "catch k v" ∷ "log v" ∷ "end" ∷ "end" ∷ "end" ∷ "process b" ∷
    "with r = request m 1 preempt" ∷ "wait r" ∷ "timeout 9" ∷ "end" ∷ "end" ∷ "process c" ∷
    "timeout 2" ∷ "with r = request m 0 preempt" ∷ "wait r" ∷ "end" ∷ "end" ∷ "start a" ∷
    "start b" ∷ "start c" ∷ [])
    ("@0 0 0 init 2 ok 0" ∷ "@0 0 1 init 4 ok 0" ∷ "@0 0 2 init 6 ok 0" ∷ "@0 1 3 request 7 ok 0" ∷
    "@0 1 4 request 8 ok 0" ∷ "@2 1 5 timeout 9 ok 0" ∷ "@2 0 8 interrupt 13 fail 2 0" ∷
    "log 2 1 0" ∷ "@2 1 9 request 12 ok 0" ∷ "@2 1 10 release 14 ok 0" ∷
    "@2 1 11 process 1 ok 0" ∷ "@2 1 12 release 15 ok 0" ∷ "@2 1 13 process 5 ok 0" ∷
    "@9 1 6 timeout 10 ok 0" ∷ "@9 1 7 timeout 11 ok 0" ∷ "@9 1 14 release 16 ok 0" ∷
    "@9 1 15 process 3 ok 0" ∷ "end empty 9 16" ∷ [])
unfolding digits
key_has_a_third_part = refl

-- a request whose key equals that of the user preempts nobody
equal_keys_wait : Prints 1000
    ("scenario 1" ∷ "until empty" ∷ "preemptive m 1" ∷ "process p" ∷
    "with r = request m 1 preempt" ∷ "wait r" ∷ "timeout 5" ∷ "end" ∷ "end" ∷ "start p" ∷
    "start p" ∷ [])
    ("@0 0 0 init 2 ok 0" ∷ "@0 0 1 init 4 ok 0" ∷ "@0 1 2 request 5 ok 0" ∷
    "@5 1 3 timeout 7 ok 0" ∷ "@5 1 4 release 8 ok 0" ∷ "@5 1 5 process 1 ok 0" ∷
    "@5 1 6 request 6 ok 0" ∷ "@10 1 7 timeout 9 ok 0" ∷ "@10 1 8 release 10 ok 0" ∷
    "@10 1 9 process 3 ok 0" ∷ "end empty 10 10" ∷ [])
unfolding digits
equal_keys_wait = refl

-- of two users with equal keys the last granted is preempted
last_granted_is_preempted : Prints 1000
    ("scenario 1" ∷ "until empty" ∷ "preemptive m 2" ∷ "process h" ∷
    "with r = request m 1 preempt" ∷ "wait r" ∷ "try" ∷ "timeout 9" ∷ "catch k v" ∷ "log v" ∷
    "end" ∷ "end" ∷ "end" ∷ "process x" ∷ "timeout 1" ∷ "with r = request m 0 preempt" ∷
    "wait r" ∷ "end" ∷ "end" ∷ "start h" ∷ "start h" ∷ "start x" ∷ [])
    ("@0 0 0 init 2 ok 0" ∷ "@0 0 1 init 4 ok 0" ∷ "@0 0 2 init 6 ok 0" ∷ "@0 1 3 request 7 ok 0" ∷
    "@0 1 4 request 8 ok 0" ∷ "@1 1 5 timeout 9 ok 0" ∷ "@1 0 8 interrupt 13 fail 2 0" ∷
    "log 1 3 0" ∷ "@1 1 9 request 12 ok 0" ∷ "@1 1 10 release 14 ok 0" ∷
    "@1 1 11 process 3 ok 0" ∷ "@1 1 12 release 15 ok 0" ∷ "@1 1 13 process 5 ok 0" ∷
    "@9 1 6 timeout 10 ok 0" ∷ "@9 1 7 timeout 11 ok 0" ∷ "@9 1 14 release 16 ok 0" ∷
    "@9 1 15 process 1 ok 0" ∷ "end empty 9 16" ∷ [])
unfolding digits
last_granted_is_preempted = refl

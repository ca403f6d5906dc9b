-- Resources: requests, releases and queues.
use Rattle.std.specs.Prelude.{refl, [], ◌∷◌}
use Rattle.std.specs.Fmt.{digits}
use Rattle.sim_worked.specs.Printed.{Prints}

-- a request with a timeout: who was not granted in time leaves the queue with its scope
reneging : Prints 1000
    ("scenario 1" ∷ "until empty" ∷ "resource desk 1" ∷ "process holder" ∷
    "with r = request desk" ∷ "wait r" ∷ "timeout 10" ∷ "end" ∷ "end" ∷ "process client" ∷
    "with r = request desk" ∷ "t = timeout 3 0" ∷ "a = any r t" ∷ "wait a" ∷ "has y a r" ∷
    "log y" ∷ "end" ∷ "end" ∷ "start holder" ∷ "start client" ∷ [])
    ("@0 0 0 init 2 ok 0" ∷ "@0 0 1 init 4 ok 0" ∷ "@0 1 2 request 5 ok 0" ∷
    "@3 1 3 timeout 7 ok 0" ∷ "@3 1 5 cond 8 ok 0" ∷ "log 3 3 0" ∷ "@3 1 6 release 10 ok 0" ∷
    "@3 1 7 process 3 ok 0" ∷ "@10 1 4 timeout 9 ok 0" ∷ "@10 1 8 release 11 ok 0" ∷
    "@10 1 9 process 1 ok 0" ∷ "end empty 10 10" ∷ [])
unfolding digits
reneging = refl

-- requests of a priority resource are granted by priority, and those of equal priority as they came
priority_queue_order : Prints 1000
    ("scenario 1" ∷ "until empty" ∷ "priority m 1" ∷ "process w p d" ∷ "with r = request m p" ∷
    "wait r" ∷ "log p" ∷ "timeout d" ∷ "end" ∷ "end" ∷ "start w 5 2" ∷ "start w 3 1" ∷
    "start w 1 1" ∷ "start w 3 1" ∷ [])
    ("@0 0 0 init 2 ok 0" ∷ "@0 0 1 init 4 ok 0" ∷ "@0 0 2 init 6 ok 0" ∷ "@0 0 3 init 8 ok 0" ∷
    "@0 1 4 request 9 ok 0" ∷ "log 0 1 5" ∷ "@2 1 5 timeout 13 ok 0" ∷ "@2 1 6 release 14 ok 0" ∷
    "@2 1 7 process 1 ok 0" ∷ "@2 1 8 request 11 ok 0" ∷ "log 2 5 1" ∷ "@3 1 9 timeout 15 ok 0" ∷
    "@3 1 10 release 16 ok 0" ∷ "@3 1 11 process 5 ok 0" ∷ "@3 1 12 request 10 ok 0" ∷
    "log 3 3 3" ∷ "@4 1 13 timeout 17 ok 0" ∷ "@4 1 14 release 18 ok 0" ∷
    "@4 1 15 process 3 ok 0" ∷ "@4 1 16 request 12 ok 0" ∷ "log 4 7 3" ∷
    "@5 1 17 timeout 19 ok 0" ∷ "@5 1 18 release 20 ok 0" ∷ "@5 1 19 process 7 ok 0" ∷
    "end empty 5 20" ∷ [])
unfolding digits
priority_queue_order = refl

-- a request is released within its scope, and once more when the scope is left
early_release : Prints 1000
    ("scenario 1" ∷ "until empty" ∷ "resource m 1" ∷ "process p" ∷ "with r = request m" ∷
    "wait r" ∷ "release r" ∷ "count n m" ∷ "log n" ∷ "end" ∷ "end" ∷ "start p" ∷ [])
    ("@0 0 0 init 2 ok 0" ∷ "@0 1 1 request 3 ok 0" ∷ "log 0 1 0" ∷ "@0 1 2 release 4 ok 0" ∷
    "@0 1 3 release 5 ok 0" ∷ "@0 1 4 process 1 ok 0" ∷ "end empty 0 5" ∷ [])
unfolding digits
early_release = refl

-- release of a request that still waits leaves it in its queue; it is granted later and holds the slot until its
-- scope is left
early_release_of_a_waiting_request : Prints 1000
    ("scenario 1" ∷ "until empty" ∷ "resource m 1" ∷ "process a" ∷ "with r = request m" ∷
    "wait r" ∷ "timeout 2" ∷ "end" ∷ "end" ∷ "process b" ∷ "with r = request m" ∷ "release r" ∷
    "wait r" ∷ "count n m" ∷ "log n" ∷ "timeout 3" ∷ "end" ∷ "end" ∷ "process c" ∷ "timeout 1" ∷
    "with r = request m" ∷ "wait r" ∷ "log 9" ∷ "end" ∷ "end" ∷ "start a" ∷ "start b" ∷
    "start c" ∷ [])
    ("@0 0 0 init 2 ok 0" ∷ "@0 0 1 init 4 ok 0" ∷ "@0 0 2 init 6 ok 0" ∷ "@0 1 3 request 7 ok 0" ∷
    "@0 1 4 release 9 ok 0" ∷ "@1 1 5 timeout 10 ok 0" ∷ "@2 1 6 timeout 11 ok 0" ∷
    "@2 1 7 release 13 ok 0" ∷ "@2 1 8 process 1 ok 0" ∷ "@2 1 9 request 8 ok 0" ∷ "log 2 3 1" ∷
    "@5 1 10 timeout 14 ok 0" ∷ "@5 1 11 release 15 ok 0" ∷ "@5 1 12 process 3 ok 0" ∷
    "@5 1 13 request 12 ok 0" ∷ "log 5 5 9" ∷ "@5 1 14 release 16 ok 0" ∷
    "@5 1 15 process 5 ok 0" ∷ "end empty 5 16" ∷ [])
unfolding digits
early_release_of_a_waiting_request = refl

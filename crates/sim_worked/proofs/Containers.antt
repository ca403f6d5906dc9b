-- Containers.
use Rattle.std.specs.Prelude.{refl, [], ◌∷◌}
use Rattle.std.specs.Fmt.{digits}
use Rattle.sim_worked.specs.Printed.{Prints}

-- a small get that came later does not overtake a large one, and both are served by one put
container_order : Prints 1000
    ("scenario 1" ∷ "until empty" ∷ "container tank 10 3" ∷ "process big" ∷ "get tank 5" ∷
    "log 5" ∷ "end" ∷ "process small" ∷ "get tank 1" ∷ "log 1" ∷ "end" ∷ "process filler" ∷
    "timeout 1" ∷ "put tank 1" ∷ "timeout 1" ∷ "put tank 2" ∷ "end" ∷ "start big" ∷
    "start small" ∷ "start filler" ∷ [])
    ("@0 0 0 init 2 ok 0" ∷ "@0 0 1 init 4 ok 0" ∷ "@0 0 2 init 6 ok 0" ∷ "@1 1 3 timeout 9 ok 0" ∷
    "@1 1 4 put 10 ok 0" ∷ "@2 1 5 timeout 11 ok 0" ∷ "@2 1 6 put 12 ok 0" ∷ "@2 1 7 get 7 ok 0" ∷
    "log 2 1 5" ∷ "@2 1 8 get 8 ok 0" ∷ "log 2 3 1" ∷ "@2 1 9 process 5 ok 0" ∷
    "@2 1 10 process 1 ok 0" ∷ "@2 1 11 process 3 ok 0" ∷ "end empty 2 12" ∷ [])
unfolding digits
container_order = refl

-- cancelling the first get tries nothing: the second waits on
cancel_tries_nothing : Prints 1000
    ("scenario 1" ∷ "until empty" ∷ "container tank 10 3" ∷ "process big" ∷ "x = get tank 5" ∷
    "timeout 1" ∷ "cancel x" ∷ "count n tank" ∷ "log n" ∷ "end" ∷ "process small" ∷ "get tank 1" ∷
    "log 1" ∷ "end" ∷ "process late" ∷ "timeout 2" ∷ "put tank 1" ∷ "end" ∷ "start big" ∷
    "start small" ∷ "start late" ∷ [])
    ("@0 0 0 init 2 ok 0" ∷ "@0 0 1 init 4 ok 0" ∷ "@0 0 2 init 6 ok 0" ∷ "@1 1 3 timeout 8 ok 0" ∷
    "log 1 1 3" ∷ "@1 1 5 process 1 ok 0" ∷ "@2 1 4 timeout 10 ok 0" ∷ "@2 1 6 put 11 ok 0" ∷
    "@2 1 7 get 9 ok 0" ∷ "log 2 3 1" ∷ "@2 1 8 process 5 ok 0" ∷ "@2 1 9 process 3 ok 0" ∷
    "end empty 2 10" ∷ [])
unfolding digits
cancel_tries_nothing = refl

-- one get of a container makes room for two puts that wait, and one try serves both
waiting_puts_together : Prints 1000
    ("scenario 1" ∷ "until empty" ∷ "container tank 5 5" ∷ "process p" ∷ "put tank 1" ∷ "log 1" ∷
    "end" ∷ "process q" ∷ "timeout 1" ∷ "get tank 3" ∷ "end" ∷ "start p" ∷ "start p" ∷ "start q" ∷
    [])
    ("@0 0 0 init 2 ok 0" ∷ "@0 0 1 init 4 ok 0" ∷ "@0 0 2 init 6 ok 0" ∷ "@1 1 3 timeout 9 ok 0" ∷
    "@1 1 4 get 10 ok 0" ∷ "@1 1 5 put 7 ok 0" ∷ "log 1 1 1" ∷ "@1 1 6 put 8 ok 0" ∷ "log 1 3 1" ∷
    "@1 1 7 process 5 ok 0" ∷ "@1 1 8 process 1 ok 0" ∷ "@1 1 9 process 3 ok 0" ∷
    "end empty 1 10" ∷ [])
unfolding digits
waiting_puts_together = refl

-- a get that was cancelled takes no item; a put of 0 into a container is refused with error 2
cancelled_get_and_zero_put : Prints 1000
    ("scenario 1" ∷ "until empty" ∷ "store s 2" ∷ "container c 5 0" ∷ "process m" ∷ "x = get s" ∷
    "cancel x" ∷ "put s 4" ∷ "count n s" ∷ "log n" ∷ "try" ∷ "put c 0" ∷ "catch k v" ∷ "log v" ∷
    "end" ∷ "end" ∷ "start m" ∷ [])
    ("@0 0 0 init 2 ok 0" ∷ "@0 1 1 put 4 ok 0" ∷ "log 0 1 1" ∷ "log 0 1 2" ∷
    "@0 1 2 process 1 ok 0" ∷ "end empty 0 3" ∷ [])
unfolding digits
cancelled_get_and_zero_put = refl

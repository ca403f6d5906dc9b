-- Stores.
use Rattle.std.specs.Prelude.{refl, [], ◌∷◌}
use Rattle.std.specs.Fmt.{digits}
use Rattle.sim_worked.specs.Printed.{Prints}

-- at a filter store a get that fits no item does not hold up the one behind it
filter_store : Prints 1000
    ("scenario 1" ∷ "until empty" ∷ "fstore s 5" ∷ "process g lo hi" ∷ "get s lo hi" ∷ "log val" ∷
    "end" ∷ "process m" ∷ "timeout 1" ∷ "put s 7" ∷ "end" ∷ "start g 1 3" ∷ "start g 5 9" ∷
    "start m" ∷ [])
    ("@0 0 0 init 2 ok 0" ∷ "@0 0 1 init 4 ok 0" ∷ "@0 0 2 init 6 ok 0" ∷ "@1 1 3 timeout 9 ok 0" ∷
    "@1 1 4 put 10 ok 0" ∷ "@1 1 5 get 8 ok 7" ∷ "log 1 3 7" ∷ "@1 1 6 process 5 ok 0" ∷
    "@1 1 7 process 3 ok 0" ∷ "end empty 1 8" ∷ [])
unfolding digits
filter_store = refl

-- a try of the gets of a filter store goes on after a success
filter_store_goes_on : Prints 1000
    ("scenario 1" ∷ "until empty" ∷ "fstore s 9" ∷ "process g lo" ∷ "get s lo lo" ∷ "log lo" ∷
    "end" ∷ "process m" ∷ "timeout 1" ∷ "x = put s 5" ∷ "y = put s 7" ∷ "z = get s 9 9" ∷
    "timeout 0" ∷ "log 0" ∷ "end" ∷ "start g 5" ∷ "start g 7" ∷ "start m" ∷ [])
    ("@0 0 0 init 2 ok 0" ∷ "@0 0 1 init 4 ok 0" ∷ "@0 0 2 init 6 ok 0" ∷ "@1 1 3 timeout 9 ok 0" ∷
    "@1 1 4 put 10 ok 0" ∷ "@1 1 5 put 11 ok 0" ∷ "@1 1 6 get 7 ok 5" ∷ "log 1 1 5" ∷
    "@1 1 7 get 8 ok 7" ∷ "log 1 3 7" ∷ "@1 1 8 timeout 13 ok 0" ∷ "log 1 5 0" ∷
    "@1 1 9 process 1 ok 0" ∷ "@1 1 10 process 3 ok 0" ∷ "@1 1 11 process 5 ok 0" ∷
    "end empty 1 12" ∷ [])
unfolding digits
filter_store_goes_on = refl

-- a try of the puts of a store serves one
store_serves_one_put_a_try : Prints 1000
    ("scenario 1" ∷ "until empty" ∷ "store s 2" ∷ "process w v" ∷ "timeout 1" ∷ "put s v" ∷
    "log v" ∷ "end" ∷ "process m" ∷ "put s 1" ∷ "put s 2" ∷ "timeout 2" ∷ "x = get s" ∷
    "y = get s" ∷ "wait x" ∷ "timeout 0" ∷ "log 0" ∷ "end" ∷ "start m" ∷ "start w 3" ∷
    "start w 4" ∷ [])
    ("@0 0 0 init 2 ok 0" ∷ "@0 0 1 init 4 ok 0" ∷ "@0 0 2 init 6 ok 0" ∷ "@0 1 3 put 7 ok 0" ∷
    "@0 1 6 put 10 ok 0" ∷ "@1 1 4 timeout 8 ok 0" ∷ "@1 1 5 timeout 9 ok 0" ∷
    "@2 1 7 timeout 11 ok 0" ∷ "@2 1 8 get 14 ok 1" ∷ "@2 1 9 get 15 ok 2" ∷
    "@2 1 10 put 12 ok 0" ∷ "log 2 3 3" ∷ "@2 1 11 timeout 16 ok 0" ∷ "log 2 1 0" ∷
    "@2 1 12 put 13 ok 0" ∷ "log 2 5 4" ∷ "@2 1 13 process 3 ok 0" ∷ "@2 1 14 process 1 ok 0" ∷
    "@2 1 15 process 5 ok 0" ∷ "end empty 2 16" ∷ [])
unfolding digits
store_serves_one_put_a_try = refl

-- the get of a process that was interrupted stays in its queue and takes an item that nobody waits for
interrupted_get_stays : Prints 1000
    ("scenario 1" ∷ "until empty" ∷ "store s 2" ∷ "process g" ∷ "try" ∷ "get s" ∷ "catch k v" ∷
    "log k" ∷ "end" ∷ "timeout 9" ∷ "count n s" ∷ "log n" ∷ "end" ∷ "process m" ∷ "p = spawn g" ∷
    "timeout 1" ∷ "interrupt p 0" ∷ "timeout 1" ∷ "put s 4" ∷ "end" ∷ "start m" ∷ [])
    ("@0 0 0 init 2 ok 0" ∷ "@0 0 1 init 4 ok 0" ∷ "@1 1 2 timeout 5 ok 0" ∷
    "@1 0 3 interrupt 7 fail 1 0" ∷ "log 1 3 1" ∷ "@2 1 4 timeout 8 ok 0" ∷ "@2 1 6 put 10 ok 0" ∷
    "@2 1 7 get 6 ok 4" ∷ "@2 1 8 process 1 ok 0" ∷ "@10 1 5 timeout 9 ok 0" ∷ "log 10 3 0" ∷
    "@10 1 9 process 3 ok 0" ∷ "end empty 10 10" ∷ [])
unfolding digits
interrupted_get_stays = refl

-- a priority store gives the item of the least priority, and of equal ones the first put; cancelling a
priority_store_order : Prints 1000
    ("scenario 1" ∷ "until empty" ∷ "pstore s 5" ∷ "process m" ∷ "put s 7 2" ∷ "put s 8 1" ∷
    "put s 9 1" ∷ "get s" ∷ "log val" ∷ "get s" ∷ "log val" ∷ "x = get s" ∷ "cancel x" ∷
    "wait x" ∷ "log val" ∷ "end" ∷ "start m" ∷ [])
    ("@0 0 0 init 2 ok 0" ∷ "@0 1 1 put 3 ok 0" ∷ "@0 1 2 put 4 ok 0" ∷ "@0 1 3 put 5 ok 0" ∷
    "@0 1 4 get 6 ok 8" ∷ "log 0 1 8" ∷ "@0 1 5 get 7 ok 9" ∷ "log 0 1 9" ∷ "@0 1 6 get 8 ok 7" ∷
    "log 0 1 7" ∷ "@0 1 7 process 1 ok 0" ∷ "end empty 0 8" ∷ [])
unfolding digits
priority_store_order = refl

-- Events: what they are given, and who waits for them.
use Rattle.std.specs.Prelude.{refl, [], ◌∷◌}
use Rattle.std.specs.Fmt.{digits}
use Rattle.sim_worked.specs.Printed.{Prints}

-- a process that waits for a processed event goes on at once with its value
wait_on_processed_event : Prints 1000
    ("scenario 1" ∷ "until empty" ∷ "event go" ∷ "process p" ∷ "succeed go 4" ∷ "timeout 1" ∷
    "wait go" ∷ "log val" ∷ "end" ∷ "start p" ∷ [])
    ("@0 0 0 init 3 ok 0" ∷ "@0 1 1 event 1 ok 4" ∷ "@1 1 2 timeout 4 ok 0" ∷ "log 1 2 4" ∷
    "@1 1 3 process 2 ok 0" ∷ "end empty 1 4" ∷ [])
unfolding digits
wait_on_processed_event = refl

-- a second succeed of an event is refused with error 3, and the first value stays
second_succeed_refused : Prints 1000
    ("scenario 1" ∷ "until empty" ∷ "event e" ∷ "process p" ∷ "try" ∷ "succeed e 1" ∷
    "succeed e 2" ∷ "catch k v" ∷ "log v" ∷ "end" ∷ "wait e" ∷ "log val" ∷ "end" ∷ "start p" ∷ [])
    ("@0 0 0 init 3 ok 0" ∷ "log 0 2 3" ∷ "@0 1 1 event 1 ok 1" ∷ "log 0 2 1" ∷
    "@0 1 2 process 2 ok 0" ∷ "end empty 0 3" ∷ [])
unfolding digits
second_succeed_refused = refl

-- a failed event that nobody waits for ends the run by a crash
unhandled_failure_crashes : Prints 1000
    ("scenario 1" ∷ "until empty" ∷ "event e" ∷ "process p" ∷ "fail e 3" ∷ "end" ∷ "start p" ∷ [])
    ("@0 0 0 init 3 ok 0" ∷ "@0 1 1 event 1 fail 3 3" ∷ "end crash 0 2" ∷ [])
unfolding digits
unhandled_failure_crashes = refl

-- a process makes an event in each turn of a repeat, and waits for it
events_made_by_a_process : Prints 1000
    ("scenario 1" ∷ "until empty" ∷ "seed 7" ∷ "process p" ∷ "repeat 2" ∷ "x = event" ∷
    "succeed x 5" ∷ "wait x" ∷ "log val" ∷ "end" ∷ "end" ∷ "start p" ∷ [])
    ("@0 0 0 init 2 ok 0" ∷ "@0 1 1 event 3 ok 5" ∷ "log 0 1 5" ∷ "@0 1 2 event 4 ok 5" ∷
    "log 0 1 5" ∷ "@0 1 3 process 1 ok 0" ∷ "end empty 0 4" ∷ [])
unfolding digits
events_made_by_a_process = refl

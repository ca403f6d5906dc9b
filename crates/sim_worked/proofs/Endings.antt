-- How runs end.
use Rattle.std.specs.Prelude.{refl, [], ◌∷◌}
use Rattle.std.specs.Fmt.{digits}
use Rattle.sim_worked.specs.Printed.{Prints}

-- with nothing to do the run has ended before its first unit
empty_scenario : Prints 1000
    ("scenario 1" ∷ "until empty" ∷ [])
    ("end empty 0 0" ∷ [])
unfolding digits
empty_scenario = refl

-- a stop at 5 comes before a timeout that is due at 5, since it is urgent
until_before_timeout : Prints 1000
    ("scenario 1" ∷ "until 5" ∷ "process p" ∷ "timeout 5" ∷ "log now" ∷ "end" ∷ "start p" ∷ [])
    ("@0 0 0 init 2 ok 0" ∷ "@5 0 1 stop 3 ok 0" ∷ "end until 5 2" ∷ [])
unfolding digits
until_before_timeout = refl

-- a run that ends within just as many units as it may make has ended, and not by the limit
last_unit : Prints 11
    ("scenario 1" ∷ "until empty" ∷ "process p" ∷ "timeout 5" ∷ "log now" ∷ "end" ∷ "start p" ∷ [])
    ("@0 0 0 init 2 ok 0" ∷ "@5 1 1 timeout 3 ok 0" ∷ "log 5 1 5" ∷ "@5 1 2 process 1 ok 0" ∷
    "end empty 5 3" ∷ [])
unfolding digits
last_unit = refl

-- with one unit too few the same lines are written, and the end is the limit: settling the last event was left
one_unit_short : Prints 10
    ("scenario 1" ∷ "until empty" ∷ "process p" ∷ "timeout 5" ∷ "log now" ∷ "end" ∷ "start p" ∷ [])
    ("@0 0 0 init 2 ok 0" ∷ "@5 1 1 timeout 3 ok 0" ∷ "log 5 1 5" ∷ "@5 1 2 process 1 ok 0" ∷
    "end limit 5 3" ∷ [])
unfolding digits
one_unit_short = refl

-- a process that spawns itself without end uses up the units before the first of its copies begins
endless_spawning : Prints 100
    ("scenario 1" ∷ "until empty" ∷ "process p" ∷ "loop" ∷ "spawn p" ∷ "end" ∷ "end" ∷ "start p" ∷
    [])
    ("@0 0 0 init 2 ok 0" ∷ "end limit 0 1" ∷ [])
unfolding digits
endless_spawning = refl

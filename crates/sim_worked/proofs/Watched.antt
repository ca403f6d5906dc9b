-- What is told of the resources over a run.
use Rattle.std.specs.Prelude.{refl, [], ◌∷◌}
use Rattle.std.specs.Fmt.{digits}
use Rattle.sim_worked.specs.Printed.{Watches}

-- the level is 6 between the second put at 2 and the try of the gets, which takes 6 of it
watched_container : Watches 90
    ("scenario 1" ∷ "until empty" ∷ "container tank 10 3" ∷ "process big" ∷ "get tank 5" ∷ "log 5" ∷
    "end" ∷ "process small" ∷ "get tank 1" ∷ "log 1" ∷ "end" ∷ "process filler" ∷ "timeout 1" ∷
    "put tank 1" ∷ "timeout 1" ∷ "put tank 2" ∷ "end" ∷ "start big" ∷ "start small" ∷
    "start filler" ∷ [])
    ("watch 0 0 0 4 2 7 0 6" ∷ "watch end empty 2 12" ∷ [])
unfolding digits
watched_container = refl

-- a request waits from 0 to 3, and is taken back
watched_reneging : Watches 90
    ("scenario 1" ∷ "until empty" ∷ "resource desk 1" ∷ "process holder" ∷ "with r = request desk" ∷
    "wait r" ∷ "timeout 10" ∷ "end" ∷ "end" ∷ "process client" ∷ "with r = request desk" ∷
    "t = timeout 3 0" ∷ "a = any r t" ∷ "wait a" ∷ "has y a r" ∷ "log y" ∷ "end" ∷ "end" ∷
    "start holder" ∷ "start client" ∷ [])
    ("watch 0 3 1 0 0 10 0 1" ∷ "watch end empty 10 10" ∷ [])
unfolding digits
watched_reneging = refl

-- a slot goes over within one unit, and who lost it waits for it from 4 to 5
watched_preemption : Watches 90
    ("scenario 1" ∷ "until empty" ∷ "preemptive m 1" ∷ "process holder" ∷
    "with r = request m 1 preempt" ∷ "wait r" ∷ "try" ∷ "timeout 10" ∷ "catch k v" ∷ "log k" ∷
    "end" ∷ "end" ∷ "with q = request m 1 preempt" ∷ "wait q" ∷ "timeout 2" ∷ "end" ∷ "end" ∷
    "process rush" ∷ "timeout 4" ∷ "with r = request m 0 preempt" ∷ "wait r" ∷ "timeout 1" ∷ "end" ∷
    "end" ∷ "start holder" ∷ "start rush" ∷ [])
    ("watch 0 1 1 0 0 7 0 1" ∷ "watch end empty 10 15" ∷ [])
unfolding digits
watched_preemption = refl

-- the third put waits from 1 to 4 for room
watched_priority_store : Watches 90
    ("scenario 1" ∷ "until empty" ∷ "pstore s 2" ∷ "process m" ∷ "put s 7 2" ∷ "timeout 1" ∷
    "put s 8 1" ∷ "put s 9 1" ∷ "end" ∷ "process g" ∷ "timeout 4" ∷ "get s" ∷ "log val" ∷ "end" ∷
    "start m" ∷ "start g" ∷ [])
    ("watch 0 3 1 0 0 7 0 2" ∷ "watch end empty 4 10" ∷ [])
unfolding digits
watched_priority_store = refl

-- items stand there for no time
watched_filter_store : Watches 90
    ("scenario 1" ∷ "until empty" ∷ "fstore s 5" ∷ "process g lo hi" ∷ "get s lo hi" ∷ "log val" ∷
    "end" ∷ "process m" ∷ "timeout 1" ∷ "put s 7" ∷ "timeout 2" ∷ "put s 2" ∷ "end" ∷
    "start g 1 3" ∷ "start g 5 9" ∷ "start m" ∷ [])
    ("watch 0 0 0 4 2 0 0 1" ∷ "watch end empty 3 12" ∷ [])
unfolding digits
watched_filter_store = refl

-- a request, a get and an item that are there from one unit of an event to the next
between_two_units : Watches 90
    ("scenario 1" ∷ "until empty" ∷ "resource m 1" ∷ "store s 3" ∷ "process h" ∷
    "with r = request m" ∷ "wait r" ∷ "timeout 5" ∷ "end" ∷ "end" ∷ "process p" ∷ "timeout 2" ∷
    "with r = request m" ∷ "end" ∷ "x = get s" ∷ "cancel x" ∷ "y = put s 7" ∷ "z = get s" ∷ "end" ∷
    "start h" ∷ "start p" ∷ [])
    ("watch 0 0 1 0 0 5 0 1" ∷ "watch 1 0 0 0 1 0 0 1" ∷ "watch end empty 5 11" ∷ [])
unfolding digits
between_two_units = refl

-- two resources, to time 5
watched_to_a_time : Watches 90
    ("scenario 1" ∷ "until 5" ∷ "resource desk 1" ∷ "container tank 10 4" ∷ "process p" ∷
    "with r = request desk" ∷ "wait r" ∷ "timeout 3" ∷ "end" ∷ "end" ∷ "process q" ∷ "get tank 3" ∷
    "timeout 2" ∷ "put tank 5" ∷ "timeout 9" ∷ "end" ∷ "start p" ∷ "start p" ∷ "start q" ∷ [])
    ("watch 0 3 1 0 0 5 0 1" ∷ "watch 1 0 0 0 0 20 1 6" ∷ "watch end until 5 12" ∷ [])
unfolding digits
watched_to_a_time = refl

-- two slots are used until a process dies
watched_crash : Watches 90
    ("scenario 1" ∷ "until empty" ∷ "resource desk 2" ∷ "process p" ∷ "with r = request desk" ∷
    "wait r" ∷ "timeout 3" ∷ "let x = 1 / 0" ∷ "end" ∷ "end" ∷ "process q" ∷
    "with r = request desk" ∷ "wait r" ∷ "timeout 9" ∷ "end" ∷ "end" ∷ "start p" ∷ "start q" ∷ [])
    ("watch 0 0 0 0 0 6 0 2" ∷ "watch end crash 3 7" ∷ [])
unfolding digits
watched_crash = refl

-- the pop that moves the time on is the last unit
limit_behind_a_pop : Watches 22
    ("scenario 1" ∷ "until empty" ∷ "container tank 10 3" ∷ "process big" ∷ "get tank 5" ∷ "end" ∷
    "process small" ∷ "get tank 1" ∷ "end" ∷ "process filler" ∷ "timeout 1" ∷ "put tank 1" ∷
    "timeout 1" ∷ "put tank 2" ∷ "end" ∷ "start big" ∷ "start small" ∷ "start filler" ∷ [])
    ("watch 0 0 0 4 2 7 3 4" ∷ "watch end limit 2 6" ∷ [])
unfolding digits
limit_behind_a_pop = refl

-- the put is the last unit, and the gets are not yet tried
limit_in_an_event : Watches 24
    ("scenario 1" ∷ "until empty" ∷ "container tank 10 3" ∷ "process big" ∷ "get tank 5" ∷ "end" ∷
    "process small" ∷ "get tank 1" ∷ "end" ∷ "process filler" ∷ "timeout 1" ∷ "put tank 1" ∷
    "timeout 1" ∷ "put tank 2" ∷ "end" ∷ "start big" ∷ "start small" ∷ "start filler" ∷ [])
    ("watch 0 0 0 4 2 7 3 6" ∷ "watch end limit 2 6" ∷ [])
unfolding digits
limit_in_an_event = refl

-- Texts of the second version: chains of events, and runs until an event.
use Rattle.std.specs.Prelude.{refl, [], ◌∷◌}
use Rattle.std.specs.Fmt.{digits}
use Rattle.sim_worked.specs.Printed.{Prints}

-- an event passes its outcome on once it is processed; chaining a processed event to one that has an outcome is
-- refused with error 3
chained_outcome : Prints 1000
    ("scenario 2" ∷ "until empty" ∷ "event x" ∷ "event y" ∷ "process p" ∷ "chain x y" ∷ "wait y" ∷
    "log val" ∷ "try" ∷ "chain x y" ∷ "catch k v" ∷ "log v" ∷ "end" ∷ "end" ∷ "process q" ∷
    "succeed x 5" ∷ "end" ∷ "start p" ∷ "start q" ∷ [])
    ("@0 0 0 init 4 ok 0" ∷ "@0 0 1 init 6 ok 0" ∷ "@0 1 2 event 1 ok 5" ∷
    "@0 1 3 process 5 ok 0" ∷ "@0 1 4 event 2 ok 5" ∷ "log 0 3 5" ∷ "log 0 3 3" ∷
    "@0 1 5 process 3 ok 0" ∷ "end empty 0 6" ∷ [])
unfolding digits
chained_outcome = refl

-- an event that fails and passes its failure on is not defused by this, and the run crashes
chain_defuses_nothing : Prints 1000
    ("scenario 2" ∷ "until empty" ∷ "event x" ∷ "event y" ∷ "process p" ∷ "chain x y" ∷
    "fail x 3" ∷ "end" ∷ "start p" ∷ [])
    ("@0 0 0 init 4 ok 0" ∷ "@0 1 1 event 1 fail 3 3" ∷ "end crash 0 2" ∷ [])
unfolding digits
chain_defuses_nothing = refl

-- chaining an unprocessed event to a triggered one is done, and changes nothing later
chain_to_triggered : Prints 1000
    ("scenario 2" ∷ "until empty" ∷ "event x" ∷ "event y" ∷ "process p" ∷ "succeed y 4" ∷ "try" ∷
    "chain x y" ∷ "log 1" ∷ "catch k v" ∷ "log 2" ∷ "end" ∷ "succeed x 9" ∷ "wait x" ∷ "wait y" ∷
    "log val" ∷ "end" ∷ "start p" ∷ [])
    ("@0 0 0 init 4 ok 0" ∷ "log 0 3 1" ∷ "@0 1 1 event 2 ok 4" ∷ "@0 1 2 event 1 ok 9" ∷
    "log 0 3 4" ∷ "@0 1 3 process 3 ok 0" ∷ "end empty 0 4" ∷ [])
unfolding digits
chain_to_triggered = refl

-- a run until an event ends when that event is processed, before the process that waits for it goes on
until_event : Prints 1000
    ("scenario 2" ∷ "until event done" ∷ "event done" ∷ "process p" ∷ "timeout 3" ∷
    "succeed done 7" ∷ "timeout 5" ∷ "end" ∷ "process q" ∷ "wait done" ∷ "log 1" ∷ "end" ∷
    "start p" ∷ "start q" ∷ [])
    ("@0 0 0 init 3 ok 0" ∷ "@0 0 1 init 5 ok 0" ∷ "@3 1 2 timeout 6 ok 0" ∷
    "@3 1 3 event 1 ok 7" ∷ "end until 3 4" ∷ [])
unfolding digits
until_event = refl

-- events are counted in the order of their lines
until_second_event : Prints 1000
    ("scenario 2" ∷ "until event y" ∷ "event x" ∷ "resource r 1" ∷ "event y" ∷ "process p" ∷
    "succeed x 1" ∷ "timeout 2" ∷ "succeed y 7" ∷ "timeout 5" ∷ "end" ∷ "start p" ∷ [])
    ("@0 0 0 init 4 ok 0" ∷ "@0 1 1 event 1 ok 1" ∷ "@2 1 2 timeout 5 ok 0" ∷
    "@2 1 3 event 2 ok 7" ∷ "end until 2 4" ∷ [])
unfolding digits
until_second_event = refl

-- a run until an event that fails ends by a crash
until_event_fails : Prints 1000
    ("scenario 2" ∷ "until event x" ∷ "event x" ∷ "process p" ∷ "fail x 2" ∷ "end" ∷ "start p" ∷ [])
    ("@0 0 0 init 3 ok 0" ∷ "@0 1 1 event 1 fail 3 2" ∷ "end crash 0 2" ∷ [])
unfolding digits
until_event_fails = refl

-- a run until an event that never comes has starved
until_event_starves : Prints 1000
    ("scenario 2" ∷ "until event done" ∷ "event done" ∷ "process p" ∷ "timeout 3" ∷ "end" ∷
    "start p" ∷ [])
    ("@0 0 0 init 3 ok 0" ∷ "@3 1 1 timeout 4 ok 0" ∷ "@3 1 2 process 2 ok 0" ∷
    "end starved 3 3" ∷ [])
unfolding digits
until_event_starves = refl

-- a run until an event is of the second version alone
until_event_is_of_the_second_version : Prints 1000
    ("scenario 1" ∷ "until event x" ∷ "event x" ∷ [])
    ("fault 2 BadShape" ∷ [])
unfolding digits
until_event_is_of_the_second_version = refl

-- an event that no line declares
until_event_undeclared : Prints 1000
    ("scenario 2" ∷ "until event x" ∷ [])
    ("fault 2 UnknownName" ∷ [])
unfolding digits
until_event_undeclared = refl

-- what is declared, but is no event; the first line of a name counts
until_event_of_another_kind : Prints 1000
    ("scenario 2" ∷ "until event x" ∷ "resource x 1" ∷ "event x" ∷ [])
    ("fault 2 WrongKind" ∷ [])
unfolding digits
until_event_of_another_kind = refl

-- a process that stands further down is declared, but is no event
until_event_process : Prints 1000
    ("scenario 2" ∷ "until event p" ∷ "process p" ∷ "end" ∷ [])
    ("fault 2 WrongKind" ∷ [])
unfolding digits
until_event_process = refl

-- a word that is no name
until_event_misnamed : Prints 1000
    ("scenario 2" ∷ "until event chain" ∷ "event chain" ∷ [])
    ("fault 2 BadName" ∷ [])
unfolding digits
until_event_misnamed = refl

-- it is a header
until_event_misplaced : Prints 1000
    ("scenario 2" ∷ "until empty" ∷ "event x" ∷ "until event x" ∷ [])
    ("fault 4 Misplaced" ∷ [])
unfolding digits
until_event_misplaced = refl

-- a header further down, whatever its version
second_header_below : Prints 1000
    ("scenario 1" ∷ "until empty" ∷ "scenario 2" ∷ [])
    ("fault 3 Misplaced" ∷ [])
unfolding digits
second_header_below = refl

-- the same in a text of the second version
first_header_below : Prints 1000
    ("scenario 2" ∷ "until empty" ∷ "scenario 1" ∷ [])
    ("fault 3 Misplaced" ∷ [])
unfolding digits
first_header_below = refl

-- in the first version `chain` begins no form
chain_is_of_the_second_version : Prints 1000
    ("scenario 1" ∷ "until empty" ∷ "process p" ∷ "chain x y" ∷ "end" ∷ [])
    ("fault 4 UnknownWord" ∷ [])
unfolding digits
chain_is_of_the_second_version = refl

-- and is a name
chain_is_a_name_in_the_first : Prints 1000
    ("scenario 1" ∷ "until empty" ∷ "process chain chains" ∷ "let chain = chains" ∷ "log chain" ∷
    "end" ∷ "start chain 3" ∷ [])
    ("@0 0 0 init 2 ok 0" ∷ "log 0 1 3" ∷ "@0 1 1 process 1 ok 0" ∷ "end empty 0 2" ∷ [])
unfolding digits
chain_is_a_name_in_the_first = refl

-- in the second version it is none
chain_is_no_name_in_the_second : Prints 1000
    ("scenario 2" ∷ "until empty" ∷ "process chain" ∷ "end" ∷ [])
    ("fault 3 BadName" ∷ [])
unfolding digits
chain_is_no_name_in_the_second = refl

-- what a chain ends at is of class event
chain_wants_an_event_to_pass_on_to : Prints 1000
    ("scenario 2" ∷ "until empty" ∷ "event x" ∷ "process p" ∷ "c = all x" ∷ "chain x c" ∷ "end" ∷
    "start p" ∷ [])
    ("fault 6 ClassClash" ∷ [])
unfolding digits
chain_wants_an_event_to_pass_on_to = refl

-- what a chain begins at may be a condition or a process, and no request
chain_takes_a_condition : Prints 1000
    ("scenario 2" ∷ "until empty" ∷ "event x" ∷ "resource r 1" ∷ "process p" ∷ "c = all x" ∷
    "chain c x" ∷ "chain me x" ∷ "with q = request r" ∷ "chain q x" ∷ "end" ∷ "end" ∷ "start p" ∷ [])
    ("fault 10 ClassClash" ∷ [])
unfolding digits
chain_takes_a_condition = refl

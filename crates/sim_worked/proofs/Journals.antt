-- Journals of arrivals.
use Rattle.std.specs.Prelude.{refl, [], ◌∷◌}
use Rattle.std.specs.Fmt.{digits}
use Rattle.sim_worked.specs.Printed.{Prints}

-- one arrival is due at the start; the other, due after 100 events, comes when the agenda is empty
journal : Prints 1000
    ("scenario 1" ∷ "until empty" ∷ "port inn job" ∷ "process job v" ∷ "timeout v" ∷ "log v" ∷
    "end" ∷ "journal" ∷ "after 0 0 0 inn 2" ∷ "after 100 0 1 inn 1" ∷ [])
    ("arrive 0 inn 2" ∷ "@0 0 0 init 2 ok 0" ∷ "@2 1 1 timeout 3 ok 0" ∷ "log 2 1 2" ∷
    "@2 1 2 process 1 ok 0" ∷ "arrive 3 inn 1" ∷ "@2 0 3 init 5 ok 0" ∷ "@3 1 4 timeout 6 ok 0" ∷
    "log 3 4 1" ∷ "@3 1 5 process 4 ok 0" ∷ "end empty 3 6" ∷ [])
unfolding digits
journal = refl

-- a journal whose entries come earlier than those above is refused
journal_out_of_order : Prints 1000
    ("scenario 1" ∷ "until empty" ∷ "port inn job" ∷ "process job v" ∷ "timeout v" ∷ "log v" ∷
    "end" ∷ "journal" ∷ "after 1 0 0 inn 2" ∷ "after 0 0 1 inn 1" ∷ [])
    ("fault 10 BadOrder" ∷ [])
unfolding digits
journal_out_of_order = refl

-- an arrival that is due at the start is the first unit, and no event is processed by it
arrival_is_a_unit : Prints 1
    ("scenario 1" ∷ "until empty" ∷ "port inn job" ∷ "process job v" ∷ "timeout v" ∷ "log v" ∷
    "end" ∷ "journal" ∷ "after 0 0 0 inn 2" ∷ "after 100 0 1 inn 1" ∷ [])
    ("arrive 0 inn 2" ∷ "end limit 0 0" ∷ [])
unfolding digits
arrival_is_a_unit = refl

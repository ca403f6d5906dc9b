-- Posters: what they post, and how a section ends.
use Rattle.std.specs.Prelude.{◌≡◌, refl, List, [], ◌∷◌, Result, Ok, Err, pos}
use Rattle.std.specs.Fmt.{digits}
use Rattle.sim_types.specs.Scenarios.{ScenarioOf}
use Rattle.sim_types.specs.declared.fault.Fault.{Fault}
use Rattle.sim_types.specs.declared.setup.Post.{Post}
use Rattle.sim_language.specs.Reads.{reads}
use Rattle.sim_worked.specs.Printed.{bytes_of, Prints, Refuses}

-- what each poster of a text posts; none where it is refused
abbrev posts_of : Result ScenarioOf Fault → List (List Post)
posts_of (Ok s) = s.posters
posts_of (Err fault) = []

-- the first posts at both ports, the second nothing, the third at one
posts_in_order :
    posts_of (reads (bytes_of ("scenario 1" ∷ "until empty" ∷ "port inn job" ∷ "port out job" ∷
    "process job v" ∷ "end" ∷ "poster 0" ∷ "out 7" ∷ "inn 8" ∷ "poster 1" ∷ "poster 2" ∷
    "inn 9" ∷ [])))
    ≡ (record { port = 1; value = pos 7 } ∷ record { port = 0; value = pos 8 } ∷ [])
    ∷ [] ∷ (record { port = 0; value = pos 9 } ∷ []) ∷ []
posts_in_order = refl

-- what posters post is no part of a run
posters_take_no_part : Prints 1000
    ("scenario 1" ∷ "until empty" ∷ "port inn job" ∷ "process job v" ∷ "log v" ∷ "end" ∷
    "poster 0" ∷ "inn 1" ∷ "inn 2" ∷ [])
    ("end empty 0 0" ∷ [])
unfolding digits
posters_take_no_part = refl

-- no journal begins there, since its line is one word of a post
journal_below_a_poster : Refuses
    ("poster 0" ∷ "journal" ∷ [])
    "fault 4 BadShape"
unfolding digits
journal_below_a_poster = refl

-- `timeout` is no name of a port
statement_below_a_poster : Refuses
    ("process p" ∷ "end" ∷ "poster 0" ∷ "timeout 5" ∷ [])
    "fault 6 BadName"
unfolding digits
statement_below_a_poster = refl

poster_inside_a_process : Refuses
    ("process p" ∷ "poster 0" ∷ "end" ∷ [])
    "fault 4 Misplaced"
unfolding digits
poster_inside_a_process = refl

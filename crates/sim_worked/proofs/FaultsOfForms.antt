-- Faults of many forms.
use Rattle.std.specs.Prelude.{refl, [], ◌∷◌}
use Rattle.std.specs.Fmt.{digits}
use Rattle.sim_worked.specs.Printed.{Prints, Refuses}

until_of_two_times : Prints 1000
    ("scenario 1" ∷ "until 5 6" ∷ [])
    ("fault 2 BadShape" ∷ [])
unfolding digits
until_of_two_times = refl

until_past_the_last_time : Prints 1000
    ("scenario 1" ∷ "until 4611686018427387905" ∷ [])
    ("fault 2 BadNumber" ∷ [])
unfolding digits
until_past_the_last_time = refl

until_below : Refuses
    ("until 5" ∷ [])
    "fault 3 Misplaced"
unfolding digits
until_below = refl

event_inside_a_process : Refuses
    ("process p" ∷ "event e" ∷ "end" ∷ [])
    "fault 4 Misplaced"
unfolding digits
event_inside_a_process = refl

journal_inside_a_process : Refuses
    ("process p" ∷ "journal" ∷ [])
    "fault 4 Misplaced"
unfolding digits
journal_inside_a_process = refl

event_and_port : Refuses
    ("event i" ∷ "process p v" ∷ "end" ∷ "port i p" ∷ [])
    "fault 6 Duplicate"
unfolding digits
event_and_port = refl

store_and_container : Refuses
    ("store s 1" ∷ "container s 1 0" ∷ [])
    "fault 4 Duplicate"
unfolding digits
store_and_container = refl

variable_named_as_an_event : Refuses
    ("event e" ∷ "process p" ∷ "let e = 1" ∷ "end" ∷ [])
    "fault 5 Duplicate"
unfolding digits
variable_named_as_an_event = refl

caught_value_named_as_an_event : Refuses
    ("event e" ∷ "process p" ∷ "try" ∷ "catch k e" ∷ "end" ∷ "end" ∷ [])
    "fault 6 Duplicate"
unfolding digits
caught_value_named_as_an_event = refl

with_within_a_with_of_its_variable : Refuses
    ("resource m 2" ∷ "process p" ∷ "with r = request m" ∷ "with r = request m" ∷ "end" ∷ "end" ∷
    "end" ∷ [])
    "fault 6 Duplicate"
unfolding digits
with_within_a_with_of_its_variable = refl

spawn_of_unknown_behind_equals : Refuses
    ("process p" ∷ "x = spawn q" ∷ "end" ∷ [])
    "fault 4 UnknownName"
unfolding digits
spawn_of_unknown_behind_equals = refl

start_with_an_unknown_event : Refuses
    ("process p a:event" ∷ "end" ∷ "start p e" ∷ [])
    "fault 5 UnknownName"
unfolding digits
start_with_an_unknown_event = refl

spawn_with_an_unknown_event : Refuses
    ("process p" ∷ "spawn q e" ∷ "end" ∷ "process q a:event" ∷ "end" ∷ [])
    "fault 4 Unset"
unfolding digits
spawn_with_an_unknown_event = refl

entry_of_an_unknown_port : Refuses
    ("journal" ∷ "after 0 0 0 i 1" ∷ [])
    "fault 4 UnknownName"
unfolding digits
entry_of_an_unknown_port = refl

post_of_an_unknown_port : Refuses
    ("poster 0" ∷ "i 1" ∷ [])
    "fault 4 UnknownName"
unfolding digits
post_of_an_unknown_port = refl

process_inside_a_process_is_declared : Refuses
    ("process p" ∷ "spawn q" ∷ "process q" ∷ "end" ∷ [])
    "fault 5 Misplaced"
unfolding digits
process_inside_a_process_is_declared = refl

process_of_a_reserved_name_is_not_declared : Refuses
    ("process p" ∷ "spawn loops" ∷ "end" ∷ "process loop" ∷ "end" ∷ [])
    "fault 4 UnknownName"
unfolding digits
process_of_a_reserved_name_is_not_declared = refl

port_of_a_process_of_an_event : Refuses
    ("port i p" ∷ "process p a:event" ∷ "end" ∷ [])
    "fault 3 WrongKind"
unfolding digits
port_of_a_process_of_an_event = refl

start_of_a_port : Refuses
    ("port i p" ∷ "process p v" ∷ "end" ∷ "start i 1" ∷ [])
    "fault 6 WrongKind"
unfolding digits
start_of_a_port = refl

spawn_without_argument : Refuses
    ("process p a" ∷ "spawn p" ∷ "end" ∷ [])
    "fault 4 WrongKind"
unfolding digits
spawn_without_argument = refl

priority_without_priority : Refuses
    ("priority m 1" ∷ "process p" ∷ "with r = request m" ∷ "end" ∷ "end" ∷ [])
    "fault 5 WrongKind"
unfolding digits
priority_without_priority = refl

preemptive_without_preference : Refuses
    ("preemptive m 1" ∷ "process p" ∷ "with r = request m 1" ∷ "end" ∷ "end" ∷ [])
    "fault 5 WrongKind"
unfolding digits
preemptive_without_preference = refl

resource_with_priority : Refuses
    ("resource m 1" ∷ "process p" ∷ "with r = request m 1" ∷ "end" ∷ "end" ∷ [])
    "fault 5 WrongKind"
unfolding digits
resource_with_priority = refl

put_to_a_resource : Refuses
    ("resource m 1" ∷ "process p" ∷ "put m 1" ∷ "end" ∷ [])
    "fault 5 WrongKind"
unfolding digits
put_to_a_resource = refl

put_to_a_pstore_without_priority : Refuses
    ("pstore s 1" ∷ "process p" ∷ "x = put s 1" ∷ "end" ∷ [])
    "fault 5 WrongKind"
unfolding digits
put_to_a_pstore_without_priority = refl

get_from_a_container_without_amount : Refuses
    ("container c 1 0" ∷ "process p" ∷ "get c" ∷ "end" ∷ [])
    "fault 5 WrongKind"
unfolding digits
get_from_a_container_without_amount = refl

get_from_a_store_of_a_number : Refuses
    ("store s 1" ∷ "process p" ∷ "get s 1" ∷ "end" ∷ [])
    "fault 5 WrongKind"
unfolding digits
get_from_a_store_of_a_number = refl

get_from_an_fstore_of_one_number : Refuses
    ("fstore s 1" ∷ "process p" ∷ "x = get s 1" ∷ "end" ∷ [])
    "fault 5 WrongKind"
unfolding digits
get_from_an_fstore_of_one_number = refl

start_with_an_event_for_a_process : Refuses
    ("event e" ∷ "process p a:proc" ∷ "end" ∷ "start p e" ∷ [])
    "fault 6 WrongKind"
unfolding digits
start_with_an_event_for_a_process = refl

release_in_front_of_its_with : Refuses
    ("resource m 1" ∷ "process p" ∷ "release r" ∷ "with r = request m" ∷ "end" ∷ "end" ∷ [])
    "fault 5 Misplaced"
unfolding digits
release_in_front_of_its_with = refl

release_in_the_with_of_another : Refuses
    ("resource m 1" ∷ "process p" ∷ "let q = 1" ∷ "with r = request m" ∷ "release q" ∷ "end" ∷
    "end" ∷ [])
    "fault 7 Misplaced"
unfolding digits
release_in_the_with_of_another = refl

number_waited_for : Refuses
    ("process p" ∷ "let x = 1" ∷ "wait x" ∷ "end" ∷ [])
    "fault 5 ClassClash"
unfolding digits
number_waited_for = refl

condition_that_is_an_event : Refuses
    ("process p" ∷ "x = event" ∷ "has y x x" ∷ "end" ∷ [])
    "fault 5 ClassClash"
unfolding digits
condition_that_is_an_event = refl

cancel_of_an_event : Refuses
    ("process p" ∷ "x = event" ∷ "cancel x" ∷ "end" ∷ [])
    "fault 5 ClassClash"
unfolding digits
cancel_of_an_event = refl

member_that_is_a_number : Refuses
    ("process p" ∷ "x = event" ∷ "let y = 1" ∷ "c = all x y" ∷ "end" ∷ [])
    "fault 6 ClassClash"
unfolding digits
member_that_is_a_number = refl

class_of_the_first_line_that_gives_it : Refuses
    ("process p" ∷ "log x" ∷ "let x = 1" ∷ "x = event" ∷ "end" ∷ [])
    "fault 6 ClassClash"
unfolding digits
class_of_the_first_line_that_gives_it = refl

event_cancelled_by_name : Refuses
    ("event e" ∷ "process p" ∷ "cancel e" ∷ "end" ∷ [])
    "fault 5 Unset"
unfolding digits
event_cancelled_by_name = refl

port_succeeded : Refuses
    ("port i p" ∷ "process p v" ∷ "succeed i 1" ∷ "end" ∷ [])
    "fault 5 Unset"
unfolding digits
port_succeeded = refl

given_by_a_line_that_clashes : Refuses
    ("process p" ∷ "log x" ∷ "wait y" ∷ "let x = 1" ∷ "let y = 1" ∷ "end" ∷ [])
    "fault 5 ClassClash"
unfolding digits
given_by_a_line_that_clashes = refl

poster_twice : Refuses
    ("poster 0" ∷ "poster 0" ∷ [])
    "fault 4 BadNumber"
unfolding digits
poster_twice = refl

entry_of_poster_16 : Refuses
    ("port i p" ∷ "process p v" ∷ "end" ∷ "journal" ∷ "after 0 16 0 i 0" ∷ [])
    "fault 7 BadNumber"
unfolding digits
entry_of_poster_16 = refl

name_that_is_reserved : Refuses
    ("event end" ∷ [])
    "fault 3 BadName"
unfolding digits
name_that_is_reserved = refl

condition_val : Refuses
    ("event e" ∷ "process p" ∷ "has y val e" ∷ "end" ∷ [])
    "fault 5 BadName"
unfolding digits
condition_val = refl

seventeen_posters : Refuses
    ("poster 0" ∷ "poster 1" ∷ "poster 2" ∷ "poster 3" ∷ "poster 4" ∷ "poster 5" ∷ "poster 6" ∷
    "poster 7" ∷ "poster 8" ∷ "poster 9" ∷ "poster 10" ∷ "poster 11" ∷ "poster 12" ∷ "poster 13" ∷
    "poster 14" ∷ "poster 15" ∷ "poster 16" ∷ [])
    "fault 19 TooMany"
unfolding digits
seventeen_posters = refl

journal_in_a_journal : Refuses
    ("journal" ∷ "journal" ∷ [])
    "fault 4 UnknownWord"
unfolding digits
journal_in_a_journal = refl

shape_and_number_of_no_entry_in_a_journal : Refuses
    ("journal" ∷ "poster 5 6" ∷ [])
    "fault 4 UnknownWord"
unfolding digits
shape_and_number_of_no_entry_in_a_journal = refl

entry_without_value : Refuses
    ("port i p" ∷ "process p v" ∷ "end" ∷ "journal" ∷ "after 0 0 0 i" ∷ [])
    "fault 7 BadShape"
unfolding digits
entry_without_value = refl

post_of_two_values : Refuses
    ("port i p" ∷ "process p v" ∷ "end" ∷ "poster 0" ∷ "i 1 2" ∷ [])
    "fault 7 BadShape"
unfolding digits
post_of_two_values = refl

-- A text for each kind of fault.
use Rattle.std.specs.Prelude.{ℕ, ◌≡◌, ◌++◌, refl, true, nat_lt, List, [], ◌∷◌, Some, length, codes, replicate}
use Rattle.std.specs.Fmt.{digits}
use Rattle.sim_types.specs.declared.fault.FaultKind.TheVariants as fault
use Rattle.sim_language.specs.Reads.{fault_of}
use Rattle.sim_worked.specs.Printed.{printed, bytes_of, Prints, Refuses}

-- more bytes than a text may have, whatever they are
too_long :
    (bytes : List ℕ) → nat_lt 4194304 (length bytes) ≡ true
    → fault_of bytes ≡ Some (record { line = 0; kind = fault.TooLong })
too_long bytes long = rw long refl

-- a line of 201 bytes
line_too_long :
    printed 1000 (bytes_of ("scenario 1" ∷ "until empty" ∷ []) ++ codes "event " ++ replicate 195 97)
    ≡ bytes_of ("fault 3 LineTooLong" ∷ [])
unfolding digits
line_too_long = refl

no_header : Prints 1000 [] ("fault 1 BadHeader" ∷ [])
unfolding digits
no_header = refl

process_without_end : Refuses ("process p" ∷ "timeout 5" ∷ "log now" ∷ []) "fault 6 Unclosed"
unfolding digits
process_without_end = refl

byte_0x7f_in_a_name : Refuses
    ("event a\u{7f}" ∷ [])
    "fault 3 NotText"
unfolding digits
byte_0x7f_in_a_name = refl

letter_too_many : Refuses
    ("events e" ∷ [])
    "fault 3 UnknownWord"
unfolding digits
letter_too_many = refl

resource_without_capacity : Refuses
    ("resource m" ∷ [])
    "fault 3 BadShape"
unfolding digits
resource_without_capacity = refl

resource_past_the_greatest : Refuses
    ("resource m 4294967296" ∷ [])
    "fault 3 BadNumber"
unfolding digits
resource_past_the_greatest = refl

tilde_is_text_and_no_name : Refuses
    ("event ~a" ∷ [])
    "fault 3 BadName"
unfolding digits
tilde_is_text_and_no_name = refl

event_twice : Refuses
    ("event e" ∷ "event e" ∷ [])
    "fault 4 Duplicate"
unfolding digits
event_twice = refl

port_of_unknown : Refuses
    ("port i q" ∷ [])
    "fault 3 UnknownName"
unfolding digits
port_of_unknown = refl

request_of_a_store : Refuses
    ("store s 1" ∷ "process p" ∷ "with r = request s" ∷ "end" ∷ "end" ∷ [])
    "fault 5 WrongKind"
unfolding digits
request_of_a_store = refl

seventeen_members_outside_a_process : Refuses
    ("event e" ∷ "x = any e e e e e e e e e e e e e e e e e" ∷ [])
    "fault 4 Misplaced"
unfolding digits
seventeen_members_outside_a_process = refl

seventeen_members_of_all : Refuses
    ("event e" ∷ "process p" ∷ "x = all e e e e e e e e e e e e e e e e e" ∷ "end" ∷ [])
    "fault 5 TooMany"
unfolding digits
seventeen_members_of_all = refl

with_variable_given_by_let : Refuses
    ("resource m 2" ∷ "process p" ∷ "with r = request m" ∷ "let r = 1" ∷ "end" ∷ "end" ∷ [])
    "fault 6 ClassClash"
unfolding digits
with_variable_given_by_let = refl

resource_waited_for : Refuses
    ("resource m 1" ∷ "process p" ∷ "wait m" ∷ "end" ∷ [])
    "fault 5 Unset"
unfolding digits
resource_waited_for = refl

entry_falls_behind_a_rise : Refuses
    ("port i p" ∷ "process p v" ∷ "end" ∷ "journal" ∷ "after 1 0 0 i 1" ∷ "after 3 0 0 i 1" ∷
    "after 2 0 0 i 1" ∷ [])
    "fault 9 BadOrder"
unfolding digits
entry_falls_behind_a_rise = refl

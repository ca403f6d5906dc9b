-- How the line is found that a text is printed from. A likely one is read without much care, since it counts only where it is
-- printed so.
--     likely_line ports bytes     the line that may be printed so, but for the line feed
--     read_line ports bytes       the same, where it is printed so
use Rattle.std.specs.Prelude.{ℕ, zero, suc, ◌+◌, ◌*◌, ◌-◌, ◌^◌, Bool, ◌==◌, if◌then◌else◌, nat_lt, ℤ, pos, negsuc, neg_ℤ, List, [], ◌∷◌, length, take, codes, bytes_eq, find, Option, Some, None, option_map, option_and_then}
use Rattle.std.specs.Char.{is_ascii_digit}
use Rattle.std.specs.List.{after_first, after_last, before_first, before_last, position_or_len}
use Rattle.sim_types.specs.declared.event.EventKind.{EventKind}
use Rattle.sim_types.specs.declared.event.EventKind.TheVariants as kind
use Rattle.sim_types.specs.declared.event.Outcome.{Outcome}
use Rattle.sim_types.specs.declared.event.Outcome.TheVariants as outcome
use Rattle.sim_types.specs.declared.line.End.{End}
use Rattle.sim_types.specs.declared.line.End.TheVariants as end
use Rattle.sim_types.specs.declared.line.Line.{Line}
use Rattle.sim_types.specs.declared.line.Line.TheVariants as line
use Rattle.sim_trace.specs.Texts.{kind_word, end_word, line_text}

-- ---- words

abbrev pub is_space : ℕ → Bool
is_space c = c == 32

-- the bytes behind the first so many words, and the word at a place, counted from 0
abbrev pub behind : ℕ → List ℕ → List ℕ
behind zero bytes = bytes
behind (suc n) bytes = behind n (after_first is_space bytes)

abbrev pub word_at : ℕ → List ℕ → List ℕ
word_at n bytes = before_first is_space (behind n bytes)

-- ---- numbers

-- the number, if it is below the bound
abbrev pub below : ℕ → ℕ → Option ℕ
below bound n = if nat_lt n bound then Some n else None

-- the number with one digit more behind it, in 64 bits
abbrev pub with_digit : ℕ → ℕ → Option ℕ
with_digit n c = if is_ascii_digit c then below (2 ^ 64) (n * 10 + (c - 48)) else None

-- the number that digits write behind those of n
abbrev pub number_after : ℕ → List ℕ → Option ℕ
number_after n [] = Some n
number_after n (c ∷ cs) = option_and_then (λ m. number_after m cs) (with_digit n c)

-- a number of 64 bits; no digits write 0
abbrev pub number : List ℕ → Option ℕ
number digits = number_after 0 digits

-- a number of 8 bits
abbrev pub byte : List ℕ → Option ℕ
byte word = option_and_then (below (2 ^ 8)) (number word)

-- a number of 64 bits, with a `-` in front of it or none
abbrev pub whole : List ℕ → Option ℤ
whole [] = Some (pos 0)
whole (c ∷ cs) = if c == 45 then option_map (λ n. neg_ℤ (pos n)) (number cs) else option_map pos (number (c ∷ cs))

-- the number, if it has 64 bits with its sign
abbrev pub with_64_bits : ℤ → Option ℤ
with_64_bits (pos n) = if nat_lt n (2 ^ 63) then Some (pos n) else None
with_64_bits (negsuc n) = if nat_lt n (2 ^ 63) then Some (negsuc n) else None

-- a number of 64 bits with its sign
abbrev pub signed : List ℕ → Option ℤ
signed word = option_and_then with_64_bits (whole word)

-- ---- events

abbrev pub kinds : List EventKind
kinds =
    kind.Init ∷ kind.Timeout ∷ kind.Plain ∷ kind.Process ∷ kind.Interrupt ∷ kind.Cond ∷ kind.Request ∷ kind.Release
    ∷ kind.Put ∷ kind.Get ∷ kind.Stop ∷ []

-- the kind that is called so
abbrev pub kind_of : List ℕ → Option EventKind
kind_of word = find (λ k. bytes_eq word (kind_word k)) kinds

-- a failure, where both its parts are read
abbrev pub failure_of : Option ℕ → Option ℤ → Option Outcome
failure_of (Some kind) (Some value) = Some (outcome.Fail (record { kind = kind; value = value }))
failure_of _ _ = None

-- the words of an outcome
abbrev pub outcome_in : List ℕ → Option Outcome
outcome_in bytes =
    if bytes_eq (word_at 0 bytes) (codes "ok") then option_map outcome.Ok (signed (behind 1 bytes))
    else if bytes_eq (word_at 0 bytes) (codes "fail") then failure_of (byte (word_at 1 bytes)) (signed (behind 2 bytes))
    else None

-- an event, where all its parts are read
abbrev pub event_of : Option ℤ → Option ℕ → Option ℕ → Option EventKind → Option ℕ → Option Outcome → Option Line
event_of (Some time) (Some priority) (Some number) (Some kind) (Some event) (Some outcome) =
    Some (line.Event time number (record { 0 = event }) outcome priority kind)
event_of _ _ _ _ _ _ = None

-- the line of an event, behind its `@`
abbrev pub event_in : List ℕ → Option Line
event_in bytes =
    event_of (signed (word_at 0 bytes)) (byte (word_at 1 bytes)) (number (word_at 2 bytes))
    (kind_of (word_at 3 bytes)) (number (word_at 4 bytes)) (outcome_in (behind 5 bytes))

-- ---- other lines, behind their first words

-- time, process and value of what is logged
abbrev pub log_of : Option ℤ → Option ℕ → Option ℤ → Option Line
log_of (Some time) (Some process) (Some value) = Some (line.Log time (record { 0 = process }) value)
log_of _ _ _ = None

abbrev pub log_in : List ℕ → Option Line
log_in bytes = log_of (signed (word_at 0 bytes)) (number (word_at 1 bytes)) (signed (behind 2 bytes))

-- the first port with this name, or the first number of no port
abbrev pub port_of : List (List ℕ) → List ℕ → Option ℕ
port_of ports name = below (2 ^ 32) (position_or_len (λ port. bytes_eq port name) ports)

-- an arrival, where all its parts are read
abbrev pub arrival_of : Option ℕ → Option ℕ → Option ℤ → Option Line
arrival_of (Some after) (Some port) (Some value) = Some (line.Arrive after value port)
arrival_of _ _ _ = None

-- the value stands behind the last space, since the name of the port may have spaces
abbrev pub arrival_in : List (List ℕ) → List ℕ → Option Line
arrival_in ports bytes =
    arrival_of (number (word_at 0 bytes)) (port_of ports (before_last is_space (behind 1 bytes)))
    (signed (after_last is_space (behind 1 bytes)))

abbrev pub ends : List End
ends = end.Empty ∷ end.Until ∷ end.Crash ∷ end.Limit ∷ end.Starved ∷ []

-- the end that is called so
abbrev pub end_of : List ℕ → Option End
end_of word = find (λ e. bytes_eq word (end_word e)) ends

-- how a run ended, its time, and how many events were processed
abbrev pub finish_of : Option End → Option ℤ → Option ℕ → Option Line
finish_of (Some how) (Some time) (Some processed) = Some (line.Finish time processed how)
finish_of _ _ _ = None

abbrev pub finish_in : List ℕ → Option Line
finish_in bytes = finish_of (end_of (word_at 0 bytes)) (signed (word_at 1 bytes)) (number (behind 2 bytes))

-- ---- lines

-- a line that begins with a word
abbrev pub named_in : List (List ℕ) → List ℕ → Option Line
named_in ports bytes =
    if bytes_eq (word_at 0 bytes) (codes "log") then log_in (behind 1 bytes)
    else if bytes_eq (word_at 0 bytes) (codes "arrive") then arrival_in ports (behind 1 bytes)
    else if bytes_eq (word_at 0 bytes) (codes "end") then finish_in (behind 1 bytes)
    else None

-- a line that begins with `@` is that of an event
abbrev pub likely_line : List (List ℕ) → List ℕ → Option Line
likely_line ports [] = None
likely_line ports (c ∷ cs) = if c == 64 then event_in cs else named_in ports (c ∷ cs)

-- the line, if it is printed so
abbrev pub if_printed : List (List ℕ) → List ℕ → Line → Option Line
if_printed ports bytes l = if bytes_eq (line_text ports l) bytes then Some l else None

-- the last byte is to be a line feed, and is left out first
unfoldable pub read_line : List (List ℕ) → List ℕ → Option Line
read_line ports bytes = option_and_then (if_printed ports bytes) (likely_line ports (take (length bytes - 1) bytes))

-- The numbers of what is thrown: the kinds of throws, and the errors.
use Rattle.std.specs.Prelude.{ℕ}

-- a throw is an interrupt, a preemption, a failure or an error
abbrev pub interrupt : ℕ
interrupt = 1

abbrev pub preemption : ℕ
preemption = 2

abbrev pub failure : ℕ
failure = 3

abbrev pub error : ℕ
error = 4

-- the errors, which are the values of a throw of kind error
abbrev pub negative_delay : ℕ
negative_delay = 1

abbrev pub amount_not_positive : ℕ
amount_not_positive = 2

abbrev pub already_triggered : ℕ
already_triggered = 3

abbrev pub ended_process : ℕ
ended_process = 4

abbrev pub process_itself : ℕ
process_itself = 5

abbrev pub overflow : ℕ
overflow = 6

abbrev pub zero_divisor : ℕ
zero_divisor = 7

abbrev pub empty_range : ℕ
empty_range = 8

abbrev pub time_too_late : ℕ
time_too_late = 9

abbrev pub condition_too_wide : ℕ
condition_too_wide = 10

-- What a process may be told next, by what it asked for: an answer of that operation, or what resumes a process that
-- waits.
use Rattle.std.specs.Prelude.{Bool, ◌==◌, ◌||◌, ℕ, List, Option, true, false, [], ◌∷◌, Some, None}
use Rattle.std.specs.List.{list_any}
use Rattle.sim_types.specs.Throws.{negative_delay, amount_not_positive, already_triggered, ended_process, process_itself, empty_range, time_too_late, condition_too_wide}
use Rattle.sim_types.specs.declared.event.EventKind.{EventKind}
use Rattle.sim_types.specs.declared.event.Signal.{Signal}
use Rattle.sim_types.specs.declared.event.EventKind.TheVariants as kind
use Rattle.sim_types.specs.declared.event.Signal.TheVariants as signal
use Rattle.sim_types.specs.declared.op.Op.{Op}
use Rattle.sim_types.specs.declared.op.Op.TheVariants as op

-- the operations after which a process waits
abbrev pub may_wait : Op → Bool
may_wait (op.Wait e) = true
may_wait (op.Pause delay value) = true
may_wait (op.PutWait res amount priority) = true
may_wait (op.GetWait res least greatest) = true
may_wait _ = false

-- what resumes a process that waits, or begins it
abbrev pub is_resumption : Signal → Bool
is_resumption signal.Begin = true
is_resumption (signal.Value v) = true
is_resumption (signal.Thrown t) = true
is_resumption _ = false

-- whether this is one of these errors
abbrev pub raises_one_of : List ℕ → Signal → Bool
raises_one_of errors (signal.Raised n) = list_any (λ m. m == n) errors
raises_one_of errors _ = false

-- whether nothing is told but that it was done
abbrev pub is_done : Signal → Bool
is_done signal.Done = true
is_done _ = false

-- whether an event is told that was made
abbrev pub is_made : Signal → Bool
is_made (signal.Made e) = true
is_made _ = false

-- whether a number is told
abbrev pub is_number : Signal → Bool
is_number (signal.Number n) = true
is_number _ = false

-- whether this may be told next to a process that asked for this and goes on; after `Finish` and `Die` nothing may
abbrev pub may_follow : Op → Signal → Bool
may_follow op.Nop x = is_done x
may_follow (op.Timeout delay value) x = is_made x || raises_one_of (negative_delay ∷ time_too_late ∷ []) x
may_follow (op.Pause delay value) x = is_resumption x || raises_one_of (negative_delay ∷ time_too_late ∷ []) x
may_follow (op.Wait e) x = is_resumption x
may_follow op.NewEvent x = is_made x
may_follow (op.Succeed e value) x = is_done x || raises_one_of (already_triggered ∷ []) x
may_follow (op.Fail e code) x = is_done x || raises_one_of (already_triggered ∷ []) x
may_follow (op.Spawn k args) x = is_made x
may_follow (op.Interrupt q cause) x = is_done x || raises_one_of (ended_process ∷ process_itself ∷ []) x
may_follow (op.Drop q value) x = is_done x || raises_one_of (ended_process ∷ process_itself ∷ []) x
may_follow (op.AllOf members) x = is_made x || raises_one_of (condition_too_wide ∷ []) x
may_follow (op.AnyOf members) x = is_made x || raises_one_of (condition_too_wide ∷ []) x
may_follow (op.Has cond e) x = is_number x
may_follow (op.Enter res priority preempts) x = is_made x || raises_one_of (process_itself ∷ []) x
may_follow op.Leave x = is_done x
may_follow (op.Release request) x = is_done x
may_follow (op.Put res amount priority) x = is_made x || raises_one_of (amount_not_positive ∷ []) x
may_follow (op.Get res least greatest) x = is_made x || raises_one_of (amount_not_positive ∷ []) x
may_follow (op.PutWait res amount priority) x = is_resumption x || raises_one_of (amount_not_positive ∷ []) x
may_follow (op.GetWait res least greatest) x = is_resumption x || raises_one_of (amount_not_positive ∷ []) x
may_follow (op.Cancel e) x = is_done x
may_follow (op.Count res) x = is_number x
may_follow (op.Draw lo hi) x = is_number x || raises_one_of (empty_range ∷ []) x
may_follow (op.Log value) x = is_done x
may_follow (op.Finish value) x = false
may_follow (op.Die t) x = false
may_follow (op.Chain e y) x = is_done x || raises_one_of (already_triggered ∷ []) x

-- the same, where before the first poll only a resumption may be told
abbrev pub may_be_told : Option Op → Signal → Bool
may_be_told None x = is_resumption x
may_be_told (Some asked) x = may_follow asked x

-- the kind of event that an operation makes
abbrev pub makes_kind : Option Op → EventKind → Bool
makes_kind (Some (op.Timeout delay value)) kind.Timeout = true
makes_kind (Some op.NewEvent) kind.Plain = true
makes_kind (Some (op.Spawn k args)) kind.Process = true
makes_kind (Some (op.AllOf members)) kind.Cond = true
makes_kind (Some (op.AnyOf members)) kind.Cond = true
makes_kind (Some (op.Enter res priority preempts)) kind.Request = true
makes_kind (Some (op.Put res amount priority)) kind.Put = true
makes_kind (Some (op.Get res least greatest)) kind.Get = true
makes_kind _ _ = false

-- whether a request was asked for that opens a scope
abbrev pub is_enter : Option Op → Bool
is_enter (Some (op.Enter res priority preempts)) = true
is_enter _ = false

-- Which operations a body may ask for: those on events, resources and kinds that it knows of. With others the machine
-- could leave what is lawful.
use Rattle.std.specs.Prelude.{Bool, nat_lt, ◌==◌, ◌||◌, ◌&&◌, not, ℕ, ℤ, List, true, false, [], ◌∷◌, length, slice_index_or, pos, zero, suc, nat_le}
use Rattle.std.specs.List.{list_any, list_all}
use Rattle.sim_types.specs.declared.event.EventId.{EventId}
use Rattle.sim_types.specs.declared.event.ProcId.{ProcId}
use Rattle.sim_types.specs.declared.setup.Resource.{Resource}
use Rattle.sim_types.specs.declared.setup.ResourceKind.{ResourceKind}
use Rattle.sim_types.specs.declared.setup.ResourceKind.TheVariants as resource
use Rattle.sim_types.specs.declared.op.Op.{Op}
use Rattle.sim_types.specs.declared.op.Op.TheVariants as op
use Rattle.sim_types.specs.declared.setup.Class.{Class}
use Rattle.sim_types.specs.declared.setup.Class.TheVariants as class
use Rattle.sim_machine.specs.Events.{is_same}
use Rattle.sim_machine.specs.Tellings.{Place, CodeFacts, is_class}

-- whether this is event 0, which stands for none and may be named everywhere but in a release
abbrev pub is_zero : EventId → Bool
is_zero e = e.0 == 0

-- whether the scenario names this event
abbrev pub is_named : CodeFacts → EventId → Bool
is_named f e = nat_lt 0 e.0 && nat_le e.0 f.named

-- whether e stands in a place of this class
abbrev pub is_in_place : List Place → Class → EventId → Bool
is_in_place places c e = list_any (λ x. is_class x.class c && is_same x.event e) places

-- an event that a body may wait for: of a place of any class but number, a named one, or its own
abbrev pub is_known : CodeFacts → ProcId → List Place → EventId → Bool
is_known f own places e =
    is_zero e || is_named f e || (e.0 == own.0) || list_any (λ x. not (is_class x.class class.Number) && is_same x.event e) places

-- an event that a body may trigger: of a place of class event, or a named one
abbrev pub is_known_event : CodeFacts → List Place → EventId → Bool
is_known_event f places e = is_zero e || is_named f e || is_in_place places class.Event e

-- a process that a body may interrupt or drop: of a place of class process, or itself
abbrev pub is_known_process : ProcId → List Place → ℕ → Bool
is_known_process own places n = (n == 0) || (n == own.0) || is_in_place places class.Proc (record { 0 = n })

-- whether a resource of this kind is used by requests
abbrev pub takes_requests : ResourceKind → Bool
takes_requests resource.Plain = true
takes_requests resource.Priority = true
takes_requests resource.Preemptive = true
takes_requests _ = false

-- whether there is a resource at this place whose kind passes the test
abbrev pub has_resource : List Resource → (ResourceKind → Bool) → ℕ → Bool
has_resource [] test res = false
has_resource (r ∷ rs) test zero = test r.kind
has_resource (r ∷ rs) test (suc res) = has_resource rs test res

-- whether an argument fits its parameter; those that are no numbers are numbers of events
abbrev pub argument_fits : CodeFacts → ProcId → List Place → Class → ℤ → Bool
argument_fits f own places class.Event (pos n) = is_known_event f places (record { 0 = n })
argument_fits f own places class.Proc (pos n) = is_known_process own places n
argument_fits f own places class.Number v = true
argument_fits f own places _ v = false

-- one argument for each parameter, and each fits
abbrev pub arguments_fit : CodeFacts → ProcId → List Place → List Class → List ℤ → Bool
arguments_fit f own places [] [] = true
arguments_fit f own places (c ∷ cs) (v ∷ vs) = argument_fits f own places c v && arguments_fit f own places cs vs
arguments_fit f own places _ _ = false

-- no process holds more scopes open (this project's own: what a drop leaves at once is bounded by it)
abbrev pub most_scopes : ℕ
most_scopes = 32

-- whether the events, resources and arguments of an operation are such as the body knows, and its scopes are in order
abbrev pub may_ask : CodeFacts → ProcId → List Place → List EventId → Op → Bool
may_ask f own places scopes op.Nop = true
may_ask f own places scopes (op.Timeout delay value) = true
may_ask f own places scopes (op.Pause delay value) = true
may_ask f own places scopes op.NewEvent = true
may_ask f own places scopes (op.Draw lo hi) = true
may_ask f own places scopes (op.Log value) = true
may_ask f own places scopes (op.Wait e) = is_known f own places e
may_ask f own places scopes (op.Succeed e value) = is_known_event f places e
may_ask f own places scopes (op.Fail e code) = is_known_event f places e
may_ask f own places scopes (op.Spawn k args) = nat_lt k (length f.params) && arguments_fit f own places (slice_index_or f.params k []) args
may_ask f own places scopes (op.Interrupt q cause) = is_known_process own places q.0
may_ask f own places scopes (op.Drop q value) = is_known_process own places q.0
may_ask f own places scopes (op.AllOf members) = nat_le (length members) 16 && list_all (is_known f own places) members
may_ask f own places scopes (op.AnyOf members) = nat_le (length members) 16 && list_all (is_known f own places) members
may_ask f own places scopes (op.Has cond e) = (is_zero cond || is_in_place places class.Cond cond) && is_known f own places e
may_ask f own places scopes (op.Enter res priority preempts) = nat_lt (length scopes) most_scopes && has_resource f.resources takes_requests res
may_ask f own places scopes op.Leave = nat_lt 0 (length scopes)
may_ask f own places scopes (op.Release request) = list_any (is_same request) scopes
may_ask f own places scopes (op.Put res amount priority) = has_resource f.resources (λ k. not (takes_requests k)) res
may_ask f own places scopes (op.PutWait res amount priority) = has_resource f.resources (λ k. not (takes_requests k)) res
may_ask f own places scopes (op.Get res least greatest) = has_resource f.resources (λ k. not (takes_requests k)) res
may_ask f own places scopes (op.GetWait res least greatest) = has_resource f.resources (λ k. not (takes_requests k)) res
may_ask f own places scopes (op.Cancel e) = is_zero e || is_in_place places class.Move e
may_ask f own places scopes (op.Count res) = has_resource f.resources (λ k. true) res
may_ask f own places scopes (op.Finish value) = length scopes == 0
may_ask f own places scopes (op.Die t) = length scopes == 0
may_ask f own places scopes (op.Chain e y) =
    (is_known_event f places e || (e.0 == own.0) || is_in_place places class.Cond e || is_in_place places class.Proc e) && is_known_event f places y

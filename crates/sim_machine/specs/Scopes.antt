-- Open scopes: each request stands in one, and leaving it releases (SimPy's requests as context managers; that no
-- request stands outside a scope is this project's own).
use Rattle.std.specs.Prelude.{not, ℕ, List, Option, [], ◌∷◌, ◌++◌, filter, Some, None, fold, find, reverse}
use Rattle.sim_types.specs.declared.event.EventId.{EventId}
use Rattle.sim_types.specs.declared.event.ProcId.{ProcId}
use Rattle.sim_machine.specs.State.{Calendar, Facilities, OpenScope, State}
use Rattle.sim_machine.specs.Events.{is_same, is_process}
use Rattle.sim_machine.specs.Users.{first_of_list}
use Rattle.sim_machine.specs.Trying.{on_calendar}
use Rattle.sim_machine.specs.Requests.{make_release, leave}

-- what is done to the facilities of a state
abbrev pub on_facilities : {B : Type 0} → (Facilities → Facilities) → State B → State B
on_facilities change s = record s { facilities = change s.facilities }

-- what is done to the calendar of a state
abbrev pub on_events : {B : Type 0} → (Calendar → Calendar) → State B → State B
on_events change s = on_facilities (on_calendar change) s

-- the open scopes of p, the innermost first
abbrev pub scopes_inwards : {B : Type 0} → ProcId → State B → List OpenScope
scopes_inwards p s = reverse (filter (λ x. is_process x.process p) s.scopes)

-- a scope more is open
abbrev pub open_scope : {B : Type 0} → ProcId → EventId → ℕ → State B → State B
open_scope p request res s = record s { scopes = s.scopes ++ record { process = p; request = request; res = res } ∷ [] }

-- the scope is closed, and its request left
abbrev pub close_scope : {B : Type 0} → State B → OpenScope → State B
close_scope s x =
    on_facilities (leave x.res x.request) (record s { scopes = filter (λ y. not (is_same y.request x.request)) s.scopes })

-- the scope is closed, where there is one
abbrev pub close_if_any : {B : Type 0} → Option OpenScope → State B → State B
close_if_any None s = s
close_if_any (Some x) s = close_scope s x

-- the innermost scope of p is left, where one is open
abbrev pub leave_innermost : {B : Type 0} → ProcId → State B → State B
leave_innermost p s = close_if_any (first_of_list (scopes_inwards p s)) s

-- all scopes of p are left, the innermost first
abbrev pub leave_all : {B : Type 0} → ProcId → State B → State B
leave_all p s = fold close_scope s (scopes_inwards p s)

-- the request of a scope is released, where there is one
abbrev pub release_if_any : {B : Type 0} → Option OpenScope → State B → State B
release_if_any None s = s
release_if_any (Some x) s = on_facilities (make_release x.res x.request) s

-- a request is released early; its scope stays open, and leaving it releases once more
abbrev pub release_request : {B : Type 0} → EventId → State B → State B
release_request request s = release_if_any (find (λ x. is_same x.request request) s.scopes) s

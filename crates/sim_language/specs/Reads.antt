-- What a text says.
--     reads bytes      the fault of the first faulty line, or else the scenario
use Rattle.std.specs.Prelude.{ℕ, suc, ◌+◌, Bool, if◌then◌else◌, nat_lt, List, [], ◌∷◌, ◌++◌, map, length, take, replicate, nat_abs, ℤ, pos, Option, Some, None, unwrap_or, Result, Ok, Err}
use Rattle.sim_types.specs.Limits.{most_bytes, most_items, most_level}
use Rattle.sim_types.specs.Scenarios.{ScenarioOf}
use Rattle.sim_types.specs.declared.fault.Fault.{Fault}
use Rattle.sim_types.specs.declared.fault.FaultKind.TheVariants as fault
use Rattle.sim_types.specs.declared.script.Kind.{Kind}
use Rattle.sim_types.specs.declared.script.Stmt.{Stmt}
use Rattle.sim_types.specs.declared.setup.Class.{Class}
use Rattle.sim_types.specs.declared.setup.Class.TheVariants as class
use Rattle.sim_types.specs.declared.setup.Until.TheVariants as until
use Rattle.sim_types.specs.declared.setup.ResourceKind.{ResourceKind}
use Rattle.sim_types.specs.declared.setup.ResourceKind.TheVariants as resource
use Rattle.sim_types.specs.declared.setup.Arrival.{Arrival}
use Rattle.sim_types.specs.declared.setup.Post.{Post}
use Rattle.sim_language.specs.declared.form.Form.{Form}
use Rattle.sim_language.specs.declared.form.Meaning.{Meaning}
use Rattle.sim_language.specs.declared.form.Form.TheVariants as form
use Rattle.sim_language.specs.declared.shape.Role.{Role}
use Rattle.sim_language.specs.declared.shape.Role.TheVariants.{Names, EventAhead}
use Rattle.sim_language.specs.declared.shape.Ahead.TheVariants.{EventAt}
use Rattle.sim_language.specs.Lines.{Word, lines}
use Rattle.sim_language.specs.Named.{Named}
use Rattle.sim_language.specs.Shapes.{Operand, capacity}
use Rattle.sim_language.specs.AnywhereInText.{ProcessLines, WholeText, whole_text}
use Rattle.sim_language.specs.Sayings.{TextLine, Saying, Says, sayings}
use Rattle.sim_language.specs.Variables.{given_by}
use Rattle.sim_language.specs.Places.{LineInText, places}
use Rattle.sim_language.specs.Faults.{first_fault, end_fault}
use Rattle.sim_language.specs.Statements.{literal_of, number_declared, event_number, kind_number, statement}
use Rattle.sim_language.specs.Links.{linked}

-- ---- what a line adds to the scenario

abbrev pub with_resource : ScenarioOf → ResourceKind → ℤ → ℤ → ScenarioOf
with_resource s kind capacity opening = record s { setup = record s.setup { resources = s.setup.resources ++ record { kind = kind; capacity = capacity; opening = opening } ∷ [] } }

abbrev pub with_port : ScenarioOf → Word → ℕ → ScenarioOf
with_port s name kind = record s { setup = record s.setup { ports = s.setup.ports ++ kind ∷ [] }; port_names = s.port_names ++ name ∷ [] }

abbrev pub with_start : ScenarioOf → ℕ → List ℤ → ScenarioOf
with_start s kind args = record s { setup = record s.setup { starts = s.setup.starts ++ record { kind = kind; args = args } ∷ [] } }

abbrev pub with_kind : ScenarioOf → Kind → ScenarioOf
with_kind s kind = record s { kinds = s.kinds ++ kind ∷ [] }

abbrev pub with_statement : ScenarioOf → Option Stmt → ScenarioOf
with_statement s None = s
with_statement s (Some statement) = record s { code = s.code ++ statement ∷ [] }

abbrev pub with_arrival : ScenarioOf → Arrival → ScenarioOf
with_arrival s arrival = record s { journal = s.journal ++ arrival ∷ [] }

abbrev pub onto_last : Post → List (List Post) → List (List Post)
onto_last post [] = []
onto_last post (posts ∷ []) = (posts ++ post ∷ []) ∷ []
onto_last post (posts ∷ more ∷ rest) = posts ∷ onto_last post (more ∷ rest)

abbrev pub natural_of : Word → ℕ
natural_of w = nat_abs (literal_of w)

abbrev pub capacity_of : ℤ → Word → ℤ
capacity_of most w = unwrap_or (capacity most w) (pos 0)

-- an argument of a start: a literal, or the number of a named event
abbrev pub start_argument_of : List (Named Meaning) → Operand → ℤ
start_argument_of ds slot = by slot.role
  where
    by : Role → ℤ
    by (Names wanted) = pos (event_number ds slot.word)
    by role = literal_of slot.word

-- the event that `until event` names
abbrev pub event_ahead : Operand → ℕ
event_ahead slot = by slot.role
  where
    by : Role → ℕ
    by (EventAhead (EventAt n)) = suc n
    by role = 0

-- each variable's class by its number, and Number for the numbers that no variable has
abbrev pub classes_of : List (Named Class) → List Class
classes_of variables = take 64 (class.Number ∷ map (λ v. v.value) variables ++ replicate 64 class.Number)

abbrev pub kind_of : LineInText → List Operand → Kind
kind_of place slots = record { params = length (given_by slots); first = place.above.statements; classes = classes_of place.variables }

-- `until empty` and the lines of headers and sections add nothing
abbrev pub add : ProcessLines → LineInText → Form → List Operand → ScenarioOf → ScenarioOf
add heads place form.UntilTime (t ∷ []) s = record s { setup = record s.setup { until = until.At (literal_of t.word) } }
add heads place form.UntilEvent (n ∷ []) s = record s { setup = record s.setup { until = until.Event (record { 0 = event_ahead n }) } }
add heads place form.Seed (n ∷ []) s = record s { seed = natural_of n.word }
add heads place form.Resource (n ∷ c ∷ []) s = with_resource s resource.Plain (literal_of c.word) (pos 0)
add heads place form.Priority (n ∷ c ∷ []) s = with_resource s resource.Priority (literal_of c.word) (pos 0)
add heads place form.Preemptive (n ∷ c ∷ []) s = with_resource s resource.Preemptive (literal_of c.word) (pos 0)
add heads place form.Container (n ∷ c ∷ o ∷ []) s = with_resource s resource.Container (capacity_of most_level c.word) (literal_of o.word)
add heads place form.Store (n ∷ c ∷ []) s = with_resource s resource.Store (capacity_of most_items c.word) (pos 0)
add heads place form.PStore (n ∷ c ∷ []) s = with_resource s resource.PStore (capacity_of most_items c.word) (pos 0)
add heads place form.FStore (n ∷ c ∷ []) s = with_resource s resource.FStore (capacity_of most_items c.word) (pos 0)
add heads place form.Event slots s = record s { setup = record s.setup { events = s.setup.events + 1 } }
add heads place form.Port (n ∷ p ∷ []) s = with_port s n.word (kind_number heads p.word)
add heads place form.Process slots s = with_kind s (kind_of place slots)
add heads place form.Start (p ∷ args) s = with_start s (kind_number heads p.word) (take 8 (map (start_argument_of place.above.declared) args))
add heads place form.After (k ∷ p ∷ n ∷ port ∷ v ∷ []) s = with_arrival s (record { after = natural_of k.word; poster = natural_of p.word; serial = natural_of n.word; port = number_declared place.above.declared port.word; value = literal_of v.word })
add heads place form.Poster slots s = record s { posters = s.posters ++ [] ∷ [] }
add heads place form.Post (port ∷ v ∷ []) s = record s { posters = onto_last (record { port = number_declared place.above.declared port.word; value = literal_of v.word }) s.posters }
add heads place f slots s = with_statement s (statement heads place f slots)

abbrev pub add_said : ProcessLines → LineInText → Saying → ScenarioOf → ScenarioOf
add_said heads place (Says f slots) s = add heads place f slots s
add_said heads place other s = s

-- the scenario with what the lines at these places add, one after the other
abbrev pub with_lines : ProcessLines → ScenarioOf → List LineInText → ScenarioOf
with_lines heads s [] = s
with_lines heads s (place ∷ rest) = with_lines heads (add_said heads place place.line.saying s) rest

-- a scenario of no lines
abbrev pub nothing_said : ScenarioOf
nothing_said = record {
  setup = record { until = until.Never; events = 0; resources = []; ports = []; starts = [] };
  seed = 0;
  port_names = [];
  kinds = [];
  code = [];
  journal = [];
  posters = [];
}

-- ---- what a text says

abbrev pub unless_faulty : Option Fault → ScenarioOf → Result ScenarioOf Fault
unless_faulty (Some fault) s = Err fault
unless_faulty None s = Ok (record s { code = linked 0 s.code })

-- what the lines at these places say, where those above say s
abbrev pub outcome : ProcessLines → ScenarioOf → List LineInText → Option Fault → Result ScenarioOf Fault
outcome heads s ps end = unless_faulty (first_fault heads ps end) (with_lines heads s ps)

abbrev pub reads_lines : ProcessLines → List TextLine → Result ScenarioOf Fault
reads_lines heads ls = outcome heads nothing_said (places 1 [] ls) (end_fault ls)

-- more bytes than a text may have
abbrev pub is_too_long : List ℕ → Bool
is_too_long bytes = nat_lt most_bytes (length bytes)

abbrev pub reads_text : WholeText → List Word → Result ScenarioOf Fault
reads_text whole ls = reads_lines whole.heads (sayings whole ls)

abbrev pub reads : List ℕ → Result ScenarioOf Fault
reads bytes = if is_too_long bytes then Err (record { line = 0; kind = fault.TooLong }) else reads_text (whole_text (lines bytes)) (lines bytes)

-- the fault alone
abbrev pub fault_of : List ℕ → Option Fault
fault_of bytes = by (reads bytes)
  where
    by : Result ScenarioOf Fault → Option Fault
    by (Ok scenario) = None
    by (Err fault) = Some fault

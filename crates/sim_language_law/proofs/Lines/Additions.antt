-- What a line adds to a scenario, by what it is.
--     added heads place form slots      what a line of this form and these operands adds
--     add_added                         so it is
use Rattle.std.specs.Prelude.{◌≡◌, refl, ℕ, ◌+◌, List, [], ◌∷◌, ◌++◌, map, take, ℤ, pos, ◌^◌, Option, Some, None}
use Rattle.sim_types.specs.Scenarios.{ScenarioOf}
use Rattle.sim_types.specs.declared.script.Kind.{Kind}
use Rattle.sim_types.specs.declared.script.Stmt.{Stmt}
use Rattle.sim_types.specs.declared.setup.Until.{Until}
use Rattle.sim_types.specs.declared.setup.Until.TheVariants as until
use Rattle.sim_types.specs.declared.setup.ResourceKind.{ResourceKind}
use Rattle.sim_types.specs.declared.setup.ResourceKind.TheVariants as resource
use Rattle.sim_types.specs.declared.setup.Arrival.{Arrival}
use Rattle.sim_types.specs.declared.setup.Post.{Post}
use Rattle.sim_language.specs.declared.form.Form.{Form}
use Rattle.sim_language.specs.declared.form.Form.TheVariants as form
use Rattle.sim_language.specs.Lines.{Word}
use Rattle.sim_language.specs.Shapes.{Operand}
use Rattle.sim_language.specs.AnywhereInText.{ProcessLines}
use Rattle.sim_language.specs.Places.{LineInText}
use Rattle.sim_language.specs.Statements.{literal_of, number_declared, kind_number, statement}
use Rattle.sim_language.specs.Reads.{add, with_resource, with_port, with_start, with_kind, with_statement, with_arrival, onto_last, natural_of, capacity_of, start_argument_of, event_ahead, kind_of}

pub data Added : Type 0 where
  Nothing : Added
  TheUntil : Until → Added
  TheSeed : ℕ → Added
  -- its kind, capacity and opening
  AResource : ResourceKind → ℤ → ℤ → Added
  AnEvent : Added
  APort : Word → ℕ → Added
  AKind : Kind → Added
  AStart : ℕ → List ℤ → Added
  AStatement : Stmt → Added
  AnArrival : Arrival → Added
  APoster : Added
  APost : Post → Added

abbrev pub put_in : Added → ScenarioOf → ScenarioOf
put_in Nothing s = s
put_in (TheUntil u) s = record s { setup = record s.setup { until = u } }
put_in (TheSeed n) s = record s { seed = n }
put_in (AResource kind capacity opening) s = with_resource s kind capacity opening
put_in AnEvent s = record s { setup = record s.setup { events = s.setup.events + 1 } }
put_in (APort name kind) s = with_port s name kind
put_in (AKind kind) s = with_kind s kind
put_in (AStart kind args) s = with_start s kind args
put_in (AStatement statement) s = with_statement s (Some statement)
put_in (AnArrival arrival) s = with_arrival s arrival
put_in APoster s = record s { posters = s.posters ++ [] ∷ [] }
put_in (APost post) s = record s { posters = onto_last post s.posters }

abbrev pub by_statement : Option Stmt → Added
by_statement None = Nothing
by_statement (Some statement) = AStatement statement

abbrev pub added : ProcessLines → LineInText → Form → List Operand → Added
added heads place form.UntilTime (t ∷ []) = TheUntil (until.At (literal_of t.word))
added heads place form.UntilEvent (n ∷ []) = TheUntil (until.Event (record { 0 = event_ahead n }))
added heads place form.Seed (n ∷ []) = TheSeed (natural_of n.word)
added heads place form.Resource (n ∷ c ∷ []) = AResource resource.Plain (literal_of c.word) (pos 0)
added heads place form.Priority (n ∷ c ∷ []) = AResource resource.Priority (literal_of c.word) (pos 0)
added heads place form.Preemptive (n ∷ c ∷ []) = AResource resource.Preemptive (literal_of c.word) (pos 0)
added heads place form.Container (n ∷ c ∷ o ∷ []) = AResource resource.Container (capacity_of (pos (2 ^ 62)) c.word) (literal_of o.word)
added heads place form.Store (n ∷ c ∷ []) = AResource resource.Store (capacity_of (pos (2 ^ 32)) c.word) (pos 0)
added heads place form.PStore (n ∷ c ∷ []) = AResource resource.PStore (capacity_of (pos (2 ^ 32)) c.word) (pos 0)
added heads place form.FStore (n ∷ c ∷ []) = AResource resource.FStore (capacity_of (pos (2 ^ 32)) c.word) (pos 0)
added heads place form.Event slots = AnEvent
added heads place form.Port (n ∷ p ∷ []) = APort n.word (kind_number heads p.word)
added heads place form.Process slots = AKind (kind_of place slots)
added heads place form.Start (p ∷ args) = AStart (kind_number heads p.word) (take 8 (map (start_argument_of place.above.declared) args))
added heads place form.After (k ∷ p ∷ n ∷ port ∷ v ∷ []) = AnArrival (record { after = natural_of k.word; poster = natural_of p.word; serial = natural_of n.word; port = number_declared place.above.declared port.word; value = literal_of v.word })
added heads place form.Poster slots = APoster
added heads place form.Post (port ∷ v ∷ []) = APost (record { port = number_declared place.above.declared port.word; value = literal_of v.word })
added heads place f slots = by_statement (statement heads place f slots)

put_statement : (o : Option Stmt) (s : ScenarioOf) → with_statement s o ≡ put_in (by_statement o) s
put_statement None s = refl
put_statement (Some statement) s = refl

pub add_added : (heads : ProcessLines) (place : LineInText) (f : Form) (slots : List Operand) (s : ScenarioOf)
    → add heads place f slots s ≡ put_in (added heads place f slots) s
add_added heads place form.UntilTime (t ∷ []) s = refl
add_added heads place form.UntilEvent (n ∷ []) s = refl
add_added heads place form.Seed (n ∷ []) s = refl
add_added heads place form.Resource (n ∷ c ∷ []) s = refl
add_added heads place form.Priority (n ∷ c ∷ []) s = refl
add_added heads place form.Preemptive (n ∷ c ∷ []) s = refl
add_added heads place form.Container (n ∷ c ∷ o ∷ []) s = refl
add_added heads place form.Store (n ∷ c ∷ []) s = refl
add_added heads place form.PStore (n ∷ c ∷ []) s = refl
add_added heads place form.FStore (n ∷ c ∷ []) s = refl
add_added heads place form.Event slots s = refl
add_added heads place form.Port (n ∷ p ∷ []) s = refl
add_added heads place form.Process slots s = refl
add_added heads place form.Start (p ∷ args) s = refl
add_added heads place form.After (k ∷ p ∷ n ∷ port ∷ v ∷ []) s = refl
add_added heads place form.Poster slots s = refl
add_added heads place form.Post (port ∷ v ∷ []) s = refl
add_added heads place f slots s = put_statement (statement heads place f slots) s

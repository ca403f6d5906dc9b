-- What a line of a faultless text adds fits in the whole scenario: ports and starts the processes that they name, and the
-- end of a run the events.
--     Ground whole final place     what a line at a place may count on in the whole scenario
--     fits_in_whole                so it is for operands that have the shape of the form
use Rattle.std.specs.Prelude.{◌≡◌, refl, ℕ, zero, suc, ◌≤◌, ◌<◌, Bool, true, false, ◌&&◌, ◌==◌, nat_lt, nat_le, List, [], ◌∷◌, map, length, take, pos, Option, Some, None, option_map, unwrap_or, slice_get, slice_index_or}
use Rattle.std.specs.List.{list_all, list_any}
use Rattle.std.proofs.Common.{arith, sym, ap, ◌∙◌, subst}
use Rattle.std.proofs.lemmas.Bool.{true≢false, and_from, or_parts, not-false, eqb-true, lt-ltb, le-leb}
use Rattle.std.proofs.lemmas.Option.{none-some}
use Rattle.std.proofs.lemmas.List.{length-map, take_all}
use Rattle.sim_types.specs.Limits.{last_time}
use Rattle.sim_types.specs.Scenarios.{ScenarioOf, facts_of, parameter_classes}
use Rattle.sim_types.specs.declared.setup.Start.{Start}
use Rattle.sim_types.specs.declared.setup.Until.TheVariants as until
use Rattle.sim_types.specs.declared.setup.Class.{Class}
use Rattle.sim_types.specs.declared.setup.Class.TheVariants as class
use Rattle.sim_types.specs.declared.script.Kind.{Kind}
use Rattle.sim_types.specs.declared.script.Stmt.{Stmt}
use Rattle.sim_language.specs.declared.form.Form.{Form}
use Rattle.sim_language.specs.declared.form.Form.TheVariants as form
use Rattle.sim_language.specs.declared.form.Sort.TheVariants as sort
use Rattle.sim_language.specs.declared.form.Meaning.{Meaning}
use Rattle.sim_language.specs.declared.shape.Role.TheVariants.{Names, EventAhead}
use Rattle.sim_language.specs.declared.shape.Ahead.{Ahead}
use Rattle.sim_language.specs.declared.shape.Ahead.TheVariants.{Undeclared, NoEvent, EventAt}
use Rattle.sim_language.specs.Lines.{Word}
use Rattle.sim_language.specs.Named.{value_of, is_named}
use Rattle.sim_language.specs.Forms.{declares_sort}
use Rattle.sim_language.specs.Shapes.{Operand, Context, shape, slot_of, side_by_side, start_argument}
use Rattle.sim_language.specs.AnywhereInText.{WholeText, parameters, ahead}
use Rattle.sim_language.specs.Declarations.{sort_by}
use Rattle.sim_language.specs.Places.{LineInText}
use Rattle.sim_language.specs.NameFaults.{is_process_class}
use Rattle.sim_language.specs.Statements.{kind_number, event_number, statement}
use Rattle.sim_language.specs.Reads.{start_argument_of, event_ahead}
use Rattle.sim_language.specs.FittingStatements.{classes_at}
use Rattle.sim_types.specs.Setups.{until_fits, port_fits, start_fits, start_arguments_fit, takes_one_number}
use Rattle.sim_language_law.proofs.Operands.ByShape.{Rule, rule_all}
use Rattle.sim_language_law.proofs.Lines.Additions.{Added, TheUntil, APort, AStart, by_statement, added}
use Rattle.sim_language_law.proofs.Lines.AdditionsByForm.{resource_kind}
use Rattle.sim_language_law.proofs.Operands.Literals.{literal_in}
use Rattle.sim_language_law.proofs.Lines.CleanLines.{GoodSlot, GoodSlots, CleanLine}
use Rattle.sim_language_law.proofs.Names.GoodNames.{sort_is, declared_is}
use Rattle.sim_language_law.proofs.Setups.EntriesByForm.{number_is}
use Rattle.sim_language_law.proofs.Names.NamedLists.{named_value}
use Rattle.sim_language_law.proofs.Processes.KindsOfHeads.{KindsFit, is_parameter_class}

pub record Ground (whole : WholeText) (final : ScenarioOf) (place : LineInText) : Type 0 where
  pub kinds : KindsFit whole.heads final
  pub processes : (w : Word) (d : Meaning) → value_of w place.above.declared ≡ Some d → declares_sort d.form ≡ Some sort.Process → is_named w whole.heads ≡ true
  pub events : (w : Word) (d : Meaning) → value_of w place.above.declared ≡ Some d → declares_sort d.form ≡ Some sort.Event → d.number < final.setup.events
  -- an event that the text declares further down may be named too
  pub ahead : (w : Word) (n : ℕ) → ahead w whole.declarations ≡ EventAt n → n < final.setup.events
  pub resources : (w : Word) (d : Meaning) → value_of w place.above.declared ≡ Some d → declares_sort d.form ≡ Some sort.Resource
      → option_map (λ r. r.kind) (slice_get final.setup.resources d.number) ≡ Some (resource_kind d.form)

-- ---- the process that a line names

-- a process has the classes of its parameters
pub process_classes : (whole : WholeText) (final : ScenarioOf) (place : LineInText) (w : Word) → Ground whole final place
    → GoodSlot whole place (record { role = Names sort.Process; word = w }) → value_of w whole.heads ≡ Some (parameters whole.heads w)
process_classes whole final place w ground good = there (by (value_of w place.above.declared) refl (sort_is whole place sort.Process w good))
  where
    as_head : (b : Bool) → sort_by None b ≡ Some sort.Process → b ≡ true
    as_head true e = refl
    as_head false e = absurd (none-some sort.Process e)

    by : (found : Option Meaning) → value_of w place.above.declared ≡ found → sort_by found (is_named w whole.heads) ≡ Some sort.Process
        → is_named w whole.heads ≡ true
    by None e sorted = as_head (is_named w whole.heads) sorted
    by (Some d) e sorted = ground.processes w d e sorted

    there : is_named w whole.heads ≡ true → value_of w whole.heads ≡ Some (parameters whole.heads w)
    there named = let found = named_value w whole.heads named in found.1 ∙ ap (λ o. Some (unwrap_or o [])) (sym found.1)

-- ---- arguments of a start

pub event_there : (whole : WholeText) (final : ScenarioOf) (place : LineInText) (w : Word) → Ground whole final place
    → GoodSlot whole place (record { role = Names sort.Event; word = w }) → event_number place.above.declared w ≤ final.setup.events
event_there whole final place w ground good =
    let found = declared_is whole.heads place.above.declared sort.Event w refl (sort_is whole place sort.Event w good) in
    rw (number_is place.above.declared w found.0 found.1) (ground.events w found.0 found.1 found.2)

event_named : (n m : ℕ) → suc n ≤ m → (nat_lt 0 (suc n) && nat_le (suc n) m) ≡ true
event_named n m h = and_from _ _ (lt-ltb 0 (suc n) (omega arith)) (le-leb (suc n) m h)

start_arguments : (whole : WholeText) (final : ScenarioOf) (place : LineInText) (cs : List Class) (ws : List Word) → Ground whole final place
    → GoodSlots whole place (side_by_side (map start_argument cs) ws) → length (side_by_side (map start_argument cs) ws) ≡ length cs
    → list_all is_parameter_class cs ≡ true → list_any is_process_class cs ≡ false
    → start_arguments_fit final.setup.events cs (map (start_argument_of place.above.declared) (side_by_side (map start_argument cs) ws)) ≡ true
start_arguments whole final place [] [] ground good as_many plain none = refl
start_arguments whole final place [] (w ∷ ws) ground good as_many plain none = absurd (omega arith)
start_arguments whole final place (c ∷ cs) [] ground good as_many plain none = absurd (omega arith)
start_arguments whole final place (class.Number ∷ cs) (w ∷ ws) ground good as_many plain none = start_arguments whole final place cs ws ground good.1 (omega arith) plain none
start_arguments whole final place (class.Event ∷ cs) (w ∷ ws) ground good as_many plain none = and_from _ _ (event_named _ final.setup.events (event_there whole final place w ground good.0)) (start_arguments whole final place cs ws ground good.1 (omega arith) plain none)
start_arguments whole final place (class.Proc ∷ cs) (w ∷ ws) ground good as_many plain none = absurd (true≢false none)
start_arguments whole final place (c ∷ cs) (w ∷ ws) ground good as_many plain none = absurd (true≢false (sym plain))

-- ---- the event that ends a run

until_there : (whole : WholeText) (final : ScenarioOf) (place : LineInText) (w : Word) (found : Ahead) → ahead w whole.declarations ≡ found
    → Ground whole final place → GoodSlot whole place (record { role = EventAhead found; word = w })
    → until_fits final.setup.events (until.Event (record { 0 = event_ahead (record { role = EventAhead found; word = w }) })) ≡ true
until_there whole final place w Undeclared is ground good = absurd (true≢false good.known)
until_there whole final place w NoEvent is ground good = absurd (true≢false good.sort)
until_there whole final place w (EventAt n) is ground good = event_named n final.setup.events (ground.ahead w n is)

-- ---- each form

abbrev pub FitsInWhole : ScenarioOf → Added → Type 0
FitsInWhole final (TheUntil u) = until_fits final.setup.events u ≡ true
FitsInWhole final (APort name kind) = port_fits (facts_of final) kind ≡ true
FitsInWhole final (AStart kind args) = start_fits (facts_of final) (record { kind = kind; args = args }) ≡ true
FitsInWhole final a = Unit {0}

in_whole_by_statement : (final : ScenarioOf) (o : Option Stmt) → FitsInWhole final (by_statement o)
in_whole_by_statement final None = tt
in_whole_by_statement final (Some statement) = tt

-- the parameters of a process kind that is there
record IsFound (kinds : List Kind) (kind : ℕ) (cs : List Class) : Type 0 where
  within : kind < length (map parameter_classes kinds)
  params : slice_index_or (map parameter_classes kinds) kind [] ≡ cs

found_at : (kinds : List Kind) (kind : ℕ) (cs : List Class) → option_map parameter_classes (slice_get kinds kind) ≡ Some cs → IsFound kinds kind cs
found_at [] kind cs at = absurd (none-some cs at)
found_at (k ∷ kinds) zero cs at = record { within = omega arith; params = cc }
found_at (k ∷ kinds) (suc kind) cs at = let later = found_at kinds kind cs at in record { within = omega (arith, later.within); params = later.params }

-- a port's process has one parameter, a number
one_number : (final : ScenarioOf) (kind : ℕ) (cs : List Class) → classes_at final kind ≡ Some cs → takes_one_number cs ≡ true
    → port_fits (facts_of final) kind ≡ true
one_number final kind cs at one =
    let found = found_at final.kinds kind cs at in
    and_from (nat_lt kind (length (facts_of final).params)) _ (lt-ltb _ _ found.within) (rw found.params one)

port_fit : (whole : WholeText) (final : ScenarioOf) (place : LineInText) (p : Word) → Ground whole final place
    → GoodSlot whole place (record { role = Names sort.Process; word = p }) → takes_one_number (parameters whole.heads p) ≡ true
    → port_fits (facts_of final) (kind_number whole.heads p) ≡ true
port_fit whole final place p ground good one = one_number final (kind_number whole.heads p) (parameters whole.heads p) (ground.kinds.found p (parameters whole.heads p) (process_classes whole final place p ground good)) one

-- what a `start` line starts, where these are the parameters of its process
abbrev start_of : WholeText → LineInText → Word → List Class → List Word → Start
start_of whole place p cs ws = record { kind = kind_number whole.heads p; args = take 8 (map (start_argument_of place.above.declared) (side_by_side (map start_argument cs) ws)) }

-- a start gives each parameter what it takes
start_fit : (whole : WholeText) (final : ScenarioOf) (place : LineInText) (p : Word) (ws : List Word) → Ground whole final place
    → GoodSlots whole place (record { role = Names sort.Process; word = p } ∷ side_by_side (map start_argument (parameters whole.heads p)) ws)
    → (length (side_by_side (map start_argument (parameters whole.heads p)) ws) == length (parameters whole.heads p)) ≡ true
    → list_any is_process_class (parameters whole.heads p) ≡ false
    → start_fits (facts_of final) (start_of whole place p (parameters whole.heads p) ws) ≡ true
start_fit whole final place p ws ground good counted none =
    let cs : List Class = parameters whole.heads p in
    let slots : List Operand = side_by_side (map start_argument cs) ws in
    let named = process_classes whole final place p ground good.0 in
    let at = ground.kinds.found p cs named in
    let few = ground.kinds.few p cs named in
    let as_many = eqb-true (length slots) (length cs) counted in
    let all : take 8 (map (start_argument_of place.above.declared) slots) ≡ map (start_argument_of place.above.declared) slots = take_all 8 (map (start_argument_of place.above.declared) slots) (omega (arith, length-map slots (start_argument_of place.above.declared))) in
    let found = found_at final.kinds (kind_number whole.heads p) cs at in
    and_from (nat_lt (kind_number whole.heads p) (length (facts_of final).params)) _ (lt-ltb _ _ found.within) (rw (found.params, all) (start_arguments whole final place cs ws ground good.1 as_many (ground.kinds.plain p cs named) none))

module _ (context : Context) (whole : WholeText) (final : ScenarioOf) (place : LineInText) where
  pub fits_in_whole : (f : Form)
      → Rule context [] (shape f) (λ slots. CleanLine whole place f slots → context.whole ≡ whole → Ground whole final place
      → FitsInWhole final (added whole.heads place f slots))
  fits_in_whole form.UntilTime = λ t clean e ground. literal_in (pos 1) last_time t refl refl clean.good.0.number
  fits_in_whole form.UntilEvent = λ v n clean e ground. until_there whole final place n _ (ap (λ w. ahead n w.declarations) (sym e)) ground clean.good.0
  fits_in_whole form.Seed = λ n clean e ground. tt
  fits_in_whole form.Resource = λ n c clean e ground. tt
  fits_in_whole form.Priority = λ n c clean e ground. tt
  fits_in_whole form.Preemptive = λ n c clean e ground. tt
  fits_in_whole form.Container = λ n c o clean e ground. tt
  fits_in_whole form.Store = λ n c clean e ground. tt
  fits_in_whole form.PStore = λ n c clean e ground. tt
  fits_in_whole form.FStore = λ n c clean e ground. tt
  fits_in_whole form.Event = λ n clean e ground. tt
  fits_in_whole form.Port = λ n p clean e ground. port_fit whole final place p ground clean.good.1.0 (not-false (takes_one_number (parameters whole.heads p)) clean.arguments)
  fits_in_whole form.Process = λ n ws clean e ground. tt
  fits_in_whole form.Start = λ p ws clean e ground.
      subst (λ v. CleanLine whole place form.Start (slot_of (Names sort.Process) p ∷ side_by_side (map start_argument (parameters v.heads p)) ws)
      → start_fits (facts_of final) (start_of whole place p (parameters v.heads p) ws) ≡ true)
      (sym e)
      (λ fine. let parts = or_parts _ (list_any is_process_class (parameters whole.heads p)) fine.arguments in start_fit whole final place p ws ground fine.good (not-false _ parts.0) parts.1)
      clean
  fits_in_whole form.After = λ k p n port v clean e ground. tt
  fits_in_whole form.Poster = λ n clean e ground. tt
  fits_in_whole form.Post = λ port v clean e ground. tt
  fits_in_whole f = rule_all context [] (shape f) (λ slots. CleanLine whole place f slots → context.whole ≡ whole → Ground whole final place → FitsInWhole final (added whole.heads place f slots)) (λ slots clean e ground. in_whole_by_statement final (statement whole.heads place f slots))

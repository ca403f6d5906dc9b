-- The statement that a line of a faultless text is fits its process kind.
--     statements_fit      so it is for operands that have the shape of the form
use Rattle.std.specs.Prelude.{◌≡◌, refl, Bool, true, false, not, ◌&&◌, ◌==◌, List, [], ◌∷◌, map, length, Option, Some, None}
use Rattle.std.proofs.Common.{arith, sym, subst}
use Rattle.std.proofs.lemmas.Bool.{and_from, not-false}
use Rattle.sim_types.specs.Scenarios.{ScenarioOf}
use Rattle.sim_types.specs.declared.setup.Class.{Class}
use Rattle.sim_types.specs.declared.setup.Class.TheVariants as class
use Rattle.sim_types.specs.declared.script.Kind.{Kind}
use Rattle.sim_types.specs.declared.script.Stmt.{Stmt}
use Rattle.sim_language.specs.declared.form.Form.{Form}
use Rattle.sim_language.specs.declared.form.Form.TheVariants as form
use Rattle.sim_language.specs.declared.form.Sort.TheVariants as sort
use Rattle.sim_language.specs.declared.shape.Reference.{Reference}
use Rattle.sim_language.specs.declared.shape.Reference.TheVariants.{AnyEvent, PlainEvent, Chained, AProcess}
use Rattle.sim_language.specs.declared.shape.Role.TheVariants.{Gives, Value, Refers, Names, Free}
use Rattle.sim_language.specs.Lines.{Word}
use Rattle.sim_language.specs.Shapes.{Context, shape, slot_of, side_by_side, spawn_argument}
use Rattle.sim_language.specs.AnywhereInText.{WholeText, parameters}
use Rattle.sim_language.specs.Blocks.{Block}
use Rattle.sim_language.specs.Places.{LineInText, blocks_of}
use Rattle.sim_language.specs.Statements.{variable, number_of, event_of, nothing, preempts, kind_number, arguments, end_of, statement}
use Rattle.sim_language.specs.FittingStatements.{gives, number_fits, event_fits, arguments_fit, statement_fits}
use Rattle.sim_language_law.proofs.Operands.ByShape.{Rule, rule_all}
use Rattle.sim_language_law.proofs.Lines.CleanLines.{GoodSlot, GoodSlots, CleanLine}
use Rattle.sim_language_law.proofs.Statements.FittingOperands.{InProcess, gives_fit, value_fit, refer_fit}
use Rattle.sim_language_law.proofs.Statements.FittingParts.{uses_condition, uses_request, uses_move, resource_below, request_fit, put_fit, get_fit, arguments_good, members_good}

abbrev pub StatementFits : ScenarioOf → Kind → Option Stmt → Type 0
StatementFits final k None = Unit {0}
StatementFits final k (Some statement) = statement_fits final k statement ≡ true

end_fits : (final : ScenarioOf) (k : Kind) (blocks : List Block) → statement_fits final k (end_of blocks) ≡ true
end_fits final k [] = refl
end_fits final k (b ∷ blocks) = by b.form refl
  where
    by : (f : Form) → b.form ≡ f → statement_fits final k (end_of (b ∷ blocks)) ≡ true
    by form.With e = rw e refl
    by form.Loop e = rw e refl
    by form.Repeat e = rw e refl
    by f e = rw e refl

module _ (whole : WholeText) (final : ScenarioOf) (k : Kind) (place : LineInText) (inside : InProcess whole final k place) where
  given : (c : Class) (w : Word) → GoodSlot whole place (record { role = Gives c; word = w }) → gives k (variable place.variables w) c ≡ true
  given = gives_fit whole final k place inside

  value : (w : Word) → GoodSlot whole place (slot_of Value w) → number_fits k (number_of place.variables (slot_of Value w)) ≡ true
  value = value_fit whole final k place inside

  event : (reference : Reference) (w : Word) → GoodSlot whole place (record { role = Refers reference; word = w })
      → event_fits final k reference (event_of place w) ≡ true
  event = refer_fit whole final k place inside

  both : {a b : Bool} → a ≡ true → b ≡ true → (a && b) ≡ true
  both {a} {b} h g = and_from a b h g

  spawned : (p : Word) (ws : List Word) → GoodSlot whole place (record { role = Names sort.Process; word = p })
      → GoodSlots whole place (side_by_side (map spawn_argument (parameters whole.heads p)) ws)
      → not (length (side_by_side (map spawn_argument (parameters whole.heads p)) ws) == length (parameters whole.heads p)) ≡ false
      → arguments_fit final k (kind_number whole.heads p) (arguments place (side_by_side (map spawn_argument (parameters whole.heads p)) ws)) ≡ true
  spawned p ws process good counted = arguments_good whole final k place inside p ws process good (not-false _ counted)

  module _ (context : Context) where
    pub statements_fit : (f : Form)
        → Rule context [] (shape f) (λ slots. CleanLine whole place f slots → context.whole ≡ whole
        → StatementFits final k (statement whole.heads place f slots))
    statements_fit form.Let = λ x e a. (λ clean same. both (both (given class.Number x clean.good.0) (value a clean.good.1.0)) refl, λ op among b clean same. both (both (given class.Number x clean.good.0) (value a clean.good.1.0)) (value b clean.good.1.1.1.0))
    statements_fit form.Count = λ x r clean same. both (given class.Number x clean.good.0) (resource_below whole final k place inside r clean.good.1.0)
    statements_fit form.Timeout = λ d clean same. value d clean.good.0
    statements_fit form.Wait = λ e clean same. event AnyEvent e clean.good.0
    statements_fit form.Succeed = λ e v clean same. both (event PlainEvent e clean.good.0) (value v clean.good.1.0)
    statements_fit form.Fail = λ e c clean same. both (event PlainEvent e clean.good.0) (value c clean.good.1.0)
    statements_fit form.Has = λ y c e clean same. both (both (given class.Number y clean.good.0) (uses_condition whole final k place inside c clean.good.1.0)) (event AnyEvent e clean.good.1.1.0)
    statements_fit form.Spawn = λ p ws clean same.
        subst (λ v. CleanLine whole place form.Spawn (slot_of (Names sort.Process) p ∷ side_by_side (map spawn_argument (parameters v.heads p)) ws) → arguments_fit final k (kind_number whole.heads p) (arguments place (side_by_side (map spawn_argument (parameters v.heads p)) ws)) ≡ true) (sym same)
        (λ fine. spawned p ws fine.good.0 fine.good.1 fine.arguments)
        clean
    statements_fit form.NewSpawn = λ x p ws clean same.
        both (given class.Proc x clean.good.0)
        (subst (λ v. CleanLine whole place form.NewSpawn (slot_of (Gives class.Proc) x ∷ slot_of (Names sort.Process) p ∷ side_by_side (map spawn_argument (parameters v.heads p)) ws) → arguments_fit final k (kind_number whole.heads p) (arguments place (side_by_side (map spawn_argument (parameters v.heads p)) ws)) ≡ true) (sym same)
        (λ fine. spawned p ws fine.good.1.0 fine.good.1.1 fine.arguments)
        clean)
    statements_fit form.Interrupt = λ p c clean same. both (event AProcess p clean.good.0) (value c clean.good.1.0)
    statements_fit form.Drop = λ p v clean same. both (event AProcess p clean.good.0) (value v clean.good.1.0)
    statements_fit form.Raise = λ c clean same. value c clean.good.0
    statements_fit form.Finish = λ v clean same. value v clean.good.0
    statements_fit form.With = λ x e q r. (
      λ clean same. both (both (given class.Request x clean.good.0) refl) (request_fit whole final k place inside r [] nothing true clean.good.1.0 clean.taken (λ n. refl) (λ n. refl)),
      λ p. (
        λ clean same. both (both (given class.Request x clean.good.0) (value p clean.good.1.1.0)) (request_fit whole final k place inside r (slot_of Value p ∷ []) (number_of place.variables (slot_of Value p)) true clean.good.1.0 clean.taken (λ n. absurd (omega arith)) (λ n. refl)),
        λ w among clean same. both (both (given class.Request x clean.good.0) (value p clean.good.1.1.0)) (request_fit whole final k place inside r (slot_of Value p ∷ slot_of Free w ∷ []) (number_of place.variables (slot_of Value p)) (preempts (slot_of Value p ∷ slot_of Free w ∷ [])) clean.good.1.0 clean.taken (λ n. absurd (omega arith)) (λ n. absurd (omega arith))),
      ),
    )
    statements_fit form.Release = λ x clean same. uses_request whole final k place inside x clean.good.0
    statements_fit form.Put = λ r a. (
      λ clean same. both (both (value a clean.good.1.0) refl) (put_fit whole final k place inside r (slot_of Value a ∷ []) nothing clean.good.0 clean.taken (λ n. refl)),
      λ p clean same. both (both (value a clean.good.1.0) (value p clean.good.1.1.0)) (put_fit whole final k place inside r (slot_of Value a ∷ slot_of Value p ∷ []) (number_of place.variables (slot_of Value p)) clean.good.0 clean.taken (λ n. absurd (omega arith))),
    )
    statements_fit form.NewPut = λ x r a. (
      λ clean same. both (both (both (given class.Move x clean.good.0) (value a clean.good.1.1.0)) refl) (put_fit whole final k place inside r (slot_of Value a ∷ []) nothing clean.good.1.0 clean.taken (λ n. refl)),
      λ p clean same. both (both (both (given class.Move x clean.good.0) (value a clean.good.1.1.0)) (value p clean.good.1.1.1.0)) (put_fit whole final k place inside r (slot_of Value a ∷ slot_of Value p ∷ []) (number_of place.variables (slot_of Value p)) clean.good.1.0 clean.taken (λ n. absurd (omega arith))),
    )
    statements_fit form.Get = λ r. (
      λ clean same. get_fit whole final k place inside r [] nothing nothing clean.good.0 clean.taken (λ n. refl) (λ n. refl),
      λ a. (
        λ clean same. both (both (value a clean.good.1.0) refl) (get_fit whole final k place inside r (slot_of Value a ∷ []) (number_of place.variables (slot_of Value a)) nothing clean.good.0 clean.taken (λ n. absurd (omega arith)) (λ n. refl)),
        λ b clean same. both (both (value a clean.good.1.0) (value b clean.good.1.1.0)) (get_fit whole final k place inside r (slot_of Value a ∷ slot_of Value b ∷ []) (number_of place.variables (slot_of Value a)) (number_of place.variables (slot_of Value b)) clean.good.0 clean.taken (λ n. absurd (omega arith)) (λ n. absurd (omega arith))),
      ),
    )
    statements_fit form.NewGet = λ x r. (
      λ clean same. both (both (both (given class.Move x clean.good.0) refl) refl) (get_fit whole final k place inside r [] nothing nothing clean.good.1.0 clean.taken (λ n. refl) (λ n. refl)),
      λ a. (
        λ clean same. both (both (both (given class.Move x clean.good.0) (value a clean.good.1.1.0)) refl) (get_fit whole final k place inside r (slot_of Value a ∷ []) (number_of place.variables (slot_of Value a)) nothing clean.good.1.0 clean.taken (λ n. absurd (omega arith)) (λ n. refl)),
        λ b clean same. both (both (both (given class.Move x clean.good.0) (value a clean.good.1.1.0)) (value b clean.good.1.1.1.0)) (get_fit whole final k place inside r (slot_of Value a ∷ slot_of Value b ∷ []) (number_of place.variables (slot_of Value a)) (number_of place.variables (slot_of Value b)) clean.good.1.0 clean.taken (λ n. absurd (omega arith)) (λ n. absurd (omega arith))),
      ),
    )
    statements_fit form.Cancel = λ x clean same. uses_move whole final k place inside x clean.good.0
    statements_fit form.Loop = λ clean same. refl
    statements_fit form.Repeat = λ a clean same. value a clean.good.0
    statements_fit form.If = λ a clean same. value a clean.good.0
    statements_fit form.Else = λ clean same. refl
    statements_fit form.Try = λ clean same. refl
    statements_fit form.Catch = λ x y clean same. both (given class.Number x clean.good.0) (given class.Number y clean.good.1.0)
    statements_fit form.End = λ clean same. end_fits final k (blocks_of place.above)
    statements_fit form.Break = λ clean same. refl
    statements_fit form.Log = λ a clean same. value a clean.good.0
    statements_fit form.Chain = λ e f clean same. both (event Chained e clean.good.0) (event PlainEvent f clean.good.1.0)
    statements_fit form.Draw = λ x lo hi clean same. both (both (given class.Number x clean.good.0) (value lo clean.good.1.0)) (value hi clean.good.1.1.0)
    statements_fit form.NewTimeout = λ x d v clean same. both (both (given class.Event x clean.good.0) (value d clean.good.1.0)) (value v clean.good.1.1.0)
    statements_fit form.NewEvent = λ x clean same. given class.Event x clean.good.0
    statements_fit form.NewAll = λ x es clean same. both (given class.Cond x clean.good.0) (members_good whole final k place inside es clean.good.1)
    statements_fit form.NewAny = λ x es clean same. both (given class.Cond x clean.good.0) (members_good whole final k place inside es clean.good.1)
    statements_fit f = rule_all context [] (shape f) (λ slots. CleanLine whole place f slots → context.whole ≡ whole → StatementFits final k (statement whole.heads place f slots)) (λ slots clean same. tt)

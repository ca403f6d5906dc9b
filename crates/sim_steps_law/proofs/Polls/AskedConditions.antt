-- Conditions that a process makes and asks about, as the machine has it.
use Rattle.std.proofs.Common.{◌≡◌, ℕ, ◌+◌, ◌≤◌, Bool, true, false, List, [], ◌∷◌, length, refl, sym, ap, subst, ◌∙◌, arith}
use Rattle.std.specs.Prelude.{All}
use Rattle.sim_types.specs.declared.event.EventId.{EventId}
use Rattle.sim_types.specs.declared.event.ProcId.{ProcId}
use Rattle.sim_types.specs.declared.event.Signal.{Signal}
use Rattle.sim_types.specs.declared.event.Signal.TheVariants as signal
use Rattle.sim_types.specs.declared.op.Op.TheVariants as op
use Rattle.sim_machine.specs.State.{AllOrAny, Calendar, State, Plan}
use Rattle.sim_machine.specs.Trying.{on_calendar}
use Rattle.sim_machine.specs.Conditions.{is_too_wide, make_condition, has}
use Rattle.sim_machine.specs.Scopes.{on_events}
use Rattle.sim_machine.specs.Processes.{tell, told_more}
use Rattle.sim_machine.specs.Effect.{calendar, effect, number_of, tell_made, with_condition}
use Rattle.sim_happen_model.specs.TableOf.{IsKept}
use Rattle.sim_happen_model.specs.HappenOf.{HappenOf, holding, one_more, one_more_each, unheld_event}
use Rattle.sim_happen_model.specs.Shows.{Shows, Turns}
use Rattle.sim_happen_law.proofs.Changes.NewEvents.{next_is}
use Rattle.sim_happen_model.specs.Accounts.{Balanced}
use Rattle.sim_happen_model.specs.Naming.{held_alone}
use Rattle.sim_accounts.proofs.Balancing.{trades_balanced}
use Rattle.sim_accounts.proofs.CalendarChanges.{quietly_condition_made}
use Rattle.sim_accounts.proofs.ConditionsMade.{condition_balanced, condition_gone, made_members}
use Rattle.sim_accounts.proofs.StateChanges.{quiet_trade}
use Rattle.sim_steps_model.specs.PartsOf.{PartsOf, with_happen}
use Rattle.sim_steps_model.specs.Becoming.{Becomes, BecomesWith}
use Rattle.sim_steps_law.proofs.Kernels.Keeping.{AddsHolders, adds_none, adds_one_more, adds_then, adds_unheld, adds_more, few_by}
use Rattle.sim_steps_law.proofs.Kernels.Becoming.{becomes_as, becomes_then, becomes_told, becomes_within, turned_stands_for}
use Rattle.sim_machine.specs.Bodies.{BodyOf}

-- ---- who holds the members

-- each member has a holder more, as often as it stands there
adds_each : (members : List EventId) → AddsHolders (length members) (one_more_each members)
adds_each [] = adds_none
adds_each (e ∷ es) =
    adds_more (1 + length es) (length (e ∷ es)) (one_more_each (e ∷ es)) (omega arith)
    (adds_then 1 (length es) (one_more e) (one_more_each es) (adds_one_more e) (adds_each es))

adds_holding : (most : ℕ) (members : List EventId) → length members ≤ most → AddsHolders most (holding members)
adds_holding most members few =
    adds_more (length members + 0) most (holding members) (omega (arith, few))
    (adds_then (length members) 0 (one_more_each members) unheld_event (adds_each members) (adds_unheld 1))

-- ---- a condition is made

-- it holds its members, which are kept
pub becomes_condition : {B Code : Type 0} {body : BodyOf B Code} (a : PartsOf B Code) (x : HappenOf) (sort : AllOrAny) (members : List EventId) →
    length members ≤ 16 →
    All (IsKept a.shared.happen.events) members → Turns (make_condition sort members) (holding members) a.shared.happen x →
    BecomesWith body 16 (on_events (make_condition sort members)) a (with_happen x a)
becomes_condition {B} {Code} {body} a x sort members few kept t =
    let makes : State B → State B = on_events (make_condition sort members) in
    let adds : AddsHolders 16 (holding members) = adds_holding 16 members few in
    record {
      each = turned_stands_for 16 (make_condition sort members) (holding members) a x adds t;
      accounts = λ todo s h k.
          let c : Calendar = calendar s in
          let d : Calendar = make_condition sort members c in
          let old : Shows a.shared.happen c = h.stands.facilities.calendar in
          let new : Shows x d = t.each c old in
          let was : EventId → ℕ = held_alone a.setup.events (body.tell a.code) s in
          let is_now : EventId → ℕ = held_alone a.setup.events (body.tell a.code) (makes s) in
          let later = quietly_condition_made sort members c in
          let table : Balanced was todo x.events =
          condition_balanced a.shared.happen x c d members old new later.after (made_members sort members c) kept t.held was todo k.holders in
          record {
            holders = trades_balanced [] [] todo was is_now x.events
                (quiet_trade a.setup.events (body.tell a.code) s (on_calendar (make_condition sort members) s.facilities) later.triggers) table;
            gone = condition_gone a.shared.happen x c d members old new later.after (made_members sort members c) kept t.held k.gone;
          };
      opened = record { code = refl; setup = refl; seed = refl };
      few = few_by 16 (holding members) a (with_happen x a) adds t.held;
    }

pub condition_becomes : {B Code : Type 0} {body : BodyOf B Code} (a n : PartsOf B Code)
    (x : HappenOf) (e : EventId) (sort : AllOrAny) (members : List EventId) →
    length members ≤ 16 → All (IsKept a.shared.happen.events) members → ((c : Calendar) → Shows a.shared.happen c → is_too_wide members c ≡ false) →
    Turns (make_condition sort members) (holding members) a.shared.happen x → e.0 ≡ length a.shared.happen.events →
    n ≡ record (with_happen x a) { control = told_more (signal.Made e) a.control } → BecomesWith body 16 (with_condition sort members) a n
condition_becomes {B} {Code} {body} a n x e sort members few kept narrow made same is =
    let makes : State B → State B = on_events (make_condition sort members) in
    subst (BecomesWith body 16 (with_condition sort members) a) (sym is)
    (becomes_as (λ s. tell_made e (makes s)) (with_condition sort members) a _
    (λ s h. ap (λ f. tell_made f (makes s)) (sym (next_is a.shared.happen (calendar s) e same h.stands.facilities.calendar))
    ∙ rw (narrow (calendar s) h.stands.facilities.calendar) refl)
    (becomes_then makes (tell_made e) a (with_happen x a) _
    (becomes_condition a x sort members few kept made) (becomes_told (signal.Made e) (with_happen x a))))

-- one that would weigh too much is not made
pub wide_becomes : {B Code : Type 0} {body : BodyOf B Code} (a n : PartsOf B Code) (sort : AllOrAny) (members : List EventId) →
    ((c : Calendar) → Shows a.shared.happen c → is_too_wide members c ≡ true) → n ≡ record a { control = told_more (signal.Raised 10) a.control } →
    BecomesWith body 16 (with_condition sort members) a n
wide_becomes {B} {Code} {body} a n sort members wide is =
    subst (BecomesWith body 16 (with_condition sort members) a) (sym is)
    (becomes_within 0 16 (with_condition sort members) a _ (omega arith)
    (becomes_as (tell (signal.Raised 10)) (with_condition sort members) a _
    (λ s h. rw (wide (calendar s) h.stands.facilities.calendar) refl) (becomes_told (signal.Raised 10) a)))

-- ---- a condition is asked about

pub has_becomes : {B Code : Type 0} {body : BodyOf B Code} (g : Plan B)
    (a n : PartsOf B Code) (p : ProcId) (cond e : EventId) (is : Bool) (x : Signal) →
    ((c : Calendar) → Shows a.shared.happen c → is ≡ has cond e c) → x ≡ signal.Number (number_of is) →
    n ≡ record a { control = told_more x a.control } → Becomes body (effect g p (op.Has cond e)) a n
has_becomes {B} {Code} {body} g a n p cond e is x tells told same =
    subst (Becomes body (effect g p (op.Has cond e)) a) (sym same)
    (becomes_as (tell x) (effect g p (op.Has cond e)) a _
    (λ s h. ap (λ y. tell y s) (told ∙ ap (λ b. signal.Number (number_of b)) (tells (calendar s) h.stands.facilities.calendar))) (becomes_told x a))

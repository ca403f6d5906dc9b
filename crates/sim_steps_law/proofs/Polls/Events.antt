-- Events that a process makes, triggers and chains, as the machine has it.
use Rattle.std.proofs.Common.{◌≡◌, ℕ, pos, length, Bool, true, false, arith, [], ◌∷◌, refl, sym, ap, subst, ◌∙◌, Option, Some, None}
use Rattle.std.specs.Prelude.{is_none, IsSome, ◌↔◌}
use Rattle.std.proofs.lemmas.Bool.{false≢true}
use Rattle.sim_types.specs.declared.event.EventId.{EventId}
use Rattle.sim_types.specs.declared.event.ProcId.{ProcId}
use Rattle.sim_types.specs.declared.event.EventKind.TheVariants as kind
use Rattle.sim_types.specs.declared.event.Callback.TheVariants as callback
use Rattle.sim_types.specs.declared.event.Outcome.{Outcome}
use Rattle.sim_types.specs.declared.event.Signal.TheVariants as signal
use Rattle.sim_types.specs.declared.op.Op.TheVariants as op
use Rattle.sim_machine.specs.State.{Calendar, EventOf, State, Plan}
use Rattle.sim_machine.specs.Events.{event_at, is_pending, is_processed, register}
use Rattle.sim_machine.specs.Triggering.{make, normal, trigger}
use Rattle.sim_machine.specs.Scopes.{on_events}
use Rattle.sim_machine.specs.Processes.{tell, told_more}
use Rattle.sim_machine.specs.Effect.{calendar, tell_made, trigger_pending, pass_on, chain, effect}
use Rattle.sim_happen_model.specs.TableOf.{IsKept, kept_at}
use Rattle.sim_happen_model.specs.HappenOf.{HappenOf, one_more, unheld_event}
use Rattle.sim_happen_model.specs.Shows.{Shows, Turns, Follows}
use Rattle.sim_happen_model.specs.Accounts.{Balanced}
use Rattle.sim_happen_model.specs.Naming.{held_alone}
use Rattle.sim_accounts.proofs.Balancing.{held_balanced, held_gone, trades_balanced}
use Rattle.sim_accounts.proofs.CalendarChanges.{after_events, none_events, plainly_made, plainly_passed, plainly_scheduled}
use Rattle.sim_accounts.proofs.StateChanges.{registered_trade}
use Rattle.sim_happen_law.proofs.Changes.Following.{read_is}
use Rattle.sim_happen_law.proofs.Changes.NewEvents.{next_is}
use Rattle.sim_steps_model.specs.PartsOf.{PartsOf, with_happen}
use Rattle.sim_steps_model.specs.Becoming.{Stands, Becomes, BecomesWith}
use Rattle.sim_steps_law.proofs.Kernels.Keeping.{adds_one_more, few_by}
use Rattle.sim_steps_law.proofs.Kernels.Becoming.{becomes_then, becomes_as, becomes_followed, becomes_made, becomes_told, becomes_within, turned_stands_for}
use Rattle.sim_machine.specs.Bodies.{BodyOf}

-- ---- what an event is

-- as the kernel keeps it
abbrev kept_event : {B Code : Type 0} → PartsOf B Code → EventId → EventOf
kept_event a e = (kept_at a.shared.happen.events e).event

-- so it is in each state that the kernel stands for
pub event_is : {B Code : Type 0} (a : PartsOf B Code) (e : EventId) (s : State B) → IsKept a.shared.happen.events e → Stands a s →
    event_at (calendar s) e ≡ kept_event a e
event_is a e s kept h = sym (read_is a.shared.happen (calendar s) e kept h.stands.facilities.calendar)

processed_is : {B Code : Type 0} (a : PartsOf B Code) (e : EventId) (s : State B) → IsKept a.shared.happen.events e → Stands a s →
    is_processed (calendar s) e ≡ (kept_event a e).processed
processed_is a e s kept h = ap (λ (x : EventOf). x.processed) (event_is a e s kept h)

pending_is : {B Code : Type 0} (a : PartsOf B Code) (e : EventId) (s : State B) → IsKept a.shared.happen.events e → Stands a s →
    is_pending (calendar s) e ≡ is_none (kept_event a e).outcome
pending_is a e s kept h = ap (λ (x : EventOf). is_none x.outcome) (event_is a e s kept h)

outcome_is : {B Code : Type 0} (a : PartsOf B Code) (e : EventId) (s : State B) → IsKept a.shared.happen.events e → Stands a s →
    (event_at (calendar s) e).outcome ≡ (kept_event a e).outcome
outcome_is a e s kept h = ap (λ (x : EventOf). x.outcome) (event_is a e s kept h)

-- an event whose outcome was not refused had none
pub unrefused : (o : Option Outcome) → (false ≡ true ↔ IsSome o) → o ≡ None
unrefused None h = refl
unrefused (Some x) h = absurd (false≢true (h.1 refl))

-- ---- a new event

pub made_becomes : {B Code : Type 0} {body : BodyOf B Code} (g : Plan B) (a n : PartsOf B Code) (x : HappenOf) (e : EventId) (p : ProcId) →
    Turns (make kind.Plain) unheld_event a.shared.happen x → e.0 ≡ length a.shared.happen.events →
    n ≡ record (with_happen x a) { control = told_more (signal.Made e) a.control } → Becomes body (effect g p op.NewEvent) a n
made_becomes {B} {Code} {body} g a n x e p made same is =
    let makes : State B → State B = on_events (make kind.Plain) in
    subst (Becomes body (effect g p op.NewEvent) a) (sym is)
    (becomes_as (λ s. tell_made e (makes s)) (effect g p op.NewEvent) a _
    (λ s h. ap (λ f. tell_made f (makes s)) (sym (next_is a.shared.happen (calendar s) e same h.stands.facilities.calendar)))
    (becomes_then makes (tell_made e) a (with_happen x a) _
    (becomes_made (make kind.Plain) a x (plainly_made kind.Plain) made) (becomes_told (signal.Made e) (with_happen x a))))

-- ---- an outcome

-- an event that is pending gets its outcome
pub triggered_becomes : {B Code : Type 0} {body : BodyOf B Code} (a n : PartsOf B Code) (x : HappenOf) (e : EventId) (o : Outcome) →
    IsKept a.shared.happen.events e →
    (kept_event a e).outcome ≡ None → Follows (trigger e o) a.shared.happen x →
    n ≡ record (with_happen x a) { control = told_more signal.Done a.control } → Becomes body (trigger_pending e o) a n
triggered_becomes {B} {Code} {body} a n x e o kept pending follows is =
    let gets : State B → State B = on_events (trigger e o) in
    subst (Becomes body (trigger_pending e o) a) (sym is)
    (becomes_as (λ s. tell signal.Done (gets s)) (trigger_pending e o) a _
    (λ s h. rw (event_is a e s kept h, pending) refl)
    (becomes_then gets (tell signal.Done) a (with_happen x a) _
    (becomes_followed (trigger e o) a x (plainly_scheduled e o normal (pos 0)) follows) (becomes_told signal.Done (with_happen x a))))

-- ---- chains

-- a callback is registered that passes an outcome on, and holds its event
registered_owes : {B Code : Type 0} {body : BodyOf B Code} (e y : EventId) (a : PartsOf B Code) (x : HappenOf) → IsKept a.shared.happen.events y →
    Turns (register e (callback.Trigger y)) (one_more y) a.shared.happen x →
    BecomesWith body 1 (on_events (register e (callback.Trigger y))) a (with_happen x a)
registered_owes {B} {Code} {body} e y a x kept t =
    let change : Calendar → Calendar = register e (callback.Trigger y) in
    let stands : (s : State B) → Stands a s → Stands (with_happen x a) (on_events change s) =
    turned_stands_for 1 change (one_more y) a x (adds_one_more y) t in
    record {
      each = stands;
      accounts = λ todo s h k.
          let c : Calendar = calendar s in
          let d : Calendar = change c in
          let old : Shows a.shared.happen c = h.stands.facilities.calendar in
          let was : EventId → ℕ = held_alone a.setup.events (body.tell a.code) s in
          let is_now : EventId → ℕ = held_alone a.setup.events (body.tell a.code) (on_events change s) in
          let table : Balanced was (y ∷ todo) x.events =
          held_balanced a.shared.happen x c d old (t.each c old) (after_events c d refl)
          (none_events c d refl) y kept t.held was todo k.holders in
          record {
            holders = trades_balanced (y ∷ []) [] todo was is_now x.events
                (registered_trade a.setup.events (body.tell a.code) s e (callback.Trigger y)) table;
            gone = held_gone a.shared.happen x c d old (t.each c old) (after_events c d refl) (none_events c d refl) y kept t.held k.gone;
          };
      opened = record { code = refl; setup = refl; seed = refl };
      few = few_by 1 (one_more y) a (with_happen x a) (adds_one_more y) t.held;
    }

-- an event that is not processed is to pass its outcome on to another, which is held for this
pub chained_becomes : {B Code : Type 0} {body : BodyOf B Code} (a n : PartsOf B Code) (x : HappenOf) (e y : EventId) →
    IsKept a.shared.happen.events e →
    IsKept a.shared.happen.events y → (kept_event a e).processed ≡ false → Turns (register e (callback.Trigger y)) (one_more y) a.shared.happen x →
    n ≡ record (with_happen x a) { control = told_more signal.Done a.control } → BecomesWith body 1 (chain e y) a n
chained_becomes {B} {Code} {body} a n x e y kept other unprocessed turns is =
    let registered : State B → State B = on_events (register e (callback.Trigger y)) in
    subst (BecomesWith body 1 (chain e y) a) (sym is)
    (becomes_as (λ s. tell signal.Done (registered s)) (chain e y) a _
    (λ s h. rw (processed_is a e s kept h ∙ unprocessed) refl)
    (becomes_then registered (tell signal.Done) a (with_happen x a) _
    (registered_owes e y a x other turns) (becomes_told signal.Done (with_happen x a))))

-- a processed one does so at once
pub passed_becomes : {B Code : Type 0} {body : BodyOf B Code} (a n : PartsOf B Code) (x : HappenOf) (e y : EventId) →
    IsKept a.shared.happen.events e →
    IsKept a.shared.happen.events y → (kept_event a e).processed ≡ true → (kept_event a y).outcome ≡ None →
    Follows (pass_on (kept_event a e).outcome y) a.shared.happen x → n ≡ record (with_happen x a) { control = told_more signal.Done a.control } →
    Becomes body (chain e y) a n
passed_becomes {B} {Code} {body} a n x e y kept other processed pending follows is =
    let o : Option Outcome = (kept_event a e).outcome in
    let passed : State B → State B = on_events (pass_on o y) in
    subst (Becomes body (chain e y) a) (sym is)
    (becomes_as (λ s. tell signal.Done (passed s)) (chain e y) a _
    (λ s h. rw (processed_is a e s kept h ∙ processed, pending_is a y s other h ∙ ap (λ z. is_none z) pending, outcome_is a e s kept h) refl)
    (becomes_then passed (tell signal.Done) a (with_happen x a) _
    (becomes_followed (pass_on o y) a x (plainly_passed o y) follows) (becomes_told signal.Done (with_happen x a))))

-- a chain that is not refused does one or the other
pub chain_becomes : {B Code : Type 0} {body : BodyOf B Code} (a n : PartsOf B Code) (x : HappenOf) (e y : EventId) → IsKept a.shared.happen.events e →
    IsKept a.shared.happen.events y → (false ≡ true ↔ (((kept_event a e).processed ≡ true) × IsSome (kept_event a y).outcome)) →
    ((kept_event a e).processed ≡ false → Turns (register e (callback.Trigger y)) (one_more y) a.shared.happen x) →
    ((kept_event a e).processed ≡ true → Follows (pass_on (kept_event a e).outcome y) a.shared.happen x) →
    (x.left ≡ a.shared.happen.left → n ≡ record (with_happen x a) { control = told_more signal.Done a.control }) → BecomesWith body 1 (chain e y) a n
chain_becomes {B} {Code} {body} a n x e y kept other refused registers passes is = by (kept_event a e).processed refl
  where
    pending : (o : Option Outcome) → (IsSome o → ⊥) → o ≡ None
    pending None h = refl
    pending (Some z) h = absurd (h refl)

    by : (b : Bool) → (kept_event a e).processed ≡ b → BecomesWith body 1 (chain e y) a n
    by false unprocessed =
        let turns = registers unprocessed in
        chained_becomes a n x e y kept other unprocessed turns (is turns.left)
    by true processed =
        let follows = passes processed in
        let none = pending (kept_event a y).outcome (λ some. false≢true (refused.1 (processed, some))) in
        becomes_within 0 1 (chain e y) a n (omega arith) (passed_becomes a n x e y kept other processed none follows (is follows.left))

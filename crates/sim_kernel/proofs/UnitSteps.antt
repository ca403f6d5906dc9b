-- A unit of a kernel is a step from a lawful state to a lawful state, and keeps what holds of every kernel.
use Rattle.std.proofs.Common.{ℕ, ◌+◌, ◌*◌, ◌≤◌, ◌<◌, ◌≡◌, List, [], length, refl, sym, ap, ◌∙◌, subst, arith}
use Rattle.sim_machine.specs.Measures.{measure_at}
use Rattle.sim_shared_law.proofs.Shown.KeptMeasures.{measures_kept}
use Rattle.sim_shared_law.proofs.Shown.ShownMeasures.{room_changes_nothing}
use Rattle.sim_shared_model.specs.Measuring.{ChangesOnlyAt}
use Rattle.sim_shared_model.specs.SharedOf.{SharedOf, IsSameButRoom}
use Rattle.sim_machine.specs.State.{State}
use Rattle.sim_machine.specs.Bodies.{BodyOf}
use Rattle.sim_machine.specs.Setups.{FitsCode}
use Rattle.sim_lawful.proofs.Units.WholeSteps.{lawful_step}
use Rattle.sim_lawful.proofs.Units.MadeEvents.{MakesFew, step_makes}
use Rattle.sim_happen_model.specs.TableOf.{AreNeeded}
use Rattle.sim_happen_model.specs.HappenOf.{held}
use Rattle.sim_steps_model.specs.declared.mode.Unit.{Unit}
use Rattle.sim_steps_model.specs.PartsOf.{PartsOf, IsOpenedAs, KeepsButRoom, plan_of}
use Rattle.sim_steps_model.specs.StandsFor.{Balances, StandsFor, StandsForSome, LawfulOf, StepOf}
use Rattle.sim_steps_model.specs.Becoming.{AreFew, Moves, most_held}
use Rattle.sim_kernel.specs.Holding.{Holds, IsBounded, most_opened, most_made}
use Rattle.sim_kernel.specs.Accounting.{HasAccounts}
use Rattle.sim_kernel.specs.Stepping.{AreMeasuredAlike, MakesStep}
use Rattle.sim_steps_law.proofs.Kernels.Keeping.{few_weaker}
use Rattle.sim_steps_law.proofs.Kernels.Accounting.{opened_then}
use Rattle.sim_steps_law.proofs.Kernels.Rooms.{roomier_balances, roomier_held, roomier_lawful, roomier_stands}
use Rattle.sim_steps_law.proofs.Kernels.Running.{KeepsLaw}

-- ---- the state after a unit is lawful, since the machine keeps what is lawful

-- a state that is lawful for what a kernel was opened with stays so where that is the same
pub opened_lawful : {B Code : Type 0} (body : BodyOf B Code) (old new : PartsOf B Code) (s : State B) → IsOpenedAs old new → LawfulOf body old s →
    LawfulOf body new s
opened_lawful body old new s opened h = rw (opened.code, opened.setup, opened.seed) h

-- so it is where room was made before
pub opened_through : {B Code : Type 0} (old mid new : PartsOf B Code) → KeepsButRoom old mid → IsOpenedAs mid new → IsOpenedAs old new
opened_through old mid new room opened =
    opened_then old mid new (record { code = rw room.others refl; setup = rw room.others refl; seed = rw room.others refl }) opened

roomier_step : {B Code : Type 0} (body : BodyOf B Code) (old mid : PartsOf B Code) (s t : State B) → KeepsButRoom old mid → StepOf body mid s t →
    StepOf body old s t
roomier_step {B} {Code} body old mid s t room h =
    let P : PartsOf B Code → Type 0 = λ k. StepOf body k s t in
    subst P room.others h

-- ---- accounts

-- accounts that are right balance
pub accounts_balance : {B Code : Type 0} (body : BodyOf B Code) (a : PartsOf B Code) (s : State B) → HasAccounts body a s → Balances body [] a s
accounts_balance body a s h = record { holders = h.balanced; gone = h.gone }

-- and where they balance, and what is kept is needed, they are right
pub balance_accounts : {B Code : Type 0} (body : BodyOf B Code) (a : PartsOf B Code) (s : State B) → AreNeeded a.shared.happen.events → Balances body [] a s →
    HasAccounts body a s
balance_accounts body a s needed h = record { balanced = h.holders; gone = h.gone; needed = needed }

-- ---- what is measured

-- it changes at these places alone, where room was made before
pub roomier_changes : (places : List ℕ) (old mid new : SharedOf) → IsSameButRoom old mid → ChangesOnlyAt places mid new → ChangesOnlyAt places old new
roomier_changes places old mid new room h =
    record { others = λ at other. h.others at other ∙ (room_changes_nothing old mid room).others at refl }

-- ---- the state after a unit

module _ {B Code : Type 0} (body : BodyOf B Code) (old : PartsOf B Code) (fits : FitsCode (body.facts old.code) old.setup) (law : KeepsLaw body old.code) where
  stays_lawful : (s t : State B) → LawfulOf body old s → StepOf body old s t → LawfulOf body old t
  stays_lawful s t = lawful_step (plan_of body old) (body.tell old.code) (body.sound old.code) (body.turn old.code) (body.facts old.code) s t fits law

  -- what is measured at a resource of the setup is what is shown there
  alike : (places : List ℕ) (new : PartsOf B Code) (s t : State B) → old.shared.setup ≡ old.setup.resources → new.shared.setup ≡ old.setup.resources
      → ChangesOnlyAt places old.shared new.shared → StandsFor old s → StandsFor new t → AreMeasuredAlike old.setup.resources places s t
  alike places new s t before after changes from to =
      record {
        same = λ res within other.
            subst (λ rs. measure_at rs res t.facilities ≡ measure_at rs res s.facilities) before
            (measures_kept places old.shared new.shared s.facilities t.facilities res from.facilities to.facilities (after ∙ sym before) changes
            (subst (λ rs. res < length rs) (sym before) within) other);
      }

  -- what is kept after it is to be needed where that was so before it
  pub unit_steps : (places : List ℕ) (mid : PartsOf B Code) (answer : Unit) (new : PartsOf B Code) → KeepsButRoom old mid → Moves body mid answer new →
      (AreNeeded old.shared.happen.events → AreNeeded new.shared.happen.events) → old.shared.setup ≡ old.setup.resources →
      new.shared.setup ≡ old.setup.resources → ChangesOnlyAt places mid.shared new.shared → MakesStep body old answer places new
  unit_steps places mid answer new room moves needed before after changes =
      record {
        each = λ s lawful stands.
            let later = moves.each s (roomier_lawful body old mid s room lawful) (roomier_stands old mid s room stands) in
            let stepped : StepOf body old s later.state = roomier_step body old mid s later.state room later.stepped in
            record {
              state = later.state;
              stepped = stepped;
              lawful = opened_lawful body old new later.state (opened_through old mid new room moves.opened) (stays_lawful s later.state lawful stepped);
              stands = later.stands;
              accounts = λ right.
                  let balances = roomier_balances [] old mid s room (accounts_balance body old s right) in
                  balance_accounts body new later.state (needed right.needed) (later.accounts balances);
              lines = later.lines;
              measures = alike places new s later.state before after (roomier_changes places old.shared mid.shared new.shared room.shared changes) stands later.stands;
            };
      }

-- ---- what else holds of every kernel

-- it stands for some state
pub stands_for_some : {B Code : Type 0} (body : BodyOf B Code) (units : ℕ) (a : PartsOf B Code) → Holds body units a → StandsForSome body a
stands_for_some body units a h = record { state = h.state; lawful = h.lawful; stands = h.stands; balances = h.balances }

-- one unit makes few events, and processes at most one
pub unit_bounded : {B Code : Type 0} (units : ℕ) (old new : PartsOf B Code) (s t : State B) → StandsFor old s → StandsFor new t → MakesFew s t →
    IsBounded units old → IsBounded (units + 1) new
unit_bounded units old new s t before after a h =
    record {
      events = one_more most_opened units _ _ (omega (arith, after.facilities.calendar.made, before.facilities.calendar.made, a.events)) h.events;
      processed = one_unit units _ _ (omega (arith, after.processed, before.processed, a.processed)) h.processed;
    }
  where
    one_more : (base units before after : ℕ) → after ≤ before + most_made → before ≤ base + most_made * units → after ≤ base + most_made * (units + 1)
    one_more base units before after x y = omega (arith)

    one_unit : (units before after : ℕ) → after ≤ before + 1 → before ≤ units → after ≤ units + 1
    one_unit units before after x y = omega (arith)

pub unit_holds : {B Code : Type 0} (body : BodyOf B Code) (units : ℕ) (old mid : PartsOf B Code) (answer : Unit) (new : PartsOf B Code) →
    KeepsLaw body old.code → Holds body units old → KeepsButRoom old mid → Moves body mid answer new →
    new.shared.setup ≡ old.setup.resources → Holds body (units + 1) new
unit_holds body units old mid answer new law h room moves resources =
    let s = h.state in
    let later = moves.each s (roomier_lawful body old mid s room h.lawful) (roomier_stands old mid s room h.stands) in
    let t = later.state in
    let stepped : StepOf body old s t = roomier_step body old mid s t room later.stepped in
    let opened = opened_through old mid new room moves.opened in
    let few : AreFew (most_held * (units + most_opened)) (held mid.shared.happen) = rw (roomier_held old mid room) h.few in
    record {
      fits = rw (opened.code, opened.setup) h.fits;
      resources = rw opened.setup resources;
      state = t;
      lawful = opened_lawful body old new t opened (stays_lawful body old h.fits law s t h.lawful stepped);
      stands = later.stands;
      balances = later.accounts (roomier_balances [] old mid s room h.balances);
      bounded = unit_bounded units old new s t h.stands later.stands (step_makes (plan_of body old) (body.tell old.code) (body.sound old.code) (body.turn old.code) s t h.lawful stepped) h.bounded;
      few = few_weaker (most_held * (units + most_opened) + most_held) (most_held * (units + 1 + most_opened)) (held new.shared.happen) (omega arith) (moves.few.few (most_held * (units + most_opened)) few);
    }

-- room changes nothing of this
pub roomier_holds : {B Code : Type 0} (body : BodyOf B Code) (units : ℕ) (old mid : PartsOf B Code) → KeepsButRoom old mid → Holds body units old →
    Holds body units mid
roomier_holds {B} {Code} body units old mid room h =
    let events : mid.shared.happen.events ≡ old.shared.happen.events = rw room.shared.happen refl in
    let processed : mid.processed ≡ old.processed = ap (λ (k : PartsOf B Code). k.processed) room.others in
    record {
      fits = rw room.others h.fits;
      resources = room.shared.setup ∙ (h.resources ∙ ap (λ (k : PartsOf B Code). k.setup.resources) (sym room.others));
      state = h.state;
      lawful = roomier_lawful body old mid h.state room h.lawful;
      stands = roomier_stands old mid h.state room h.stands;
      balances = roomier_balances [] old mid h.state room h.balances;
      bounded = record { events = rw events h.bounded.events; processed = rw processed h.bounded.processed };
      few = rw (roomier_held old mid room) h.few;
    }

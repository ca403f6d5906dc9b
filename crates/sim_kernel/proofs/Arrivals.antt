-- An arrival leads from a lawful state to a lawful state, and keeps what holds of every kernel.
use Rattle.std.proofs.Common.{ℕ, ℤ, ◌+◌, ◌*◌, ◌<◌, ◌≤◌, ◌≡◌, [], ◌∷◌, ◌++◌, length, refl, sym, ap, subst, ◌∙◌, arith}
use Rattle.sim_types.specs.declared.line.Line.{Line}
use Rattle.sim_types.specs.declared.line.Line.TheVariants as line
use Rattle.sim_types.specs.declared.setup.Arrival.{Arrival}
use Rattle.sim_machine.specs.State.{Plan, State}
use Rattle.sim_machine.specs.Bodies.{BodyOf}
use Rattle.sim_machine.specs.Effect.{calendar}
use Rattle.sim_machine.specs.Setups.{FitsCode}
use Rattle.sim_machine.specs.Units.{arrive, Course}
use Rattle.sim_lawful.proofs.Units.MadeEvents.{MakesFew}
use Rattle.sim_lawful.proofs.Units.WholeSteps.{lawful_arrival}
use Rattle.sim_happen_model.specs.TableOf.{AreNeeded}
use Rattle.sim_happen_model.specs.HappenOf.{held}
use Rattle.sim_steps_model.specs.PartsOf.{PartsOf, KeepsButRoom, plan_of}
use Rattle.sim_steps_model.specs.StandsFor.{Balances, StandsFor, LawfulOf}
use Rattle.sim_steps_model.specs.Becoming.{AreFew, BecomesWith, most_held}
use Rattle.sim_steps_model.specs.Opening.{most_begun}
use Rattle.sim_kernel.specs.Arriving.{MakesArrival}
use Rattle.sim_kernel.specs.Holding.{Holds, most_opened}
use Rattle.sim_steps_law.proofs.Kernels.Keeping.{few_weaker}
use Rattle.sim_steps_law.proofs.Kernels.Becoming.{lawful_stands}
use Rattle.sim_steps_law.proofs.Kernels.Rooms.{roomier_balances, roomier_held, roomier_lawful, roomier_stands}
use Rattle.sim_steps_law.proofs.Kernels.Running.{KeepsLaw}
use Rattle.sim_steps_law.proofs.Starts.Starting.{of_process_events}
use Rattle.sim_kernel.proofs.ArrivalMeasures.{arrival_measures}
use Rattle.sim_kernel.proofs.UnitSteps.{accounts_balance, balance_accounts, opened_lawful, opened_through, unit_bounded}

-- it makes two events, and processes none
makes_few : {B : Type 0} (g : Plan B) (port : ℕ) (value : ℤ) (s : State B) → MakesFew s (arrive g port value s)
makes_few g port value s = record { events = omega (arith, of_process_events (calendar s)); processed = omega arith }

-- and a process that is made holds few events
pub begun_is_few : most_begun ≤ most_held
begun_is_few = omega arith

module _ {B Code : Type 0} (body : BodyOf B Code) (port : ℕ) (value : ℤ) (old mid new : PartsOf B Code) (fits : FitsCode (body.facts old.code) old.setup)
    (law : KeepsLaw body old.code) (below : port < length old.setup.ports) (room : KeepsButRoom old mid)
    {more : ℕ} (some : more ≤ most_held) (becomes : BecomesWith body more (arrive (plan_of body mid) port value) mid new)
    (needed : AreNeeded new.shared.happen.events) where
  abbrev arrived : State B → State B
  arrived s = arrive (plan_of body old) port value s

  arrived_lawful : (s : State B) → LawfulOf body old s → LawfulOf body new (arrived s)
  arrived_lawful s h =
      let a : Arrival = record { after = 0; poster = 0; serial = 0; port = port; value = value } in
      let m : Course B = record { state = s; left = a ∷ [] } in
      opened_lawful body old new (arrived s) (opened_through old mid new room becomes.opened)
      (lawful_arrival (plan_of body old) (body.tell old.code) (body.sound old.code) (body.turn old.code) (body.facts old.code) m a fits law below h)

  arrived_stands : (s : State B) → LawfulOf body old s → StandsFor old s → StandsFor new (arrived s)
  arrived_stands s h st =
      let plan : plan_of body mid ≡ plan_of body old = rw room.others refl in
      subst (λ (g : Plan B). StandsFor new (arrive g port value s)) plan
      (becomes.each s (lawful_stands body mid s (roomier_lawful body old mid s room h) (roomier_stands old mid s room st))).stands

  arrived_balances : (s : State B) → LawfulOf body old s → StandsFor old s → Balances body [] old s → Balances body [] new (arrived s)
  arrived_balances s h st k =
      let plan : plan_of body mid ≡ plan_of body old = rw room.others refl in
      subst (λ (g : Plan B). Balances body [] new (arrive g port value s)) plan
      (becomes.accounts [] s (lawful_stands body mid s (roomier_lawful body old mid s room h) (roomier_stands old mid s room st)) (roomier_balances [] old mid s room k))

  pub makes_arrival : (answer : Line) → answer ≡ line.Arrive mid.processed value port → MakesArrival body port value old answer new
  makes_arrival answer is =
      record {
        each = λ s lawful st.
            let before : mid.processed ≡ s.processed = ap (λ (k : PartsOf B Code). k.processed) room.others ∙ st.processed in
            let told : answer ≡ line.Arrive s.processed value port = is ∙ ap (λ n. line.Arrive n value port) before in
            record {
              lawful = arrived_lawful s lawful;
              stands = arrived_stands s lawful st;
              accounts = λ right. balance_accounts body new (arrived s) needed (arrived_balances s lawful st (accounts_balance body old s right));
              lines = ap (λ x. s.lines ++ x ∷ []) (sym told);
              measures = record { same = λ res within other. arrival_measures (plan_of body old) port value s old.setup.resources res };
            };
      }

  pub arrival_holds : (units : ℕ) → Holds body units old → new.shared.setup ≡ new.setup.resources → Holds body (units + 1) new
  arrival_holds units h resources =
      let s = h.state in
      let opened = opened_through old mid new room becomes.opened in
      let most : ℕ = most_held * (units + most_opened) in
      let few : AreFew most (held mid.shared.happen) = rw (roomier_held old mid room) h.few in
      let stands = arrived_stands s h.lawful h.stands in
      record {
        fits = rw (opened.code, opened.setup) h.fits;
        resources = resources;
        state = arrived s;
        lawful = arrived_lawful s h.lawful;
        stands = stands;
        balances = arrived_balances s h.lawful h.stands h.balances;
        bounded = unit_bounded units old new s (arrived s) h.stands stands (makes_few (plan_of body old) port value s) h.bounded;
        few = few_weaker (most + more) (most_held * (units + 1 + most_opened)) (held new.shared.happen) (omega (arith, some)) (becomes.few.few most few);
      }

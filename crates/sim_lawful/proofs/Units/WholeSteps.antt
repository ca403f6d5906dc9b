-- Each step leads from a lawful state to one, and so does each arrival; and the opening state is one.
use Rattle.std.proofs.Common.{◌≡◌, ◌<◌, ℤ, Bool, true, List, [], ◌∷◌, length, Some, refl, sym, subst, ap, ◌∙◌}
use Rattle.std.specs.Prelude.{not}
use Rattle.sim_types.specs.declared.event.EventId.{EventId}
use Rattle.sim_types.specs.declared.event.ProcId.{ProcId}
use Rattle.sim_types.specs.declared.event.Outcome.TheVariants as outcome
use Rattle.sim_types.specs.declared.event.Callback.{Callback}
use Rattle.sim_types.specs.declared.event.Callback.TheVariants as callback
use Rattle.sim_types.specs.declared.event.Signal.{Signal}
use Rattle.sim_types.specs.declared.event.Signal.TheVariants as signal
use Rattle.sim_types.specs.declared.op.Op.{Op}
use Rattle.sim_types.specs.declared.setup.Arrival.{Arrival}
use Rattle.sim_types.specs.declared.op.Op.TheVariants as op
use Rattle.sim_machine.specs.State.{Calendar, ProcessOf, Control, Idle, Calling, Active, Over, State, Plan}
use Rattle.sim_machine.specs.Events.{is_process, is_processed}
use Rattle.sim_machine.specs.Processes.{process_at}
use Rattle.sim_machine.specs.Effect.{calendar}
use Rattle.sim_machine.specs.Steps.{Turn, IsPoll, IsStep, IsStepAt, call, polled, pop_entry, settle}
use Rattle.sim_machine.specs.Units.{Course, inject}
use Rattle.sim_machine.specs.Runs.{opening}
use Rattle.sim_machine.specs.Tellings.{Telling, CodeFacts}
use Rattle.sim_machine.specs.MayFollow.{may_be_told, makes_kind}
use Rattle.sim_machine.specs.Standing.{was_made, kind_at}
use Rattle.sim_machine.specs.BodyLaw.{IsLawfulBody}
use Rattle.sim_machine.specs.Setups.{FitsCode}
use Rattle.sim_machine.specs.LawfulBodies.{told_fits, is_told_well}
use Rattle.sim_machine_law.proofs.KeptParts.KeptBodies.{find_has, find_passes, four_parts}
use Rattle.sim_machine_law.proofs.KeptParts.KeptBodiesPolls.{told_active}
use Rattle.sim_lawful.proofs.KeptParts.KeptLawful.{lawful-popped, lawful-resumed, lawful-stopped, lawful-settled, lawful-polled_end}
use Rattle.sim_lawful.proofs.Opening.KeptOpening.{opening_lawful}
use Rattle.sim_lawful.proofs.Opening.ArrivedUnits.{lawful-injected}
use Rattle.sim_lawful.proofs.ConditionLaws.CalledBuild.{lawful-called_build}
use Rattle.sim_lawful.proofs.ConditionLaws.CalledCheck.{lawful-called_check}
use Rattle.sim_lawful.proofs.Calls.CalledStrike.{lawful-called_strike}
use Rattle.sim_lawful.proofs.Calls.CalledTrigger.{lawful-called_trigger}
use Rattle.sim_lawful.proofs.Calls.CalledTry.{lawful-called_try_put, lawful-called_try_get}
use Rattle.sim_lawful.proofs.Waiting.PolledCancel.{lawful-polled_cancel}
use Rattle.sim_lawful.proofs.Polls.PolledChain.{lawful-polled_chain}
use Rattle.sim_lawful.proofs.ConditionLaws.PolledConditions.{lawful-polled_all_of, lawful-polled_any_of}
use Rattle.sim_lawful.proofs.Waiting.PolledCount.{lawful-polled_count}
use Rattle.sim_lawful.proofs.Drops.PolledDrop.{lawful-polled_drop}
use Rattle.sim_lawful.proofs.Scopes.PolledEnter.{lawful-polled_enter}
use Rattle.sim_lawful.proofs.Polls.PolledHas.{lawful-polled_has}
use Rattle.sim_lawful.proofs.Polls.PolledInterrupt.{lawful-polled_interrupt}
use Rattle.sim_lawful.proofs.Scopes.PolledLeave.{lawful-polled_leave}
use Rattle.sim_lawful.proofs.Waiting.PolledMove.{lawful-polled_put, lawful-polled_put_wait, lawful-polled_get, lawful-polled_get_wait}
use Rattle.sim_lawful.proofs.Polls.PolledNewEvent.{lawful-polled_new_event}
use Rattle.sim_lawful.proofs.Waiting.PolledRelease.{lawful-polled_release}
use Rattle.sim_lawful.proofs.Polls.PolledSpawn.{lawful-polled_spawn}
use Rattle.sim_lawful.proofs.Polls.PolledSucceed.{lawful-polled_succeed, lawful-polled_fail}
use Rattle.sim_lawful.proofs.Polls.PolledTimeout.{lawful-polled_pause, lawful-polled_timeout}
use Rattle.sim_lawful.proofs.Polls.PolledLog.{lawful-polled_draw, lawful-polled_log, lawful-polled_nop}
use Rattle.sim_lawful.proofs.Polls.PolledWait.{lawful-polled_wait}
use Rattle.sim_machine.specs.Lawful.{Lawful}
use Rattle.sim_machine_law.proofs.KeptParts.LawfulBasis.{FactsBeside, LawfulBasis, basis_of, facts_of}
use Rattle.sim_lawful.proofs.Ledger.ServedUnits.{lawful_serving, serving_of, served_polled, served_popped, served_settled, served_called, served_opening, served_arrived}
use Rattle.sim_lawful.proofs.Following.FollowingSteps.{beside_arrived, beside_called, beside_opening, beside_polled, beside_popped, beside_settled}
use Rattle.sim_machine_law.proofs.Events.ChangedCalendars.{AsksFor}

-- ---- a callback is called

module _ {B : Type 0} (g : Plan B) (tell : Telling B) (sound : B → Type 0) (s : State B) where
  basis_called : (e : EventId) (x : Callback) (left : List Callback) → s.control ≡ Calling e (x ∷ left) → LawfulBasis g tell sound s →
      FactsBeside g.setup.until s → LawfulBasis g tell sound (call g e x left s)
  basis_called e (callback.Resume p) left calling h b = lawful-resumed g tell sound s e left p calling h
  basis_called e (callback.Strike p) left calling h b = lawful-called_strike g tell sound s e left p calling h
  basis_called e (callback.Check cond) left calling h b = lawful-called_check g tell sound s e cond left b.kinds calling h
  basis_called e (callback.Build cond) left calling h b = lawful-called_build g tell sound s e cond left calling h
  basis_called e (callback.TryPut res) left calling h b = lawful-called_try_put g tell sound s e res left calling h
  basis_called e (callback.TryGet res) left calling h b = lawful-called_try_get g tell sound s e res left calling h
  basis_called e callback.Stop left calling h b = lawful-stopped g tell sound s e left calling h
  basis_called e (callback.Trigger y) left calling h b = lawful-called_trigger g tell sound s e y left calling h

-- ---- a process is polled

module _ {B : Type 0} (g : Plan B) (tell : Telling B) (sound : B → Type 0) (turn : Turn B) (s : State B) (f : CodeFacts) (e : EventId) (left : List Callback) (p : ProcId) (x : Signal) (y : ProcessOf B) (b : B) where
  basis_asked : (o : Op) → IsLawfulBody f tell sound g.start turn → FitsCode f g.setup → FactsBeside g.setup.until s →
      AsksFor g tell sound s f e left p x y b o → LawfulBasis g tell sound (polled g p o b s)
  basis_asked op.Nop law fits beside a = lawful-polled_nop g tell sound s f e left p x y b a
  basis_asked (op.Timeout delay value) law fits beside a = lawful-polled_timeout g tell sound s f e left p x y b delay value a
  basis_asked (op.Pause delay value) law fits beside a = lawful-polled_pause g tell sound s f e left p x y b delay value a
  basis_asked (op.Wait n) law fits beside a = lawful-polled_wait g tell sound s f e left p x y b n fits a
  basis_asked op.NewEvent law fits beside a = lawful-polled_new_event g tell sound s f e left p x y b a
  basis_asked (op.Succeed n value) law fits beside a = lawful-polled_succeed g tell sound s f e left p x y b n value fits a
  basis_asked (op.Fail n code) law fits beside a = lawful-polled_fail g tell sound s f e left p x y b n code fits a
  basis_asked (op.Spawn k args) law fits beside a = lawful-polled_spawn g tell sound turn s f e left p x y b k args law fits a.active a.found a.is_sound a.lawful a.poll
  basis_asked (op.Interrupt q cause) law fits beside a = lawful-polled_interrupt g tell sound s f e left p x y b q cause a
  basis_asked (op.Drop q value) law fits beside a = lawful-polled_drop g tell sound s f e left p x y b q value beside.apart a
  basis_asked (op.AllOf members) law fits beside a = lawful-polled_all_of g tell sound s f e left p x y b members fits a
  basis_asked (op.AnyOf members) law fits beside a = lawful-polled_any_of g tell sound s f e left p x y b members fits a
  basis_asked (op.Has cond n) law fits beside a = lawful-polled_has g tell sound s f e left p x y b cond n a
  basis_asked (op.Enter res priority preempts) law fits beside a = lawful-polled_enter g tell sound s f e left p x y b res priority preempts fits a
  basis_asked op.Leave law fits beside a = lawful-polled_leave g tell sound s f e left p x y b beside.apart a
  basis_asked (op.Release request) law fits beside a = lawful-polled_release g tell sound s f e left p x y b request a.active a.found a.is_sound a.lawful a.poll
  basis_asked (op.Put res amount priority) law fits beside a = lawful-polled_put g tell sound s f e left p x y b res amount priority fits a
  basis_asked (op.PutWait res amount priority) law fits beside a = lawful-polled_put_wait g tell sound s f e left p x y b res amount priority fits a
  basis_asked (op.Get res least greatest) law fits beside a = lawful-polled_get g tell sound s f e left p x y b res least greatest fits a
  basis_asked (op.GetWait res least greatest) law fits beside a = lawful-polled_get_wait g tell sound s f e left p x y b res least greatest fits a
  basis_asked (op.Cancel n) law fits beside a = lawful-polled_cancel g tell sound s f e left p x y b n a
  basis_asked (op.Count res) law fits beside a = lawful-polled_count g tell sound s f e left p x y b res a
  basis_asked (op.Draw lo hi) law fits beside a = lawful-polled_draw g tell sound s f e left p x y b lo hi a
  basis_asked (op.Log value) law fits beside a = lawful-polled_log g tell sound s f e left p x y b value a
  basis_asked (op.Finish value) law fits beside a = lawful-polled_end g tell sound s f e left p x y b (outcome.Ok value) a.active a.found a.is_sound a.lawful a.poll.asks
  basis_asked (op.Die what) law fits beside a = lawful-polled_end g tell sound s f e left p x y b (outcome.Fail what) a.active a.found a.is_sound a.lawful a.poll.asks
  basis_asked (op.Chain n m) law fits beside a = lawful-polled_chain g tell sound s f e left p x y b n m fits a

fits_told : {B : Type 0} (tell : Telling B) (c : Calendar) (b : B) (x : Signal) → told_fits tell c b x ≡ true → may_be_told (tell.last b) x ≡ true
fits_told tell c b (signal.Made n) h = (four_parts (may_be_told (tell.last b) (signal.Made n)) (was_made c n) (not (is_processed c n)) (makes_kind (tell.last b) (kind_at c n)) h).0
fits_told tell c b _ h = h

-- the active process may be told what it is told
may_be_told_now : {B : Type 0} (g : Plan B) (tell : Telling B) (sound : B →
    Type 0) (s : State B) (e : EventId) (left : List Callback) (p : ProcId) (x : Signal) (y : ProcessOf B) → s.control ≡ Active e left p x →
    process_at p s ≡ Some y → LawfulBasis g tell sound s → may_be_told (tell.last y.body) x ≡ true
may_be_told_now {B} g tell sound s e left p x y active found h =
    let c : Calendar = calendar s in
    let test : ProcessOf B → Bool = λ z. is_process z.id p in
    let well : is_told_well tell c y.id y.body s.control ≡ true = find_has (λ z. is_told_well tell c z.id z.body s.control ≡ true) test s.processes y found h.bodies.told in
    fits_told tell c y.body x (sym (told_active tell c y.id y.body e left p x (find_passes test s.processes y found)) ∙ (ap (λ (k : Control). is_told_well tell c y.id y.body k) (sym active) ∙ well))

module _ {B : Type 0} (g : Plan B) (tell : Telling B) (sound : B → Type 0) (turn : Turn B) (f : CodeFacts) where
  lawful_polled : (s t : State B) (e : EventId) (left : List Callback) (p : ProcId) (x : Signal) → FitsCode f g.setup →
      IsLawfulBody f tell sound g.start turn → Lawful g tell sound s → s.control ≡ Active e left p x → IsPoll g turn p x s t → Lawful g tell sound t
  lawful_polled s t e left p x fits law h active i =
      let y : ProcessOf B = i.process in
      let time : ℤ = (calendar s).time in
      let basis : LawfulBasis g tell sound s = basis_of g tell sound s h in
      let beside : FactsBeside g.setup.until s = facts_of g tell sound s h in
      let well : sound y.body = find_has (λ z. sound z.body) (λ z. is_process z.id p) s.processes y i.found basis.bodies.bodies in
      let may : may_be_told (tell.last y.body) x ≡ true = may_be_told_now g tell sound s e left p x y active i.found basis in
      let asked : AsksFor g tell sound s f e left p x y i.body i.asked = record {
        active = active;
        found = i.found;
        is_sound = law.keeps y.body time x i.asked i.body well may i.turned;
        lawful = basis;
        poll = law.polls y.body time x i.asked i.body well may i.turned;
      } in
      subst (Lawful g tell sound) (sym i.then_is)
      (lawful_serving g tell sound (polled g p i.asked i.body s)
      (basis_asked g tell sound turn s f e left p x y i.body i.asked law fits beside asked)
      (beside_polled g tell sound s f e left p x y i.body i.asked fits asked beside)
      (served_polled g tell sound f fits s basis (serving_of g tell sound s h) p x y i.asked i.body asked.poll))

  -- ---- the step that comes next

  pub lawful_at : (s t : State B) (k : Control) → FitsCode f g.setup → IsLawfulBody f tell sound g.start turn → Lawful g tell sound s → s.control ≡ k →
      IsStepAt g turn s t k → Lawful g tell sound t
  lawful_at s t Idle fits law h is i =
      let basis : LawfulBasis g tell sound s = basis_of g tell sound s h in
      subst (Lawful g tell sound) (sym i.then_is) (lawful_serving g tell sound (pop_entry i.entry s) (lawful-popped g tell sound s i.entry is i.is_due basis) (beside_popped g.setup.until i.entry s basis.conditions (facts_of g tell sound s h))
      (served_popped (length g.setup.resources) i.entry s (serving_of g tell sound s h)))
  lawful_at s t (Calling e []) fits law h is i =
      subst (Lawful g tell sound) (sym i) (lawful_serving g tell sound (settle e s) (lawful-settled g tell sound s e is (basis_of g tell sound s h)) (beside_settled g.setup.until e s (facts_of g tell sound s h))
      (served_settled (length g.setup.resources) e s (serving_of g tell sound s h)))
  lawful_at s t (Calling e (x ∷ left)) fits law h is i =
      let basis : LawfulBasis g tell sound s = basis_of g tell sound s h in
      let beside : FactsBeside g.setup.until s = facts_of g tell sound s h in
      subst (Lawful g tell sound) (sym i) (lawful_serving g tell sound (call g e x left s) (basis_called g tell sound s e x left is basis beside) (beside_called g tell sound e left s x is basis beside)
      (served_called g e x left s is (serving_of g tell sound s h)))
  lawful_at s t (Active e left p x) fits law h is i = lawful_polled s t e left p x fits law h is i
  lawful_at s t (Over why e left) fits law h is i = absurd i

  pub lawful_step : (s t : State B) → FitsCode f g.setup → IsLawfulBody f tell sound g.start turn → Lawful g tell sound s → IsStep g turn s t →
      Lawful g tell sound t
  lawful_step s t fits law h step = lawful_at s t s.control fits law h refl step

  -- ---- the opening state

  pub lawful_opening : FitsCode f g.setup → IsLawfulBody f tell sound g.start turn → Lawful g tell sound (opening g)
  lawful_opening fits law = lawful_serving g tell sound (opening g) (opening_lawful f tell sound g turn law fits) (beside_opening g) (served_opening g)

  -- ---- an arrival

  pub lawful_arrival : (m : Course B) (a : Arrival) → FitsCode f g.setup → IsLawfulBody f tell sound g.start turn → a.port < length g.setup.ports →
      Lawful g tell sound m.state → Lawful g tell sound (inject g a m).state
  lawful_arrival m a fits law below h =
      lawful_serving g tell sound (inject g a m).state (lawful-injected f tell sound g turn m a law fits below (basis_of g tell sound m.state h))
      (beside_arrived g.setup.until g a.port a.value m.state (facts_of g tell sound m.state h)) (served_arrived g a.port a.value m.state (serving_of g tell sound m.state h))

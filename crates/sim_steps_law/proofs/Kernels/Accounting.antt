-- The accounts of holders through what the parts of a kernel become.
use Rattle.std.proofs.Common.{◌≡◌, ◌≢◌, ℕ, ◌+◌, zero, suc, List, [], ◌∷◌, ◌++◌, refl, sym, ap, subst, ◌∙◌, Option}
use Rattle.std.proofs.lemmas.Bool.{ne_eqb}
use Rattle.std.proofs.lemmas.List.{append_assoc}
use Rattle.sim_types.specs.declared.event.EventId.{EventId}
use Rattle.sim_machine.specs.State.{Calendar, State}
use Rattle.sim_machine.specs.Effect.{calendar}
use Rattle.sim_happen_model.specs.HappenOf.{held}
use Rattle.sim_happen_model.specs.Shows.{Shows}
use Rattle.sim_happen_model.specs.Holders.{HasOwnHolder}
use Rattle.sim_happen_model.specs.Accounts.{Balanced}
use Rattle.sim_happen_model.specs.Naming.{but_zero, held_alone}
use Rattle.sim_happen_model.specs.HolderChanges.{StatesTrade, ComesAfter, ComesPlainly, MakesNoCondition, KeepsHolders}
use Rattle.sim_accounts.proofs.Balancing.{trades_balanced, kept_balanced, kept_gone}
use Rattle.sim_accounts.proofs.CalendarChanges.{after_events, none_events}
use Rattle.sim_accounts.proofs.GivenBack.{owed_own}
use Rattle.sim_accounts.proofs.KeepingHolders.{keeps_all, keeps_made}
use Rattle.sim_shared_model.specs.Making.{unheld_events}
use Rattle.sim_steps_model.specs.PartsOf.{PartsOf, IsOpenedAs}
use Rattle.sim_steps_model.specs.StandsFor.{Balances}
use Rattle.sim_steps_model.specs.Becoming.{AddsFew, Stands, BecomesOwing, IsOwing}
use Rattle.sim_machine.specs.Bodies.{BodyOf}

-- nobody has a holder more or fewer, however many events are made
abbrev pub KeepsAllHolders : (List (Option ℕ) → List (Option ℕ)) → Type 0
KeepsAllHolders holds = (d : Calendar) (hs : List (Option ℕ)) → KeepsHolders d hs (holds hs)

pub keeps_unheld : (n : ℕ) → KeepsAllHolders (unheld_events n)
keeps_unheld zero d hs = keeps_all d hs
keeps_unheld (suc n) d hs = keeps_made d hs (unheld_events n hs) (keeps_unheld n d hs)

pub opened_then : {B Code : Type 0} (a b c : PartsOf B Code) → IsOpenedAs a b → IsOpenedAs b c → IsOpenedAs a c
opened_then a b c h k = record { code = k.code ∙ h.code; setup = k.setup ∙ h.setup; seed = k.seed ∙ h.seed }

-- who holds what is the same for what was opened alike
opened_alone : {B Code : Type 0} (body : BodyOf B Code) (a b : PartsOf B Code) (s : State B) → IsOpenedAs a b →
    held_alone b.setup.events (body.tell b.code) s ≡ held_alone a.setup.events (body.tell a.code) s
opened_alone body a b s o = rw (o.code, o.setup) refl

-- an event but event 0 is held by being named
pub other_is : (e : EventId) → e.0 ≢ 0 → but_zero (e ∷ []) ≡ e ∷ []
other_is e h = rw (ne_eqb e.0 0 h) refl

-- event 0 is not
pub zero_is : (e : EventId) → e.0 ≡ 0 → but_zero (e ∷ []) ≡ []
zero_is e h = rw h refl

-- what is shown comes later, no condition is made, and nobody's holders change in the table
pub record HoldersStay {B Code : Type 0} (a b : PartsOf B Code) (s t : State B) : Type 0 where
  pub after : ComesAfter (calendar s) (calendar t)
  pub none : MakesNoCondition (calendar s) (calendar t)
  pub keeps : KeepsHolders (calendar t) (held a.shared.happen) (held b.shared.happen)

-- where the calendar stays, and the table
pub stay_stated : {B Code : Type 0} (a b : PartsOf B Code) (s t : State B) → calendar t ≡ calendar s → held b.shared.happen ≡ held a.shared.happen →
    HoldersStay a b s t
stay_stated a b s t same table = record {
  after = after_events (calendar s) (calendar t) (ap (λ (c : Calendar). c.events) same);
  none = none_events (calendar s) (calendar t) (ap (λ (c : Calendar). c.events) same);
  keeps = subst (KeepsHolders (calendar t) (held a.shared.happen)) (sym table) (keeps_all (calendar t) (held a.shared.happen));
}

-- where the calendar changes plainly, and nobody's holders do
pub stay_plainly : {B Code : Type 0} (holds : List (Option ℕ) → List (Option ℕ)) (a b : PartsOf B Code) (s t : State B) → KeepsAllHolders holds →
    held b.shared.happen ≡ holds (held a.shared.happen) → ComesPlainly (calendar s) (calendar t) → HoldersStay a b s t
stay_plainly holds a b s t keeps table plainly = record {
  after = plainly.quietly.after;
  none = plainly.none;
  keeps = subst (KeepsHolders (calendar t) (held a.shared.happen)) (sym table) (keeps (calendar t) (held a.shared.happen));
}

module _ {B Code : Type 0} {body : BodyOf B Code} where
  -- ---- the general lift: the holders of the table stay, and in the state these trade

  pub balances_by : (gained lost todo : List EventId) (a b : PartsOf B Code) (s t : State B) → IsOpenedAs a b → Stands a s → Stands b t →
      HoldersStay a b s t →
      StatesTrade a.setup.events (body.tell a.code) gained lost s t → Balances body (gained ++ todo) a s → Balances body (lost ++ todo) b t
  balances_by gained lost todo a b s t o old new stay trade h =
      let before : Shows a.shared.happen (calendar s) = old.stands.facilities.calendar in
      let now_shown : Shows b.shared.happen (calendar t) = new.stands.facilities.calendar in
      let was : EventId → ℕ = held_alone a.setup.events (body.tell a.code) s in
      let is_now : EventId → ℕ = held_alone a.setup.events (body.tell a.code) t in
      let table : Balanced was (gained ++ todo) b.shared.happen.events =
      kept_balanced a.shared.happen b.shared.happen (calendar s)
      (calendar t) before now_shown stay.after stay.none stay.keeps was (gained ++ todo) h.holders in
      record {
        holders = subst (λ alone. Balanced alone (lost ++ todo) b.shared.happen.events) (sym (opened_alone body a b t o))
            (trades_balanced gained lost todo was is_now b.shared.happen.events trade table);
        gone = kept_gone a.shared.happen b.shared.happen (calendar s) (calendar t) before now_shown stay.after stay.none stay.keeps h.gone;
      }

  pub owing_by : (gained lost : List EventId) (more : ℕ) (f : State B → State B) (a b : PartsOf B Code) →
      ((s : State B) → Stands a s → Stands b (f s)) →
      IsOpenedAs a b → AddsFew more a b → ((s : State B) → Stands a s → HoldersStay a b s (f s)) →
      ((s : State B) → Stands a s → StatesTrade a.setup.events (body.tell a.code) gained lost s (f s)) → BecomesOwing body gained lost more f a b
  owing_by gained lost more f a b each opened few stay trades = record {
    each = each;
    accounts = λ todo s h k. balances_by gained lost todo a b s (f s) opened h (each s h) (stay s h) (trades s h) k;
    opened = opened;
    few = few;
  }

  -- ---- one change after another

  -- the second uses up what the first leaves
  pub owing_then : {m n : ℕ} {gained between lost : List EventId} (f g : State B → State B) (a b c : PartsOf B Code) →
      BecomesOwing body gained between m f a b →
      AddsFew (m + n) a c → BecomesOwing body between lost n g b c → BecomesOwing body gained lost (m + n) (λ s. g (f s)) a c
  owing_then f g a b c p few q = record {
    each = λ s h. q.each (f s) (p.each s h);
    accounts = λ todo s h k. q.accounts todo (f s) (p.each s h) (p.accounts todo s h k);
    opened = opened_then a b c p.opened q.opened;
    few = few;
  }

  -- what more is held stays so
  pub owing_besides : {m : ℕ} {gained lost : List EventId} (more : List EventId) (f : State B → State B) (a b : PartsOf B Code) →
      BecomesOwing body gained lost m f a b → BecomesOwing body (gained ++ more) (lost ++ more) m f a b
  owing_besides {m} {gained} {lost} more f a b p = record {
    each = p.each;
    accounts = λ todo s h k.
        subst (λ xs. Balances body xs b (f s)) (sym (append_assoc lost more todo))
        (p.accounts (more ++ todo) s h (subst (λ xs. Balances body xs a s) (append_assoc gained more todo) k));
    opened = p.opened;
    few = p.few;
  }

  -- what was owed before and what the change leaves to be given back is owed then
  pub owing_after : {m : ℕ} {gained lost : List EventId} (f : State B → State B) (a b : PartsOf B Code) → BecomesOwing body gained lost m f a b →
      IsOwing body gained a → IsOwing body lost b
  owing_after f a b p h = record {
    state = f h.state;
    stands = p.each h.state h.stands;
    others = h.others;
    balances = p.accounts h.others h.state h.stands h.balances;
  }

  -- an event of which a holder is to be given back is no condition
  pub owing_holder : (e : EventId) (a : PartsOf B Code) → IsOwing body (e ∷ []) a → HasOwnHolder a.shared.happen.events e
  owing_holder e a h = owed_own (held_alone a.setup.events (body.tell a.code) h.state) e h.others a.shared.happen.events h.balances.holders

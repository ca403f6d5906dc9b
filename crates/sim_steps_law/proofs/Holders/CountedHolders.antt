-- Of holders that are to be given back it counts how often each event stands among them, and not in which order.
use Rattle.std.proofs.Common.{◌≡◌, ℕ, ◌<◌, List, ◌++◌, refl, subst, arith}
use Rattle.std.specs.Prelude.{count_by, nat_le, true}
use Rattle.std.proofs.lemmas.Bool.Decides.{nat_tests}
use Rattle.std.proofs.lemmas.List.{append_assoc}
use Rattle.sim_types.specs.declared.event.EventId.{EventId}
use Rattle.sim_machine.specs.State.{State}
use Rattle.sim_machine.specs.Events.{is_same}
use Rattle.sim_machine_law.proofs.Events.CallbackLaws.{count_by-append}
use Rattle.sim_happen_model.specs.TableOf.{IsKept}
use Rattle.sim_happen_model.specs.HolderChanges.{Trades}
use Rattle.sim_happen_model.specs.Naming.{held_alone}
use Rattle.sim_accounts.proofs.GivenBack.{held_kept}
use Rattle.sim_accounts.proofs.NamedEvents.{held_for_good}
use Rattle.sim_steps_model.specs.PartsOf.{PartsOf}
use Rattle.sim_steps_model.specs.StandsFor.{Balances}
use Rattle.sim_steps_model.specs.Becoming.{BecomesOwing, IsOwing}
use Rattle.sim_machine.specs.Bodies.{BodyOf}

-- each event stands among these as often as among those
pub record AreAlike (es fs : List EventId) : Type 0 where
  pub each : (e : EventId) → count_by (is_same e) fs ≡ count_by (is_same e) es

pub alike_itself : (es : List EventId) → AreAlike es es
alike_itself es = record { each = λ e. refl }

pub alike_swapped : (es fs : List EventId) → AreAlike (es ++ fs) (fs ++ es)
alike_swapped es fs = record { each = λ e. omega (arith, count_by-append (is_same e) es fs, count_by-append (is_same e) fs es) }

-- where these come and go in place of those, as often
pub trades_alike : (gained lost gained' lost' : List EventId) (old new : EventId → ℕ) → AreAlike (gained ++ lost') (gained' ++ lost) →
    Trades gained lost old new
    → Trades gained' lost' old new
trades_alike gained lost gained' lost' old new h t =
    record { each = λ e. omega (arith, t.each e, h.each e, count_by-append (is_same e) gained lost', count_by-append (is_same e) gained' lost) }

module _ {B Code : Type 0} {body : BodyOf B Code} where
  pub balances_alike : (es fs todo : List EventId) (a : PartsOf B Code) (s : State B) → AreAlike es fs → Balances body (es ++ todo) a s →
      Balances body (fs ++ todo) a s
  balances_alike es fs todo a s h b = record {
    holders = record {
      each = λ e. omega (arith, b.holders.each e, h.each e, count_by-append (is_same e) es todo, count_by-append (is_same e) fs todo);
      older = b.holders.older;
    };
    gone = b.gone;
  }

  pub owing_alike : {m : ℕ} {gained lost : List EventId} (gained' lost' : List EventId) (f : State B → State B) (a b : PartsOf B Code) →
      AreAlike gained' gained → AreAlike lost lost' → BecomesOwing body gained lost m f a b → BecomesOwing body gained' lost' m f a b
  owing_alike {m} {gained} {lost} gained' lost' f a b more less p = record {
    each = p.each;
    accounts = λ todo s h k. balances_alike lost lost' todo b (f s) less (p.accounts todo s h (balances_alike gained' gained todo a s more k));
    opened = p.opened;
    few = p.few;
  }

  -- where more is to be given back, the first of it is
  pub is_owing_first : (es fs : List EventId) (a : PartsOf B Code) → IsOwing body (es ++ fs) a → IsOwing body es a
  is_owing_first es fs a h = record {
    state = h.state;
    stands = h.stands;
    others = fs ++ h.others;
    balances = subst (λ xs. Balances body xs a h.state) (append_assoc es fs h.others) h.balances;
  }

  -- ---- what is kept

  -- event 0 and the named ones
  pub owing_named : (owed : List EventId) (a : PartsOf B Code) (e : EventId) → nat_le e.0 a.setup.events ≡ true → IsOwing body owed a →
      IsKept a.shared.happen.events e
  owing_named owed a e named h =
      let alone : EventId → ℕ = held_alone a.setup.events (body.tell a.code) h.state in
      let some : 0 < alone e = held_for_good a.setup.events (body.tell a.code) h.state e named in
      held_kept alone e (owed ++ h.others) a.shared.happen.events h.balances.holders (omega (arith, some))

  pub owing_zero : (owed : List EventId) (a : PartsOf B Code) → IsOwing body owed a → IsKept a.shared.happen.events (record { 0 = 0 })
  owing_zero owed a h = owing_named owed a (record { 0 = 0 }) (least a.setup.events) h
    where
      least : (n : ℕ) → nat_le 0 n ≡ true
      least n = grind (arith, nat_tests)

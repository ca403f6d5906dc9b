-- Every state of a run is in order.
use Rattle.std.proofs.Common.{◌≡◌, Bool, true, false, ◌||◌, ◌&&◌, not, ◌==◌, ℕ, List, [], ◌∷◌, refl, sym, arith, subst}
use Rattle.std.specs.Prelude.{IsTrue}
use Rattle.std.specs.List.{list_any, list_all}
use Rattle.std.proofs.lemmas.Bool.{false≢true, and_parts}
use Rattle.std.proofs.lemmas.List.Sums.{list_all-from_AllPass}
use Rattle.sim_types.specs.Scenarios.{ScenarioOf}
use Rattle.sim_types.specs.declared.event.EventId.{EventId}
use Rattle.sim_types.specs.declared.event.ProcId.{ProcId}
use Rattle.sim_types.specs.declared.setup.Arrival.{Arrival}
use Rattle.sim_types.specs.declared.setup.Resource.{Resource}
use Rattle.sim_machine.specs.State.{Want, Slot, Give, Take, Waiter, OpenScope, State}
use Rattle.sim_machine.specs.Events.{is_same, is_process}
use Rattle.sim_machine.specs.Users.{resource_at}
use Rattle.sim_machine.specs.Processes.{is_alive}
use Rattle.sim_machine.specs.LawfulProcesses.{is_active}
use Rattle.sim_machine.specs.LawfulWaiting.{request_has_scope, is_scope_well}
use Rattle.sim_machine.specs.Lawful.{Lawful}
use Rattle.sim_lawful.specs.LawfulRuns.{IsRunOf}
use Rattle.sim_machine_law.specs.Courses.{Run, course_after}
use Rattle.sim_machine_law.proofs.KeptParts.KeptProcessesParts.{is_process-yes}
use Rattle.sim_machine_law.proofs.Stocks.ServedFronts.{level_of_amounts}
use Rattle.sim_lawful.proofs.Units.WholeRuns.{run_stays_lawful}
use Rattle.sim_language.specs.WellFormed.{is_well_formed}
use Rattle.sim_script_model.specs.Scripts.{Script, script_telling}
use Rattle.sim_script_law.specs.ScriptMembers.{script_body}
use Rattle.sim_script_law.specs.SoundScripts.{IsSoundScript}
use Rattle.sim_script_law.proofs.Laws.ScriptLaw.{script_lawful}
use Rattle.sim_script_law.proofs.Laws.SetupFits.{fits_code}
use Rattle.sim_machine.specs.RandomWords.{word_of}
use Rattle.sim_script_model.specs.Scenarios.{plan_with}
use Rattle.sim_script_law.specs.ScenarioRuns.{run_of}
use Rattle.sim_types.specs.Setups.{HavePorts}
use Rattle.sim_engine.specs.Throughout.{is_of_living, IsInOrder, IsInOrderThroughout}

-- ---- what waits for a slot is of a live process

module _ (rs : List Resource) (t : State Script) where
  well_alive : (x : OpenScope) → is_scope_well rs t x ≡ true → is_alive x.process t ≡ true
  well_alive x h = grind (arith, h)

  scope_alive : (e : EventId) (p : ProcId) (res : ℕ) (xs : List OpenScope)
      → list_any (λ x. is_same x.request e && is_process x.process p && (x.res == res)) xs ≡ true
      → list_all (is_scope_well rs t) xs ≡ true → is_alive p t ≡ true
  scope_alive e p res [] h well = absurd (false≢true h)
  scope_alive e p res (x ∷ xs) h well =
      let parts = and_parts (is_scope_well rs t x) (list_all (is_scope_well rs t) xs) well in
      by (is_same x.request e && is_process x.process p && (x.res == res)) refl h parts.0 (λ k. scope_alive e p res xs k parts.1)
    where
      by : (b : Bool) → (is_same x.request e && is_process x.process p && (x.res == res)) ≡ b
          → (b || list_any (λ x. is_same x.request e && is_process x.process p && (x.res == res)) xs) ≡ true
          → is_scope_well rs t x ≡ true
          → (list_any (λ x. is_same x.request e && is_process x.process p && (x.res == res)) xs ≡ true → is_alive p t ≡ true) → is_alive p t ≡ true
      by true is h here later =
          let both = and_parts (is_same x.request e && is_process x.process p) (x.res == res) is in
          let same = is_process-yes x.process p (and_parts (is_same x.request e) (is_process x.process p) both.0).1 in
          subst (λ q. is_alive q t ≡ true) same (well_alive x here)
      by false is h here later = later h

  wants_alive : (w : Waiter) (want : Want) → request_has_scope t.scopes w want ≡ true
      → list_all (is_scope_well rs t) t.scopes ≡ true → is_of_living t want ≡ true
  wants_alive w (Slot p key) h well =
      scope_alive w.event p w.res t.scopes h well
  wants_alive w (Give amount priority) h well = refl
  wants_alive w (Take least greatest) h well = refl

  all_alive : (ws : List Waiter) → list_all (λ w. request_has_scope t.scopes w w.want) ws ≡ true → list_all (is_scope_well rs t) t.scopes ≡ true
      → list_all (λ w. is_of_living t w.want) ws ≡ true
  all_alive [] h well = refl
  all_alive (w ∷ ws) h well =
      let parts = and_parts (request_has_scope t.scopes w w.want) (list_all (λ w. request_has_scope t.scopes w w.want) ws) h in
      both (is_of_living t w.want) (list_all (λ w. is_of_living t w.want) ws) (wants_alive w w.want parts.0 well) (all_alive ws parts.1 well)
    where
      both : (a b : Bool) → a ≡ true → b ≡ true → (a && b) ≡ true
      both true true h k = refl
      both true false h k = k
      both false b h k = h

-- ---- a run

ended_test : (active alive : Bool) → alive ≡ false → IsTrue (active || not alive)
ended_test true alive h = refl
ended_test false true h = absurd (false≢true (sym h))
ended_test false false h = refl

in_order_where_lawful : (s : ScenarioOf) (seed : ℕ) (t : State Script) → Lawful (plan_with s (word_of seed)) script_telling (IsSoundScript s) t → IsInOrder s t
in_order_where_lawful s seed t h =
    record {
      few_users = h.capacities.slots;
      level_is = λ res. level_of_amounts (resource_at s.setup.resources res).opening res t.facilities.ledger;
      level_from_0 = h.capacities.level_low;
      level_to_capacity = h.capacities.level_high;
      few_items = h.capacities.room;
      not_resumed = λ p ended. h.processes.not_resumed p (ended_test (is_active t.control p) (is_alive p t) ended);
      not_waiting =
          all_alive s.setup.resources t t.facilities.waiters (list_all-from_AllPass _ t.facilities.waiters h.waiting.requests)
          (list_all-from_AllPass _ t.scopes h.waiting.scopes);
    }

-- each state of the runs of a scenario that is well formed
pub in_order : (s : ScenarioOf) (seed : ℕ) (journal : List Arrival) (limit : ℕ) → IsTrue (is_well_formed s) → HavePorts s.setup journal
    → IsInOrderThroughout s seed journal limit
in_order s seed journal limit well_formed ports n within =
    let r : Run Script = run_of s seed journal in
    let is_run : IsRunOf script_body s r = record {
      plan = record { starts = refl; fits = fits_code s well_formed };
      turns = λ b time told. (refl, refl);
      ports = ports;
    } in
    in_order_where_lawful s seed (course_after r n).state (run_stays_lawful script_body s (script_lawful s) r is_run n)

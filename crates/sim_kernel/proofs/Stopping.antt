-- What the code sets to stop a run is what the machine sets.
use Rattle.std.proofs.Common.{Some, ℕ, ◌*◌, [], ◌≡◌, ◌+◌, ◌≤◌, ◌^◌, pos, ℤ, ◌≤ℤ◌, Bool, true, false, not, ◌&&◌, length, refl, sym, ap, subst, ◌∙◌, arith}
use Rattle.std.specs.Prelude.{int_le, nat_le, nat_lt, IsTrue}
use Rattle.std.proofs.lemmas.Bool.{and_parts, false≢true}
use Rattle.std.proofs.lemmas.Int.{ints}
use Rattle.sim_types.specs.declared.event.EventKind.TheVariants as kind
use Rattle.sim_types.specs.declared.event.Outcome.TheVariants as outcome
use Rattle.sim_types.specs.declared.setup.Until.{Until}
use Rattle.sim_types.specs.declared.setup.Until.TheVariants as until
use Rattle.sim_machine.specs.State.{EventOf, Calendar, State, Plan}
use Rattle.sim_machine.specs.Bodies.{BodyOf}
use Rattle.sim_machine.specs.Events.{next_event, is_pending, is_processed}
use Rattle.sim_machine.specs.Triggering.{make}
use Rattle.sim_machine.specs.Scopes.{on_events}
use Rattle.sim_machine.specs.Setups.{FitsCode, until_fits}
use Rattle.sim_machine.specs.Tellings.{CodeFacts}
use Rattle.sim_machine.specs.Runs.{set_stop, opening}
use Rattle.sim_machine_law.proofs.Events.EventLaws.{change_event-length, make-length}
use Rattle.sim_lawful.proofs.Opening.OpeningLaws.{Opens, starts_open}
use Rattle.sim_happen_model.specs.HappenOf.{held}
use Rattle.sim_happen_law.proofs.Changes.Following.{read_is}
use Rattle.sim_shared_model.specs.Making.{unheld_events}
use Rattle.sim_steps_model.specs.Becoming.{AreFew, Becomes, Stands}
use Rattle.sim_steps_model.specs.Opening.{CanStop, KeepsButProcesses, SetsStop, most_begun}
use Rattle.sim_steps_model.specs.PartsOf.{PartsOf, KeepsButHappen, plan_of}
use Rattle.sim_steps_model.specs.StandsFor.{Balances, StandsFor, StandsForOpening}
use Rattle.sim_kernel.specs.Opening.{HasStarted, with_starts}
use Rattle.sim_accounts.proofs.CalendarChanges.{plainly_stop}
use Rattle.sim_steps_law.proofs.Kernels.Keeping.{adds_unheld, few_weaker}
use Rattle.sim_steps_law.proofs.Kernels.Accounting.{keeps_unheld}
use Rattle.sim_steps_law.proofs.Kernels.Becoming.{becomes_turned}
use Rattle.sim_steps_law.proofs.Holders.CountedHolders.{owing_named}

-- ---- a run can be stopped as its setup says

not_processed : (p q : Bool) → (p && not q) ≡ true → q ≡ false
not_processed p false h = refl
not_processed true true h = absurd (false≢true h)
not_processed false true h = absurd (false≢true h)

within : (low high time : ℤ) → pos 0 ≤ℤ low → (int_le low time && int_le time high) ≡ true → (pos 0 ≤ℤ time) × (time ≤ℤ high)
within low high time h k =
    let both = and_parts (int_le low time) (int_le time high) k in
    (from_low low time h both.0, to_high time high both.1)
  where
    from_low : (low time : ℤ) → pos 0 ≤ℤ low → int_le low time ≡ true → pos 0 ≤ℤ time
    from_low low time h k = grind (arith, ints)

    to_high : (time high : ℤ) → int_le time high ≡ true → time ≤ℤ high
    to_high time high k = grind (arith, ints)

can_stop : {B Code : Type 0} (body : BodyOf B Code) (g : Plan B) (s : State B) (a : PartsOf B Code) (x : Until) → IsTrue (until_fits a.setup.events x) →
    g.setup.events ≡ a.setup.events → Opens g s → Stands a s → Balances body [] a s → CanStop x a.shared.happen
can_stop body g s a until.Never fits same o h balances = tt
can_stop body g s a (until.At time) fits same o h balances = within (pos 1) (pos (2 ^ 62)) time (omega arith) fits
can_stop body g s a (until.Event e) fits same o h balances =
    let c : Calendar = s.facilities.calendar in
    let here = owing_named [] a e (and_parts (nat_lt 0 e.0) (nat_le e.0 a.setup.events) fits).1 (record { state = s; stands = h; others = []; balances = balances }) in
    let named : IsTrue (until_fits g.setup.events (until.Event e)) = subst (λ n. IsTrue (until_fits n (until.Event e))) (sym same) fits in
    (here, ap (λ (y : EventOf). y.processed) (read_is a.shared.happen c e here h.stands.facilities.calendar) ∙ not_processed (is_pending c e) (is_processed c e) (o.named e named))

-- once all that run from the start are started
pub started_can_stop : {B Code : Type 0} (body : BodyOf B Code) (first old : PartsOf B Code) (f : CodeFacts) → FitsCode f first.setup →
    KeepsButProcesses first old → HasStarted body first.setup.starts first old → CanStop first.setup.until old.shared.happen
started_can_stop {B} {Code} body first old f fits kept h =
    let g : Plan B = plan_of body first in
    let same : old.setup.events ≡ first.setup.events = ap (λ (k : PartsOf B Code). k.setup.events) kept in
    let until = subst (λ n. IsTrue (until_fits n first.setup.until)) (sym (same ∙ fits.events)) fits.until in
    can_stop body g (with_starts g first.setup.starts) old first.setup.until until (sym same) (starts_open g) h.stands h.balances

-- ---- what is to stop a run makes one event at most

stop_made : (time : ℤ) (c : Calendar) → length (set_stop (until.At time) c).events ≡ length c.events + 1
stop_made time c = omega (arith, change_event-length (next_event c) (λ y. record y { outcome = Some (outcome.Ok (pos 0)) }) (make kind.Stop c), make-length kind.Stop c)

pub stop_events : (x : Until) (c : Calendar) → length (set_stop x c).events ≤ length c.events + 1
stop_events until.Never c = omega arith
stop_events (until.At time) c = omega (arith, stop_made time c)
stop_events (until.Event e) c = omega arith

-- ---- what becomes of the state

-- what is to stop the run is set, and all else stays
pub record StopsBy {B Code : Type 0} (x : Until) (old new : PartsOf B Code) : Type 0 where
  pub kept : KeepsButHappen old new
  pub sets : SetsStop x old.shared.happen new.shared.happen

stop_becomes : {B Code : Type 0} {body : BodyOf B Code} (x : Until) (old new : PartsOf B Code) → StopsBy x old new →
    Becomes body (on_events (set_stop x)) old new
stop_becomes {B} {Code} {body} x old new h =
    let n : ℕ = h.sets.made in
    subst (λ (k : PartsOf B Code). Becomes body (on_events (set_stop x)) old k) (sym h.kept)
    (becomes_turned (set_stop x) (unheld_events n) old new.shared.happen (adds_unheld n) (keeps_unheld n) (plainly_stop x) h.sets.turns)

-- the kernel stands for the opening state, its accounts balance, and each event has few holders
pub record IsOpened {B Code : Type 0} (body : BodyOf B Code) (parts : PartsOf B Code) : Type 0 where
  pub stands : StandsForOpening body parts
  pub balances : Balances body [] parts (opening (plan_of body parts))
  pub few : AreFew (1 + most_begun * length parts.setup.starts) (held parts.shared.happen)

-- so it is once all that run from the start are started, and what stops the run is set
pub opened_so : {B Code : Type 0} (body : BodyOf B Code) (first old new : PartsOf B Code) (x : Until) → x ≡ first.setup.until →
    KeepsButProcesses first old → StopsBy x old new → HasStarted body first.setup.starts first old → IsOpened body new
opened_so {B} {Code} body first old new x is kept stops h =
    let g : Plan B = plan_of body first in
    let s : State B = with_starts g g.setup.starts in
    let plan : PartsOf B Code → Plan B = λ parts. plan_of body parts in
    let same : g ≡ plan new = sym (ap plan stops.kept ∙ ap plan kept) in
    let becomes : Becomes body (on_events (set_stop x)) old new = stop_becomes x old new stops in
    let reached : on_events (set_stop x) s ≡ opening (plan new) = ap (λ y. on_events (set_stop y) s) is ∙ ap (λ (p : Plan B). opening p) same in
    let starts : length first.setup.starts ≡ length new.setup.starts = ap (λ (p : Plan B). length p.setup.starts) same in
    let most : ℕ = 1 + most_begun * length first.setup.starts in
    record {
      stands = subst (StandsFor new) reached (becomes.each s h.stands).stands;
      balances = subst (Balances body [] new) reached (becomes.accounts [] s h.stands h.balances);
      few = few_weaker (most + 0) (1 + most_begun * length new.setup.starts) (held new.shared.happen) (omega (arith, starts)) (becomes.few.few most h.few);
    }

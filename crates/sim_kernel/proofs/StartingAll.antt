-- The processes that run from the start are made, one after another.
use Rattle.std.proofs.Common.{◌≡◌, ℕ, ◌+◌, ◌*◌, ◌<◌, ◌≤◌, ◌^◌, List, [], ◌∷◌, length, take, length-take, map, true, sym, ap, subst, ◌∙◌, arith}
use Rattle.std.specs.Prelude.{slice_index_or, fold}
use Rattle.std.proofs.lemmas.List.{length-replicate}
use Rattle.std.proofs.lemmas.List.Elements.{All-nil}
use Rattle.std.proofs.lemmas.List.Sorted.{All-permutation}
use Rattle.std.proofs.lemmas.List.Sums.{fold_more}
use Rattle.sim_types.specs.declared.event.EventKind.TheVariants as kind
use Rattle.sim_types.specs.declared.setup.Start.{Start}
use Rattle.sim_machine.specs.State.{ProcessOf, State, Plan}
use Rattle.sim_machine.specs.Events.{pending_event}
use Rattle.sim_machine.specs.Bodies.{BodyOf}
use Rattle.sim_machine.specs.Processes.{is_alive}
use Rattle.sim_machine.specs.Standing.{was_made}
use Rattle.sim_machine.specs.Setups.{FitsCode}
use Rattle.sim_machine.specs.Tellings.{CodeFacts}
use Rattle.sim_machine.specs.Runs.{blank_state, start_process}
use Rattle.sim_happen_model.specs.HappenOf.{held}
use Rattle.sim_steps_model.specs.PartsOf.{PartsOf, plan_of, with_happen}
use Rattle.sim_steps_model.specs.StandsFor.{Balances, StandsFor, process_of}
use Rattle.sim_steps_model.specs.Becoming.{AreFew, BecomesWith, Stands}
use Rattle.sim_steps_model.specs.Opening.{IsOpening, KeepsButProcesses, most_begun}
use Rattle.sim_kernel.specs.Opening.{HasStarted, with_starts}
use Rattle.sim_steps_law.proofs.Kernels.Keeping.{few_weaker}
use Rattle.sim_steps_law.proofs.Starts.Starting.{of_process_events}

-- ---- before any process is made

-- nothing was started
pub blank_started : {B Code : Type 0} (body : BodyOf B Code) (a : PartsOf B Code) → StandsFor a (blank_state (plan_of body a)) →
    Balances body [] a (blank_state (plan_of body a)) → AreFew 1 (held a.shared.happen) → HasStarted body [] a a
blank_started {B} {Code} body a h balances few =
    let s : State B = blank_state (plan_of body a) in
    record {
      stands = record {
        stands = h;
        distinct = λ i j d before below. absurd (omega (arith, below));
        owned = All-nil (λ x. is_alive x.process s ≡ true);
        apart = λ i j d before below. absurd (omega (arith, below));
        entered = All-nil (λ x. was_made s.facilities.calendar x.request ≡ true);
      };
      balances = balances;
      few = few_weaker 1 (1 + most_begun * length (take 0 a.setup.starts)) (held a.shared.happen) (omega arith) few;
    }

-- so processes that run from the start can be made
pub blank_opening : {B Code : Type 0} (body : BodyOf B Code) (a : PartsOf B Code) → HasStarted body [] a a → IsOpening body a
blank_opening {B} body a h =
    let P : ProcessOf B → Type 0 = λ x. x.id.0 < length a.shared.happen.events in
    record {
      time = h.stands.stands.facilities.calendar.time;
      older = All-permutation P [] (map process_of a.live) h.stands.stands.processes (All-nil P);
      owing = record { state = blank_state (plan_of body a); stands = h.stands; others = []; balances = h.balances };
    }

-- ---- one process more

-- a kernel keeps what it was opened with
pub kept_on : {B Code : Type 0} (first old new : PartsOf B Code) → KeepsButProcesses old new → KeepsButProcesses first old → KeepsButProcesses first new
kept_on {B} {Code} first old new h k =
    h ∙ ap (λ (parts : PartsOf B Code). let p : PartsOf B Code = record (with_happen new.shared.happen parts) { live = new.live; spare = new.spare; ready = new.ready } in p) k

-- the next process is started too
pub next_started : {B Code : Type 0} (body : BodyOf B Code) (first old new : PartsOf B Code) (i : ℕ) (x : Start) → i < length first.setup.starts →
    x ≡ slice_index_or first.setup.starts i x → KeepsButProcesses first old →
    BecomesWith body most_begun (λ s. start_process (plan_of body old) s x) old new →
    HasStarted body (take i first.setup.starts) first old → HasStarted body (take (i + 1) first.setup.starts) first new
next_started {B} {Code} body first old new i x below is kept starts h =
    let g : Plan B = plan_of body first in
    let xs : List Start = first.setup.starts in
    let s : State B = with_starts g (take i xs) in
    let P : PartsOf B Code → Type 0 = λ o. BecomesWith body most_begun (λ t. start_process (plan_of body o) t x) old new in
    let becomes : BecomesWith body most_begun (λ t. start_process g t x) old new = subst P kept starts in
    let next : start_process g s x ≡ with_starts g (take (i + 1) xs) = ap (start_process g s) is ∙ sym (fold_more (start_process g) (blank_state g) xs i x below) in
    let most : ℕ = 1 + most_begun * length (take i xs) in
    record {
      stands = subst (Stands new) next (becomes.each s h.stands);
      balances = subst (Balances body [] new) next (becomes.accounts [] s h.stands h.balances);
      few = few_weaker (most + most_begun) (1 + most_begun * length (take (i + 1) xs)) (held new.shared.happen)
          (omega (arith, length-take i xs, length-take (i + 1) xs, below)) (becomes.few.few most h.few);
    }

-- so few hold an event while they are made
pub starting_few : {B Code : Type 0} (body : BodyOf B Code) (first parts : PartsOf B Code) (f : CodeFacts) (i : ℕ) → FitsCode f first.setup →
    i < length first.setup.starts → HasStarted body (take i first.setup.starts) first parts → AreFew (2 ^ 40) (held parts.shared.happen)
starting_few body first parts f i fits below h =
    few_weaker (1 + most_begun * length (take i first.setup.starts)) (2 ^ 40) (held parts.shared.happen)
    (omega (arith, length-take i first.setup.starts, fits.few_starts, below)) h.few

-- ---- numbers

events_from : {B : Type 0} (g : Plan B) (s : State B) (xs : List Start) →
    length (fold (start_process g) s xs).facilities.calendar.events ≡ length s.facilities.calendar.events + 2 * length xs
events_from g s [] = omega arith
events_from g s (x ∷ xs) = omega (arith, events_from g (start_process g s x) xs, of_process_events s.facilities.calendar)

-- event 0, the named ones, and two for each process
pub events_of_starts : {B : Type 0} (g : Plan B) (xs : List Start) →
    length (with_starts g xs).facilities.calendar.events ≡ g.setup.events + 1 + 2 * length xs
events_of_starts g xs = omega (arith, events_from g (blank_state g) xs, length-replicate g.setup.events (pending_event kind.Plain))

-- while the processes are made that run from the start, there are so few events that two more may be made
pub starts_few : {B Code : Type 0} (body : BodyOf B Code) (first parts : PartsOf B Code) (f : CodeFacts) (i : ℕ) → FitsCode f first.setup →
    i < length first.setup.starts → StandsFor parts (with_starts (plan_of body first) (take i first.setup.starts)) →
    length parts.shared.happen.events + 2 ≤ 2 ^ 62
starts_few body first parts f i fits below st =
    omega (arith, st.facilities.calendar.made, events_of_starts (plan_of body first) (take i first.setup.starts), length-take i first.setup.starts, fits.few_events, fits.few_starts, below)

-- and once they are made, one more
pub all_few : {B Code : Type 0} (body : BodyOf B Code) (first parts : PartsOf B Code) (f : CodeFacts) → FitsCode f first.setup →
    StandsFor parts (with_starts (plan_of body first) first.setup.starts) → length parts.shared.happen.events < 2 ^ 62
all_few body first parts f fits st =
    omega (arith, st.facilities.calendar.made, events_of_starts (plan_of body first) first.setup.starts, fits.few_events, fits.few_starts)

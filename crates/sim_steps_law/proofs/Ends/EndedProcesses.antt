-- A process that ends is no longer alive, its event has its outcome, and what it held is given back.
use Rattle.std.proofs.Common.{◌≡◌, ◌≢◌, ℕ, ◌<◌, ◌^◌, Bool, true, false, pos, List, [], ◌∷◌, ◌++◌, length, get_or, refl, sym, ap, subst, ◌∙◌, suc, arith, map, filter, Option, Some, None, inl, inr}
use Rattle.std.specs.Prelude.{All, AllPairs, not, ◌==◌, ◌&&◌, ◌||◌, is_none, IsSomeAnd}
use Rattle.std.specs.Option.{option_map}
use Rattle.std.specs.List.{list_any}
use Rattle.std.specs.List.Sorted.{IsPermutation}
use Rattle.std.proofs.lemmas.Bool.{eqb-true, false≢true, cases_Bool, and_parts}
use Rattle.std.proofs.lemmas.List.Elements.{All-tail}
use Rattle.std.proofs.lemmas.List.Kept.{AllPairs-filter}
use Rattle.std.proofs.lemmas.List.Sorted.{IsPermutation-map, IsPermutation-trans, All-permutation}
use Rattle.sim_types.specs.declared.event.EventId.{EventId}
use Rattle.sim_types.specs.declared.event.EventKind.{EventKind}
use Rattle.sim_types.specs.declared.event.EventKind.TheVariants as kind
use Rattle.sim_types.specs.declared.event.ProcId.{ProcId}
use Rattle.sim_types.specs.declared.event.Scope.{Scope}
use Rattle.sim_types.specs.declared.event.Outcome.{Outcome}
use Rattle.sim_types.specs.declared.event.Signal.{Signal}
use Rattle.sim_types.specs.declared.op.Op.{Op}
use Rattle.sim_types.proofs.Permutations.{Differ, IsPermutation-without}
use Rattle.sim_machine.specs.State.{EventOf, Calendar, State}
use Rattle.sim_machine.specs.Events.{is_process, event_at}
use Rattle.sim_machine.specs.Triggering.{normal, trigger}
use Rattle.sim_machine.specs.Processes.{event_of, is_alive, process_at, not_active, rest, end_process}
use Rattle.sim_machine.specs.Tellings.{Place, CodeFacts}
use Rattle.sim_machine.specs.MayAsk.{may_ask}
use Rattle.sim_machine.specs.Bodies.{BodyOf}
use Rattle.sim_machine.specs.BodyLaw.{IsLawfulPoll, scopes_told}
use Rattle.sim_machine.specs.LawfulProcesses.{is_process_kind}
use Rattle.sim_machine.specs.LawfulWaiting.{requests_of, is_cancelled_well, may_wait_kind}
use Rattle.sim_machine_law.proofs.KeptParts.LawfulBasis.{basis_of}
use Rattle.sim_machine_law.proofs.KeptParts.KeptBodies.{find_has, find_passes}
use Rattle.sim_machine_law.proofs.KeptParts.KeptTimes.{found_pending}
use Rattle.sim_machine_law.proofs.KeptParts.KeptWaitingPolls.{own_scopes, none_passes, alive_without}
use Rattle.sim_machine_law.proofs.KeptParts.KeptProcessesParts.{is_process-self, is_process-yes}
use Rattle.sim_procs.specs.RecordOf.{RecordOf, record_of}
use Rattle.sim_happen_model.specs.TableOf.{AreNeeded}
use Rattle.sim_happen_model.specs.HappenOf.{HappenOf, IsOpen, as_before}
use Rattle.sim_happen_model.specs.Shows.{Follows}
use Rattle.sim_happen_law.proofs.Changes.Following.{read_is}
use Rattle.sim_happen_model.specs.Naming.{but_zero, named_by_process, named_in_places}
use Rattle.sim_accounts.proofs.CalendarChanges.{plainly_scheduled}
use Rattle.sim_accounts.proofs.ChangedPlaces.{but_zero-append}
use Rattle.sim_accounts.proofs.KeepingHolders.{keeps_all}
use Rattle.sim_accounts.proofs.Quiet.{over_trade}
use Rattle.sim_steps_model.specs.PartsOf.{PartsOf, IsRunning, plan_of, with_happen}
use Rattle.sim_steps_model.specs.StandsFor.{StandsForSome, process_of, scopes_of}
use Rattle.sim_steps_model.specs.Becoming.{Becomes, BecomesOwing, IsOwing, Stands}
use Rattle.sim_steps_model.specs.Holding.{StandInPlaces}
use Rattle.sim_steps_model.specs.Polling.{Asks}
use Rattle.sim_steps_law.proofs.Kernels.Keeping.{adds_none, few_same}
use Rattle.sim_steps_law.proofs.Kernels.Accounting.{owing_after, owing_besides, owing_by, stay_plainly}
use Rattle.sim_steps_law.proofs.Kernels.Becoming.{becomes_rested, becomes_then, entered_still, no_fewer, shown_with}
use Rattle.sim_steps_law.proofs.Holders.CountedHolders.{is_owing_first}
use Rattle.sim_steps_law.proofs.Resources.AskedResources.{open_still}
use Rattle.sim_steps_law.proofs.Ends.Ending.{found_id, record_polled, same_id, scopes_found}
use Rattle.sim_steps_law.proofs.Kernels.KeptNames.{alive_kept}
use Rattle.sim_steps_law.proofs.Polls.Polls.{only_process}
use Rattle.sim_steps_law.proofs.Kernels.Running.{KeepsLaw, process_found, running_can_be_told, running_is}

-- ---- what becomes of the process

differ : {B : Type 0} (s : State B) → AllPairs (λ x y. x.id ≢ y.id) s.processes → AllPairs (Differ (λ y. y.id.0)) s.processes
differ s h = λ i j d before below. λ same. h i j d before below (same_id _ _ same)

-- where p has no open scope, those that are open are of processes that stay alive when p ends
still_owned : {B : Type 0} (s : State B) (p : ProcId) → All (λ x. is_alive x.process s ≡ true) s.scopes → scopes_of p s ≡ [] →
    All (λ x. list_any (λ z. is_process z.id x.process) (filter (λ z. not (is_process z.id p)) s.processes) ≡ true) s.scopes
still_owned s p owned none =
    let others : All (λ x. is_process x.process p ≡ false) s.scopes =
    none_passes (λ x. is_process x.process p) (λ x. let y : Scope = record { request = x.request; res = x.res } in y) s.scopes none in
    λ k d below. alive_without p (get_or s.scopes k d).process s (others k d below) (owned k d below)

module _ {B Code : Type 0} (body : BodyOf B Code) (a : PartsOf B Code) (p : ProcId)
    (o : Outcome) (r : RecordOf B) (found : record_of p a.live ≡ Some r) where
  -- what it holds is to be given back
  abbrev pub its_events : List EventId
  its_events = but_zero (named_by_process (body.tell a.code) (process_of r))

  module _ (n : PartsOf B Code) (x : HappenOf) (live : List (RecordOf B))
      (spare : ℕ) (none : r.scopes ≡ []) (others : IsPermutation a.live (r ∷ live))
      (follows : Follows (trigger (event_of p) o) a.shared.happen x) (is : n ≡ record (with_happen x a) { live = live; spare = spare }) where
    abbrev without_it : PartsOf B Code
    without_it = record (with_happen x a) { live = live; spare = spare }

    ended_stands : (s : State B) → Stands a s → Stands without_it (end_process p o s)
    ended_stands s h =
        let id : r.id.0 ≡ p.0 = found_id p a.live r found in
        let all : IsPermutation s.processes (process_of r ∷ map process_of live) =
        IsPermutation-trans _ _ _ h.stands.processes (IsPermutation-map process_of a.live (r ∷ live) others) in
        let P : ℕ → Type 0 = λ m. IsPermutation (filter (λ y. not (y.id.0 == m)) s.processes) (map process_of live) in
        let fewer : P p.0 =
        subst P id (IsPermutation-without (λ y. y.id.0) (process_of r) s.processes (map process_of live) (differ s h.distinct) all) in
        let more = no_fewer 0 as_before a.shared.happen x adds_none follows.held in
        let shown = follows.each s.facilities.calendar h.stands.facilities.calendar in
        record {
          stands = record {
            facilities = shown_with a.shared x s.facilities (trigger (event_of p) o s.facilities.calendar) more shown h.stands.facilities;
            processed = h.stands.processed;
            generator = h.stands.generator;
            processes = fewer;
            scopes = All-tail (λ y. y.scopes ≡ scopes_of y.id s) r live
                (All-permutation (λ y. y.scopes ≡ scopes_of y.id s) a.live (r ∷ live) others h.stands.scopes);
            control = h.stands.control;
          };
          distinct = AllPairs-filter (λ y z. y.id ≢ z.id) (λ y. not (is_process y.id p)) s.processes h.distinct;
          owned = still_owned s p h.owned (scopes_found p a.live r s found h.stands.scopes ∙ none);
          apart = h.apart;
          entered = entered_still s.facilities.calendar (trigger (event_of p) o s.facilities.calendar) s.scopes
              (omega (arith, more, h.stands.facilities.calendar.made, shown.made)) h.entered;
        }

    pub ended_owing : BecomesOwing body [] its_events 0 (end_process p o) a n
    ended_owing =
        subst (BecomesOwing body [] its_events 0 (end_process p o) a) (sym is)
        (owing_by [] its_events 0 (end_process p o) a without_it ended_stands (record { code = refl; setup = refl; seed = refl })
        (few_same a without_it follows.held)
        (λ s h. stay_plainly as_before a without_it s (end_process p o s) keeps_all follows.held
        (plainly_scheduled (event_of p) o normal (pos 0) s.facilities.calendar))
        (λ s h. over_trade a.setup.events (body.tell a.code) s p (process_of r) o (only_process a p r s found h)))

  -- it is given back: first what it waited for, then what stands in its places
  module _ (n : PartsOf B Code) (es : List EventId) (ended : BecomesOwing body [] its_events 0 (end_process p o) a n)
      (stand : StandInPlaces (body.tell a.code) es r.body)
      (owing : IsOwing body [] a) where
    abbrev target : List EventId
    target = but_zero (r.target ∷ [])

    parted : its_events ≡ target ++ but_zero es
    parted = but_zero-append (r.target ∷ []) (named_in_places (body.tell a.code) r.body) ∙ ap (λ xs. target ++ xs) stand.named

    ended_both : BecomesOwing body [] (target ++ but_zero es) 0 (end_process p o) a n
    ended_both = subst (λ xs. BecomesOwing body [] xs 0 (end_process p o) a n) parted ended

    owes_both : IsOwing body (target ++ but_zero es) n
    owes_both = owing_after (end_process p o) a n ended_both owing

    pub owes_target : IsOwing body (but_zero (r.target ∷ [])) n
    owes_target = is_owing_first target (but_zero es) n owes_both

    module _ (m : PartsOf B Code) (first : BecomesOwing body (but_zero (r.target ∷ [])) [] 0 (λ s. s) n m) where
      rest_owed : BecomesOwing body (target ++ but_zero es) (but_zero es) 0 (λ s. s) n m
      rest_owed = owing_besides (but_zero es) (λ s. s) n m first

      pub owes_places : IsOwing body (but_zero es) m
      owes_places = owing_after (λ s. s) n m rest_owed owes_both

      pub ended_becomes : (b : PartsOf B Code) → BecomesOwing body (but_zero es) [] 0 (λ s. s) m b → Becomes body (end_process p o) a b
      ended_becomes b then_places =
          becomes_then (end_process p o) (λ s. s) a m b (becomes_then (end_process p o) (λ s. s) a n m ended_both rest_owed) then_places

-- and the process that ran comes to rest
pub ended_rests : {B Code : Type 0} {body : BodyOf B Code} (p : ProcId) (o : Outcome) (a m n : PartsOf B Code) → Becomes body (end_process p o) a m →
    n ≡ record m { control = not_active m.control } → Becomes body (λ s. rest (end_process p o s)) a n
ended_rests {B} {Code} {body} p o a m n ends is =
    subst (Becomes body (λ s. rest (end_process p o s)) a) (sym is) (becomes_then (end_process p o) rest a m _ ends (becomes_rested m))

-- ---- what the ending of a process needs

map_empty : {X Y Z : Type 0} (f : X → Y) (g : X → Z) (xs : List X) → map g xs ≡ [] → map f xs ≡ []
map_empty f g [] h = refl
map_empty f g (x ∷ xs) h = cc

length_zero : {X : Type 0} (xs : List X) → (length xs == 0) ≡ true → xs ≡ []
length_zero [] h = refl
length_zero (x ∷ xs) h = absurd (omega (arith, eqb-true (suc (length xs)) 0 h))

-- an event that is a process's is never cancelled
uncancelled : (x : EventOf) → is_cancelled_well x ≡ true → is_process_kind x.kind ≡ true → x.cancelled ≡ false
uncancelled x well process =
    elim (cases_Bool x.cancelled) [
      | inl is ↦ absurd (false≢true (sym (never_waits x.kind process) ∙ waits x.cancelled (may_wait_kind x.kind) (is_none x.outcome) is well))
      | inr not_so ↦ not_so
    ]
  where
    waits : (b k o : Bool) → b ≡ true → (not b || k && o) ≡ true → k ≡ true
    waits true k o is h = (and_parts k o h).0
    waits false k o is h = absurd (false≢true is)

    never_waits : (k : EventKind) → is_process_kind k ≡ true → may_wait_kind k ≡ false
    never_waits kind.Process h = refl
    never_waits _ h = absurd (false≢true h)

-- an operation that comes only with no open scope
abbrev pub AsksWithNoScope : CodeFacts → Op → Type 0
AsksWithNoScope facts asked =
    (own : ProcId) (places : List Place) (scopes : List EventId) → may_ask facts own places scopes asked ≡ true → (length scopes == 0) ≡ true

module _ {B Code : Type 0} (body : BodyOf B Code) (old mid : PartsOf B Code) (p : ProcId) (told : Signal) (asked : Op) where
  -- where its operation comes only with no open scope, it has none
  pub ended_scopes : (event : EventId) → AsksWithNoScope (body.facts old.code) asked → KeepsLaw body old.code → StandsForSome body old →
      length old.shared.happen.events < 2 ^ 62 → IsRunning event p told old.control → Asks body p told old asked mid →
      IsSomeAnd (record_of p mid.live) (λ r. r.scopes ≡ [])
  ended_scopes event ends law h few running a =
      let s = h.state in
      let tell = body.tell old.code in
      let r = record_polled body old mid p told asked a in
      let is = running_is old.control event p told running in
      let found : process_at p s ≡ Some (process_of r.0) =
      process_found old s p h.lawful.processes.distinct h.stands ∙ ap (λ o. option_map process_of o) r.1 in
      let can = running_can_be_told body old event p told a.before h running a.found few in
      let poll : IsLawfulPoll (body.facts old.code) tell a.before told asked a.later =
      law.polls a.before old.shared.happen.time told asked a.later can.sound can.told a.turned in
      let none : scopes_told (tell.scopes a.before) (tell.last a.before) told ≡ [] =
      length_zero _ (ends (tell.own a.later) (tell.places a.later) _ poll.asks) in
      let waiting = (basis_of (plan_of body old) tell (body.sound old.code) s h.lawful).waiting in
      let own = (own_scopes (plan_of body old) tell s event is.0 p told (process_of r.0)
      (sym h.stands.control ∙ is.1) found waiting p (is_process-self p)).0 in
      let requests : requests_of p s ≡ [] = own ∙ rw r.2 none in
      let told_scopes : r.0.scopes ≡ scopes_of r.0.id s =
      find_has (λ x. x.scopes ≡ scopes_of x.id s) (λ x. x.id.0 == p.0) old.live r.0 r.1 h.stands.scopes in
      let same : r.0.id ≡ p = is_process-yes r.0.id p (find_passes (λ x. x.id.0 == p.0) old.live r.0 r.1) in
      let scopes : scopes_of p s ≡ [] = map_empty _ (λ x. x.request) (filter (λ x. is_process x.process p) s.scopes) requests in
      rw r.3 (told_scopes ∙ (ap (λ q. scopes_of q s) same ∙ scopes))

  -- its event is kept, pending and not cancelled
  pub polled_open : StandsForSome body old → AreNeeded old.shared.happen.events → Asks body p told old asked mid →
      IsOpen mid.shared.happen (event_of p)
  polled_open h needed a =
      let s = h.state in
      let c : Calendar = s.facilities.calendar in
      let e : EventId = event_of p in
      let tell = body.tell old.code in
      let r = record_polled body old mid p told asked a in
      let found : process_at p s ≡ Some (process_of r.0) =
      process_found old s p h.lawful.processes.distinct h.stands ∙ ap (λ o. option_map process_of o) r.1 in
      let own = found_pending (plan_of body old) tell (body.sound old.code) s p (process_of r.0) found
      (basis_of (plan_of body old) tell (body.sound old.code) s h.lawful) in
      let kept = alive_kept body old h needed p r.0 r.1 in
      let same = read_is old.shared.happen c e kept h.stands.facilities.calendar in
      let well : is_cancelled_well (event_at c e) ≡ true = h.lawful.waiting.cancelled e.0 _ own.0 in
      open_still old.shared.happen mid.shared.happen e a.takes (record {
        kept = kept;
        pending = ap (λ (x : EventOf). x.outcome) same ∙ none_of (event_at c e).outcome own.1;
        not_cancelled = ap (λ (x : EventOf). x.cancelled) same ∙ uncancelled (event_at c e) well own.3;
      })
    where
      none_of : (o : Option Outcome) → is_none o ≡ true → o ≡ None
      none_of None h = refl
      none_of (Some x) h = absurd (false≢true h)

-- Who holds what after each change of the machine's state.
use Rattle.std.proofs.Common.{◌≡◌, ◌≢◌, ℕ, ◌+◌, Bool, true, false, not, List, [], ◌∷◌, ◌++◌, filter, refl, sym, ap, ◌∙◌, arith, Some, cond}
use Rattle.std.specs.Prelude.{count_by, find, AllPairs}
use Rattle.std.specs.List.{list_any}
use Rattle.std.proofs.lemmas.Bool.{false≢true}
use Rattle.std.proofs.lemmas.List.Sums.{sum_by-cons, sum_by-append}
use Rattle.sim_types.specs.declared.event.EventId.{EventId}
use Rattle.sim_types.specs.declared.event.ProcId.{ProcId}
use Rattle.sim_types.specs.declared.event.Callback.{Callback}
use Rattle.sim_types.specs.declared.event.Callback.TheVariants as callback
use Rattle.sim_types.specs.declared.event.Entry.{Entry}
use Rattle.sim_machine.specs.State.{ProcessOf, OpenScope, Registration, Calendar, Facilities, Control, Idle, Calling, Active, Over, State}
use Rattle.sim_machine.specs.Events.{is_same, is_process, callbacks_of, register}
use Rattle.sim_machine.specs.Scopes.{on_events, open_scope}
use Rattle.sim_machine.specs.Processes.{change_process, with_body}
use Rattle.sim_machine.specs.Steps.{pop_entry}
use Rattle.sim_machine.specs.LawfulWaiting.{AreOfTwo}
use Rattle.sim_machine.specs.Standing.{one_if, left_of, callbacks_in_all}
use Rattle.sim_machine.specs.KeptEvents.{is_in_process, triggers}
use Rattle.sim_machine.specs.Tellings.{Telling}
use Rattle.sim_machine_law.proofs.Events.EventLaws.{is_same-yes, same_event}
use Rattle.sim_machine_law.proofs.Events.CallbackLaws.{count_by-cons, count_by-append, count_by-one, callbacks_in_all-popped}
use Rattle.sim_machine_law.proofs.KeptParts.KeptProcessesParts.{same_process}
use Rattle.sim_happen_model.specs.Naming.{but_zero, held_by_process, named_by_process, named_in_places, times_named, triggered_by}
use Rattle.sim_happen_model.specs.HolderChanges.{StatesTrade, IsOnlyProcess, HasOnlyScope}
use Rattle.sim_accounts.proofs.Counts.{is_same-swap}
use Rattle.sim_accounts.proofs.Trading.{calls_trade, names_trade, states_trade, sum_without, sum_changed}

-- a callback passes its outcome on to the event that it triggers
pub triggers_counted : (e : EventId) (x : Callback) → one_if (triggers e x) ≡ count_by (is_same e) (triggered_by x)
triggers_counted e (callback.Trigger y) = ap one_if (is_same-swap y e) ∙ sym (count_by-one (is_same e) y)
triggers_counted e (callback.Resume p) = refl
triggers_counted e (callback.Strike p) = refl
triggers_counted e (callback.Check f) = refl
triggers_counted e (callback.Build f) = refl
triggers_counted e (callback.TryPut res) = refl
triggers_counted e (callback.TryGet res) = refl
triggers_counted e callback.Stop = refl

module _ {B : Type 0} (named : ℕ) (tell : Telling B) where
  -- ---- processes

  apart_numbers : (s : State B) → AllPairs (λ y z. y.id ≢ z.id) s.processes → AllPairs (λ (y : ProcessOf B) z. y.id.0 ≢ z.id.0) s.processes
  apart_numbers s h = λ i j d before below same. h i j d before below (same_process _ _ same)

  changed : (p : ProcId) (change : ProcessOf B → ProcessOf B) (s : State B) (x : ProcessOf B) (e : EventId) → IsOnlyProcess p x s
      → times_named named tell (change_process p change s) e + held_by_process tell e x ≡ times_named named tell s e + held_by_process tell e (change x)
  changed p change s x e only =
      omega (arith, sum_changed (λ (y : ProcessOf B). y.id.0) p.0 (held_by_process tell e) change s.processes x (apart_numbers s only.distinct) only.found)

  pub waits_trade : (s : State B) (p : ProcId) (x : ProcessOf B) (e : EventId) → IsOnlyProcess p x s
      → StatesTrade named tell (but_zero (e ∷ [])) (but_zero (x.target ∷ [])) s (change_process p (λ y. record y { target = e }) s)
  waits_trade s p x e only =
      let t : State B = change_process p (λ y. record y { target = e }) s in
      names_trade named tell (e ∷ []) (x.target ∷ []) s t
      (λ f. omega (arith, changed p (λ y. record y { target = e }) s x f only, count_by-cons (is_same f) x.target (named_in_places tell x.body), count_by-cons (is_same f) e (named_in_places tell x.body), count_by-one (is_same f) e, count_by-one (is_same f) x.target))
      (λ f. refl)

  pub body_trade : (s : State B) (p : ProcId) (x : ProcessOf B) (b : B) → IsOnlyProcess p x s
      → StatesTrade named tell (but_zero (named_in_places tell b)) (but_zero (named_in_places tell x.body)) s (with_body p b s)
  body_trade s p x b only =
      let t : State B = with_body p b s in
      names_trade named tell (named_in_places tell b) (named_in_places tell x.body) s t
      (λ f. omega (arith, changed p (λ y. record y { body = b }) s x f only, count_by-cons (is_same f) x.target (named_in_places tell x.body), count_by-cons (is_same f) x.target (named_in_places tell b)))
      (λ f. refl)

  -- the calendar may change besides, where the callbacks that pass outcomes on stay
  abbrev SameTriggers : Calendar → Calendar → Type 0
  SameTriggers c d = (e : EventId) → count_by (λ r. triggers e r.callback) d.registered ≡ count_by (λ r. triggers e r.callback) c.registered

  pub joined_trade : (s : State B) (x : ProcessOf B) (f : Facilities) → SameTriggers s.facilities.calendar f.calendar
      → StatesTrade named tell (but_zero (named_by_process tell x)) [] s (record s { facilities = f; processes = s.processes ++ x ∷ [] })
  joined_trade s x f same =
      let t : State B = record s { facilities = f; processes = s.processes ++ x ∷ [] } in
      names_trade named tell (named_by_process tell x) [] s t
      (λ e. omega (arith, sum_by-append (held_by_process tell e) s.processes (x ∷ []), sum_by-cons (held_by_process tell e) x []))
      (λ e. omega (arith, same e))

  pub ended_trade : (s : State B) (p : ProcId) (x : ProcessOf B) (f : Facilities) → IsOnlyProcess p x s → SameTriggers s.facilities.calendar f.calendar
      → StatesTrade named tell [] (but_zero (named_by_process tell x)) s (record s { facilities = f; processes = filter (λ y. not (is_process y.id p)) s.processes })
  ended_trade s p x f only same =
      let t : State B = record s { facilities = f; processes = filter (λ y. not (is_process y.id p)) s.processes } in
      names_trade named tell [] (named_by_process tell x) s t
      (λ e. omega (arith, sum_without (λ (y : ProcessOf B). y.id.0) p.0 (held_by_process tell e) s.processes x (apart_numbers s only.distinct) only.found))
      (λ e. omega (arith, same e))

  -- ---- scopes

  apart_requests : (xs : List OpenScope) → AllPairs AreOfTwo xs → AllPairs (λ x y. x.request.0 ≢ y.request.0) xs
  apart_requests xs h = λ i j d before below same. h i j d before below (same_event _ _ same)

  record FoundScope (request : EventId) (xs : List OpenScope) : Type 0 where
    scope : OpenScope
    found : find (λ x. is_same x.request request) xs ≡ Some scope
    same : scope.request ≡ request

  found_scope : (request : EventId) (xs : List OpenScope) → list_any (λ x. is_same x.request request) xs ≡ true → FoundScope request xs
  found_scope request [] h = absurd (false≢true h)
  found_scope request (x ∷ xs) h = at (is_same x.request request) refl (found_scope request xs)
    where
      at : (b : Bool) → is_same x.request request ≡ b → (list_any (λ y. is_same y.request request) xs ≡ true → FoundScope request xs)
          → FoundScope request (x ∷ xs)
      at true is later = record { scope = x; found = rw is refl; same = is_same-yes x.request request is }
      at false is later = let r = later (rw is at h) in record { scope = r.scope; found = rw is r.found; same = r.same }

  pub opened_trade : (s : State B) (p : ProcId) (request : EventId) (res : ℕ)
      → StatesTrade named tell (but_zero (request ∷ [])) [] s (open_scope p request res s)
  opened_trade s p request res =
      let x : OpenScope = record { process = p; request = request; res = res } in
      let t : State B = open_scope p request res s in
      names_trade named tell (request ∷ []) [] s t
      (λ e. omega (arith, count_by-append (λ y. is_same e y.request) s.scopes (x ∷ []), count_by-one (λ (y : OpenScope). is_same e y.request) x, count_by-one (is_same e) request))
      (λ e. refl)

  pub closed_trade : (s : State B) (request : EventId) (f : Facilities) → HasOnlyScope request s → SameTriggers s.facilities.calendar f.calendar
      → StatesTrade named tell [] (but_zero (request ∷ [])) s (record s { facilities = f; scopes = filter (λ y. not (is_same y.request request)) s.scopes })
  closed_trade s request f only same =
      let r = found_scope request s.scopes only.is_open in
      let t : State B = record s { facilities = f; scopes = filter (λ y. not (is_same y.request request)) s.scopes } in
      names_trade named tell [] (request ∷ []) s t
      (λ e. let test : OpenScope → Bool = λ y. is_same e y.request in
      omega (
        arith,
        sum_without (λ (y : OpenScope). y.request.0) request.0 (λ y. cond (test y) 1 0) s.scopes r.scope (apart_requests s.scopes only.apart) r.found,
        count_by-one test r.scope,
        count_by-one (is_same e) request,
        ap (λ n. one_if (is_same e n)) r.same,
      ))
      (λ e. omega (arith, same e))

  -- ---- facilities

  pub quiet_trade : (s : State B) (f : Facilities) → SameTriggers s.facilities.calendar f.calendar
      → StatesTrade named tell [] [] s (record s { facilities = f })
  quiet_trade s f same = let t : State B = record s { facilities = f } in
      calls_trade named tell [] [] s t (λ e. refl) (λ e. omega (arith, same e))

  pub registered_trade : (s : State B) (e : EventId) (x : Callback) → StatesTrade named tell (triggered_by x) [] s (on_events (register e x) s)
  registered_trade s e x =
      let r : Registration = record { event = e; callback = x } in
      let t : State B = on_events (register e x) s in
      calls_trade named tell (triggered_by x) [] s t (λ f. refl)
      (λ f. let test : Registration → Bool = λ q. triggers f q.callback in
      omega (arith, count_by-append test s.facilities.calendar.registered (r ∷ []), count_by-one test r, triggers_counted f x))

  -- ---- what is being done

  -- the event that is being processed
  abbrev pub event_in_process : Control → List EventId
  event_in_process Idle = []
  event_in_process (Calling e left) = e ∷ []
  event_in_process (Active e left p x) = e ∷ []
  event_in_process (Over why e left) = []

  in_process_counted : (k : Control) (e : EventId) → one_if (is_in_process k e) ≡ count_by (is_same e) (event_in_process k)
  in_process_counted Idle e = refl
  in_process_counted (Calling f left) e = ap one_if (is_same-swap f e) ∙ sym (count_by-one (is_same e) f)
  in_process_counted (Active f left p x) e = ap one_if (is_same-swap f e) ∙ sym (count_by-one (is_same e) f)
  in_process_counted (Over why f left) e = refl

  pub popped_trade : (s : State B) (x : Entry) → s.control ≡ Idle → StatesTrade named tell (but_zero (x.event ∷ [])) [] s (pop_entry x s)
  popped_trade s x idle =
      let c : Calendar = s.facilities.calendar in
      let t : State B = pop_entry x s in
      names_trade named tell (x.event ∷ []) [] s t
      (λ e.
      omega (
        arith,
        in_process_counted s.control e,
        ap (λ k. count_by (is_same e) (event_in_process k)) idle,
        in_process_counted (Calling x.event (callbacks_of x.event c)) e,
      ))
      (λ e. callbacks_in_all-popped (triggers e) x c ∙ ap (λ k. callbacks_in_all (triggers e) c k) (sym idle))

  -- another event is being processed, and other callbacks are left
  module _ (s : State B) (k : Control) where
    -- it names these more and those fewer
    abbrev Processes : List EventId → List EventId → Type 0
    Processes gained lost = (e : EventId) → one_if (is_in_process k e) + count_by (is_same e) lost ≡ one_if (is_in_process s.control e) + count_by (is_same e) gained

    -- and so do the callbacks change that pass outcomes on
    abbrev Leaves : List EventId → Type 0
    Leaves less = (e : EventId) → count_by (triggers e) (left_of k) + count_by (is_same e) less ≡ count_by (triggers e) (left_of s.control)

    pub controlled_trade : (gained lost less : List EventId) → Processes gained lost → Leaves less
        → StatesTrade named tell (but_zero gained ++ []) (but_zero lost ++ less) s (record s { control = k })
    controlled_trade gained lost less processes leaves =
        let t : State B = record s { control = k } in
        states_trade named tell gained lost [] less s t (λ e. omega (arith, processes e)) (λ e. omega (arith, leaves e))

    pub processed_trade : (gained lost : List EventId) → Processes gained lost → Leaves []
        → StatesTrade named tell (but_zero gained) (but_zero lost) s (record s { control = k })
    processed_trade gained lost processes leaves =
        let t : State B = record s { control = k } in
        names_trade named tell gained lost s t (λ e. omega (arith, processes e)) (λ e. omega (arith, leaves e))

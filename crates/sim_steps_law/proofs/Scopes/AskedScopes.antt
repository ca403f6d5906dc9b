-- What is known of the open scopes of the process that asked to enter one, to leave its innermost or to release a request.
use Rattle.std.proofs.Common.{◌≡◌, ℕ, ◌<◌, ◌^◌, ℤ, Bool, true, false, ◌||◌, List, [], ◌∷◌, length, refl, sym, ap, subst, ◌∙◌, arith, map, filter, Some, cond}
use Rattle.std.specs.Prelude.{◌==◌, nat_lt, IsSome, IsSomeAnd}
use Rattle.std.specs.Option.{option_map}
use Rattle.std.specs.List.{list_any}
use Rattle.std.proofs.lemmas.Bool.{and_parts, eqb-true, eq-eqb, false≢true}
use Rattle.std.proofs.lemmas.List.{length-map}
use Rattle.sim_types.specs.declared.event.EventId.{EventId}
use Rattle.sim_types.specs.declared.event.ProcId.{ProcId}
use Rattle.sim_types.specs.declared.event.Scope.{Scope}
use Rattle.sim_types.specs.declared.event.Signal.{Signal}
use Rattle.sim_types.specs.declared.op.Op.{Op}
use Rattle.sim_types.specs.declared.op.Op.TheVariants as op
use Rattle.sim_machine.specs.State.{OpenScope}
use Rattle.sim_machine.specs.Events.{is_process, is_same}
use Rattle.sim_machine.specs.Processes.{process_at}
use Rattle.sim_machine.specs.Bodies.{BodyOf}
use Rattle.sim_machine.specs.BodyLaw.{scopes_told}
use Rattle.sim_machine.specs.MayAsk.{takes_requests, has_resource, most_scopes}
use Rattle.sim_machine.specs.Setups.{FitsCode}
use Rattle.sim_machine.specs.Tellings.{CodeFacts}
use Rattle.sim_machine.specs.LawfulWaiting.{requests_of}
use Rattle.sim_machine_law.proofs.KeptParts.KeptProcessesParts.{is_process-self}
use Rattle.sim_machine_law.proofs.KeptParts.KeptWaitingPolls.{own_scopes}
use Rattle.sim_machine_law.proofs.KeptParts.LawfulBasis.{basis_of}
use Rattle.sim_procs.specs.Premises.{EntersWithin}
use Rattle.sim_procs.specs.RecordOf.{RecordOf, record_of, scope_of}
use Rattle.sim_steps_model.specs.PartsOf.{PartsOf, IsRunning, plan_of}
use Rattle.sim_steps_model.specs.StandsFor.{StandsForSome, process_of, scopes_of}
use Rattle.sim_steps_model.specs.Polling.{Asks}
use Rattle.sim_steps_law.proofs.Kernels.Running.{KeepsLaw, process_found, running_can_be_told, running_is}
use Rattle.sim_steps_law.proofs.Ends.Ending.{record_polled, scopes_found}
use Rattle.sim_steps_law.proofs.Resources.AskedResources.{AsksAt}
use Rattle.sim_steps_law.proofs.Scopes.EnteredScopes.{scope_in}

-- the scope of a request that is among these is found
scope_some : (request : EventId) (ys : List OpenScope) → list_any (is_same request) (map (λ (y : OpenScope). y.request) ys) ≡ true →
    IsSome (scope_of request (map scope_in ys))
scope_some request [] h = absurd (false≢true h)
scope_some request (y ∷ ys) h = at (y.request.0 == request.0) refl (scope_some request ys)
  where
    later : (w : Bool) → (y.request.0 == request.0) ≡ false → (request.0 == y.request.0) ≡ w →
        (w || list_any (is_same request) (map (λ (v : OpenScope). v.request) ys)) ≡ true →
        list_any (is_same request) (map (λ (v : OpenScope). v.request) ys) ≡ true
    later true is same k = absurd (false≢true (sym is ∙ eq-eqb y.request.0 request.0 (sym (eqb-true request.0 y.request.0 same))))
    later false is same k = k

    at : (v : Bool) → (y.request.0 == request.0) ≡ v →
        (list_any (is_same request) (map (λ (w : OpenScope). w.request) ys) ≡ true → IsSome (scope_of request (map scope_in ys))) →
        IsSome (cond v (Some (scope_in y)) (scope_of request (map scope_in ys)))
    at true is others = refl
    at false is others = others (later (request.0 == y.request.0) is refl h)

-- who asks to enter does so at a resource that takes requests
pub entered_at : (facts : CodeFacts) (res : ℕ) (priority : ℤ) (preempts : Bool) → AsksAt facts takes_requests res (op.Enter res priority preempts)
entered_at facts res priority preempts own places scopes h =
    (and_parts (nat_lt (length scopes) most_scopes) (has_resource facts.resources takes_requests res) h).1

module _ {B Code : Type 0} (body : BodyOf B Code) (old mid : PartsOf B Code)
    (p : ProcId) (told : Signal) (asked : Op) (a : Asks body p told old asked mid)
    (h : StandsForSome body old) (event : EventId) (law : KeepsLaw body old.code) (fits : FitsCode (body.facts old.code) old.setup)
    (few : length old.shared.happen.events < 2 ^ 62) (running : IsRunning event p told old.control) where
  -- the requests of the scopes that its body knows of
  abbrev pub entered : List EventId
  entered = scopes_told ((body.tell old.code).scopes a.before) ((body.tell old.code).last a.before) told

  -- the record of the process that was polled
  abbrev pub r : RecordOf B
  r = (record_polled body old mid p told asked a).0

  pub found : record_of p old.live ≡ Some r
  found = (record_polled body old mid p told asked a).1

  pub found_now : record_of p mid.live ≡ Some (record r { body = a.later })
  found_now = (record_polled body old mid p told asked a).3

  -- its scopes are those that its body knows of
  pub own : requests_of p h.state ≡ entered
  own =
      let s = h.state in
      let tell = body.tell old.code in
      let is = running_is old.control event p told running in
      let here : process_at p s ≡ Some (process_of r) =
      process_found old s p h.lawful.processes.distinct h.stands ∙ ap (λ o. option_map process_of o) found in
      let waiting = (basis_of (plan_of body old) tell (body.sound old.code) s h.lawful).waiting in
      (own_scopes (plan_of body old) tell s event is.0 p told (process_of r) (sym h.stands.control ∙ is.1) here waiting p (is_process-self p)).0
      ∙ ap (λ (b : B). scopes_told (tell.scopes b) (tell.last b) told) (record_polled body old mid p told asked a).2

  pub told_scopes : scopes_of p h.state ≡ r.scopes
  told_scopes = scopes_found p old.live r h.state found h.stands.scopes

  pub count : length r.scopes ≡ length entered
  count =
      let ys : List OpenScope = filter (λ y. is_process y.process p) h.state.scopes in
      sym (ap (λ (xs : List Scope). length xs) told_scopes)
      ∙ (length-map ys scope_in ∙ (sym (length-map ys (λ (y : OpenScope). y.request)) ∙ ap (λ (xs : List EventId). length xs) own))

  -- who asks to enter has room for one scope more, where as many find room as its body opens
  pub polled_scopes : (most res : ℕ) (priority : ℤ) (preempts : Bool) → EntersWithin body old.code most → asked ≡ op.Enter res priority preempts →
      IsSomeAnd (record_of p mid.live) (λ q. q.room ≡ most) → IsSomeAnd (record_of p mid.live) (λ q. length q.scopes < q.room)
  polled_scopes most res priority preempts within is room =
      let can = running_can_be_told body old event p told a.before h running a.found few in
      let turned = subst (λ (o : Op). body.turn old.code a.before old.shared.happen.time told o a.later) is a.turned in
      let fewer : length entered < most = within.fewer a.before old.shared.happen.time told res priority preempts a.later can turned in
      let has : r.room ≡ most = rw found_now at room in
      rw found_now (omega (arith, count, fewer, has))

  -- and who asks to release a request has it in a scope
  pub has_scope : (request : EventId) → list_any (is_same request) entered ≡ true → IsSome (scope_of request r.scopes)
  has_scope request may =
      subst (λ (xs : List Scope). IsSome (scope_of request xs)) told_scopes
      (scope_some request (filter (λ y. is_process y.process p) h.state.scopes)
      (subst (λ (es : List EventId). list_any (is_same request) es ≡ true) (sym own) may))

-- A condition is made, and its members join it: conditions stay lawful, and the calendar may take the place of the
-- state's.
use Rattle.std.proofs.Common.{◌≡◌, ◌≢◌, ℕ, ◌+◌, ◌<◌, ◌≤◌, Bool, true, false, ◌&&◌, ◌||◌, not, List, [], ◌∷◌, ◌++◌, length, Some, refl, sym, ap, subst, ◌∙◌, arith, inl, inr, map}
use Rattle.std.specs.Prelude.{fold, is_none, is_some, count_by, nat_lt, pos}
use Rattle.std.specs.List.{list_any, list_all}
use Rattle.std.proofs.lemmas.Bool.{and_parts, cases_eq, or_right, ne_eqb}
use Rattle.std.proofs.lemmas.Bool.Decides.{nat_tests}
use Rattle.sim_types.specs.declared.event.EventId.{EventId}
use Rattle.sim_types.specs.declared.event.EventKind.{EventKind}
use Rattle.sim_types.specs.declared.event.Callback.{Callback}
use Rattle.sim_types.specs.declared.event.EventKind.TheVariants as kind
use Rattle.sim_types.specs.declared.event.Outcome.TheVariants as outcome
use Rattle.sim_types.specs.declared.event.Callback.TheVariants as callback
use Rattle.sim_machine.specs.State.{AllOrAny, EventOf, Registration, Calendar, Control, State, Plan}
use Rattle.sim_machine.specs.Events.{is_same, is_processed, next_event, callbacks_of, register, is_check_of}
use Rattle.sim_machine.specs.Conditions.{condition_of, members_of, is_too_wide, make_condition, join_member}
use Rattle.sim_machine.specs.Triggering.{make, succeed}
use Rattle.sim_machine.specs.Effect.{calendar}
use Rattle.sim_machine.specs.Tellings.{Telling}
use Rattle.sim_machine.specs.Standing.{one_if, was_made, kind_at, left_of, is_event_of}
use Rattle.sim_machine.specs.LawfulRegistrations.{LawfulRegistrations}
use Rattle.sim_machine.specs.LawfulInterruptions.{is_unheard_kind}
use Rattle.sim_machine.specs.LawfulConditions.{is_condition_kind, is_build_of, counts_well, is_empty, needs_build, first_passes, builds_first}
use Rattle.sim_machine_law.proofs.Events.EventLaws.{same_event, is_same-self, change_event-other, change_event-keeps, change_event-length}
use Rattle.sim_machine_law.proofs.Events.CallbackLaws.{counts_one, counts_none, counts_not, count_by-append, count_by-one, callbacks_of-register_same, callbacks_of-register_other, callbacks_at-register}
use Rattle.sim_machine_law.proofs.KeptParts.KeptRegistrationsCalendar.{made_below}
use Rattle.sim_machine_law.proofs.KeptParts.KeptConditions.{older_same, unmade_event}
use Rattle.sim_machine_law.proofs.KeptParts.KeptInterruptionsParts.{list_all-weaker}
use Rattle.sim_lawful.proofs.Calendars.ReplacedCalendars.{replace_made}
use Rattle.sim_lawful.proofs.Calendars.TakenCalendars.{MayTake, hears, take_replaced}
use Rattle.sim_lawful.proofs.Calendars.TakenChanges.{cond_no_interrupt, take_changed, take_triggered, take_registered}
use Rattle.sim_lawful.proofs.ConditionLaws.CheckedConditions.{SameConditions, same_joined, same_triggered, conditions_recounted, counts, counts_turned}
use Rattle.sim_lawful.proofs.ConditionLaws.JoinedConditions.{IsJoined, joined_made, may_join, all_join}
use Rattle.sim_lawful.proofs.ConditionLaws.NewConditions.{fresh, with_fresh, fresh_event, fresh_length, others_stay, all_processed, all_older, no_member, none_registered, checks_stay, no_checks}
use Rattle.sim_machine_law.proofs.KeptParts.LawfulBasis.{ConditionsBasis, LawfulBasis}

-- ---- conditions, with the new one

-- what tells whether an event must be built
abbrev builds : EventOf → Bool
builds x = is_some x.condition && not x.processed && not (is_empty (condition_of x.condition).members)

unmade_needs : (c : Calendar) (e : EventId) → length c.events ≤ e.0 → needs_build c e ≡ false
unmade_needs c e unmade = ap builds (unmade_event c e unmade)

-- a condition without members is as if it were none
same_alone : (sort : AllOrAny) (c : Calendar) → SameConditions c (with_fresh sort [] c)
same_alone sort c =
    let d : Calendar = with_fresh sort [] c in
    let e : EventId = next_event c in
    let now = fresh_event sort [] c in
    record {
      members = λ f. elim (cases_eq f.0 (length c.events)) [
        | inl same ↦ (let P : EventId → Type 0 = λ g. members_of d g ≡ members_of c g in
            subst P (same_event e f (sym same)) (ap (λ (x : EventOf). (condition_of x.condition).members) now ∙ sym (no_member c e (omega arith))))
        | inr differ ↦ others_stay (λ x. (condition_of x.condition).members) sort [] c f refl differ
      ];
      needs = λ f. elim (cases_eq f.0 (length c.events)) [
        | inl same ↦ (let P : EventId → Type 0 = λ g. needs_build d g ≡ needs_build c g in
            subst P (same_event e f (sym same)) (ap builds now ∙ sym (unmade_needs c e (omega arith))))
        | inr differ ↦ others_stay builds sort [] c f refl differ
      ];
      processed = all_processed sort [] c;
      registered = refl;
    }

conditions_alone : (sort : AllOrAny) (c : Calendar) (k : Control) → ConditionsBasis c k
    → ConditionsBasis (succeed (next_event c) (pos 0) (with_fresh sort [] c)) k
conditions_alone sort c k h =
    let d : Calendar = with_fresh sort [] c in
    let e : EventId = next_event c in
    conditions_recounted c (succeed e (pos 0) d) k (same_joined c d (succeed e (pos 0) d) (same_alone sort c) (same_triggered e (outcome.Ok (pos 0)) d))
    (λ f. counts_turned e f (outcome.Ok (pos 0)) d (omega (arith, fresh_length sort [] c)) (λ differ. others_stay counts sort [] c f refl differ ∙ h.counts f) (cases_eq f.0 e.0)) h

some_count : (ms : List EventId) → is_empty ms ≡ false → (not (true && true) || nat_lt 0 (length ms)) ≡ true
some_count [] h = sym h
some_count (m ∷ ms) h = grind (arith, nat_tests)

none_called_of : (c : Calendar) (k : Control) → LawfulRegistrations c k → callbacks_of (next_event c) c ≡ []
none_called_of c k h =
    ap (map (λ (r : Registration). r.callback)) (none_registered c (next_event c) c.registered (ne_below (length c.events)) h.unprocessed)
  where
    ne_below : (n : ℕ) → nat_lt n n ≡ false
    ne_below n = grind (arith, nat_tests)

-- one with members, where its build is registered too
conditions_with_build : (sort : AllOrAny) (ms : List EventId) (c : Calendar) (k : Control) → list_all (was_made c) ms ≡ true
    → is_too_wide ms c ≡ false → is_empty ms ≡ false → LawfulRegistrations c k → ConditionsBasis c k
    → ConditionsBasis (register (next_event c) (callback.Build (next_event c)) (with_fresh sort ms c)) k
conditions_with_build sort ms c k made narrow some r h =
    let e : EventId = next_event c in
    let d : Calendar = with_fresh sort ms c in
    let build : Callback = callback.Build e in
    let n : Calendar = register e build d in
    let now = fresh_event sort ms c in
    let needs_now : needs_build n e ≡ true = ap builds now ∙ rw some refl in
    let needs_other : (f : EventId) → f.0 ≢ length c.events → needs_build n f ≡ needs_build c f = λ f differ. others_stay builds sort ms c f refl differ in
    let apart : (f : EventId) → f.0 ≢ length c.events → is_same f e ≡ false = λ f differ. ne_eqb f.0 e.0 differ in
    let here : EventId → Registration → Bool = λ f q. is_build_of f q.callback in
    let q : Registration = record { event = e; callback = build } in
    record {
      members = λ f was. older_same d n (λ g. refl) f ∙ all_older sort ms c k made narrow h f was;
      counts = λ f. elim (cases_eq f.0 (length c.events)) [
        | inl same ↦ (let P : EventId → Type 0 = λ g. counts_well n g ≡ true in
            subst P (same_event e f (sym same)) (ap counts now ∙ some_count ms some))
        | inr differ ↦ others_stay counts sort ms c f refl differ ∙ h.counts f
      ];
      checks = λ other f. omega (arith, callbacks_at-register (is_check_of other) e f build d k, counts_not (is_same e f) false refl, checks_stay sort ms c k other f h);
      unbuilt = λ other f counted.
          let equal = callbacks_at-register (is_check_of other) e f build d k in
          ap (λ (b : Bool). not b || is_event_of k other && list_any (is_build_of other) (left_of k)) (all_processed sort ms c other) ∙ h.unbuilt other f (ap (nat_lt 0) (omega (arith, equal, counts_not (is_same e f) false refl)) ∙ counted);
      builds = λ other. elim (cases_eq other.0 (length c.events)) [
        | inl same ↦ (let P : EventId → Type 0 = λ g. count_by (here g) n.registered ≡ one_if (needs_build n g) in
            subst P (same_event e other (sym same)) (omega (arith, count_by-append (here e) c.registered (q ∷ []), count_by-one (here e) q, counts_one (is_same e e) (is_same-self e), h.builds e, counts_none (needs_build c e) (unmade_needs c e (omega arith)), counts_one (needs_build n e) needs_now)))
        | inr differ ↦ omega (arith, count_by-append (here other) c.registered (q ∷ []), count_by-one (here other) q, counts_none (is_same other e) (apart other differ), h.builds other, ap one_if (needs_other other differ))
      ];
      first = λ other. elim (cases_eq other.0 (length c.events)) [
        | inl same ↦ (let P : EventId → Type 0 = λ g. builds_first n g ≡ true in
            let own : callbacks_of e n ≡ build ∷ [] = callbacks_of-register_same e build d ∙ ap (λ (xs : List Callback). xs ++ build ∷ []) (none_called_of c k r) in
            subst P (same_event e other (sym same)) (or_right (not (needs_build n e)) (first_passes (is_build_of e) (callbacks_of e n)) (ap (first_passes (is_build_of e)) own ∙ is_same-self e)))
        | inr differ ↦ (let far : is_same e other ≡ false = ne_eqb e.0 other.0 (λ same. differ (sym same)) in
            ap (λ (b : Bool). not b || first_passes (is_build_of other) (callbacks_of other n)) (needs_other other differ) ∙ (ap (λ (xs : List Callback). not (needs_build c other) || first_passes (is_build_of other) xs) (callbacks_of-register_other e other build d far) ∙ h.first other))
      ];
      left = h.left;
    }

-- ---- the calendar

joinable_made : (c : Calendar) (ms : List EventId) → list_all (may_join c) ms ≡ true → list_all (was_made c) ms ≡ true
joinable_made c ms may = list_all-weaker (may_join c) (was_made c) ms (λ m w. (and_parts (was_made c m) (hears c m) w).0) may

take_fresh : {B : Type 0} (g : Plan B) (tell : Telling B) (sound : B → Type 0) (s : State B) (sort : AllOrAny)
    (ms : List EventId) → list_all (may_join (calendar s)) ms ≡ true → LawfulBasis g tell sound s
    → MayTake s (with_fresh sort ms (calendar s))
take_fresh g tell sound s sort ms may h =
    let c : Calendar = calendar s in
    let e : EventId = next_event c in
    let made : Calendar = make kind.Cond c in
    let change : EventOf → EventOf = λ x. record x { condition = Some (fresh sort ms) } in
    let take : MayTake s made = take_replaced g tell sound s made h (replace_made g tell sound s kind.Cond refl h) in
    let own : members_of (with_fresh sort ms c) e ≡ ms = ap (λ (x : EventOf). (condition_of x.condition).members) (fresh_event sort ms c) in
    take_changed s e change made (record { kind = λ x. refl; outcome = λ x. refl; processed = λ x. refl; cancelled = λ x. refl })
    (λ f. elim (cases_eq f.0 e.0) [
      | inl same ↦ (let P : EventId → Type 0 = λ g. list_all (hears made) (members_of (with_fresh sort ms c) g) ≡ true in
          subst P (same_event e f (sym same)) (ap (list_all (hears made)) own ∙ list_all-weaker (may_join c) (hears made) ms (λ m w.
          let both = and_parts (was_made c m) (hears c m) w in
          ap (λ (k : EventKind). not (is_unheard_kind k)) (take.grown.kinds m (made_below c m both.0)) ∙ both.1) may))
      | inr differ ↦ ap (λ (x : EventOf). list_all (hears made) (condition_of x.condition).members) (change_event-other e f change made differ) ∙ take.heard f
    ]) take

-- what is known of a condition once it was made and its members have joined it
pub record IsMadeCondition {B : Type 0} (s : State B) (e : EventId) (d : Calendar) : Type 0 where
  pub take : MayTake s d
  pub conditions : ConditionsBasis d s.control
  pub made : e.0 < length d.events
  pub kind : is_condition_kind (kind_at d e) ≡ true
  pub unprocessed : is_processed d e ≡ false

-- its members were made and may be waited for, and it does not weigh too much
pub condition_made : {B : Type 0} (g : Plan B) (tell : Telling B) (sound : B → Type 0) (s : State B) (sort : AllOrAny)
    (ms : List EventId) → list_all (may_join (calendar s)) ms ≡ true → is_too_wide ms (calendar s) ≡ false
    → LawfulBasis g tell sound s → IsMadeCondition s (next_event (calendar s)) (make_condition sort ms (calendar s))
condition_made g tell sound s sort [] may narrow h =
    let c : Calendar = calendar s in
    let e : EventId = next_event c in
    let d : Calendar = with_fresh sort [] c in
    let change : EventOf → EventOf = λ x. record x { outcome = Some (outcome.Ok (pos 0)) } in
    let now = fresh_event sort [] c in
    let long : length d.events ≡ length c.events + 1 = fresh_length sort [] c in
    let cond_kind : is_condition_kind (kind_at d e) ≡ true = ap (λ (x : EventOf). is_condition_kind x.kind) now in
    record {
      take = take_triggered s e (outcome.Ok (pos 0)) d (omega (arith, long)) (λ zero. omega (arith, zero, h.processes.named_made)) cond_kind (ap (λ (x : EventOf). is_none x.outcome) now) (take_fresh g tell sound s sort [] may h);
      conditions = conditions_alone sort c s.control h.conditions;
      made = omega (arith, long, change_event-length e change d);
      kind = change_event-keeps (λ x. is_condition_kind x.kind) e e change d (λ x. refl) ∙ cond_kind;
      unprocessed = change_event-keeps (λ x. x.processed) e e change d (λ x. refl) ∙ ap (λ (x : EventOf). x.processed) now;
    }
condition_made g tell sound s sort (m ∷ ms) may narrow h =
    let c : Calendar = calendar s in
    let k : Control = s.control in
    let e : EventId = next_event c in
    let all : List EventId = m ∷ ms in
    let d : Calendar = with_fresh sort all c in
    let now = fresh_event sort all c in
    let own : members_of d e ≡ all = ap (λ (x : EventOf). (condition_of x.condition).members) now in
    let first : IsJoined s e all d = record {
      take = take_fresh g tell sound s sort all may h;
      conditions = conditions_with_build sort all c k (joinable_made c all may) narrow refl h.registrations h.conditions;
      room = λ f. omega (arith, no_checks c k f h.conditions, ap (λ (xs : List EventId). count_by (is_same f) xs) own);
      some = ap (λ (xs : List EventId). is_empty xs) own;
      kind = ap (λ (x : EventOf). is_condition_kind x.kind) now;
      unprocessed = ap (λ (x : EventOf). x.processed) now;
      nonzero = λ zero. omega (arith, zero, h.processes.named_made);
    } in
    let n : Calendar = fold (join_member e) d all in
    let joined : IsJoined s e [] n = all_join s e all d (omega arith) may first in
    record {
      take = take_registered s e (callback.Build e) n (joined_made s e [] n joined) joined.unprocessed (cond_no_interrupt (kind_at n e) joined.kind) (λ p. refl) refl refl joined.take;
      conditions = joined.conditions;
      made = joined_made s e [] n joined;
      kind = joined.kind;
      unprocessed = joined.unprocessed;
    }

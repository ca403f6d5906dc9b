-- The members of a new condition join it one by one: those that are processed are checked at once, and the others get a
-- check. Meanwhile conditions are lawful but for the build of the new one, which is registered last.
use Rattle.std.proofs.Common.{◌≡◌, ◌≢◌, ◌+◌, ◌<◌, ◌≤◌, Bool, true, false, ◌&&◌, not, List, [], ◌∷◌, ◌++◌, length, Option, Some, None, refl, sym, ap, subst, ◌∙◌, arith, if◌then◌else◌, inl, inr}
use Rattle.std.specs.Prelude.{fold, count_by, nat_lt, pos}
use Rattle.std.specs.List.{list_all}
use Rattle.std.proofs.lemmas.Bool.{false≢true, and_parts, ltb-true, lt-ltb, cases_Bool, or_left, not_from_false, ne_eqb}
use Rattle.std.proofs.lemmas.Bool.Decides.{nat_tests}
use Rattle.sim_types.specs.declared.event.EventId.{EventId}
use Rattle.sim_types.specs.declared.event.EventKind.{EventKind}
use Rattle.sim_types.specs.declared.event.Outcome.{Outcome}
use Rattle.sim_types.specs.declared.event.Callback.{Callback}
use Rattle.sim_types.specs.declared.event.EventKind.TheVariants as kind
use Rattle.sim_types.specs.declared.event.Outcome.TheVariants as outcome
use Rattle.sim_types.specs.declared.event.Callback.TheVariants as callback
use Rattle.sim_machine.specs.State.{Registration, Calendar, Control, State}
use Rattle.sim_machine.specs.Events.{is_same, event_at, is_pending, is_processed, callbacks_of, defuse, register, is_check_of}
use Rattle.sim_machine.specs.Conditions.{condition_of, condition_at, members_of, is_met, count_member, judge, check, join_member}
use Rattle.sim_machine.specs.Triggering.{succeed}
use Rattle.sim_machine.specs.Standing.{one_if, kind_at}
use Rattle.sim_machine.specs.LawfulInterruptions.{is_interrupt_kind, is_unheard_kind}
use Rattle.sim_machine.specs.LawfulConditions.{is_condition_kind, is_build_of, is_to_be_built, checks_at, times_member, is_empty, needs_build, first_passes}
use Rattle.sim_machine_law.proofs.Events.EventLaws.{is_same-yes, change_event-keeps}
use Rattle.sim_machine_law.proofs.Events.CallbackLaws.{count_by-cons, count_by-append, count_by-one, counts_one, counts_none, counts_not, callbacks_of-register, callbacks_of-register_other, callbacks_at-register}
use Rattle.sim_machine_law.proofs.KeptParts.KeptTimesCases.{if_cases}
use Rattle.sim_machine_law.proofs.KeptParts.KeptRegistrationsCalendar.{made_if}
use Rattle.sim_machine_law.proofs.KeptParts.KeptConditions.{first_stays, weaker_or, older_same, older_everywhere}
use Rattle.sim_lawful.proofs.Calendars.TakenCalendars.{MayTake, hears}
use Rattle.sim_lawful.proofs.Calendars.TakenChanges.{take_registered}
use Rattle.sim_lawful.proofs.ConditionLaws.CheckedConditions.{SameConditions, same_checked, check_cases, conditions_checked, take_checked}
use Rattle.sim_lawful.proofs.ConditionLaws.CalledCheck.{has_some}
use Rattle.sim_machine_law.proofs.KeptParts.LawfulBasis.{ConditionsBasis}

-- ---- a check leaves registrations as they are, whichever these are

if_both : (f : Calendar → Calendar) (b : Bool) (c d : Calendar) → (if b then f c else f d) ≡ f (if b then c else d)
if_both f true c d = refl
if_both f false c d = refl

judge_registered : (cond m e : EventId) (x : Callback) (o : Option Outcome) (c : Calendar) → judge cond m o (register e x c) ≡ register e x (judge cond m o c)
judge_registered cond m e x (Some (outcome.Fail t)) c = refl
judge_registered cond m e x (Some (outcome.Ok v)) c = if_both (register e x) (is_met (condition_at c cond)) (succeed cond (pos 0) c) c
judge_registered cond m e x None c = if_both (register e x) (is_met (condition_at c cond)) (succeed cond (pos 0) c) c

check_registered : (cond m e : EventId) (x : Callback) (c : Calendar) → check cond m (register e x c) ≡ register e x (check cond m c)
check_registered cond m e x c =
    ap (λ (d : Calendar). if is_pending c cond then d else register e x c) (judge_registered cond m e x (event_at c m).outcome (count_member cond c)) ∙ if_both (register e x) (is_pending c cond) (judge cond m (event_at c m).outcome (count_member cond c)) c

kind_checked : (cond m : EventId) (c : Calendar) → is_condition_kind (kind_at c cond) ≡ true → is_condition_kind (kind_at (check cond m c) cond) ≡ true
kind_checked cond m c h =
    let n : Calendar = count_member cond c in
    let one : is_condition_kind (kind_at n cond) ≡ true = change_event-keeps (λ x. is_condition_kind x.kind) cond cond (λ x. record x { condition = Some (record (condition_of x.condition) { count = (condition_of x.condition).count + 1 }) }) c (λ x. refl) ∙ h in
    let two : is_condition_kind (kind_at (defuse m n) cond) ≡ true = change_event-keeps (λ x. is_condition_kind x.kind) m cond (λ x. record x { defused = true }) n (λ x. refl) ∙ one in
    check_cases (λ d. is_condition_kind (kind_at d cond) ≡ true) cond m c
    (λ pending t. change_event-keeps (λ x. is_condition_kind x.kind) cond cond (λ x. record x { outcome = Some (outcome.Fail t) }) (defuse m n) (λ x. refl) ∙ two)
    (λ pending. change_event-keeps (λ x. is_condition_kind x.kind) cond cond (λ x. record x { outcome = Some (outcome.Ok (pos 0)) }) n (λ x. refl) ∙ one)
    (λ pending not_met. one)
    h

-- ---- a condition some of whose members have joined it

-- the condition, once these members are left to join it: where its build is registered too, conditions are lawful, and
-- each member that is left may get a check
pub record IsJoined {B : Type 0} (s : State B) (cond : EventId) (left : List EventId) (d : Calendar) : Type 0 where
  pub take : MayTake s d
  pub conditions : ConditionsBasis (register cond (callback.Build cond) d) s.control
  pub room : (f : EventId) → checks_at d s.control cond f + count_by (is_same f) left ≤ times_member d cond f
  pub some : is_empty (members_of d cond) ≡ false
  pub kind : is_condition_kind (kind_at d cond) ≡ true
  pub unprocessed : is_processed d cond ≡ false
  pub nonzero : cond.0 ≢ 0

pub joined_made : {B : Type 0} (s : State B) (cond : EventId) (left : List EventId) (d : Calendar) → IsJoined s cond left d → cond.0 < length d.events
joined_made s cond left d h = made_if (λ x. is_condition_kind x.kind) d cond refl h.kind

-- a member that is processed is checked
joins_checked : {B : Type 0} (s : State B) (cond m : EventId) (left : List EventId) (d : Calendar)
    → IsJoined s cond (m ∷ left) d → IsJoined s cond left (check cond m d)
joins_checked s cond m left d h =
    let n : Calendar = check cond m d in
    let k : Control = s.control in
    let build : Callback = callback.Build cond in
    let made : cond.0 < length d.events = joined_made s cond (m ∷ left) d h in
    let same : SameConditions d n = same_checked cond m d in
    record {
      take = take_checked s cond m d made h.nonzero h.kind h.take;
      conditions = subst (λ z. ConditionsBasis z k) (check_registered cond m cond build d) (conditions_checked cond m (register cond build d) k made (has_some (event_at d cond).condition h.some) h.conditions);
      room = λ f. rw (same.registered, same.members cond) (omega (arith, h.room f, count_by-cons (is_same f) m left));
      some = ap (λ (ms : List EventId). is_empty ms) (same.members cond) ∙ h.some;
      kind = kind_checked cond m d h.kind;
      unprocessed = same.processed cond ∙ h.unprocessed;
      nonzero = h.nonzero;
    }

-- ---- a check is registered before the build

same_swapped : (e f : EventId) → is_same e f ≡ is_same f e
same_swapped e f = grind (arith, nat_tests)

conditions_joining : (cond m : EventId) (left : List EventId) (d : Calendar) (k : Control) → is_same m cond ≡ false
    → is_processed d cond ≡ false
    → ((f : EventId) → checks_at d k cond f + count_by (is_same f) (m ∷ left) ≤ times_member d cond f)
    → ConditionsBasis (register cond (callback.Build cond) d) k
    → ConditionsBasis (register cond (callback.Build cond) (register m (callback.Check cond) d)) k
conditions_joining cond m left d k apart unprocessed room h =
    let build : Callback = callback.Build cond in
    let x : Callback = callback.Check cond in
    let n : Calendar = register m x d in
    let old : Calendar = register cond build d in
    let new : Calendar = register cond build n in
    let before : (other f : EventId) → checks_at old k other f ≡ checks_at d k other f = λ other f. omega (arith, callbacks_at-register (is_check_of other) cond f build d k, counts_not (is_same cond f) false refl) in
    let after : (other f : EventId) → checks_at new k other f ≡ checks_at d k other f + one_if (is_same m f && is_same other cond) = λ other f.
    omega (arith, callbacks_at-register (is_check_of other) cond f build n k, counts_not (is_same cond f) false refl, callbacks_at-register (is_check_of other) m f x d k) in
    record {
      members = λ f made. older_same old new (λ g. refl) f ∙ older_everywhere old k f h;
      counts = h.counts;
      checks = λ other f. elim (cases_Bool (is_same m f && is_same other cond)) [
        | inl here ↦ (let both = and_parts (is_same m f) (is_same other cond) here in
            let P : EventId → Type 0 = λ g. checks_at new k g f ≤ times_member d g f in
            subst P (sym (is_same-yes other cond both.1)) (omega (arith, after cond f, room f, count_by-cons (is_same f) m left, counts_one (is_same f m) (same_swapped f m ∙ both.0), counts_most (is_same m f && is_same cond cond))))
        | inr there ↦ omega (arith, after other f, before other f, h.checks other f, counts_none (is_same m f && is_same other cond) there)
      ];
      unbuilt = λ other f some. elim (cases_Bool (is_same other cond)) [
        | inl is ↦ (let P : EventId → Type 0 = λ g. is_to_be_built new k g ≡ true in
            subst P (sym (is_same-yes other cond is)) (or_left (not (is_processed d cond)) _ (not_from_false (is_processed d cond) unprocessed)))
        | inr other_than ↦ h.unbuilt other f (lt-ltb 0 (checks_at old k other f) (omega (arith, ltb-true 0 (checks_at new k other f) some, after other f, before other f, counts_not (is_same m f) (is_same other cond) other_than)))
      ];
      builds = λ other.
          let here : Registration → Bool = λ r. is_build_of other r.callback in
          let r : Registration = record { event = m; callback = x } in
          let q : Registration = record { event = cond; callback = build } in
          omega (arith, h.builds other, count_by-append here n.registered (q ∷ []), count_by-append here d.registered (r ∷ []), count_by-one here r, count_by-append here d.registered (q ∷ []));
      first = λ other. weaker_or (not (needs_build d other)) (first_passes (is_build_of other) (callbacks_of other old)) (first_passes (is_build_of other) (callbacks_of other new)) (λ w. elim (cases_Bool (is_same cond other)) [
        | inl is ↦ (let P : EventId → Type 0 = λ g. is_same m g ≡ false in
            let far : is_same m other ≡ false = subst P (is_same-yes cond other is) apart in
            let equal : callbacks_of other new ≡ callbacks_of other old = callbacks_of-register cond other build n ∙ (ap (λ (xs : List Callback). xs ++ (if is_same cond other then build ∷ [] else [])) (callbacks_of-register_other m other x d far) ∙ sym (callbacks_of-register cond other build d)) in
            ap (first_passes (is_build_of other)) equal ∙ w)
        | inr far ↦ (let plain : first_passes (is_build_of other) (callbacks_of other d) ≡ true = ap (first_passes (is_build_of other)) (sym (callbacks_of-register_other cond other build d far)) ∙ w in
            ap (first_passes (is_build_of other)) (callbacks_of-register_other cond other build n far ∙ callbacks_of-register m other x d) ∙ first_stays (is_build_of other) (callbacks_of other d) (if is_same m other then x ∷ [] else []) plain)
      ]) (h.first other);
      left = h.left;
    }
  where
    counts_most : (b : Bool) → one_if b ≤ 1
    counts_most true = omega arith
    counts_most false = omega arith

heard_no_interrupt : (k : EventKind) → not (is_unheard_kind k) ≡ true → is_interrupt_kind k ≡ false
heard_no_interrupt kind.Interrupt h = absurd (false≢true h)
heard_no_interrupt _ h = refl

joins_later : {B : Type 0} (s : State B) (cond m : EventId) (left : List EventId) (d : Calendar) → m.0 < length d.events
    → hears d m ≡ true → m.0 ≢ cond.0 → is_processed d m ≡ false → IsJoined s cond (m ∷ left) d
    → IsJoined s cond left (register m (callback.Check cond) d)
joins_later s cond m left d made heard apart waits h =
    let k : Control = s.control in
    let x : Callback = callback.Check cond in
    record {
      take = take_registered s m x d made waits (heard_no_interrupt (kind_at d m) heard) (λ p. refl) refl refl h.take;
      conditions = conditions_joining cond m left d k (ne_eqb m.0 cond.0 apart) h.unprocessed h.room h.conditions;
      room = λ f. omega (arith, h.room f, count_by-cons (is_same f) m left, ap one_if (same_swapped f m), callbacks_at-register (is_check_of cond) m f x d k, less (is_same m f) (is_same cond cond));
      some = h.some;
      kind = h.kind;
      unprocessed = h.unprocessed;
      nonzero = h.nonzero;
    }
  where
    less : (a b : Bool) → one_if (a && b) ≤ one_if a
    less true true = omega arith
    less true false = omega arith
    less false b = omega arith

-- ---- all of them

-- whether an event may be a member of a condition that is made now
abbrev pub may_join : Calendar → EventId → Bool
may_join c m = nat_lt m.0 (length c.events) && hears c m

joins : {B : Type 0} (s : State B) (cond m : EventId) (left : List EventId) (d : Calendar)
    → length s.facilities.calendar.events ≤ cond.0 → may_join s.facilities.calendar m ≡ true → IsJoined s cond (m ∷ left) d
    → IsJoined s cond left (join_member cond d m)
joins s cond m left d new may h =
    let c : Calendar = s.facilities.calendar in
    let both = and_parts (nat_lt m.0 (length c.events)) (hears c m) may in
    let made : m.0 < length c.events = ltb-true m.0 (length c.events) both.0 in
    if_cases (IsJoined s cond left) (is_processed d m) (check cond m d) (register m (callback.Check cond) d)
    (λ processed. joins_checked s cond m left d h)
    (λ waits. joins_later s cond m left d (omega (arith, made, h.take.grown.longer)) (ap (λ (k : EventKind). not (is_unheard_kind k)) (h.take.grown.kinds m made) ∙ both.1) (λ same. omega (arith, same, made, new)) waits h)

pub all_join : {B : Type 0} (s : State B) (cond : EventId) (ms : List EventId) (d : Calendar)
    → length s.facilities.calendar.events ≤ cond.0 → list_all (may_join s.facilities.calendar) ms ≡ true
    → IsJoined s cond ms d → IsJoined s cond [] (fold (join_member cond) d ms)
all_join s cond [] d new may h = h
all_join s cond (m ∷ ms) d new may h =
    let both = and_parts (may_join s.facilities.calendar m) (list_all (may_join s.facilities.calendar) ms) may in
    all_join s cond ms (join_member cond d m) new both.1 (joins s cond m ms d new both.0 h)

-- A member that is checked keeps conditions lawful, and leaves a calendar that may take the place of the state's.
use Rattle.std.proofs.Common.{◌≡◌, ◌≢◌, ℕ, ◌+◌, ◌<◌, Bool, true, false, ◌&&◌, ◌||◌, not, List, length, Option, Some, None, refl, sym, ap, subst, ◌∙◌, arith, ◌⊎◌, inl, inr}
use Rattle.std.specs.Prelude.{is_none, is_some, pos, nat_lt, ◌==◌}
use Rattle.std.proofs.lemmas.Bool.{cases_eq, false≢true}
use Rattle.std.proofs.lemmas.Bool.Decides.{nat_tests}
use Rattle.sim_types.specs.declared.event.EventId.{EventId}
use Rattle.sim_types.specs.declared.event.Outcome.{Outcome}
use Rattle.sim_types.specs.declared.event.Throw.{Throw}
use Rattle.sim_types.specs.declared.event.Outcome.TheVariants as outcome
use Rattle.sim_machine.specs.State.{AllOrAny, Every, Either, ConditionOf, EventOf, Calendar, Control, State}
use Rattle.sim_machine.specs.Events.{event_at, is_pending, is_processed, defuse}
use Rattle.sim_machine.specs.Conditions.{no_condition, condition_of, is_condition, condition_at, members_of, change_condition, is_met, count_member, judge, check}
use Rattle.sim_machine.specs.Triggering.{trigger, succeed, fail}
use Rattle.sim_machine.specs.Standing.{kind_at}
use Rattle.sim_machine.specs.LawfulConditions.{is_condition_kind, is_below_all, counts_well, is_empty, needs_build}
use Rattle.sim_machine_law.proofs.Events.EventLaws.{same_event, change_event-same, change_event-other, change_event-keeps, change_event-length}
use Rattle.sim_machine_law.proofs.KeptParts.KeptTimesCases.{if_cases}
use Rattle.sim_machine_law.proofs.KeptParts.KeptConditions.{older_same, older_everywhere}
use Rattle.sim_machine_law.proofs.KeptParts.KeptInterruptionsParts.{change_event-passes}
use Rattle.sim_lawful.proofs.Calendars.TakenCalendars.{MayTake}
use Rattle.sim_lawful.proofs.Calendars.TakenChanges.{take_defused, take_condition, take_triggered}
use Rattle.sim_machine_law.proofs.KeptParts.LawfulBasis.{ConditionsBasis}

-- ---- what a check comes to

judge_cases : (P : Calendar → Type 0) (cond m : EventId) (o : Option Outcome) (c : Calendar)
    → ((t : Throw) → P (fail cond t (defuse m c))) → P (succeed cond (pos 0) c)
    → (is_met (condition_at c cond) ≡ false → P c) → P (judge cond m o c)
judge_cases P cond m (Some (outcome.Fail t)) c fails met not_met = fails t
judge_cases P cond m (Some (outcome.Ok v)) c fails met not_met = if_cases P (is_met (condition_at c cond)) (succeed cond (pos 0) c) c (λ h. met) not_met
judge_cases P cond m None c fails met not_met = if_cases P (is_met (condition_at c cond)) (succeed cond (pos 0) c) c (λ h. met) not_met

-- a condition that is pending counts, and then fails, succeeds, or waits on; any other stays
pub check_cases : (P : Calendar → Type 0) (cond m : EventId) (c : Calendar)
    → (is_pending c cond ≡ true → (t : Throw) → P (fail cond t (defuse m (count_member cond c))))
    → (is_pending c cond ≡ true → P (succeed cond (pos 0) (count_member cond c)))
    → (is_pending c cond ≡ true → is_met (condition_at (count_member cond c) cond) ≡ false → P (count_member cond c)) → P c
    → P (check cond m c)
check_cases P cond m c fails met not_met turned =
    if_cases P (is_pending c cond) (judge cond m (event_at c m).outcome (count_member cond c)) c
    (λ pending. judge_cases P cond m (event_at c m).outcome (count_member cond c) (fails pending) (met pending) (not_met pending)) (λ h. turned)

-- ---- changes after which conditions are the same, but for what they counted and found

-- they have the same members, are built and processed alike, and the registrations stay
pub record SameConditions (c d : Calendar) : Type 0 where
  pub members : (e : EventId) → members_of d e ≡ members_of c e
  pub needs : (e : EventId) → needs_build d e ≡ needs_build c e
  pub processed : (e : EventId) → is_processed d e ≡ is_processed c e
  pub registered : d.registered ≡ c.registered

pub same_joined : (c d n : Calendar) → SameConditions c d → SameConditions d n → SameConditions c n
same_joined c d n h w =
    record { members = λ e. w.members e ∙ h.members e; needs = λ e. w.needs e ∙ h.needs e; processed = λ e. w.processed e ∙ h.processed e; registered = w.registered ∙ h.registered }

needs_part : (o : Option ConditionOf) (p : Bool) (change : ConditionOf → ConditionOf)
    → ((x : ConditionOf) → (change x).members ≡ x.members)
    → (true && not p && not (is_empty (change (condition_of o)).members))
    ≡ (is_some o && not p && not (is_empty (condition_of o).members))
needs_part (Some y) p change keeps = ap (λ (ms : List EventId). true && not p && not (is_empty ms)) (keeps y)
needs_part None true change keeps = refl
needs_part None false change keeps = ap (λ (ms : List EventId). true && not false && not (is_empty ms)) (keeps no_condition)

pub same_condition : (e : EventId) (change : ConditionOf → ConditionOf) (c : Calendar)
    → ((x : ConditionOf) → (change x).members ≡ x.members) → SameConditions c (change_condition e change c)
same_condition e change c keeps =
    let changed : EventOf → EventOf = λ x. record x { condition = Some (change (condition_of x.condition)) } in
    record {
      members = λ f. change_event-keeps (λ x. (condition_of x.condition).members) e f changed c (λ x. keeps (condition_of x.condition));
      needs = λ f. change_event-keeps (λ x. is_some x.condition && not x.processed && not (is_empty (condition_of x.condition).members)) e f changed c (λ x. needs_part x.condition x.processed change keeps);
      processed = λ f. change_event-keeps (λ x. x.processed) e f changed c (λ x. refl);
      registered = refl;
    }

same_defused : (e : EventId) (c : Calendar) → SameConditions c (defuse e c)
same_defused e c =
    let changed : EventOf → EventOf = λ x. record x { defused = true } in
    record {
      members = λ f. change_event-keeps (λ x. (condition_of x.condition).members) e f changed c (λ x. refl);
      needs = λ f. change_event-keeps (λ x. is_some x.condition && not x.processed && not (is_empty (condition_of x.condition).members)) e f changed c (λ x. refl);
      processed = λ f. change_event-keeps (λ x. x.processed) e f changed c (λ x. refl);
      registered = refl;
    }

pub same_triggered : (e : EventId) (o : Outcome) (c : Calendar) → SameConditions c (trigger e o c)
same_triggered e o c =
    let changed : EventOf → EventOf = λ x. record x { outcome = Some o } in
    record {
      members = λ f. change_event-keeps (λ x. (condition_of x.condition).members) e f changed c (λ x. refl);
      needs = λ f. change_event-keeps (λ x. is_some x.condition && not x.processed && not (is_empty (condition_of x.condition).members)) e f changed c (λ x. refl);
      processed = λ f. change_event-keeps (λ x. x.processed) e f changed c (λ x. refl);
      registered = refl;
    }

pub same_checked : (cond m : EventId) (c : Calendar) → SameConditions c (check cond m c)
same_checked cond m c =
    let n : Calendar = count_member cond c in
    let counted : SameConditions c n = same_condition cond (λ x. record x { count = x.count + 1 }) c (λ x. refl) in
    check_cases (SameConditions c) cond m c
    (λ pending t. same_joined c (defuse m n) (fail cond t (defuse m n)) (same_joined c n (defuse m n) counted (same_defused m n)) (same_triggered cond (outcome.Fail t) (defuse m n)))
    (λ pending. same_joined c n (succeed cond (pos 0) n) counted (same_triggered cond (outcome.Ok (pos 0)) n))
    (λ pending not_met. counted)
    (record { members = λ e. refl; needs = λ e. refl; processed = λ e. refl; registered = refl })

-- where they count well too, they stay lawful
pub conditions_recounted : (c d : Calendar) (k : Control) → SameConditions c d → ((e : EventId) → counts_well d e ≡ true)
    → ConditionsBasis c k → ConditionsBasis d k
conditions_recounted c d k same counts h =
    record {
      members = λ e made. older_same c d same.members e ∙ older_everywhere c k e h;
      counts = counts;
      checks = λ cond e. rw (same.members cond, same.registered) (h.checks cond e);
      unbuilt = λ cond e some. rw (same.processed cond) (h.unbuilt cond e (rw same.registered at some));
      builds = λ cond. rw (same.registered, same.needs cond) (h.builds cond);
      first = λ cond. rw (same.registered, same.needs cond) (h.first cond);
      left = h.left;
    }

-- ---- what a condition counts

-- what an event counts, if it is a condition that is pending
abbrev pub counts : EventOf → Bool
counts x = not (is_some x.condition && is_none x.outcome) || is_below_all (condition_of x.condition)

turned_counts : (b q : Bool) → (not (b && false) || q) ≡ true
turned_counts true q = refl
turned_counts false q = refl

-- a condition that was triggered need not count well
pub counts_turned : (e f : EventId) (o : Outcome) (c : Calendar) → e.0 < length c.events
    → (f.0 ≢ e.0 → counts (event_at c f) ≡ true) → (f.0 ≡ e.0) ⊎ (f.0 ≢ e.0) → counts_well (trigger e o c) f ≡ true
counts_turned e f o c made others (inl same) =
    let d : Calendar = trigger e o c in
    let x : EventOf = event_at c e in
    subst (λ g. counts (event_at d g) ≡ true) (same_event e f (sym same)) (ap counts (change_event-same e (λ y. record y { outcome = Some o }) c made) ∙ turned_counts (is_some x.condition) (is_below_all (condition_of x.condition)))
counts_turned e f o c made others (inr differ) = ap counts (change_event-other e f (λ y. record y { outcome = Some o }) c differ) ∙ others differ

every_not : (x : AllOrAny) (b : Bool) → elim x [ Every ↦ b | Either ↦ true ] ≡ false → b ≡ false
every_not Every b h = h
every_not Either b h = absurd (false≢true (sym h))

counts_one_more : (n m : ℕ) (a b : Bool) → a ≡ true → b ≡ true → (not (a && b) || nat_lt n m) ≡ true → (n + 1 == m) ≡ false
    → (not (true && b) || nat_lt (n + 1) m) ≡ true
counts_one_more n m a b p q h other = grind (arith, nat_tests)

-- ---- a member is checked

-- the condition was made, and is pending, so it has not counted all
pub conditions_checked : (cond m : EventId) (c : Calendar) (k : Control) → cond.0 < length c.events
    → is_condition c cond ≡ true → ConditionsBasis c k → ConditionsBasis (check cond m c) k
conditions_checked cond m c k made is h =
    let one : ConditionOf → ConditionOf = λ x. record x { count = x.count + 1 } in
    let change : EventOf → EventOf = λ x. record x { condition = Some (one (condition_of x.condition)) } in
    let n : Calendar = count_member cond c in
    let counted : SameConditions c n = same_condition cond one c (λ x. refl) in
    let long : length n.events ≡ length c.events = change_event-length cond change c in
    let others : (f : EventId) → f.0 ≢ cond.0 → counts (event_at n f) ≡ true = λ f differ. ap counts (change_event-other cond f change c differ) ∙ h.counts f in
    let now : EventOf = event_at c cond in
    check_cases (λ d. ConditionsBasis d k) cond m c
    (λ pending t.
    let q : Calendar = defuse m n in
    let all : (f : EventId) → f.0 ≢ cond.0 → counts (event_at q f) ≡ true = λ f differ. change_event-keeps counts m f (λ x. record x { defused = true }) n (λ x. refl) ∙ others f differ in
    conditions_recounted c (fail cond t q) k (same_joined c q (fail cond t q) (same_joined c n q counted (same_defused m n)) (same_triggered cond (outcome.Fail t) q))
    (λ f. counts_turned cond f (outcome.Fail t) q (omega (arith, made, long, change_event-length m (λ x. record x { defused = true }) n)) (all f) (cases_eq f.0 cond.0)) h)
    (λ pending. conditions_recounted c (succeed cond (pos 0) n) k (same_joined c n (succeed cond (pos 0) n) counted (same_triggered cond (outcome.Ok (pos 0)) n))
    (λ f. counts_turned cond f (outcome.Ok (pos 0)) n (omega (arith, made, long)) (others f) (cases_eq f.0 cond.0)) h)
    (λ pending not_met.
    let on : ConditionOf = condition_at c cond in
    let unmet : is_met (one on) ≡ false = ap (λ (x : EventOf). is_met (condition_of x.condition)) (sym (change_event-same cond change c made)) ∙ not_met in
    let short : (on.count + 1 == length on.members) ≡ false = every_not on.sort (on.count + 1 == length on.members) unmet in
    conditions_recounted c n k counted
    (λ f. change_event-passes counts cond f change c (counts_one_more on.count (length on.members) (is_condition c cond) (is_pending c cond) is pending (h.counts cond) short) (h.counts f)) h)
    h

pub take_checked : {B : Type 0} (s : State B) (cond m : EventId) (d : Calendar) → cond.0 < length d.events → cond.0 ≢ 0
    → is_condition_kind (kind_at d cond) ≡ true → MayTake s d → MayTake s (check cond m d)
take_checked s cond m d made nonzero kinds h =
    let one : ConditionOf → ConditionOf = λ x. record x { count = x.count + 1 } in
    let change : EventOf → EventOf = λ x. record x { condition = Some (one (condition_of x.condition)) } in
    let defused : EventOf → EventOf = λ x. record x { defused = true } in
    let n : Calendar = count_member cond d in
    let q : Calendar = defuse m n in
    let counted : MayTake s n = take_condition s cond one d (λ x. refl) h in
    let long : length n.events ≡ length d.events = change_event-length cond change d in
    let kind : is_condition_kind (kind_at n cond) ≡ true = change_event-keeps (λ x. is_condition_kind x.kind) cond cond change d (λ x. refl) ∙ kinds in
    let still : is_pending n cond ≡ is_pending d cond = change_event-keeps (λ x. is_none x.outcome) cond cond change d (λ x. refl) in
    check_cases (MayTake s) cond m d
    (λ pending t. take_triggered s cond (outcome.Fail t) q (omega (arith, made, long, change_event-length m defused n)) nonzero
    (change_event-keeps (λ x. is_condition_kind x.kind) m cond defused n (λ x. refl) ∙ kind) (change_event-keeps (λ x. is_none x.outcome) m cond defused n (λ x. refl) ∙ (still ∙ pending)) (take_defused s m n counted))
    (λ pending. take_triggered s cond (outcome.Ok (pos 0)) n (omega (arith, made, long)) nonzero kind (still ∙ pending) counted)
    (λ pending not_met. counted)
    h

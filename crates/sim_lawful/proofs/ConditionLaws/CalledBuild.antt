-- The call that builds a condition keeps the state lawful: no check of it is left, and its value is fixed.
use Rattle.std.proofs.Common.{◌≡◌, ℕ, ◌+◌, ◌<◌, ◌≤◌, Bool, true, false, ◌&&◌, ◌||◌, not, List, [], ◌∷◌, refl, sym, ap, subst, ◌∙◌, arith, if◌then◌else◌, zero, suc, inl, inr, Some}
use Rattle.std.specs.Prelude.{fold, count_by, ◌==◌}
use Rattle.std.proofs.lemmas.Bool.{ltb-true, lt-ltb, cases_Bool, cases_lt, both_ways}
use Rattle.std.proofs.lemmas.Bool.Decides.{nat_tests}
use Rattle.sim_types.specs.declared.event.EventId.{EventId}
use Rattle.sim_types.specs.declared.event.Callback.{Callback}
use Rattle.sim_types.specs.declared.event.Callback.TheVariants as callback
use Rattle.sim_machine.specs.State.{ConditionOf, EventOf, Calendar, Control, Calling, State, Plan}
use Rattle.sim_machine.specs.Events.{is_same, event_at, is_fail, is_pending, is_processed, callbacks_of, unregister, is_check_of}
use Rattle.sim_machine.specs.Conditions.{condition_of, condition_at, members_of, most_weight, take_checks_within, value_of, fix_value, build}
use Rattle.sim_machine.specs.Effect.{calendar}
use Rattle.sim_machine.specs.Steps.{call}
use Rattle.sim_machine.specs.Tellings.{Telling}
use Rattle.sim_machine.specs.Standing.{is_event_of, left_of}
use Rattle.sim_machine.specs.LawfulConditions.{is_build_of, is_below_all, checks_at, times_member, first_passes, builds_left_first}
use Rattle.sim_machine_law.proofs.Events.EventLaws.{is_same-self, is_same-yes}
use Rattle.sim_machine_law.proofs.Events.CallbackLaws.{count_by-cons, count_by-append, counts_one, counts_none, callbacks_at-called}
use Rattle.sim_machine_law.proofs.KeptParts.KeptRegistrationsCalendar.{pending_unprocessed}
use Rattle.sim_machine_law.proofs.KeptParts.KeptTimesCases.{if_cases}
use Rattle.sim_machine_law.proofs.KeptParts.KeptInterruptionsParts.{change_event-passes}
use Rattle.sim_lawful.proofs.Calendars.TakenCalendars.{MayTake, take_replaced, lawful_taken_called}
use Rattle.sim_lawful.proofs.Calendars.TakenChanges.{take_condition}
use Rattle.sim_lawful.proofs.Calendars.ReplacedCalendars.{replace_same}
use Rattle.sim_lawful.proofs.ConditionLaws.CheckedConditions.{counts, same_condition, conditions_recounted}
use Rattle.sim_lawful.proofs.ConditionLaws.CalledCheck.{HasMember, has_member, still_building}
use Rattle.sim_lawful.proofs.ConditionLaws.UnregisteredChecks.{unregistered-fewer, unregistered-one, take_unregistered, conditions_unregistered}
use Rattle.sim_machine_law.proofs.KeptParts.LawfulBasis.{ConditionsBasis, LawfulBasis}
use Rattle.sim_machine_law.proofs.KeptParts.KeptConditions.{first_failing}

-- ---- checks are taken out, down to a depth

fold_keeps : {X A : Type 0} (P : X → Type 0) (f : X → A → X) → ((x : X) (a : A) → P x → P (f x a)) → (xs : List A) (x : X) → P x → P (fold f x xs)
fold_keeps P f keeps [] x h = h
fold_keeps P f keeps (a ∷ xs) x h = fold_keeps P f keeps xs (f x a) (keeps x a h)

-- what stays where one check is taken out stays where all of them are
pub checks_taken : (P : Calendar → Type 0)
    → ((e cond : EventId) (c : Calendar) → P c → P (unregister e (is_check_of cond) c))
    → (n : ℕ) (cond : EventId) (c : Calendar) → P c → P (take_checks_within n cond c)
checks_taken P keeps zero cond c h = h
checks_taken P keeps (suc n) cond c h =
    fold_keeps P (λ d m. take_checks_within n m (unregister m (is_check_of cond) d)) (λ d m w. checks_taken P keeps n m (unregister m (is_check_of cond) d) (keeps m cond d w)) (members_of c cond) c h

-- how many checks of a condition are registered at an event
abbrev bears : EventId → EventId → Calendar → ℕ
bears cond f c = count_by (is_check_of cond) (callbacks_of f c)

taken_fewer : (n : ℕ) (m cond f : EventId) (c : Calendar) → bears cond f (take_checks_within n m c) ≤ bears cond f c
taken_fewer n m cond f c =
    checks_taken (λ d. bears cond f d ≤ bears cond f c) (λ e x d h. omega (arith, h, unregistered-fewer (is_check_of cond) e x f d)) n m c (omega arith)

-- at each member one check is taken out, so none is left where there were no more than it stands among the members
step_fewer : (n : ℕ) (cond m f : EventId) (ms : List EventId) (c : Calendar) → bears cond f c ≤ count_by (is_same f) (m ∷ ms)
    → (b : Bool) → is_same f m ≡ b
    → bears cond f (take_checks_within n m (unregister m (is_check_of cond) c)) ≤ count_by (is_same f) ms
step_fewer n cond m f ms c h true same =
    let at : f ≡ m = is_same-yes f m same in
    let few : bears cond m c ≤ count_by (is_same f) ms + 1 = subst (λ g. bears cond g c ≤ count_by (is_same f) ms + 1) at (omega (arith, h, count_by-cons (is_same f) m ms, counts_one (is_same f m) same)) in
    let one : bears cond m (unregister m (is_check_of cond) c) ≤ count_by (is_same f) ms = unregistered-one m cond c (count_by (is_same f) ms) few in
    let here : bears cond f (unregister m (is_check_of cond) c) ≤ count_by (is_same f) ms = subst (λ g. bears cond g (unregister m (is_check_of cond) c) ≤ count_by (is_same f) ms) (sym at) one in
    omega (arith, here, taken_fewer n m cond f (unregister m (is_check_of cond) c))
step_fewer n cond m f ms c h false differ =
    omega (arith, h, count_by-cons (is_same f) m ms, counts_none (is_same f m) differ, taken_fewer n m cond f (unregister m (is_check_of cond) c), unregistered-fewer (is_check_of cond) m cond f c)

none_left_of : (n : ℕ) (cond : EventId) (ms : List EventId) (c : Calendar)
    → ((f : EventId) → bears cond f c ≤ count_by (is_same f) ms) → (f : EventId)
    → bears cond f (fold (λ d m. take_checks_within n m (unregister m (is_check_of cond) d)) c ms) ≡ 0
none_left_of n cond [] c h f = omega (arith, h f)
none_left_of n cond (m ∷ ms) c h f =
    none_left_of n cond ms (take_checks_within n m (unregister m (is_check_of cond) c)) (λ g. step_fewer n cond m g ms c (h g) (is_same g m) refl) f

none_left : (n : ℕ) (cond : EventId) (c : Calendar) → ((f : EventId) → bears cond f c ≤ times_member c cond f)
    → (f : EventId) → bears cond f (take_checks_within (suc n) cond c) ≡ 0
none_left n cond c h f = none_left_of n cond (members_of c cond) c h f

-- ---- the build is called no more

-- a build that is to be called first is its condition's, and the only one
record IsOwnBuild (e cond : EventId) (left : List Callback) : Type 0 where
  same : e ≡ cond
  none : count_by (is_build_of cond) left ≡ 0

one_more_is_one : (n : ℕ) (a b : Bool) → ((n + 1 == 0) || (n + 1 == 1) && a && b) ≡ true → (n ≡ 0) × (a ≡ true)
one_more_is_one n a b h = (grind (arith, nat_tests), grind (arith, nat_tests))

own_build : (c : Calendar) (e cond : EventId) (left : List Callback) → ConditionsBasis c (Calling e (callback.Build cond ∷ left)) → IsOwnBuild e cond left
own_build c e cond left h =
    let n : ℕ = count_by (is_build_of cond) left in
    let sum : count_by (is_build_of cond) (callback.Build cond ∷ left) ≡ n + 1 = omega (arith, count_by-cons (is_build_of cond) (callback.Build cond) left, counts_one (is_same cond cond) (is_same-self cond)) in
    let both = one_more_is_one n (is_same e cond) (is_same cond cond) (ap (λ (m : ℕ). (m == 0) || (m == 1) && is_same e cond && is_same cond cond) (sym sum) ∙ h.left cond) in
    record { same = is_same-yes e cond both.1; none = both.0 }

-- no condition is its own member
no_own_member : (c : Calendar) (k : Control) (cond : EventId) → ConditionsBasis c k → times_member c cond cond ≡ 0
no_own_member c k cond h =
    elim (cases_lt 0 (times_member c cond cond)) [
      | inl some ↦ (let has : HasMember c cond cond = has_member c k cond cond h some in absurd (omega (arith, has.older)))
      | inr none ↦ omega (arith, none)
    ]

-- nothing that is left to call checks the condition that is processed
none_called : (c : Calendar) (cond f : EventId) (left : List Callback)
    → ConditionsBasis c (Calling cond (callback.Build cond ∷ left)) → (b : Bool) → is_same cond f ≡ b
    → count_by (is_check_of cond) (if b then left else []) ≡ 0
none_called c cond f left h false differ = refl
none_called c cond f left h true same =
    let before : Control = Calling cond (callback.Build cond ∷ left) in
    let after : Control = Calling cond left in
    let own : is_same cond cond ≡ true = is_same-self cond in
    let sum : checks_at c after cond cond ≡ count_by (is_check_of cond) (callbacks_of cond c) + count_by (is_check_of cond) left = rw own (count_by-append (is_check_of cond) (callbacks_of cond c) left) in
    omega (arith, sum, h.checks cond cond, no_own_member c before cond h, callbacks_at-called (is_check_of cond) c before after (callback.Build cond) cond refl refl)

-- of its callbacks the build was called, and nobody checks it any more
conditions_built : (c d : Calendar) (cond : EventId) (left : List Callback)
    → ConditionsBasis c (Calling cond (callback.Build cond ∷ left))
    → ConditionsBasis d (Calling cond (callback.Build cond ∷ left)) → ((f : EventId) → bears cond f d ≡ 0)
    → count_by (is_build_of cond) left ≡ 0 → ConditionsBasis d (Calling cond left)
conditions_built c d cond left was h none_bears none_builds =
    let x : Callback = callback.Build cond in
    let before : Control = Calling cond (x ∷ left) in
    let after : Control = Calling cond left in
    let counted : (other f : EventId) → checks_at d before other f ≡ checks_at d after other f = λ other f. omega (arith, callbacks_at-called (is_check_of other) d before after x f refl refl, counts_none (is_same cond f && false) (and_no (is_same cond f))) in
    let unchecked : (f : EventId) → checks_at d after cond f ≡ 0 = λ f. omega (arith, count_by-append (is_check_of cond) (callbacks_of f d) (if is_same cond f then left else []), none_bears f, none_called c cond f left was (is_same cond f) refl) in
    record {
      members = h.members;
      counts = h.counts;
      checks = λ other f. omega (arith, h.checks other f, counted other f);
      unbuilt = λ other f some. elim (cases_Bool (is_same other cond)) [
        | inl same ↦ (let P : EventId → Type 0 = λ g. 0 < checks_at d after g f in
            let one : 0 < checks_at d after cond f = subst P (is_same-yes other cond same) (ltb-true 0 (checks_at d after other f) some) in
            absurd (omega (arith, one, unchecked f)))
        | inr differ ↦ still_building (is_build_of other) (not (is_processed d other)) (is_same cond other) x left differ (h.unbuilt other f (lt-ltb 0 (checks_at d before other f) (omega (arith, counted other f, ltb-true 0 (checks_at d after other f) some))))
      ];
      builds = h.builds;
      first = h.first;
      left = λ other. elim (cases_Bool (is_same other cond)) [
        | inl same ↦ (let P : EventId → Type 0 = λ g. builds_left_first after g ≡ true in
            subst P (sym (is_same-yes other cond same)) (rw none_builds refl))
        | inr differ ↦ (let count : ℕ = count_by (is_build_of other) left in
            let same : count_by (is_build_of other) (x ∷ left) ≡ count = omega (arith, count_by-cons (is_build_of other) x left, counts_none (is_build_of other x) differ) in
            first_failing ((count == 1) && is_same cond other && first_passes (is_build_of other) left) (is_same cond other) (is_build_of other x) count differ
            (ap (λ (m : ℕ). (m == 0) || (m == 1) && is_same cond other && is_build_of other x) (sym same) ∙ h.left other))
      ];
    }
  where
    and_no : (b : Bool) → (b && false) ≡ false
    and_no true = refl
    and_no false = refl

-- ---- the value is fixed

-- an event that is not pending need not count well
fixed_counts : (b q : Bool) → b ≡ false → (not (true && b) || q) ≡ true
fixed_counts b q h = rw h refl

conditions_fixed : (cond : EventId) (d : Calendar) (k : Control) → is_pending d cond ≡ false → ConditionsBasis d k → ConditionsBasis (fix_value cond d) k
conditions_fixed cond d k turned h =
    let fixed : ConditionOf → ConditionOf = λ x. record x { value = value_of cond d } in
    let change : EventOf → EventOf = λ x. record x { condition = Some (fixed (condition_of x.condition)) } in
    conditions_recounted d (fix_value cond d) k (same_condition cond fixed d (λ x. refl))
    (λ f. change_event-passes counts cond f change d (fixed_counts (is_pending d cond) (is_below_all (fixed (condition_at d cond))) turned) (h.counts f)) h

lawful_built : {B : Type 0} (g : Plan B) (tell : Telling B) (sound : B → Type 0) (s : State B) (cond : EventId)
    (left : List Callback) → count_by (is_build_of cond) left ≡ 0 → s.control ≡ Calling cond (callback.Build cond ∷ left)
    → LawfulBasis g tell sound s → LawfulBasis g tell sound (call g cond (callback.Build cond) left s)
lawful_built g tell sound s cond left none calling h =
    let c : Calendar = calendar s in
    let before : Control = Calling cond (callback.Build cond ∷ left) in
    let after : Control = Calling cond left in
    let d : Calendar = take_checks_within (most_weight + 1) cond c in
    let fixed : ConditionOf → ConditionOf = λ x. record x { value = value_of cond d } in
    let was : ConditionsBasis c before = subst (λ k. ConditionsBasis c k) calling h.conditions in
    let take : MayTake s d = checks_taken (MayTake s) (λ f x n w. take_unregistered s f x n w) (most_weight + 1) cond c (take_replaced g tell sound s c h (replace_same g tell sound s h)) in
    let now : ConditionsBasis d before = checks_taken (λ n. ConditionsBasis n before) (λ f x n w. conditions_unregistered f x n before w) (most_weight + 1) cond c was in
    let bears_none : (f : EventId) → bears cond f d ≡ 0 = none_left 64 cond c (λ f. omega (arith, was.checks cond f, count_by-append (is_check_of cond) (callbacks_of f c) (if is_event_of before f then left_of before else []))) in
    let built : ConditionsBasis d after = conditions_built c d cond left was now bears_none none in
    let processed : is_processed d cond ≡ true = take.registrations.processing cond (ap (λ k. is_event_of k cond) calling ∙ is_same-self cond) in
    let turned : is_pending d cond ≡ false = not_both (is_pending d cond) (is_processed d cond) (pending_unprocessed d cond take.registrations.outcomes) processed in
    lawful_taken_called g tell sound s cond (callback.Build cond) left (build cond) calling (λ p. refl) h
    (if_cases (MayTake s) (is_fail (event_at d cond).outcome) d (fix_value cond d) (λ fails. take) (λ ok. take_condition s cond fixed d (λ x. refl) take))
    (if_cases (λ n. ConditionsBasis n after) (is_fail (event_at d cond).outcome) d (fix_value cond d) (λ fails. built) (λ ok. conditions_fixed cond d after turned built))
  where
    not_both : (a b : Bool) → (a ≡ true → b ≡ false) → b ≡ true → a ≡ false
    not_both false b apart w = refl
    not_both true b apart w = absurd (both_ways b (apart refl) w)

pub lawful-called_build : {B : Type 0} (g : Plan B) (tell : Telling B) (sound : B → Type 0) (s : State B) (e : EventId)
    (cond : EventId) (left : List Callback) → s.control ≡ Calling e (callback.Build cond ∷ left) → LawfulBasis g tell sound s
    → LawfulBasis g tell sound (call g e (callback.Build cond) left s)
lawful-called_build g tell sound s e cond left calling h =
    let own : IsOwnBuild e cond left = own_build (calendar s) e cond left (subst (λ k. ConditionsBasis (calendar s) k) calling h.conditions) in
    let P : EventId → Type 0 = λ f. s.control ≡ Calling f (callback.Build cond ∷ left) → LawfulBasis g tell sound (call g f (callback.Build cond) left s) in
    subst P (sym own.same) (λ w. lawful_built g tell sound s cond left own.none w h) calling

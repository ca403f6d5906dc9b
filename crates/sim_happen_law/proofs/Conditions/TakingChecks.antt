-- Checks are taken out of the callbacks of members.
use Rattle.std.proofs.Common.{◌≡◌, ℕ, ◌+◌, ◌-◌, ◌<◌, ◌≤◌, Bool, true, false, ◌&&◌, List, [], ◌∷◌, length, take, fold, refl, sym, ap, subst, ◌∙◌, arith, zero, suc, if◌then◌else◌}
use Rattle.std.specs.Prelude.{slice_index_or, All}
use Rattle.std.proofs.lemmas.List.{take_more, take_all}
use Rattle.std.proofs.lemmas.List.Sums.{fold_push}
use Rattle.sim_types.specs.declared.event.EventId.{EventId}
use Rattle.sim_types.specs.declared.event.Callback.{Callback}
use Rattle.sim_types.specs.declared.event.Callback.TheVariants as callback
use Rattle.sim_machine.specs.State.{EventOf, Registration, Calendar}
use Rattle.sim_machine.specs.Events.{is_same, unregister, without_first, is_check_of}
use Rattle.sim_machine.specs.Conditions.{condition_of, take_checks_within}
use Rattle.sim_machine.specs.Callbacks.{is_same_callback}
use Rattle.sim_happen_model.specs.TableOf.{IsKept, kept_condition}
use Rattle.sim_happen_model.specs.HappenOf.{HappenOf, KeepsRoom}
use Rattle.sim_happen_model.specs.Shows.{Follows}
use Rattle.sim_happen_law.proofs.Changes.Following.{follows_then, follows_none, turns_as, kept_then, read_is}
use Rattle.sim_happen_law.proofs.Changes.Unholding.{room_then}

-- ---- one check

pub same_check : (cond : EventId) (x : Callback) → is_same_callback (callback.Check cond) x ≡ is_check_of cond x
same_check cond (callback.Resume p) = refl
same_check cond (callback.Check e) = refl
same_check cond (callback.Build e) = refl
same_check cond (callback.TryPut r) = refl
same_check cond (callback.TryGet r) = refl
same_check cond (callback.Strike p) = refl
same_check cond callback.Stop = refl
same_check cond (callback.Trigger e) = refl

one_taken : (b c : Bool) (r : Registration) (rs xs ys : List Registration) → b ≡ c → xs ≡ ys → (if b then rs else r ∷ xs) ≡ (if c then rs else r ∷ ys)
one_taken b true r rs xs ys h k = rw h refl
one_taken b false r rs xs ys h k = rw h (ap (λ zs. r ∷ zs) k)

and_same : (a b c : Bool) → b ≡ c → (a && b) ≡ (a && c)
and_same a b c h = ap (λ d. a && d) h

abbrev at_event : EventId → (Callback → Bool) → Registration → Bool
at_event e test r = is_same r.event e && test r.callback

same_taken : (e : EventId) (t u : Callback → Bool) → ((x : Callback) → t x ≡ u x) → (rs : List Registration)
    → without_first (at_event e t) rs ≡ without_first (at_event e u) rs
same_taken e t u same [] = refl
same_taken e t u same (r ∷ rs) = one_taken (at_event e t r) (at_event e u r) r rs (without_first (at_event e t) rs) (without_first (at_event e u) rs) (and_same (is_same r.event e) (t r.callback) (u r.callback) (same r.callback)) (same_taken e t u same rs)

-- tests that say the same take out the same
pub unregister_same : (e : EventId) (t u : Callback → Bool) → ((x : Callback) → t x ≡ u x) → (c : Calendar) → unregister e t c ≡ unregister e u c
unregister_same e t u same c = ap (λ rs. let d : Calendar = record c { registered = rs } in d) (same_taken e t u same c.registered)

pub check_taken : (a b : HappenOf) (e cond : EventId) → Follows (unregister e (is_same_callback (callback.Check cond))) a b
    → Follows (unregister e (is_check_of cond)) a b
check_taken a b e cond t =
    turns_as (unregister e (is_same_callback (callback.Check cond))) (unregister e (is_check_of cond)) _ a b
    (λ c s. unregister_same e (is_same_callback (callback.Check cond)) (is_check_of cond) (same_check cond) c) t

-- ---- those of all members

abbrev pub taken_at : ℕ → EventId → Calendar → EventId → Calendar
taken_at depth cond d member = take_checks_within depth member (unregister member (is_check_of cond) d)

-- so many members were gone through
pub record TakesUpTo (depth : ℕ) (cond : EventId) (ms : List EventId) (i : ℕ) (old now : HappenOf) : Type 0 where
  pub follows : Follows (λ c. fold (taken_at depth cond) c (take i ms)) old now
  pub room : KeepsRoom old now
  pub all : ms ≡ (kept_condition old.events cond).members
  pub kept : All (IsKept old.events) ms

pub takes_none : (depth : ℕ) (cond : EventId) (ms : List EventId) (old : HappenOf) → ms ≡ (kept_condition old.events cond).members → All (IsKept old.events) ms
    → TakesUpTo depth cond ms 0 old old
takes_none depth cond ms old all kept = record { follows = follows_none old; room = record { events = refl; callbacks = omega arith; conditions = omega arith }; all = all; kept = kept }

pub member_there : (depth : ℕ) (cond : EventId) (ms : List EventId) (i : ℕ) (d : EventId) (old now : HappenOf)
    → i < length ms → TakesUpTo depth cond ms i old now
    → IsKept now.events (slice_index_or ms i d)
member_there depth cond ms i d old now within t = kept_then (λ c. fold (taken_at depth cond) c (take i ms)) old now (slice_index_or ms i d) t.follows (t.kept i d within)

pub takes_more : (depth : ℕ) (cond : EventId) (ms : List EventId) (i : ℕ) (d : EventId) (old now mid new : HappenOf)
    → i < length ms → TakesUpTo depth cond ms i old now
    → Follows (unregister (slice_index_or ms i d) (is_check_of cond)) now mid → KeepsRoom now mid
    → Follows (take_checks_within depth (slice_index_or ms i d)) mid new → KeepsRoom mid new → TakesUpTo depth cond ms (i + 1) old new
takes_more depth cond ms i d old now mid new within t one first rest second =
    let m : EventId = slice_index_or ms i d in
    let done : List EventId = take i ms in
    let each : Calendar → EventId → Calendar = taken_at depth cond in
    let both : Follows (λ c. each c m) now new = follows_then (unregister m (is_check_of cond)) (take_checks_within depth m) now mid new one rest in
    record {
      follows = turns_as (λ c. each (fold each c done) m) (λ c. fold each c (take (i + 1) ms)) _ old new
          (λ c s. sym (ap (fold each c) (take_more ms i d within) ∙ fold_push each c done m))
          (follows_then (λ c. fold each c done) (λ c. each c m) old now new t.follows both);
      room = room_then old now new t.room (room_then now mid new first second);
      all = t.all;
      kept = t.kept;
    }

taken_all : (a b : HappenOf) (depth : ℕ) (cond : EventId) (ms : List EventId) → IsKept a.events cond → ms ≡ (kept_condition a.events cond).members
    → Follows (λ c. fold (taken_at depth cond) c ms) a b → Follows (take_checks_within (suc depth) cond) a b
taken_all a b depth cond ms kept is p =
    turns_as (λ c. fold (taken_at depth cond) c ms) (take_checks_within (suc depth) cond) _ a b
    (λ c s. ap (fold (taken_at depth cond) c) (is ∙ ap (λ (x : EventOf). (condition_of x.condition).members) (read_is a c cond kept s))) p

pub takes_all : (depth : ℕ) (cond : EventId) (ms : List EventId) (i : ℕ) (old now : HappenOf) → 0 < depth → length ms ≤ i → IsKept old.events cond
    → TakesUpTo (depth - 1) cond ms i old now → Follows (take_checks_within depth cond) old now
takes_all zero cond ms i old now deep whole kept t = absurd (omega (arith, deep))
takes_all (suc depth) cond ms i old now deep whole kept t =
    let P : ℕ → List EventId → Type 0 = λ n xs. Follows (λ c. fold (taken_at n cond) c xs) old now in
    taken_all old now depth cond ms kept t.all (subst (P depth) (take_all i ms whole) (subst (λ n. P n (take i ms)) (omega arith) t.follows))

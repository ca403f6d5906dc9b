-- All scopes of a process are left, one after another.
use Rattle.std.proofs.Common.{◌≡◌, ◌≢◌, ℕ, ◌+◌, ◌<◌, ◌≤◌, Bool, true, false, not, List, [], ◌∷◌, ◌++◌, Option, Some, None, length, filter, refl, sym, ap, ◌∙◌, arith, if◌then◌else◌, All, AllPairs}
use Rattle.std.specs.Prelude.{fold, reverse, is_some, IsSomeAnd, option_and_then}
use Rattle.std.specs.Option.{option_map}
use Rattle.std.proofs.lemmas.Bool.{false≢true}
use Rattle.std.proofs.lemmas.Option.{none-some}
use Rattle.std.proofs.lemmas.List.{reverse-append}
use Rattle.std.proofs.lemmas.List.Elements.{All-filter, All-head, All-tail}
use Rattle.std.proofs.lemmas.List.Kept.{AllPairs-filter}
use Rattle.sim_types.specs.declared.event.EventId.{EventId}
use Rattle.sim_types.specs.declared.event.ProcId.{ProcId}
use Rattle.sim_types.specs.declared.event.Scope.{Scope}
use Rattle.sim_types.proofs.Permutations.{AllPairs-head, AllPairs-tail}
use Rattle.sim_machine.specs.State.{OpenScope, State}
use Rattle.sim_machine.specs.Bodies.{BodyOf}
use Rattle.sim_machine.specs.Events.{is_process, is_same}
use Rattle.sim_machine.specs.Users.{first_of_list}
use Rattle.sim_machine.specs.Effect.{calendar}
use Rattle.sim_machine.specs.MayAsk.{most_scopes}
use Rattle.sim_machine.specs.Scopes.{scopes_inwards, close_scope, close_if_any, leave_innermost, leave_all}
use Rattle.sim_machine.specs.LawfulWaiting.{AreOfTwo}
use Rattle.sim_lawful.proofs.Drops.DroppedWaiting.{All-reverse}
use Rattle.sim_machine_law.proofs.Events.EventLaws.{is_same-self, is_same-yes}
use Rattle.sim_machine_law.proofs.Processes.LeftScopes.{keeps, filter_swap, innermost_later, innermost_one, none_is_some, one_is_some}
use Rattle.sim_machine_law.proofs.Ledger.TriedQueues.{one_has}
use Rattle.sim_procs.specs.RecordOf.{RecordOf, record_of, innermost, without_innermost}
use Rattle.sim_steps_model.specs.PartsOf.{PartsOf}
use Rattle.sim_steps_model.specs.Becoming.{Stands, Becomes}
use Rattle.sim_steps_model.specs.Dropping.{CanLeave, IsOpenIn, LeavesAll, LeavesInnermost, without_scopes}
use Rattle.sim_steps_law.proofs.Kernels.Keeping.{few_same}
use Rattle.sim_steps_law.proofs.Kernels.Becoming.{becomes_as, becomes_then}
use Rattle.sim_steps_law.proofs.Ends.Ending.{record_changed}
use Rattle.sim_steps_law.proofs.Scopes.HeldScopes.{none_found}
use Rattle.sim_steps_law.proofs.Scopes.LeavingInnermost.{open_still}

-- ---- all scopes are left by leaving the innermost again and again

-- once the innermost is closed, the others stand in order
inwards_left : (ys : List OpenScope) (x : OpenScope) → AllPairs AreOfTwo ys → first_of_list (reverse ys) ≡ Some x →
    reverse ys ≡ x ∷ reverse (filter (keeps x.request) ys)
inwards_left [] x k h = absurd (none_is_some x h)
inwards_left (y ∷ []) x k h =
    let same : y ≡ x = one_is_some y x h in
    let out : keeps x.request y ≡ false = ap (λ (v : OpenScope). keeps x.request v) same ∙ ap not (is_same-self x.request) in
    ap (λ (v : OpenScope). v ∷ []) same ∙ sym (ap (λ (b : Bool). x ∷ reverse (if b then y ∷ [] else [])) out)
inwards_left (y ∷ v ∷ ys) x k h =
    let inner : first_of_list (reverse (v ∷ ys)) ≡ Some x = sym (innermost_later y v ys) ∙ h in
    let differ : y.request ≢ x.request = one_has (AreOfTwo y) (v ∷ ys) x (AllPairs-head AreOfTwo y (v ∷ ys) k) (innermost_one (v ∷ ys) x inner) in
    let rest : List OpenScope = filter (keeps x.request) (v ∷ ys) in
    let stays : keeps x.request y ≡ true = not_same (is_same y.request x.request) (λ same. differ (is_same-yes y.request x.request same)) in
    reverse-append (y ∷ []) (v ∷ ys)
    ∙ (ap (λ zs. zs ++ y ∷ []) (inwards_left (v ∷ ys) x (AllPairs-tail AreOfTwo y (v ∷ ys) k) inner)
    ∙ (ap (λ zs. x ∷ zs) (sym (reverse-append (y ∷ []) rest)) ∙ sym (ap (λ (b : Bool). x ∷ reverse (if b then y ∷ rest else rest)) stays)))
  where
    not_same : (b : Bool) → (b ≡ true → ⊥) → not b ≡ true
    not_same true h = absurd (h refl)
    not_same false h = refl

-- to leave the innermost first changes nothing where all are left
pub first_left : {B : Type 0} (p : ProcId) (s : State B) → AllPairs AreOfTwo s.scopes → leave_all p (leave_innermost p s) ≡ leave_all p s
first_left {B} p s apart = at (first_of_list (scopes_inwards p s)) refl
  where
    at : (o : Option OpenScope) → first_of_list (scopes_inwards p s) ≡ o → leave_all p (close_if_any o s) ≡ leave_all p s
    at None is = refl
    at (Some z) is =
        let mine : OpenScope → Bool = λ x. is_process x.process p in
        let own : List OpenScope = filter mine s.scopes in
        let whole : scopes_inwards p s ≡ z ∷ reverse (filter (keeps z.request) own) =
        inwards_left own z (AllPairs-filter AreOfTwo mine s.scopes apart) is in
        ap (λ xs. fold close_scope (close_scope s z) (reverse xs)) (filter_swap mine (keeps z.request) s.scopes)
        ∙ sym (ap (λ xs. fold close_scope s xs) whole)

-- and where none is open, nothing is done
pub none_left : {B : Type 0} (p : ProcId) (s : State B) → filter (λ x. is_process x.process p) s.scopes ≡ [] → leave_all p s ≡ s
none_left p s none = ap (λ xs. fold close_scope s (reverse xs)) none

-- ---- an event that is no request of a scope stays open

still_open : {B : Type 0} (xs : List OpenScope) (s : State B) (e : EventId) → All (λ x. x.request.0 ≢ e.0) xs → IsOpenIn (calendar s) e →
    IsOpenIn (calendar (fold close_scope s xs)) e
still_open [] s e apart h = h
still_open (x ∷ xs) s e apart h =
    let P : OpenScope → Type 0 = λ y. y.request.0 ≢ e.0 in
    still_open xs (close_scope s x) e (All-tail P x xs apart) (open_still [] s x e (λ same. All-head P x xs apart (sym same)) h)

pub open_after : {B : Type 0} (p : ProcId) (s : State B) (e : EventId) → All (λ x. x.request.0 ≢ e.0) s.scopes → IsOpenIn (calendar s) e →
    IsOpenIn (calendar (leave_all p s)) e
open_after p s e apart h =
    let mine : OpenScope → Bool = λ x. is_process x.process p in
    let P : OpenScope → Type 0 = λ x. x.request.0 ≢ e.0 in
    still_open (scopes_inwards p s) s e (All-reverse P (filter mine s.scopes) (All-filter mine P s.scopes apart)) h

-- ---- the loop

innermost_within : (xs : List Scope) (x : Scope) → innermost xs ≡ Some x → length xs ≡ length (without_innermost xs) + 1
innermost_within [] x h = absurd (none-some x h)
innermost_within (s ∷ []) x h = refl
innermost_within (s ∷ t ∷ xs) x h = omega (arith, innermost_within (t ∷ xs) x h)

some_within : (xs : List Scope) → is_some (innermost xs) ≡ true → length xs ≡ length (without_innermost xs) + 1
some_within xs h = at (innermost xs) refl h
  where
    at : (o : Option Scope) → innermost xs ≡ o → is_some o ≡ true → length xs ≡ length (without_innermost xs) + 1
    at None is k = absurd (false≢true k)
    at (Some x) is k = innermost_within xs x is

none_within : (xs : List Scope) → is_some (innermost xs) ≡ false → xs ≡ []
none_within [] h = refl
none_within (s ∷ []) h = absurd (false≢true (sym h))
none_within (s ∷ t ∷ xs) h = absurd (not_none t xs h)
  where
    not_none : (v : Scope) (ys : List Scope) → is_some (innermost (v ∷ ys)) ≡ false → ⊥
    not_none v [] k = false≢true (sym k)
    not_none v (y ∷ ys) k = not_none y ys k

-- from a to b some scopes of p were left; r is its record, of which these scopes are still open
pub record LeavesSome {B Code : Type 0} (body : BodyOf B Code) (p : ProcId) (a b : PartsOf B Code) : Type 0 where
  pub does : State B → State B
  pub becomes : Becomes body does a b
  pub same : (s : State B) → Stands a s → leave_all p (does s) ≡ leave_all p s
  pub can : CanLeave body b
  pub was : RecordOf B
  pub still : List Scope
  pub gone : ℕ
  pub before : record_of p a.live ≡ Some was
  pub now : record_of p b.live ≡ Some (record was { scopes = still })
  pub count : length was.scopes ≡ gone + length still
  pub control : b.control ≡ a.control
  pub made : length b.shared.happen.events ≤ length a.shared.happen.events + gone
  pub events : a.shared.happen.spare.events ≤ b.shared.happen.spare.events + gone
  pub callbacks : a.shared.happen.spare.callbacks ≤ b.shared.happen.spare.callbacks + gone

pub leaves_first : {B Code : Type 0} {body : BodyOf B Code} (p : ProcId) (a : PartsOf B Code) (r : RecordOf B) → record_of p a.live ≡ Some r →
    CanLeave body a → LeavesSome body p a a
leaves_first p a r found can =
    record {
      does = λ s. s;
      becomes = record {
        each = λ s h. h;
        accounts = λ todo s h k. k;
        opened = record { code = refl; setup = refl; seed = refl };
        few = few_same a a refl;
      };
      same = λ s h. refl;
      can = can;
      was = r;
      still = r.scopes;
      gone = 0;
      before = found;
      now = found;
      count = omega arith;
      control = refl;
      made = omega arith;
      events = omega arith;
      callbacks = omega arith;
    }

-- whether one is still open
pub still_some : {B Code : Type 0} {body : BodyOf B Code} (p : ProcId) (a b : PartsOf B Code) (l : LeavesSome body p a b) →
    is_some (option_and_then (λ r. innermost r.scopes) (record_of p b.live)) ≡ is_some (innermost l.still)
still_some {B} p a b l = ap (λ (o : Option (RecordOf B)). is_some (option_and_then (λ r. innermost r.scopes) o)) l.now

pub leaves_next : {B Code : Type 0} {body : BodyOf B Code} (p : ProcId) (a b c : PartsOf B Code) (l : LeavesSome body p a b) →
    is_some (innermost l.still) ≡ true → LeavesInnermost body p b c →
    LeavesSome body p a c
leaves_next {B} {Code} p a b c l some k =
    let fewer : length l.still ≡ length (without_innermost l.still) + 1 = some_within l.still some in
    let popped : RecordOf B → RecordOf B = λ r. record r { scopes = without_innermost r.scopes } in
    record {
      does = λ s. leave_innermost p (l.does s);
      becomes = becomes_then l.does (leave_innermost p) a b c l.becomes k.becomes;
      same = λ s h. first_left p (l.does s) (l.becomes.each s h).apart ∙ l.same s h;
      can = k.can;
      was = l.was;
      still = without_innermost l.still;
      gone = l.gone + 1;
      before = l.before;
      now = ap (λ (live : List (RecordOf B)). record_of p live) k.live
          ∙ (record_changed p popped (λ r. refl) b.live ∙ ap (λ (o : Option (RecordOf B)). option_map popped o) l.now);
      count = omega (arith, l.count, fewer);
      control = k.control ∙ l.control;
      made = omega (arith, l.made, k.made);
      events = omega (arith, l.events, k.events);
      callbacks = omega (arith, l.callbacks, k.callbacks);
    }

-- fewer scopes are open than before
pub leaves_fewer : {B Code : Type 0} {body : BodyOf B Code} (p : ProcId) (a b : PartsOf B Code) (l : LeavesSome body p a b) →
    is_some (innermost l.still) ≡ true →
    length (without_innermost l.still) < length l.still
leaves_fewer p a b l some = omega (arith, some_within l.still some)

-- when none is open any more, all were left
pub leaves_last : {B Code : Type 0} {body : BodyOf B Code} (p : ProcId) (a b c : PartsOf B Code) (l : LeavesSome body p a b) →
    is_some (innermost l.still) ≡ false → LeavesInnermost body p b c →
    LeavesAll body p a c
leaves_last {B} {Code} p a b c l none k =
    let over : l.still ≡ [] = none_within l.still none in
    let with_scopes : List Scope → RecordOf B = λ xs. record l.was { scopes = xs } in
    let popped : RecordOf B → RecordOf B = λ r. record r { scopes = without_innermost r.scopes } in
    let now : record_of p b.live ≡ Some (with_scopes []) = l.now ∙ ap (λ xs. Some (with_scopes xs)) over in
    let later : record_of p c.live ≡ Some (with_scopes []) =
    ap (λ (live : List (RecordOf B)). record_of p live) k.live
    ∙ (record_changed p popped (λ r. refl) b.live ∙ ap (λ (o : Option (RecordOf B)). option_map popped o) now) in
    record {
      becomes = becomes_as (λ s. leave_innermost p (l.does s)) (leave_all p) a c
          (λ s h.
          let t : State B = l.does s in
          let at : Stands b t = l.becomes.each s h in
          sym (none_left p (leave_innermost p t) (none_found c p (with_scopes []) later refl (leave_innermost p t) (k.becomes.each t at)))
          ∙ (first_left p t at.apart ∙ l.same s h))
          (becomes_then l.does (leave_innermost p) a b c l.becomes k.becomes);
      can = k.can;
      found = later ∙ sym (ap (λ (o : Option (RecordOf B)). option_map without_scopes o) l.before);
      control = k.control ∙ l.control;
    }

-- ---- by the record of the process, if it has one

-- how many scopes are open
abbrev pub scope_count : {B : Type 0} → Option (RecordOf B) → ℕ
scope_count None = 0
scope_count (Some r) = length r.scopes

pub few_open : {B : Type 0} (o : Option (RecordOf B)) → IsSomeAnd o (λ r. length r.scopes ≤ most_scopes) → scope_count o ≤ most_scopes
few_open None h = absurd h
few_open (Some r) h = h

module _ {B Code : Type 0} {body : BodyOf B Code} (p : ProcId) {a b : PartsOf B Code} (l : LeavesSome body p a b) where
  -- so many may be open as were at most
  pub gone_few : IsSomeAnd (record_of p a.live) (λ r. length r.scopes ≤ most_scopes) → l.gone + length l.still ≤ most_scopes
  gone_few few = let h : length l.was.scopes ≤ most_scopes = rw l.before at few in omega (arith, h, l.count)

  abbrev HasOne : Bool → Type 0
  HasOne v = is_some (option_and_then (λ r. innermost r.scopes) (record_of p b.live)) ≡ v

  module _ (c : PartsOf B Code) (k : LeavesInnermost body p b c) where
    -- where one was open, there is one fewer
    pub some_next : HasOne true → LeavesSome body p a c
    some_next one = leaves_next p a b c l (sym (still_some p a b l) ∙ one) k

    pub some_fewer : HasOne true → scope_count (record_of p c.live) < scope_count (record_of p b.live)
    some_fewer one =
        let next : LeavesSome body p a c = some_next one in
        let over : is_some (innermost l.still) ≡ true = sym (still_some p a b l) ∙ one in
        let popped : RecordOf B → RecordOf B = λ r. record r { scopes = without_innermost r.scopes } in
        let later : record_of p c.live ≡ Some (record l.was { scopes = without_innermost l.still }) =
        ap (λ (live : List (RecordOf B)). record_of p live) k.live
        ∙ (record_changed p popped (λ r. refl) b.live ∙ ap (λ (o : Option (RecordOf B)). option_map popped o) l.now) in
        omega (arith, ap scope_count later, ap scope_count l.now, leaves_fewer p a b l over)

    -- where none was, all were left
    pub some_last : HasOne false → LeavesAll body p a c
    some_last none = leaves_last p a b c l (sym (still_some p a b l) ∙ none) k

pub leaves_start : {B Code : Type 0} {body : BodyOf B Code} (p : ProcId) (a : PartsOf B Code) →
    IsSomeAnd (record_of p a.live) (λ r. length r.scopes ≤ most_scopes) →
    CanLeave body a → LeavesSome body p a a
leaves_start {B} {Code} {body} p a few can = at (record_of p a.live) refl few
  where
    at : (o : Option (RecordOf B)) → record_of p a.live ≡ o → IsSomeAnd o (λ r. length r.scopes ≤ most_scopes) → LeavesSome body p a a
    at None found h = absurd h
    at (Some r) found h = leaves_first p a r found can

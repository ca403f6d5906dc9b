-- A scope more is open, or the innermost is left, in the record of a process as in the machine.
use Rattle.std.proofs.Common.{◌≡◌, ◌≢◌, ℕ, Bool, true, false, not, List, [], ◌∷◌, ◌++◌, refl, sym, ap, subst, ◌∙◌, map, filter, Some, if◌then◌else◌}
use Rattle.std.specs.Prelude.{All, AllPairs, ◌==◌, reverse, IsSome}
use Rattle.std.specs.Option.{option_map}
use Rattle.std.specs.List.Sorted.{IsPermutation}
use Rattle.std.proofs.lemmas.Bool.{eqb-true, eqb-false, eq-eqb}
use Rattle.std.proofs.lemmas.List.{append-nil, map-append}
use Rattle.std.proofs.lemmas.List.Elements.{All-append, All-cons, All-filter, All-head, All-nil, All-tail, filter-append, filter_passes}
use Rattle.std.proofs.lemmas.List.Kept.{AllPairs-filter}
use Rattle.std.proofs.lemmas.List.Quantifiers.{all_pairs_push}
use Rattle.sim_types.specs.declared.event.EventId.{EventId}
use Rattle.sim_types.specs.declared.event.ProcId.{ProcId}
use Rattle.sim_types.specs.declared.event.Scope.{Scope}
use Rattle.sim_types.proofs.Permutations.{AllPairs-head, AllPairs-tail}
use Rattle.sim_machine.specs.State.{OpenScope, ProcessOf, State}
use Rattle.sim_machine.specs.Events.{is_process, is_same}
use Rattle.sim_machine.specs.Processes.{is_alive}
use Rattle.sim_machine.specs.Scopes.{open_scope}
use Rattle.sim_machine.specs.Users.{first_of_list}
use Rattle.sim_machine.specs.Effect.{calendar}
use Rattle.sim_machine.specs.Standing.{was_made}
use Rattle.sim_machine.specs.LawfulWaiting.{AreOfTwo}
use Rattle.sim_machine_law.proofs.Events.EventLaws.{is_same-self, is_same-yes}
use Rattle.sim_machine_law.proofs.KeptParts.KeptProcessesParts.{is_process-yes}
use Rattle.sim_machine_law.proofs.Processes.LeftScopes.{keeps, filter_swap, innermost_later, innermost_one, none_is_some, one_is_some, scopes_elsewhere, one_of_filter}
use Rattle.sim_machine_law.proofs.Ledger.TriedQueues.{IsOneOf, one_has}
use Rattle.sim_procs.specs.RecordOf.{RecordOf, record_of, change_record, innermost, without_innermost}
use Rattle.sim_steps_model.specs.PartsOf.{PartsOf}
use Rattle.sim_steps_model.specs.StandsFor.{process_of, scopes_of}
use Rattle.sim_steps_model.specs.Becoming.{Stands}
use Rattle.sim_steps_law.proofs.Polls.Interruptions.{alive_is}

-- ---- records keep their processes

same_at : {B : Type 0} (change : RecordOf B → RecordOf B) (r : RecordOf B) (b : Bool) → process_of (change r) ≡ process_of r →
    process_of (if b then change r else r) ≡ process_of r
same_at change r true h = h
same_at change r false h = refl

pub same_processes : {B : Type 0} (p : ProcId) (change : RecordOf B → RecordOf B) → ((r : RecordOf B) → process_of (change r) ≡ process_of r) →
    (live : List (RecordOf B)) → map process_of (change_record p change live) ≡ map process_of live
same_processes p change same [] = refl
same_processes {B} p change same (r ∷ live) =
    let changed : RecordOf B = if r.id.0 == p.0 then change r else r in
    ap (λ (y : ProcessOf B). y ∷ map process_of (change_record p change live)) (same_at change r (r.id.0 == p.0) (same r))
    ∙ ap (λ ys. process_of r ∷ ys) (same_processes p change same live)

-- ---- a scope is opened

abbrev pub scope_in : OpenScope → Scope
scope_in x = record { request = x.request; res = x.res }

if_one : (b : Bool) (z : OpenScope) → map scope_in (if b then z ∷ [] else []) ≡ (if b then scope_in z ∷ [] else [])
if_one true z = refl
if_one false z = refl

module _ {B : Type 0} (p : ProcId) (e : EventId) (res : ℕ) (s : State B) where
  abbrev z : OpenScope
  z = record { process = p; request = e; res = res }

  abbrev opened : State B
  opened = open_scope p e res s

  -- who opened it has it besides, and no other
  scopes_more : (q : ProcId) → scopes_of q opened ≡ scopes_of q s ++ (if p.0 == q.0 then scope_in z ∷ [] else [])
  scopes_more q =
      let test : OpenScope → Bool = λ x. is_process x.process q in
      ap (map scope_in) (filter-append test s.scopes (z ∷ []))
      ∙ (map-append scope_in (filter test s.scopes) (filter test (z ∷ [])) ∙ ap (λ xs. scopes_of q s ++ xs) (if_one (p.0 == q.0) z))

  abbrev pushed : RecordOf B → RecordOf B
  pushed r = record r { scopes = r.scopes ++ scope_in z ∷ [] }

  one_opened : (r : RecordOf B) (b : Bool) → (r.id.0 == p.0) ≡ b → r.scopes ≡ scopes_of r.id s →
      (if b then pushed r else r).scopes ≡ scopes_of (if b then pushed r else r).id opened
  one_opened r true is h =
      let same : (p.0 == r.id.0) ≡ true = eq-eqb p.0 r.id.0 (sym (eqb-true r.id.0 p.0 is)) in
      ap (λ xs. xs ++ scope_in z ∷ []) h ∙ sym (scopes_more r.id ∙ rw same refl)
  one_opened r false is h =
      let other : (p.0 == r.id.0) ≡ false = fails (p.0 == r.id.0) (λ k. eqb-false r.id.0 p.0 is (sym (eqb-true p.0 r.id.0 k))) in
      h ∙ sym (scopes_more r.id ∙ (ap (λ b. scopes_of r.id s ++ (if b then scope_in z ∷ [] else [])) other ∙ append-nil (scopes_of r.id s)))
    where
      fails : (b : Bool) → (b ≡ true → ⊥) → b ≡ false
      fails true h = absurd (h refl)
      fails false h = refl

  all_opened : (live : List (RecordOf B)) → All (λ r. r.scopes ≡ scopes_of r.id s) live →
      All (λ r. r.scopes ≡ scopes_of r.id opened) (change_record p pushed live)
  all_opened [] h = All-nil (λ r. r.scopes ≡ scopes_of r.id opened)
  all_opened (r ∷ live) h =
      All-cons (λ y. y.scopes ≡ scopes_of y.id opened) (if r.id.0 == p.0 then pushed r else r) (change_record p pushed live)
      (one_opened r (r.id.0 == p.0) refl (All-head (λ y. y.scopes ≡ scopes_of y.id s) r live h))
      (all_opened live (All-tail (λ y. y.scopes ≡ scopes_of y.id s) r live h))

  -- a request that stands in no scope
  pub opened_stands : {Code : Type 0} (a : PartsOf B Code) → Stands a s → IsSome (record_of p a.live) → All (λ x. x.request ≢ e) s.scopes →
      was_made (calendar s) e ≡ true → Stands (record a { live = change_record p pushed a.live }) opened
  opened_stands a h found other made =
      let P : List (ProcessOf B) → Type 0 = λ xs. IsPermutation s.processes xs in
      let alive : is_alive p s ≡ true = alive_is a p s h ∙ found in
      record {
        stands = record {
          facilities = h.stands.facilities;
          processed = h.stands.processed;
          generator = h.stands.generator;
          processes = subst P (sym (same_processes p pushed (λ r. refl) a.live)) h.stands.processes;
          scopes = all_opened a.live h.stands.scopes;
          control = h.stands.control;
        };
        distinct = h.distinct;
        owned = All-append (λ x. is_alive x.process s ≡ true) s.scopes (z ∷ []) h.owned
            (All-cons (λ (x : OpenScope). is_alive x.process s ≡ true) z [] alive (All-nil (λ (x : OpenScope). is_alive x.process s ≡ true)));
        apart = all_pairs_push AreOfTwo s.scopes z h.apart other;
        entered = All-append (λ x. was_made (calendar s) x.request ≡ true) s.scopes (z ∷ []) h.entered
            (All-cons (λ (x : OpenScope). was_made (calendar s) x.request ≡ true) z
            [] made (All-nil (λ (x : OpenScope). was_made (calendar s) x.request ≡ true)));
      }

-- ---- the innermost scope is closed

pub innermost_mapped : (ys : List OpenScope) → innermost (map scope_in ys) ≡ option_map scope_in (first_of_list (reverse ys))
innermost_mapped [] = refl
innermost_mapped (y ∷ []) = refl
innermost_mapped (y ∷ v ∷ ys) = innermost_mapped (v ∷ ys) ∙ ap (option_map scope_in) (sym (innermost_later y v ys))

-- all others stay
own_left : (ys : List OpenScope) (x : OpenScope) → AllPairs AreOfTwo ys → first_of_list (reverse ys) ≡ Some x →
    map scope_in (filter (keeps x.request) ys) ≡ without_innermost (map scope_in ys)
own_left [] x k h = absurd (none_is_some x h)
own_left (y ∷ []) x k h =
    let out : keeps x.request y ≡ false = ap (λ (v : OpenScope). keeps x.request v) (one_is_some y x h) ∙ ap not (is_same-self x.request) in
    ap (λ (b : Bool). map scope_in (if b then y ∷ [] else [])) out
own_left (y ∷ v ∷ ys) x k h =
    let inner : first_of_list (reverse (v ∷ ys)) ≡ Some x = sym (innermost_later y v ys) ∙ h in
    let differ : y.request ≢ x.request = one_has (AreOfTwo y) (v ∷ ys) x (AllPairs-head AreOfTwo y (v ∷ ys) k) (innermost_one (v ∷ ys) x inner) in
    ap (λ (b : Bool). map scope_in (if b then y ∷ filter (keeps x.request) (v ∷ ys) else filter (keeps x.request) (v ∷ ys)))
    (stays (is_same y.request x.request) (λ same. differ (is_same-yes y.request x.request same)))
    ∙ ap (λ xs. scope_in y ∷ xs) (own_left (v ∷ ys) x (AllPairs-tail AreOfTwo y (v ∷ ys) k) inner)
  where
    stays : (b : Bool) → (b ≡ true → ⊥) → not b ≡ true
    stays true h = absurd (h refl)
    stays false h = refl

module _ {B : Type 0} (p : ProcId) (x : OpenScope) (s : State B) (apart : AllPairs AreOfTwo s.scopes)
    (first : first_of_list (reverse (filter (λ y. is_process y.process p) s.scopes)) ≡ Some x) where
  abbrev closed : State B
  closed = record s { scopes = filter (keeps x.request) s.scopes }

  abbrev popped_record : RecordOf B → RecordOf B
  popped_record r = record r { scopes = without_innermost r.scopes }

  own : IsOneOf (filter (λ y. is_process y.process p) s.scopes) x
  own = innermost_one (filter (λ y. is_process y.process p) s.scopes) x first

  its : is_process x.process p ≡ true
  its = one_has (λ y. is_process y.process p ≡ true) (filter (λ y. is_process y.process p) s.scopes) x
      (filter_passes (λ y. is_process y.process p) s.scopes) own

  here : scopes_of p closed ≡ without_innermost (scopes_of p s)
  here =
      let test : OpenScope → Bool = λ y. is_process y.process p in
      ap (map scope_in) (filter_swap test (keeps x.request) s.scopes)
      ∙ own_left (filter test s.scopes) x (AllPairs-filter AreOfTwo test s.scopes apart) first

  one_closed : (r : RecordOf B) (b : Bool) → (r.id.0 == p.0) ≡ b → r.scopes ≡ scopes_of r.id s →
      (if b then popped_record r else r).scopes ≡ scopes_of (if b then popped_record r else r).id closed
  one_closed r true is h =
      let same : r.id ≡ p = is_process-yes r.id p is in
      ap without_innermost (h ∙ ap (λ q. scopes_of q s) same) ∙ (sym here ∙ ap (λ q. scopes_of q closed) (sym same))
  one_closed r false is h =
      let other : is_process x.process r.id ≡ false =
      fails (is_process x.process r.id) (λ k. eqb-false r.id.0 p.0 is (sym (eqb-true x.process.0 r.id.0 k) ∙ eqb-true x.process.0 p.0 its)) in
      h ∙ sym (ap (map scope_in) (scopes_elsewhere s.scopes x r.id apart (one_of_filter (λ y. is_process y.process p) s.scopes x own) other))
    where
      fails : (b : Bool) → (b ≡ true → ⊥) → b ≡ false
      fails true h = absurd (h refl)
      fails false h = refl

  all_closed : (live : List (RecordOf B)) → All (λ r. r.scopes ≡ scopes_of r.id s) live →
      All (λ r. r.scopes ≡ scopes_of r.id closed) (change_record p popped_record live)
  all_closed [] h = All-nil (λ r. r.scopes ≡ scopes_of r.id closed)
  all_closed (r ∷ live) h =
      All-cons (λ y. y.scopes ≡ scopes_of y.id closed) (if r.id.0 == p.0 then popped_record r else r) (change_record p popped_record live)
      (one_closed r (r.id.0 == p.0) refl (All-head (λ y. y.scopes ≡ scopes_of y.id s) r live h))
      (all_closed live (All-tail (λ y. y.scopes ≡ scopes_of y.id s) r live h))

  pub closed_stands : {Code : Type 0} (a : PartsOf B Code) → Stands a s → Stands (record a { live = change_record p popped_record a.live }) closed
  closed_stands a h =
      let P : List (ProcessOf B) → Type 0 = λ xs. IsPermutation s.processes xs in
      record {
        stands = record {
          facilities = h.stands.facilities;
          processed = h.stands.processed;
          generator = h.stands.generator;
          processes = subst P (sym (same_processes p popped_record (λ r. refl) a.live)) h.stands.processes;
          scopes = all_closed a.live h.stands.scopes;
          control = h.stands.control;
        };
        distinct = h.distinct;
        owned = All-filter (keeps x.request) (λ y. is_alive y.process s ≡ true) s.scopes h.owned;
        apart = AllPairs-filter AreOfTwo (keeps x.request) s.scopes apart;
        entered = All-filter (keeps x.request) (λ y. was_made (calendar s) y.request ≡ true) s.scopes h.entered;
      }

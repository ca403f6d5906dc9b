-- The record of one process is changed, and the others stay.
use Rattle.std.proofs.Common.{◌≡◌, ◌≢◌, ℕ, Bool, true, false, List, [], ◌∷◌, Option, Some, refl, sym, ap, subst, ◌∙◌, arith, ⊎_elim, map, cond}
use Rattle.std.proofs.Common.{if◌then◌else◌}
use Rattle.std.specs.Prelude.{All, AllPairs, ◌==◌}
use Rattle.std.specs.List.Sorted.{IsPermutation}
use Rattle.std.specs.Option.{option_map}
use Rattle.std.proofs.lemmas.Bool.{cases_eq}
use Rattle.std.proofs.lemmas.Bool.Decides.{nat_tests}
use Rattle.std.proofs.lemmas.Option.{none-some, same_Some}
use Rattle.std.proofs.lemmas.List.Elements.{All-cons, All-head, All-tail, All-nil}
use Rattle.sim_types.specs.declared.event.ProcId.{ProcId}
use Rattle.sim_types.specs.declared.event.Scope.{Scope}
use Rattle.sim_types.proofs.Permutations.{AllPairs-head, AllPairs-tail, AllPairs-IsPermutation}
use Rattle.sim_machine.specs.State.{ProcessOf, State}
use Rattle.sim_machine.specs.Events.{is_process}
use Rattle.sim_machine.specs.Processes.{change_process}
use Rattle.sim_machine_law.proofs.KeptParts.KeptProcessesChanges.{distinct-mapped}
use Rattle.sim_machine_law.proofs.KeptParts.KeptProcessesParts.{same_process}
use Rattle.sim_procs.specs.RecordOf.{RecordOf, change_record, record_of}
use Rattle.sim_steps_model.specs.StandsFor.{process_of}

one_mapped : {B : Type 0} (change : RecordOf B → RecordOf B) (changes : ProcessOf B → ProcessOf B) (r : RecordOf B) (b : Bool) →
    process_of (change r) ≡ changes (process_of r) → (if b then changes (process_of r) else process_of r) ≡ process_of (if b then change r else r)
one_mapped change changes r true h = sym h
one_mapped change changes r false h = refl

cons_same : {X : Type 0} (x y : X) (xs ys : List X) → x ≡ y → xs ≡ ys → x ∷ xs ≡ y ∷ ys
cons_same x y xs ys h k = cc

pub changed_mapped : {B : Type 0} (p : ProcId) (change : RecordOf B → RecordOf B) (changes : ProcessOf B → ProcessOf B) →
    ((r : RecordOf B) → process_of (change r) ≡ changes (process_of r)) → (live : List (RecordOf B)) →
    map (λ x. if is_process x.id p then changes x else x) (map process_of live) ≡ map process_of (change_record p change live)
changed_mapped p change changes same [] = refl
changed_mapped p change changes same (r ∷ live) =
    cons_same _ _ _ _ (one_mapped change changes r (r.id.0 == p.0) (same r)) (changed_mapped p change changes same live)

one_scoped : {B : Type 0} (change : RecordOf B → RecordOf B) (scopes : ProcId → List Scope) (r : RecordOf B) (b : Bool) → (change r).id ≡ r.id →
    (change r).scopes ≡ r.scopes → r.scopes ≡ scopes r.id → (if b then change r else r).scopes ≡ scopes (if b then change r else r).id
one_scoped change scopes r true id same h = same ∙ (h ∙ ap scopes (sym id))
one_scoped change scopes r false id same h = h

pub changed_scopes : {B : Type 0} (p : ProcId) (change : RecordOf B → RecordOf B) (scopes : ProcId → List Scope) →
    ((r : RecordOf B) → (change r).id ≡ r.id) →
    ((r : RecordOf B) → (change r).scopes ≡ r.scopes) → (live : List (RecordOf B)) → All (λ r. r.scopes ≡ scopes r.id) live →
    All (λ r. r.scopes ≡ scopes r.id) (change_record p change live)
changed_scopes p change scopes ids same [] h = All-nil (λ r. r.scopes ≡ scopes r.id)
changed_scopes p change scopes ids same (r ∷ live) h =
    All-cons (λ r. r.scopes ≡ scopes r.id) (if r.id.0 == p.0 then change r else r) (change_record p change live)
    (one_scoped change scopes r (r.id.0 == p.0) (ids r) (same r) (All-head (λ r. r.scopes ≡ scopes r.id) r live h))
    (changed_scopes p change scopes ids same live (All-tail (λ r. r.scopes ≡ scopes r.id) r live h))

-- ---- numbers stay different

kept_id : {B : Type 0} (changes : ProcessOf B → ProcessOf B) (x : ProcessOf B) (v : Bool) → (changes x).id ≡ x.id →
    (if v then changes x else x).id ≡ x.id
kept_id changes x true keeps = keeps
kept_id changes x false keeps = refl

pub changed_distinct : {B : Type 0} (p : ProcId) (changes : ProcessOf B → ProcessOf B) (s : State B) → ((x : ProcessOf B) → (changes x).id ≡ x.id) →
    AllPairs (λ x y. x.id ≢ y.id) s.processes → AllPairs (λ x y. x.id ≢ y.id) (change_process p changes s).processes
changed_distinct p changes s keeps h =
    distinct-mapped (λ x. if is_process x.id p then changes x else x) s.processes (λ x. kept_id changes x (is_process x.id p) (keeps x)) h

-- ---- a body that stays as it is

found_first : {X Y : Type 0} (f : X → Y) (m n : ℕ) (x : X) (o : Option X) (y : Y) → m ≡ n →
    option_map f (cond (m == n) (Some x) o) ≡ Some y → f x ≡ y
found_first f m n x o y same h = same_Some (f x) y (grind (arith, nat_tests))

found_later : {X Y : Type 0} (f : X → Y) (m n : ℕ) (x : X) (o : Option X) (y : Y) → m ≢ n →
    option_map f (cond (m == n) (Some x) o) ≡ Some y → option_map f o ≡ Some y
found_later f m n x o y differ h = grind (arith, nat_tests)

-- of processes that are told apart by their numbers one alone has this number, and so this body
abbrev HasBody : {B : Type 0} → ProcId → B → RecordOf B → Type 0
HasBody p b r = r.id.0 ≡ p.0 → r.body ≡ b

others_have : {B : Type 0} (p q : ProcId) (b : B) (live : List (RecordOf B)) → q.0 ≡ p.0 → All (λ x. q ≢ x.id) (map process_of live) →
    All (HasBody p b) live
others_have p q b [] same h = All-nil (HasBody p b)
others_have p q b (x ∷ live) same h =
    All-cons (HasBody p b) x live
    (λ is. absurd (All-head (λ y. q ≢ y.id) (process_of x) (map process_of live) h (same_process q x.id (same ∙ sym is))))
    (others_have p q b live same (All-tail (λ y. q ≢ y.id) (process_of x) (map process_of live) h))

all_have : {B : Type 0} (p : ProcId) (b : B) (live : List (RecordOf B)) → AllPairs (λ x y. x.id ≢ y.id) (map process_of live) →
    option_map (λ r. r.body) (record_of p live) ≡ Some b → All (HasBody p b) live
all_have p b [] apart h = All-nil (HasBody p b)
all_have {B} p b (r ∷ live) apart h =
    let body : RecordOf B → B = λ x. x.body in
    let Apart : ProcessOf B → ProcessOf B → Type 0 = λ x y. x.id ≢ y.id in
    All-cons (HasBody p b) r live (λ same. found_first body r.id.0 p.0 r (record_of p live) b same h)
    (⊎_elim (λ same. others_have p r.id b live same (AllPairs-head Apart (process_of r) (map process_of live) apart))
    (λ differ. all_have p b live (AllPairs-tail Apart (process_of r) (map process_of live) apart)
    (found_later body r.id.0 p.0 r (record_of p live) b differ h))
    (cases_eq r.id.0 p.0))

stays : {X : Type 0} {xs ys : List X} (m n : ℕ) (y x : X) → (m ≡ n → y ≡ x) → xs ≡ ys → (if m == n then y else x) ∷ xs ≡ x ∷ ys
stays m n y x same h = grind (arith, nat_tests)

same_bodies : {B : Type 0} (p : ProcId) (b : B) (live : List (RecordOf B)) → All (HasBody p b) live →
    change_record p (λ r. record r { body = b }) live ≡ live
same_bodies p b [] h = refl
same_bodies p b (r ∷ live) h =
    stays r.id.0 p.0 (record r { body = b }) r (λ same. subst (λ x. record r { body = x } ≡ r) (All-head (HasBody p b) r live h same) refl)
    (same_bodies p b live (All-tail (HasBody p b) r live h))

-- so where that process gets the body that it had, nothing is changed
pub unchanged_body : {B : Type 0} (p : ProcId) (b : B) (live : List (RecordOf B)) (processes : List (ProcessOf B)) →
    IsPermutation processes (map process_of live) → AllPairs (λ x y. x.id ≢ y.id) processes →
    option_map (λ r. r.body) (record_of p live) ≡ Some b → change_record p (λ r. record r { body = b }) live ≡ live
unchanged_body {B} p b live processes shown apart found =
    let Apart : ProcessOf B → ProcessOf B → Type 0 = λ x y. x.id ≢ y.id in
    same_bodies p b live
    (all_have p b live (AllPairs-IsPermutation Apart (λ x y differ. λ e. differ (sym e)) processes (map process_of live) shown apart) found)

-- ---- a body that changes twice

one_again : {B : Type 0} (p : ProcId) (b d : B) (r : RecordOf B) (v : Bool) → (r.id.0 == p.0) ≡ v →
    let x : RecordOf B = (if v then record r { body = b } else r) in
    (if x.id.0 == p.0 then record x { body = d } else x) ≡ (if v then record r { body = d } else r)
one_again p b d r true h = rw h refl
one_again p b d r false h = rw h refl

-- only the second change counts
pub changed_again : {B : Type 0} (p : ProcId) (b d : B) (live : List (RecordOf B)) →
    change_record p (λ r. record r { body = d }) (change_record p (λ r. record r { body = b }) live) ≡ change_record p (λ r. record r { body = d }) live
changed_again p b d [] = refl
changed_again p b d (r ∷ live) = cons_same _ _ _ _ (one_again p b d r (r.id.0 == p.0) refl) (changed_again p b d live)

one_found : {B : Type 0} (p : ProcId) (b before : B) (r : RecordOf B) (q o : Option (RecordOf B)) (v : Bool) → (r.id.0 == p.0) ≡ v →
    (option_map (λ r. r.body) o ≡ Some before → option_map (λ r. r.body) q ≡ Some b) →
    option_map (λ r. r.body) (cond v (Some r) o) ≡ Some before →
    let x : RecordOf B = (if v then record r { body = b } else r) in option_map (λ r. r.body) (cond (x.id.0 == p.0) (Some x) q) ≡ Some b
one_found p b before r q o true h later found = rw h refl
one_found p b before r q o false h later found = rw h (later found)

-- and the body is found that the process got
pub changed_found : {B : Type 0} (p : ProcId) (b before : B) (live : List (RecordOf B)) → option_map (λ r. r.body) (record_of p live) ≡ Some before →
    option_map (λ r. r.body) (record_of p (change_record p (λ r. record r { body = b }) live)) ≡ Some b
changed_found p b before [] h = absurd (none-some before h)
changed_found p b before (r ∷ live) h =
    one_found p b before r (record_of p (change_record p (λ x. record x { body = b }) live)) (record_of p live) (r.id.0 == p.0) refl
    (changed_found p b before live) h

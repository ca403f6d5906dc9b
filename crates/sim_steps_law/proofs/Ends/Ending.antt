-- A process that ends is no longer alive, and its event has its outcome, as the machine has it.
use Rattle.std.proofs.Common.{◌≡◌, ℕ, Bool, true, false, List, [], ◌∷◌, refl, sym, ap, ◌∙◌, cond, Option, Some, if◌then◌else◌}
use Rattle.std.specs.Prelude.{All, ◌==◌, ℕ, IfSome, IsSome, IsSomeAnd}
use Rattle.std.specs.Option.{option_map}
use Rattle.std.proofs.lemmas.Bool.{eqb-true}
use Rattle.sim_types.specs.declared.event.ProcId.{ProcId}
use Rattle.sim_types.specs.declared.event.Signal.{Signal}
use Rattle.sim_types.specs.declared.op.Op.{Op}
use Rattle.sim_machine.specs.State.{State}
use Rattle.sim_machine.specs.Bodies.{BodyOf}
use Rattle.sim_machine_law.proofs.KeptParts.KeptBodies.{find_has, find_passes}
use Rattle.sim_procs.specs.RecordOf.{RecordOf, record_of, change_record}
use Rattle.sim_steps_model.specs.PartsOf.{PartsOf}
use Rattle.sim_steps_model.specs.StandsFor.{scopes_of}
use Rattle.sim_steps_model.specs.Polling.{Asks}
use Rattle.sim_steps_law.proofs.Polls.Polls.{found_record}

pub same_id : (p q : ProcId) → p.0 ≡ q.0 → p ≡ q
same_id p q h = ap (λ (n : ℕ). let r : ProcId = record { 0 = n } in r) h

-- the record found is of this process
pub found_id : {B : Type 0} (p : ProcId) (live : List (RecordOf B)) (r : RecordOf B) → record_of p live ≡ Some r → r.id.0 ≡ p.0
found_id p live r h = eqb-true r.id.0 p.0 (find_passes (λ x. x.id.0 == p.0) live r h)

-- the scopes of a process are those of its record
pub scopes_found : {B : Type 0} (p : ProcId) (live : List (RecordOf B)) (r : RecordOf B) (s : State B) → record_of p live ≡ Some r →
    All (λ x. x.scopes ≡ scopes_of x.id s) live → scopes_of p s ≡ r.scopes
scopes_found p live r s found all =
    let told : r.scopes ≡ scopes_of r.id s = find_has (λ x. x.scopes ≡ scopes_of x.id s) (λ x. x.id.0 == p.0) live r found all in
    ap (λ q. scopes_of q s) (sym (same_id r.id p (found_id p live r found))) ∙ sym told

-- ---- what the ending of a process needs

record_at : {B : Type 0} (p : ProcId) (change : RecordOf B → RecordOf B) (r : RecordOf B) (o q : Option (RecordOf B)) (b : Bool) →
    (r.id.0 == p.0) ≡ b →
    (change r).id ≡ r.id → o ≡ option_map change q →
    cond ((if b then change r else r).id.0 == p.0) (Some (if b then change r else r)) o ≡ option_map change (cond b (Some r) q)
record_at p change r o q true is id h = rw (id, is) refl
record_at p change r o q false is id h = rw is h

pub record_changed : {B : Type 0} (p : ProcId) (change : RecordOf B → RecordOf B) → ((r : RecordOf B) → (change r).id ≡ r.id) →
    (live : List (RecordOf B)) →
    record_of p (change_record p change live) ≡ option_map change (record_of p live)
record_changed p change ids [] = refl
record_changed p change ids (r ∷ live) =
    record_at p change r (record_of p (change_record p change live)) (record_of p live)
    (r.id.0 == p.0) refl (ids r) (record_changed p change ids live)

-- as many scopes find room in a record as before, once its body is another one
pub room_stays : {B : Type 0} (p : ProcId) (most : ℕ) (b later : B) (live : List (RecordOf B)) →
    option_map (λ r. r.body) (record_of p live) ≡ Some b →
    IfSome (record_of p live) (λ r. r.room ≡ most) →
    IsSomeAnd (record_of p (change_record p (λ r. record r { body = later }) live)) (λ r. r.room ≡ most)
room_stays {B} p most b later live found room =
    let change : RecordOf B → RecordOf B = λ x. record x { body = later } in
    let r = found_record (record_of p live) b found in
    let has : r.0.room ≡ most = rw r.1 at room in
    rw (record_changed p change (λ x. refl) live, r.1) has

module _ {B Code : Type 0} (body : BodyOf B Code) (old mid : PartsOf B Code) (p : ProcId) (told : Signal) (asked : Op) where
  -- the record of the process that was polled
  pub record_polled : (a : Asks body p told old asked mid) →
      (r : RecordOf B) × (record_of p old.live ≡ Some r) × (r.body ≡ a.before) × (record_of p mid.live ≡ Some (record r { body = a.later }))
  record_polled a =
      let change : RecordOf B → RecordOf B = λ x. record x { body = a.later } in
      let r = found_record (record_of p old.live) a.before a.found in
      (r.0, r.1, r.2, rw a.others (record_changed p change (λ x. refl) old.live ∙ ap (λ (o : Option (RecordOf B)). option_map change o) r.1))

  -- it is still alive
  pub polled_alive : Asks body p told old asked mid → IsSome (record_of p mid.live)
  polled_alive a = rw (record_polled a).3 refl

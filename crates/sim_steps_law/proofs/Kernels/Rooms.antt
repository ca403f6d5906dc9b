-- More room changes nothing else.
use Rattle.std.proofs.Common.{◌≡◌, ℕ, ◌<◌, List, [], ◌∷◌, ◌++◌, Some, length, refl, sym, ap, subst, ◌∙◌, map, slice_get}
use Rattle.std.specs.Prelude.{All}
use Rattle.std.specs.Option.{option_map}
use Rattle.std.proofs.lemmas.Option.{slice_get-map}
use Rattle.sim_types.specs.declared.event.EventId.{EventId}
use Rattle.sim_types.specs.declared.setup.Until.{Until}
use Rattle.sim_machine.specs.State.{Calendar, Facilities, State}
use Rattle.sim_machine.specs.Bodies.{BodyOf}
use Rattle.sim_procs.specs.RecordOf.{RecordOf}
use Rattle.sim_happen_model.specs.TableOf.{Spare}
use Rattle.sim_happen_model.specs.HappenOf.{HappenOf, held}
use Rattle.sim_happen_model.specs.Shows.{Shows}
use Rattle.sim_shared_model.specs.AnyShared.{SharedResource}
use Rattle.sim_shared_model.specs.Resources.{declared_as, without_room}
use Rattle.sim_shared_model.specs.SharedOf.{SharedOf, IsSameButRoom}
use Rattle.sim_shared_model.specs.ShowsAll.{ShowsAt, ShowsAll}
use Rattle.sim_shared_law.proofs.Shown.ResourcePlaces.{declared_alike}
use Rattle.sim_shared_law.proofs.Waiters.CancelledEvents.{shown_alike}
use Rattle.sim_steps_model.specs.PartsOf.{PartsOf, KeepsButRoom}
use Rattle.sim_steps_model.specs.StandsFor.{StandsFor, Balances, StandsForSome, LawfulOf, process_of}
use Rattle.sim_steps_model.specs.Becoming.{Becomes, IsOwing}
use Rattle.sim_steps_model.specs.Opening.{IsOpening, SetsStop}
use Rattle.sim_steps_law.proofs.Kernels.Keeping.{few_same}
use Rattle.sim_steps_law.proofs.Kernels.Running.{mapped_is}

pub roomier_shows : (h : HappenOf) (room : Spare) (c : Calendar) → Shows h c → Shows (record h { spare = room }) c
roomier_shows h room c s =
    record { time = s.time; scheduled = s.scheduled; agenda = s.agenda; made = s.made; kept = s.kept; unmade = s.unmade }

-- ---- the resources

first_same : {X : Type 0} (x y : X) (xs ys : List X) → y ∷ ys ≡ x ∷ xs → y ≡ x
first_same x y xs ys h = cc

later_same : {X : Type 0} (x y : X) (xs ys : List X) → y ∷ ys ≡ x ∷ xs → ys ≡ xs
later_same x y xs ys h = cc

declared_same : (xs ys : List SharedResource) → map without_room ys ≡ map without_room xs → map declared_as ys ≡ map declared_as xs
declared_same [] [] h = refl
declared_same [] (y ∷ ys) h = cc
declared_same (x ∷ xs) [] h = cc
declared_same (x ∷ xs) (y ∷ ys) h =
    rw (declared_alike x y (first_same _ _ _ _ h), declared_same xs ys (later_same _ _ _ _ h)) refl

-- what stands at a place stood there, with room for fewer or more
found_before : (xs ys : List SharedResource) (n : ℕ) (y : SharedResource) → map without_room ys ≡ map without_room xs → slice_get ys n ≡ Some y →
    (x : SharedResource) × (slice_get xs n ≡ Some x) × (without_room x ≡ without_room y)
found_before xs ys n y h there =
    mapped_is without_room (slice_get xs n) (without_room y)
    (sym (slice_get-map without_room xs n)
    ∙ (ap (λ zs. slice_get zs n) (sym h) ∙ (slice_get-map without_room ys n ∙ ap (option_map without_room) there)))

pub roomier_all : (a b : SharedOf) (f : Facilities) → IsSameButRoom a b → ShowsAll a f → ShowsAll b f
roomier_all a b f k h =
    record {
      calendar = subst (λ x. Shows x f.calendar) (sym k.happen) (roomier_shows a.happen b.happen.spare f.calendar h.calendar);
      opened = declared_same a.resources b.resources k.resources ∙ (h.opened ∙ rw k.setup refl);
      resources = λ n y there.
          let x = found_before a.resources b.resources n y k.resources there in
          subst (λ rs. ShowsAt rs n y f) (sym k.setup) (shown_alike a.setup n x.0 y f (sym x.2) (h.resources n x.0 x.1));
      tidy = rw k.setup h.tidy;
    }

-- ---- the kernel

pub roomier_stands : {B Code : Type 0} (old new : PartsOf B Code) (s : State B) → KeepsButRoom old new → StandsFor old s → StandsFor new s
roomier_stands old new s k h =
    subst (λ p. StandsFor p s) (sym k.others)
    (record {
      facilities = roomier_all old.shared new.shared s.facilities k.shared h.facilities;
      processed = h.processed;
      generator = h.generator;
      processes = h.processes;
      scopes = h.scopes;
      control = h.control;
    })

-- where nothing changes at all
pub as_roomy : {B Code : Type 0} (a : PartsOf B Code) → KeepsButRoom a a
as_roomy a = record { shared = record { happen = refl; resources = refl; setup = refl }; others = refl }

pub roomier_lawful : {B Code : Type 0} (body : BodyOf B Code) (old new : PartsOf B Code) (s : State B) → KeepsButRoom old new → LawfulOf body old s →
    LawfulOf body new s
roomier_lawful body old new s k h = rw k.others h

-- what holds which event, and what is gone, is not told by room
pub roomier_balances : {B Code : Type 0} {body : BodyOf B Code} (todo : List EventId) (old new : PartsOf B Code) (s : State B) →
    KeepsButRoom old new → Balances body todo old s →
    Balances body todo new s
roomier_balances {B} {Code} {body} todo old new s k h =
    subst (λ p. Balances body todo p s) (sym k.others)
    (let same : new.shared.happen.events ≡ old.shared.happen.events = ap (λ (x : HappenOf). x.events) k.shared.happen in
    record { holders = rw same h.holders; gone = rw same h.gone })

pub roomier_stands_for_some : {B Code : Type 0} (body : BodyOf B Code) (old new : PartsOf B Code) → KeepsButRoom old new → StandsForSome body old →
    StandsForSome body new
roomier_stands_for_some body old new k h =
    record {
      state = h.state;
      lawful = roomier_lawful body old new h.state k h.lawful;
      stands = roomier_stands old new h.state k h.stands;
      balances = roomier_balances [] old new h.state k h.balances;
    }

-- so it is in the midst of a unit
pub roomier_owing : {B Code : Type 0} {body : BodyOf B Code} (owed : List EventId) (old new : PartsOf B Code) → KeepsButRoom old new →
    IsOwing body owed old → IsOwing body owed new
roomier_owing owed old new k h =
    record {
      state = h.state;
      stands = record {
        stands = roomier_stands old new h.state k h.stands.stands;
        distinct = h.stands.distinct;
        owned = h.stands.owned;
        apart = h.stands.apart;
        entered = h.stands.entered;
      };
      others = h.others;
      balances = roomier_balances (owed ++ h.others) old new h.state k h.balances;
    }

pub roomier_becomes : {B Code : Type 0} {body : BodyOf B Code} (old new : PartsOf B Code) → KeepsButRoom old new → Becomes body (λ s. s) old new
roomier_becomes {B} {Code} {body} old new k = record {
  each = λ s h. record { stands = roomier_stands old new s k h.stands; distinct = h.distinct; owned = h.owned; apart = h.apart; entered = h.entered };
  accounts = λ todo s h b. roomier_balances todo old new s k b;
  opened = rw k.others (record { code = refl; setup = refl; seed = refl });
  few = few_same old new (ap held k.shared.happen);
}

-- and so it is where only processes that run from the start were made
pub roomier_opening : {B Code : Type 0} {body : BodyOf B Code} (old new : PartsOf B Code) → KeepsButRoom old new → IsOpening body old →
    IsOpening body new
roomier_opening {B} {Code} {body} old new k h =
    let older : List (RecordOf B) → ℕ → Type 0 = λ live n. All (λ x. x.id.0 < n) (map process_of live) in
    let same_live : new.live ≡ old.live = ap (λ (p : PartsOf B Code). p.live) k.others in
    let same_made : length new.shared.happen.events ≡ length old.shared.happen.events = ap (λ (x : HappenOf). length x.events) k.shared.happen in
    record {
      time = ap (λ (x : HappenOf). x.time) k.shared.happen ∙ h.time;
      older = subst (λ live. older live (length new.shared.happen.events)) (sym same_live) (subst (λ n. older old.live n) (sym same_made) h.older);
      owing = roomier_owing [] old new k h.owing;
    }

pub roomier_held : {B Code : Type 0} (old new : PartsOf B Code) → KeepsButRoom old new → held new.shared.happen ≡ held old.shared.happen
roomier_held old new k = ap held k.shared.happen

-- a stop that was set once there was room
pub sets_stop_then : (x : Until) (old mid new : HappenOf) → mid ≡ record old { spare = mid.spare } → SetsStop x mid new → SetsStop x old new
sets_stop_then x old mid new is k =
    let P : HappenOf → Type 0 = λ h. SetsStop x h new in
    let here : SetsStop x (record old { spare = mid.spare }) new = subst P is k in
    record {
      made = here.made;
      turns = record { each = λ c s. here.turns.each c (roomier_shows old mid.spare c s); held = here.turns.held; left = here.turns.left };
    }

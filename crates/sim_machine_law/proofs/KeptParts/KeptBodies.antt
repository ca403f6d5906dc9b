-- The bodies of live processes, one by one.
use Rattle.std.proofs.Common.{◌≡◌, ◌<◌, Bool, true, false, ◌||◌, ◌&&◌, not, List, [], ◌∷◌, length, Option, Some, None, refl, subst, ap, ◌∙◌, if◌then◌else◌, arith, ◌⊎◌, inl, inr, All}
use Rattle.std.specs.Prelude.{◌==◌, find, cond}
use Rattle.std.specs.List.{list_all}
use Rattle.std.proofs.lemmas.Bool.{false≢true, and_parts, and_from, or_cases, or_left, or_right, ltb-true, lt-ltb}
use Rattle.std.proofs.lemmas.Option.{none-some, same_Some}
use Rattle.std.proofs.lemmas.List.Elements.{All-weaker, All-head, All-tail}
use Rattle.std.proofs.lemmas.List.Sums.{AllPass-from_list_all, list_all-from_AllPass}
use Rattle.sim_types.specs.declared.event.EventId.{EventId}
use Rattle.sim_types.specs.declared.event.ProcId.{ProcId}
use Rattle.sim_types.specs.declared.event.EventKind.{EventKind}
use Rattle.sim_types.specs.declared.event.Outcome.{Outcome}
use Rattle.sim_types.specs.declared.event.Signal.{Signal}
use Rattle.sim_types.specs.declared.event.Callback.{Callback}
use Rattle.sim_types.specs.declared.event.EventKind.TheVariants as kind
use Rattle.sim_types.specs.declared.event.Outcome.TheVariants as outcome
use Rattle.sim_types.specs.declared.event.Signal.TheVariants as signal
use Rattle.sim_types.specs.declared.op.Op.{Op}
use Rattle.sim_types.specs.declared.op.Op.TheVariants as op
use Rattle.sim_types.specs.declared.setup.Class.{Class}
use Rattle.sim_types.specs.declared.setup.Class.TheVariants as class
use Rattle.sim_machine.specs.State.{EventOf, Calendar, ProcessOf, Control, Idle, Calling, Active, Over, State}
use Rattle.sim_machine.specs.Events.{is_same, is_process, event_at, is_processed}
use Rattle.sim_machine.specs.Processes.{signal_of}
use Rattle.sim_machine.specs.Steps.{signal_by}
use Rattle.sim_machine.specs.Tellings.{Place, Telling, kind_fits, is_class}
use Rattle.sim_machine.specs.MayFollow.{may_wait, may_be_told, may_follow, makes_kind, is_resumption}
use Rattle.sim_machine.specs.BodyLaw.{makes_class, gets_made, places_kept}
use Rattle.sim_machine.specs.Standing.{was_made, kind_at}
use Rattle.sim_machine.specs.LawfulBodies.{LawfulBodies, place_fits, waits_or_new, told_fits, is_told_well}
use Rattle.sim_machine_law.proofs.Events.EventLaws.{is_same-yes}
use Rattle.sim_machine_law.proofs.KeptParts.KeptBodiesEvents.{Grown, OldStay}

-- ---- lists

passes_at : {X : Type 0} (test : X → Bool) (x : X) (xs : List X) (y : X) → (find test xs ≡ Some y → test y ≡ true)
    → (b : Bool) → test x ≡ b → cond b (Some x) (find test xs) ≡ Some y → test y ≡ true
passes_at {X} test x xs y later true e w = subst (λ (z : X). test z ≡ true) (same_Some x y w) e
passes_at test x xs y later false e w = later w

-- what is found passes
pub find_passes : {X : Type 0} (test : X → Bool) (xs : List X) (y : X) → find test xs ≡ Some y → test y ≡ true
find_passes test [] y h = absurd (none-some y h)
find_passes test (x ∷ xs) y h = passes_at test x xs y (find_passes test xs y) (test x) refl h

has_at : {X : Type 0} (P : X → Type 0) (test : X → Bool) (x : X) (xs : List X) (y : X) → P x → (find test xs ≡ Some y → P y)
    → (b : Bool) → cond b (Some x) (find test xs) ≡ Some y → P y
has_at P test x xs y here later true w = subst P (same_Some x y w) here
has_at P test x xs y here later false w = later w

-- what holds of all holds of the one found
pub find_has : {X : Type 0} (P : X → Type 0) (test : X → Bool) (xs : List X) (y : X) → find test xs ≡ Some y → All P xs → P y
find_has P test [] y h a = absurd (none-some y h)
find_has P test (x ∷ xs) y h a = has_at P test x xs y (All-head P x xs a) (λ w. find_has P test xs y w (All-tail P x xs a)) (test x) h

pub three_parts : (a b c : Bool) → (a && b && c) ≡ true → (a ≡ true) × (b ≡ true) × (c ≡ true)
three_parts true true true h = (refl, refl, refl)
three_parts true true false h = absurd (false≢true h)
three_parts true false c h = absurd (false≢true h)
three_parts false b c h = absurd (false≢true h)

pub four_parts : (a b c d : Bool) → (a && b && c && d) ≡ true → (a ≡ true) × (b ≡ true) × (c ≡ true) × (d ≡ true)
four_parts true true true true h = (refl, refl, refl, refl)
four_parts true true true false h = absurd (false≢true h)
four_parts true true false d h = absurd (false≢true h)
four_parts true false c d h = absurd (false≢true h)
four_parts false b c d h = absurd (false≢true h)

pub four_from : (a b c d : Bool) → a ≡ true → b ≡ true → c ≡ true → d ≡ true → (a && b && c && d) ≡ true
four_from a b c d p q r s = rw (p, q, r, s) refl

-- ---- one body

-- the body of a process is sound and knows its number, its places fit, and it is told what fits
pub record IsBodyWell {B : Type 0} (tell : Telling B) (sound : B → Type 0) (c : Calendar) (k : Control) (z : ProcessOf B) : Type 0 where
  pub body : sound z.body
  pub own : tell.own z.body ≡ z.id
  pub places : list_all (place_fits c) (tell.places z.body) ≡ true
  pub told : is_told_well tell c z.id z.body k ≡ true

pub bodies_well : {B : Type 0} (tell : Telling B) (sound : B → Type 0) (s : State B) → LawfulBodies tell sound s
    → All (IsBodyWell tell sound s.facilities.calendar s.control) s.processes
bodies_well tell sound s h = λ k d below. record { body = h.bodies k d below; own = h.own k d below; places = h.places k d below; told = h.told k d below }

pub bodies_lawful : {B : Type 0} (tell : Telling B) (sound : B → Type 0) (s : State B)
    → All (IsBodyWell tell sound s.facilities.calendar s.control) s.processes → LawfulBodies tell sound s
bodies_lawful tell sound s h =
    record { bodies = λ k d below. (h k d below).body; own = λ k d below. (h k d below).own; places = λ k d below. (h k d below).places; told = λ k d below. (h k d below).told }

-- ---- places

place_grown : (c d : Calendar) → Grown c d → (x : Place) → place_fits c x ≡ true → place_fits d x ≡ true
place_grown c d g x h = at (or_cases (x.event.0 == 0) _ h)
  where
    at : ((x.event.0 == 0) ≡ true) ⊎ ((was_made c x.event && kind_fits x.class (kind_at c x.event)) ≡ true) → place_fits d x ≡ true
    at (inl zero) = or_left (x.event.0 == 0) _ zero
    at (inr made) =
        let parts : (was_made c x.event ≡ true) × (kind_fits x.class (kind_at c x.event) ≡ true) = and_parts (was_made c x.event) _ made in
        let below : x.event.0 < length c.events = ltb-true x.event.0 (length c.events) parts.0 in
        or_right (x.event.0 == 0) _ (and_from (was_made d x.event) _ (lt-ltb x.event.0 (length d.events) (omega (arith, below, g.longer))) (ap (kind_fits x.class) (g.kinds x.event below) ∙ parts.1))

pub places_grown : (c d : Calendar) → Grown c d → (xs : List Place) → list_all (place_fits c) xs ≡ true → list_all (place_fits d) xs ≡ true
places_grown c d g xs h =
    list_all-from_AllPass (place_fits d) xs (All-weaker (λ x. place_fits c x ≡ true) (λ x. place_fits d x ≡ true) (place_grown c d g) xs (AllPass-from_list_all (place_fits c) xs h))

-- events of the kind that an operation makes fit in places of the class that gets them
made_fits : (last : Option Op) (x : Class) (k : EventKind) → makes_class last x ≡ true → makes_kind last k ≡ true → kind_fits x k ≡ true
made_fits (Some (op.Timeout delay value)) class.Event kind.Timeout h w = refl
made_fits (Some (op.Timeout delay value)) class.Event _ h w = absurd (false≢true w)
made_fits (Some (op.Timeout delay value)) _ k h w = absurd (false≢true h)
made_fits (Some op.NewEvent) class.Event kind.Plain h w = refl
made_fits (Some op.NewEvent) class.Event _ h w = absurd (false≢true w)
made_fits (Some op.NewEvent) _ k h w = absurd (false≢true h)
made_fits (Some (op.Spawn n args)) class.Proc kind.Process h w = refl
made_fits (Some (op.Spawn n args)) class.Proc _ h w = absurd (false≢true w)
made_fits (Some (op.Spawn n args)) _ k h w = absurd (false≢true h)
made_fits (Some (op.AllOf members)) class.Cond kind.Cond h w = refl
made_fits (Some (op.AllOf members)) class.Cond _ h w = absurd (false≢true w)
made_fits (Some (op.AllOf members)) _ k h w = absurd (false≢true h)
made_fits (Some (op.AnyOf members)) class.Cond kind.Cond h w = refl
made_fits (Some (op.AnyOf members)) class.Cond _ h w = absurd (false≢true w)
made_fits (Some (op.AnyOf members)) _ k h w = absurd (false≢true h)
made_fits (Some (op.Enter res priority preempts)) class.Request kind.Request h w = refl
made_fits (Some (op.Enter res priority preempts)) class.Request _ h w = absurd (false≢true w)
made_fits (Some (op.Enter res priority preempts)) _ k h w = absurd (false≢true h)
made_fits (Some (op.Put res amount priority)) class.Move kind.Put h w = refl
made_fits (Some (op.Put res amount priority)) class.Move _ h w = absurd (false≢true w)
made_fits (Some (op.Put res amount priority)) _ k h w = absurd (false≢true h)
made_fits (Some (op.Get res least greatest)) class.Move kind.Get h w = refl
made_fits (Some (op.Get res least greatest)) class.Move _ h w = absurd (false≢true w)
made_fits (Some (op.Get res least greatest)) _ k h w = absurd (false≢true h)
made_fits _ x k h w = absurd (false≢true h)

same_class : (x y : Class) → is_class y x ≡ true → (k : EventKind) → kind_fits x k ≡ true → kind_fits y k ≡ true
same_class class.Number class.Number h k w = w
same_class class.Event class.Event h k w = w
same_class class.Cond class.Cond h k w = w
same_class class.Proc class.Proc h k w = w
same_class class.Request class.Request h k w = w
same_class class.Move class.Move h k w = w
same_class _ _ h k w = absurd (false≢true h)

-- an event that was made and is of the kind asked for fits in a place that gets it
gets_fits : {B : Type 0} (tell : Telling B) (c : Calendar) (b : B) (x : Signal) (y : Place) → told_fits tell c b x ≡ true
    → gets_made (tell.last b) x y ≡ true → place_fits c y ≡ true
gets_fits tell c b (signal.Made e) y h w =
    let fits : (may_be_told (tell.last b) (signal.Made e) ≡ true) × (was_made c e ≡ true) × (not (is_processed c e) ≡ true) × (makes_kind (tell.last b) (kind_at c e) ≡ true) = four_parts (may_be_told (tell.last b) (signal.Made e)) (was_made c e) (not (is_processed c e)) (makes_kind (tell.last b) (kind_at c e)) h in
    let gets : (is_same y.event e ≡ true) × (makes_class (tell.last b) y.class ≡ true) = and_parts (is_same y.event e) _ w in
    let same : y.event ≡ e = is_same-yes y.event e gets.0 in
    or_right (y.event.0 == 0) _ (and_from (was_made c y.event) _ (ap (was_made c) same ∙ fits.1) (ap (λ (n : EventId). kind_fits y.class (kind_at c n)) same ∙ made_fits (tell.last b) y.class (kind_at c e) gets.1 fits.3))
gets_fits tell c b _ y h w = absurd (false≢true w)

place_kept : {B : Type 0} (tell : Telling B) (c : Calendar) (b : B) (x : Signal) (v y : Place) → told_fits tell c b x ≡ true
    → place_fits c v ≡ true → (is_class y.class v.class && (is_same y.event v.event || gets_made (tell.last b) x y)) ≡ true
    → place_fits c y ≡ true
place_kept tell c b x v y told h w =
    let parts : (is_class y.class v.class ≡ true) × ((is_same y.event v.event || gets_made (tell.last b) x y) ≡ true) = and_parts (is_class y.class v.class) _ w in
    at parts.0 (or_cases (is_same y.event v.event) _ parts.1)
  where
    kept : is_class y.class v.class ≡ true → y.event ≡ v.event
        → ((v.event.0 == 0) ≡ true) ⊎ ((was_made c v.event && kind_fits v.class (kind_at c v.event)) ≡ true)
        → place_fits c y ≡ true
    kept cls same (inl zero) = or_left (y.event.0 == 0) _ (ap (λ (n : EventId). n.0 == 0) same ∙ zero)
    kept cls same (inr fits) =
        let both : (was_made c v.event ≡ true) × (kind_fits v.class (kind_at c v.event) ≡ true) = and_parts (was_made c v.event) _ fits in
        or_right (y.event.0 == 0) _ (and_from (was_made c y.event) _ (ap (was_made c) same ∙ both.0) (ap (λ (n : EventId). kind_fits y.class (kind_at c n)) same ∙ same_class v.class y.class cls (kind_at c v.event) both.1))

    at : is_class y.class v.class ≡ true → (is_same y.event v.event ≡ true) ⊎ (gets_made (tell.last b) x y ≡ true) → place_fits c y ≡ true
    at cls (inl same) = kept cls (is_same-yes y.event v.event same) (or_cases (v.event.0 == 0) _ h)
    at cls (inr gets) = gets_fits tell c b x y told gets

-- the places of a body that was polled still fit
pub places_polled : {B : Type 0} (tell : Telling B) (c : Calendar) (b : B) (x : Signal) (vs ys : List Place)
    → told_fits tell c b x ≡ true → list_all (place_fits c) vs ≡ true → places_kept (tell.last b) x vs ys ≡ true
    → list_all (place_fits c) ys ≡ true
places_polled tell c b x [] [] told h w = refl
places_polled tell c b x [] (y ∷ ys) told h w = absurd (false≢true w)
places_polled tell c b x (v ∷ vs) [] told h w = absurd (false≢true w)
places_polled tell c b x (v ∷ vs) (y ∷ ys) told h w =
    let fits : (place_fits c v ≡ true) × (list_all (place_fits c) vs ≡ true) = and_parts (place_fits c v) _ h in
    let cls : (is_class y.class v.class ≡ true) × ((is_same y.event v.event || gets_made (tell.last b) x y) ≡ true) × (places_kept (tell.last b) x vs ys ≡ true) = three_parts (is_class y.class v.class) (is_same y.event v.event || gets_made (tell.last b) x y) (places_kept (tell.last b) x vs ys) w in
    and_from (place_fits c y) _ (place_kept tell c b x v y told fits.0 (and_from (is_class y.class v.class) _ cls.0 cls.1)) (places_polled tell c b x vs ys told fits.1 cls.2)

-- ---- what is told

wait_resumes : (o : Op) (x : Signal) → may_wait o ≡ true → is_resumption x ≡ true → may_follow o x ≡ true
wait_resumes (op.Wait e) x h w = w
wait_resumes (op.Pause delay value) x h w = or_left (is_resumption x) _ w
wait_resumes (op.PutWait res amount priority) x h w = or_left (is_resumption x) _ w
wait_resumes (op.GetWait res least greatest) x h w = or_left (is_resumption x) _ w
wait_resumes _ x h w = absurd (false≢true h)

last_resumes : (o : Option Op) (x : Signal) → elim o [ None ↦ true | Some asked ↦ may_wait asked ] ≡ true → is_resumption x ≡ true → may_be_told o x ≡ true
last_resumes None x h w = w
last_resumes (Some o) x h w = wait_resumes o x h w

pub fits_resumed : {B : Type 0} (tell : Telling B) (c : Calendar) (b : B) (x : Signal) → waits_or_new tell b ≡ true
    → is_resumption x ≡ true → told_fits tell c b x ≡ true
fits_resumed tell c b (signal.Made e) h w = absurd (false≢true w)
fits_resumed tell c b signal.Begin h w = last_resumes (tell.last b) signal.Begin h w
fits_resumed tell c b (signal.Value v) h w = last_resumes (tell.last b) (signal.Value v) h w
fits_resumed tell c b (signal.Thrown t) h w = last_resumes (tell.last b) (signal.Thrown t) h w
fits_resumed tell c b _ h w = absurd (false≢true w)

pub of_is_resumption : (o : Option Outcome) → is_resumption (signal_of o) ≡ true
of_is_resumption None = refl
of_is_resumption (Some (outcome.Ok v)) = refl
of_is_resumption (Some (outcome.Fail t)) = refl

if_true : (b p q : Bool) → p ≡ true → q ≡ true → (if b then p else q) ≡ true
if_true true p q h w = h
if_true false p q h w = w

-- what an event tells to a process that it resumes
pub by_is_resumption : (k : EventKind) (o : Option Outcome) → is_resumption (signal_by k o) ≡ true
by_is_resumption kind.Init o = refl
by_is_resumption _ o = of_is_resumption o

-- a process that waits may be resumed
pub told_resumed : {B : Type 0} (tell : Telling B) (c : Calendar) (q : ProcId) (b : B) (e : EventId) (left : List Callback)
    (p : ProcId) (x : Signal) → waits_or_new tell b ≡ true → is_resumption x ≡ true
    → is_told_well tell c q b (Active e left p x) ≡ true
told_resumed tell c q b e left p x h w = if_true (is_process p q) (told_fits tell c b x) (waits_or_new tell b) (fits_resumed tell c b x h w) h

made_stays : (c d : Calendar) (e : EventId) (asked : Option Op) (m : Bool) → OldStay c d
    → (m && was_made c e && not (is_processed c e) && makes_kind asked (kind_at c e)) ≡ true
    → (m && was_made d e && not (is_processed d e) && makes_kind asked (kind_at d e)) ≡ true
made_stays c d e asked m g h =
    let fits : (m ≡ true) × (was_made c e ≡ true) × (not (is_processed c e) ≡ true) × (makes_kind asked (kind_at c e) ≡ true) = four_parts m (was_made c e) (not (is_processed c e)) (makes_kind asked (kind_at c e)) h in
    let below : e.0 < length c.events = ltb-true e.0 (length c.events) fits.1 in
    let same : event_at d e ≡ event_at c e = g.same e below in
    four_from m (was_made d e) (not (is_processed d e)) (makes_kind asked (kind_at d e)) fits.0 (lt-ltb e.0 (length d.events) (omega (arith, below, g.longer))) (ap (λ (y : EventOf). not y.processed) same ∙ fits.2) (ap (λ (y : EventOf). makes_kind asked y.kind) same ∙ fits.3)

fits_stays : {B : Type 0} (tell : Telling B) (c d : Calendar) (b : B) (x : Signal) → OldStay c d → told_fits tell c b x ≡ true → told_fits tell d b x ≡ true
fits_stays tell c d b (signal.Made e) g h = made_stays c d e (tell.last b) (may_be_told (tell.last b) (signal.Made e)) g h
fits_stays tell c d b _ g h = h

pub if_stays : (b p q r : Bool) → (p ≡ true → q ≡ true) → (if b then p else r) ≡ true → (if b then q else r) ≡ true
if_stays true p q r h w = h w
if_stays false p q r h w = w

-- what is told still fits, where the events stay as they were
pub told_stays : {B : Type 0} (tell : Telling B) (c d : Calendar) (q : ProcId) (b : B) (k : Control) → OldStay c d
    → is_told_well tell c q b k ≡ true → is_told_well tell d q b k ≡ true
told_stays tell c d q b Idle g h = h
told_stays tell c d q b (Calling e left) g h = h
told_stays tell c d q b (Active e left p x) g h = if_stays (is_process p q) (told_fits tell c b x) (told_fits tell d b x) (waits_or_new tell b) (fits_stays tell c d b x g) h
told_stays tell c d q b (Over why e left) g h = h

-- What the parts of a kernel become is lifted to the states that it stands for, one lemma for each part.
use Rattle.std.proofs.Common.{◌≡◌, ℕ, ◌+◌, ◌≤◌, List, [], ◌++◌, Option, length, refl, ap, subst, ◌∙◌, map, add-one, arith, true, if◌then◌else◌}
use Rattle.std.proofs.lemmas.List.{length-map}
use Rattle.std.specs.List.Sorted.{IsPermutation}
use Rattle.std.proofs.lemmas.List.Sorted.{IsPermutation-map}
use Rattle.std.proofs.lemmas.Bool.{lt-ltb, ltb-true}
use Rattle.std.specs.Prelude.{All}
use Rattle.std.proofs.lemmas.List.Elements.{All-weaker}
use Rattle.rand_pcg.specs.Pcg.{pcg64}
use Rattle.sim_types.specs.declared.event.EventId.{EventId}
use Rattle.sim_types.specs.declared.event.ProcId.{ProcId}
use Rattle.sim_types.specs.declared.event.Signal.{Signal}
use Rattle.sim_types.specs.declared.line.Line.{Line}
use Rattle.sim_machine.specs.State.{OpenScope, Calendar, Facilities, ProcessOf, Control, State}
use Rattle.sim_machine.specs.Events.{is_process}
use Rattle.sim_machine.specs.Trying.{on_calendar}
use Rattle.sim_machine.specs.Scopes.{on_facilities, on_events}
use Rattle.sim_machine.specs.Bodies.{BodyOf}
use Rattle.sim_machine.specs.Standing.{was_made}
use Rattle.sim_machine.specs.LawfulWaiting.{is_scope_well}
use Rattle.sim_machine.specs.Processes.{is_alive, change_process, told_more, not_active, tell, rest, write_line}
use Rattle.sim_machine_law.proofs.KeptParts.KeptWaiting.{scope_alive, scope_made}
use Rattle.sim_machine_law.proofs.KeptParts.KeptWaitingPolls.{alive_changed}
use Rattle.sim_procs.specs.RecordOf.{RecordOf, change_record}
use Rattle.sim_happen_model.specs.HappenOf.{HappenOf, held, as_before, unheld_event}
use Rattle.sim_happen_model.specs.Shows.{Shows, Turns, Follows}
use Rattle.sim_happen_law.proofs.Changes.Held.{holders_at}
use Rattle.sim_happen_model.specs.HolderChanges.{ComesPlainly, StatesTrade}
use Rattle.sim_accounts.proofs.KeepingHolders.{keeps_all}
use Rattle.sim_accounts.proofs.Quiet.{told_trade, rest_trade}
use Rattle.sim_accounts.proofs.StateChanges.{quiet_trade}
use Rattle.sim_accounts.proofs.Trading.{trades_nothing}
use Rattle.sim_happen_model.specs.Naming.{held_alone}
use Rattle.sim_machine.specs.Effect.{calendar}
use Rattle.sim_shared_model.specs.SharedOf.{SharedOf}
use Rattle.sim_shared_model.specs.ShowsAll.{ShowsAll, TurnsAll, FollowsAll}
use Rattle.sim_shared_model.specs.Making.{MakesAll, unheld_events}
use Rattle.sim_shared_law.proofs.Shown.FollowingFacilities.{shown_later, tidy_later}
use Rattle.sim_steps_model.specs.PartsOf.{PartsOf, IsOpenedAs, with_happen}
use Rattle.sim_steps_model.specs.StandsFor.{StandsFor, StandsForSome, Balances, LawfulOf, process_of, scopes_of}
use Rattle.sim_steps_model.specs.Becoming.{Stands, Becomes, BecomesOwing, IsOwing}
use Rattle.sim_steps_law.proofs.Kernels.Keeping.{AddsHolders, adds_none, adds_unheld, few_by, few_more, few_same, few_then}
use Rattle.sim_steps_law.proofs.Kernels.Accounting.{KeepsAllHolders, keeps_unheld, owing_by, owing_then, stay_plainly, stay_stated}
use Rattle.sim_steps_law.proofs.Kernels.Records.{changed_mapped, changed_scopes, changed_distinct}

-- ---- from a lawful state

pub lawful_stands : {B Code : Type 0} (body : BodyOf B Code) (a : PartsOf B Code) (s : State B) → LawfulOf body a s → StandsFor a s → Stands a s
lawful_stands body a s h st =
    record {
      stands = st;
      distinct = h.processes.distinct;
      owned = All-weaker (λ x. is_scope_well a.setup.resources s x ≡ true) (λ x. is_alive x.process s ≡ true)
          (λ x well. scope_alive a.setup.resources s x well) s.scopes h.waiting.scopes;
      apart = h.waiting.apart;
      entered = All-weaker (λ x. is_scope_well a.setup.resources s x ≡ true) (λ x. was_made s.facilities.calendar x.request ≡ true)
          (λ x well. scope_made a.setup.resources s x well) s.scopes h.waiting.scopes;
    }

-- so its accounts balance, with nothing to give back
pub some_owing : {B Code : Type 0} (body : BodyOf B Code) (a : PartsOf B Code) → StandsForSome body a → IsOwing body [] a
some_owing body a h = record { state = h.state; stands = lawful_stands body a h.state h.lawful h.stands; others = []; balances = h.balances }

-- ---- one change after another

pub becomes_then : {B Code : Type 0} {body : BodyOf B Code} {m n : ℕ}
    {gained between lost : List EventId} (f g : State B → State B) (a b c : PartsOf B Code) →
    BecomesOwing body gained between m f a b → BecomesOwing body between lost n g b c → BecomesOwing body gained lost (m + n) (λ s. g (f s)) a c
becomes_then {B} {Code} {body} {m} {n} f g a b c p q = owing_then f g a b c p (few_then m n a b c p.few q.few) q

-- so many holders more, or fewer than so many
pub becomes_within : {B Code : Type 0} {body : BodyOf B Code} {gained lost : List EventId}
    (m n : ℕ) (f : State B → State B) (a b : PartsOf B Code) → m ≤ n →
    BecomesOwing body gained lost m f a b → BecomesOwing body gained lost n f a b
becomes_within m n f a b few p = record { each = p.each; accounts = p.accounts; opened = p.opened; few = few_more m n a b few p.few }

-- changes that come to the same at each state that the kernel stands for
pub becomes_as : {B Code : Type 0} {body : BodyOf B Code} {m : ℕ} {gained lost : List EventId} (f g : State B → State B) (a b : PartsOf B Code) →
    ((s : State B) → Stands a s → f s ≡ g s) → BecomesOwing body gained lost m f a b → BecomesOwing body gained lost m g a b
becomes_as {B} {Code} {body} {m} {gained} {lost} f g a b same p = record {
  each = λ s h. subst (Stands b) (same s h) (p.each s h);
  accounts = λ todo s h k. subst (Balances body (lost ++ todo) b) (same s h) (p.accounts todo s h k);
  opened = p.opened;
  few = p.few;
}

-- where nothing changes
pub becomes_none : {B Code : Type 0} {body : BodyOf B Code} (a : PartsOf B Code) → Becomes body (λ s. s) a a
becomes_none a = record {
  each = λ s h. h;
  accounts = λ todo s h k. k;
  opened = record { code = refl; setup = refl; seed = refl };
  few = few_same a a refl;
}

-- ---- the resources

pub stands_on_facilities : {B Code : Type 0} (change : Facilities → Facilities) (a : PartsOf B Code) (x : SharedOf) (s : State B) →
    (ShowsAll a.shared s.facilities → ShowsAll x (change s.facilities)) → StandsFor a s → StandsFor (record a { shared = x }) (on_facilities change s)
stands_on_facilities change a x s shows h =
    record {
      facilities = shows h.facilities;
      processed = h.processed;
      generator = h.generator;
      processes = h.processes;
      scopes = h.scopes;
      control = h.control;
    }

pub no_fewer : (more : ℕ) (holds : List (Option ℕ) → List (Option ℕ)) (a x : HappenOf) → AddsHolders more holds → held x ≡ holds (held a) →
    length a.events ≤ length x.events
no_fewer more holds a x adds is =
    omega (arith, adds.longer (held a), ap (λ (hs : List (Option ℕ)). length hs) is, length-map a.events holders_at, length-map x.events holders_at)

-- what was made was made as long as no event is lost
pub entered_still : (c d : Calendar) (xs : List OpenScope) → length c.events ≤ length d.events → All (λ x. was_made c x.request ≡ true) xs →
    All (λ x. was_made d x.request ≡ true) xs
entered_still c d xs longer h =
    All-weaker (λ x. was_made c x.request ≡ true) (λ x. was_made d x.request ≡ true)
    (λ x made. lt-ltb x.request.0 (length d.events) (omega (arith, ltb-true x.request.0 (length c.events) made, longer))) xs h

-- the kernel stands for what is turned
pub turned_stands : {B Code : Type 0} (more : ℕ) (change : Facilities → Facilities) (holds : List (Option ℕ) → List (Option ℕ)) (a : PartsOf B Code)
    (x : SharedOf) → AddsHolders more holds → TurnsAll change holds a.shared x → (s : State B) → Stands a s →
    Stands (record a { shared = x }) (on_facilities change s)
turned_stands more change holds a x adds t s h =
    record {
      stands = stands_on_facilities change a x s (t.each s.facilities) h.stands;
      distinct = h.distinct;
      owned = h.owned;
      apart = h.apart;
      entered = entered_still s.facilities.calendar (change s.facilities).calendar s.scopes
          (omega (
            arith,
            no_fewer more holds a.shared.happen x.happen adds t.held,
            h.stands.facilities.calendar.made,
            (t.each s.facilities h.stands.facilities).calendar.made,
          )) h.entered;
    }

-- where nobody's holders change but by what is made, and what changes in the calendar is plain
pub becomes_turned_all : {B Code : Type 0} {body : BodyOf B Code} (change : Facilities → Facilities)
    (holds : List (Option ℕ) → List (Option ℕ)) (a : PartsOf B Code)
    (x : SharedOf) → AddsHolders 0 holds → KeepsAllHolders holds → ((f : Facilities) → ComesPlainly f.calendar (change f).calendar) →
    TurnsAll change holds a.shared x → Becomes body (on_facilities change) a (record a { shared = x })
becomes_turned_all {B} {Code} {body} change holds a x adds keeps plainly t =
    let b : PartsOf B Code = record a { shared = x } in
    owing_by [] [] 0 (on_facilities change) a b (turned_stands 0 change holds a x adds t) (record { code = refl; setup = refl; seed = refl })
    (few_by 0 holds a b adds t.held) (λ s h. stay_plainly holds a b s (on_facilities change s) keeps t.held (plainly s.facilities))
    (λ s h. quiet_trade a.setup.events (body.tell a.code) s (change s.facilities) (plainly s.facilities).quietly.triggers)

pub becomes_on_facilities : {B Code : Type 0} {body : BodyOf B Code} (change : Facilities → Facilities) (a : PartsOf B Code) (x : SharedOf) →
    ((f : Facilities) → ComesPlainly f.calendar (change f).calendar) → FollowsAll change a.shared x →
    Becomes body (on_facilities change) a (record a { shared = x })
becomes_on_facilities change a x plainly t = becomes_turned_all change as_before a x adds_none keeps_all plainly t

-- so many events more at most
pub becomes_made_all : {B Code : Type 0} {body : BodyOf B Code} (most : ℕ) (change : Facilities → Facilities) (a : PartsOf B Code) (x : SharedOf) →
    ((f : Facilities) → ComesPlainly f.calendar (change f).calendar) → MakesAll most change a.shared x →
    Becomes body (on_facilities change) a (record a { shared = x })
becomes_made_all most change a x plainly m =
    becomes_turned_all change (unheld_events m.made) a x (adds_unheld m.made) (keeps_unheld m.made) plainly m.turns

-- ---- what happens, which changes no resource

-- another calendar with no fewer events
pub shown_with : (a : SharedOf) (x : HappenOf) (f : Facilities) (d : Calendar) → length a.happen.events ≤ length x.events → Shows x d →
    ShowsAll a f → ShowsAll (record a { happen = x }) (record f { calendar = d })
shown_with a x f d more s h =
    record {
      calendar = s;
      opened = h.opened;
      resources = λ res y there. shown_later a.setup res y f d (h.resources res y there);
      tidy = tidy_later (length a.setup) f d (omega (arith, h.calendar.made, s.made, more)) h.tidy;
    }

-- what turns in what happens turns in all
pub turns_all : (change : Calendar → Calendar) (holds : List (Option ℕ) → List (Option ℕ)) (a : SharedOf) (x : HappenOf) (more : ℕ) →
    AddsHolders more holds →
    Turns change holds a.happen x → TurnsAll (on_calendar change) holds a (record a { happen = x })
turns_all change holds a x more adds t =
    record {
      each = λ f h. shown_with a x f (change f.calendar) (no_fewer more holds a.happen x adds t.held) (t.each f.calendar h.calendar) h;
      held = t.held;
      left = t.left;
      setup = refl;
    }

-- so does the kernel stand for what happens then
pub turned_stands_for : {B Code : Type 0} (more : ℕ) (change : Calendar → Calendar) (holds : List (Option ℕ) → List (Option ℕ)) (a : PartsOf B Code)
    (x : HappenOf) → AddsHolders more holds → Turns change holds a.shared.happen x → (s : State B) → Stands a s →
    Stands (with_happen x a) (on_events change s)
turned_stands_for more change holds a x adds t =
    turned_stands more (on_calendar change) holds a (record a.shared { happen = x }) adds (turns_all change holds a.shared x more adds t)

pub becomes_turned : {B Code : Type 0} {body : BodyOf B Code} (change : Calendar → Calendar)
    (holds : List (Option ℕ) → List (Option ℕ)) (a : PartsOf B Code)
    (x : HappenOf) → AddsHolders 0 holds → KeepsAllHolders holds → ((c : Calendar) → ComesPlainly c (change c)) →
    Turns change holds a.shared.happen x → Becomes body (on_events change) a (with_happen x a)
becomes_turned change holds a x adds keeps plainly t =
    becomes_turned_all (on_calendar change) holds a (record a.shared { happen = x }) adds keeps
    (λ f. plainly f.calendar) (turns_all change holds a.shared x 0 adds t)

pub becomes_followed : {B Code : Type 0} {body : BodyOf B Code} (change : Calendar → Calendar) (a : PartsOf B Code) (x : HappenOf) →
    ((c : Calendar) → ComesPlainly c (change c)) →
    Follows change a.shared.happen x → Becomes body (on_events change) a (with_happen x a)
becomes_followed change a x plainly t = becomes_turned change as_before a x adds_none keeps_all plainly t

-- an event more
pub becomes_made : {B Code : Type 0} {body : BodyOf B Code} (change : Calendar → Calendar) (a : PartsOf B Code) (x : HappenOf) →
    ((c : Calendar) → ComesPlainly c (change c)) →
    Turns change unheld_event a.shared.happen x → Becomes body (on_events change) a (with_happen x a)
becomes_made change a x plainly t = becomes_turned change unheld_event a x (adds_unheld 1) (keeps_unheld 1) plainly t

-- ---- what is being done

stands_controlled : {B Code : Type 0} (a : PartsOf B Code) (s : State B) (c d : Control) → c ≡ d → StandsFor a s →
    StandsFor (record a { control = c }) (record s { control = d })
stands_controlled a s c d same h =
    record {
      facilities = h.facilities;
      processed = h.processed;
      generator = h.generator;
      processes = h.processes;
      scopes = h.scopes;
      control = same;
    }

-- what the control becomes, by what it was: these holders are to be given back
pub owing_controlled : {B Code : Type 0} {body : BodyOf B Code} (lost : List EventId) (f : Control → Control) (a : PartsOf B Code) →
    ((s : State B) → Stands a s → StatesTrade a.setup.events (body.tell a.code) [] lost s (record s { control = f s.control })) →
    BecomesOwing body [] lost 0 (λ s. record s { control = f s.control }) a (record a { control = f a.control })
owing_controlled {B} {Code} {body} lost f a trades =
    let b : PartsOf B Code = record a { control = f a.control } in
    let change : State B → State B = λ s. record s { control = f s.control } in
    owing_by [] lost 0 change a b
    (λ s h. record {
      stands = stands_controlled a s (f a.control) (f s.control) (ap f h.stands.control) h.stands;
      distinct = h.distinct;
      owned = h.owned;
      apart = h.apart;
      entered = h.entered;
    })
    (record { code = refl; setup = refl; seed = refl }) (few_same a b refl) (λ s h. stay_stated a b s (change s) refl refl) trades

pub becomes_told : {B Code : Type 0} {body : BodyOf B Code} (x : Signal) (a : PartsOf B Code) →
    Becomes body (tell x) a (record a { control = told_more x a.control })
becomes_told {B} {Code} {body} x a = owing_controlled [] (told_more x) a (λ s h. told_trade a.setup.events (body.tell a.code) x s)

pub becomes_rested : {B Code : Type 0} {body : BodyOf B Code} (a : PartsOf B Code) → Becomes body rest a (record a { control = not_active a.control })
becomes_rested {B} {Code} {body} a = owing_controlled [] not_active a (λ s h. rest_trade a.setup.events (body.tell a.code) s)

-- ---- what no kernel keeps, or nobody holds an event by

-- the state is stood for as well, and names as before
pub becomes_unnamed : {B Code : Type 0} {body : BodyOf B Code} (f : State B → State B) (a b : PartsOf B Code) →
    ((s : State B) → Stands a s → Stands b (f s)) →
    IsOpenedAs a b → b.shared ≡ a.shared → ((s : State B) → calendar (f s) ≡ calendar s) →
    ((s : State B) → StatesTrade a.setup.events (body.tell a.code) [] [] s (f s)) → Becomes body f a b
becomes_unnamed f a b each opened same stays trades =
    let table = ap (λ (x : SharedOf). held x.happen) same in
    owing_by [] [] 0 f a b each opened (few_same a b table) (λ s h. stay_stated a b s (f s) (stays s) table) (λ s h. trades s)

-- lines, which no kernel keeps
pub becomes_written : {B Code : Type 0} {body : BodyOf B Code} (line : State B → Line) (a : PartsOf B Code) →
    Becomes body (λ s. write_line (line s) s) a a
becomes_written {B} {Code} {body} line a =
    becomes_unnamed (λ s. write_line (line s) s) a a
    (λ s h. record {
      stands = record {
        facilities = h.stands.facilities;
        processed = h.stands.processed;
        generator = h.stands.generator;
        processes = h.stands.processes;
        scopes = h.stands.scopes;
        control = h.stands.control;
      };
      distinct = h.distinct;
      owned = h.owned;
      apart = h.apart;
      entered = h.entered;
    })
    (record { code = refl; setup = refl; seed = refl }) refl (λ s. refl)
    (λ s. trades_nothing (held_alone a.setup.events (body.tell a.code) s)
    (held_alone a.setup.events (body.tell a.code) (write_line (line s) s)) (λ e. refl))

-- ---- random words

pub becomes_drawn : {B Code : Type 0} {body : BodyOf B Code} (a : PartsOf B Code) →
    Becomes body (λ s. record s { drawn = s.drawn + 1 }) a (record a { generator = (pcg64 a.generator).1 })
becomes_drawn {B} {Code} {body} a =
    becomes_unnamed (λ s. record s { drawn = s.drawn + 1 }) a (record a { generator = (pcg64 a.generator).1 })
    (λ s h. record {
      stands = record {
        facilities = h.stands.facilities;
        processed = h.stands.processed;
        generator = rw (add-one, h.stands.generator) refl;
        processes = h.stands.processes;
        scopes = h.stands.scopes;
        control = h.stands.control;
      };
      distinct = h.distinct;
      owned = h.owned;
      apart = h.apart;
      entered = h.entered;
    })
    (record { code = refl; setup = refl; seed = refl }) refl (λ s. refl)
    (λ s. trades_nothing (held_alone a.setup.events (body.tell a.code) s)
    (held_alone a.setup.events (body.tell a.code) (record s { drawn = s.drawn + 1 })) (λ e. refl))

-- ---- one process, which keeps its number and its scopes

-- the holders gained are used up, and those lost are to be given back
pub owing_changed : {B Code : Type 0} {body : BodyOf B Code} (gained lost : List EventId)
    (p : ProcId) (change : RecordOf B → RecordOf B) (changes : ProcessOf B → ProcessOf B)
    (a : PartsOf B Code) → ((r : RecordOf B) → process_of (change r) ≡ changes (process_of r)) → ((r : RecordOf B) → (change r).id ≡ r.id) →
    ((r : RecordOf B) → (change r).scopes ≡ r.scopes) → ((x : ProcessOf B) → (changes x).id ≡ x.id) →
    ((s : State B) → Stands a s → StatesTrade a.setup.events (body.tell a.code) gained lost s (change_process p changes s)) →
    BecomesOwing body gained lost 0 (change_process p changes) a (record a { live = change_record p change a.live })
owing_changed {B} {Code} {body} gained lost p change changes a same ids scopes keeps trades =
    let b : PartsOf B Code = record a { live = change_record p change a.live } in
    owing_by gained lost 0 (change_process p changes) a b
    (λ s h.
    let P : List (ProcessOf B) → Type 0 = λ xs. IsPermutation (change_process p changes s).processes xs in
    record {
      stands = record {
        facilities = h.stands.facilities;
        processed = h.stands.processed;
        generator = h.stands.generator;
        processes = subst P (changed_mapped p change changes same a.live)
            (IsPermutation-map (λ x. if is_process x.id p then changes x else x) s.processes (map process_of a.live) h.stands.processes);
        scopes = changed_scopes p change (λ q. scopes_of q s) ids scopes a.live h.stands.scopes;
        control = h.stands.control;
      };
      distinct = changed_distinct p changes s keeps h.distinct;
      owned = All-weaker (λ x. is_alive x.process s ≡ true) (λ x. is_alive x.process (change_process p changes s) ≡ true)
          (λ x lives. alive_changed p x.process changes s keeps ∙ lives) s.scopes h.owned;
      apart = h.apart;
      entered = h.entered;
    })
    (record { code = refl; setup = refl; seed = refl }) (few_same a b refl) (λ s h. stay_stated a b s (change_process p changes s) refl refl) trades

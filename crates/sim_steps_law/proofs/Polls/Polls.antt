-- What a polled process asks for is done as the machine does it.
use Rattle.std.proofs.Common.{◌≡◌, ◌+◌, ◌<◌, ◌^◌, arith, ℕ, ℤ, true, false, List, [], ◌∷◌, ◌++◌, length, refl, sym, ap, subst, ◌∙◌, Option, Some, None}
use Rattle.std.specs.Prelude.{int_lt, slice_index_or, is_some, IsSome}
use Rattle.std.proofs.lemmas.Bool.{false≢true}
use Rattle.std.specs.Option.{option_map}
use Rattle.std.specs.List.{list_all}
use Rattle.std.proofs.lemmas.Option.{none-some, same_Some}
use Rattle.rand_pcg.specs.Lcg.{Lcg}
use Rattle.rand_pcg.specs.Pcg.{pcg64}
use Rattle.sim_types.specs.Throws.{empty_range}
use Rattle.sim_types.specs.declared.event.EventId.{EventId}
use Rattle.sim_types.specs.declared.event.ProcId.{ProcId}
use Rattle.sim_types.specs.declared.event.Signal.{Signal}
use Rattle.sim_types.specs.declared.event.Signal.TheVariants as signal
use Rattle.sim_types.specs.declared.op.Op.{Op}
use Rattle.sim_types.specs.declared.op.Op.TheVariants as op
use Rattle.sim_types.specs.declared.line.Line.TheVariants as line
use Rattle.sim_machine.specs.State.{Active, Calendar, ProcessOf, State, Plan}
use Rattle.sim_machine.specs.Events.{is_process, is_same}
use Rattle.sim_machine.specs.Processes.{process_at, with_body, told_more, tell, write_line}
use Rattle.sim_machine.specs.Effect.{calendar, draw, drawn_number, effect}
use Rattle.sim_machine.specs.Bodies.{BodyOf}
use Rattle.sim_machine.specs.BodyLaw.{IsLawfulPoll}
use Rattle.sim_machine.specs.LawfulBodies.{place_fits}
use Rattle.sim_machine.specs.Steps.{polled}
use Rattle.sim_machine_law.proofs.Events.CallbackLaws.{count_by-append}
use Rattle.sim_machine_law.proofs.KeptParts.KeptBodies.{find_has}
use Rattle.sim_machine_law.proofs.RunLaws.WrittenLines.{lines_by, effect_writes}
use Rattle.sim_procs.specs.Premises.{CanBeTold, ChangesOnly, events_in_places}
use Rattle.sim_procs.specs.RecordOf.{RecordOf, record_of, change_record}
use Rattle.sim_happen_model.specs.TableOf.{Kept}
use Rattle.sim_happen_model.specs.HappenOf.{HappenOf, held}
use Rattle.sim_happen_model.specs.Accounts.{AreGoneClosed, Balanced}
use Rattle.sim_happen_model.specs.HolderChanges.{IsOnlyProcess, StatesTrade}
use Rattle.sim_happen_model.specs.Naming.{but_zero, held_alone, named_in_places}
use Rattle.sim_accounts.proofs.Balancing.{trades_balanced}
use Rattle.sim_accounts.proofs.ChangedPlaces.{times_in, none_exchanged, place_exchanged}
use Rattle.sim_accounts.proofs.NumberPlaces.{all_fit_numbers, number_is_zero}
use Rattle.sim_accounts.proofs.StateChanges.{body_trade}
use Rattle.sim_steps_model.specs.declared.mode.Unit.{Unit}
use Rattle.sim_steps_model.specs.declared.mode.Unit.TheVariants as unit
use Rattle.sim_steps_model.specs.PartsOf.{PartsOf, IsOpenedAs, IsRunning, KeepsButHappen, plan_of, with_happen}
use Rattle.sim_steps_model.specs.StandsFor.{StandsFor, StandsForSome, LawfulOf, StepOf, process_of, lines_of}
use Rattle.sim_steps_model.specs.Becoming.{AreFew, Becomes, BecomesOwing, BecomesWith, IsOwing, Moves, Stands, most_held}
use Rattle.sim_steps_model.specs.Holding.{HoldsMore, StandInPlaces, TakesHolder}
use Rattle.sim_steps_model.specs.Polling.{Asks, AsksOwing, DoesAsked, event_there, place_changed}
use Rattle.sim_steps_law.proofs.Kernels.Accounting.{owing_after, owing_besides}
use Rattle.sim_steps_law.proofs.Kernels.Becoming.{lawful_stands, becomes_then, becomes_as, becomes_drawn, becomes_told, becomes_within, becomes_written, owing_changed}
use Rattle.sim_steps_law.proofs.Holders.BodyPlaces.{polled_alike, polled_numbers, stand_where}
use Rattle.sim_steps_law.proofs.Callbacks.Calls.{at_control}
use Rattle.sim_steps_law.proofs.Holders.CountedHolders.{AreAlike, trades_alike}
use Rattle.sim_steps_law.proofs.Kernels.Running.{KeepsLaw, process_found, running_can_be_told, running_is}

-- ---- the process that runs is polled

pub found_record : {B : Type 0} (o : Option (RecordOf B)) (b : B) → option_map (λ r. r.body) o ≡ Some b →
    (r : RecordOf B) × (o ≡ Some r) × (r.body ≡ b)
found_record None b h = absurd (none-some b h)
found_record (Some r) b h = (r, refl, same_Some _ b h)

-- the poll is one of the machine
polled_step : {B Code : Type 0} (body : BodyOf B Code) (old mid : PartsOf B Code) (event : EventId) (p : ProcId) (told : Signal) (asked : Op)
    (s : State B) → IsRunning event p told old.control → (a : Asks body p told old asked mid) → LawfulOf body old s → StandsFor old s →
    StepOf body old s (polled (plan_of body old) p asked a.later s)
polled_step body old mid event p told asked s running a h st =
    let r = found_record (record_of p old.live) a.before a.found in
    let is = running_is old.control event p told running in
    at_control (plan_of body old) (body.turn old.code) s (polled (plan_of body old) p asked a.later s)
    (Active event is.0 p told) (sym is.1 ∙ st.control)
    (record {
      process = process_of r.0;
      found = process_found old s p h.processes.distinct st ∙ ap (λ o. option_map process_of o) r.1;
      asked = asked;
      body = a.later;
      turned = rw (r.2) (rw (← st.facilities.calendar.time) a.turned);
      then_is = refl;
    })

-- ---- what stands in its places

-- who has a record is the live process of its number
pub only_process : {B Code : Type 0} (a : PartsOf B Code) (p : ProcId) (r : RecordOf B) (s : State B) → record_of p a.live ≡ Some r → Stands a s →
    IsOnlyProcess p (process_of r) s
only_process a p r s found h =
    record { found = process_found a s p h.distinct h.stands ∙ ap (λ o. option_map process_of o) found; distinct = h.distinct }

none_before : (o q : Option Kept) → (IsSome o → IsSome q) → q ≡ None → o ≡ None
none_before None q h is = refl
none_before (Some k) q h is = absurd (false≢true (subst (λ x. is_some x ≡ true) is (h refl)))

-- what is gone where a holder was taken was gone before
pub gone_still : (a b : HappenOf) (c : Calendar) → TakesHolder a b → AreGoneClosed a.events c → AreGoneClosed b.events c
gone_still a b c takes h = record {
  each = λ e made gone.
      h.each e (omega (arith, made, takes.made))
      (none_before (slice_index_or a.events e.0 None) (slice_index_or b.events e.0 None) (takes.kept e) gone);
}

-- what a kind of bodies tells of its places by reading them: they are those that a sound body tells, and a poll that tells
-- of an event that the body made changes one of them at most
pub record ReadsPlaces {B Code : Type 0} (body : BodyOf B Code) (code : Code) (events : B → List EventId) (place : B → Option ℕ) : Type 0 where
  pub places : (b : B) → body.sound code b → events_in_places body code b ≡ events b
  pub others : (b : B) (time : ℤ) (e : EventId) (asked : Op) (d : B) → CanBeTold body code b (signal.Made e) →
      body.turn code b time (signal.Made e) asked d →
      ChangesOnly (place b) (events b) (events d)

module _ {B Code : Type 0} (body : BodyOf B Code) (events : B → List EventId) (place : B → Option ℕ) where
  -- in a lawful state the body of each live process names what stands in its places
  pub lawful_places : (a : PartsOf B Code) (p : ProcId) (r : RecordOf B) → ReadsPlaces body a.code events place → StandsForSome body a →
      record_of p a.live ≡ Some r → list_all number_is_zero ((body.tell a.code).places r.body) ≡ true × body.sound a.code r.body
  lawful_places a p r reads h found =
      let s = h.state in
      let tell = body.tell a.code in
      let here : process_at p s ≡ Some (process_of r) =
      process_found a s p h.lawful.processes.distinct h.stands ∙ ap (λ o. option_map process_of o) found in (
        all_fit_numbers (calendar s) (tell.places r.body)
            (find_has (λ z. list_all (place_fits (calendar s)) (tell.places z.body) ≡ true)
            (λ z. is_process z.id p) s.processes (process_of r) here h.lawful.bodies.places),
        find_has (λ z. body.sound a.code z.body) (λ z. is_process z.id p) s.processes (process_of r) here h.lawful.bodies.bodies,
      )

  pub lawful_stand : (a : PartsOf B Code) (p : ProcId) (r : RecordOf B) → ReadsPlaces body a.code events place → StandsForSome body a →
      record_of p a.live ≡ Some r → StandInPlaces (body.tell a.code) (events r.body) r.body
  lawful_stand a p r reads h found =
      let is = lawful_places a p r reads h found in
      stand_where (body.tell a.code) r.body (events r.body) is.0 (reads.places r.body is.1)

  module _ (old : PartsOf B Code) (p : ProcId) (event : EventId) (told : Signal)
      (reads : ReadsPlaces body old.code events place) (law : KeepsLaw body old.code)
      (h : StandsForSome body old) (few : length old.shared.happen.events < 2 ^ 62) (running : IsRunning event p told old.control)
      (mid : PartsOf B Code) (asked : Op) (a : Asks body p told old asked mid) where
    abbrev r : RecordOf B
    r = (found_record (record_of p old.live) a.before a.found).0

    found : record_of p old.live ≡ Some r
    found = (found_record (record_of p old.live) a.before a.found).1

    is_before : r.body ≡ a.before
    is_before = (found_record (record_of p old.live) a.before a.found).2

    pub can : CanBeTold body old.code a.before told
    can = running_can_be_told body old event p told a.before h running a.found few

    pub poll : IsLawfulPoll (body.facts old.code) (body.tell old.code) a.before told asked a.later
    poll = law.polls a.before old.shared.happen.time told asked a.later can.sound can.told a.turned

    pub sound_later : body.sound old.code a.later
    sound_later = law.keeps a.before old.shared.happen.time told asked a.later can.sound can.told a.turned

    stand_before : StandInPlaces (body.tell old.code) (events a.before) a.before
    stand_before = subst (λ b. StandInPlaces (body.tell old.code) (events b) b) is_before (lawful_stand old p r reads h found)

    -- after the poll so does the new state
    pub stand_later : StandInPlaces (body.tell old.code) (events a.later) a.later
    stand_later =
        let numbers = subst (λ b. list_all number_is_zero ((body.tell old.code).places b) ≡ true) is_before (lawful_places old p r reads h found).0 in
        stand_where (body.tell old.code) a.later (events a.later)
        (polled_numbers ((body.tell old.code).last a.before) told ((body.tell old.code).places a.before)
        ((body.tell old.code).places a.later) poll.places numbers)
        (reads.places a.later sound_later)

    -- what stood in the place that changed, and what stands there then
    abbrev pub left : EventId
    left = event_there (events a.before) (place_changed (place a.before) told)

    abbrev pub taken : EventId
    taken = event_there (events a.later) (place_changed (place a.before) told)

    -- the place that is told, and the events before and after
    abbrev Exchanged : Option ℕ → List EventId → List EventId → Type 0
    Exchanged at es fs = (e : EventId) → times_in e fs + times_in e (event_there es at ∷ []) ≡ times_in e es + times_in e (event_there fs at ∷ [])

    exchanged_same : (es fs : List EventId) → fs ≡ es → Exchanged None es fs
    exchanged_same es fs same e = omega (arith, ap (times_in e) same)

    exchanged_told : (at : Option ℕ) (es fs : List EventId) → ChangesOnly at es fs → Exchanged at es fs
    exchanged_told None es fs only e = exchanged_same es fs (none_exchanged None es fs refl only.length only.each) e
    exchanged_told (Some k) es fs only e = place_exchanged e (Some k) k es fs refl only.length only.each

    exchanged : Exchanged (place_changed (place a.before) told) (events a.before) (events a.later)
    exchanged = by told refl
      where
        alike : (x : Signal) → told ≡ x → ((e : EventId) → x ≡ signal.Made e → ⊥) → events a.later ≡ events a.before
        alike x is none =
            sym (reads.places a.later sound_later)
            ∙ (polled_alike ((body.tell old.code).last a.before) told ((body.tell old.code).places a.before)
            ((body.tell old.code).places a.later) poll.places (λ e made. none e (sym is ∙ made))
            ∙ reads.places a.before can.sound)

        by : (x : Signal) → told ≡ x → Exchanged (place_changed (place a.before) x) (events a.before) (events a.later)
        by (signal.Made e) is =
            exchanged_told (place a.before) (events a.before) (events a.later)
            (reads.others a.before old.shared.happen.time e asked a.later (subst (CanBeTold body old.code a.before) is can)
            (subst (λ x. body.turn old.code a.before old.shared.happen.time x asked a.later) is a.turned))
        by signal.Begin is = exchanged_same (events a.before) (events a.later) (alike signal.Begin is (λ e no. cc))
        by (signal.Value v) is = exchanged_same (events a.before) (events a.later) (alike (signal.Value v) is (λ e no. cc))
        by (signal.Thrown t) is = exchanged_same (events a.before) (events a.later) (alike (signal.Thrown t) is (λ e no. cc))
        by (signal.Number v) is = exchanged_same (events a.before) (events a.later) (alike (signal.Number v) is (λ e no. cc))
        by (signal.Raised k) is = exchanged_same (events a.before) (events a.later) (alike (signal.Raised k) is (λ e no. cc))
        by signal.Done is = exchanged_same (events a.before) (events a.later) (alike signal.Done is (λ e no. cc))

    -- so these come and go
    polled_trade : (s : State B) → Stands old s →
        StatesTrade old.setup.events (body.tell old.code) (but_zero (taken ∷ [])) (but_zero (left ∷ [])) s (with_body p a.later s)
    polled_trade s k =
        let gained : List EventId = but_zero (events a.later) in
        let lost : List EventId = but_zero (events a.before) in
        let both : StatesTrade old.setup.events (body.tell old.code) gained lost s (with_body p a.later s) =
        subst (λ xs. StatesTrade old.setup.events (body.tell old.code) xs lost s (with_body p a.later s)) stand_later.named
        (subst (λ xs. StatesTrade old.setup.events (body.tell old.code) (but_zero (named_in_places (body.tell old.code) a.later)) xs s
        (with_body p a.later s)) (ap (λ b. but_zero (named_in_places (body.tell old.code) b)) is_before ∙ stand_before.named)
        (body_trade old.setup.events (body.tell old.code) s p (process_of r) a.later (only_process old p r s found k))) in
        let alike : AreAlike (gained ++ but_zero (left ∷ [])) (but_zero (taken ∷ []) ++ lost) = record {
          each = λ e. omega (
            arith,
            exchanged e,
            count_by-append (is_same e) gained (but_zero (left ∷ [])),
            count_by-append (is_same e) (but_zero (taken ∷ [])) lost,
          );
        } in
        trades_alike gained lost (but_zero (taken ∷ [])) (but_zero (left ∷ [])) (held_alone old.setup.events (body.tell old.code) s)
        (held_alone old.setup.events (body.tell old.code) (with_body p a.later s)) alike both

    -- what stands there then is held
    pub asked_owing : (new : PartsOf B Code) → mid.shared.happen ≡ old.shared.happen →
        BecomesOwing body [] (but_zero (taken ∷ [])) 1 (λ s. s) mid new →
        HoldsMore taken mid.shared.happen.events new.shared.happen.events → TakesHolder mid.shared.happen new.shared.happen → KeepsButHappen mid new →
        AsksOwing body p told left old asked new
    asked_owing new same hold more takes rest =
        let change : RecordOf B → RecordOf B = λ x. record x { body = a.later } in
        let changes : ProcessOf B → ProcessOf B = λ x. record x { body = a.later } in
        let named : ℕ = old.setup.events in
        let gained : List EventId = but_zero (taken ∷ []) in
        let lost : List EventId = but_zero (left ∷ []) in
        let polls : BecomesOwing body gained lost 0 (with_body p a.later) old (record old { live = change_record p change old.live }) =
        owing_changed gained lost p change changes old (λ x. refl) (λ x. refl) (λ x. refl) (λ x. refl) polled_trade in
        let is : mid ≡ record old { live = change_record p change old.live } =
        a.others ∙ ap (λ x. let k : PartsOf B Code = record (with_happen x old) { live = change_record p change old.live } in k) same in
        let stands : (s : State B) → Stands old s → Stands new (with_body p a.later s) =
        λ s k. hold.each (with_body p a.later s) (subst (λ m. Stands m (with_body p a.later s)) (sym is) (polls.each s k)) in
        let opened : IsOpenedAs old new =
        record {
          code = hold.opened.code ∙ ap (λ (k : PartsOf B Code). k.code) is;
          setup = hold.opened.setup ∙ ap (λ (k : PartsOf B Code). k.setup) is;
          seed = hold.opened.seed ∙ ap (λ (k : PartsOf B Code). k.seed) is;
        } in
        let kept : TakesHolder old.shared.happen new.shared.happen = subst (λ x. TakesHolder x new.shared.happen) same takes in
        record {
          asks = record {
            before = a.before;
            later = a.later;
            found = a.found;
            turned = a.turned;
            takes = kept;
            others = rest ∙ ap (with_happen new.shared.happen) is;
          };
          owes = record {
            each = stands;
            accounts = λ todo s k balances.
                let was : EventId → ℕ = held_alone named (body.tell old.code) s in
                let is_now : EventId → ℕ = held_alone named (body.tell old.code) (with_body p a.later s) in
                let held_more : Balanced was (gained ++ todo) new.shared.happen.events =
                more.balanced was todo (subst (λ (x : HappenOf). Balanced was todo x.events) (sym same) balances.holders) in
                record {
                  holders = rw (opened.setup, opened.code)
                      (trades_balanced gained lost todo was is_now new.shared.happen.events (polled_trade s k) held_more);
                  gone = gone_still old.shared.happen new.shared.happen (calendar s) kept balances.gone;
                };
            opened = opened;
            few = record { few = λ most k. hold.few.few most (subst (λ (x : HappenOf). AreFew most (held x)) (sym same) k) };
          };
        }

-- ---- what is asked for is done

module _ {B Code : Type 0} (body : BodyOf B Code) (more : ℕ) (old mid new : PartsOf B Code)
    (event : EventId) (p : ProcId) (told : Signal) (left : EventId) (asked : Op)
    (answer : Unit) where
  -- and what stood in the place that changed is still to be given back
  pub does_asked : IsRunning event p told old.control → AsksOwing body p told left old asked mid →
      lines_by p asked old.shared.happen.time ≡ lines_of answer → more < most_held →
      BecomesWith body more (effect (plan_of body mid) p asked) mid new →
      DoesAsked body p left old answer new
  does_asked running a lines few done =
      let g : Plan B = plan_of body old in
      let turns : State B → State B = with_body p a.asks.later in
      let lost : List EventId = but_zero (left ∷ []) in
      let same : plan_of body mid ≡ g = rw (a.owes.opened.code, a.owes.opened.setup, a.owes.opened.seed) refl in
      let does : BecomesWith body more (effect g p asked) mid new = subst (λ h. BecomesWith body more (effect h p asked) mid new) same done in
      let all : BecomesOwing body [] lost (1 + more) (λ s. effect g p asked (turns s)) old new =
      becomes_then turns (effect g p asked) old mid new a.owes (owing_besides lost (effect g p asked) mid new does) in
      record {
        asked = asked;
        later = a.asks.later;
        steps = λ s h st. polled_step body old mid event p told asked s running a.asks h st;
        lines = λ s st. effect_writes g p asked (turns s)
            ∙ ap (λ xs. s.lines ++ xs) (ap (lines_by p asked) (sym st.facilities.calendar.time) ∙ lines);
        owes = becomes_within (1 + more) most_held (polled g p asked a.asks.later) old new (omega (arith, few)) all;
      }

-- a line is written, and the process goes on
pub logs_asked : {B Code : Type 0} (body : BodyOf B Code) (old mid new : PartsOf B Code)
    (event : EventId) (p : ProcId) (told : Signal) (left : EventId)
    (value time written : ℤ) → IsRunning event p told old.control → AsksOwing body p told left old (op.Log value) mid →
    time ≡ new.shared.happen.time → written ≡ value →
    new ≡ record mid { control = told_more signal.Done mid.control } → DoesAsked body p left old (unit.Line (line.Log time p written)) new
logs_asked {B} {Code} body old mid new event p told left value time written running a is_time is_written is =
    let time_of : PartsOf B Code → ℤ = λ k. k.shared.happen.time in
    let now : time ≡ old.shared.happen.time = is_time ∙ (ap time_of is ∙ a.asks.takes.time) in
    let writing : State B → State B = λ s. write_line (line.Log (calendar s).time p value) s in
    let goes_on : Becomes body (λ s. tell signal.Done (writing s)) mid (record mid { control = told_more signal.Done mid.control }) =
    becomes_then writing (tell signal.Done) mid mid _
    (becomes_written (λ s. line.Log (calendar s).time p value) mid) (becomes_told signal.Done mid) in
    does_asked body 0 old mid new event p told left (op.Log value)
    (unit.Line (line.Log time p written)) running a (rw (now, is_written) refl) (omega arith)
    (subst (Becomes body (λ s. tell signal.Done (writing s)) mid) (sym is) goes_on)

-- then it is given back
module _ {B Code : Type 0} (body : BodyOf B Code) (old mid new : PartsOf B Code) (p : ProcId)
    (left : EventId) (answer : Unit) (d : DoesAsked body p left old answer mid) where
  pub asked_owes : StandsForSome body old → IsOwing body (but_zero (left ∷ [])) mid
  asked_owes h =
      owing_after (polled (plan_of body old) p d.asked d.later) old mid d.owes
      (record { state = h.state; stands = lawful_stands body old h.state h.lawful h.stands; others = []; balances = h.balances })

  pub polled_moves : BecomesOwing body (but_zero (left ∷ [])) [] 0 (λ s. s) mid new → Moves body old answer new
  polled_moves back =
      let does : State B → State B = polled (plan_of body old) p d.asked d.later in
      let all : BecomesWith body most_held does old new = becomes_then does (λ s. s) old mid new d.owes back in
      record {
        each = λ s h st.
            let k : Stands old s = lawful_stands body old s h st in
            record { state = does s; stepped = d.steps s h st; stands = (all.each s k).stands; accounts = all.accounts [] s k; lines = d.lines s st };
        opened = all.opened;
        few = all.few;
      }

-- ---- a number is drawn

-- none is, where the range is empty
pub empty_becomes : {B Code : Type 0} {body : BodyOf B Code} (g : Plan B) (a n : PartsOf B Code) (lo hi : ℤ) → int_lt hi lo ≡ true →
    n ≡ record a { control = told_more (signal.Raised empty_range) a.control } → Becomes body (draw g lo hi) a n
empty_becomes {B} {Code} {body} g a n lo hi none is =
    subst (Becomes body (draw g lo hi) a) (sym is)
    (becomes_as (tell (signal.Raised empty_range)) (draw g lo hi) a _ (λ s h. rw none refl) (becomes_told (signal.Raised empty_range) a))

pub drawn_becomes : {B Code : Type 0} (body : BodyOf B Code) (a n : PartsOf B Code) (lo hi number : ℤ) (word : ℕ) (next : Lcg) →
    int_lt hi lo ≡ false →
    (word, next) ≡ pcg64 a.generator → number ≡ drawn_number word lo hi →
    n ≡ record a { generator = next; control = told_more (signal.Number number) a.control } → Becomes body (draw (plan_of body a) lo hi) a n
drawn_becomes {B} {Code} body a n lo hi number word next some draws told is =
    let x : Signal = signal.Number (drawn_number (pcg64 a.generator).0 lo hi) in
    let drawing : State B → State B = λ s. record s { drawn = s.drawn + 1 } in
    let b : PartsOf B Code = record a { generator = (pcg64 a.generator).1 } in
    let same : n ≡ record b { control = told_more x b.control } =
    is ∙ rw (told, ap (λ (d : ℕ × Lcg). d.0) draws, ap (λ (d : ℕ × Lcg). d.1) draws) refl in
    subst (Becomes body (draw (plan_of body a) lo hi) a) (sym same)
    (becomes_as (λ s. tell x (drawing s)) (draw (plan_of body a) lo hi) a _ (λ s h. rw (some, h.stands.generator) refl)
    (becomes_then drawing (tell x) a b _ (becomes_drawn a) (becomes_told x b)))

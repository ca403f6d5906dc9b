-- A process that is polled asks for nothing, and what it is told puts no event into a place: that is a whole unit. So are all
-- but the last of many polls in a row, and from where they lead the last one is made.
use Rattle.std.proofs.Common.{◌≡◌, ◌<◌, ◌^◌, ℕ, ℤ, zero, suc, List, [], ◌∷◌, length, refl, sym, ap, subst, ◌∙◌, Option, Some, None, arith}
use Rattle.sim_types.specs.declared.event.Entry.{Entry}
use Rattle.sim_types.specs.declared.event.EventId.{EventId}
use Rattle.sim_types.specs.declared.event.ProcId.{ProcId}
use Rattle.sim_types.specs.declared.event.Signal.{Signal}
use Rattle.sim_types.specs.declared.event.Signal.TheVariants as signal
use Rattle.sim_types.specs.declared.line.Line.TheVariants as line
use Rattle.sim_types.specs.declared.op.Op.{Op}
use Rattle.sim_types.specs.declared.op.Op.TheVariants as op
use Rattle.sim_machine.specs.Bodies.{BodyOf}
use Rattle.sim_machine.specs.Effect.{effect}
use Rattle.sim_machine.specs.Processes.{tell, told_more}
use Rattle.sim_machine.specs.Setups.{FitsCode}
use Rattle.sim_machine.specs.State.{Control, Idle, Calling, Active, Over, State}
use Rattle.sim_lawful.proofs.Units.WholeSteps.{lawful_step}
use Rattle.sim_machine_law.proofs.RunLaws.WrittenLines.{lines_by}
use Rattle.sim_procs.specs.QuietPolls.{InARow, QuietPolls, told_after}
use Rattle.sim_procs.specs.RecordOf.{RecordOf, change_record, record_of}
use Rattle.sim_happen_model.specs.TableOf.{AreNeeded, IsKept}
use Rattle.sim_happen_model.specs.Naming.{but_zero}
use Rattle.sim_steps_model.specs.declared.mode.Rest.TheVariants as rest
use Rattle.sim_steps_model.specs.declared.mode.Unit.{Unit}
use Rattle.sim_steps_model.specs.declared.mode.Unit.TheVariants as unit
use Rattle.sim_steps_model.specs.Becoming.{Becomes, BecomesOwing, BecomesWith, IsOwing, Moves, most_held}
use Rattle.sim_steps_model.specs.Holding.{HoldsMore, TakesHolder}
use Rattle.sim_steps_model.specs.PartsOf.{PartsOf, HasUnitRoom, IsRunning, KeepsButHappen, plan_of}
use Rattle.sim_steps_model.specs.Polling.{Asks, AsksOwing, event_placed, event_there, place_changed, place_given}
use Rattle.sim_steps_model.specs.QuietUnits.{AsksAtLast, AsksOwingAtLast, BeforeLast, DoesAskedAtLast, MovesAtLast, MovesQuietly, with_live}
use Rattle.sim_steps_model.specs.Resting.{rest_of}
use Rattle.sim_steps_model.specs.StandsFor.{StandsForSome, LawfulOf, lines_of}
use Rattle.sim_steps_law.proofs.Polls.AskedPlaces.{now_kept, now_owing}
use Rattle.sim_steps_law.proofs.Kernels.Becoming.{becomes_none, becomes_told, becomes_within}
use Rattle.sim_steps_law.proofs.Holders.HeldPlaces.{holds_none}
use Rattle.sim_steps_law.proofs.Holders.Holding.{takes_none}
use Rattle.sim_steps_law.proofs.Polls.Polls.{ReadsPlaces, asked_owes, asked_owing, does_asked, logs_asked, polled_moves}
use Rattle.sim_steps_law.proofs.Kernels.Records.{changed_again, changed_found, unchanged_body}
use Rattle.sim_steps_law.proofs.Kernels.Running.{KeepsLaw, IsBodyOf}

-- what is told puts no event into a place
abbrev pub FillsNone : Signal → Type 0
FillsNone told = (at : Option ℕ) → place_changed at told ≡ None

module _ {B Code : Type 0} (body : BodyOf B Code) (events : B → List EventId) (place : B → Option ℕ) (old : PartsOf B Code) (p : ProcId)
    (event : EventId) (told : Signal) (reads : ReadsPlaces body old.code events place) (law : KeepsLaw body old.code) (h : StandsForSome body old)
    (few : length old.shared.happen.events < 2 ^ 62) (running : IsRunning event p told old.control)
    (none : FillsNone told) (mid : PartsOf B Code) (a : Asks body p told old op.Nop mid) where
  abbrev event_zero : EventId
  event_zero = record { 0 = 0 }

  -- no place changes
  there_is : (b : B) → event_there (events b) (place_changed (place a.before) told) ≡ event_zero
  there_is b = ap (event_there (events b)) (none (place a.before))

  -- so nothing is taken, and nothing is to be given back
  quiet_owing : mid.shared.happen ≡ old.shared.happen → AsksOwing body p told event_zero old op.Nop mid
  quiet_owing same =
      let takes : EventId = event_there (events a.later) (place_changed (place a.before) told) in
      let stays : BecomesOwing body [] (but_zero (event_zero ∷ [])) 1 (λ (s : State B). s) mid mid =
      becomes_within 0 1 (λ (s : State B). s) mid mid (omega arith) (becomes_none mid) in
      subst (λ e. AsksOwing body p told e old op.Nop mid) (there_is a.before)
      (asked_owing body events place old p event told reads law h few running mid op.Nop a mid same
      (subst (λ e. BecomesOwing body [] (but_zero (e ∷ [])) 1 (λ (s : State B). s) mid mid) (sym (there_is a.later)) stays)
      (holds_none takes mid.shared.happen.events (ap (λ (e : EventId). e.0) (there_is a.later))) (takes_none mid.shared.happen) refl)

  -- and the process is told next that this is done
  quiet_moves : (new : PartsOf B Code) → mid.shared.happen ≡ old.shared.happen →
      new ≡ record mid { control = told_more signal.Done mid.control } → Moves body old unit.Quiet new
  quiet_moves new same is =
      let tells : Becomes body (tell signal.Done) mid new = rw is (becomes_told signal.Done mid) in
      let does = does_asked body 0 old mid new event p told event_zero op.Nop unit.Quiet running (quiet_owing same) refl (omega arith) tells in
      polled_moves body old new new p event_zero unit.Quiet does (becomes_none new)

-- ---- many in a row

-- the state that a unit leads to is lawful, and its accounts balance
moved_stands : {B Code : Type 0} (body : BodyOf B Code) (old : PartsOf B Code) (answer : Unit) (new : PartsOf B Code) →
    FitsCode (body.facts old.code) old.setup → KeepsLaw body old.code → Moves body old answer new → StandsForSome body old → StandsForSome body new
moved_stands {B} body old answer new fits law moves h =
    let s = h.state in
    let later = moves.each s h.lawful h.stands in
    let t = later.state in
    let lawful : LawfulOf body old t =
    lawful_step (plan_of body old) (body.tell old.code) (body.sound old.code) (body.turn old.code) (body.facts old.code) s t fits law h.lawful
    later.stepped in
    record {
      state = t;
      lawful = rw (moves.opened.code, moves.opened.setup, moves.opened.seed) lawful;
      stands = later.stands;
      balances = later.accounts h.balances;
    }

-- what it was told before counts no more
told_again : (x y : Signal) (c : Control) → told_more x (told_more y c) ≡ told_more x c
told_again x y Idle = refl
told_again x y (Calling e left) = refl
told_again x y (Active e left p z) = refl
told_again x y (Over why e left) = refl

-- and what it was to be told already changes nothing
told_same : (event : EventId) (p : ProcId) (told : Signal) (c : Control) → IsRunning event p told c → told_more told c ≡ c
told_same event p told Idle h = absurd h
told_same event p told (Calling e left) h = absurd h
told_same event p told (Active e left q x) h = rw (sym h.2) refl
told_same event p told (Over why e left) h = absurd h

-- the process that runs is told that, and runs on
runs_on : (event : EventId) (p : ProcId) (told x : Signal) (c : Control) → IsRunning event p told c → IsRunning event p x (told_more x c)
runs_on event p told x Idle h = absurd h
runs_on event p told x (Calling e left) h = absurd h
runs_on event p told x (Active e left q y) h = (h.0, h.1, refl)
runs_on event p told x (Over why e left) h = absurd h

-- while it runs, there is something to do
running_busy : (event : EventId) (p : ProcId) (told : Signal) (c : Control) (agenda : List Entry) → IsRunning event p told c →
    rest_of c agenda ≡ rest.Busy
running_busy event p told Idle agenda h = absurd h
running_busy event p told (Calling e left) agenda h = absurd h
running_busy event p told (Active e left q x) agenda h = refl
running_busy event p told (Over why e left) agenda h = absurd h

-- that this is done puts none there either
later_none : (n : ℕ) (told : Signal) → FillsNone told → FillsNone (told_after n told)
later_none zero told none at = none at
later_none (suc n) told none at = refl

-- then no place is given
none_given : {B : Type 0} (place : B → Option ℕ) (told : Signal) (o : Option (RecordOf B)) → FillsNone told → place_given place told o ≡ None
none_given place told None none = refl
none_given place told (Some r) none = none (place r.body)

-- and event 0 stands for what stands there
none_placed : {B : Type 0} (events : B → List EventId) (o : Option (RecordOf B)) → event_placed events None o ≡ record { 0 = 0 }
none_placed events None = refl
none_placed events (Some r) = refl

-- ---- the last poll

-- where the last of so many polls is made: what the process asks for there, and the place that changes by it is the one that
-- changes by all of them, in which the same stands as at first
record AsksFromLast {B Code : Type 0} (body : BodyOf B Code) (events : B → List EventId) (place : B → Option ℕ) (event : EventId)
    (p : ProcId) (told : Signal) (times : ℕ) (old : PartsOf B Code) (asked : Op) (new : PartsOf B Code) : Type 0 where
  pub before : BeforeLast body event p times old
  pub asks : Asks body p before.told (with_live before.live before.control old) asked new
  pub same_place : place_given place before.told (record_of p before.live) ≡ place_given place told (record_of p old.live)
  pub same_event : event_placed events (place_given place told (record_of p old.live)) (record_of p before.live)
      ≡ event_placed events (place_given place told (record_of p old.live)) (record_of p old.live)

module _ {B Code : Type 0} (body : BodyOf B Code) (events : B → List EventId) (place : B → Option ℕ) (old : PartsOf B Code) (p : ProcId)
    (event : EventId) (told : Signal) (reads : ReadsPlaces body old.code events place) (fits : FitsCode (body.facts old.code) old.setup)
    (law : KeepsLaw body old.code) (h : StandsForSome body old) (few : length old.shared.happen.events < 2 ^ 62)
    (running : IsRunning event p told old.control) where
  module _ (first : B) (found : IsBodyOf old p first) where
    -- after so many polls, the last of which left this body
    abbrev live_after : B → List (RecordOf B)
    live_after b = change_record p (λ r. record r { body = b }) old.live

    abbrev after : ℕ → B → PartsOf B Code
    after m b = with_live (live_after b) (told_more (told_after m told) old.control) old

    -- it was polled so many times, and asked for nothing
    abbrev Polled : ℕ → B → Type 0
    Polled m b = QuietPolls body old.code old.shared.happen.time told m first b

    -- after none, nothing has changed
    live_same : live_after first ≡ old.live
    live_same = unchanged_body p first old.live h.state.processes h.stands.processes h.lawful.processes.distinct found

    after_none : after zero first ≡ old
    after_none = rw (live_same, told_same event p told old.control running) refl

    -- it still runs
    runs_after : (m : ℕ) → IsRunning event p (told_after m told) (told_more (told_after m told) old.control)
    runs_after m = runs_on event p told (told_after m told) old.control running

    -- then it is polled once more
    asks_after : (m : ℕ) (b later : B) (asked : Op) → body.turn old.code b old.shared.happen.time (told_after m told) asked later →
        Asks body p (told_after m told) (after m b) asked (with_live (live_after later) (told_more (told_after m told) old.control) old)
    asks_after m b later asked turned = record {
      before = b;
      later = later;
      found = changed_found p b first old.live found;
      turned = turned;
      takes = takes_none old.shared.happen;
      others = rw (changed_again p b later old.live) refl;
    }

    -- where it asks for nothing, that is one unit more
    one_more : (m : ℕ) (b later : B) → FillsNone told → body.turn old.code b old.shared.happen.time (told_after m told) op.Nop later →
        StandsForSome body (after m b) → MovesQuietly body (after m b) (after (suc m) later)
    one_more m b later none turned stands =
        let mid = with_live (live_after later) (told_more (told_after m told) old.control) old in
        let control = told_again signal.Done (told_after m told) old.control in
        record {
          moves = quiet_moves body events place (after m b) p event (told_after m told) reads law stands few (runs_after m)
              (later_none m told none) mid (asks_after m b later op.Nop turned) (after (suc m) later) refl (rw control refl);
          shared = refl;
          busy = running_busy event p signal.Done _ old.shared.happen.agenda (runs_on event p told signal.Done old.control running);
        }

    -- so many units lead there, and the kernel stands for some state there
    record Leads (m : ℕ) (b : B) : Type 0 where
      row : InARow (MovesQuietly body) m old (after m b)
      stands : StandsForSome body (after m b)

    each_leads : (m : ℕ) (b : B) → (0 < m → FillsNone told) → Polled m b → Leads m b
    each_leads zero b none polls = record {
      row = rw polls after_none;
      stands = rw (polls, after_none) h;
    }
    each_leads (suc m) b none polls =
        let first = each_leads m polls.between (λ some. none (omega arith)) polls.before in
        let moves = one_more m polls.between b (none (omega arith)) polls.after first.stands in
        record {
          row = record { between = after m polls.between; before = first.row; after = moves };
          stands = moved_stands body (after m polls.between) unit.Quiet (after (suc m) b) fits law moves.moves first.stands;
        }

    -- the place is the same, and what stands in it
    place_after : (m : ℕ) (b : B) → (0 < m → FillsNone told) → Polled m b →
        place_given place (told_after m told) (record_of p (live_after b)) ≡ place_given place told (record_of p old.live)
    place_after zero b none polls = rw (polls, live_same) refl
    place_after (suc m) b none polls =
        none_given place signal.Done (record_of p (live_after b)) (λ at. refl)
        ∙ sym (none_given place told (record_of p old.live) (none (omega arith)))

    event_after : (m : ℕ) (b : B) → (0 < m → FillsNone told) → Polled m b →
        event_placed events (place_given place told (record_of p old.live)) (record_of p (live_after b))
        ≡ event_placed events (place_given place told (record_of p old.live)) (record_of p old.live)
    event_after zero b none polls = rw (polls, live_same) refl
    event_after (suc m) b none polls =
        rw (none_given place told (record_of p old.live) (none (omega arith)))
        (none_placed events (record_of p (live_after b)) ∙ sym (none_placed events (record_of p old.live)))

  -- all but the last of so many polls are as many units, and from there the last is made
  last_poll : (times : ℕ) (asked : Op) (new : PartsOf B Code) → (1 < times → FillsNone told) → AsksAtLast body p told times old asked new →
      AsksFromLast body events place event p told times old asked new
  last_poll zero asked new once a = absurd a.polls
  last_poll (suc m) asked new once a =
      let first = a.before in
      let b = a.polls.between in
      let polls = a.polls.before in
      let none : 0 < m → FillsNone told = λ some. once (omega (arith, some)) in
      let leads = each_leads first a.found m b none polls in
      record {
        before = record {
          fewer = m;
          one_more = refl;
          live = live_after first a.found b;
          control = told_more (told_after m told) old.control;
          row = leads.row;
          stands = leads.stands;
          told = told_after m told;
          running = runs_after first a.found m;
        };
        asks = subst (Asks body p (told_after m told) (after first a.found m b) asked) (sym a.others)
            (asks_after first a.found m b a.later asked a.polls.after);
        same_place = place_after first a.found m b none polls;
        same_event = event_after first a.found m b none polls;
      }

  -- what is asked for in the last poll, and what then stands in the place that changes
  module _ (times : ℕ) (asked : Op) (mid : PartsOf B Code) (once : 1 < times → FillsNone told) (a : AsksAtLast body p told times old asked mid)
      (at : Option ℕ) (now : EventId) (given : at ≡ place_given place told (record_of p old.live))
      (is : now ≡ event_placed events at (record_of p mid.live)) where
    abbrev then : AsksFromLast body events place event p told times old asked mid
    then = last_poll times asked mid once a

    abbrev there : PartsOf B Code
    there = with_live then.before.live then.before.control old

    -- the place that changes by the last poll
    given_there : at ≡ place_given place then.before.told (record_of p then.before.live)
    given_there = given ∙ sym then.same_place

    -- what then stands in it is kept
    pub kept_at_last : AreNeeded old.shared.happen.events → IsKept old.shared.happen.events now
    kept_at_last needed =
        now_kept body events place there p event then.before.told reads law then.before.stands few then.before.running mid asked then.asks at now
        given_there is needed

    -- where that is held, the rest is owed
    pub owing_at_last : (new : PartsOf B Code) → BecomesOwing body [] (but_zero (now ∷ [])) 1 (λ s. s) mid new →
        HoldsMore now mid.shared.happen.events new.shared.happen.events → TakesHolder mid.shared.happen new.shared.happen → KeepsButHappen mid new →
        AsksOwingAtLast body event p times (event_placed events at (record_of p old.live)) old asked new
    owing_at_last new hold more takes rest =
        let same = ap (λ (k : PartsOf B Code). k.shared.happen) a.others in
        let stood : event_placed events at (record_of p then.before.live) ≡ event_placed events at (record_of p old.live) =
        rw given then.same_event in
        let owes = now_owing body events place there p event then.before.told reads law then.before.stands few then.before.running mid asked then.asks
        at now given_there is new same hold more takes rest in
        record {
          before = then.before;
          last = subst (λ e. AsksOwing body p then.before.told e there asked new) stood owes;
        }

-- it has as much room
pub room_there : {B Code : Type 0} (live : List (RecordOf B)) (control : Control) (parts : PartsOf B Code) → HasUnitRoom parts →
    HasUnitRoom (with_live live control parts)
room_there live control parts room = record {
  events = room.events;
  callbacks = room.callbacks;
  conditions = room.conditions;
  places = room.places;
  processes = room.processes;
  ready = room.ready;
}

-- ---- what it asks for in the last poll is done

module _ {B Code : Type 0} (body : BodyOf B Code) (event : EventId) (p : ProcId) (times : ℕ) (left : EventId) (old mid new : PartsOf B Code) where
  -- an operation is done, which writes the line that is answered, if any
  pub does_at_last : (more : ℕ) (asked : Op) (answer : Unit) → (a : AsksOwingAtLast body event p times left old asked mid) →
      lines_by p asked old.shared.happen.time ≡ lines_of answer → more < most_held →
      BecomesWith body more (effect (plan_of body mid) p asked) mid new →
      DoesAskedAtLast body event p times left old answer new
  does_at_last more asked answer a lines few done = record {
    before = a.before;
    last = does_asked body more (with_live a.before.live a.before.control old) mid new event p a.before.told left asked answer a.before.running a.last
        lines few done;
  }

  -- a line is written
  pub logs_at_last : (value time written : ℤ) → (a : AsksOwingAtLast body event p times left old (op.Log value) mid) →
      time ≡ new.shared.happen.time → written ≡ value → new ≡ record mid { control = told_more signal.Done mid.control } →
      DoesAskedAtLast body event p times left old (unit.Line (line.Log time p written)) new
  logs_at_last value time written a is_time is_written is = record {
    before = a.before;
    last = logs_asked body (with_live a.before.live a.before.control old) mid new event p a.before.told left value time written a.before.running
        a.last is_time is_written is;
  }

  -- what stood in the place that changed is owed
  pub owes_at_last : (answer : Unit) → DoesAskedAtLast body event p times left old answer mid → IsOwing body (but_zero (left ∷ [])) mid
  owes_at_last answer d = asked_owes body (with_live d.before.live d.before.control old) mid mid p left answer d.last d.before.stands

  -- once that is given back, so many units are made
  pub moves_at_last : (answer : Unit) → DoesAskedAtLast body event p times left old answer mid →
      BecomesOwing body (but_zero (left ∷ [])) [] 0 (λ s. s) mid new → MovesAtLast body times old answer new
  moves_at_last answer d back =
      let there = with_live d.before.live d.before.control old in
      let moves = polled_moves body there mid new p left answer d.last back in
      subst (λ n. MovesAtLast body n old answer new) (sym d.before.one_more)
      (record { between = there; before = d.before.row; after = moves })

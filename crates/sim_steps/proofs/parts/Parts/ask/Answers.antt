use Rattle.std.proofs.Common.{arith, ◌^◌, ◌+◌}
use Rattle.sim_steps_model.specs.QuietUnits.{with_live}
use Rattle.sim_steps_law.proofs.Polls.AskedPlaces.{asked_owing_some, asked_running, place_within}
use Rattle.sim_steps_law.proofs.Resources.AskedResources.{polled_ready}
use Rattle.sim_steps_law.proofs.Ends.DroppableProcesses.{polled_can}
use Rattle.sim_steps_law.proofs.Ends.Ending.{polled_alive}
use Rattle.sim_steps_law.proofs.Kernels.Keeping.{are_few, few_weaker, held_by_few}
use Rattle.sim_steps_law.proofs.Polls.Naming.{asked_names}
use Rattle.sim_steps_law.proofs.Polls.Polls.{ReadsPlaces}
use Rattle.sim_steps_law.proofs.Polls.QuietPolls.{kept_at_last, owing_at_last, room_there}
use Rattle.sim_steps.proofs.parts.Parts.ask.Goals as goal

pub event_in-now-requires-clause-within : goal.event_in-now-requires-clause-within
event_in-now-requires-clause-within g c =
    rw (c.requires.place, c.requires.code) (place_within g.B.LawfulBody.body g.B.Body.told_place c.args.self.now c.args.event c.args.process
    c.args.told g.met.B.Body.told_place_within c.requires.stands (omega (arith, c.requires.events)) c.requires.running)

pub hold-requires-clause-kept : goal.hold-requires-clause-kept
hold-requires-clause-kept g c =
    let old = c.args.self.now in
    let place = g.B.Body.told_place old.code in
    let reads : ReadsPlaces g.B.LawfulBody.body old.code g.B.Body.events_held place =
    record { places = g.met.B.Body.places old.code; others = g.met.B.Body.other_places_stay old.code } in
    let fits = rw (c.requires.code) at c.requires.fits in
    let given = rw c.requires.code at c.requires.place in
    let asks = c.poll_body-made.ensures.asks in
    rw asks.others (kept_at_last g.B.LawfulBody.body g.B.Body.events_held place old c.args.process c.args.event c.args.told reads fits
    (g.B.LawfulBody.lawful old.code) c.requires.stands (omega (arith, c.requires.events)) c.requires.running c.poll_body-made.result
    c.poll_body-made.new.asked c.poll_body-made.new.self (λ many. c.requires.once (omega (arith, many, c.poll_body-made.ensures.most))) asks
    c.args.place c.event_in-now.result given c.event_in-now.ensures c.requires.needed)

pub hold-requires-clause-few : goal.hold-requires-clause-few
hold-requires-clause-few g c = rw c.poll_body-made.ensures.asks.others (are_few c.args.self.now.shared.happen c.requires.few)

pub returns-clause-asked : goal.returns-clause-asked
returns-clause-asked g c =
    let old = c.args.self.now in
    let place = g.B.Body.told_place old.code in
    let reads : ReadsPlaces g.B.LawfulBody.body old.code g.B.Body.events_held place =
    record { places = g.met.B.Body.places old.code; others = g.met.B.Body.other_places_stay old.code } in
    let fits = rw (c.requires.code) at c.requires.fits in
    let given = rw c.requires.code at c.requires.place in
    owing_at_last g.B.LawfulBody.body g.B.Body.events_held place old c.args.process c.args.event c.args.told reads fits
    (g.B.LawfulBody.lawful old.code) c.requires.stands (omega (arith, c.requires.events)) c.requires.running c.poll_body-made.result
    c.poll_body-made.new.asked c.poll_body-made.new.self (λ many. c.requires.once (omega (arith, many, c.poll_body-made.ensures.most)))
    c.poll_body-made.ensures.asks c.args.place c.event_in-now.result given c.event_in-now.ensures c.hold.new.self c.hold.ensures.owes
    c.hold.ensures.more c.hold.ensures.takes c.hold.ensures.rest

pub returns-clause-names : goal.returns-clause-names
returns-clause-names g c =
    let a = returns-clause-asked g c in
    let old = with_live a.before.live a.before.control c.args.self.now in
    rw c.requires.code (asked_names g.B.LawfulBody.body old a.before.stands c.requires.needed c.args.event c.args.process a.before.told
    (rw (← c.requires.code) c.requires.fits) (g.B.LawfulBody.lawful old.code) (omega (arith, c.requires.events)) a.before.running c.hold.new.self
    c.poll_body-made.new.asked a.last.asks)

pub returns-clause-alive : goal.returns-clause-alive
returns-clause-alive g c =
    let a = returns-clause-asked g c in
    let old = with_live a.before.live a.before.control c.args.self.now in
    polled_alive g.B.LawfulBody.body old c.hold.new.self c.args.process a.before.told c.poll_body-made.new.asked a.last.asks

pub returns-clause-ready : goal.returns-clause-ready
returns-clause-ready g c =
    let a = returns-clause-asked g c in
    let old = with_live a.before.live a.before.control c.args.self.now in
    let room = room_there a.before.live a.before.control c.args.self.now c.requires.room in
    polled_ready g.B.LawfulBody.body old c.hold.new.self c.args.process a.before.told _ c.poll_body-made.new.asked a.last a.before.stands
    c.requires.needed room (omega (arith, c.requires.events))

pub returns-clause-room : goal.returns-clause-room
returns-clause-room g c =
    let ready = returns-clause-ready g c in
    ready.room

pub returns-clause-number : goal.returns-clause-number
returns-clause-number g c =
    let a = returns-clause-asked g c in
    omega (arith, c.requires.events, a.last.asks.takes.made)

pub returns-clause-few : goal.returns-clause-few
returns-clause-few g c =
    let a = returns-clause-asked g c in
    few_weaker (2 ^ 40 + 1) (2 ^ 41) _ (omega arith) (a.last.owes.few.few (2 ^ 40) c.requires.few)

pub returns-clause-holders : goal.returns-clause-holders
returns-clause-holders g c =
    let a = returns-clause-asked g c in
    held_by_few (2 ^ 40 + 1) c.hold.new.self.shared.happen (omega arith) (a.last.owes.few.few (2 ^ 40) c.requires.few)

pub returns-clause-owing : goal.returns-clause-owing
returns-clause-owing g c =
    let a = returns-clause-asked g c in
    let old = with_live a.before.live a.before.control c.args.self.now in
    asked_owing_some g.B.LawfulBody.body old c.hold.new.self c.args.process a.before.told _ c.poll_body-made.new.asked a.before.stands a.last

pub returns-clause-can : goal.returns-clause-can
returns-clause-can g c =
    let a = returns-clause-asked g c in
    let old = with_live a.before.live a.before.control c.args.self.now in
    polled_can g.B.LawfulBody.body old c.hold.new.self c.args.process a.last.asks.later a.before.stands a.last.owes

pub returns-clause-running : goal.returns-clause-running
returns-clause-running g c =
    let a = returns-clause-asked g c in
    let old = with_live a.before.live a.before.control c.args.self.now in
    asked_running g.B.LawfulBody.body old c.hold.new.self c.args.event c.args.process a.before.told c.poll_body-made.new.asked a.last.asks
    a.before.running

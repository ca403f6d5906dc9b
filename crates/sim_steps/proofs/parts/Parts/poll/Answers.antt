use Rattle.std.proofs.Common.{arith}
use Rattle.sim_steps_law.proofs.Polls.AskedPlaces.{place_within}
use Rattle.sim_steps_law.proofs.Polls.QuietPolls.{moves_at_last, owes_at_last}
use Rattle.sim_steps_law.proofs.Kernels.Running.{running_alive}
use Rattle.sim_steps.proofs.parts.Parts.poll.Goals as goal

pub place_told-place-requires : goal.place_told-place-requires
place_told-place-requires g c =
    record { alive = running_alive g.B.LawfulBody.body c.args.self.now c.args.event c.args.process c.args.told c.requires.stands c.requires.running }

pub event_in-left-requires-clause-alive : goal.event_in-left-requires-clause-alive
event_in-left-requires-clause-alive g c =
    running_alive g.B.LawfulBody.body c.args.self.now c.args.event c.args.process c.args.told c.requires.stands c.requires.running

pub event_in-left-requires-clause-within : goal.event_in-left-requires-clause-within
event_in-left-requires-clause-within g c =
    rw (c.place_told-place.ensures, c.requires.code) (place_within g.B.LawfulBody.body g.B.Body.told_place c.args.self.now c.args.event
    c.args.process c.args.told g.met.B.Body.told_place_within c.requires.stands (omega (arith, c.requires.events)) c.requires.running)

pub unhold-requires : goal.unhold-requires
unhold-requires g c =
    record {
      owed = rw c.event_in-left.ensures (owes_at_last g.B.LawfulBody.body c.args.event c.args.process _ _ c.args.self.now
          c.do_asked-units.new.self c.do_asked-units.new.self _ c.do_asked-units.ensures.does);
    }

pub returns-clause-moves : goal.returns-clause-moves
returns-clause-moves g c =
    let back = rw c.event_in-left.ensures at c.unhold.ensures.owes in
    moves_at_last g.B.LawfulBody.body c.args.event c.args.process _ _ c.args.self.now c.do_asked-units.new.self c.unhold.new.self _
    c.do_asked-units.ensures.does back

use Rattle.sim_steps_law.proofs.Ends.Ending.{room_stays}
use Rattle.sim_steps_law.proofs.Kernels.Running.{running_alive, running_can_be_told}
use Rattle.sim_steps.proofs.parts.Parts.poll_body.Goals as goal

pub body_mut-body-requires : goal.body_mut-body-requires
body_mut-body-requires g c =
    record {
      alive = running_alive g.B.LawfulBody.body _ c.args.event c.args.process c.args.told (rw (← c.self.view_is) at c.requires.stands)
          (rw (← c.self.view_is) at c.requires.running);
    }

pub poll-made-requires-clause-can : goal.poll-made-requires-clause-can
poll-made-requires-clause-can g c =
    rw (c.requires.code, ← c.self.view_is) (running_can_be_told g.B.LawfulBody.body _ c.args.event c.args.process c.args.told
    c.body_mut-body.result.now (rw (← c.self.view_is) at c.requires.stands) (rw (← c.self.view_is) at c.requires.running)
    c.body_mut-body.ensures.value (rw (← c.self.view_is) at c.requires.events))

pub returns-then-made-gt1-clause-scopes : goal.returns-then-made-gt1-clause-scopes
returns-then-made-gt1-clause-scopes g c =
    rw (c.tell_done.ensures, c.requires.code, ← c.self.view_is) (room_stays c.args.process _ c.body_mut-body.result.now _ c.self.inside.processes.live
    c.body_mut-body.ensures.value (rw c.self.invariant.scopes at c.body_mut-body.ensures.room))

pub returns-else-made-gt1-clause-scopes : goal.returns-else-made-gt1-clause-scopes
returns-else-made-gt1-clause-scopes g c =
    rw (c.requires.code, ← c.self.view_is) (room_stays c.args.process _ c.body_mut-body.result.now _ c.self.inside.processes.live
    c.body_mut-body.ensures.value (rw c.self.invariant.scopes at c.body_mut-body.ensures.room))

use Rattle.std.proofs.Common.{ap}
use Rattle.sim_answer.proofs.Ending.{ends_for}
use Rattle.sim_program.proofs.Asked.{command_begun, command_whole, hosted_whole, live_whole, none_at_all, none_hosted, none_live}
use Rattle.sim_program.proofs.program.carry_out.Goals as goal

pub returns-in-Some-default-clause-headline : goal.returns-in-Some-default-clause-headline
returns-in-Some-default-clause-headline g c whole =
    live_whole c.args.words.now _ _ _ _ c.in-Some-default.field-0-0 c.in-Some-default.ensures c.live_desk.ensures.headline whole

pub returns-in-None-Some-clause-headline : goal.returns-in-None-Some-clause-headline
returns-in-None-Some-clause-headline g c whole =
    hosted_whole c.args.words.now _ _ _ _ c.in-None-Some.field-0-1 c.in-None-Some.ensures c.in-None-Some.ensures' c.host_desk.ensures.headline whole

pub returns-in-None-None-clause-headline : goal.returns-in-None-None-clause-headline
returns-in-None-None-clause-headline g c whole =
    command_whole c.args.words.now _ _ _ _ c.in-None-None.ensures c.in-None-None.ensures' c.desk.ensures.ends.usage c.desk.ensures.headline whole

pub returns-in-None-None-clause-prefix : goal.returns-in-None-None-clause-prefix
returns-in-None-None-clause-prefix g c =
    command_begun c.args.words.now _ _ _ _ c.in-None-None.ensures c.in-None-None.ensures' c.desk.ensures.ends.usage
    (λ unsaid. ap g.K.Sink.tells (c.desk.ensures.ends.not_written unsaid)) c.desk.ensures.prefix

pub returns-in-Some-default-clause-ends : goal.returns-in-Some-default-clause-ends
returns-in-Some-default-clause-ends g c =
    ends_for _ _ _ _ _ _ _ _ _ (none_live c.args.words.now c.in-Some-default.field-0-0 c.in-Some-default.ensures) c.live_desk.ensures.ends

pub returns-in-None-Some-clause-ends : goal.returns-in-None-Some-clause-ends
returns-in-None-Some-clause-ends g c =
    ends_for _ _ _ _ _ _ _ _ _ (none_hosted c.args.words.now c.in-None-Some.field-0-1 c.in-None-Some.ensures') c.host_desk.ensures.ends

pub returns-in-None-None-clause-ends : goal.returns-in-None-None-clause-ends
returns-in-None-None-clause-ends g c =
    ends_for _ _ _ _ _ _ _ _ _ (none_at_all c.args.words.now c.in-None-None.ensures c.in-None-None.ensures') c.desk.ensures.ends

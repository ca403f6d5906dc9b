use Rattle.std.proofs.Common.{◌<◌, sym, subst, ◌∙◌}
use Rattle.std.proofs.lemmas.Bool.{false≢true}
use Rattle.sim_live.proofs.Journals.{foreign_taken}
use Rattle.sim_live.proofs.ToldRuns.{fronts_told, fronts_more, told_more}
use Rattle.sim_live.proofs.WrittenOn.{on_and_on}
use Rattle.sim_live.proofs.play.take_posts.Goals as goal

pub returns-then-not-is_to_post-clause-fronts : goal.returns-then-not-is_to_post-clause-fronts
returns-then-not-is_to_post-clause-fronts g c = fronts_told c.args.scenario.now _ c.loop.run c.loop.invariant.told

pub arrive-requires-clause-port : goal.arrive-requires-clause-port
arrive-requires-clause-port g c = c.is_to_post.ensures.port c.if-not-is_to_post.false

pub loop-preserved : goal.loop-preserved
loop-preserved g c =
    let s = c.args.scenario.now in
    let h = c.loop.invariant in
    let some = c.in-Some-take.ensures in
    let t = c.in-Some-take.taken in
    let came = c.in_ok-arrive.ensures in
    record {
      told = told_more s (g.T.Taking.taken c.loop.taker) (g.T.Taking.taken c.take.new.self) c.loop.run _ t h.told some.some.1
          (c.is_to_post.ensures.same.0 c.if-not-is_to_post.false) c.arrive.new.self came.live came.journal;
      inbox = some.inbox ∙ h.inbox;
      count = some.count ∙ h.count;
      limit = c.arrive.ensures.limit ∙ h.limit;
      written = on_and_on s c.args.run.now c.loop.run c.arrive.new.self _ _ _ _ _ h.written came.writes;
      unflushed = c.arrive.ensures.unflushed ∙ h.unflushed;
    }

pub returns-in_err-arrive-clause-fronts : goal.returns-in_err-arrive-clause-fronts
returns-in_err-arrive-clause-fronts g c =
    fronts_more c.args.scenario.now (g.T.Taking.taken c.loop.taker) (g.T.Taking.taken c.take.new.self) c.loop.run _ c.in-Some-take.taken
    c.loop.invariant.told c.in-Some-take.ensures.some.1 (c.is_to_post.ensures.same.0 c.if-not-is_to_post.false)
    c.arrive.new.self.journal c.arrive.ensures.at_most_one c.arrive.ensures.falls

pub returns-clause-fronts : goal.returns-clause-fronts
returns-clause-fronts g c = fronts_told c.args.scenario.now _ c.loop.run c.loop.invariant.told

pub returns-then-not-is_to_post-clause-foreign : goal.returns-then-not-is_to_post-clause-foreign
returns-then-not-is_to_post-clause-foreign g c _ =
    let t = c.in-Some-take.taken in
    let some = c.in-Some-take.ensures.some in (
      t.poster,
      subst (λ n. t.poster < n) c.loop.invariant.count some.0,
      foreign_taken (g.T.Taking.taken c.loop.taker) (g.T.Taking.taken c.take.new.self) c.loop.run.journal 0 t some.1 c.args.scenario.now
          (λ at. false≢true (sym c.if-not-is_to_post.true ∙ c.is_to_post.ensures.same.1 at)),
    )

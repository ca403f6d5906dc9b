use Rattle.std.proofs.Common.{◌<◌, ◌++◌, [], length, Ok, refl, sym, ap, subst, ◌∙◌}
use Rattle.std.specs.Prelude.{slice_index_or}
use Rattle.sim_inbox.specs.Lists.{Begins, entries_by, untaken}
use Rattle.sim_posters.specs.Posters.{IsFresh, IsWorker}
use Rattle.sim_posters.proofs.PostersAtWork.{back_lists, begin_each}
use Rattle.sim_live.specs.Journals.{posts_by}
use Rattle.sim_live.proofs.LeftPosts.{left_completes}
use Rattle.sim_live.proofs.ToldRuns.{told_nothing}
use Rattle.sim_live.proofs.WrittenOn.{on_and_on, on_wanting}
use Rattle.sim_live.proofs.caller.live.Goals as goal

pub start_all-requires-clause-fresh : goal.start_all-requires-clause-fresh
start_all-requires-clause-fresh g c κs within = λ p x at.
    subst (λ sections. IsFresh g.T.Poster.Posting (g.T.Taking.inbox c.args.taker) sections p x) (sym c.posters-sections.ensures.posters) (c.requires.ready.fresh p x at)

pub play-requires-clause-told : goal.play-requires-clause-told
play-requires-clause-told g c κs within = told_nothing c.args.scenario.now (g.T.Taking.taken c.args.taker) c.args.run.now c.requires.live c.requires.nothing c.requires.ready.nothing

pub join_all-requires-clause-workers : goal.join_all-requires-clause-workers
join_all-requires-clause-workers g c κs within = λ j x at.
    let sections = c.posters-sections.result.now in
    subst (λ box. IsWorker g.T.Poster.Posting box sections (length sections) j x) (sym c.in_ok-all_theirs.ensures.inbox) (c.in_ok-workers.ensures.workers j x at)

pub close-requires-clause-own : goal.close-requires-clause-own
close-requires-clause-own g c = λ p x at. let back = c.in_ok-posters.ensures.back p x at in (back.number_is, back.same_inbox)

pub returns-in_default-clause-writes : goal.returns-in_default-clause-writes
returns-in_default-clause-writes g c =
    on_wanting c.args.scenario.now c.args.run.now c.play.new.run _ _ _ _ refl c.in_ok-all_theirs.ensures.writes

pub unreachable-requires : goal.unreachable-requires
unreachable-requires g c =
    let s = c.args.scenario.now in
    let foreign = c.in_ok-all_theirs.ensures.foreign (ap Ok c.if-not-all_theirs.true) in
    let sections = c.posters-sections.result.now in
    let same = c.posters-sections.ensures.posters in
    let below : foreign.0 < length sections = subst (λ n. foreign.0 < n) (c.requires.ready.count ∙ ap (λ l. length l) (sym same)) foreign.1 in
    let begins = begin_each {posting = g.T.Poster.Posting} {box = g.T.Taking.inbox c.play.new.taker} {sections = sections} (g.T.Taking.taken c.play.new.taker) c.in_ok-posters.posters
    c.in_ok-posters.ensures.many c.in_ok-posters.ensures.back c.in-Ok.ensures.whole foreign.0 below in
    foreign.2 (subst (λ l. Begins (g.T.Taking.taken c.play.new.taker foreign.0) (slice_index_or l foreign.0 [])) same begins)

pub finish-requires-clause-live : goal.finish-requires-clause-live
finish-requires-clause-live g c = (c.in_ok-all_theirs.ensures.told (ap Ok c.if-not-all_theirs.false)).live

pub finish-requires-clause-completes : goal.finish-requires-clause-completes
finish-requires-clause-completes g c p =
    let s = c.args.scenario.now in
    let taken = g.T.Taking.taken c.play.new.taker in
    let told = c.in_ok-all_theirs.ensures.told (ap Ok c.if-not-all_theirs.false) in
    let lists = back_lists {posting = g.T.Poster.Posting} {box = g.T.Taking.inbox c.play.new.taker} {sections = c.posters-sections.result.now} c.in_ok-posters.posters
    c.in_ok-posters.ensures.many c.in_ok-posters.ensures.back ∙ c.posters-sections.ensures.posters in
    let left = c.as_slice.ensures ∙ (c.in-Ok.ensures.left ∙ ap (untaken taken 0) lists) in
    ap (λ l. posts_by p c.play.new.run.journal ++ entries_by p l) left ∙ left_completes taken s c.play.new.run.journal told.posts told.fronts p

pub returns-clause-writes : goal.returns-clause-writes
returns-clause-writes g c =
    on_and_on c.args.scenario.now c.args.run.now c.play.new.run c.finish.new.run _ _ _ _ _ c.in_ok-all_theirs.ensures.writes c.finish.ensures.writes

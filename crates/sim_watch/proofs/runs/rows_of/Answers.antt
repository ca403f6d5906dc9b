use Rattle.std.proofs.Common.{rules, FitsSigned, w64, pos, ◌≡◌, refl, sym, ap, ◌∙◌}
use Rattle.std.proofs.lemmas.Int.{to_z-of_z}
use Rattle.std.proofs.lemmas.Result.{IfOk-weaker}
use Rattle.sim_watch.specs.Watched.{WatchedOf}
use Rattle.sim_watch.proofs.Steps.{all_told, at_last, up_to_there}
use Rattle.sim_watch.proofs.Telling.{whole_slice}
use Rattle.sim_watch.proofs.runs.rows_of.Goals as goal

pub close_all-requires-clause-up_to : goal.close_all-requires-clause-up_to
close_all-requires-clause-up_to c =
    let s = c.args.scenario.now in
    let w = c.follow.new.walk in
    let rows = c.follow.new.watched in
    let made = c.in_ok-follow.ensures in
    let fits : FitsSigned w64 c.now.result = search rules in
    let now_is = to_z-of_z w64 c.now.result fits ∙ (c.now.ensures ∙ ap (λ k. k.parts.shared.happen.time) c.kernel.ensures) in
    let all : c.as_slice.result.now ≡ rows =
    c.as_slice.ensures.value ∙ whole_slice c.in_ok-watched.watched.len rows c.in_ok-watched.watched.items (made.follows.watched.all ∙ sym c.in_ok-watched.ensures.follows.watched.all) (sym c.in_ok-watched.watched.ok.0) in
    rw (all, now_is) (up_to_there s c.args.walk.now w c.requires.opening rows made.follows made.over made.limit made.within)

pub returns-clause-rows : goal.returns-clause-rows
returns-clause-rows c =
    let s = c.args.scenario.now in
    let w = c.follow.new.walk in
    let rows = c.follow.new.watched in
    let made = c.in_ok-follow.ensures in
    let fits : FitsSigned w64 c.now.result = search rules in
    let now_is = to_z-of_z w64 c.now.result fits ∙ (c.now.ensures ∙ ap (λ k. k.parts.shared.happen.time) c.kernel.ensures) in
    let d : WatchedOf = record { measure = record { puts = 0; gets = 0; held = pos 0 }; since = pos 0; row = record { psum = pos 0; pmost = 0; gsum = pos 0; gmost = 0; hsum = pos 0; hleast = pos 0; hmost = pos 0 } } in
    let all : c.as_slice.result.now ≡ rows =
    c.as_slice.ensures.value ∙ whole_slice c.in_ok-watched.watched.len rows c.in_ok-watched.watched.items (made.follows.watched.all ∙ sym c.in_ok-watched.ensures.follows.watched.all) (sym c.in_ok-watched.watched.ok.0) in
    IfOk-weaker c.close_all.result _ _
    (λ told is. all_told s c.args.walk.now w c.requires.opening rows made.follows made.over made.limit made.within told (is ∙ rw (all, now_is) refl) d)
    c.close_all.ensures.rows

pub returns-clause-last : goal.returns-clause-last
returns-clause-last c =
    let made = c.in_ok-follow.ensures in
    IfOk-weaker c.close_all.result _ _
    (λ told is. at_last c.args.scenario.now c.args.walk.now c.follow.new.walk c.requires.opening c.follow.new.watched made.follows made.over made.limit made.within)
    c.close_all.ensures.rows

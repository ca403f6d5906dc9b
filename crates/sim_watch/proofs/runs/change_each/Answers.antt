use Rattle.std.proofs.Common.{rules, FitsSigned, to_z, of_z, w64, ℤ, ◌≡◌, ◌+◌, get_or, refl, sym, ap, subst, ◌∙◌}
use Rattle.std.proofs.lemmas.Int.{to_z-of_z}
use Rattle.sim_watch.proofs.Changing.{ChangesSo, changed_whole, changes, none_changed, passes}
use Rattle.sim_watch.proofs.runs.change_each.Goals.{then-place-watched, else-place-watched}
use Rattle.sim_watch.proofs.runs.change_each.Goals as goal

pub loop-res-init : goal.loop-res-init
loop-res-init c =
    let fits : FitsSigned w64 c.now-now.result = search rules in
    record {
      all = c.requires.all;
      up_to = rw (to_z-of_z w64 c.now-now.result fits, c.now-now.ensures) c.requires.up_to;
      changed = λ r k n moved watched. none_changed r k n c.args.places.now c.args.kernel.now moved c.args.watched.now watched;
    }

pub loop-res-preserved : goal.loop-res-preserved
loop-res-preserved c =
    let kernel = c.args.kernel.now in
    let now : ℤ = to_z w64 (of_z w64 c.now-now.result) in
    let fits : FitsSigned w64 c.now-now.result = search rules in
    let now_is : now ≡ kernel.parts.shared.happen.time = to_z-of_z w64 c.now-now.result fits ∙ c.now-now.ensures in
    let old = c.args.watched.now in
    let items = c.args.places.now in
    let i = c.loop-res.res-index in
    let p = get_or items i 0 in
    let rows = c.loop-res.watched in
    elim c.if-place-watched.branch [
      | then-place-watched w ↦
          (subst (ChangesSo kernel items now old (i + 1)) (sym w.watched-is)
          (changes kernel now old i p 0 items c.loop-res-test.true refl rows c.loop-res.invariant
          (get_or rows p w.index-watched-place.result) w.change.new.self w.measure.result w.if-place-watched.true
          (ap (get_or rows p) w.index-watched-place.is) now_is w.change.ensures.since w.measure.ensures.measure w.change.ensures.watched w.change.ensures.again))
      | else-place-watched w ↦
          (subst (ChangesSo kernel items now old (i + 1)) (sym w.watched-is) (passes kernel now old i p 0 items c.loop-res-test.true refl rows c.loop-res.invariant w.if-place-watched.false))
    ]

pub returns-clause-watched : goal.returns-clause-watched
returns-clause-watched c r k n moved watched =
    changed_whole r k n c.args.places.now c.args.kernel.now moved c.loop-res.watched c.loop-res.res-index (search rules) (c.loop-res.invariant.changed r k n moved watched)

use Rattle.std.proofs.Common.{◌≡◌, ◌<◌, length, refl, ap, ◌∙◌}
use Rattle.std.specs.Prelude.{slice_index_or}
use Rattle.sim_kernel.proofs.StartingAll.{blank_opening, blank_started, kept_on, next_started, starting_few, starts_few}
use Rattle.sim_kernel.proofs.opening.start_all.Goals as goal

pub loop-start-init : goal.loop-start-init
loop-start-init g c =
    let started = blank_started g.B.LawfulBody.body c.args.parts.now c.requires.blank c.requires.balances c.requires.few in
    record {
      kept = refl;
      opening = blank_opening g.B.LawfulBody.body c.args.parts.now started;
      started = started;
    }

pub loop-start-preserved : goal.loop-start-preserved
loop-start-preserved g c =
    let setup : c.as_slice-start-items.result.now ≡ c.args.parts.now.setup.starts = c.as_slice-start-items.ensures ∙ ap (λ x. x.starts) c.requires.setup in
    let below : c.loop-start.start-index < length c.args.parts.now.setup.starts = rw setup at c.loop-start-test.true in
    let item : c.start-item.result ≡ slice_index_or c.args.parts.now.setup.starts c.loop-start.start-index c.start-item.result = rw setup at c.start-item.is in
    record {
      kept = kept_on c.args.parts.now c.loop-start.parts c.start.new.self c.start.ensures.kept c.loop-start.invariant.kept;
      opening = c.in_ok-start.ensures.opening;
      started = next_started g.B.LawfulBody.body c.args.parts.now c.loop-start.parts c.start.new.self c.loop-start.start-index c.start-item.result below item c.loop-start.invariant.kept c.in_ok-start.ensures.starts c.loop-start.invariant.started;
    }

pub start-requires-clause-number : goal.start-requires-clause-number
start-requires-clause-number g c =
    let starts = ap (λ x. x.starts) c.requires.setup in
    let below : c.loop-start.start-index < length c.args.parts.now.setup.starts = rw (c.as_slice-start-items.ensures ∙ starts) at c.loop-start-test.true in
    starts_few g.B.LawfulBody.body c.args.parts.now c.loop-start.parts _ c.loop-start.start-index (rw c.requires.setup at c.requires.fits) below c.loop-start.invariant.started.stands.stands

pub start-requires-clause-few : goal.start-requires-clause-few
start-requires-clause-few g c =
    let starts = ap (λ x. x.starts) c.requires.setup in
    let below : c.loop-start.start-index < length c.args.parts.now.setup.starts = rw (c.as_slice-start-items.ensures ∙ starts) at c.loop-start-test.true in
    starting_few g.B.LawfulBody.body c.args.parts.now c.loop-start.parts _ c.loop-start.start-index (rw c.requires.setup at c.requires.fits) below c.loop-start.invariant.started

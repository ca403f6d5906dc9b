use Rattle.std.proofs.Common.{◌≡◌, ◌≤ℤ◌, ℤ, pos, ◌+ℤ◌, ◌-ℤ◌, ◌*ℤ◌, rules, FitsSigned, w64, to_z, of_z, refl, sym, subst, ◌∙◌}
use Rattle.std.specs.Int.{w128}
use Rattle.std.proofs.lemmas.Int.{to_z-of_z}
use Rattle.sim_types.specs.Limits.{last_time}
use Rattle.sim_watch.proofs.Sums.{stored_sum, stored_within}
use Rattle.sim_watch.proofs.watched.Watched.pass.Goals as goal

pub invariant_of-self : goal.invariant_of-self
invariant_of-self c =
    let old = c.self.invariant in
    let p : FitsSigned w128 c.sum_after-self-inside.result = search rules in
    let g : FitsSigned w128 c.sum_after-self-inside-2.result = search rules in
    let h : FitsSigned w128 c.sum_after-self-inside-3.result = search rules in
    let fits : FitsSigned w64 c.args.now = search rules in
    record {
      from_0 = search rules;
      to_last = subst (λ x. x ≤ℤ last_time) (sym (to_z-of_z w64 c.args.now fits)) c.requires.within;
      held_low = old.held_low;
      held_high = old.held_high;
      psum = stored_within c.args.now c.sum_after-self-inside.result fits p c.sum_after-self-inside.ensures.within;
      gsum = stored_within c.args.now c.sum_after-self-inside-2.result fits g c.sum_after-self-inside-2.ensures.within;
      hsum = stored_within c.args.now c.sum_after-self-inside-3.result fits h c.sum_after-self-inside-3.ensures.within;
    }

pub returns : goal.returns
returns c =
    let old = c.self.inside in
    let now = c.args.now in
    let fits_now : FitsSigned w64 now = search rules in
    let fits_since : FitsSigned w64 old.since = search rules in
    let fits_held : FitsSigned w64 old.measure.held = search rules in
    let p : ℤ = c.sum_after-self-inside.result in
    let g : ℤ = c.sum_after-self-inside-2.result in
    let h : ℤ = c.sum_after-self-inside-3.result in
    let psum : to_z w128 (of_z w128 p) ≡ old.row.psum +ℤ (pos old.measure.puts *ℤ (now -ℤ old.since)) =
    stored_sum old.row.psum (pos old.measure.puts) old.since now c.from.result p (search rules) (search rules) fits_since fits_now (search rules) c.from.ensures
    c.sum_after-self-inside.ensures.sum in
    let gsum : to_z w128 (of_z w128 g) ≡ old.row.gsum +ℤ (pos old.measure.gets *ℤ (now -ℤ old.since)) =
    stored_sum old.row.gsum (pos old.measure.gets) old.since now c.from-2.result g (search rules) (search rules) fits_since fits_now (search rules) c.from-2.ensures
    c.sum_after-self-inside-2.ensures.sum in
    let hsum : to_z w128 (of_z w128 h) ≡ old.row.hsum +ℤ (old.measure.held *ℤ (now -ℤ old.since)) =
    stored_sum old.row.hsum old.measure.held old.since now c.from-3.result h (search rules) (search rules) fits_since fits_now (search rules)
    (c.from-3.ensures ∙ to_z-of_z w64 old.measure.held fits_held) c.sum_after-self-inside-3.ensures.sum in
    rw (to_z-of_z w64 now fits_now, psum, gsum, hsum, ← c.self.view_is) refl

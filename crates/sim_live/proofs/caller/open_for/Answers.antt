use Rattle.std.proofs.Common.{◌<◌, ◌≤◌, ◌^◌, ◌-◌, [], length, sym, ap, ◌∙◌, subst, arith}
use Rattle.std.specs.Prelude.{slice_index_or}
use Rattle.sim_posters.proofs.PostersAtWork.{fresh_from}
use Rattle.sim_live.proofs.Sections.{few_sections, sections_small}
use Rattle.sim_live.proofs.caller.open_for.Goals as goal

pub capacities_of-requires : goal.capacities_of-requires
capacities_of-requires g c =
    let s = c.args.scenario.now in
    record {
      small = λ p.
          subst (λ l. length (slice_index_or l p []) < 2 ^ 32 - 1) (sym c.posters.ensures.posters) (sections_small s p c.posters.ensures.well_formed);
    }

pub open-requires-clause-few : goal.open-requires-clause-few
open-requires-clause-few g c =
    let few = few_sections c.args.scenario.now c.posters.ensures.well_formed in
    let many = ap (λ l. length l) c.as_slice.ensures.value ∙ (c.in_ok-capacities.ensures.many ∙ ap (λ l. length l) c.posters.ensures.posters) in
    omega (arith, few, many)

pub returns : goal.returns
returns g c =
    let s = c.args.scenario.now in
    let well = c.posters.ensures.well_formed in
    let is = c.posters.ensures.posters in
    let opened = c.in_ok-taker.ensures in
    let given = c.in_ok-capacities.ensures in
    let many = ap (λ l. length l) c.as_slice.ensures.value ∙ (given.many ∙ ap (λ l. length l) is) in
    record {
      ready = record {
        few = few_sections s well;
        many = opened.many ∙ many;
        count = opened.taker.0 ∙ many;
        nothing = opened.taker.1;
        fresh =
            fresh_from {posting = g.I.Taker.Poster.Posting} {box = g.I.Taker.Taking.inbox c.in_ok-taker.taker} {sections = s.posters} c.as_slice.result.now
            c.in_ok-capacities.capacities.items c.in_ok-taker.posters (opened.many ∙ many) opened.own opened.fresh (λ p. sections_small s p well)
            c.as_slice.ensures.value
            (subst (λ l. (p : _) → p < length l → (0 < slice_index_or c.in_ok-capacities.capacities.items p 0)
            × (length (slice_index_or l p []) ≤ slice_index_or c.in_ok-capacities.capacities.items p 0)) is given.each);
      };
    }

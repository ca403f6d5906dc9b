use Rattle.std.proofs.Common.{◌≡◌, ◌++◌, ◌∷◌, [], List, length, ap, ◌∙◌, ◌+◌, ◌<◌, arith, append_assoc}
use Rattle.std.proofs.lemmas.List.{length-append}
use Rattle.std.specs.Prelude.{slice_get}
use Rattle.sim_lanes.specs.Ends.{PosterOf}
use Rattle.sim_lanes.proofs.Joining.{joined_more, there}
use Rattle.sim_lanes.proofs.taker.LaneTaker.join_all.Goals as goal

pub loop-poster-preserved : goal.loop-poster-preserved
loop-poster-preserved c =
    let j = c.loop-poster.invariant in let x = c.in-Some.poster in let rest = c.pop.new.self.items in
    let popped = c.in-Some.ensures.items in
    let are : c.args.posters.items ≡ rest ++ (x ∷ j.more) = j.posters_are ∙ ap (λ (l : List PosterOf). l ++ j.more) popped ∙ append_assoc rest (x ∷ []) j.more in
    let own = c.requires.own (length rest) x (ap (λ (l : List PosterOf). slice_get l (length rest)) are ∙ there rest j.more x) in
    let long : length c.args.posters.items ≡ length rest + length (x ∷ j.more) = ap (λ (l : List PosterOf). length l) are ∙ length-append rest (x ∷ j.more) in
    let less : x.knows.number < length c.loop-poster.self.lanes = (let n = own.0 in let all = c.requires.all in let many = j.many in omega (arith, n, all, many, long)) in
    joined_more c.args.self.now c.loop-poster.self c.join.new.self c.loop-poster.posters.items rest c.args.posters.items x j popped own.0 less c.join.ensures

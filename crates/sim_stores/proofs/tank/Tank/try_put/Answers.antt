use Rattle.std.proofs.Common.{rules, refl, w64, FitsSigned}
use Rattle.sim_stores.specs.contracts.tank.Tank.{the_view}
use Rattle.sim_stores.proofs.Amounts.{sum_kept, difference_kept, sound_fits, free_fits, sound_filled, fills}
use Rattle.sim_stores.proofs.tank.Tank.try_put.Goals as goal

pub invariant_of-self-2 : goal.invariant_of-self-2
invariant_of-self-2 c =
    let level : FitsSigned w64 c.self.inside.level = search rules in
    let capacity : FitsSigned w64 c.self.inside.capacity = search rules in
    let amount : FitsSigned w64 c.in_ok-put.put.amount = search rules in
    let free = difference_kept c.self.inside.capacity c.self.inside.level capacity level (free_fits _ _ _ _ c.self.invariant) in
    let sound = sound_filled _ _ _ _ _ _ _ c.in_ok-put.put c.self.invariant free refl c.in_ok-put.ensures.pops in
    rw (sum_kept c.self.inside.level c.in_ok-put.put.amount level amount (sound_fits _ _ _ _ sound)) sound

pub returns : goal.returns
returns c = λ res.
    let level : FitsSigned w64 c.self.inside.level = search rules in
    let capacity : FitsSigned w64 c.self.inside.capacity = search rules in
    let amount : FitsSigned w64 c.in_ok-put.put.amount = search rules in
    let free = difference_kept c.self.inside.capacity c.self.inside.level capacity level (free_fits _ _ _ _ c.self.invariant) in
    let sound = sound_filled _ _ _ _ _ _ _ c.in_ok-put.put c.self.invariant free refl c.in_ok-put.ensures.pops in
    let sum = sum_kept c.self.inside.level c.in_ok-put.put.amount level amount (sound_fits _ _ _ _ sound) in
    rw (← c.self.view_is) (fills res (the_view c.self.inside) c.in_ok-put.put _ _ _ _ free sum (search rules) c.in_ok-put.ensures.pops)

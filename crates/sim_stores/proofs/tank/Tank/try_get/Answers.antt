use Rattle.std.proofs.Common.{rules, refl, w64, FitsSigned}
use Rattle.std.proofs.lemmas.Int.{to_z-of_z}
use Rattle.sim_stores.specs.contracts.tank.Tank.{the_view}
use Rattle.sim_stores.proofs.Amounts.{difference_kept, sound_fits, sound_drained, drains}
use Rattle.sim_stores.proofs.tank.Tank.try_get.Goals as goal

pub invariant_of-self-2 : goal.invariant_of-self-2
invariant_of-self-2 c =
    let level : FitsSigned w64 c.self.inside.level = search rules in
    let amount : FitsSigned w64 c.in_ok-get.get.amount = search rules in
    let sound = sound_drained _ _ _ _ _ _ _ c.in_ok-get.get c.self.invariant (to_z-of_z w64 c.self.inside.level level) refl c.in_ok-get.ensures.pops in
    rw (difference_kept c.self.inside.level c.in_ok-get.get.amount level amount (sound_fits _ _ _ _ sound)) sound

pub returns : goal.returns
returns c = λ res.
    let level : FitsSigned w64 c.self.inside.level = search rules in
    let amount : FitsSigned w64 c.in_ok-get.get.amount = search rules in
    let sound = sound_drained _ _ _ _ _ _ _ c.in_ok-get.get c.self.invariant (to_z-of_z w64 c.self.inside.level level) refl c.in_ok-get.ensures.pops in
    let rest = difference_kept c.self.inside.level c.in_ok-get.get.amount level amount (sound_fits _ _ _ _ sound) in
    rw (← c.self.view_is) (drains res (the_view c.self.inside) c.in_ok-get.get _ _ _ _ (to_z-of_z w64 c.self.inside.level level) rest (search rules) c.in_ok-get.ensures.pops)

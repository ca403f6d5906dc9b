use Rattle.std.proofs.Common.{◌≡◌, ◌<◌, refl, length, subst}
use Rattle.std.specs.Prelude.{slice_get, Some, IfSome}
use Rattle.sim_shared_law.proofs.Shown.ResourcePlaces.{declared_alike, sound_set, sound_ready, same_but_room, got_is}
use Rattle.sim_shared.proofs.shared.Shared.reserve_place.Goals as goal

pub invariant_of-self : goal.invariant_of-self
invariant_of-self c =
    let x = c.index_mut.result.now in
    let there : slice_get c.self.inside.resources.items c.in-Some.used ≡ Some x =
    got_is c.self.inside.resources.items c.in-Some.used c.index_mut.result.now
    (subst (λ o. IfSome o (λ n. n < length c.self.inside.resources.items)) c.in-Some.is c.self.invariant.places.within) c.index_mut.ensures.value in
    sound_set c.self.inside.used c.self.inside.resources.items c.self.inside.setup.value c.in-Some.used x c.reserve.new.resource there (declared_alike x c.reserve.new.resource c.reserve.ensures.rest) c.reserve.ensures.never_less c.self.invariant

pub returns-in_err-reserve-clause-rest : goal.returns-in_err-reserve-clause-rest
returns-in_err-reserve-clause-rest c = rw (← c.self.view_is) (record {
  happen = refl;
  resources = same_but_room c.self.inside.resources.items c.in-Some.used c.index_mut.result.now c.reserve.new.resource c.index_mut.ensures.value c.reserve.ensures.rest;
  setup = refl;
})

pub invariant_of-self-in-Some : goal.invariant_of-self-in-Some
invariant_of-self-in-Some c =
    let x = c.index_mut.result.now in
    let there : slice_get c.self.inside.resources.items c.in-Some.used ≡ Some x =
    got_is c.self.inside.resources.items c.in-Some.used c.index_mut.result.now
    (subst (λ o. IfSome o (λ n. n < length c.self.inside.resources.items)) c.in-Some.is c.self.invariant.places.within) c.index_mut.ensures.value in
    sound_ready c.self.inside.used c.self.inside.resources.items c.self.inside.setup.value c.in-Some.used x c.reserve.new.resource c.in-Some.is there (declared_alike x c.reserve.new.resource c.reserve.ensures.rest) c.in_ok-reserve.ensures.place c.self.invariant

pub returns-in_ok-reserve-clause-rest : goal.returns-in_ok-reserve-clause-rest
returns-in_ok-reserve-clause-rest c = rw (← c.self.view_is) (record {
  happen = refl;
  resources = same_but_room c.self.inside.resources.items c.in-Some.used c.index_mut.result.now c.reserve.new.resource c.index_mut.ensures.value c.reserve.ensures.rest;
  setup = refl;
})

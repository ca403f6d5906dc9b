-- What comes next in a run says how its machine stands.
use Rattle.std.proofs.Common.{◌≡◌, Bool, true, false, refl}
use Rattle.std.specs.Prelude.{nat_le, if◌then◌else◌}
use Rattle.std.proofs.lemmas.Bool.{false≢true}
use Rattle.sim_types.specs.declared.line.End.TheVariants as end
use Rattle.sim_steps_model.specs.Resting.{rest_in, can_arrive}
use Rattle.sim_steps_model.specs.declared.mode.Rest.{Rest}
use Rattle.sim_steps_model.specs.declared.mode.Rest.TheVariants as rest
use Rattle.sim_engine.specs.Sessions.{SessionOf, turn_at, turn_of, takes_arrivals}
use Rattle.sim_engine.specs.declared.session.Turn.TheVariants as turn

-- ---- where a session stands

takes_by : (b spent : Bool) (r : Rest) → takes_arrivals (if b then turn.Over end.Limit else turn_at spent r) ≡ true → (b ≡ false) × (can_arrive r ≡ true)
takes_by true spent r h = absurd (false≢true h)
takes_by false spent rest.Busy h = absurd (false≢true h)
takes_by false spent rest.Idle h = (refl, refl)
takes_by false spent rest.Empty h = (refl, refl)
takes_by false spent (rest.Over why) h = absurd (false≢true h)

pub takes_where : (x : SessionOf) → takes_arrivals (turn_of x) ≡ true → (x.refused ≡ false) × (can_arrive (rest_in x.parts) ≡ true)
takes_where x takes = takes_by x.refused (nat_le x.limit x.units) (rest_in x.parts) takes

empty_by : (b spent : Bool) (r : Rest) → (if b then turn.Over end.Limit else turn_at spent r) ≡ turn.Empty → r ≡ rest.Empty
empty_by true spent r h = absurd (cc)
empty_by false spent rest.Busy h = absurd (cc)
empty_by false true rest.Idle h = absurd (cc)
empty_by false false rest.Idle h = absurd (cc)
empty_by false spent rest.Empty h = refl
empty_by false spent (rest.Over why) h = absurd (cc)

pub empty_where : (x : SessionOf) → turn_of x ≡ turn.Empty → rest_in x.parts ≡ rest.Empty
empty_where x h = empty_by x.refused (nat_le x.limit x.units) (rest_in x.parts) h

idle_by : (b spent : Bool) (r : Rest) → (if b then turn.Over end.Limit else turn_at spent r) ≡ turn.Idle → r ≡ rest.Idle
idle_by true spent r h = absurd (cc)
idle_by false spent rest.Busy h = absurd (cc)
idle_by false spent rest.Idle h = refl
idle_by false spent rest.Empty h = absurd (cc)
idle_by false spent (rest.Over why) h = absurd (cc)

pub idle_where : (x : SessionOf) → turn_of x ≡ turn.Idle → rest_in x.parts ≡ rest.Idle
idle_where x h = idle_by x.refused (nat_le x.limit x.units) (rest_in x.parts) h

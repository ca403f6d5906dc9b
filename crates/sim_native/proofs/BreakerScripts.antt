-- A breaker asks for what its script asks for, and then stands for the script as it is then.
use Rattle.std.proofs.Common.{ℕ, ℤ, refl}
use Rattle.sim_types.specs.declared.event.ProcId.{ProcId}
use Rattle.sim_types.specs.declared.event.Signal.{Signal}
use Rattle.sim_types.specs.declared.event.Signal.TheVariants as signal
use Rattle.sim_native.specs.ShopMembers.{BreakerOf}
use Rattle.sim_native.specs.declared.shop.breaker.BreakerAt.{BreakerAt}
use Rattle.sim_native.specs.declared.shop.breaker.BreakerAt.TheVariants as breaker
use Rattle.sim_native.specs.declared.shop.breaker.BreakerSpot.TheVariants as there
use Rattle.sim_native.specs.declared.shop.Stage.TheVariants as stage
use Rattle.sim_native.specs.ShopTurns.{breaker_turn, of_breaker}
use Rattle.sim_native.proofs.ShopPolls.{Turns}

module _ (n k : ℕ) (me : ProcId) (time : ℤ) where
  pub breaker_is_script : (val : ℤ) (m : BreakerOf) (at : BreakerAt) (told : Signal)
      → Turns n k me time val (stage.Breaker at m) told (of_breaker (breaker_turn at m told))
  breaker_is_script val m breaker.Starts signal.Begin may = refl
  breaker_is_script val m breaker.Starts signal.Done may = absurd (cc)
  breaker_is_script val m breaker.Starts (signal.Value v) may = refl
  breaker_is_script val m breaker.Starts (signal.Thrown t) may = refl
  breaker_is_script val m breaker.Starts (signal.Raised n) may = absurd (cc)
  breaker_is_script val m breaker.Starts (signal.Number n) may = absurd (cc)
  breaker_is_script val m breaker.Starts (signal.Made e) may = absurd (cc)
  breaker_is_script val m breaker.Loops signal.Begin may = absurd (cc)
  breaker_is_script val m breaker.Loops signal.Done may = refl
  breaker_is_script val m breaker.Loops (signal.Value v) may = absurd (cc)
  breaker_is_script val m breaker.Loops (signal.Thrown t) may = absurd (cc)
  breaker_is_script val m breaker.Loops (signal.Raised n) may = absurd (cc)
  breaker_is_script val m breaker.Loops (signal.Number n) may = absurd (cc)
  breaker_is_script val m breaker.Loops (signal.Made e) may = absurd (cc)
  breaker_is_script val m breaker.Draws signal.Begin may = absurd (cc)
  breaker_is_script val m breaker.Draws signal.Done may = absurd (cc)
  breaker_is_script val m breaker.Draws (signal.Value v) may = absurd (cc)
  breaker_is_script val m breaker.Draws (signal.Thrown t) may = absurd (cc)
  breaker_is_script val m breaker.Draws (signal.Raised n) may = refl
  breaker_is_script val m breaker.Draws (signal.Number n) may = refl
  breaker_is_script val m breaker.Draws (signal.Made e) may = absurd (cc)
  breaker_is_script val m breaker.Sleeps signal.Begin may = refl
  breaker_is_script val m breaker.Sleeps signal.Done may = absurd (cc)
  breaker_is_script val m breaker.Sleeps (signal.Value v) may = refl
  breaker_is_script val m breaker.Sleeps (signal.Thrown t) may = refl
  breaker_is_script val m breaker.Sleeps (signal.Raised n) may = refl
  breaker_is_script val m breaker.Sleeps (signal.Number n) may = absurd (cc)
  breaker_is_script val m breaker.Sleeps (signal.Made e) may = absurd (cc)
  breaker_is_script val m breaker.Interrupts signal.Begin may = absurd (cc)
  breaker_is_script val m breaker.Interrupts signal.Done may = refl
  breaker_is_script val m breaker.Interrupts (signal.Value v) may = absurd (cc)
  breaker_is_script val m breaker.Interrupts (signal.Thrown t) may = absurd (cc)
  breaker_is_script val m breaker.Interrupts (signal.Raised n) may = refl
  breaker_is_script val m breaker.Interrupts (signal.Number n) may = absurd (cc)
  breaker_is_script val m breaker.Interrupts (signal.Made e) may = absurd (cc)
  breaker_is_script val m (breaker.Struck there.Starting what) signal.Begin may = absurd (cc)
  breaker_is_script val m (breaker.Struck there.Starting what) signal.Done may = refl
  breaker_is_script val m (breaker.Struck there.Starting what) (signal.Value v) may = absurd (cc)
  breaker_is_script val m (breaker.Struck there.Starting what) (signal.Thrown t) may = absurd (cc)
  breaker_is_script val m (breaker.Struck there.Starting what) (signal.Raised n) may = absurd (cc)
  breaker_is_script val m (breaker.Struck there.Starting what) (signal.Number n) may = absurd (cc)
  breaker_is_script val m (breaker.Struck there.Starting what) (signal.Made e) may = absurd (cc)
  breaker_is_script val m (breaker.Struck there.Drawing what) signal.Begin may = absurd (cc)
  breaker_is_script val m (breaker.Struck there.Drawing what) signal.Done may = refl
  breaker_is_script val m (breaker.Struck there.Drawing what) (signal.Value v) may = absurd (cc)
  breaker_is_script val m (breaker.Struck there.Drawing what) (signal.Thrown t) may = absurd (cc)
  breaker_is_script val m (breaker.Struck there.Drawing what) (signal.Raised n) may = absurd (cc)
  breaker_is_script val m (breaker.Struck there.Drawing what) (signal.Number n) may = absurd (cc)
  breaker_is_script val m (breaker.Struck there.Drawing what) (signal.Made e) may = absurd (cc)
  breaker_is_script val m (breaker.Struck there.Sleeping what) signal.Begin may = absurd (cc)
  breaker_is_script val m (breaker.Struck there.Sleeping what) signal.Done may = refl
  breaker_is_script val m (breaker.Struck there.Sleeping what) (signal.Value v) may = absurd (cc)
  breaker_is_script val m (breaker.Struck there.Sleeping what) (signal.Thrown t) may = absurd (cc)
  breaker_is_script val m (breaker.Struck there.Sleeping what) (signal.Raised n) may = absurd (cc)
  breaker_is_script val m (breaker.Struck there.Sleeping what) (signal.Number n) may = absurd (cc)
  breaker_is_script val m (breaker.Struck there.Sleeping what) (signal.Made e) may = absurd (cc)
  breaker_is_script val m (breaker.Struck there.Interrupting what) signal.Begin may = absurd (cc)
  breaker_is_script val m (breaker.Struck there.Interrupting what) signal.Done may = refl
  breaker_is_script val m (breaker.Struck there.Interrupting what) (signal.Value v) may = absurd (cc)
  breaker_is_script val m (breaker.Struck there.Interrupting what) (signal.Thrown t) may = absurd (cc)
  breaker_is_script val m (breaker.Struck there.Interrupting what) (signal.Raised n) may = absurd (cc)
  breaker_is_script val m (breaker.Struck there.Interrupting what) (signal.Number n) may = absurd (cc)
  breaker_is_script val m (breaker.Struck there.Interrupting what) (signal.Made e) may = absurd (cc)
  breaker_is_script val m (breaker.Dead at what) told may = absurd (cc)

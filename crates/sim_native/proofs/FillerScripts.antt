-- A filler asks for what its script asks for, and then stands for the script as it is then.
use Rattle.std.proofs.Common.{ℕ, ℤ, refl}
use Rattle.sim_types.specs.declared.event.ProcId.{ProcId}
use Rattle.sim_types.specs.declared.event.Signal.{Signal}
use Rattle.sim_types.specs.declared.event.Signal.TheVariants as signal
use Rattle.sim_native.specs.ShopMembers.{FillerOf}
use Rattle.sim_native.specs.declared.shop.filler.FillerAt.{FillerAt}
use Rattle.sim_native.specs.declared.shop.filler.FillerAt.TheVariants as filler
use Rattle.sim_native.specs.declared.shop.Stage.TheVariants as stage
use Rattle.sim_native.specs.ShopTurns.{filler_turn, of_filler}
use Rattle.sim_native.proofs.ShopPolls.{Turns}

module _ (n k : ℕ) (me : ProcId) (time : ℤ) where
  pub filler_is_script : (val : ℤ) (m : FillerOf) (at : FillerAt) (told : Signal)
      → Turns n k me time val (stage.Filler at m) told (of_filler (filler_turn at m told))
  filler_is_script val m filler.Starts signal.Begin may = refl
  filler_is_script val m filler.Starts signal.Done may = absurd (cc)
  filler_is_script val m filler.Starts (signal.Value v) may = refl
  filler_is_script val m filler.Starts (signal.Thrown t) may = refl
  filler_is_script val m filler.Starts (signal.Raised n) may = absurd (cc)
  filler_is_script val m filler.Starts (signal.Number n) may = absurd (cc)
  filler_is_script val m filler.Starts (signal.Made e) may = absurd (cc)
  filler_is_script val m filler.Loops signal.Begin may = absurd (cc)
  filler_is_script val m filler.Loops signal.Done may = refl
  filler_is_script val m filler.Loops (signal.Value v) may = absurd (cc)
  filler_is_script val m filler.Loops (signal.Thrown t) may = absurd (cc)
  filler_is_script val m filler.Loops (signal.Raised n) may = absurd (cc)
  filler_is_script val m filler.Loops (signal.Number n) may = absurd (cc)
  filler_is_script val m filler.Loops (signal.Made e) may = absurd (cc)
  filler_is_script val m filler.WantsCrew signal.Begin may = absurd (cc)
  filler_is_script val m filler.WantsCrew signal.Done may = refl
  filler_is_script val m filler.WantsCrew (signal.Value v) may = absurd (cc)
  filler_is_script val m filler.WantsCrew (signal.Thrown t) may = absurd (cc)
  filler_is_script val m filler.WantsCrew (signal.Raised n) may = absurd (cc)
  filler_is_script val m filler.WantsCrew (signal.Number n) may = absurd (cc)
  filler_is_script val m filler.WantsCrew (signal.Made e) may = absurd (cc)
  filler_is_script val m filler.AsksForCrew signal.Begin may = absurd (cc)
  filler_is_script val m filler.AsksForCrew signal.Done may = absurd (cc)
  filler_is_script val m filler.AsksForCrew (signal.Value v) may = absurd (cc)
  filler_is_script val m filler.AsksForCrew (signal.Thrown t) may = absurd (cc)
  filler_is_script val m filler.AsksForCrew (signal.Raised n) may = refl
  filler_is_script val m filler.AsksForCrew (signal.Number n) may = absurd (cc)
  filler_is_script val m filler.AsksForCrew (signal.Made e) may = refl
  filler_is_script val m filler.WaitsForCrew signal.Begin may = refl
  filler_is_script val m filler.WaitsForCrew signal.Done may = absurd (cc)
  filler_is_script val m filler.WaitsForCrew (signal.Value v) may = refl
  filler_is_script val m filler.WaitsForCrew (signal.Thrown t) may = refl
  filler_is_script val m filler.WaitsForCrew (signal.Raised n) may = absurd (cc)
  filler_is_script val m filler.WaitsForCrew (signal.Number n) may = absurd (cc)
  filler_is_script val m filler.WaitsForCrew (signal.Made e) may = absurd (cc)
  filler_is_script val m filler.ThrownWaiting signal.Begin may = absurd (cc)
  filler_is_script val m filler.ThrownWaiting signal.Done may = refl
  filler_is_script val m filler.ThrownWaiting (signal.Value v) may = absurd (cc)
  filler_is_script val m filler.ThrownWaiting (signal.Thrown t) may = absurd (cc)
  filler_is_script val m filler.ThrownWaiting (signal.Raised n) may = absurd (cc)
  filler_is_script val m filler.ThrownWaiting (signal.Number n) may = absurd (cc)
  filler_is_script val m filler.ThrownWaiting (signal.Made e) may = absurd (cc)
  filler_is_script val m filler.Works signal.Begin may = refl
  filler_is_script val m filler.Works signal.Done may = absurd (cc)
  filler_is_script val m filler.Works (signal.Value v) may = refl
  filler_is_script val m filler.Works (signal.Thrown t) may = refl
  filler_is_script val m filler.Works (signal.Raised n) may = refl
  filler_is_script val m filler.Works (signal.Number n) may = absurd (cc)
  filler_is_script val m filler.Works (signal.Made e) may = absurd (cc)
  filler_is_script val m filler.ThrownAtWork signal.Begin may = absurd (cc)
  filler_is_script val m filler.ThrownAtWork signal.Done may = refl
  filler_is_script val m filler.ThrownAtWork (signal.Value v) may = absurd (cc)
  filler_is_script val m filler.ThrownAtWork (signal.Thrown t) may = absurd (cc)
  filler_is_script val m filler.ThrownAtWork (signal.Raised n) may = absurd (cc)
  filler_is_script val m filler.ThrownAtWork (signal.Number n) may = absurd (cc)
  filler_is_script val m filler.ThrownAtWork (signal.Made e) may = absurd (cc)
  filler_is_script val m filler.CrewLeft signal.Begin may = absurd (cc)
  filler_is_script val m filler.CrewLeft signal.Done may = refl
  filler_is_script val m filler.CrewLeft (signal.Value v) may = absurd (cc)
  filler_is_script val m filler.CrewLeft (signal.Thrown t) may = absurd (cc)
  filler_is_script val m filler.CrewLeft (signal.Raised n) may = absurd (cc)
  filler_is_script val m filler.CrewLeft (signal.Number n) may = absurd (cc)
  filler_is_script val m filler.CrewLeft (signal.Made e) may = absurd (cc)
  filler_is_script val m filler.Caught signal.Begin may = absurd (cc)
  filler_is_script val m filler.Caught signal.Done may = refl
  filler_is_script val m filler.Caught (signal.Value v) may = absurd (cc)
  filler_is_script val m filler.Caught (signal.Thrown t) may = absurd (cc)
  filler_is_script val m filler.Caught (signal.Raised n) may = absurd (cc)
  filler_is_script val m filler.Caught (signal.Number n) may = absurd (cc)
  filler_is_script val m filler.Caught (signal.Made e) may = absurd (cc)
  filler_is_script val m filler.PastTry signal.Begin may = absurd (cc)
  filler_is_script val m filler.PastTry signal.Done may = refl
  filler_is_script val m filler.PastTry (signal.Value v) may = absurd (cc)
  filler_is_script val m filler.PastTry (signal.Thrown t) may = absurd (cc)
  filler_is_script val m filler.PastTry (signal.Raised n) may = absurd (cc)
  filler_is_script val m filler.PastTry (signal.Number n) may = absurd (cc)
  filler_is_script val m filler.PastTry (signal.Made e) may = absurd (cc)
  filler_is_script val m filler.Dead told may = absurd (cc)

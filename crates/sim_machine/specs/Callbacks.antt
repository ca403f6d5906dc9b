-- Which callbacks are the same.
use Rattle.std.specs.Prelude.{Bool, ◌==◌, true, false}
use Rattle.sim_types.specs.declared.event.Callback.{Callback}
use Rattle.sim_types.specs.declared.event.Callback.TheVariants as callback
use Rattle.sim_machine.specs.Events.{is_same, is_process}

-- whether two callbacks are the same
abbrev pub is_same_callback : Callback → Callback → Bool
is_same_callback (callback.Resume p) (callback.Resume q) = is_process p q
is_same_callback (callback.Check e) (callback.Check f) = is_same e f
is_same_callback (callback.Build e) (callback.Build f) = is_same e f
is_same_callback (callback.TryPut r) (callback.TryPut s) = r == s
is_same_callback (callback.TryGet r) (callback.TryGet s) = r == s
is_same_callback (callback.Strike p) (callback.Strike q) = is_process p q
is_same_callback callback.Stop callback.Stop = true
is_same_callback (callback.Trigger e) (callback.Trigger f) = is_same e f
is_same_callback _ _ = false

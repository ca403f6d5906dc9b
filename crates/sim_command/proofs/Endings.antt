-- A run that has ended gives a whole answer.
use Rattle.std.proofs.Common.{◌≡◌, true, refl}
use Rattle.sim_types.specs.declared.line.End.{End}
use Rattle.sim_types.specs.declared.line.End.TheVariants as end
use Rattle.sim_command.specs.Endings.{status_of_end, is_whole}

pub end_whole : (how : End) → is_whole (status_of_end how) ≡ true
end_whole end.Empty = refl
end_whole end.Until = refl
end_whole end.Crash = refl
end_whole end.Limit = refl
end_whole end.Starved = refl

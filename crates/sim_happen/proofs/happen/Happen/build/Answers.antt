use Rattle.sim_machine.specs.Conditions.{take_checks_within}
use Rattle.sim_happen_law.proofs.Changes.Following.{kept_then}
use Rattle.sim_happen_law.proofs.Changes.Held.{same_room_by_held}
use Rattle.sim_happen_law.proofs.Changes.Unholding.{room_then}
use Rattle.sim_happen_law.proofs.Conditions.Gathering.{still_condition}
use Rattle.sim_happen.proofs.happen.Happen.build.Goals as goal

pub fix_value-requires-clause-kept : goal.fix_value-requires-clause-kept
fix_value-requires-clause-kept c = kept_then (take_checks_within 65 c.args.condition) c.args.self.now c.take_checks.new.self c.args.condition c.take_checks.ensures.follows c.requires.kept

pub fix_value-requires-clause-condition : goal.fix_value-requires-clause-condition
fix_value-requires-clause-condition c = still_condition c.args.self.now c.take_checks.new.self 65 c.args.condition c.requires.kept c.take_checks.ensures.follows c.requires.condition

pub returns-clause-room : goal.returns-clause-room
returns-clause-room c =
    room_then c.args.self.now c.take_checks.new.self c.fix_value.new.self c.take_checks.ensures.room (same_room_by_held c.take_checks.new.self c.fix_value.new.self c.fix_value.ensures.follows.held c.fix_value.ensures.spare)

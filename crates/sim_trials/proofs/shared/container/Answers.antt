use Rattle.sim_shared.specs.Opening.{first_facilities}
use Rattle.sim_trials.proofs.Opened.{nobody_waits, shown_with_room}
use Rattle.sim_trials.proofs.shared.container.Goals as goal

pub returns-clause-open : goal.returns-clause-open
returns-clause-open c =
    let r = c.reserve_starts in
    nobody_waits r.new.self (shown_with_room c.in_ok-shared.shared r.new.self first_facilities r.ensures.rest c.in_ok-shared.ensures.shows)

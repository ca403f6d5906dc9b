use Rattle.sim_lawful.proofs.Reached.KeptReached.{entries_kept, told_kept, waiters_kept, users_kept, scopes_kept, processes_kept, targets_kept, places_kept, all_named_kept, process_kept, members_kept, registered_kept, left_kept}
use Rattle.sim_lawful.proofs.Reached.KeptAsked.{asked_kept}
use Rattle.sim_lawful.proofs.kept.reached_events_are_kept.Goals as goal

pub returns-clause-waiters : goal.returns-clause-waiters
returns-clause-waiters g c code plan s l = let b = g.B.LawfulBody.body in waiters_kept plan (b.tell code) (b.sound code) s l

pub returns-clause-users : goal.returns-clause-users
returns-clause-users g c code plan s l = let b = g.B.LawfulBody.body in users_kept plan (b.tell code) (b.sound code) s l

pub returns-clause-scopes : goal.returns-clause-scopes
returns-clause-scopes g c code plan s l = let b = g.B.LawfulBody.body in scopes_kept plan (b.tell code) (b.sound code) s l

pub returns-clause-processes : goal.returns-clause-processes
returns-clause-processes g c code plan s l = let b = g.B.LawfulBody.body in processes_kept plan (b.tell code) (b.sound code) s l

pub returns-clause-targets : goal.returns-clause-targets
returns-clause-targets g c code plan s l = let b = g.B.LawfulBody.body in targets_kept plan (b.tell code) (b.sound code) s l

pub returns-clause-places : goal.returns-clause-places
returns-clause-places g c code plan s l = let b = g.B.LawfulBody.body in places_kept plan (b.tell code) (b.sound code) s l

pub returns-clause-named : goal.returns-clause-named
returns-clause-named g c code plan s l = let b = g.B.LawfulBody.body in all_named_kept plan (b.tell code) (b.sound code) s l

pub returns-clause-processed : goal.returns-clause-processed
returns-clause-processed g c code plan s l = let b = g.B.LawfulBody.body in process_kept plan (b.tell code) (b.sound code) s l

pub returns-clause-members : goal.returns-clause-members
returns-clause-members g c code plan s l = let b = g.B.LawfulBody.body in members_kept plan (b.tell code) (b.sound code) s l

pub returns-clause-registered : goal.returns-clause-registered
returns-clause-registered g c code plan s l = let b = g.B.LawfulBody.body in registered_kept plan (b.tell code) (b.sound code) s l

pub returns-clause-left : goal.returns-clause-left
returns-clause-left g c code plan s l = let b = g.B.LawfulBody.body in left_kept plan (b.tell code) (b.sound code) s l

pub returns-clause-entries : goal.returns-clause-entries
returns-clause-entries g c code plan s l = let b = g.B.LawfulBody.body in entries_kept plan (b.tell code) (b.sound code) s l

pub returns-clause-told : goal.returns-clause-told
returns-clause-told g c code plan s l = let b = g.B.LawfulBody.body in told_kept plan (b.tell code) (b.sound code) s l

pub returns-clause-asked : goal.returns-clause-asked
returns-clause-asked g c code plan s l is o asks =
    let b = g.B.LawfulBody.body in
    asked_kept plan (b.tell code) (b.sound code) (b.facts code) s l asks.event asks.left asks.id asks.told asks.process asks.active asks.found o asks.after is.fits asks.poll

use Rattle.sim_machine_law.proofs.ConditionLaws.CountedMembers.{counts_one, all_of_counted, any_of_counted, fails_with, defuses_member, counts_nothing}
use Rattle.sim_machine_law.proofs.conditions.counted_members.Goals as goal

pub returns-clause-counts : goal.returns-clause-counts
returns-clause-counts c = counts_one

pub returns-clause-all_of : goal.returns-clause-all_of
returns-clause-all_of c = all_of_counted

pub returns-clause-any_of : goal.returns-clause-any_of
returns-clause-any_of c = any_of_counted

pub returns-clause-fails : goal.returns-clause-fails
returns-clause-fails c = λ cond member c sort t h. fails_with cond member c sort h t

pub returns-clause-defuses : goal.returns-clause-defuses
returns-clause-defuses c = λ cond member c sort t h. defuses_member cond member c sort h t

pub returns-clause-nothing : goal.returns-clause-nothing
returns-clause-nothing c = counts_nothing

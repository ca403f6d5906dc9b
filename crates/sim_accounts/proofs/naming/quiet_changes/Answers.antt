use Rattle.std.proofs.Common.{refl}
use Rattle.sim_happen_model.specs.Naming.{held_alone}
use Rattle.sim_accounts.proofs.Trading.{trades_nothing}
use Rattle.sim_accounts.proofs.StateChanges.{quiet_trade}
use Rattle.sim_accounts.proofs.Quiet.{told_trade, rest_trade, stripped_trade}
use Rattle.sim_accounts.proofs.naming.quiet_changes.Goals as goal

pub returns-clause-told : goal.returns-clause-told
returns-clause-told g c = λ n tell s x. told_trade n tell x s

pub returns-clause-rests : goal.returns-clause-rests
returns-clause-rests g c = rest_trade

pub returns-clause-stripped : goal.returns-clause-stripped
returns-clause-stripped g c = λ n tell s p. stripped_trade n tell p s

pub returns-clause-written : goal.returns-clause-written
returns-clause-written g c = λ n tell s line. trades_nothing (held_alone n tell s) _ (λ e. refl)

pub returns-clause-drawn : goal.returns-clause-drawn
returns-clause-drawn g c = λ n tell s. trades_nothing (held_alone n tell s) _ (λ e. refl)

pub returns-clause-facilities : goal.returns-clause-facilities
returns-clause-facilities g c = λ n tell s change later. quiet_trade n tell s (change s.facilities) later.triggers

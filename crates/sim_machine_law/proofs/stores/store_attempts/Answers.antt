use Rattle.sim_machine_law.proofs.Stocks.ServedStores.{handed_out, none_handed, put_in, none_put_in}
use Rattle.sim_machine_law.proofs.stores.store_attempts.Goals as goal

pub returns-clause-handed : goal.returns-clause-handed
returns-clause-handed c = λ rs w f least greatest x store wants. handed_out rs w f store least greatest wants x

pub returns-clause-none : goal.returns-clause-none
returns-clause-none c = λ rs w f least greatest store wants. none_handed rs w f store least greatest wants

pub returns-clause-put : goal.returns-clause-put
returns-clause-put c = λ rs w f value priority store wants. put_in rs w f store value priority wants

pub returns-clause-full : goal.returns-clause-full
returns-clause-full c = λ rs w f value priority store wants. none_put_in rs w f store value priority wants

-- Words that are a command, and words that are none.
use Rattle.std.specs.Prelude.{◌≡◌, refl, [], ◌∷◌, codes, Some, None}
use Rattle.sim_command.specs.declared.commands.Command.TheVariants.{Check, Run, Batch, Watch, Load, Native}
use Rattle.sim_command.specs.Commands.{command, hosted_runs, live_limit, most_units}
use Rattle.sim_models.specs.declared.texts.Model.TheVariants as model

check : command (codes "check" ∷ []) ≡ Some Check
check = refl

check_with_a_number : command (codes "check" ∷ codes "5" ∷ []) ≡ None
check_with_a_number = refl

leading_zeros : command (codes "run" ∷ codes "00000007" ∷ []) ≡ Some (Run 7)
unfolding most_units
leading_zeros = refl

greatest_limit : command (codes "run" ∷ codes "10000000" ∷ []) ≡ Some (Run 10000000)
unfolding most_units
greatest_limit = refl

limit_too_great : command (codes "run" ∷ codes "10000001" ∷ []) ≡ None
unfolding most_units
limit_too_great = refl

limit_of_zero : command (codes "run" ∷ codes "0" ∷ []) ≡ None
unfolding most_units
limit_of_zero = refl

third_word : command (codes "run" ∷ codes "5" ∷ codes "5" ∷ []) ≡ None
third_word = refl

greatest_batch : command (codes "batch" ∷ codes "10000" ∷ codes "10000000" ∷ []) ≡ Some (Batch 10000 10000000)
unfolding most_units
greatest_batch = refl

too_many_runs : command (codes "batch" ∷ codes "10001" ∷ codes "5" ∷ []) ≡ None
unfolding most_units
too_many_runs = refl

batch_of_no_runs : command (codes "batch" ∷ codes "0" ∷ codes "5" ∷ []) ≡ None
unfolding most_units
batch_of_no_runs = refl

batch_without_limit : command (codes "batch" ∷ codes "3" ∷ []) ≡ None
batch_without_limit = refl

watch_with_a_limit : command (codes "watch" ∷ codes "10000000" ∷ []) ≡ Some (Watch 10000000)
unfolding most_units
watch_with_a_limit = refl

watch_limit_too_great : command (codes "watch" ∷ codes "10000001" ∷ []) ≡ None
unfolding most_units
watch_limit_too_great = refl

watch_limit_of_zero : command (codes "watch" ∷ codes "0" ∷ []) ≡ None
unfolding most_units
watch_limit_of_zero = refl

watch_without_limit : command (codes "watch" ∷ []) ≡ None
watch_without_limit = refl

greatest_shop : command (codes "load" ∷ codes "2000" ∷ []) ≡ Some (Load 2000)
greatest_shop = refl

too_many_machines : command (codes "load" ∷ codes "2001" ∷ []) ≡ None
too_many_machines = refl

shop_of_no_machines : command (codes "load" ∷ codes "0" ∷ []) ≡ None
shop_of_no_machines = refl

native_bank : command (codes "native" ∷ codes "bank" ∷ codes "10000000" ∷ []) ≡ Some (Native model.Bank 10000000)
unfolding most_units
native_bank = refl

native_shop : command (codes "native" ∷ codes "shop" ∷ codes "1" ∷ []) ≡ Some (Native model.Shop 1)
unfolding most_units
native_shop = refl

native_wash : command (codes "native" ∷ codes "wash" ∷ codes "009" ∷ []) ≡ Some (Native model.Wash 9)
unfolding most_units
native_wash = refl

native_of_no_model : command (codes "native" ∷ codes "ward" ∷ codes "5" ∷ []) ≡ None
native_of_no_model = refl

native_limit_too_great : command (codes "native" ∷ codes "wash" ∷ codes "10000001" ∷ []) ≡ None
unfolding most_units
native_limit_too_great = refl

native_without_limit : command (codes "native" ∷ codes "wash" ∷ []) ≡ None
native_without_limit = refl

live_is_no_command : command (codes "live" ∷ codes "5" ∷ []) ≡ None
live_is_no_command = refl

live_with_a_limit : live_limit (codes "live" ∷ codes "10000000" ∷ []) ≡ Some 10000000
unfolding most_units
live_with_a_limit = refl

live_limit_too_great : live_limit (codes "live" ∷ codes "10000001" ∷ []) ≡ None
unfolding most_units
live_limit_too_great = refl

live_without_limit : live_limit (codes "live" ∷ []) ≡ None
live_without_limit = refl

run_is_not_live : live_limit (codes "run" ∷ codes "5" ∷ []) ≡ None
run_is_not_live = refl

host_is_no_command : command (codes "host" ∷ codes "2" ∷ codes "5" ∷ []) ≡ None
host_is_no_command = refl

most_that_are_hosted : hosted_runs (codes "host" ∷ codes "64" ∷ codes "10000000" ∷ []) ≡ Some (record { count = 64; limit = 10000000 })
unfolding most_units
most_that_are_hosted = refl

too_many_to_host : hosted_runs (codes "host" ∷ codes "65" ∷ codes "5" ∷ []) ≡ None
too_many_to_host = refl

none_to_host : hosted_runs (codes "host" ∷ codes "0" ∷ codes "5" ∷ []) ≡ None
none_to_host = refl

host_without_limit : hosted_runs (codes "host" ∷ codes "2" ∷ []) ≡ None
host_without_limit = refl

batch_is_not_hosted : hosted_runs (codes "batch" ∷ codes "2" ∷ codes "5" ∷ []) ≡ None
batch_is_not_hosted = refl

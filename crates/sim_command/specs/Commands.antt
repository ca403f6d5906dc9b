-- The words that the program is called with.
--     command words      the command, if the words are one
--     live_limit words   how many units a live run may make, if the words ask for one
--     hosted_runs words  the runs to be hosted, if the words ask for them
use Rattle.std.specs.Prelude.{ℕ, Bool, true, false, if◌then◌else◌, List, [], ◌∷◌, codes, Option, Some, None, option_map}
use Rattle.sim_command.specs.declared.commands.Command.{Command}
use Rattle.sim_command.specs.declared.commands.HostedRuns.{HostedRuns}
use Rattle.sim_command.specs.declared.commands.Command.TheVariants.{Check, Run, Batch, Watch, Verify, Load, Native}
use Rattle.sim_language.specs.Lines.{Word, same}
use Rattle.sim_language.specs.Numbers.{decimal_within}
use Rattle.sim_models.specs.declared.texts.Model.{Model}
use Rattle.sim_models.specs.declared.texts.Model.TheVariants as model

-- how many units a run may make, at most
unfoldable pub most_units : ℕ
most_units = 10000000

-- how many runs a batch may have, at most
abbrev pub most_runs : ℕ
most_runs = 10000

-- how many runs may be hosted on one thread, at most
abbrev pub most_hosted : ℕ
most_hosted = 64

-- how many machines a generated shop may have, at most
abbrev pub most_machines : ℕ
most_machines = 2000

-- `COUNT LIMIT`
abbrev pub batch_of : Option ℕ → Option ℕ → Option Command
batch_of (Some count) (Some limit) = Some (Batch count limit)
batch_of count limit = None

-- the model of this name
abbrev pub model_named : Word → Option Model
model_named name =
    if same name (codes "bank") then Some model.Bank
    else if same name (codes "shop") then Some model.Shop
    else if same name (codes "wash") then Some model.Wash
    else None

-- `MODEL LIMIT`
abbrev pub native_of : Option Model → Option ℕ → Option Command
native_of (Some m) (Some limit) = Some (Native m limit)
native_of m limit = None

-- a command with one number
abbrev pub command_with_number : Word → Word → Option Command
command_with_number name number =
    if same name (codes "run") then option_map Run (decimal_within 1 most_units number)
    else if same name (codes "watch") then option_map Watch (decimal_within 1 most_units number)
    else if same name (codes "verify") then option_map Verify (decimal_within 1 most_units number)
    else if same name (codes "load") then option_map Load (decimal_within 1 most_machines number)
    else None

-- a command with two words
abbrev pub command_with_two : Word → Word → Word → Option Command
command_with_two name first second =
    if same name (codes "batch") then batch_of (decimal_within 1 most_runs first) (decimal_within 1 most_units second)
    else if same name (codes "native") then native_of (model_named first) (decimal_within 1 most_units second)
    else None

-- `check`, `run LIMIT`, `watch LIMIT`, `verify LIMIT`, `load SIZE`, `batch COUNT LIMIT`, or `native MODEL LIMIT`
abbrev pub command : List Word → Option Command
command (name ∷ []) = if same name (codes "check") then Some Check else None
command (name ∷ number ∷ []) = command_with_number name number
command (name ∷ first ∷ second ∷ []) = command_with_two name first second
command words = None

-- whether a text is read for it
abbrev pub is_on_text : Command → Bool
is_on_text Check = true
is_on_text (Run limit) = true
is_on_text (Batch count limit) = true
is_on_text (Watch limit) = true
is_on_text (Verify limit) = true
is_on_text (Load size) = false
is_on_text (Native m limit) = false

-- `live LIMIT`, which is no command: a call of its own carries it out
abbrev pub live_limit : List Word → Option ℕ
live_limit (name ∷ number ∷ []) = if same name (codes "live") then decimal_within 1 most_units number else None
live_limit words = None

-- `COUNT LIMIT`, of runs to be hosted
abbrev pub host_of : Option ℕ → Option ℕ → Option HostedRuns
host_of (Some count) (Some limit) = Some (record { count = count; limit = limit })
host_of count limit = None

-- `host COUNT LIMIT`, which a call of its own carries out too
abbrev pub hosted_runs : List Word → Option HostedRuns
hosted_runs (name ∷ first ∷ second ∷ []) =
    if same name (codes "host") then host_of (decimal_within 1 most_hosted first) (decimal_within 1 most_units second) else None
hosted_runs words = None

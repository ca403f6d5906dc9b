-- What answers the words of the program on a text: where they ask for a live run what answers that, else where they ask for hosted
-- runs what answers these, and else what answers the command that they are.
use Rattle.std.specs.Prelude.{◌≡◌, ℕ, List, [], None, IfSome, MatchOption}
use Rattle.sim_command.specs.Commands.{command, hosted_runs, live_limit}
use Rattle.sim_command.specs.declared.status.Status.{Status}
use Rattle.sim_desk.specs.Answers as desk
use Rattle.sim_host.specs.HostAnswers as host
use Rattle.sim_live.specs.LiveAnswers as live

-- these bytes answer the words on a text, and the status is that of it
pub record IsAnswer (words : List (List ℕ)) (text bytes : List ℕ) (status : Status) : Type 0 where
  pub live_run : IfSome (live_limit words) (λ limit. live.IsAnswer limit text bytes status)
  pub runs : live_limit words ≡ None → IfSome (hosted_runs words) (λ runs. host.IsAnswer runs text bytes status)
  pub command : live_limit words ≡ None → hosted_runs words ≡ None → IfSome (command words) (λ asked. desk.IsAnswer asked text bytes status)

-- of these bytes some may be written, however the call ends; for words that ask for nothing there are none
pub record MayWrite (words : List (List ℕ)) (text bytes : List ℕ) : Type 0 where
  pub live_run : IfSome (live_limit words) (λ limit. live.MayWrite limit text bytes)
  pub runs : live_limit words ≡ None → IfSome (hosted_runs words) (λ runs. host.MayWrite runs text bytes)
  pub command :
      live_limit words ≡ None → hosted_runs words ≡ None → MatchOption (command words) (bytes ≡ []) (λ asked. desk.MayWrite asked text bytes)

-- they ask for nothing
pub record AskForNothing (words : List (List ℕ)) : Type 0 where
  pub no_live_run : live_limit words ≡ None
  pub no_hosted_runs : hosted_runs words ≡ None
  pub no_command : command words ≡ None

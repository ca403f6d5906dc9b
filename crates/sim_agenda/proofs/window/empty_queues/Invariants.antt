use Rattle.std.proofs.Common.{◌≡◌, [], vec_len, All}
use Rattle.sim_agenda.proofs.window.empty_queues.Given as goal

-- so many queues there are, and they are empty
abbrev pub invariant-loop : goal.invariant-loop
invariant-loop l =
    record {
      len : vec_len l.queues ≡ l.counter;
      empty : All (λ q. q.items ≡ []) l.queues.items;
    }

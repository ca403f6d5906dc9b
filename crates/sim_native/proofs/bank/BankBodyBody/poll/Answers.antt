use Rattle.std.proofs.Common.{refl, sym, ap}
use Rattle.sim_native.specs.BankStages.{script_of}
use Rattle.sim_native.proofs.BankScripts.{turned}
use Rattle.sim_native.proofs.bank.BankBodyBody.poll.Goals as goal

pub returns-clause-polls : goal.returns-clause-polls
returns-clause-polls c =
    let x = c.self.inside in
    let may = rw (← c.self.view_is) at c.requires.can.told in
    let r = c.turn-op.result in
    record {
      between = c.args.self.now;
      before = refl;
      after =
          turned x.me c.args._now x.spent x.stage c.args.signal may c.args.code.now c.is_bank.ensures c.args.self.now (sym c.self.view_is) r c.turn-op.ensures _
          (ap (λ w. script_of x.me w r.1) c.keep.ensures);
    }

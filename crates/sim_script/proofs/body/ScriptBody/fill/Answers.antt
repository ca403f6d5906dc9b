use Rattle.std.proofs.Common.{◌≡◌, get_or}
use Rattle.sim_script_law.proofs.Scripts.Starts.{has_kind, few_arguments}
use Rattle.sim_script.proofs.Filling.{begun}
use Rattle.sim_script.proofs.body.ScriptBody.fill.Goals as goal

pub bounds-kinds-kind : goal.bounds-kinds-kind
bounds-kinds-kind c = rw c.kinds.ensures (has_kind c.args.code.now c.args.kind c.args.args.now c.requires.can.fits)

pub begin-requires : goal.begin-requires
begin-requires c = rw c.requires.is_for (few_arguments c.args.code.now c.args.kind c.args.args.now c.requires.can.fits)

pub returns : goal.returns
returns c =
    let lt = has_kind c.args.code.now c.args.kind c.args.args.now c.requires.can.fits in
    let is : c.index-kinds-kind.result ≡ get_or c.args.code.now.kinds c.args.kind c.index-kinds-kind.result = rw (← c.kinds.ensures) c.index-kinds-kind.is in
    rw (c.begin.ensures, c.requires.is_for) (begun c.args.code.now c.args.kind c.args.args.now c.index-kinds-kind.result lt is)

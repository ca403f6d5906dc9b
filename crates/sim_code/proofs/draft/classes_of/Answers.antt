use Rattle.std.proofs.Common.{◌∙◌, map, lit≤, arith}
use Rattle.std.proofs.lemmas.List.{length-map}
use Rattle.sim_types.specs.declared.setup.Class.TheVariants as class
use Rattle.sim_code.proofs.KeptClasses.{kept_none, kept_more, kept_all}
use Rattle.sim_code.proofs.draft.classes_of.Goals as goal

pub loop-place-init : goal.loop-place-init
loop-place-init c = c.new-classes.ensures ∙ kept_none class.Number 63 64 (map (λ v. v.value) c.args.variables.now) (lit≤ tt)

pub loop-place-preserved : goal.loop-place-preserved
loop-place-preserved c =
    kept_more class.Number 63 64 (map (λ v. v.value) c.args.variables.now) (lit≤ tt) c.loop-place.place c.at.result c.loop-place.classes c.set.new.self (omega (arith, c.min-place-end.ensures)) c.at.ensures c.loop-place.invariant c.set.ensures

pub returns : goal.returns
returns c =
    c.loop-place.invariant
    ∙ kept_all class.Number 63 64 (map (λ v. v.value) c.args.variables.now) (lit≤ tt) c.loop-place.place (omega (arith, c.min-place-end.ensures, c.len.ensures, length-map c.args.variables.now (λ v. v.value)))

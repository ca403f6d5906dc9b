use Rattle.std.proofs.Common.{◌∙◌, ap, ℕ, ◌-◌, pos, ◌∷◌, ◌++◌, length, replicate, refl}
use Rattle.sim_script.proofs.Beginnings.{begins_with}
use Rattle.sim_script.proofs.script.Script.begin.Goals as goal

pub returns : goal.returns
returns c =
    begins_with c.args.self.now _ c.args.kind c.args.declared.now c.args.args.now c.begin_variables.new.variables.items c.requires
    (rw (← c.self.view_is) (c.begin_variables.ensures ∙ ap (λ (n : ℕ). pos 0 ∷ c.args.args.now ++ replicate (n - 1 - length c.args.args.now) (pos 0)) c.self.invariant.1))
    (rw (← c.self.view_is, c.of.ensures, c.of-2.ensures, c.of-3.ensures, c.clear.ensures) refl)

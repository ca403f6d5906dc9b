-- A block inside the others.
use Rattle.std.specs.Prelude.{ℕ, false, List, ◌∷◌, Option, option_map}
use Rattle.sim_language.specs.declared.form.Form.{Form}
use Rattle.sim_language.specs.Lines.{Word}
use Rattle.sim_language.specs.Blocks.{Block}

-- in a process a block of this form stands innermost, where the place of its first statement is `inside`
abbrev pub with_block : Form → Word → ℕ → Option (List Block) → Option (List Block)
with_block form variable inside blocks = option_map (λ outer. record { form = form; variable = variable; split = false; inside = inside } ∷ outer) blocks

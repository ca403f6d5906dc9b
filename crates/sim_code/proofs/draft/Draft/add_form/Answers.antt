use Rattle.std.proofs.Common.{◌≡◌, true, arith}
use Rattle.sim_code.specs.LineGroups.{is_of_declarations, is_of_entries, is_of_resources}
use Rattle.sim_code.proofs.draft.Draft.add_form.Goals as goal

pub returns-in-Resource : goal.returns-in-Resource
returns-in-Resource c = let t : is_of_resources c.args.form ≡ true = grind arith in rw t at (c.add_resource.ensures c.args.heads.now c.args.place.now)

pub returns-in-Event : goal.returns-in-Event
returns-in-Event c = let t : is_of_declarations c.args.form ≡ true = grind arith in rw t at (c.add_declaration.ensures c.args.place.now)

pub returns-in-After : goal.returns-in-After
returns-in-After c = let t : is_of_entries c.args.form ≡ true = grind arith in rw t at (c.add_entry.ensures c.args.heads.now)

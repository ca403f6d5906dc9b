use Rattle.std.proofs.Common.{◌≡◌, ◌+◌, ◌<◌, true, length, drop, rules, arith, refl, w64, FitsSigned}
use Rattle.std.specs.List.{remove}
use Rattle.std.proofs.lemmas.Int.{to_z-of_z}
use Rattle.std.proofs.lemmas.List.{length-drop}
use Rattle.sim_stores.specs.Items.{is_in_range}
use Rattle.sim_stores.proofs.Given.{gives_within, find_nowhere, holds_further, all_fail}
use Rattle.sim_stores.proofs.row.Row.take_within.Goals as goal

pub returns-in_err-further-clause-given : goal.returns-in_err-further-clause-given
returns-in_err-further-clause-given c =
    let xs = c.self.inside.items.items in
    let from = c.args.tried in
    let within = is_in_range c.args.least c.args.greatest in
    let least : FitsSigned w64 c.args.least = search rules in
    let greatest : FitsSigned w64 c.args.greatest = search rules in
    let asked = rw (← c.self.view_is) at c.requires in
    let nowhere = rw (to_z-of_z w64 c.args.least least, to_z-of_z w64 c.args.greatest greatest) at c.in_err-further.ensures in
    let fails = all_fail xs from within (length (drop from xs)) asked.few asked.none nowhere in
    rw (c.from_residual.ensures, ← c.self.view_is)
    (find_nowhere within xs (λ k d less. fails k d (omega arith) (omega (arith, less, asked.few, length-drop from xs))), refl)

pub returns-clause-given : goal.returns-clause-given
returns-clause-given c =
    let xs = c.self.inside.items.items in
    let from = c.args.tried in
    let further = c.in_ok-further.further in
    let within = is_in_range c.args.least c.args.greatest in
    let least : FitsSigned w64 c.args.least = search rules in
    let greatest : FitsSigned w64 c.args.greatest = search rules in
    let asked = rw (← c.self.view_is) at c.requires in
    let here = rw (to_z-of_z w64 c.args.least least, to_z-of_z w64 c.args.greatest greatest) at c.in_ok-further.ensures in
    let inside : from + further < length xs = omega (arith, here.0, length-drop from xs) in
    let holds = holds_further xs from (λ x. within x ≡ true) further here.1 in
    let fails = all_fail xs from within further asked.few asked.none here.2 in
    let fits : FitsSigned w64 c.value.result = search rules in
    let removed : c.remove.new.self.items ≡ remove xs (from + further) = search rules in
    rw (to_z-of_z w64 c.value.result fits, removed, ← c.self.view_is)
    (gives_within xs c.args.least c.args.greatest (from + further) c.in_ok-item.item c.value.result c.in_ok-item.ensures.value c.value.ensures (inside, holds, fails))

use Rattle.std.proofs.Common.{◌≡◌, ◌∙◌, ap, arith, FitsSigned, w64, to_z, of_z, rules}
use Rattle.std.proofs.lemmas.Int.{to_z-of_z}
use Rattle.sim_language.specs.Statements.{literal_of, number_declared}
use Rattle.sim_language.specs.Reads.{natural_of}
use Rattle.sim_code.proofs.JournalNumbers.{arrival_added, five_items, poster_small, serial_small}
use Rattle.sim_code.proofs.draft.Draft.add_entry.Goals as goal

pub overflow_cast-natural : goal.overflow_cast-natural
overflow_cast-natural c = omega (arith, poster_small c.args.form c.args.slots.now c.requires c.in-After-len5.is-0 c.poster-item.result c.natural-in-After-len5.result c.poster-item.is c.natural-in-After-len5.ensures)

pub overflow_cast-natural-in-After-len5 : goal.overflow_cast-natural-in-After-len5
overflow_cast-natural-in-After-len5 c = omega (arith, serial_small c.args.form c.args.slots.now c.requires c.in-After-len5.is-0 c.serial-item.result c.natural-in-After-len5-2.result c.serial-item.is c.natural-in-After-len5-2.ensures)

pub returns-in_ok-push_arrival-in-After-len5 : goal.returns-in_ok-push_arrival-in-After-len5
returns-in_ok-push_arrival-in-After-len5 c heads =
    let slots = c.args.slots.now in
    let place = c.args.place.now in
    let k = c.after-item in
    let p = c.poster-item in
    let n = c.serial-item in
    let port = c.port-item in
    let v = c.value-item in
    let five = five_items slots k.result p.result n.result port.result v.result c.in-After-len5.len_at_least c.in-After-len5.len_below k.is p.is n.is port.is v.is in
    let a : c.natural.result ≡ natural_of k.result.word = c.natural.ensures in
    let b : c.natural-in-After-len5.result ≡ natural_of p.result.word = c.natural-in-After-len5.ensures in
    let d : c.natural-in-After-len5-2.result ≡ natural_of n.result.word = c.natural-in-After-len5-2.ensures in
    let e : c.number_declared.result ≡ number_declared place.above.declared port.result.word = c.number_declared.ensures ∙ ap (number_declared place.above.declared) c.word.ensures in
    let fits : FitsSigned w64 c.literal_of.result = search rules in
    let f : to_z w64 (of_z w64 c.literal_of.result) ≡ literal_of v.result.word = to_z-of_z w64 c.literal_of.result fits ∙ c.literal_of.ensures in
    c.in_ok-push_arrival-in-After-len5.ensures ∙ arrival_added heads place c.args.form slots c.args.self.now k.result p.result n.result port.result v.result _ c.in-After-len5.is-0 five (rw (a, b, d, e, f))

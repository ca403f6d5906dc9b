use Rattle.std.proofs.Common.{rules}
use Rattle.std.proofs.lemmas.List.Sorted.{answers_always}
use Rattle.sim_index.proofs.Searching.{hit, missed}
use Rattle.sim_index.proofs.entries.search.Goals as goal

pub returns-in-Ok : goal.returns-in-Ok
returns-in-Ok c =
    let e = c.in-Ok.ensures in
    let by_number = e.position (λ x. x.number) (answers_always _ _ _ (λ f a r g called. search rules)) in
    hit c.args.entries.now c.args.number c.in-Ok.at e.bound by_number

pub returns-in-Err : goal.returns-in-Err
returns-in-Err c =
    let e = c.in-Err.ensures in
    let by_number = e.position (λ x. x.number) (answers_always _ _ _ (λ f a r g called. search rules)) in
    missed c.args.entries.now c.args.number c.in-Err.at c.requires e.bound by_number

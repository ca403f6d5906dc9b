use Rattle.std.proofs.Common.{All, sym, subst}
use Rattle.std.specs.Prelude.{IfSome}
use Rattle.std.specs.Str.{IsUtf8}
use Rattle.std.proofs.lemmas.List.Elements.{All-push}
use Rattle.sim_program.proofs.words.words_of.Goals as goal

pub loop-place-preserved : goal.loop-place-preserved
loop-place-preserved g c =
    subst (All IsUtf8) (sym c.in_ok-push.ensures.items) (All-push IsUtf8 _ c.in-Some.word c.loop-place.invariant (subst (λ found. IfSome found IsUtf8) c.in-Some.is c.in_ok-word.ensures))

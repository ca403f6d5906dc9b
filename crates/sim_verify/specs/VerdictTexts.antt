-- The line that says whether a trace is that of a scenario.
use Rattle.std.specs.Prelude.{ℕ, List, [], ◌∷◌, codes, decimal}
use Rattle.sim_trace.specs.Texts.{written}
use Rattle.sim_verify.specs.declared.verdict.Verdict.{Verdict}
use Rattle.sim_verify.specs.declared.verdict.Verdict.TheVariants.{Yes, No}
use Rattle.sim_verify.specs.declared.verdict.Why.{Why}
use Rattle.sim_verify.specs.declared.verdict.Why.TheVariants as why

abbrev pub why_word : Why → List ℕ
why_word why.Short = codes "short"
why_word why.Extra = codes "extra"
why_word why.Shape = codes "shape"
why_word why.Step = codes "step"

abbrev pub verdict_text : Verdict → List ℕ
verdict_text Yes = written (codes "yes" ∷ [])
verdict_text (No line why) = written (codes "no" ∷ decimal line ∷ why_word why ∷ [])

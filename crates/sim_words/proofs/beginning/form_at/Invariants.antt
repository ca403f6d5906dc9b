use Rattle.std.proofs.Common.{◌≡◌, map, drop}
use Rattle.sim_language.specs.Forms.{form_at}
use Rattle.sim_words.proofs.beginning.form_at.Given as goal

-- the rows that are left give the same form as all
abbrev pub invariant-loop-first : goal.invariant-loop-first
invariant-loop-first l = form_at l.word (map (λ row. (row.0.now, row.1)) (drop l.first-index l.rows)) ≡ form_at l.word (map (λ row. (row.0.now, row.1)) l.rows)

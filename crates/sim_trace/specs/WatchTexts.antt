-- The texts that tell what was measured at the resources over a run.
--     row_text res row             the line of the resource at this place
--     watch_answer rows s          the lines of all resources, and a last one on the end of the run
use Rattle.std.specs.Prelude.{ℕ, ℤ, List, [], ◌∷◌, ◌++◌, codes, decimal}
use Rattle.std.specs.Fmt.{signed_decimal}
use Rattle.sim_types.specs.declared.line.End.{End}
use Rattle.sim_types.specs.declared.line.Summary.{Summary}
use Rattle.sim_types.specs.declared.line.WatchRow.{WatchRow}
use Rattle.sim_trace.specs.Texts.{written, end_word}
use Rattle.sim_trace.specs.SummaryTexts.{numbered}

-- of the requests or puts that waited, of the gets that waited and of what was held: the sum over time, and the greatest; of
-- what was held the least too
abbrev pub row_words : WatchRow → List (List ℕ)
row_words row =
    signed_decimal row.psum ∷ decimal row.pmost ∷ signed_decimal row.gsum ∷ decimal row.gmost
    ∷ signed_decimal row.hsum ∷ signed_decimal row.hleast ∷ signed_decimal row.hmost ∷ []

abbrev pub row_text : ℕ → WatchRow → List ℕ
row_text res row = written (codes "watch" ∷ decimal res ∷ row_words row)

-- how the run ended and when, and how many events were processed
abbrev pub watch_end_text : End → ℤ → ℕ → List ℕ
watch_end_text how time processed =
    written (codes "watch" ∷ codes "end" ∷ end_word how ∷ signed_decimal time ∷ decimal processed ∷ [])

-- the lines of the resources, numbered from this place on
abbrev pub rows_text : ℕ → List WatchRow → List ℕ
rows_text res rows = numbered row_text res rows

abbrev pub watch_answer : List WatchRow → Summary → List ℕ
watch_answer rows s = rows_text 0 rows ++ watch_end_text s.end s.time s.processed

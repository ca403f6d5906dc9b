-- What a checker has taken after a run.
--     all_taken        all that was written
--     prefix_taken     a prefix of it, where a write failed
--     taken_right, taken_wrong     what one write takes
--     says             so what is said is the verdict
--     yes_exactly      which is yes exactly where the text is all that was written
use Rattle.std.proofs.Common.{◌≡◌, ℕ, ◌+◌, ◌-◌, ◌^◌, ◌<◌, ◌⊎◌, inl, inr, true, false, List, [], ◌∷◌, ◌++◌, length, take, drop, get_or, refl, sym, ap, subst, ◌∙◌, append_assoc, append-nil, Option, Some, None, Result, Ok, Err, arith}
use Rattle.std.specs.Prelude.{◌↔◌, IfOk, is_some, option_to_list}
use Rattle.std.specs.List.{concat}
use Rattle.std.specs.Io.KnownBytes.{Appends}
use Rattle.std.proofs.Math.Seq.{take-add}
use Rattle.std.proofs.lemmas.Bool.{true≢false}
use Rattle.std.proofs.lemmas.List.{take_more, take_rest}
use Rattle.sim_types.specs.Scenarios.{ScenarioOf}
use Rattle.sim_types.specs.declared.setup.Arrival.{Arrival}
use Rattle.sim_outside.specs.Writes.{AppendsPrefix, RoseIf}
use Rattle.sim_engine.specs.RunOfScenario.{printed_run}
use Rattle.sim_verify.specs.declared.verdict.Verdict.{Verdict}
use Rattle.sim_verify.specs.declared.verdict.Verdict.TheVariants.{Yes}
use Rattle.sim_verify.specs.Checkers.{CheckerOf, onto_wrong, taken_then, told_by_checker}
use Rattle.sim_verify.specs.TraceLines.{fed_lines}
use Rattle.sim_verify.specs.Verdicts.{verdict, verdict_from}
use Rattle.sim_verify.proofs.FedLines.{concat_fed}
use Rattle.sim_verify.proofs.FirstDifference.{all_same, yes_same}

-- a checker that has taken nothing
abbrev pub fresh : List ℕ → CheckerOf
fresh text = record { given = text; at = 0; wrong = None; flushes = 0; held_back = false; faults = 0 }

no_more : (wrong : Option ℕ) → onto_wrong wrong [] ≡ option_to_list wrong
no_more None = refl
no_more (Some b) = refl

module _ (old new : CheckerOf) (text : List ℕ) (is : old ≡ fresh text) where
  pub all_taken : (printed : List ℕ) → Appends (told_by_checker old).taken (told_by_checker new).taken printed → taken_then new [] ≡ printed
  all_taken printed written =
      ap (λ w. take new.at new.given ++ w) (no_more new.wrong)
      ∙ subst (λ (c : CheckerOf). Appends (told_by_checker c).taken (told_by_checker new).taken printed) is written

  -- what comes after a byte that was wrong
  pub record Rest (printed : List ℕ) : Type 0 where
    pub rest : List ℕ
    pub taken : taken_then new rest ≡ printed

  after_wrong : (wrong : Option ℕ) → new.wrong ≡ wrong → (new.wrong ≡ None → new.faults ≡ 0) → RoseIf true 0 new.faults → (front rest : List ℕ)
      → take new.at new.given ++ option_to_list wrong ≡ front → take new.at new.given ++ onto_wrong wrong rest ≡ front ++ rest
  after_wrong None e no_fault rose front rest taken = absurd (never rose)
    where
      never : (0 < new.faults) ⊎ (new.faults ≡ 2 ^ 64 - 1) → ⊥
      never (inl more) = absurd (omega (arith, no_fault e))
      never (inr most) = absurd (omega (arith, no_fault e))
  after_wrong (Some b) e no_fault rose front rest taken =
      sym (append_assoc (take new.at new.given) (b ∷ []) rest) ∙ ap (λ l. l ++ rest) taken

  pub prefix_taken : (printed : List ℕ) → AppendsPrefix (told_by_checker old).taken (told_by_checker new).taken printed
      → RoseIf true old.faults new.faults → (new.wrong ≡ None → new.faults ≡ 0) → Rest printed
  prefix_taken printed h rose no_fault =
      let front = h.front.front in
      let taken = subst (λ (c : CheckerOf). Appends (told_by_checker c).taken (told_by_checker new).taken front) is h.front.appended in
      let risen = subst (λ (c : CheckerOf). RoseIf true c.faults new.faults) is rose in
      record { rest = h.rest; taken = after_wrong new.wrong refl no_fault risen front h.rest taken ∙ h.front.parts }

pub says : (s : ScenarioOf) (seed : ℕ) (journal : List Arrival) (limit : ℕ) (ports : List (List ℕ)) (taken text bytes : List ℕ) (said : Verdict)
    → ports ≡ s.port_names → taken ≡ printed_run s seed journal limit → text ≡ bytes
    → said ≡ verdict_from ports 1 (fed_lines taken) (fed_lines bytes) → said ≡ verdict s seed journal limit (fed_lines text)
says s seed journal limit ports taken text bytes said names printed same is = is ∙ rw (names, printed, same) refl

-- the bytes taken are those that are given
pub says_yes : (ports : List (List ℕ)) (c : CheckerOf) (text more : List ℕ) → c.wrong ≡ None → take c.at c.given ≡ text
    → Yes ≡ verdict_from ports 1 (fed_lines (taken_then c more)) (fed_lines text)
says_yes ports c text more none all =
    let taken : taken_then c more ≡ text = ap (λ w. take c.at c.given ++ onto_wrong w more) none ∙ (append-nil (take c.at c.given) ∙ all) in
    sym (ap (λ l. verdict_from ports 1 (fed_lines l) (fed_lines text)) taken ∙ all_same ports 1 (fed_lines text))

pub yes_exactly : (s : ScenarioOf) (seed : ℕ) (journal : List Arrival) (limit : ℕ) (text : List ℕ) (said : Verdict)
    → said ≡ verdict s seed journal limit (fed_lines text) → (said ≡ Yes) ↔ (text ≡ printed_run s seed journal limit)
yes_exactly s seed journal limit text said is =
    let printed = printed_run s seed journal limit in (
      λ h. sym (concat_fed text)
          ∙ (ap concat (sym (yes_same s.port_names 1 (fed_lines printed) (fed_lines text) (sym is ∙ h))) ∙ concat_fed printed),
      λ same. is ∙ rw same (all_same s.port_names 1 (fed_lines printed)),
    )

pub yes_if_ok : {E : Type 0} (s : ScenarioOf) (seed : ℕ) (journal : List Arrival) (limit : ℕ) (text : List ℕ) (answer : Result Verdict E)
    → IfOk answer (λ said. said ≡ verdict s seed journal limit (fed_lines text))
    → IfOk answer (λ said. (said ≡ Yes) ↔ (text ≡ printed_run s seed journal limit))
yes_if_ok s seed journal limit text (Ok said) is = yes_exactly s seed journal limit text said is
yes_if_ok s seed journal limit text (Err error) is = tt

-- ---- one write

pub none_is : (o : Option ℕ) → is_some o ≡ false → o ≡ None
none_is None h = refl
none_is (Some b) h = absurd (true≢false h)

module _ (given piece : List ℕ) (at right : ℕ) (same : take right piece ≡ take right (take (length given - at) (drop at given))) where
  taken_so_far : take (at + right) given ≡ take at given ++ take right piece
  taken_so_far = take-add at right given ∙ ap (λ l. take at given ++ l) (sym (same ∙ ap (take right) (take_rest given at)))

  pub taken_right : take (at + right) given ++ [] ≡ (take at given ++ []) ++ take right piece
  taken_right =
      append-nil (take (at + right) given)
      ∙ (taken_so_far ∙ ap (λ l. l ++ take right piece) (sym (append-nil (take at given))))

  pub taken_wrong : right < length piece
      → take (at + right) given ++ get_or piece right 0 ∷ [] ≡ (take at given ++ []) ++ take (right + 1) piece
  taken_wrong more =
      let byte = get_or piece right 0 ∷ [] in
      ap (λ l. l ++ byte) taken_so_far
      ∙ (append_assoc (take at given) (take right piece) byte
      ∙ (ap (λ l. take at given ++ l) (sym (take_more piece right 0 more)) ∙ ap (λ l. l ++ take (right + 1) piece) (sym (append-nil (take at given)))))

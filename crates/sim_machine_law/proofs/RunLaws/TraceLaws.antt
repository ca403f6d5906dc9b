-- The lines of a run begin those with a greater limit.
use Rattle.std.proofs.Common.{◌≡◌, ℕ, zero, suc, ◌+◌, add-zero, List, [], ◌∷◌, ◌++◌, Some, refl, sym, ap, subst, ◌∙◌, append-nil, append_assoc, arith}
use Rattle.std.proofs.Math.Nat.{add-suc}
use Rattle.sim_types.specs.declared.line.End.{End}
use Rattle.sim_types.specs.declared.line.Line.{Line}
use Rattle.sim_types.specs.declared.line.Line.TheVariants as line
use Rattle.sim_types.specs.declared.setup.Arrival.{Arrival}
use Rattle.sim_machine.specs.State.{Plan}
use Rattle.sim_machine.specs.Effect.{calendar}
use Rattle.sim_machine.specs.Steps.{TurnFunction}
use Rattle.sim_machine.specs.Units.{Course, unit_of}
use Rattle.sim_machine.specs.Runs.{after_units, opening_course, run, end_of, end_word, trace_of}
use Rattle.sim_machine_law.proofs.RunLaws.LineLaws.{unit_adds}
use Rattle.sim_machine_law.specs.Courses.{AddsAtMostOne}
use Rattle.sim_machine_law.proofs.RunLaws.UnitLaws.{ended_stays_on}

pub next_lines : {B : Type 0} (g : Plan B) (turn : TurnFunction B) (journal : List Arrival) (n : ℕ)
    → AddsAtMostOne (run g turn journal n).state.lines (run g turn journal (n + 1)).state.lines
next_lines g turn journal n =
    let P : ℕ → Type 0 = λ k. AddsAtMostOne (run g turn journal n).state.lines (run g turn journal k).state.lines in
    let more : suc n ≡ n + 1 = omega arith in
    subst P more (unit_adds g turn (run g turn journal n))

-- what was written stays, and lines come behind
abbrev Adds : List Line → List Line → Type 0
Adds before after = (added : List Line) × (after ≡ before ++ added)

adds_on : (a b c : List Line) → Adds a b → AddsAtMostOne b c → Adds a c
adds_on a b c x y = (x.0 ++ y.0, y.2 ∙ ap (λ l. l ++ y.0) x.1 ∙ append_assoc a x.0 y.0)

later_lines : {B : Type 0} (g : Plan B) (turn : TurnFunction B) (m : Course B) (n k : ℕ)
    → Adds (after_units g turn n m).state.lines (after_units g turn (n + k) m).state.lines
later_lines g turn m n zero = rw add-zero ([], sym (append-nil (after_units g turn n m).state.lines))
later_lines g turn m n (suc k) =
    rw add-suc (adds_on (after_units g turn n m).state.lines (after_units g turn (n + k) m).state.lines (unit_of g turn (after_units g turn (n + k) m)).state.lines (later_lines g turn m n k) (unit_adds g turn (after_units g turn (n + k) m)))

-- the last line of a trace
abbrev last_line : {B : Type 0} → Plan B → Course B → Line
last_line g m = line.Finish (calendar m.state).time m.state.processed (end_word g m)

pub trace_is : {B : Type 0} (g : Plan B) (m : Course B) → (last : Line) × (trace_of g m ≡ m.state.lines ++ last ∷ [])
trace_is g m = (last_line g m, refl)

pub trace_begins : {B : Type 0} (g : Plan B) (turn : TurnFunction B) (journal : List Arrival) (n k : ℕ)
    → (written : List Line) × (last : Line) × (later : List Line)
    × (trace_of g (run g turn journal n) ≡ written ++ last ∷ [])
    × (trace_of g (run g turn journal (n + k)) ≡ written ++ later)
trace_begins g turn journal n k =
    let m : Course _ = run g turn journal n in
    let t : Course _ = run g turn journal (n + k) in
    let more : Adds m.state.lines t.state.lines = later_lines g turn (opening_course g journal) n k in
    let end : List Line = last_line g t ∷ [] in
    (m.state.lines, last_line g m, more.0 ++ end, refl, ap (λ l. l ++ end) more.1 ∙ append_assoc m.state.lines more.0 end)

pub trace_ended : {B : Type 0} (g : Plan B) (turn : TurnFunction B) (journal : List Arrival) (n k : ℕ) (why : End)
    → end_of g (run g turn journal n) ≡ Some why
    → trace_of g (run g turn journal (n + k)) ≡ trace_of g (run g turn journal n)
trace_ended g turn journal n k why ended = ap (trace_of g) (ended_stays_on g turn (opening_course g journal) n why ended k)

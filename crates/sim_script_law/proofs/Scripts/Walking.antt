-- What holds at a place where a script stands: one statement on, and past the blocks that are open there.
use Rattle.std.proofs.Common.{◌≡◌, refl, sym, ap, subst, ◌∙◌, ℕ, zero, suc, ◌+◌, ◌-◌, ◌<◌, ◌≤◌, true, false, List, [], ◌∷◌, ◌++◌, length, drop, drop-cons, arith, ◌⊎◌, inl, inr}
use Rattle.std.specs.Prelude.{◌&&◌, ◌==◌, nat_le}
use Rattle.std.specs.List.{list_all}
use Rattle.std.proofs.lemmas.Bool.{false≢true, and_parts, eqb-true, leb-true}
use Rattle.sim_types.specs.Scenarios.{ScenarioOf}
use Rattle.sim_types.specs.declared.script.Kind.{Kind}
use Rattle.sim_types.specs.declared.script.Stmt.{Stmt}
use Rattle.sim_types.specs.declared.script.Stmt.TheVariants as stmt
use Rattle.sim_language.specs.FittingBlocks.{Open, OpenWith, OpenLoop, OpenRepeat, OpenIf, OpenElse, OpenTry, OpenCatch, open_then, stands_within, is_end_process, stand_well}
use Rattle.sim_language.specs.FittingStatements.{statement_fits, up_to_end}
use Rattle.sim_script_model.specs.Scripts.{stmt_at}
use Rattle.sim_script_law.specs.Walks.{Walks}

-- ---- one statement

-- the statement at place n stands well and fits; unless it ends the process, so does what is behind it
pub record Steps (x : ScenarioOf) (kind : Kind) (n : ℕ) (opens : List Open) (s : Stmt) : Type 0 where
  pub within : n < length x.code
  pub stands : stands_within n opens s ≡ true
  pub fits : statement_fits x kind s ≡ true
  pub on : is_end_process s ≡ false → Walks x kind (n + 1) (open_then n opens s)
  pub few : is_end_process s ≡ false → length (open_then n opens s) ≤ 32

-- statements that stand well are not none
some_stand : (m n : ℕ) (opens : List Open) (code : List Stmt) → stand_well m opens (drop n code) ≡ true → n < length code
some_stand m zero opens [] h = absurd (false≢true h)
some_stand m zero opens (s ∷ code) h = omega arith
some_stand m (suc n) opens [] h = absurd (false≢true h)
some_stand m (suc n) opens (s ∷ code) h = omega (arith, some_stand m n opens code h)

-- what stands well from a statement on
pub record StandsOn (n : ℕ) (opens : List Open) (s : Stmt) (code : List Stmt) : Type 0 where
  pub here : stands_within n opens s ≡ true
  pub few : is_end_process s ≡ false → length (open_then n opens s) ≤ 32
  pub behind : is_end_process s ≡ false → stand_well (suc n) (open_then n opens s) code ≡ true

pub stands_on : (n : ℕ) (opens : List Open) (s : Stmt) (code : List Stmt) → stand_well n opens (s ∷ code) ≡ true → StandsOn n opens s code
stands_on n opens s [] h =
    let parts = and_parts (stands_within n opens s) (is_end_process s) h in
    record { here = parts.0; few = λ more. absurd (false≢true (sym more ∙ parts.1)); behind = λ more. absurd (false≢true (sym more ∙ parts.1)) }
stands_on n opens s (t ∷ code) h =
    let parts = and_parts (stands_within n opens s && nat_le (length (open_then n opens s)) 32) (stand_well (suc n) (open_then n opens s) (t ∷ code)) h in
    let both = and_parts (stands_within n opens s) (nat_le (length (open_then n opens s)) 32) parts.0 in
    record { here = both.0; few = λ more. leb-true (length (open_then n opens s)) 32 both.1; behind = λ more. parts.1 }

-- the statement fits, and so do those behind it, unless it ends the process
abbrev FitOn : ScenarioOf → Kind → Stmt → List Stmt → Type 0
FitOn x kind s code = (statement_fits x kind s ≡ true) × (is_end_process s ≡ false → list_all (statement_fits x kind) (up_to_end code) ≡ true)

fit_on : (x : ScenarioOf) (kind : Kind) (s : Stmt) (code : List Stmt) → list_all (statement_fits x kind) (up_to_end (s ∷ code)) ≡ true → FitOn x kind s code
fit_on x kind stmt.EndProcess code h = (refl, λ more. absurd (false≢true (sym more)))
fit_on x kind s code h = let parts = and_parts (statement_fits x kind s) (list_all (statement_fits x kind) (up_to_end code)) h in (parts.0, λ more. parts.1)

pub steps : (x : ScenarioOf) (kind : Kind) (n : ℕ) (opens : List Open) → Walks x kind n opens → Steps x kind n opens (stmt_at x.code n)
steps x kind n opens w =
    let within = some_stand n n opens x.code w.stands in
    let split = drop-cons x.code n stmt.EndProcess within in
    let stand = stands_on n opens (stmt_at x.code n) (drop (suc n) x.code) (subst (λ code. stand_well n opens code ≡ true) split w.stands) in
    let fit = fit_on x kind (stmt_at x.code n) (drop (suc n) x.code) (subst (λ code. list_all (statement_fits x kind) (up_to_end code) ≡ true) split w.fits) in
    let next : suc n ≡ n + 1 = omega arith in
    record {
      within = within;
      stands = stand.here;
      fits = fit.0;
      on = λ more. subst (λ m. Walks x kind m (open_then n opens (stmt_at x.code n))) next (record { stands = stand.behind more; fits = fit.1 more });
      few = stand.few;
    }

-- ---- out of a block

-- a `try` goes on at its `catch`, which it meets while it is open
pub record TryExit (x : ScenarioOf) (kind : Kind) (catch : ℕ) (opens : List Open) : Type 0 where
  pub walks : Walks x kind catch (OpenTry catch ∷ opens)
  pub to : ℕ
  pub value : ℕ
  pub past : ℕ
  pub is : stmt_at x.code catch ≡ stmt.Catch to value past

-- where a block goes on once it is left
abbrev Exit : ScenarioOf → Kind → Open → List Open → Type 0
Exit x kind (OpenWith v) opens = Unit {0}
Exit x kind (OpenLoop inside past) opens = Walks x kind past opens
Exit x kind (OpenRepeat inside past) opens = Walks x kind past opens
Exit x kind (OpenIf other) opens = Walks x kind other opens ⊎ ((past : ℕ) × Walks x kind other (OpenElse past ∷ opens))
Exit x kind (OpenElse past) opens = Walks x kind past opens
Exit x kind (OpenTry catch) opens = TryExit x kind catch opens
Exit x kind (OpenCatch past) opens = Walks x kind past opens

-- no process ends inside a block
goes_on : (n : ℕ) (o : Open) (opens : List Open) (s : Stmt) → stands_within n (o ∷ opens) s ≡ true → is_end_process s ≡ false
goes_on n (OpenIf other) opens stmt.EndProcess h = absurd (false≢true h)
goes_on n o opens stmt.EndProcess h = absurd (false≢true h)
goes_on n o opens s h = refl

-- the same within inner blocks
not_at_end : (n : ℕ) (inner : List Open) (o : Open) (opens : List Open) (s : Stmt) → stands_within n (inner ++ o ∷ opens) s ≡ true → is_end_process s ≡ false
not_at_end n [] o opens s h = goes_on n o opens s h
not_at_end n (i ∷ inner) o opens s h = goes_on n i (inner ++ o ∷ opens) s h

-- a statement inside an inner block leaves the outer ones as they are
outer_stay : (n : ℕ) (i : Open) (inner : List Open) (o : Open) (opens : List Open) (s : Stmt)
    → open_then n (i ∷ inner ++ o ∷ opens) s ≡ open_then n (i ∷ inner) s ++ o ∷ opens
outer_stay n i inner o opens (stmt.Else past) = refl
outer_stay n i inner o opens s = refl

module _ (x : ScenarioOf) (kind : Kind) where
  -- the place behind the statement at place n
  moved : (at n : ℕ) (opens : List Open) → (at == suc n) ≡ true → Walks x kind (suc n) opens → Walks x kind at opens
  moved at n opens same w = subst (λ m. Walks x kind m opens) (sym (eqb-true at (suc n) same)) w

  -- a statement in the block itself: it ends the block, or the block is still open behind it
  of_block : (n : ℕ) (o : Open) (opens : List Open) (s : Stmt) → stmt_at x.code n ≡ s → stands_within n (o ∷ opens) s ≡ true
      → Walks x kind n (o ∷ opens) → Walks x kind (suc n) (open_then n (o ∷ opens) s)
      → ((inner : List Open) → Walks x kind (suc n) (inner ++ o ∷ opens) → Exit x kind o opens) → Exit x kind o opens
  of_block n o opens (stmt.With to res priority preempt) is stands here on later = later (OpenWith to ∷ []) on
  of_block n o opens (stmt.Loop past) is stands here on later = later (OpenLoop (suc n) past ∷ []) on
  of_block n o opens (stmt.Repeat times past) is stands here on later = later (OpenRepeat (suc n) past ∷ []) on
  of_block n o opens (stmt.If test other) is stands here on later = later (OpenIf other ∷ []) on
  of_block n o opens (stmt.Try catch) is stands here on later = later (OpenTry catch ∷ []) on
  of_block n (OpenIf other) opens (stmt.Else past) is stands here on later = inr (past, moved other n (OpenElse past ∷ opens) stands on)
  of_block n o opens (stmt.Else past) is stands here on later = absurd (false≢true stands)
  of_block n (OpenTry catch) opens (stmt.Catch to value past) is stands here on later =
      let same = eqb-true catch n stands in
      record { walks = subst (λ m. Walks x kind m (OpenTry catch ∷ opens)) (sym same) here; to = to; value = value; past = past; is = ap (stmt_at x.code) same ∙ is }
  of_block n o opens (stmt.Catch to value past) is stands here on later = absurd (false≢true stands)
  of_block n (OpenLoop inside past) opens (stmt.EndLoop first) is stands here on later = moved past n opens (and_parts (first == inside) (past == suc n) stands).1 on
  of_block n o opens (stmt.EndLoop first) is stands here on later = absurd (false≢true stands)
  of_block n (OpenRepeat inside past) opens (stmt.EndRepeat first) is stands here on later = moved past n opens (and_parts (first == inside) (past == suc n) stands).1 on
  of_block n o opens (stmt.EndRepeat first) is stands here on later = absurd (false≢true stands)
  of_block n (OpenWith v) opens stmt.EndWith is stands here on later = tt
  of_block n o opens stmt.EndWith is stands here on later = absurd (false≢true stands)
  of_block n (OpenIf other) opens stmt.EndPlain is stands here on later = inl (moved other n opens stands on)
  of_block n (OpenElse past) opens stmt.EndPlain is stands here on later = moved past n opens stands on
  of_block n (OpenCatch past) opens stmt.EndPlain is stands here on later = moved past n opens stands on
  of_block n o opens stmt.EndPlain is stands here on later = absurd (false≢true stands)
  of_block n o opens s is stands here on later = later [] on

  -- a statement in the block or in inner ones
  in_block : (n : ℕ) (inner : List Open) (o : Open) (opens : List Open) → Walks x kind n (inner ++ o ∷ opens)
      → Walks x kind (suc n) (open_then n (inner ++ o ∷ opens) (stmt_at x.code n))
      → stands_within n (inner ++ o ∷ opens) (stmt_at x.code n) ≡ true
      → ((inner : List Open) → Walks x kind (suc n) (inner ++ o ∷ opens) → Exit x kind o opens) → Exit x kind o opens
  in_block n [] o opens here on stands later = of_block n o opens (stmt_at x.code n) refl stands here on later
  in_block n (i ∷ inner) o opens here on stands later = later (open_then n (i ∷ inner) (stmt_at x.code n)) (subst (λ os. Walks x kind (suc n) os) (outer_stay n i inner o opens (stmt_at x.code n)) on)

  -- by the number of statements that are left
  exits : (o : Open) (opens : List Open) (left n : ℕ) → n + left ≡ length x.code → (inner : List Open)
      → Walks x kind n (inner ++ o ∷ opens) → Exit x kind o opens
  exits o opens zero n e inner w = absurd (omega (arith, e, (steps x kind n (inner ++ o ∷ opens) w).within))
  exits o opens (suc left) n e inner w =
      let s = steps x kind n (inner ++ o ∷ opens) w in
      let next : n + 1 ≡ suc n = omega arith in
      let fewer : suc n + left ≡ length x.code = omega (arith, e) in
      in_block n inner o opens w (subst (λ m. Walks x kind m (open_then n (inner ++ o ∷ opens) (stmt_at x.code n))) next (s.on (not_at_end n inner o opens (stmt_at x.code n) s.stands))) s.stands (λ within at. exits o opens left (suc n) fewer within at)

  -- from any place inside a block, within no inner one
  exit : (n : ℕ) (o : Open) (opens : List Open) → Walks x kind n (o ∷ opens) → Exit x kind o opens
  exit n o opens w =
      let left : n + (length x.code - n) ≡ length x.code = omega (arith, (steps x kind n (o ∷ opens) w).within) in
      exits o opens (length x.code - n) n left [] w

pub loop_exit : (x : ScenarioOf) (kind : Kind) (n inside past : ℕ) (opens : List Open) → Walks x kind n (OpenLoop inside past ∷ opens) → Walks x kind past opens
loop_exit x kind n inside past opens w = exit x kind n (OpenLoop inside past) opens w

pub repeat_exit : (x : ScenarioOf) (kind : Kind) (n inside past : ℕ) (opens : List Open)
    → Walks x kind n (OpenRepeat inside past ∷ opens) → Walks x kind past opens
repeat_exit x kind n inside past opens w = exit x kind n (OpenRepeat inside past) opens w

pub else_exit : (x : ScenarioOf) (kind : Kind) (n past : ℕ) (opens : List Open) → Walks x kind n (OpenElse past ∷ opens) → Walks x kind past opens
else_exit x kind n past opens w = exit x kind n (OpenElse past) opens w

pub catch_exit : (x : ScenarioOf) (kind : Kind) (n past : ℕ) (opens : List Open) → Walks x kind n (OpenCatch past ∷ opens) → Walks x kind past opens
catch_exit x kind n past opens w = exit x kind n (OpenCatch past) opens w

pub try_exit : (x : ScenarioOf) (kind : Kind) (n catch : ℕ) (opens : List Open) → Walks x kind n (OpenTry catch ∷ opens) → TryExit x kind catch opens
try_exit x kind n catch opens w = exit x kind n (OpenTry catch) opens w

pub if_exit : (x : ScenarioOf) (kind : Kind) (n other : ℕ) (opens : List Open) → Walks x kind n (OpenIf other ∷ opens)
    → Walks x kind other opens ⊎ ((past : ℕ) × Walks x kind other (OpenElse past ∷ opens))
if_exit x kind n other opens w = exit x kind n (OpenIf other) opens w

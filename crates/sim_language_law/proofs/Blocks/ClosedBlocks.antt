-- Statements whose blocks are closed go on where they should, once they are linked.
--     Leaves n frames code     the statements up to place n stand well, and leave these blocks open
--     leaves_fits              where they leave none open, and end with the end of a process, they fit
use Rattle.std.proofs.Common.{◌≡◌, refl, ap, ◌∙◌, ℕ, suc, Bool, true, false, not, ◌&&◌, ◌==◌, nat_le, arith, List, [], ◌∷◌, ◌++◌, length}
use Rattle.std.specs.List.{list_any}
use Rattle.std.proofs.lemmas.List.{append_assoc, append-nil}
use Rattle.std.proofs.lemmas.Bool.{and_parts, and_from, false≢true, eq-eqb}
use Rattle.sim_types.specs.declared.script.Num.{Num}
use Rattle.sim_types.specs.declared.script.Stmt.{Stmt}
use Rattle.sim_types.specs.declared.script.Stmt.TheVariants as stmt
use Rattle.sim_language.specs.Links.{Closing, without_first, closings_then, closings, past_of, split_of, link, linked}
use Rattle.sim_language.specs.FittingBlocks.{Open, OpenWith, OpenLoop, OpenRepeat, OpenIf, OpenElse, OpenTry, OpenCatch, open_then, is_open_loop, is_open_with, stands_within, is_end_process, stand_well, code_fits}

-- ---- blocks that are open, without the places where they go on

pub data Frame : Type 0 where
  -- the request variable
  InWith : ℕ → Frame
  -- the place of the first statement inside
  InLoop InRepeat : ℕ → Frame
  InIf InElse InTry InCatch : Frame

abbrev pub without_inner : List Frame → List Frame
without_inner [] = []
without_inner (frame ∷ frames) = frames

abbrev pub with_inner : Frame → List Frame → List Frame
with_inner inner [] = []
with_inner inner (frame ∷ frames) = inner ∷ frames

-- the blocks that are open behind the statement at place n, the innermost first
abbrev pub frames_then : ℕ → Stmt → List Frame → List Frame
frames_then n (stmt.With to res priority preempt) frames = InWith to ∷ frames
frames_then n (stmt.Loop past) frames = InLoop (suc n) ∷ frames
frames_then n (stmt.Repeat times past) frames = InRepeat (suc n) ∷ frames
frames_then n (stmt.If test other) frames = InIf ∷ frames
frames_then n (stmt.Else past) frames = with_inner InElse frames
frames_then n (stmt.Try catch) frames = InTry ∷ frames
frames_then n (stmt.Catch kind value past) frames = with_inner InCatch frames
frames_then n (stmt.EndLoop first) frames = without_inner frames
frames_then n (stmt.EndRepeat first) frames = without_inner frames
frames_then n stmt.EndWith frames = without_inner frames
frames_then n stmt.EndPlain frames = without_inner frames
frames_then n s frames = frames

abbrev pub is_loop_frame : Frame → Bool
is_loop_frame (InLoop inside) = true
is_loop_frame (InRepeat inside) = true
is_loop_frame frame = false

abbrev pub is_with_frame : ℕ → Frame → Bool
is_with_frame v (InWith w) = v == w
is_with_frame v frame = false

-- the statement may stand within these blocks
abbrev pub may_stand : Stmt → List Frame → Bool
may_stand (stmt.Else past) (InIf ∷ frames) = true
may_stand (stmt.Else past) frames = false
may_stand (stmt.Catch kind value past) (InTry ∷ frames) = true
may_stand (stmt.Catch kind value past) frames = false
may_stand (stmt.EndLoop first) (InLoop inside ∷ frames) = first == inside
may_stand (stmt.EndLoop first) frames = false
may_stand (stmt.EndRepeat first) (InRepeat inside ∷ frames) = first == inside
may_stand (stmt.EndRepeat first) frames = false
may_stand stmt.EndWith (InWith v ∷ frames) = true
may_stand stmt.EndWith frames = false
may_stand stmt.EndPlain (InIf ∷ frames) = true
may_stand stmt.EndPlain (InElse ∷ frames) = true
may_stand stmt.EndPlain (InCatch ∷ frames) = true
may_stand stmt.EndPlain frames = false
may_stand stmt.EndProcess [] = true
may_stand stmt.EndProcess frames = false
may_stand stmt.Break frames = list_any is_loop_frame frames
may_stand (stmt.With to res priority preempt) frames = not (list_any (is_with_frame to) frames)
may_stand (stmt.Release v) frames = list_any (is_with_frame v) frames
may_stand s frames = true

-- ---- the same blocks with the places where they go on, by those closed below

abbrev pub open_of : Frame → List Closing → Open
open_of (InWith v) cs = OpenWith v
open_of (InLoop inside) cs = OpenLoop inside (past_of cs)
open_of (InRepeat inside) cs = OpenRepeat inside (past_of cs)
open_of InIf cs = OpenIf (split_of cs)
open_of InElse cs = OpenElse (past_of cs)
open_of InTry cs = OpenTry (split_of cs)
open_of InCatch cs = OpenCatch (past_of cs)

abbrev pub opened : List Frame → List Closing → List Open
opened [] cs = []
opened (frame ∷ frames) cs = open_of frame cs ∷ opened frames (without_first cs)

pub opened-length : (frames : List Frame) (cs : List Closing) → length (opened frames cs) ≡ length frames
opened-length [] cs = refl
opened-length (frame ∷ frames) cs = ap suc (opened-length frames (without_first cs))

loop_alike : (frame : Frame) (cs : List Closing) → is_open_loop (open_of frame cs) ≡ is_loop_frame frame
loop_alike (InLoop inside) cs = refl
loop_alike frame cs = refl

with_alike : (v : ℕ) (frame : Frame) (cs : List Closing) → is_open_with v (open_of frame cs) ≡ is_with_frame v frame
with_alike v (InWith w) cs = refl
with_alike v frame cs = refl

any_alike : (p : Open → Bool) (q : Frame → Bool) → ((frame : Frame) (cs : List Closing) → p (open_of frame cs) ≡ q frame)
    → (frames : List Frame) (cs : List Closing) → list_any p (opened frames cs) ≡ list_any q frames
any_alike p q alike [] cs = refl
any_alike p q alike (frame ∷ frames) cs = rw (alike frame cs, any_alike p q alike frames (without_first cs)) refl

-- ---- one statement

-- a statement that may stand within any blocks
abbrev is_free : Stmt → Bool
is_free (stmt.Release v) = false
is_free (stmt.With to res priority preempt) = false
is_free (stmt.Else past) = false
is_free (stmt.Catch kind value past) = false
is_free (stmt.EndLoop first) = false
is_free (stmt.EndRepeat first) = false
is_free stmt.EndWith = false
is_free stmt.EndPlain = false
is_free stmt.EndProcess = false
is_free stmt.Break = false
is_free s = true

free_within : (n : ℕ) (opens : List Open) (s : Stmt) → is_free s ≡ true → stands_within n opens s ≡ true
free_within n opens (stmt.Release v) free = absurd (false≢true free)
free_within n opens (stmt.With to res priority preempt) free = absurd (false≢true free)
free_within n opens (stmt.Else past) free = absurd (false≢true free)
free_within n opens (stmt.Catch kind value past) free = absurd (false≢true free)
free_within n opens (stmt.EndLoop first) free = absurd (false≢true free)
free_within n opens (stmt.EndRepeat first) free = absurd (false≢true free)
free_within n opens stmt.EndWith free = absurd (false≢true free)
free_within n opens stmt.EndPlain free = absurd (false≢true free)
free_within n opens stmt.EndProcess free = absurd (false≢true free)
free_within n opens stmt.Break free = absurd (false≢true free)
free_within n [] s free = refl
free_within n (OpenWith v ∷ opens) s free = refl
free_within n (OpenLoop inside past ∷ opens) s free = refl
free_within n (OpenRepeat inside past ∷ opens) s free = refl
free_within n (OpenIf other ∷ opens) s free = refl
free_within n (OpenElse past ∷ opens) s free = refl
free_within n (OpenTry catch ∷ opens) s free = refl
free_within n (OpenCatch past ∷ opens) s free = refl

pub break_within : (n : ℕ) (opens : List Open) → stands_within n opens stmt.Break ≡ list_any is_open_loop opens
break_within n (OpenIf other ∷ opens) = refl
break_within n opens = refl

pub release_within : (n v : ℕ) (opens : List Open) → stands_within n opens (stmt.Release v) ≡ list_any (is_open_with v) opens
release_within n v (OpenIf other ∷ opens) = refl
release_within n v opens = refl

pub with_within : (n to res : ℕ) (priority : Num) (preempt : Bool) (opens : List Open)
    → stands_within n opens (stmt.With to res priority preempt) ≡ not (list_any (is_open_with to) opens)
with_within n to res priority preempt (OpenIf other ∷ opens) = refl
with_within n to res priority preempt opens = refl

-- the statement at place n stands well, and behind it the blocks are open that it leaves open
record Goes (n : ℕ) (frames : List Frame) (s : Stmt) (cs : List Closing) : Type 0 where
  stands : stands_within n (opened frames (closings_then n s cs)) (link s cs) ≡ true
  opens : open_then n (opened frames (closings_then n s cs)) (link s cs) ≡ opened (frames_then n s frames) cs
  closes : length (closings_then n s cs) ≡ length frames

one_less : (cs : List Closing) (m : ℕ) → length cs ≡ suc m → length (without_first cs) ≡ m
one_less [] m h = absurd (omega (arith, h))
one_less (c ∷ cs) m h = omega arith

same_place : (n : ℕ) → (n == n) ≡ true
same_place n = eq-eqb n n refl

-- a block ends at place n
closed_here : (first inside n : ℕ) → (first == inside) ≡ true → ((first == inside) && (suc n == suc n)) ≡ true
closed_here first inside n h = and_from (first == inside) (suc n == suc n) h (same_place (suc n))

goes : (n : ℕ) (frames : List Frame) (s : Stmt) (cs : List Closing) → may_stand s frames ≡ true
    → length cs ≡ length (frames_then n s frames) → Goes n frames s cs
goes n frames (stmt.With to res priority preempt) cs may long = record { stands = with_within n to res priority preempt (opened frames (without_first cs)) ∙ ap not (any_alike (is_open_with to) (is_with_frame to) (with_alike to) frames (without_first cs)) ∙ may; opens = refl; closes = one_less cs (length frames) long }
goes n frames (stmt.Loop past) cs may long = record { stands = free_within n _ (stmt.Loop (past_of cs)) refl; opens = refl; closes = one_less cs (length frames) long }
goes n frames (stmt.Repeat times past) cs may long = record { stands = free_within n _ (stmt.Repeat times (past_of cs)) refl; opens = refl; closes = one_less cs (length frames) long }
goes n frames (stmt.If test other) cs may long = record { stands = free_within n _ (stmt.If test (split_of cs)) refl; opens = refl; closes = one_less cs (length frames) long }
goes n frames (stmt.Try catch) cs may long = record { stands = free_within n _ (stmt.Try (split_of cs)) refl; opens = refl; closes = one_less cs (length frames) long }
goes n (InIf ∷ frames) (stmt.Else past) (c ∷ cs) may long = record { stands = same_place (suc n); opens = refl; closes = long }
goes n (InIf ∷ frames) (stmt.Else past) [] may long = absurd (omega (arith, long))
goes n frames (stmt.Else past) cs may long = absurd (false≢true may)
goes n (InTry ∷ frames) (stmt.Catch kind value past) (c ∷ cs) may long = record { stands = same_place n; opens = refl; closes = long }
goes n (InTry ∷ frames) (stmt.Catch kind value past) [] may long = absurd (omega (arith, long))
goes n frames (stmt.Catch kind value past) cs may long = absurd (false≢true may)
goes n (InLoop inside ∷ frames) (stmt.EndLoop first) cs may long = record { stands = closed_here first inside n may; opens = refl; closes = ap suc long }
goes n frames (stmt.EndLoop first) cs may long = absurd (false≢true may)
goes n (InRepeat inside ∷ frames) (stmt.EndRepeat first) cs may long = record { stands = closed_here first inside n may; opens = refl; closes = ap suc long }
goes n frames (stmt.EndRepeat first) cs may long = absurd (false≢true may)
goes n (InWith v ∷ frames) stmt.EndWith cs may long = record { stands = refl; opens = refl; closes = ap suc long }
goes n frames stmt.EndWith cs may long = absurd (false≢true may)
goes n (InIf ∷ frames) stmt.EndPlain cs may long = record { stands = same_place (suc n); opens = refl; closes = ap suc long }
goes n (InElse ∷ frames) stmt.EndPlain cs may long = record { stands = same_place (suc n); opens = refl; closes = ap suc long }
goes n (InCatch ∷ frames) stmt.EndPlain cs may long = record { stands = same_place (suc n); opens = refl; closes = ap suc long }
goes n frames stmt.EndPlain cs may long = absurd (false≢true may)
goes n [] stmt.EndProcess cs may long = record { stands = refl; opens = refl; closes = long }
goes n frames stmt.EndProcess cs may long = absurd (false≢true may)
goes n frames stmt.Break cs may long = record { stands = break_within n (opened frames cs) ∙ any_alike is_open_loop is_loop_frame loop_alike frames cs ∙ may; opens = refl; closes = long }
goes n frames (stmt.Release v) cs may long = record { stands = release_within n v (opened frames cs) ∙ any_alike (is_open_with v) (is_with_frame v) (with_alike v) frames cs ∙ may; opens = refl; closes = long }
goes n frames s cs may long = record { stands = free_within n (opened frames cs) s refl; opens = refl; closes = long }

-- ---- statements

-- each statement from place n on stands well, and at most 32 blocks are open
abbrev all_stand : ℕ → List Open → List Stmt → Bool
all_stand n opens [] = true
all_stand n opens (s ∷ code) = stands_within n opens s && nat_le (length (open_then n opens s)) 32 && all_stand (suc n) (open_then n opens s) code

-- the statements up to place n stand well, whatever stands behind them, if it closes the blocks that they leave open
abbrev pub Leaves : ℕ → List Frame → List Stmt → Type 0
Leaves n frames code = (rest : List Stmt) → length (closings n rest) ≡ length frames → all_stand n (opened frames (closings n rest)) (linked n rest) ≡ true → all_stand 0 [] (linked 0 (code ++ rest)) ≡ true

pub leaves_none : Leaves 0 [] []
leaves_none rest long well = well

-- one statement more
pub leaves_more : (n : ℕ) (frames : List Frame) (code : List Stmt) (s : Stmt) → Leaves n frames code
    → may_stand s frames ≡ true → nat_le (length (frames_then n s frames)) 32 ≡ true
    → Leaves (suc n) (frames_then n s frames) (code ++ s ∷ [])
leaves_more n frames code s leaves may few rest long well =
    let g : Goes n frames s (closings (suc n) rest) = goes n frames s (closings (suc n) rest) may long in
    rw (append_assoc code (s ∷ []) rest) (leaves (s ∷ rest) g.closes (rw (g.stands, g.opens, opened-length (frames_then n s frames) (closings (suc n) rest), few) well))

-- ---- the end

abbrev pub last_ends : List Stmt → Bool
last_ends [] = true
last_ends (s ∷ []) = is_end_process s
last_ends (s ∷ t ∷ code) = last_ends (t ∷ code)

pub last_ends-push : (code : List Stmt) (s : Stmt) → last_ends (code ++ s ∷ []) ≡ is_end_process s
last_ends-push [] s = refl
last_ends-push (t ∷ []) s = refl
last_ends-push (t ∷ u ∷ code) s = last_ends-push (u ∷ code) s

-- linking keeps which statements end a process
pub is_end_process-link : (s : Stmt) (cs : List Closing) → is_end_process (link s cs) ≡ is_end_process s
is_end_process-link (stmt.Loop past) cs = refl
is_end_process-link s cs = refl

last_ends-linked : (n : ℕ) (code : List Stmt) → last_ends (linked n code) ≡ last_ends code
last_ends-linked n [] = refl
last_ends-linked n (s ∷ []) = is_end_process-link s []
last_ends-linked n (s ∷ t ∷ code) = last_ends-linked (suc n) (t ∷ code)

well_to_end : (n : ℕ) (opens : List Open) (s : Stmt) (code : List Stmt) → all_stand n opens (s ∷ code) ≡ true
    → last_ends (s ∷ code) ≡ true → stand_well n opens (s ∷ code) ≡ true
well_to_end n opens s [] well ends =
    let parts = and_parts (stands_within n opens s && nat_le (length (open_then n opens s)) 32) true well in
    and_from (stands_within n opens s) (is_end_process s) (and_parts (stands_within n opens s) _ parts.0).0 ends
well_to_end n opens s (t ∷ code) well ends =
    let parts = and_parts (stands_within n opens s && nat_le (length (open_then n opens s)) 32) (all_stand (suc n) (open_then n opens s) (t ∷ code)) well in
    and_from (stands_within n opens s && nat_le (length (open_then n opens s)) 32) _ parts.0 (well_to_end (suc n) (open_then n opens s) t code parts.1 ends)

fits_from : (code : List Stmt) → all_stand 0 [] code ≡ true → last_ends code ≡ true → code_fits code ≡ true
fits_from [] well ends = refl
fits_from (s ∷ code) well ends = well_to_end 0 [] s code well ends

pub leaves_fits : (n : ℕ) (code : List Stmt) → Leaves n [] code → last_ends code ≡ true → code_fits (linked 0 code) ≡ true
leaves_fits n code leaves ends = fits_from (linked 0 code) (rw append-nil at (leaves [] refl refl)) (last_ends-linked 0 code ∙ ends)

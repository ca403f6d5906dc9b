-- Bytes that are held.
use Rattle.std.proofs.Common.{◌≡◌, ℕ, ◌+◌, ◌≤◌, Bool, true, false, List, [], ◌++◌, length, take, drop, refl, sym, ap, subst, ◌∙◌, arith, append_assoc, Option, None, Some}
use Rattle.std.proofs.lemmas.Bool.Decides.{nat_tests}
use Rattle.std.proofs.lemmas.Grind.{common_steps}
use Rattle.std.proofs.lemmas.Slice.{take-put_mid}
use Rattle.std.proofs.lemmas.List.{drop-append-le, take-append-le, take-append-drop, take_all}
use borrow.Rule.Slice.PartMut.{put_mid}
use Rattle.std.specs.Prelude.{nat_lt, ◌||◌}
use Rattle.std.specs.Io.KnownBytes.{Appends, Keeps, append_known}
use Rattle.std.proofs.KnownBytes.{Appends-trans, Keeps-refl, append_known-moved, append_known-grown}
use Rattle.sim_outside.specs.Writes.{AppendsFront, Flushing, taking, flushed}
use Rattle.sim_outside.proofs.Fronts.{front_none}

-- bytes are put behind those that are held
pub held_added : (bytes new : List ℕ) (start end count k : ℕ) → start ≤ end → end ≤ length bytes → length new ≡ count
    → drop start (take (end + count) (put_mid end k bytes new)) ≡ drop start (take end bytes) ++ new
held_added bytes new start end count k ordered room long =
    ap (drop start) (take-put_mid end k bytes new (end + count) (omega (arith, long)) room)
    ∙ drop-append-le start (take end bytes) new (grind (arith, common_steps))

-- bytes are let go at the front
pub held_removed : (bytes : List ℕ) (start end count : ℕ) → drop (start + count) (take end bytes) ≡ drop count (drop start (take end bytes))
held_removed bytes start end count = grind (arith, common_steps)

-- ---- what is held back

no_more : (b : Bool) → (b || false) ≡ b
no_more true = refl
no_more false = refl

more_than_none : (b : Bool) (n m : ℕ) → nat_lt 0 n ≡ b → (b || nat_lt 0 m) ≡ nat_lt 0 (n + m)
more_than_none true n m is = sym (grind (arith, nat_tests))
more_than_none false n m is =
    let none : n ≡ 0 = grind (arith, nat_tests) in
    ap (nat_lt 0) (omega (arith, none))

one_of : (b : Bool) (n m : ℕ) → ((b || nat_lt 0 n) || nat_lt 0 m) ≡ (b || nat_lt 0 (n + m))
one_of true n m = refl
one_of false n m = more_than_none (nat_lt 0 n) n m refl

pub taking_none : (f : Flushing) (n : ℕ) → n ≡ 0 → taking n f ≡ f
taking_none f n none = rw none (ap (λ b. record { count = f.count; held_back = b }) (no_more f.held_back))

-- a write after a write is one of both
pub taking_both : (f : Flushing) (n m all : ℕ) → all ≡ n + m → taking m (taking n f) ≡ taking all f
taking_both f n m all is = rw is (ap (λ b. record { count = f.count; held_back = b }) (one_of f.held_back n m))

-- ---- passing on

-- n more of the bytes held were written, and are let go
pub front_passed : (before middle after : Option (List ℕ)) (bytes rest slice left : List ℕ) (n : ℕ) → AppendsFront before middle bytes rest → slice ≡ rest
    → n ≤ length slice → Appends middle after (take n slice) → left ≡ drop n rest → AppendsFront before after bytes left
front_passed before middle after bytes rest slice left n h same small written is =
    record {
      front = h.front ++ take n rest;
      parts = ap (λ r. (h.front ++ take n rest) ++ r) is ∙ (append_assoc h.front (take n rest) (drop n rest) ∙ (ap (λ r. h.front ++ r) (take-append-drop n rest) ∙ h.parts));
      appended = Appends-trans before middle after h.front (take n rest) h.appended (subst (λ s. Appends middle after (take n s)) same written);
    }

-- and what is held back stays the same
pub back_passed : (old middle new : Flushing) (rest slice left : List ℕ) (n all : ℕ) → taking (length rest) middle ≡ taking all old → slice ≡ rest
    → n ≤ length slice → left ≡ drop n rest → new ≡ taking n middle → taking (length left) new ≡ taking all old
back_passed old middle new rest slice left n all h same small is written =
    ap (taking (length left)) written ∙ (taking_both middle n (length left) (length rest) (grind (arith, common_steps)) ∙ h)

-- nothing is held any more
pub none_held : (old new : Flushing) (rest : List ℕ) (all : ℕ) → taking (length rest) new ≡ taking all old → length rest ≡ 0 → new ≡ taking all old
none_held old new rest all h none = sym (taking_none new (length rest) none) ∙ h

pub is_none : (rest : List ℕ) → length rest ≡ 0 → rest ≡ []
is_none rest none = grind (arith, common_steps)

pub ruleset passing = (front_none, front_passed, back_passed, none_held, is_none)

-- ---- what a gathering sink tells

-- passing on changes nothing
pub same_passed : (before after : Option (List ℕ)) (held rest : List ℕ) → AppendsFront before after held rest
    → Keeps (append_known before held) (append_known after rest)
same_passed before after held rest h = append_known-moved before after h.front rest held h.appended (sym h.parts)

-- bytes more are held
pub more_held : (taken : Option (List ℕ)) (held new bytes : List ℕ) → new ≡ held ++ bytes → Appends (append_known taken held) (append_known taken new) bytes
more_held taken held new bytes is = append_known-grown (append_known taken held) taken held new bytes (Keeps-refl (append_known taken held)) is

-- after others were passed on
pub more_passed : (before after : Option (List ℕ)) (held rest new bytes : List ℕ) → AppendsFront before after held rest → new ≡ rest ++ bytes
    → Appends (append_known before held) (append_known after new) bytes
more_passed before after held rest new bytes h is =
    append_known-grown (append_known before held) after rest new bytes (same_passed before after held rest h) is

pub back_more : (f : Flushing) (held new piece : List ℕ) (n : ℕ) → new ≡ held ++ take n piece → n ≤ length piece
    → taking (length new) f ≡ taking n (taking (length held) f)
back_more f held new piece n is small = sym (taking_both f (length held) n (length new) (grind (arith, common_steps)))

pub back_more_passed : (old f : Flushing) (rest new piece : List ℕ) (n all : ℕ) → f ≡ taking all old → rest ≡ [] → new ≡ rest ++ take n piece
    → n ≤ length piece → taking (length new) f ≡ taking n (taking all old)
back_more_passed old f rest new piece n all passed none is small =
    ap (λ k. taking k f) (grind (arith, common_steps)) ∙ ap (taking n) passed

pub flushed_passed : (old f new : Flushing) (rest : List ℕ) (all : ℕ) → f ≡ taking all old → rest ≡ [] → new ≡ flushed f
    → taking (length rest) new ≡ flushed (taking all old)
flushed_passed old f new rest all passed none is = rw (none, is, passed) refl

pub ruleset gathering = (same_passed, more_held, more_passed, back_more, back_more_passed, flushed_passed)

-- The blocks but the last are, the other way round, the blocks but the innermost.
use Rattle.std.proofs.Common.{◌≡◌, ℕ, zero, suc, ◌-◌, List, [], ◌∷◌, ◌++◌, length, get_or, take, map, refl, arith, rules, vec_len}
use Rattle.std.specs.Prelude.{reverse}
use Rattle.std.proofs.lemmas.List.{map-append, reverse-append}
use Rattle.sim_script_model.specs.Scripts.{tail_of}
use Rattle.sim_script.specs.declared.frames.Frame.{Frame}
use Rattle.sim_script.specs.declared.frames.Frame.TheVariants as frame
use Rattle.sim_script_model.specs.Scripts as scripts
use Rattle.sim_script.specs.Kept.{FramesOf, frame_of}
use Rattle.sim_script.proofs.frames.Frames.pop.Goals as goal

without_last : (xs ys : List Frame) (x : Frame) → xs ≡ ys ++ x ∷ [] → reverse (map frame_of ys) ≡ tail_of (reverse (map frame_of xs))
without_last xs ys x e = rw (e, map-append frame_of ys (x ∷ []), reverse-append (map frame_of ys) (frame_of x ∷ [])) refl

whole : (xs : List Frame) (n : ℕ) → length xs ≡ suc n → xs ≡ take n xs ++ get_or xs n (frame.InTry 0) ∷ []
whole (x ∷ []) zero e = refl
whole (x ∷ y ∷ xs) (suc n) e = rw (← whole (y ∷ xs) n (omega (arith, e))) refl
whole _ _ e = absurd (omega (arith, e))

popped : (xs : List Frame) (n : ℕ) → length xs ≡ n → reverse (map frame_of (take (n - 1) xs)) ≡ tail_of (reverse (map frame_of xs))
popped [] n e = rw (← e) refl
popped (x ∷ xs) n e =
    let at : n - 1 ≡ length xs = omega (arith, e) in
    rw at (without_last (x ∷ xs) (take (length xs) (x ∷ xs)) _ (whole (x ∷ xs) (length xs) refl))

same_frames : (bs cs : List scripts.Frame) (m n : ℕ) → bs ≡ cs → m ≡ n
    → ◌≡◌ {A = FramesOf} (record { blocks = bs; room = m }) (record { blocks = cs; room = n })
same_frames bs cs m n blocks room = rw (blocks, room) refl

pub returns : goal.returns
returns c =
    let long : length c.self.inside.values.items ≡ vec_len c.self.inside.values = search rules in
    rw (← c.self.view_is) (same_frames _ _ _ _ (rw c.pop.ensures.rest (popped c.self.inside.values.items (vec_len c.self.inside.values) long)) c.pop.ensures.capacity)

-- Reading piece by piece.
use Rattle.std.proofs.Common.{◌≡◌, ℕ, ◌-◌, ◌<◌, ◌≤◌, ◌↔◌, List, [], ◌∷◌, ◌++◌, length, take, drop, refl, sym, ◌∙◌, ap, arith, append-nil, Option, None, Some, IfSome, Result, Ok, Err, OnErr}
use Rattle.std.proofs.lemmas.Grind.{common_steps}
use Rattle.std.specs.Io.KnownBytes.{Consumes}
use Rattle.std.proofs.KnownBytes.{Consumes-trans}
use Rattle.sim_outside.specs.Reads.{TakesFirst, Loses}

-- a front and what stands behind it
take_front : (front rest : List ℕ) (n : ℕ) → length front ≡ n → take n (front ++ rest) ≡ front
take_front front rest n e = grind (arith, common_steps)

drop_front : (front rest : List ℕ) (n : ℕ) → length front ≡ n → drop n (front ++ rest) ≡ rest
drop_front front rest n e = grind (arith, common_steps)

-- a list that is no longer than n
take_whole : (bytes : List ℕ) (n : ℕ) → length bytes ≤ n → take n bytes ≡ bytes
take_whole bytes n h = grind (arith, common_steps)

drop_whole : (bytes : List ℕ) (n : ℕ) → length bytes ≤ n → drop n bytes ≡ []
drop_whole bytes n h = grind (arith, common_steps)

-- a read of no bytes at the end leaves none
final_none : (rest final buffer : List ℕ) (count : ℕ) → count ≡ 0 → rest ≡ [] → rest ≡ take count buffer ++ final → final ≡ []
final_none rest [] buffer count e none last = refl
final_none rest (byte ∷ final) buffer count e none last = grind (arith, common_steps)

-- one read more stays within n
short : (taken buffer : List ℕ) (n count : ℕ) → length taken < n → count ≤ n - length taken → length (taken ++ take count buffer) ≤ n
short taken buffer n count few small = grind (arith, common_steps)

-- n bytes were taken
pub first_full : (before after : Option (List ℕ)) (n : ℕ) (taken : List ℕ) → Consumes before after taken → length taken ≡ n → TakesFirst n before after taken
first_full None after n taken h e = tt
first_full (Some left) None n taken h e = absurd h
first_full (Some left) (Some rest) n taken h e =
    (sym (ap (take n) h ∙ take_front taken rest n e), ap Some (sym (ap (drop n) h ∙ drop_front taken rest n e)))

-- at most n bytes were taken, and then a read found the end
pub first_end : (before middle after : Option (List ℕ)) (n count : ℕ) (taken buffer : List ℕ) → Consumes before middle taken → length taken ≤ n → count ≡ 0
    → IfSome middle (λ left. (count ≡ 0) ↔ (left ≡ [])) → Consumes middle after (take count buffer) → TakesFirst n before after taken
first_end None middle after n count taken buffer h few e end last = tt
first_end (Some left) None after n count taken buffer h few e end last = absurd h
first_end (Some left) (Some rest) None n count taken buffer h few e end last = absurd last
first_end (Some left) (Some rest) (Some final) n count taken buffer h few e end last =
    let none : rest ≡ [] = end.0 e in
    let whole : left ≡ taken = h ∙ (ap (λ r. taken ++ r) none ∙ append-nil taken) in
    let last_is : final ≡ [] = final_none rest final buffer count e none last in
    (sym (ap (take n) whole ∙ take_whole taken n few), ap Some (last_is ∙ sym (ap (drop n) whole ∙ drop_whole taken n few)))

-- the bytes of one read more are lost
pub lost_more : {T E : Type 0} (result : Result T E) (before middle after : Option (List ℕ)) (n count : ℕ)
    (taken buffer : List ℕ) → Consumes before middle taken → length taken < n → count ≤ n - length taken
    → Consumes middle after (take count buffer) → OnErr result (Loses n before after)
lost_more (Ok x) before middle after n count taken buffer h few small last = tt
lost_more (Err x) before middle after n count taken buffer h few small last =
    record { bytes = taken ++ take count buffer; few = short taken buffer n count few small; consumed = Consumes-trans before middle after taken (take count buffer) h last }

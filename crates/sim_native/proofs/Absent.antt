-- Places that hold no event, and kinds that two kinds are without.
use Rattle.std.proofs.Common.{◌≡◌, ℕ, zero, suc, true, replicate, refl, arith}
use Rattle.std.specs.Prelude.{nat_lt, slice_index_or}
use Rattle.std.proofs.lemmas.Bool.Decides.{nat_tests}
use Rattle.sim_types.specs.declared.event.EventId.{EventId}

abbrev pub none : EventId
none = record { 0 = 0 }

pub zeros : (n k : ℕ) → slice_index_or (replicate n none) k none ≡ none
zeros zero k = refl
zeros (suc n) zero = refl
zeros (suc n) (suc k) = zeros n k

pub no_kind : (kind : ℕ) → nat_lt (suc (suc kind)) 2 ≡ true → ⊥
no_kind kind h = grind (arith, nat_tests, h)

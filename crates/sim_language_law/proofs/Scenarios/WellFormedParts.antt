-- What is well-formed, in its parts.
use Rattle.std.proofs.Common.{◌≡◌, true, suc, length, map, take}
use Rattle.std.specs.Prelude.{◌&&◌, ◌==◌, ◌^◌, nat_lt, nat_le, IsTrue}
use Rattle.std.specs.List.{list_all}
use Rattle.std.specs.Cmp.Lexicographic.{pointwise}
use Rattle.std.proofs.lemmas.Bool.{and_parts, eqb-true}
use Rattle.sim_types.specs.Scenarios.{ScenarioOf}
use Rattle.sim_language.specs.FittingBlocks.{code_fits, firsts}
use Rattle.sim_language.specs.FittingStatements.{script_fits}
use Rattle.sim_language.specs.WellFormed.{setup_fits, kind_fits, kinds_fit, posts_fit, is_well_formed}

pub record FitsWell (x : ScenarioOf) : Type 0 where
  pub setup : setup_fits x ≡ true
  pub kinds : list_all kind_fits x.kinds ≡ true
  pub begin : pointwise (λ m n. m == n) (map (λ k. k.first) x.kinds) (take (length x.kinds) (firsts x.code)) ≡ true
  pub count : length (firsts x.code) ≡ suc (length x.kinds)
  pub scripts : list_all (script_fits x) x.kinds ≡ true
  pub code : code_fits x.code ≡ true
  pub posts : posts_fit x ≡ true

pub fits_well : (x : ScenarioOf) → IsTrue (is_well_formed x) → FitsWell x
fits_well x h =
    let all = and_parts (nat_lt x.seed (2 ^ 63) && setup_fits x && kinds_fit x && code_fits x.code) (posts_fit x) h in
    let most = and_parts (nat_lt x.seed (2 ^ 63) && setup_fits x && kinds_fit x) (code_fits x.code) all.0 in
    let more = and_parts (nat_lt x.seed (2 ^ 63) && setup_fits x) (kinds_fit x) most.0 in
    let some = and_parts (nat_lt x.seed (2 ^ 63)) (setup_fits x) more.0 in
    let few = nat_le (length x.kinds) 256 in
    let fit = list_all kind_fits x.kinds in
    let begin = pointwise (λ m n. m == n) (map (λ k. k.first) x.kinds) (take (length x.kinds) (firsts x.code)) in
    let count = length (firsts x.code) == suc (length x.kinds) in
    let a = and_parts (few && fit && begin && count) (list_all (script_fits x) x.kinds) more.1 in
    let b = and_parts (few && fit && begin) count a.0 in
    let d = and_parts (few && fit) begin b.0 in
    let e = and_parts few fit d.0 in
    record { setup = some.1; kinds = e.1; begin = d.1; count = eqb-true _ _ b.1; scripts = a.1; code = most.1; posts = all.1 }

-- What a well-formed scenario keeps of what arrives.
use Rattle.std.proofs.Common.{◌≡◌, ◌<◌, ◌≤◌, Bool, true, List, [], ◌∷◌, length, arith}
use Rattle.std.specs.Prelude.{◌&&◌, ◌==◌, ◌^◌, nat_lt, nat_le, IsTrue}
use Rattle.std.specs.List.{All, list_all}
use Rattle.std.proofs.lemmas.Bool.{false≢true, and_parts, eqb-true, leb-true, ltb-true}
use Rattle.std.proofs.lemmas.List.Elements.{All-nil, All-cons}
use Rattle.sim_types.specs.Scenarios.{ScenarioOf}
use Rattle.sim_types.specs.declared.setup.Arrival.{Arrival}
use Rattle.sim_types.specs.declared.setup.Post.{Post}
use Rattle.sim_language.specs.Lines.{Word}
use Rattle.sim_language.specs.Names.{is_small_letter, may_stand_in_name, is_spelled}
use Rattle.sim_language.specs.WellFormed.{arrival_fits, never_falls, post_fits, is_well_formed}
use Rattle.sim_language_law.proofs.Scenarios.WellFormedParts.{fits_well}

-- the ports that entries name have names, and these are short
pub record PostsFit (s : ScenarioOf) : Type 0 where
  pub ports : All (λ a. a.port < length s.setup.ports) s.journal
  pub named : length s.port_names ≡ length s.setup.ports
  pub names : All (λ name. length name ≤ 32) s.port_names
  pub falls : never_falls s.journal ≡ true

-- posters are few, and they post at ports that there are
pub record PostersFit (s : ScenarioOf) : Type 0 where
  pub few : length s.posters ≤ 16
  pub lengths : All (λ posts. length posts ≤ 65536) s.posters
  pub ports : All (All (λ p. p.port < length s.setup.ports)) s.posters

-- what follows from a test holds of all that pass it
all_pass : {X : Type 0} (test : X → Bool) (P : X → Type 0) (xs : List X) → ((x : X) → test x ≡ true → P x) → list_all test xs ≡ true → All P xs
all_pass test P [] each h = All-nil P
all_pass test P (x ∷ xs) each h =
    let parts = and_parts (test x) (list_all test xs) h in
    All-cons P x xs (each x parts.0) (all_pass test P xs each parts.1)

pub spelled_short : (name : Word) → is_spelled name ≡ true → length name ≤ 32
spelled_short [] h = absurd (false≢true h)
spelled_short (c ∷ cs) h =
    let few = (and_parts (is_small_letter c) (nat_le (length cs) 31) (and_parts (is_small_letter c && nat_le (length cs) 31) (list_all may_stand_in_name cs) h).0).1 in
    omega (arith, leb-true _ _ few)

port_within : (s : ScenarioOf) (a : Arrival) → arrival_fits s a ≡ true → a.port < length s.setup.ports
port_within s a h = ltb-true _ _ (and_parts (nat_le a.after (2 ^ 62) && nat_lt a.poster 16 && nat_lt a.serial 65536) (nat_lt a.port (length s.setup.ports)) h).1

pub posts_of_scenario : (s : ScenarioOf) → IsTrue (is_well_formed s) → PostsFit s
posts_of_scenario s well_formed =
    let named = length s.port_names == length s.setup.ports in
    let spelled = list_all is_spelled s.port_names in
    let few = nat_le (length s.journal) 65536 in
    let fit = list_all (arrival_fits s) s.journal in
    let posters = nat_le (length s.posters) 16 in
    let a = and_parts (named && spelled && few && fit && never_falls s.journal && posters) _ (fits_well s well_formed).posts in
    let b = and_parts (named && spelled && few && fit && never_falls s.journal) posters a.0 in
    let d = and_parts (named && spelled && few && fit) (never_falls s.journal) b.0 in
    let e = and_parts (named && spelled && few) fit d.0 in
    let f = and_parts (named && spelled) few e.0 in
    let g = and_parts named spelled f.0 in
    record {
      ports = all_pass (arrival_fits s) (λ x. x.port < length s.setup.ports) s.journal (port_within s) e.1;
      named = eqb-true _ _ g.0;
      names = all_pass is_spelled (λ name. length name ≤ 32) s.port_names spelled_short g.1;
      falls = d.1;
    }

pub posters_of_scenario : (s : ScenarioOf) → IsTrue (is_well_formed s) → PostersFit s
posters_of_scenario s well_formed =
    let poster_fits : List Post → Bool = λ posts. nat_le (length posts) 65536 && list_all (post_fits s) posts in
    let a = and_parts _ (list_all poster_fits s.posters) (fits_well s well_formed).posts in
    let b = and_parts _ (nat_le (length s.posters) 16) a.0 in
    record {
      few = leb-true _ _ b.1;
      lengths = all_pass poster_fits _ s.posters (λ posts h. leb-true _ _ (and_parts (nat_le (length posts) 65536) _ h).0) a.1;
      ports =
          all_pass poster_fits _ s.posters
          (λ posts h. all_pass (post_fits s) _ posts (λ p. ltb-true _ _) (and_parts (nat_le (length posts) 65536) _ h).1)
          a.1;
    }

-- Lines, read from the texts that they are printed as.
--     likely_back     what is read is printed the same
use Rattle.std.proofs.Common.{◌≡◌, ◌-◌, ◌^◌, ℕ, ◌<◌, ◌≤◌, Bool, true, false, List, [], ◌∷◌, ◌++◌, length, take, get_or, Some, refl, sym, ap, ◌∙◌, arith, codes, decimal, bytes_eq, nat_lt}
use Rattle.std.specs.Prelude.{option_map}
use Rattle.std.specs.Fmt.{signed_decimal}
use Rattle.std.specs.List.{after_first, before_first, after_last, before_last, join_with_byte, position_or_len}
use Rattle.std.proofs.lemmas.Bool.Decides.{nat_tests}
use Rattle.std.proofs.lemmas.List.{get_or_past}
use Rattle.std.proofs.lemmas.Option.{unwrap_or-slice_get}
use Rattle.std.proofs.lemmas.List.Sums.{fails_before_first, passes_at_first}
use Rattle.std.proofs.lemmas.Slice.Eq.{bytes_eq-Decides}
use Rattle.sim_types.specs.declared.event.EventKind.{EventKind}
use Rattle.sim_types.specs.declared.event.EventKind.TheVariants as kind
use Rattle.sim_types.specs.declared.event.Outcome.{Outcome}
use Rattle.sim_types.specs.declared.event.Outcome.TheVariants as outcome
use Rattle.sim_types.specs.declared.line.End.{End}
use Rattle.sim_types.specs.declared.line.End.TheVariants as end
use Rattle.sim_types.specs.declared.line.Line.{Line}
use Rattle.sim_types.specs.declared.line.Line.TheVariants as line
use Rattle.sim_trace.specs.Texts.{kind_word, end_word, outcome_words, port_word, line_text, written}
use Rattle.sim_trace_reader.specs.LineTexts.{IsOutcomeInRange, IsInRange}
use Rattle.sim_trace_reader.specs.Readings.{is_space, number, byte, signed, kind_of, end_of, failure_of, outcome_in, event_of, event_in, log_of, log_in, port_of, arrival_of, arrival_in, finish_of, finish_in, likely_line}
use Rattle.sim_trace_reader.proofs.Cuts.{IsWord, first_word, first_rest, last_front, last_word}
use Rattle.sim_trace_reader.proofs.Numbers.{below_within, number_back, byte_back, signed_back, word_decimal, word_signed}
use Rattle.sim_trace_reader.proofs.Words.{front_of}

-- ---- words

kind_back : (k : EventKind) → kind_of (kind_word k) ≡ Some k
kind_back kind.Init = refl
kind_back kind.Timeout = refl
kind_back kind.Plain = refl
kind_back kind.Process = refl
kind_back kind.Interrupt = refl
kind_back kind.Cond = refl
kind_back kind.Request = refl
kind_back kind.Release = refl
kind_back kind.Put = refl
kind_back kind.Get = refl
kind_back kind.Stop = refl

word_of_kind : (k : EventKind) → IsWord (kind_word k)
word_of_kind kind.Init = refl
word_of_kind kind.Timeout = refl
word_of_kind kind.Plain = refl
word_of_kind kind.Process = refl
word_of_kind kind.Interrupt = refl
word_of_kind kind.Cond = refl
word_of_kind kind.Request = refl
word_of_kind kind.Release = refl
word_of_kind kind.Put = refl
word_of_kind kind.Get = refl
word_of_kind kind.Stop = refl

end_back : (e : End) → end_of (end_word e) ≡ Some e
end_back end.Empty = refl
end_back end.Until = refl
end_back end.Crash = refl
end_back end.Limit = refl
end_back end.Starved = refl

word_of_end : (e : End) → IsWord (end_word e)
word_of_end end.Empty = refl
word_of_end end.Until = refl
word_of_end end.Crash = refl
word_of_end end.Limit = refl
word_of_end end.Starved = refl

-- ---- ports

-- the port that is found by a name has it, or is no port, and the name is empty
record HasWord (ports : List (List ℕ)) (name : List ℕ) : Type 0 where
  place : ℕ
  found : port_of ports name ≡ Some place
  called : port_word ports place ≡ name

first_at_most : (p : List ℕ → Bool) (xs : List (List ℕ)) (k : ℕ) → p (get_or xs k []) ≡ true → position_or_len p xs ≤ k
first_at_most p xs k passes = by (nat_lt k (position_or_len p xs)) refl
  where
    by : (b : Bool) → nat_lt k (position_or_len p xs) ≡ b → position_or_len p xs ≤ k
    by true e =
        let lt : k < position_or_len p xs = grind (arith, nat_tests) in
        let fails = fails_before_first p xs k [] lt in
        absurd (cc)
    by false e = grind (arith, nat_tests)

first_called : (p : List ℕ → Bool) (xs : List (List ℕ)) (name : List ℕ) (k : ℕ) → ((x : List ℕ) → p x ≡ true → x ≡ name)
    → get_or xs k [] ≡ name → position_or_len p xs ≤ k → get_or xs (position_or_len p xs) [] ≡ name
first_called p xs name k means here most = by (nat_lt (position_or_len p xs) (length xs)) refl
  where
    by : (b : Bool) → nat_lt (position_or_len p xs) (length xs) ≡ b → get_or xs (position_or_len p xs) [] ≡ name
    by true e =
        let lt : position_or_len p xs < length xs = grind (arith, nat_tests) in
        means (get_or xs (position_or_len p xs) []) (passes_at_first p xs [] lt)
    by false e =
        let far : length xs ≤ position_or_len p xs = grind (arith, nat_tests) in
        get_or_past xs (position_or_len p xs) [] far ∙ sym (get_or_past xs k [] (omega arith)) ∙ here

port_back : (ports : List (List ℕ)) (port : ℕ) → port < 2 ^ 32 → HasWord ports (port_word ports port)
port_back ports port fits =
    let name = port_word ports port in
    let p : List ℕ → Bool = λ x. bytes_eq x name in
    let place = position_or_len p ports in
    let here : get_or ports port [] ≡ name = sym (unwrap_or-slice_get ports port []) in
    let most : place ≤ port = first_at_most p ports port ((bytes_eq-Decides (get_or ports port []) name).1 here) in
    let called : get_or ports place [] ≡ name = first_called p ports name port (λ x. (bytes_eq-Decides x name).0) here most in
    record {
      place = place;
      found = below_within (2 ^ 32) place (omega (arith, most, fits));
      called = unwrap_or-slice_get ports place [] ∙ called;
    }

-- ---- lines, behind their first words

outcome_back : (o : Outcome) → IsOutcomeInRange o → outcome_in (join_with_byte 32 (outcome_words o)) ≡ Some o
outcome_back (outcome.Ok value) fits = ap (option_map (λ v. outcome.Ok v)) (signed_back value fits)
outcome_back (outcome.Fail thrown) fits =
    let kind = decimal thrown.kind in
    let value = signed_decimal thrown.value in
    let word : IsWord kind = word_decimal thrown.kind (omega (arith, fits.0)) in
    let h0 : byte (before_first is_space (kind ++ 32 ∷ value)) ≡ Some thrown.kind =
    ap byte (first_word kind value word) ∙ byte_back thrown.kind fits.0 in
    let h1 : signed (after_first is_space (kind ++ 32 ∷ value)) ≡ Some thrown.value =
    ap signed (first_rest kind value word) ∙ signed_back thrown.value fits.1 in
    λ i. failure_of (h0 i) (h1 i)

-- an event and its outcome, in words
join_outcome : (w : List ℕ) (o : Outcome) → join_with_byte 32 (w ∷ outcome_words o) ≡ w ++ 32 ∷ join_with_byte 32 (outcome_words o)
join_outcome w (outcome.Ok value) = refl
join_outcome w (outcome.Fail thrown) = refl

event_back : (t p n k e o : List ℕ) → IsWord t → IsWord p → IsWord n → IsWord k → IsWord e
    → event_in (t ++ 32 ∷ (p ++ 32 ∷ (n ++ 32 ∷ (k ++ 32 ∷ (e ++ 32 ∷ o))))) ≡ event_of (signed t) (byte p) (number n) (kind_of k) (number e) (outcome_in o)
event_back t p n k e o wt wp wn wk we =
    let r4 = e ++ 32 ∷ o in
    let r3 = k ++ 32 ∷ r4 in
    let r2 = n ++ 32 ∷ r3 in
    let r1 = p ++ 32 ∷ r2 in
    let rest = after_first is_space in
    let word = before_first is_space in
    let b1 = first_rest t r1 wt in
    let b2 = ap rest b1 ∙ first_rest p r2 wp in
    let b3 = ap rest b2 ∙ first_rest n r3 wn in
    let b4 = ap rest b3 ∙ first_rest k r4 wk in
    let b5 = ap rest b4 ∙ first_rest e o we in
    let w0 = first_word t r1 wt in
    let w1 = ap word b1 ∙ first_word p r2 wp in
    let w2 = ap word b2 ∙ first_word n r3 wn in
    let w3 = ap word b3 ∙ first_word k r4 wk in
    let w4 = ap word b4 ∙ first_word e o we in
    λ i. event_of (signed (w0 i)) (byte (w1 i)) (number (w2 i)) (kind_of (w3 i)) (number (w4 i)) (outcome_in (b5 i))

log_back : (t p v : List ℕ) → IsWord t → IsWord p → log_in (t ++ 32 ∷ (p ++ 32 ∷ v)) ≡ log_of (signed t) (number p) (signed v)
log_back t p v wt wp =
    let b1 = first_rest t (p ++ 32 ∷ v) wt in
    let b2 = ap (after_first is_space) b1 ∙ first_rest p v wp in
    let w0 = first_word t (p ++ 32 ∷ v) wt in
    let w1 = ap (before_first is_space) b1 ∙ first_word p v wp in
    λ i. log_of (signed (w0 i)) (number (w1 i)) (signed (b2 i))

finish_back : (e t p : List ℕ) → IsWord e → IsWord t → finish_in (e ++ 32 ∷ (t ++ 32 ∷ p)) ≡ finish_of (end_of e) (signed t) (number p)
finish_back e t p we wt =
    let b1 = first_rest e (t ++ 32 ∷ p) we in
    let b2 = ap (after_first is_space) b1 ∙ first_rest t p wt in
    let w0 = first_word e (t ++ 32 ∷ p) we in
    let w1 = ap (before_first is_space) b1 ∙ first_word t p wt in
    λ i. finish_of (end_of (w0 i)) (signed (w1 i)) (number (b2 i))

arrival_back : (ports : List (List ℕ)) (a name v : List ℕ) → IsWord a → IsWord v
    → arrival_in ports (a ++ 32 ∷ (name ++ 32 ∷ v)) ≡ arrival_of (number a) (port_of ports name) (signed v)
arrival_back ports a name v wa wv =
    let b1 = first_rest a (name ++ 32 ∷ v) wa in
    let w0 = first_word a (name ++ 32 ∷ v) wa in
    let w1 = ap (before_last is_space) b1 ∙ last_front name v wv in
    let w2 = ap (after_last is_space) b1 ∙ last_word name v wv in
    λ i. arrival_of (number (w0 i)) (port_of ports (w1 i)) (signed (w2 i))

-- ---- lines

-- a line is read from the text of this one, but for the line feed, and is printed as it is
pub record IsReadBack (ports : List (List ℕ)) (l : Line) : Type 0 where
  pub read : Line
  pub found : likely_line ports (take (length (line_text ports l) - 1) (line_text ports l)) ≡ Some read
  pub prints : line_text ports read ≡ line_text ports l

pub likely_back : (ports : List (List ℕ)) (l : Line) → IsInRange l → IsReadBack ports l
likely_back ports (line.Event time number event outcome priority kind) fits = record {
  read = line.Event time number event outcome priority kind;
  found =
      let t = signed_decimal time in
      let p = decimal priority in
      let n = decimal number in
      let k = kind_word kind in
      let e = decimal event.0 in
      let o = join_with_byte 32 (outcome_words outcome) in
      let words = (64 ∷ t) ∷ p ∷ n ∷ k ∷ e ∷ outcome_words outcome in
      let joined : join_with_byte 32 words ≡ 64 ∷ (t ++ 32 ∷ (p ++ 32 ∷ (n ++ 32 ∷ (k ++ 32 ∷ (e ++ 32 ∷ o))))) =
      ap (λ l. 64 ∷ (t ++ 32 ∷ (p ++ 32 ∷ (n ++ 32 ∷ (k ++ 32 ∷ l))))) (join_outcome e outcome) in
      let f0 = signed_back time fits.0 in
      let f1 = byte_back priority fits.1 in
      let f2 = number_back number fits.2 in
      let f3 = kind_back kind in
      let f4 = number_back event.0 fits.3 in
      let f5 = outcome_back outcome fits.4 in
      let small : priority < 2 ^ 64 = omega (arith, fits.1) in
      ap (likely_line ports) (front_of (join_with_byte 32 words) ∙ joined)
      ∙ event_back t p n k e o (word_signed time fits.0) (word_decimal priority small) (word_decimal number fits.2) (word_of_kind kind)
      (word_decimal event.0 fits.3)
      ∙ (λ i. event_of (f0 i) (f1 i) (f2 i) (f3 i) (f4 i) (f5 i));
  prints = refl;
}
likely_back ports (line.Log time process value) fits = record {
  read = line.Log time process value;
  found =
      let t = signed_decimal time in
      let p = decimal process.0 in
      let v = signed_decimal value in
      let f0 = signed_back time fits.0 in
      let f1 = number_back process.0 fits.1 in
      let f2 = signed_back value fits.2 in
      ap (likely_line ports) (front_of (join_with_byte 32 (codes "log" ∷ t ∷ p ∷ v ∷ [])))
      ∙ log_back t p v (word_signed time fits.0) (word_decimal process.0 fits.1)
      ∙ (λ i. log_of (f0 i) (f1 i) (f2 i));
  prints = refl;
}
likely_back ports (line.Arrive after value port) fits =
    let same = port_back ports port fits.1 in
    record {
      read = line.Arrive after value same.place;
      found =
          let a = decimal after in
          let v = signed_decimal value in
          let f0 = number_back after fits.0 in
          let f1 = same.found in
          let f2 = signed_back value fits.2 in
          ap (likely_line ports) (front_of (join_with_byte 32 (codes "arrive" ∷ a ∷ port_word ports port ∷ v ∷ [])))
          ∙ arrival_back ports a (port_word ports port) v (word_decimal after fits.0) (word_signed value fits.2)
          ∙ (λ i. arrival_of (f0 i) (f1 i) (f2 i));
      prints = ap (λ name. written (codes "arrive" ∷ decimal after ∷ name ∷ signed_decimal value ∷ [])) same.called;
    }
likely_back ports (line.Finish time processed how) fits = record {
  read = line.Finish time processed how;
  found =
      let e = end_word how in
      let t = signed_decimal time in
      let p = decimal processed in
      let f0 = end_back how in
      let f1 = signed_back time fits.0 in
      let f2 = number_back processed fits.1 in
      ap (likely_line ports) (front_of (join_with_byte 32 (codes "end" ∷ e ∷ t ∷ p ∷ [])))
      ∙ finish_back e t p (word_of_end how) (word_signed time fits.0)
      ∙ (λ i. finish_of (f0 i) (f1 i) (f2 i));
  prints = refl;
}

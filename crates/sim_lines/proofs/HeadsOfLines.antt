-- The process lines of a text, as the code keeps them: each with the span of its classes among those of all.
use Rattle.std.proofs.Common.{◌≡◌, refl, sym, ap, ◌∙◌, ℕ, ◌+◌, ◌≤◌, Bool, true, false, if◌then◌else◌, List, [], ◌∷◌, ◌++◌, length, map, take, drop, ◌-◌, codes, Option, Some, None, option_map, is_some, arith}
use Rattle.std.specs.Prelude.{All, IfSome, filter_map, option_to_list, unwrap_or}
use Rattle.std.specs.List.{cons_option}
use Rattle.std.proofs.Math.Seq.{drop-append_seam, take-length}
use Rattle.std.proofs.lemmas.List.{drop-append-le, take-append-le, length-append, length-drop, map-append}
use Rattle.std.proofs.lemmas.List.Elements.{All-head, All-tail}
use Rattle.sim_types.specs.declared.setup.Class.{Class}
use Rattle.sim_language.specs.declared.form.Version.{Version}
use Rattle.sim_language.specs.Lines.{Word, same, cut, words}
use Rattle.sim_language.specs.Names.{is_name}
use Rattle.sim_language.specs.Named.{Named, value_of, is_named, place_of, with_one, with_all}
use Rattle.sim_language.specs.AnywhereInText.{ProcessLines, head_of, parameters}
use Rattle.sim_lines.specs.declared.process_lines.Span.{Span}
use Rattle.sim_lines.specs.Spans.{IsWithin, classes_in, heads_in, head_by}

-- what a line declares
abbrev pub head_of_line : Version → Word → Option (Named (List Class))
head_of_line version l = head_of version (words (cut l))

-- those that the lines so far declare, one line further
heads_further : (version : Version) (known more : ProcessLines) (l : Word) (ls : List Word)
    → more ≡ with_all known (option_to_list (head_of version (words (cut l))))
    → with_all more (filter_map (head_of_line version) ls) ≡ with_all known (filter_map (head_of_line version) (l ∷ ls))
heads_further version known more l ls added = rw added (by (head_of version (words (cut l))))
  where
    by : (o : Option (Named (List Class))) → with_all (with_all known (option_to_list o)) (filter_map (head_of_line version) ls)
        ≡ with_all known (cons_option o (filter_map (head_of_line version) ls))
    by None = refl
    by (Some head) = refl

heads_line : (version : Version) (known more all : ProcessLines) (l : Word) (ls before : List Word) → before ≡ l ∷ ls
    → more ≡ with_all known (option_to_list (head_of version (words (cut l)))) → with_all known (filter_map (head_of_line version) before) ≡ all
    → with_all more (filter_map (head_of_line version) ls) ≡ all
heads_line version known more all l ls before lines_are added so_far =
    heads_further version known more l ls added ∙ sym (ap (λ ms. with_all known (filter_map (head_of_line version) ms)) lines_are) ∙ so_far

one_longer : (known : ProcessLines) (head : Named (List Class)) → length (with_one known head) ≤ length known + 1
one_longer known head = by (is_named head.name known)
  where
    by : (b : Bool) → length (if b then known else known ++ head ∷ []) ≤ length known + 1
    by true = omega arith
    by false = omega (arith, length-append known (head ∷ []))

heads_longer : (version : Version) (known more : ProcessLines) (l : Word) → more ≡ with_all known (option_to_list (head_of version (words (cut l))))
    → length more ≤ length known + 1
heads_longer version known more l added = rw added (by (head_of version (words (cut l))))
  where
    by : (o : Option (Named (List Class))) → length (with_all known (option_to_list o)) ≤ length known + 1
    by None = omega arith
    by (Some head) = one_longer known head

-- the process lines so far and those of what is left are those of all, and there is one more at most: the words of a line
-- may have declared one
pub heads_through : (version : Version) (known more all : ProcessLines) (ws : List Word) (l : Word) (ls before : List Word) → before ≡ l ∷ ls
    → ws ≡ words (cut l) → more ≡ with_all known (option_to_list (head_of version ws)) → with_all known (filter_map (head_of_line version) before) ≡ all
    → (with_all more (filter_map (head_of_line version) ls) ≡ all) × (length more ≤ length known + 1)
heads_through version known more all ws l ls before lines_are words_are added so_far =
    let same : more ≡ with_all known (option_to_list (head_of version (words (cut l)))) = rw words_are at added in
    (heads_line version known more all l ls before lines_are same so_far, heads_longer version known more l same)

-- ---- the values of names, one by one

module _ {A B : Type 0} (f : A → B) where
  abbrev with_value : Named A → Named B
  with_value n = record { name = n.name; value = f n.value }

  pub value_of-map : (w : Word) (ns : List (Named A)) → value_of w (map with_value ns) ≡ option_map f (value_of w ns)
  value_of-map w [] = refl
  value_of-map w (n ∷ ns) = by (same w n.name) (value_of-map w ns)
    where
      by : (b : Bool) → value_of w (map with_value ns) ≡ option_map f (value_of w ns)
          → (if b then Some (f n.value) else value_of w (map with_value ns)) ≡ option_map f (if b then Some n.value else value_of w ns)
      by true h = refl
      by false h = h

  pub place_of-map : (w : Word) (ns : List (Named A)) → place_of w (map with_value ns) ≡ place_of w ns
  place_of-map w [] = refl
  place_of-map w (n ∷ ns) = rw (place_of-map w ns) refl

-- what holds of all holds of what has a name
pub All-value_of : {A : Type 0} (P : A → Type 0) (w : Word) (ns : List (Named A)) → All (λ n. P n.value) ns → IfSome (value_of w ns) P
All-value_of P w [] h = tt
All-value_of P w (n ∷ ns) h = by (same w n.name) (All-value_of P w ns (All-tail (λ n. P n.value) n ns h))
  where
    by : (b : Bool) → IfSome (value_of w ns) P → IfSome (if b then Some n.value else value_of w ns) P
    by true rest = All-head (λ n. P n.value) n ns h
    by false rest = rest

-- ---- spans

pub is_named_in_spans : (w : Word) (spans : List (Named Span)) (classes : List Class) (found : Bool) → found ≡ is_named w spans
    → found ≡ is_named w (heads_in classes spans)
is_named_in_spans w spans classes found h = h ∙ sym (ap is_some (value_of-map (classes_in classes) w spans) ∙ by (value_of w spans))
  where
    by : (o : Option Span) → is_some (option_map (classes_in classes) o) ≡ is_some o
    by None = refl
    by (Some span) = refl

pub place_in_spans : (w : Word) (spans : List (Named Span)) (classes : List Class) (place : Option ℕ) → place ≡ place_of w spans
    → place ≡ place_of w (heads_in classes spans)
place_in_spans w spans classes place h = h ∙ sym (place_of-map (classes_in classes) w spans)

pub span_is_within : (w : Word) (spans : List (Named Span)) (classes : List Class) (span : Span) → All (λ n. IsWithin classes n.value) spans
    → Some span ≡ value_of w spans → IsWithin classes span
span_is_within w spans classes span h is = rw (sym is) at (All-value_of (IsWithin classes) w spans h)

pub parameters_in_spans : (w : Word) (spans : List (Named Span)) (classes : List Class) (found : Option Span) → found ≡ value_of w spans
    → unwrap_or (option_map (classes_in classes) found) [] ≡ parameters (heads_in classes spans) w
parameters_in_spans w spans classes found h = ap (λ o. unwrap_or o []) (ap (option_map (classes_in classes)) h ∙ sym (value_of-map (classes_in classes) w spans))

-- ---- one more

pub head_of_process : (version : Version) (line : List Word) (first name : Word) (rest left : List Word) → line ≡ first ∷ rest → rest ≡ name ∷ left
    → same first (codes "process") ≡ true → is_name version name ≡ true → Some (head_by name left) ≡ head_of version line
head_of_process version line first name rest left is next process named = rw (is, next, process, named) refl

-- a span within some classes is the same within more
same_classes : (classes more : List Class) (span : Span) → IsWithin classes span → classes_in (classes ++ more) span ≡ classes_in classes span
same_classes classes more span within =
    let below : span.from ≤ length classes = omega (arith, within.0, within.1) in
    ap (take (span.to - span.from)) (drop-append-le span.from classes more below)
    ∙ take-append-le (span.to - span.from) (drop span.from classes) more (simp length-drop (omega (arith, within.0, within.1)))

same_heads : (classes more : List Class) (spans : List (Named Span)) → All (λ n. IsWithin classes n.value) spans
    → heads_in (classes ++ more) spans ≡ heads_in classes spans
same_heads classes more [] h = refl
same_heads classes more (n ∷ spans) h =
    let first : classes_in (classes ++ more) n.value ≡ classes_in classes n.value = same_classes classes more n.value (All-head (λ m. IsWithin classes m.value) n spans h) in
    let rest : heads_in (classes ++ more) spans ≡ heads_in classes spans = same_heads classes more spans (All-tail (λ m. IsWithin classes m.value) n spans h) in
    cc

new_classes : (classes more : List Class) → classes_in (classes ++ more) (record { from = length classes; to = length (classes ++ more) }) ≡ more
new_classes classes more =
    let all : length (classes ++ more) - length classes ≡ length more = omega (arith, length-append classes more) in
    ap (take (length (classes ++ more) - length classes)) (drop-append_seam classes more) ∙ ap (λ n. take n more) all ∙ take-length more

not_named_in_spans : (w : Word) (spans : List (Named Span)) (classes : List Class) → is_named w (heads_in classes spans) ≡ false → is_named w spans ≡ false
not_named_in_spans w spans classes h = is_named_in_spans w spans classes (is_named w spans) refl ∙ h

heads_pushed : (w : Word) (spans : List (Named Span)) (classes more : List Class) (span : Span) → All (λ n. IsWithin classes n.value) spans
    → classes_in (classes ++ more) span ≡ more
    → heads_in (classes ++ more) (spans ++ record { name = w; value = span } ∷ []) ≡ heads_in classes spans ++ record { name = w; value = more } ∷ []
heads_pushed w spans classes more span within is =
    map-append (with_value (classes_in (classes ++ more))) spans (record { name = w; value = span } ∷ [])
    ∙ ap (λ ns. ns ++ record { name = w; value = classes_in (classes ++ more) span } ∷ []) (same_heads classes more spans within)
    ∙ ap (λ cs. heads_in classes spans ++ record { name = w; value = cs } ∷ []) is

pub heads_with_one : (w : Word) (spans after : List (Named Span)) (classes more all : List Class) (from to : ℕ)
    → All (λ n. IsWithin classes n.value) spans → is_named w (heads_in classes spans) ≡ false → all ≡ classes ++ more → from ≡ length classes → to ≡ length all
    → after ≡ with_one spans (record { name = w; value = record { from = from; to = to } })
    → heads_in all after ≡ heads_in classes spans ++ record { name = w; value = more } ∷ []
heads_with_one w spans after classes more all from to within other is starts ends added =
    let span : Span = record { from = length classes; to = length (classes ++ more) } in
    let new : is_named w spans ≡ false = not_named_in_spans w spans classes other in
    let behind : after ≡ spans ++ record { name = w; value = record { from = from; to = to } } ∷ [] = rw new at added in
    let last : to ≡ length (classes ++ more) = ends ∙ ap length is in
    rw (is, behind, starts, last) (heads_pushed w spans classes more span within (new_classes classes more))

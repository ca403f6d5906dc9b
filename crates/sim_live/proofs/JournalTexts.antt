-- The text of a journal, entry by entry.
use Rattle.std.proofs.Common.{◌≡◌, ◌+◌, ◌<◌, ℕ, List, [], ◌∷◌, ◌++◌, length, take, drop, sym, ap, ◌∙◌, append_assoc, append-nil}
use Rattle.std.specs.Prelude.{flat_map, slice_index_or}
use Rattle.std.proofs.lemmas.Grind.{flat_map-append}
use Rattle.std.proofs.lemmas.List.{take_more, take-append-drop}
use Rattle.sim_types.specs.declared.setup.Arrival.{Arrival}
use Rattle.sim_trace.specs.Texts.{arrival_text, journal_text}

module _ (ports : List (List ℕ)) where
  entries_behind : (front back : List Arrival) → journal_text ports (front ++ back) ≡ journal_text ports front ++ flat_map (arrival_text ports) back
  entries_behind front back =
      ap (λ l. journal_text ports [] ++ l) (flat_map-append (arrival_text ports) front back)
      ∙ sym (append_assoc (journal_text ports []) (flat_map (arrival_text ports) front) (flat_map (arrival_text ports) back))

  pub journal_next : (journal : List Arrival) (k : ℕ) (d : Arrival) → k < length journal
      → journal_text ports (take (k + 1) journal) ≡ journal_text ports (take k journal) ++ arrival_text ports (slice_index_or journal k d)
  journal_next journal k d below =
      ap (journal_text ports) (take_more journal k d below)
      ∙ (entries_behind (take k journal) (slice_index_or journal k d ∷ [])
      ∙ ap (λ l. journal_text ports (take k journal) ++ l) (append-nil (arrival_text ports (slice_index_or journal k d))))

  pub journal_parted : (n : ℕ) (journal : List Arrival)
      → journal_text ports journal ≡ journal_text ports (take n journal) ++ flat_map (arrival_text ports) (drop n journal)
  journal_parted n journal = ap (journal_text ports) (sym (take-append-drop n journal)) ∙ entries_behind (take n journal) (drop n journal)

-- the same by names and entries that are the same
pub journal_entries : (ports names : List (List ℕ)) (entries journal : List Arrival) → ports ≡ names → entries ≡ journal
    → journal_text ports entries ≡ journal_text names journal
journal_entries ports names entries journal same is = ap (λ l. journal_text l entries) same ∙ ap (journal_text names) is

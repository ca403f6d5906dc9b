-- What is told of all resources in the end is what the run tells of each.
use Rattle.std.proofs.Common.{◌≡◌, ◌<◌, ℕ, ℤ, List, ◌++◌, append-nil, length, take, drop, map, get_or, sym, ap, ◌∙◌, arith}
use Rattle.std.specs.List.{range_with_len}
use Rattle.std.proofs.lemmas.List.{drop_all, ext_get_or, get_or-map, length-map, take_all}
use Rattle.std.proofs.lemmas.List.FromFn.{get_or-map-range_with_len, length-map-range_with_len}
use Rattle.sim_types.specs.declared.line.WatchRow.{WatchRow}
use Rattle.sim_machine.specs.Measures.{row_of}
use Rattle.sim_machine_law.specs.Courses.{Run}
use Rattle.sim_script_model.specs.Scripts.{Script}
use Rattle.sim_watch.specs.Watched.{WatchedOf, row_at}
use Rattle.sim_watch.specs.Following.{time_after, measure_after, AreWatched}

pub rows_are : (r : Run Script) (k : ℕ) (rows : List WatchedOf) (now : ℤ) → AreWatched r k rows → time_after r k ≡ now → (d : WatchedOf)
    → map (row_at now) rows ≡ map (λ res. row_of (time_after r) (measure_after r res) k) (range_with_len 0 (length r.plan.setup.resources))
rows_are r k rows now h is d =
    ext_get_or (row_at now d) (map (row_at now) rows) (map told (range_with_len 0 (length r.plan.setup.resources)))
    (length-map rows (row_at now) ∙ (h.all ∙ sym (length-map-range_with_len told 0 (length r.plan.setup.resources))))
    (λ i below. same i (rw length-map at below))
  where
    told : ℕ → WatchRow
    told res = row_of (time_after r) (measure_after r res) k

    same : (i : ℕ) → i < length rows → get_or (map (row_at now) rows) i (row_at now d)
        ≡ get_or (map told (range_with_len 0 (length r.plan.setup.resources))) i (row_at now d)
    same i below =
        get_or-map (row_at now) rows i d (row_at now d) below
        ∙ (ap (λ t. row_at t (get_or rows i d)) (sym is) ∙ (h.each i d below).row)
        ∙ sym (get_or-map-range_with_len told 0 (length r.plan.setup.resources) i i (row_at now d) (rw h.all at below) (omega arith))

-- what is written through a vector's slice of all its elements is what the vector holds
pub whole_slice : {X : Type 0} (len : ℕ) (xs ys : List X) → length xs ≡ length ys → length ys ≡ len → take len (xs ++ drop (length xs) ys) ≡ xs
whole_slice len xs ys same all =
    ap (λ zs. take len (xs ++ zs)) (drop_all (length xs) ys (omega (arith, same)))
    ∙ (ap (take len) (append-nil xs) ∙ take_all len xs (omega (arith, same, all)))

-- Intervals with their indices.
use Rattle.std.proofs.Common.{ℕ, zero, suc, ◌≡◌, ◌<◌, ◌+◌, refl, sym, ap, ◌∙◌, arith, List, [], ◌∷◌, ◌++◌, length}
use Rattle.std.proofs.Common.{get_or, drop, drop-cons, append_assoc}
use Rattle.std.proofs.lemmas.List.Sums.{sum_by-cons}
use Rattle.track_assign.specs.declared.packing.Interval.{Interval}
use Rattle.track_assign.specs.declared.rows.Entry.{Entry}
use Rattle.track_assign.specs.Density as given
use Rattle.track_assign.specs.Rows.{entry, entries_from, entry_over, over}

pub many : (k : ℕ) (xs : List Interval) → length (entries_from k xs) ≡ length xs
many k [] = refl
many k (x ∷ xs) = let e = many (suc k) xs in omega (arith, e)

pub over_entries : (c k : ℕ) (xs : List Interval) → over c (entries_from k xs) ≡ given.over c xs
over_entries c k [] = refl
over_entries c k (x ∷ xs) =
    let a = sum_by-cons (entry_over c) (entry x k) (entries_from (suc k) xs) in
    let b = sum_by-cons (given.lies_over c) x xs in
    let e = over_entries c (suc k) xs in
    omega (arith, a, b, e)

pub entry_at : (k : ℕ) (xs : List Interval) (i : ℕ) (d : Interval) (e : Entry) → i < length xs
    → get_or (entries_from k xs) i e ≡ entry (get_or xs i d) (k + i)
entry_at k [] i d e lt = absurd (omega (arith, lt))
entry_at k (x ∷ xs) zero d e lt = let z : k ≡ k + 0 = omega arith in ap (entry x) z
entry_at k (x ∷ xs) (suc i) d e lt = let z : suc k + i ≡ k + suc i = omega arith in
    entry_at (suc k) xs i d e (omega (arith, lt)) ∙ ap (entry (get_or xs i d)) z

-- one more that is added
pub going_more : (front : List Entry) (i : ℕ) (xs : List Interval) (d : Interval) → i < length xs → front
    ++ entries_from i (drop i xs) ≡ entries_from 0 xs
    → (front ++ entry (get_or xs i d) i ∷ []) ++ entries_from (i + 1) (drop (i + 1) xs) ≡ entries_from 0 xs
going_more front i xs d lt e =
    let q : suc i ≡ i + 1 = omega arith in
    append_assoc front (entry (get_or xs i d) i ∷ []) (entries_from (i + 1) (drop (i + 1) xs))
    ∙ ap (λ k. front ++ (entry (get_or xs i d) i ∷ entries_from k (drop k xs))) (sym q)
    ∙ ap (λ ys. front ++ entries_from i ys) (sym (drop-cons xs i d lt)) ∙ e

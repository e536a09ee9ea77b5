-- A band has at most as many rows as segments.
use Rattle.std.proofs.Common.{ℕ, ◌≤◌, ◌+◌, ◌&&◌, List, [], ◌∷◌, length}
use Rattle.std.proofs.Common.{arith}
use Rattle.std.specs.Prelude.{nat_le}
use Rattle.std.specs.List.{range_with_len, sum_by}
use Rattle.std.proofs.lemmas.List.Sums.{sum_by-cons}
use Rattle.mp_base.proofs.Tests.{if_at_most_one}
use Rattle.mp_base.proofs.Lists.{length_map}
use Rattle.std.proofs.lemmas.List.FromFn.{length-range_with_len}
use Rattle.nor_net.specs.declared.net.Part.{Part}
use Rattle.track_assign.specs.Density.{lies_over, IsDensity}
use Rattle.array_form.specs.Homes.{Columns}
use Rattle.array_form.specs.Place.{cols_in, interval_of, intervals_in}

sum_few : {A : Type 0} (f : A → ℕ) → ((a : A) → f a ≤ 1) → (xs : List A) → sum_by f xs ≤ length xs
sum_few f h [] = omega arith
sum_few f h (x ∷ xs) = let i = sum_few f h xs in let b = h x in let c = sum_by-cons f x xs in omega arith

pub rows_few : (y : Columns) (parts : List Part) (rows column : ℕ) → IsDensity (intervals_in y parts) rows column
    → rows ≤ length parts + 3
rows_few y parts rows column d =
    let s = sum_few (lies_over column) (λ i. if_at_most_one (nat_le i.first column && nat_le column (i.last + 1)))
    (intervals_in y parts) in
    let m = length_map (λ k. interval_of (cols_in y parts k)) (range_with_len 0 (length parts + 3)) in
    let l = length-range_with_len 0 (length parts + 3) in
    let r = d.reached in
    omega arith

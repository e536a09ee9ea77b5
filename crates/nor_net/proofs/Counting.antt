-- How many inputs there are among the first parts.
use Rattle.std.proofs.Common.{◌≡◌, ℕ, ◌<◌, ◌≤◌, ◌+◌, zero, suc, List, [], ◌∷◌, Some, length, take, get_or, ◌∙◌, ap}
use Rattle.std.proofs.Common.{arith}
use Rattle.std.specs.Prelude.{slice_get}
use Rattle.std.proofs.lemmas.Option.{get_or_from_slice_get, slice_get_within}
use Rattle.std.proofs.lemmas.List.Sums.{sum_by-cons, sum_by_more}
use Rattle.nor_net.specs.declared.net.Part.{Part}
use Rattle.nor_net.specs.declared.net.Part.TheVariants.{Input, Gate, Latch}
use Rattle.nor_net.specs.Shape.{count_inputs, input_count}

-- one more part
pub inputs_more : (parts : List Part) (i : ℕ) (d : Part) → i < length parts
    → count_inputs (take (i + 1) parts) ≡ count_inputs (take i parts) + input_count (get_or parts i d)
inputs_more parts i d l = sum_by_more input_count parts i d l

pub count_more : (parts : List Part) (k : ℕ) (p : Part) → slice_get parts k ≡ Some p
    → count_inputs (take (k + 1) parts) ≡ count_inputs (take k parts) + input_count p
count_more parts k p e =
    sum_by_more input_count parts k p (slice_get_within parts k p e)
    ∙ ap (λ q. count_inputs (take k parts) + input_count q) (get_or_from_slice_get parts k p p e)

pub one_input : (p : Part) → input_count p ≤ 1
one_input Input = omega arith
one_input (Gate inputs) = omega arith
one_input (Latch phase source) = omega arith

pub count_small : (parts : List Part) (k : ℕ) → count_inputs (take k parts) ≤ k
count_small parts zero = omega arith
count_small [] (suc k) = omega arith
count_small (q ∷ qs) (suc k) =
    let a : count_inputs (take (suc k) (q ∷ qs)) ≡ input_count q + count_inputs (take k qs) =
    sum_by-cons input_count q (take k qs) in
    let b = one_input q in
    let r = count_small qs k in
    omega (arith, a, b, r)

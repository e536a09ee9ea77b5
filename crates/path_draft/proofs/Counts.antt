-- How many inputs gates have, and how many gates and latches there are.
use Rattle.std.proofs.Common.{◌≡◌, ◌≤◌, ◌<◌, ◌+◌, ℕ, List, [], ◌∷◌, Some, get_or, length, take, refl, subst, ◌∙◌, ap, arith}
use Rattle.std.specs.Prelude.{IfSome, slice_get, sum_by}
use Rattle.std.proofs.lemmas.List.Sums.{sum_by-cons, sum_by_more, sum_by_more_le}
use Rattle.std.proofs.lemmas.Option.{get_or_from_slice_get, slice_get-get_or, slice_get_within}
use Rattle.nor_net.specs.declared.net.Part.{Part}
use Rattle.nor_net.specs.declared.net.Part.TheVariants.{Input, Gate, Latch}
use Rattle.nor_net.specs.Shape.{count_inputs, fan_in, gate_inputs, input_count}
use Rattle.path_form.specs.Sizes.{active}

-- one more part
pub gates_more : (parts : List Part) (n : ℕ) (p : Part) → slice_get parts n ≡ Some p
    → gate_inputs (take (n + 1) parts) ≡ gate_inputs (take n parts) + fan_in p
gates_more parts n p e =
    sum_by_more fan_in parts n p (slice_get_within parts n p e)
    ∙ ap (λ q. gate_inputs (take n parts) + fan_in q) (get_or_from_slice_get parts n p p e)

pub gates_within : (parts : List Part) (n : ℕ) (p : Part) → slice_get parts n ≡ Some p
    → gate_inputs (take n parts) + fan_in p ≤ gate_inputs parts
gates_within parts n p e =
    let l = sum_by_more_le fan_in parts n p (slice_get_within parts n p e) in
    let same = ap fan_in (get_or_from_slice_get parts n p p e) in
    omega (arith, l, same)

-- the same, where that many inputs are told
pub fan_within : (parts : List Part) (n f : ℕ) → n < length parts → IfSome (slice_get parts n) (λ p. f ≡ fan_in p)
    → (gate_inputs (take (n + 1) parts) ≡ gate_inputs (take n parts) + f)
    × (gate_inputs (take n parts) + f ≤ gate_inputs parts)
fan_within parts n f l h =
    let p = get_or parts n Input in
    let at = slice_get-get_or parts n Input l in
    let is : f ≡ fan_in p = subst (λ o. IfSome o (λ p. f ≡ fan_in p)) at h in
    let more = gates_more parts n p at in
    let within = gates_within parts n p at in
    (omega (arith, more, is), omega (arith, within, is))

one_or_other : (p : Part) → active p + input_count p ≡ 1
one_or_other Input = refl
one_or_other (Gate inputs) = refl
one_or_other (Latch phase source) = refl

pub active_others : (parts : List Part) → sum_by active parts + count_inputs parts ≡ length parts
active_others [] = refl
active_others (p ∷ ps) =
    let a : sum_by active (p ∷ ps) ≡ active p + sum_by active ps = sum_by-cons active p ps in
    let b : count_inputs (p ∷ ps) ≡ input_count p + count_inputs ps = sum_by-cons input_count p ps in
    let one = one_or_other p in
    let rest = active_others ps in
    omega (arith, a, b, one, rest)

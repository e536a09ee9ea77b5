-- The bits of pads, for all crates above.
use Rattle.std.proofs.Common.{ℕ, length, ◌≡◌, zero, refl, suc, ◌∙◌, arith, cond, ◌==◌}
use Rattle.std.proofs.lemmas.List.{length-append}
use Rattle.std.proofs.lemmas.Bool.{ne_eqb, cond-false}
use Rattle.mp_base.specs.PadBits.{low_bits, bit_count}

pub length_bits : (n value : ℕ) → length (low_bits n value) ≡ n
length_bits zero value = refl
length_bits (suc n) value = length-append (low_bits n value) _ ∙ (let e = length_bits n value in omega arith)

-- the number of a pad's bits, as a program counts them
pub same_count : (w : ℕ) → cond (w == 0) 1 w ≡ bit_count w
same_count zero = refl
same_count (suc w) = cond-false (suc w == 0) 1 (suc w) (ne_eqb (suc w) 0 (λ e. omega (arith, e)))

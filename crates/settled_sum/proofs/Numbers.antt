-- The bits of a value are its number again.
use Rattle.std.proofs.Common.{◌≡◌, ◌∙◌, ℕ, zero, suc, ◌+◌, ◌*◌, ◌<◌, ◌^◌, ◌%◌, List, [], ◌∷◌, length}
use Rattle.std.proofs.Common.{get_or, sym, ap, subst, arith}
use Rattle.std.specs.Prelude.{slice_index}
use Rattle.std.specs.Int.{bit_at}
use Rattle.std.proofs.Math.Nat.{mod-eq_of_lt}
use Rattle.std.proofs.lemmas.Nat.{mod-pow-add}
use Rattle.std.proofs.lemmas.Nat.Bits.{bit_at-lt}
use Rattle.mp_base.specs.declared.pad.Pad.{Pad}
use Rattle.mp_base.specs.PadBits.{bit_count, trit_of, low_bits, value_bits}
use Rattle.stimulus.specs.Fitting.{bound_at}
use Rattle.stimulus.specs.Transcript.{weight, number_of}
use Rattle.stimulus.proofs.Bits.{number_more, weight_of}
use Rattle.mp_base.proofs.PadBits.{same_count, length_bits}
use Rattle.settled_sum.specs.Sum.{first_number}

number_low : (n v : ℕ) → number_of (low_bits n v) ≡ v % 2 ^ n
number_low zero v = let e : v % 1 ≡ 0 = omega arith in sym e
number_low (suc n) v =
    number_more (low_bits n v) (trit_of (bit_at v n))
    ∙ ap (λ x. number_of (low_bits n v) + weight (trit_of (bit_at v n)) * 2 ^ x) (length_bits n v)
    ∙ ap (λ x. x + weight (trit_of (bit_at v n)) * 2 ^ n) (number_low n v)
    ∙ ap (λ x. v % 2 ^ n + x * 2 ^ n) (weight_of (bit_at v n) (bit_at-lt v n))
    ∙ swap (v % 2 ^ n) (bit_at v n * 2 ^ n)
    ∙ sym (mod-pow-add v 1 n) ∙ ap (λ m. v % 2 ^ m) (let e : 1 + n ≡ suc n = omega arith in e)
  where
    swap : (a b : ℕ) → a + b ≡ b + a
    swap a b = omega arith

-- where the values fit, the number that the first output shows is the first value
pub first_value : (pads : List Pad) (values : List ℕ) → 0 < length pads → 0 < length values
    → get_or values 0 0 < bound_at pads 0 → first_number (value_bits pads values) ≡ slice_index values 0
first_value [] values some many small = absurd (omega (arith, some))
first_value (p ∷ ps) [] some many small = absurd (omega (arith, many))
first_value (p ∷ ps) (v ∷ vs) some many small =
    let P : ℕ → Type 0 = λ n. v < 2 ^ n in
    number_low (bit_count p.width) v ∙ mod-eq_of_lt (subst P (same_count p.width) small)

-- Words of known bits as numbers, for all crates above.
use Rattle.std.proofs.Common.{◌≡◌, ◌∙◌, ℕ, zero, suc, ◌+◌, ◌*◌, ◌%◌, ◌^◌, ◌<◌, cond, eqb, sym, ap, arith}
use Rattle.std.specs.Prelude.{bit_and, min}
use Rattle.std.specs.Int.{bit_at}
use Rattle.std.proofs.Math.Nat.{add_comm}
use Rattle.std.proofs.lemmas.Nat.{mod-pow-add}
use Rattle.std.proofs.lemmas.Nat.Bits.{bit_at-lt, bit_at_and}
use Rattle.mp_base.specs.declared.value.Trit.TheVariants.{X}
use Rattle.mp_base.specs.declared.value.TritWord.{TritWord}
use Rattle.stimulus.specs.Transcript.{weight, number_of}
use Rattle.stimulus.specs.Bits.{low_trits, trit_at}
use Rattle.mp_base.specs.PadBits.{trit_of}
use Rattle.stimulus.proofs.Bits.{many_trits, number_more}

pub weight_both : (k b : ℕ) → k < 2 → b < 2 → weight (cond (eqb k 1) (trit_of b) X) ≡ min k b
weight_both zero b small less = omega arith
weight_both (suc zero) zero small less = omega arith
weight_both (suc zero) (suc zero) small less = omega arith
weight_both (suc zero) (suc (suc b)) small less = absurd (omega (arith, less))
weight_both (suc (suc k)) b small less = absurd (omega (arith, small))

-- the number of a word's low bits, of which an unknown one counts nothing
pub number_low : (word : TritWord) (n : ℕ) → number_of (low_trits n word) ≡ bit_and word.known word.bits % 2 ^ n
number_low word zero = let e : bit_and word.known word.bits % 1 ≡ 0 = omega arith in sym e
number_low word (suc n) =
    let both = bit_and word.known word.bits in
    number_more (low_trits n word) (trit_at word n)
    ∙ ap (λ x. number_of (low_trits n word) + weight (trit_at word n) * 2 ^ x) (many_trits word n)
    ∙ ap (λ x. x + weight (trit_at word n) * 2 ^ n) (number_low word n)
    ∙ ap (λ x. both % 2 ^ n + x * 2 ^ n)
    (weight_both (bit_at word.known n) (bit_at word.bits n) (bit_at-lt word.known n) (bit_at-lt word.bits n)
    ∙ sym (bit_at_and word.known word.bits n))
    ∙ add_comm (both % 2 ^ n) (bit_at both n * 2 ^ n)
    ∙ sym (mod-pow-add both 1 n) ∙ ap (λ m. both % 2 ^ m) (let e : 1 + n ≡ suc n = omega arith in e)

-- The bits of pads, and the numbers that words show.
use Rattle.std.proofs.Common.{◌≡◌, ◌∙◌, ℕ, zero, suc, ◌-◌, ◌/◌, ◌%◌, ◌<◌, ◌≤◌, ◌^◌, List, [], ◌∷◌, length, get_or}
use Rattle.std.proofs.Common.{sym, ap, ap₂, arith, bit_and}
use Rattle.std.specs.Prelude.{slice_index_or}
use Rattle.std.proofs.lemmas.Nat.{and_mask}
use Rattle.std.proofs.lemmas.Nat.Bits.{ones_shr}
use Rattle.mp_base.specs.declared.value.TritWord.{TritWord}
use Rattle.mp_base.specs.declared.pad.Pad.{Pad}
use Rattle.stimulus.specs.Bits.{pad_trits, trits_of}
use Rattle.mp_base.specs.PadBits.{bit_count}
use Rattle.stimulus.specs.Transcript.{number_of}
use Rattle.stimulus.proofs.Words.{number_low}

-- a pad has at most 64 bits
few_bits : (p : Pad) → bit_count p.width ≤ 64
few_bits p = of p.width p.narrow
  where
    of : (w : ℕ) → w ≤ 64 → bit_count w ≤ 64
    of zero narrow = omega arith
    of (suc w) narrow = narrow

-- the ones of a pad
pub ones : (p : Pad) (b : ℕ) → b ≡ bit_count p.width → (2 ^ 64 - 1) / 2 ^ (64 - b) ≡ 2 ^ bit_count p.width - 1
ones p b is =
    ones_shr 64 (64 - b) (omega arith)
    ∙ ap (λ n. 2 ^ n - 1) (let e : 64 - (64 - b) ≡ bit_count p.width = omega (arith, few_bits p, is) in e)

pub masked : (value all n : ℕ) → all ≡ 2 ^ n - 1 → bit_and value all ≡ value % 2 ^ n
masked value all n is = ap (bit_and value) is ∙ and_mask value n

-- ---- the number of a word, of which an unknown bit counts nothing

module _ (word : TritWord) where
  pub shown_number : (p : Pad) (all : ℕ) → all ≡ 2 ^ bit_count p.width - 1
      → bit_and (bit_and word.known word.bits) all ≡ number_of (pad_trits p word)
  shown_number p all is = masked (bit_and word.known word.bits) all (bit_count p.width) is
      ∙ sym (number_low word (bit_count p.width))

-- what a pad shows among all
pub shown_at : (pads : List Pad) (words : List TritWord) (k : ℕ) (p : Pad) (w : TritWord) → k < length pads
    → length words ≡ length pads → p ≡ get_or pads k p → w ≡ get_or words k w
    → number_of (pad_trits p w) ≡ number_of (slice_index_or (trits_of pads words) k [])
shown_at [] words k p w lt many at is = absurd (omega (arith, lt))
shown_at (q ∷ pads) [] k p w lt many at is = absurd (omega (arith, many))
shown_at (q ∷ pads) (x ∷ words) zero p w lt many at is = ap₂ (λ r y. number_of (pad_trits r y)) at is
shown_at (q ∷ pads) (x ∷ words) (suc k) p w lt many at is =
    shown_at pads words k p w (omega (arith, lt)) (omega (arith, many)) at is

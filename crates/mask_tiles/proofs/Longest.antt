-- The longest stretch round a place is one, for all crates above.
use Rattle.std.specs.Prelude.{ℤ, ◌≤ℤ◌, ◌<ℤ◌, ◌+ℤ◌, negsuc}
use Rattle.std.proofs.lemmas.Int.{by_lt_z, ints}
use Rattle.std.proofs.Common.{arith, ◌≡◌}
use Rattle.mask_tiles.specs.Tiles.{IsLongest}

pub not_after : (P : ℤ → Type 0) (a b c d z : ℤ) → IsLongest P a b → IsLongest P c d → a ≤ℤ z → z <ℤ b → c ≤ℤ z
    → z <ℤ d → a ≤ℤ c
not_after P a b c d z h k l m n o =
    by_lt_z c a (λ x. absurd (h.before (k.each (a +ℤ negsuc 0) (omega (arith, ints)) (omega (arith, ints))))) (λ x. x)

pub not_before : (P : ℤ → Type 0) (a b c d z : ℤ) → IsLongest P a b → IsLongest P c d → a ≤ℤ z → z <ℤ b → c ≤ℤ z
    → z <ℤ d → d ≤ℤ b
not_before P a b c d z h k l m n o = by_lt_z b d (λ x. absurd (h.after (k.each b (omega (arith, ints)) x))) (λ x. x)

-- two with a common place are one
pub longest_once : (P : ℤ → Type 0) (a b c d z : ℤ) → IsLongest P a b → IsLongest P c d → a ≤ℤ z → z <ℤ b → c ≤ℤ z
    → z <ℤ d → (a ≡ c) × (b ≡ d)
longest_once P a b c d z h k l m n o =
    let e = not_after P a b c d z h k l m n o in
    let f = not_after P c d a b z k h n o l m in
    let g = not_before P a b c d z h k l m n o in
    let i = not_before P c d a b z k h n o l m in
    (omega (arith, ints), omega (arith, ints))

-- Bounds of products, and what a division leaves.
use Rattle.std.proofs.Common.{ℕ, suc, ◌≡◌, ◌*◌, ◌%◌, ◌^◌, ◌≤◌, sym, ◌∙◌, ap, arith, to_z, of_z, w64}
use mir.Syntax.{w128}
use Rattle.std.specs.Prelude.{ℤ, pos, negsuc, neg_ℤ, ◌+ℤ◌, ◌-ℤ◌, ◌*ℤ◌, ◌<ℤ◌}
use Rattle.std.specs.Int.RustNames.{unsigned_abs, int_rem}
use Rattle.std.proofs.lemmas.Int.{ints, unsigned_abs-mul}
use Rattle.std.proofs.Math.Nat.{mul-mod_right}
use Rattle.std.proofs.lemmas.Nat.{mul-le}
use Rattle.cif_form.specs.Place.{Scale, IsScaled}
use Rattle.cif_place.specs.Placing.{IsWithin, IsShort}

abs_within : (n : ℕ) (z : ℤ) → IsWithin n z → unsigned_abs z ≤ n
abs_within n (pos k) h = omega (arith, ints, h.1)
abs_within n (negsuc k) h = omega (arith, ints, h.0)

within_abs : (n : ℕ) (z : ℤ) → unsigned_abs z ≤ n → IsWithin n z
within_abs n (pos k) h = (omega (arith, ints, h), omega (arith, ints, h))
within_abs n (negsuc k) h = (omega (arith, ints, h), omega (arith, ints, h))

pub within_times : (m n : ℕ) (a b : ℤ) → IsWithin m a → IsWithin n b → IsWithin (m * n) (a *ℤ b)
within_times m n a b h k =
    let e = unsigned_abs-mul a b in
    let l = mul-le (unsigned_abs a) (unsigned_abs b) m n (abs_within m a h) (abs_within n b k) in
    within_abs (m * n) (a *ℤ b) (omega (arith, e, l))

pub within_more : (m n : ℕ) (z : ℤ) → m ≤ n → IsWithin m z → IsWithin n z
within_more m n z l h = (omega (arith, ints, h.0), omega (arith, ints, h.1))

-- nothing remains of a multiple
pub rem_multiple : (d z p : ℤ) → pos 0 <ℤ d → d *ℤ z ≡ p → int_rem p d ≡ pos 0
rem_multiple (pos d) z (pos a) above e =
    let m : a ≡ d * unsigned_abs z = sym (ap unsigned_abs e) ∙ unsigned_abs-mul (pos d) z in
    ap (λ n. pos (n % d)) m ∙ ap pos (mul-mod_right d (unsigned_abs z))
rem_multiple (pos d) z (negsuc a) above e =
    let m : suc a ≡ d * unsigned_abs z = sym (ap unsigned_abs e) ∙ unsigned_abs-mul (pos d) z in
    ap (λ n. neg_ℤ (pos (n % d))) m ∙ ap (λ n. neg_ℤ (pos n)) (mul-mod_right d (unsigned_abs z))
rem_multiple (negsuc d) z p above e = absurd (omega (arith, ints, above))

-- what a signed number of 64 or 128 bits keeps
pub kept_64 : (z : ℤ) → IsWithin (2 ^ 33) z → to_z w64 (of_z w64 z) ≡ z
kept_64 z h = omega (arith, ints, h.0, h.1)

pub short_kept : (z : ℤ) → IsShort z → to_z w64 (of_z w64 z) ≡ z
short_kept z h = omega (arith, ints, h.0, h.1)

pub less_kept : (r z w : ℤ) → IsWithin (2 ^ 33) r → IsShort z → IsShort w
    → r ≡ pos 2 *ℤ to_z w64 (of_z w64 z) -ℤ to_z w64 (of_z w64 w)
    → to_z w64 (of_z w64 r) ≡ pos 2 *ℤ z -ℤ w
less_kept r z w l h k e =
    kept_64 r l ∙ e ∙ ap (λ y. pos 2 *ℤ y -ℤ to_z w64 (of_z w64 w)) (short_kept z h)
    ∙ ap (λ y. pos 2 *ℤ z -ℤ y) (short_kept w k)

pub more_kept : (r z w : ℤ) → IsWithin (2 ^ 33) r → IsShort z → IsShort w
    → r ≡ pos 2 *ℤ to_z w64 (of_z w64 z) +ℤ to_z w64 (of_z w64 w)
    → to_z w64 (of_z w64 r) ≡ pos 2 *ℤ z +ℤ w
more_kept r z w l h k e =
    kept_64 r l ∙ e ∙ ap (λ y. pos 2 *ℤ y +ℤ to_z w64 (of_z w64 w)) (short_kept z h)
    ∙ ap (λ y. pos 2 *ℤ z +ℤ y) (short_kept w k)

pub kept_128 : (z : ℤ) → IsWithin (2 ^ 64) z → to_z w128 (of_z w128 z) ≡ z
kept_128 z h = omega (arith, ints, h.0, h.1)

pub scaled_same : (s : Scale) (w v y z : ℤ) → w ≡ v → z ≡ y → IsScaled s w y → IsScaled s v z
scaled_same s w v y z e f h = (h.0, ap (λ k. s.b *ℤ k) f ∙ h.1 ∙ ap (λ k. s.a *ℤ k) e)

-- ---- a scaled number is determined

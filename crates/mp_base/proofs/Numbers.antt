-- Sums, products and powers, for all crates above.
use Rattle.std.proofs.Common.{ℕ, ◌<◌, ◌^◌, arith, suc, ◌≡◌, ◌+◌, ◌*◌, inl, inr, ap, sym, ◌∙◌, ◌≤◌}
use Rattle.std.proofs.Common.{◌⊎◌, zero, refl}
use Rattle.std.proofs.Math.Pow.{pow_mono}
use Rattle.std.proofs.lemmas.Bool.{cases_lt}
use Rattle.std.specs.Prelude.{ℤ, pos, ◌*ℤ◌, negsuc, neg_ℤ}
use Rattle.std.proofs.lemmas.Int.{ints}
use lib.IntN.{pos-*ℤ-negsuc}

pub power_positive : (w : ℕ) → 0 < 2 ^ w
power_positive w = omega (arith, pow_mono {i = 0} {j = w} (omega arith))

pub suc_is_next : (a : ℕ) → suc a ≡ a + 1
suc_is_next a = omega arith

pub below_times : (b x y : ℕ) → 0 < b → x < y → b * x < b * y
below_times b x y h k = grind arith

pub cancel_factor : (b x y : ℕ) → 0 < b → b * x ≡ b * y → x ≡ y
cancel_factor b x y h e = elim (cases_lt x y) [
  | inl l ↦ (let k = below_times b x y h l in absurd (omega arith))
  | inr l ↦ elim (cases_lt y x) [
    | inl m ↦ (let k = below_times b y x h m in absurd (omega arith))
    | inr m ↦ omega arith
  ]
]

pub cancel_integer_factor : (b : ℕ) (z v : ℤ) → 0 < b → pos b *ℤ z ≡ pos b *ℤ v → z ≡ v
cancel_integer_factor b (pos x) (pos y) h e = ap pos (cancel_factor b x y h (omega (arith, ints)))
cancel_integer_factor b (negsuc x) (negsuc y) h e =
    let m : neg_ℤ (pos (b * suc x)) ≡ neg_ℤ (pos (b * suc y)) = sym (pos-*ℤ-negsuc b x) ∙ e ∙ pos-*ℤ-negsuc b y in
    let k : suc x ≡ suc y = cancel_factor b (suc x) (suc y) h (omega (arith, ints)) in
    ap negsuc (omega arith)
cancel_integer_factor b (pos x) (negsuc y) h e =
    let m : pos (b * x) ≡ neg_ℤ (pos (b * suc y)) = e ∙ pos-*ℤ-negsuc b y in
    let k = below_times b 0 (suc y) h (omega arith) in
    absurd (omega (arith, ints))
cancel_integer_factor b (negsuc x) (pos y) h e =
    let m : neg_ℤ (pos (b * suc x)) ≡ pos (b * y) = sym (pos-*ℤ-negsuc b x) ∙ e in
    let k = below_times b 0 (suc x) h (omega arith) in
    absurd (omega (arith, ints))

pub at_most_times : (b k : ℕ) → 0 < b → k ≤ b * k
at_most_times b k some = grind arith

pub times_suc : (n m : ℕ) → m + n * m ≡ suc n * m
times_suc n m = grind arith

pub times_next : (n m : ℕ) → (n + 1) * m ≡ n * m + m
times_next n m = grind arith

pub below_suc : (k i : ℕ) → k < i + 1 → (k < i) ⊎ (k ≡ i)
below_suc k i h = grind arith

pub below_or_last : (k n : ℕ) → k < suc n → (k ≡ n) ⊎ (k < n)
below_or_last zero zero lt = inl refl
below_or_last zero (suc n) lt = inr (omega arith)
below_or_last (suc k) zero lt = absurd (omega (arith, lt))
below_or_last (suc k) (suc n) lt = elim (below_or_last k n (omega (arith, lt))) [
  | inl e ↦ inl (ap suc e)
  | inr h ↦ inr (omega (arith, h))
]

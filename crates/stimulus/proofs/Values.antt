-- Values below a power of two.
use Rattle.std.proofs.Common.{◌≡◌, ℕ, ◌+◌, ◌*◌, ◌/◌, ◌<◌, ◌≤◌, ◌^◌, arith, true, eqb, eq-eqb, ◌-◌, sym, ap, ◌∙◌}
use Rattle.std.specs.Prelude.{Bool, false, cond, ◌==◌}
use Rattle.mp_base.specs.declared.pad.Pad.{Pad}
use Rattle.stimulus.specs.Rules.{bits_of}
use Rattle.std.proofs.Math.Nat.{div-eq_of_lt, div-lt_iff_lt-mul}
use Rattle.std.proofs.lemmas.Bool.{eqb-true}
use Rattle.std.proofs.lemmas.Nat.{pow-add, div-mul-add}
use Rattle.mp_base.proofs.Numbers.{power_positive, times_next}

-- nothing is left of a value that is shifted by more than its bits
pub shifted_out : (value w : ℕ)
    → (eqb (value / 2 ^ w) 0 ≡ true → value < 2 ^ w) × (value < 2 ^ w → eqb (value / 2 ^ w) 0 ≡ true)
shifted_out value w = (
  (λ e. let none : value / 2 ^ w < 1 = omega (arith, eqb-true (value / 2 ^ w) 0 e) in
      let below = (div-lt_iff_lt-mul {k = 2 ^ w} {x = value} {y = 1} (power_positive w)).0 none in
      omega (arith, below)),
  (λ less. eq-eqb (value / 2 ^ w) 0 (div-eq_of_lt less)),
)

-- the bits that are left of all 64
pub ones : (b : ℕ) → b ≤ 64 → (2 ^ 64 - 1) / 2 ^ (64 - b) ≡ 2 ^ b - 1
ones b le =
    let m : ℕ = 2 ^ (64 - b) in
    let n : ℕ = 2 ^ b in
    let sum : b + (64 - b) ≡ 64 = omega arith in
    let product : n * m ≡ 2 ^ 64 = sym (pow-add 2 b (64 - b)) ∙ ap (λ k. 2 ^ k) sum in
    let some : 0 < m = power_positive (64 - b) in
    let more : 0 < n = power_positive b in
    let parts : (n - 1) * m + m ≡ n * m = sym (times_next (n - 1) m) ∙ ap (λ k. k * m) (omega arith) in
    let split : 2 ^ 64 - 1 ≡ (n - 1) * m + (m - 1) = omega (arith, product, parts, some) in
    ap (λ k. k / m) split ∙ div-mul-add (n - 1) m (m - 1) (omega arith)

-- a pad has at most 64 bits
pub few_bits : (p : Pad) → bits_of p ≤ 64
few_bits p = either (p.width == 0)
  where
    either : (b : Bool) → cond b 1 p.width ≤ 64
    either true = omega arith
    either false = p.narrow

-- Numbers, digit by digit.
use Rattle.std.proofs.Common.{◌≡◌, ℕ, ◌<◌, ◌+◌, ◌-◌, ◌*◌, ◌/◌, ◌%◌, ◌^◌, zero, suc, Bool, true, false, refl, sym, ◌∙◌}
use Rattle.std.proofs.Common.{ap, subst, arith}
use Rattle.std.specs.Prelude.{◌==◌}
use Rattle.std.specs.Int.{bit_at}
use Rattle.std.proofs.Math.Nat.{pow-succ'}
use Rattle.std.proofs.Math.Arith.{mod-mul}
use Rattle.std.proofs.lemmas.Nat.{div-add-mod', div-mul-add, div_below, mod_below, pow-add}
use Rattle.std.proofs.lemmas.Nat.Bits.{bit_at-lt, bit_at_cat_low}
use Rattle.mp_base.proofs.Numbers.{power_positive}
use Rattle.organelles.proofs.Chains.{digit}

abbrev pub num : Bool → ℕ
num true = 1
num false = 0

pub digit_num : (x k : ℕ) → bit_at x k ≡ num (digit x k)
digit_num x k = by_digit (bit_at x k) (bit_at-lt x k)
  where
    by_digit : (d : ℕ) → d < 2 → d ≡ num (d == 1)
    by_digit zero l = refl
    by_digit (suc zero) l = refl
    by_digit (suc (suc d)) l = absurd (omega arith)

pub low_more : (x k : ℕ) → x % 2 ^ suc k ≡ num (digit x k) * 2 ^ k + x % 2 ^ k
low_more x k =
    let p : 2 ^ suc k ≡ 2 * 2 ^ k = pow-succ' 2 k in
    let m : x % (2 * 2 ^ k) ≡ (x / 2 ^ k % 2) * 2 ^ k + x % 2 ^ k = mod-mul x (omega arith) (power_positive k) in
    ap (λ n. x % n) p ∙ m ∙ ap (λ d. d * 2 ^ k + x % 2 ^ k) (digit_num x k)

pub digit_of_mod : (x w k : ℕ) → k < w → bit_at (x % 2 ^ w) k ≡ bit_at x k
digit_of_mod x w k l = sym (bit_at_cat_low (x / 2 ^ w) w (x % 2 ^ w) k l)
    ∙ ap (λ n. bit_at n k) (div-add-mod' x (2 ^ w))

pub num_digit : (b : Bool) → (num b == 1) ≡ b
num_digit true = refl
num_digit false = refl

-- a power of 2 is an even multiple of a lower one
pub power_split : (w k : ℕ) → k < w → (m : ℕ) × (2 ^ w ≡ (2 * m) * 2 ^ k)
power_split w k l =
    let e : w ≡ suc (w - suc k) + k = omega arith in
    let f : 2 ^ (suc (w - suc k) + k) ≡ 2 ^ suc (w - suc k) * 2 ^ k = pow-add 2 (suc (w - suc k)) k in
    (2 ^ (w - suc k), ap (λ n. 2 ^ n) e ∙ f ∙ ap (λ n. n * 2 ^ k) (pow-succ' 2 (w - suc k)))

parity_off : (d q m : ℕ) → d + q + 1 ≡ 2 * m → d % 2 ≡ 1 - q % 2
parity_off d q m e = omega arith

-- the complement has the other digits: with x it is all ones
pub complement_digit : (x w k : ℕ) → x < 2 ^ w → k < w → bit_at (2 ^ w - 1 - x) k ≡ 1 - bit_at x k
complement_digit x w k fits l =
    let s = power_split w k l in
    let high : x / 2 ^ k < 2 * s.0 = div_below x (2 ^ k) (2 * s.0) (power_positive k) (subst (λ n. x < n) s.1 fits) in
    let d : ℕ = 2 * s.0 - 1 - x / 2 ^ k in
    let whole : (2 * s.0 - 1 - x / 2 ^ k) + x / 2 ^ k + 1 ≡ 2 * s.0 = omega arith in
    let times : ((2 * s.0 - 1 - x / 2 ^ k) + x / 2 ^ k + 1) * 2 ^ k ≡ (2 * s.0) * 2 ^ k = ap (λ n. n * 2 ^ k) whole in
    by_parts (2 * s.0 - 1 - x / 2 ^ k) (x / 2 ^ k) (x % 2 ^ k) (2 ^ k) (2 ^ w) s.0 (div-add-mod' x (2 ^ k))
    (mod_below x (2 ^ k) (power_positive k)) (power_positive k) whole (times ∙ sym s.1)
  where
    by_parts : (d q r p n m : ℕ) → q * p + r ≡ x → r < p → 0 < p → d + q + 1 ≡ 2 * m → (d + q + 1) * p ≡ n
        → (n - 1 - x) / p % 2 ≡ 1 - q % 2
    by_parts d q r p n m split low pos whole times =
        let e : n - 1 - x ≡ d * p + (p - 1 - r) = omega arith in
        let f : (n - 1 - x) / p ≡ d = ap (λ t. t / p) e ∙ div-mul-add d p (p - 1 - r) (omega arith) in
        ap (λ t. t % 2) f ∙ parity_off d q m whole

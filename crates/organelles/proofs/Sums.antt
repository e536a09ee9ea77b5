-- Slices of Add have the sum.
use Rattle.std.proofs.Common.{◌≡◌, ℕ, ◌<◌, ◌≤◌, ◌+◌, ◌-◌, ◌*◌, ◌/◌, ◌%◌, ◌^◌, zero, suc, List, Bool, true, false}
use Rattle.std.proofs.Common.{get_or, length, refl, sym, ◌∙◌, ap, subst, arith}
use Rattle.std.specs.Prelude.{◌==◌}
use Rattle.std.specs.Int.{bit_at}
use Rattle.std.proofs.Math.Nat.{pow-succ'}
use Rattle.std.proofs.lemmas.Nat.{div-add-mod', div-mul-add, mod_below}
use Rattle.mp_base.proofs.Numbers.{power_positive}
use Rattle.nor_net.specs.Laws.{bit}
use Rattle.organelles.specs.declared.slices.Organelle.TheVariants.{Add}
use Rattle.organelles.specs.Tables.{table_of}
use Rattle.organelles.specs.Computing.{OperatorComputes}
use Rattle.organelles.proofs.Chains.{digit, slice_bits, carry, slice_bit, bits_up}
use Rattle.organelles.proofs.Numbers.{num, digit_num, low_more, digit_of_mod}

abbrev pub gates : List (List ℕ)
gates = (table_of Add).gates

long : (a b c : Bool) → length (slice_bits gates a b c) ≡ 12
long a b c = refl

-- the carry says whether the low digits pass the top
abbrev pub Carries : Bool → ℕ → ℕ → ℕ → Type 0
Carries true p x y = p ≤ x + y
Carries false p x y = x + y < p

more : (a b c : Bool) (p x y : ℕ) → x < p → y < p → Carries c p x y
    → Carries (get_or (slice_bits gates a b c) 11 false) (2 * p) (num a * p + x) (num b * p + y)
more true true true p x y l m h = omega arith
more true true false p x y l m h = omega arith
more true false true p x y l m h = omega arith
more true false false p x y l m h = omega arith
more false true true p x y l m h = omega arith
more false true false p x y l m h = omega arith
more false false true p x y l m h = omega arith
more false false false p x y l m h = omega arith

pub sum_bit : (a b c : Bool) → get_or (slice_bits gates a b c) 10 false ≡ ((num a + num b + num c) % 2 == 1)
sum_bit true true true = refl
sum_bit true true false = refl
sum_bit true false true = refl
sum_bit true false false = refl
sum_bit false true true = refl
sum_bit false true false = refl
sum_bit false false true = refl
sum_bit false false false = refl

module _ (x y : ℕ) where
  abbrev c : ℕ → Bool
  c k = carry gates 11 x y k

  pub carries : (k : ℕ) → Carries (c k) (2 ^ k) (x % 2 ^ k) (y % 2 ^ k)
  carries zero = let a = mod_below x 1 (omega arith) in let b = mod_below y 1 (omega arith) in omega (arith, a, b)
  carries (suc k) =
      let h = more (digit x k) (digit y k) (c k) (2 ^ k) (x % 2 ^ k) (y % 2 ^ k)
      (mod_below x (2 ^ k) (power_positive k))
      (mod_below y (2 ^ k) (power_positive k)) (carries k) in
      let a = subst (λ m. Carries (c (suc k)) (2 * 2 ^ k) m (num (digit y k) * 2 ^ k + y % 2 ^ k))
      (sym (low_more x k)) h in
      let b = subst (λ m. Carries (c (suc k)) (2 * 2 ^ k) (x % 2 ^ suc k) m) (sym (low_more y k)) a in
      subst (λ p. Carries (c (suc k)) p (x % 2 ^ suc k) (y % 2 ^ suc k)) (sym (pow-succ' 2 k)) b

  -- the low digits give a carry and a rest
  pub passed : (b : Bool) (p r t : ℕ) → r < p → t < p → Carries b p r t
      → (rest : ℕ) × (rest < p) × (r + t ≡ num b * p + rest)
  passed true p r t l m h = (r + t - p, omega arith, omega arith)
  passed false p r t l m h = (r + t, omega arith, omega arith)

  parity : (q r d e f : ℕ) → q % 2 ≡ d → r % 2 ≡ e → (q + r + f) % 2 ≡ (d + e + f) % 2
  parity q r d e f g h = omega arith

  pub sum_digit : (k : ℕ) → digit (x + y) k ≡ slice_bit gates 11 10 x y k
  sum_digit k =
      let p = 2 ^ k in
      let w = passed (c k) (2 ^ k) (x % 2 ^ k) (y % 2 ^ k) (mod_below x (2 ^ k) (power_positive k))
      (mod_below y (2 ^ k) (power_positive k)) (carries k) in
      let dx = div-add-mod' x (2 ^ k) in
      let dy = div-add-mod' y (2 ^ k) in
      let split : (x / 2 ^ k + y / 2 ^ k + num (c k)) * 2 ^ k + w.0 ≡ x + y = omega (arith, dx, dy, w.2) in
      let q : (x + y) / 2 ^ k ≡ x / 2 ^ k + y / 2 ^ k + num (c k) =
      ap (λ n. n / 2 ^ k) (sym split) ∙ div-mul-add (x / 2 ^ k + y / 2 ^ k + num (c k)) (2 ^ k) w.0 w.1 in
      let d : bit_at (x + y) k ≡ (num (digit x k) + num (digit y k) + num (c k)) % 2 =
      ap (λ n. n % 2) q ∙ parity (x / 2 ^ k) (y / 2 ^ k) (num (digit x k)) (num (digit y k)) (num (c k))
      (digit_num x k) (digit_num y k) in
      ap (λ n. n == 1) d ∙ sym (sum_bit (digit x k) (digit y k) (c k))

pub add_computes : OperatorComputes Add
add_computes a b s a_in b_in chains_in w v x y some narrow obeys fits_x fits_y has_x has_y k l =
    bits_up gates 10 11 refl long (omega arith) a b s chains_in w v obeys x y has_x has_y k l 10 (omega arith)
    ∙ ap bit (sym (sum_digit x y k) ∙ ap (λ n. n == 1) (sym (digit_of_mod (x + y) w k l)))

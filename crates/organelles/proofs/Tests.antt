-- Slices of Zero and Equal have their answer in the top slice, and those of Left the double.
use Rattle.std.proofs.Common.{◌≡◌, ℕ, ◌<◌, ◌+◌, ◌*◌, ◌/◌, ◌%◌, ◌^◌, zero, suc, Bool, true, false, cond, get_or, refl}
use Rattle.std.proofs.Common.{sym, ◌∙◌, ap, subst, arith}
use Rattle.std.specs.Prelude.{◌==◌}
use Rattle.std.specs.Int.{bit_at}
use Rattle.std.proofs.Math.Nat.{mod-eq_of_lt}
use Rattle.std.proofs.lemmas.Bool.{eq-eqb, ne_eqb}
use Rattle.std.proofs.lemmas.Nat.{mod_below}
use Rattle.std.proofs.lemmas.Nat.Bits.{bit_at-suc, bit_at_lowest}
use Rattle.mp_base.specs.Apply.{truth}
use Rattle.mp_base.proofs.Numbers.{power_positive}
use Rattle.nor_net.specs.Laws.{bit}
use Rattle.organelles.specs.declared.slices.Organelle.TheVariants.{Left, Zero, Equal}
use Rattle.organelles.specs.Tables.{table_of}
use Rattle.organelles.specs.Computing.{OperatorComputes}
use Rattle.organelles.proofs.Chains.{digit, slice_bits, carry, bits_up}
use Rattle.organelles.proofs.Numbers.{num, low_more, digit_of_mod}
use Rattle.organelles.proofs.Steps.{Some_low}

zero_more : (a b c : Bool) (p x : ℕ) → 0 < p → Some_low c x
    → Some_low (get_or (slice_bits (table_of Zero).gates a b c) 4 false) (num a * p + x)
zero_more true true true p x l h = omega arith
zero_more true true false p x l h = omega arith
zero_more true false true p x l h = omega arith
zero_more true false false p x l h = omega arith
zero_more false true true p x l h = omega arith
zero_more false true false p x l h = omega arith
zero_more false false true p x l h = omega arith
zero_more false false false p x l h = omega arith

zero_low : (x y k : ℕ) → Some_low (carry (table_of Zero).gates 4 x y k) (x % 2 ^ k)
zero_low x y zero = let m = mod_below x 1 (omega arith) in omega (arith, m)
zero_low x y (suc k) =
    subst (Some_low (carry (table_of Zero).gates 4 x y (suc k))) (sym (low_more x k))
    (zero_more (digit x k) (digit y k) (carry (table_of Zero).gates 4 x y k) (2 ^ k) (x % 2 ^ k) (power_positive k)
    (zero_low x y k))

-- the answer is the negation of the chain's end above it
zero_top : (a b c : Bool)
    → get_or (slice_bits (table_of Zero).gates a b c) 3 false ≡ cond
    (get_or (slice_bits (table_of Zero).gates a b c) 4 false) false true
zero_top true true true = refl
zero_top true true false = refl
zero_top true false true = refl
zero_top true false false = refl
zero_top false true true = refl
zero_top false true false = refl
zero_top false false true = refl
zero_top false false false = refl

told_zero : (c : Bool) (x : ℕ) → Some_low c x → cond c false true ≡ (truth (x == 0) == 1)
told_zero true x h = ap (λ t. truth t == 1) (sym (ne_eqb x 0 (λ e. absurd (omega arith))))
told_zero false x h = ap (λ t. truth t == 1) (sym (eq-eqb x 0 h))

pub zero_computes : OperatorComputes Zero
zero_computes a b s a_in b_in chains_in zero v x y some narrow obeys fits_x fits_y has_x has_y = absurd (omega arith)
zero_computes a b s a_in b_in chains_in (suc k) v x y some narrow obeys fits_x fits_y has_x has_y =
    let h = subst (Some_low (carry (table_of Zero).gates 4 x y (suc k))) (mod-eq_of_lt fits_x) (zero_low x y (suc k)) in
    bits_up (table_of Zero).gates 3 4 refl (λ a b c. refl) (omega arith) a b s chains_in
    (suc k) v obeys x y has_x has_y k (omega arith) 3 (omega arith)
    ∙ ap bit (zero_top (digit x k) (digit y k) (carry (table_of Zero).gates 4 x y k)
    ∙ told_zero (carry (table_of Zero).gates 4 x y (suc k)) x h)

-- ---- Equal

abbrev Differ : Bool → ℕ → ℕ → Type 0
Differ true x y = x ≡ y → ⊥
Differ false x y = x ≡ y

equal_more : (a b c : Bool) (p x y : ℕ) → x < p → y < p → Differ c x y
    → Differ (get_or (slice_bits (table_of Equal).gates a b c) 9 false) (num a * p + x) (num b * p + y)
equal_more true true true p x y l m h = λ e. h (omega arith)
equal_more true true false p x y l m h = omega arith
equal_more true false true p x y l m h = λ e. absurd (omega arith)
equal_more true false false p x y l m h = λ e. absurd (omega arith)
equal_more false true true p x y l m h = λ e. absurd (omega arith)
equal_more false true false p x y l m h = λ e. absurd (omega arith)
equal_more false false true p x y l m h = λ e. h (omega arith)
equal_more false false false p x y l m h = omega arith

equal_low : (x y k : ℕ) → Differ (carry (table_of Equal).gates 9 x y k) (x % 2 ^ k) (y % 2 ^ k)
equal_low x y zero = let m = mod_below x 1 (omega arith) in let n = mod_below y 1 (omega arith) in omega (arith, m, n)
equal_low x y (suc k) =
    let h =
    equal_more (digit x k) (digit y k) (carry (table_of Equal).gates 9 x y k) (2 ^ k) (x % 2 ^ k) (y % 2 ^ k)
    (mod_below x (2 ^ k) (power_positive k)) (mod_below y (2 ^ k) (power_positive k))
    (equal_low x y k) in
    let f = subst (λ m. Differ (carry (table_of Equal).gates 9 x y (suc k)) m (num (digit y k) * 2 ^ k + y % 2 ^ k))
    (sym (low_more x k)) h in
    subst (λ m. Differ (carry (table_of Equal).gates 9 x y (suc k)) (x % 2 ^ suc k) m) (sym (low_more y k)) f

equal_top : (a b c : Bool)
    → get_or (slice_bits (table_of Equal).gates a b c) 8 false ≡ cond
    (get_or (slice_bits (table_of Equal).gates a b c) 9 false) false true
equal_top true true true = refl
equal_top true true false = refl
equal_top true false true = refl
equal_top true false false = refl
equal_top false true true = refl
equal_top false true false = refl
equal_top false false true = refl
equal_top false false false = refl

told_equal : (c : Bool) (x y : ℕ) → Differ c x y → cond c false true ≡ (truth (x == y) == 1)
told_equal true x y h = ap (λ t. truth t == 1) (sym (ne_eqb x y h))
told_equal false x y h = ap (λ t. truth t == 1) (sym (eq-eqb x y h))

pub equal_computes : OperatorComputes Equal
equal_computes a b s a_in b_in chains_in zero v x y some narrow obeys fits_x fits_y has_x has_y = absurd (omega arith)
equal_computes a b s a_in b_in chains_in (suc k) v x y some narrow obeys fits_x fits_y has_x has_y =
    let f = subst (λ m. Differ (carry (table_of Equal).gates 9 x y (suc k)) m (y % 2 ^ suc k)) (mod-eq_of_lt fits_x)
    (equal_low x y (suc k)) in
    let h = subst (λ m. Differ (carry (table_of Equal).gates 9 x y (suc k)) x m) (mod-eq_of_lt fits_y) f in
    bits_up (table_of Equal).gates 8 9 refl (λ a b c. refl) (omega arith) a b s chains_in
    (suc k) v obeys x y has_x has_y k (omega arith) 8 (omega arith)
    ∙ ap bit (equal_top (digit x k) (digit y k) (carry (table_of Equal).gates 9 x y k)
    ∙ told_equal (carry (table_of Equal).gates 9 x y (suc k)) x y h)

-- ---- Left

left_carry : (x y k : ℕ) → carry (table_of Left).gates 0 x y k ≡ digit (2 * x) k
left_carry x y zero = sym (ap (λ n. n == 1) (bit_at_lowest (2 * x) ∙ even x))
  where
    even : (n : ℕ) → (2 * n) % 2 ≡ 0
    even n = omega arith
left_carry x y (suc k) = ap (λ n. n == 1) (sym (bit_at-suc (2 * x) k ∙ ap (λ n. bit_at n k) (half x)))
  where
    half : (n : ℕ) → (2 * n) / 2 ≡ n
    half n = omega arith

pub left_computes : OperatorComputes Left
left_computes a b s a_in b_in chains_in w v x y some narrow obeys fits_x fits_y has_x has_y k l =
    bits_up (table_of Left).gates 2 0 refl (λ a b c. refl)
    (omega arith) a b s chains_in w v obeys x y has_x has_y k l 2 (omega arith)
    ∙ ap bit (left_carry x y k ∙ ap (λ n. n == 1) (sym (digit_of_mod (2 * x) w k l)))

-- Slices of Inc and Dec have the number after and before.
use Rattle.std.proofs.Common.{◌≡◌, ℕ, ◌<◌, ◌≤◌, ◌+◌, ◌-◌, ◌*◌, ◌/◌, ◌%◌, ◌^◌, zero, suc, inl, inr, Bool, true, false}
use Rattle.std.proofs.Common.{cond, get_or, refl, sym, ◌∙◌, ap, subst, arith}
use Rattle.std.specs.Prelude.{◌==◌}
use Rattle.std.specs.Int.{bit_at}
use Rattle.std.proofs.Math.Nat.{pow-succ', add-mul-mod_self_right}
use Rattle.std.proofs.lemmas.Nat.{div-add-mod', div-mul-add, mod-mul-add, mod_below}
use Rattle.std.proofs.lemmas.Bool.{cases_lt}
use Rattle.mp_base.proofs.Numbers.{power_positive}
use Rattle.nor_net.specs.Laws.{bit}
use Rattle.organelles.specs.declared.slices.Organelle.TheVariants.{Inc, Dec}
use Rattle.organelles.specs.Tables.{table_of}
use Rattle.organelles.specs.Computing.{OperatorComputes}
use Rattle.organelles.proofs.Chains.{digit, slice_bits, carry, slice_bit, bits_up}
use Rattle.organelles.proofs.Numbers.{num, digit_num, num_digit, low_more, digit_of_mod, power_split}

-- one more passes the top of the low digits, unless the end of the chain is 1
abbrev pub Fits : Bool → ℕ → ℕ → Type 0
Fits true p x = x + 1 < p
Fits false p x = p ≤ x + 1

inc_more : (a b c : Bool) (p x : ℕ) → x < p → Fits c p x
    → Fits (get_or (slice_bits (table_of Inc).gates a b c) 7 false) (2 * p) (num a * p + x)
inc_more true true true p x l h = omega arith
inc_more true true false p x l h = omega arith
inc_more true false true p x l h = omega arith
inc_more true false false p x l h = omega arith
inc_more false true true p x l h = omega arith
inc_more false true false p x l h = omega arith
inc_more false false true p x l h = omega arith
inc_more false false false p x l h = omega arith

inc_bit : (a b c : Bool)
    → get_or (slice_bits (table_of Inc).gates a b c) 6 false ≡ ((num a + num (cond c false true)) % 2 == 1)
inc_bit true true true = refl
inc_bit true true false = refl
inc_bit true false true = refl
inc_bit true false false = refl
inc_bit false true true = refl
inc_bit false true false = refl
inc_bit false false true = refl
inc_bit false false false = refl

passed : (c : Bool) (p x : ℕ) → x < p → Fits c p x
    → (rest : ℕ) × (rest < p) × (x + 1 ≡ num (cond c false true) * p + rest)
passed true p x l h = (x + 1, omega arith, omega arith)
passed false p x l h = (0, omega arith, omega arith)

parity : (q f d : ℕ) → q % 2 ≡ d → (q + f) % 2 ≡ (d + f) % 2
parity q f d e = omega arith

-- with any bits that say whether one more fits, the number after has these digits
pub after_digit : (x k : ℕ) (c : Bool) → Fits c (2 ^ k) (x % 2 ^ k)
    → bit_at (x + 1) k ≡ (num (digit x k) + num (cond c false true)) % 2
after_digit x k c fits =
    let w = passed c (2 ^ k) (x % 2 ^ k) (mod_below x (2 ^ k) (power_positive k)) fits in
    let dx = div-add-mod' x (2 ^ k) in
    let split : (x / 2 ^ k + num (cond c false true)) * 2 ^ k + w.0 ≡ x + 1 = omega (arith, dx, w.2) in
    let q : (x + 1) / 2 ^ k ≡ x / 2 ^ k + num (cond c false true) =
    ap (λ n. n / 2 ^ k) (sym split) ∙ div-mul-add (x / 2 ^ k + num (cond c false true)) (2 ^ k) w.0 w.1 in
    ap (λ n. n % 2) q ∙ parity (x / 2 ^ k) (num (cond c false true)) (num (digit x k)) (digit_num x k)

inc_fits : (x y k : ℕ) → Fits (carry (table_of Inc).gates 7 x y k) (2 ^ k) (x % 2 ^ k)
inc_fits x y zero = omega arith
inc_fits x y (suc k) =
    let h = inc_more (digit x k) (digit y k) (carry (table_of Inc).gates 7 x y k) (2 ^ k) (x % 2 ^ k)
    (mod_below x (2 ^ k) (power_positive k)) (inc_fits x y k) in
    let a = subst (λ m. Fits (carry (table_of Inc).gates 7 x y (suc k)) (2 * 2 ^ k) m) (sym (low_more x k)) h in
    subst (λ p. Fits (carry (table_of Inc).gates 7 x y (suc k)) p (x % 2 ^ suc k)) (sym (pow-succ' 2 k)) a

pub inc_computes : OperatorComputes Inc
inc_computes a b s a_in b_in chains_in w v x y some narrow obeys fits_x fits_y has_x has_y k l =
    let d : digit (x + 1) k ≡ slice_bit (table_of Inc).gates 7 6 x y k =
    ap (λ n. n == 1) (after_digit x k (carry (table_of Inc).gates 7 x y k) (inc_fits x y k))
    ∙ sym (inc_bit (digit x k) (digit y k) (carry (table_of Inc).gates 7 x y k)) in
    bits_up (table_of Inc).gates 6 7 refl (λ a b c. refl)
    (omega arith) a b s chains_in w v obeys x y has_x has_y k l 6 (omega arith)
    ∙ ap bit (sym d ∙ ap (λ n. n == 1) (sym (digit_of_mod (x + 1) w k l)))

-- ---- Dec: the number before, to which one is added

-- whether the low digits are some number or 0
abbrev pub Some_low : Bool → ℕ → Type 0
Some_low true x = 0 < x
Some_low false x = x ≡ 0

dec_more : (a b c : Bool) (p x : ℕ) → 0 < p → Some_low c x
    → Some_low (get_or (slice_bits (table_of Dec).gates a b c) 7 false) (num a * p + x)
dec_more true true true p x l h = omega arith
dec_more true true false p x l h = omega arith
dec_more true false true p x l h = omega arith
dec_more true false false p x l h = omega arith
dec_more false true true p x l h = omega arith
dec_more false true false p x l h = omega arith
dec_more false false true p x l h = omega arith
dec_more false false false p x l h = omega arith

dec_bit : (a b c : Bool)
    → get_or (slice_bits (table_of Dec).gates a b c) 6 false ≡ ((num a + num (cond c false true)) % 2 == 1)
dec_bit true true true = refl
dec_bit true true false = refl
dec_bit true false true = refl
dec_bit true false false = refl
dec_bit false true true = refl
dec_bit false true false = refl
dec_bit false false true = refl
dec_bit false false false = refl

dec_low : (x y k : ℕ) → Some_low (carry (table_of Dec).gates 7 x y k) (x % 2 ^ k)
dec_low x y zero = let m = mod_below x 1 (omega arith) in omega (arith, m)
dec_low x y (suc k) =
    subst (Some_low (carry (table_of Dec).gates 7 x y (suc k))) (sym (low_more x k))
    (dec_more (digit x k) (digit y k) (carry (table_of Dec).gates 7 x y k) (2 ^ k) (x % 2 ^ k) (power_positive k)
    (dec_low x y k))

-- the low digits of a number to which a power is added
pub low_of_power : (x w k : ℕ) → k < w → (x + 2 ^ w) % 2 ^ k ≡ x % 2 ^ k
low_of_power x w k l =
    let s = power_split w k l in
    ap (λ n. (x + n) % 2 ^ k) s.1 ∙ add-mul-mod_self_right x (2 * s.0) (2 ^ k)

-- and its other digits below the power
pub digit_of_power : (x w k : ℕ) → k < w → bit_at (x + 2 ^ w) k ≡ bit_at x k
digit_of_power x w k l =
    let s = power_split w k l in
    let dx = div-add-mod' x (2 ^ k) in
    let split : (x / 2 ^ k + 2 * s.0) * 2 ^ k + x % 2 ^ k ≡ x + (2 * s.0) * 2 ^ k = omega (arith, dx) in
    let q : (x + 2 ^ w) / 2 ^ k ≡ x / 2 ^ k + 2 * s.0 =
    ap (λ n. (x + n) / 2 ^ k) s.1 ∙ ap (λ n. n / 2 ^ k) (sym split)
    ∙ div-mul-add (x / 2 ^ k + 2 * s.0) (2 ^ k) (x % 2 ^ k) (mod_below x (2 ^ k) (power_positive k)) in
    ap (λ n. n % 2) q ∙ even (x / 2 ^ k) s.0
  where
    even : (q m : ℕ) → (q + 2 * m) % 2 ≡ q % 2
    even q m = omega arith

-- whether one more fits below z tells whether the low digits of z + 1 are 0
turned : (c : Bool) (p z low : ℕ) → z < p → 0 < p → Some_low c low → (z + 1 < p → low ≡ z + 1) → (z + 1 ≡ p → low ≡ 0)
    → Fits c p z
turned true p z low l pos h f g =
    elim (cases_lt (z + 1) p) [
      | inl m ↦ m
      | inr m ↦ let e = g (omega arith) in
          absurd (omega arith)
    ]
turned false p z low l pos h f g =
    elim (cases_lt (z + 1) p) [ inl m ↦ let e = f m in absurd (omega arith) | inr m ↦ m ]

low_after : (z p : ℕ) → 0 < p → z % p + 1 < p → (z + 1) % p ≡ z % p + 1
low_after z p pos l =
    let d = div-add-mod' z p in
    let split : z / p * p + (z % p + 1) ≡ z + 1 = omega (arith, d) in
    ap (λ n. n % p) (sym split) ∙ mod-mul-add (z / p) p (z % p + 1) l

low_wraps : (z p : ℕ) → 0 < p → z % p + 1 ≡ p → (z + 1) % p ≡ 0
low_wraps z p pos e =
    let d = div-add-mod' z p in
    let split : (z / p + 1) * p + 0 ≡ z + 1 = omega (arith, d, e) in
    ap (λ n. n % p) (sym split) ∙ mod-mul-add (z / p + 1) p 0 pos

-- bits a and b with this parity of b and f
solve : (a b : Bool) (f : ℕ) → num a ≡ (num b + f) % 2 → f < 2 → num b ≡ (num a + f) % 2
solve true true f e l = omega arith
solve true false f e l = omega arith
solve false true f e l = omega arith
solve false false f e l = omega arith

num_lt : (b : Bool) → num b < 2
num_lt true = omega arith
num_lt false = omega arith

pub dec_computes : OperatorComputes Dec
dec_computes a b s a_in b_in chains_in w v x y some narrow obeys fits_x fits_y has_x has_y k l =
    let pw = power_positive w in
    let c = carry (table_of Dec).gates 7 x y k in
    let z = x + 2 ^ w - 1 in
    let whole : (x + 2 ^ w - 1) + 1 ≡ x + 2 ^ w = omega (arith, pw) in
    let low : ((x + 2 ^ w - 1) + 1) % 2 ^ k ≡ x % 2 ^ k = ap (λ n. n % 2 ^ k) whole ∙ low_of_power x w k l in
    let fits : Fits c (2 ^ k) ((x + 2 ^ w - 1) % 2 ^ k) =
    turned c (2 ^ k) ((x + 2 ^ w - 1) % 2 ^ k) (x % 2 ^ k) (mod_below (x + 2 ^ w - 1) (2 ^ k) (power_positive k))
    (power_positive k) (dec_low x y k)
    (λ m. sym low ∙ low_after (x + 2 ^ w - 1) (2 ^ k) (power_positive k) m)
    (λ m. sym low ∙ low_wraps (x + 2 ^ w - 1) (2 ^ k) (power_positive k) m) in
    let d : num (digit x k) ≡ (num (digit (x + 2 ^ w - 1) k) + num (cond c false true)) % 2 =
    sym (digit_num x k) ∙ sym (digit_of_power x w k l) ∙ ap (λ n. bit_at n k) (sym whole)
    ∙ after_digit (x + 2 ^ w - 1) k c fits in
    let e : num (digit (x + 2 ^ w - 1) k) ≡ (num (digit x k) + num (cond c false true)) % 2 =
    solve (digit x k) (digit (x + 2 ^ w - 1) k) (num (cond c false true)) d (num_lt (cond c false true)) in
    bits_up (table_of Dec).gates 6 7 refl (λ a b c. refl)
    (omega arith) a b s chains_in w v obeys x y has_x has_y k l 6 (omega arith)
    ∙ ap bit (dec_bit (digit x k) (digit y k) c ∙ ap (λ n. n == 1) (sym e) ∙ num_digit (digit (x + 2 ^ w - 1) k)
    ∙ ap (λ n. n == 1) (sym (digit_of_mod (x + 2 ^ w - 1) w k l)))

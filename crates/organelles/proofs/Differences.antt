-- Slices of Sub have the difference: the number to which y is added to give x and a power.
use Rattle.std.proofs.Common.{◌≡◌, ℕ, ◌<◌, ◌+◌, ◌-◌, ◌*◌, ◌/◌, ◌%◌, ◌^◌, zero, suc, List, Bool, true, false, get_or}
use Rattle.std.proofs.Common.{refl, sym, ◌∙◌, ap, subst, arith}
use Rattle.std.specs.Prelude.{◌==◌}
use Rattle.std.specs.Int.{bit_at}
use Rattle.std.proofs.lemmas.Nat.{div-add-mod', mod-mul-add, mod_below}
use Rattle.mp_base.proofs.Numbers.{power_positive}
use Rattle.nor_net.specs.Laws.{bit}
use Rattle.organelles.specs.declared.slices.Organelle.TheVariants.{Sub}
use Rattle.organelles.specs.Tables.{table_of}
use Rattle.organelles.specs.Computing.{OperatorComputes}
use Rattle.organelles.proofs.Chains.{digit, slice_bits, carry, slice_bit, bits_up}
use Rattle.organelles.proofs.Numbers.{num, num_digit, low_more, digit_of_mod}
use Rattle.organelles.proofs.Orders.{Borrows}
use Rattle.organelles.proofs.Sums as sums
use Rattle.organelles.proofs.Steps.{low_of_power, digit_of_power}

abbrev gates : List (List ℕ)
gates = (table_of Sub).gates

more : (a b c : Bool) (p x y : ℕ) → x < p → y < p → Borrows c x y
    → Borrows (get_or (slice_bits gates a b c) 14 false) (num a * p + x) (num b * p + y)
more true true true p x y l m h = omega arith
more true true false p x y l m h = omega arith
more true false true p x y l m h = omega arith
more true false false p x y l m h = omega arith
more false true true p x y l m h = omega arith
more false true false p x y l m h = omega arith
more false false true p x y l m h = omega arith
more false false false p x y l m h = omega arith

borrows : (x y k : ℕ) → Borrows (carry gates 14 x y k) (x % 2 ^ k) (y % 2 ^ k)
borrows x y zero = let a = mod_below x 1 (omega arith) in let b = mod_below y 1 (omega arith) in omega (arith, a, b)
borrows x y (suc k) =
    let h = more (digit x k) (digit y k) (carry gates 14 x y k) (2 ^ k) (x % 2 ^ k) (y % 2 ^ k)
    (mod_below x (2 ^ k) (power_positive k)) (mod_below y (2 ^ k) (power_positive k)) (borrows x y k) in
    let a = subst (λ m. Borrows (carry gates 14 x y (suc k)) m (num (digit y k) * 2 ^ k + y % 2 ^ k))
    (sym (low_more x k)) h in
    subst (λ m. Borrows (carry gates 14 x y (suc k)) (x % 2 ^ suc k) m) (sym (low_more y k)) a

sub_bit : (a b c : Bool) → get_or (slice_bits gates a b c) 10 false ≡ ((num a + num b + num c) % 2 == 1)
sub_bit true true true = refl
sub_bit true true false = refl
sub_bit true false true = refl
sub_bit true false false = refl
sub_bit false true true = refl
sub_bit false true false = refl
sub_bit false false true = refl
sub_bit false false false = refl

-- a carry of z + y is a borrow of what they give
same : (c b : Bool) (p z y x : ℕ) → z < p → y < p → z + y ≡ num c * p + x → Borrows b x y → c ≡ b
same true true p z y x l m e h = refl
same false false p z y x l m e h = refl
same true false p z y x l m e h = absurd (omega arith)
same false true p z y x l m e h = absurd (omega arith)

solve : (x z y c : Bool) → (num z + num y + num c) % 2 ≡ num x → num z ≡ (num x + num y + num c) % 2
solve true true true true e = omega arith
solve true true true false e = omega arith
solve true true false true e = omega arith
solve true true false false e = omega arith
solve true false true true e = omega arith
solve true false true false e = omega arith
solve true false false true e = omega arith
solve true false false false e = omega arith
solve false true true true e = omega arith
solve false true true false e = omega arith
solve false true false true e = omega arith
solve false true false false e = omega arith
solve false false true true e = omega arith
solve false false true false e = omega arith
solve false false false true e = omega arith
solve false false false false e = omega arith

two : (n : ℕ) (b : Bool) → n < 2 → (n == 1) ≡ b → n ≡ num b
two zero true l e = absurd (cc)
two zero false l e = refl
two (suc zero) true l e = refl
two (suc zero) false l e = absurd (cc)
two (suc (suc n)) b l e = absurd (omega arith)

below_two : (n : ℕ) → n % 2 < 2
below_two n = omega arith

difference_digit : (x y w k : ℕ) → y < 2 ^ w → k < w → digit (x + 2 ^ w - y) k ≡ slice_bit gates 14 10 x y k
difference_digit x y w k fits l =
    let z = x + 2 ^ w - y in
    let ca = carry sums.gates 11 (x + 2 ^ w - y) y k in
    let cb = carry gates 14 x y k in
    let whole : (x + 2 ^ w - y) + y ≡ x + 2 ^ w = omega arith in
    let lz = mod_below (x + 2 ^ w - y) (2 ^ k) (power_positive k) in
    let ly = mod_below y (2 ^ k) (power_positive k) in
    let r = sums.passed (x + 2 ^ w - y) y ca (2 ^ k) ((x + 2 ^ w - y) % 2 ^ k) (y % 2 ^ k) lz ly
    (sums.carries (x + 2 ^ w - y) y k) in
    let dz = div-add-mod' (x + 2 ^ w - y) (2 ^ k) in
    let dy = div-add-mod' y (2 ^ k) in
    let split : ((x + 2 ^ w - y) / 2 ^ k + y / 2 ^ k + num ca) * 2 ^ k + r.0 ≡ (x + 2 ^ w - y) + y =
    omega (arith, dz, dy, r.2) in
    let rest : r.0 ≡ x % 2 ^ k =
    sym (mod-mul-add ((x + 2 ^ w - y) / 2 ^ k + y / 2 ^ k + num ca) (2 ^ k) r.0 r.1)
    ∙ ap (λ n. n % 2 ^ k) (split ∙ whole) ∙ low_of_power x w k l in
    let eq : ca ≡ cb =
    same ca cb (2 ^ k) ((x + 2 ^ w - y) % 2 ^ k) (y % 2 ^ k) (x % 2 ^ k) lz ly
    (subst (λ m. (x + 2 ^ w - y) % 2 ^ k + y % 2 ^ k ≡ num ca * 2 ^ k + m) rest r.2) (borrows x y k) in
    let sum : ((num (digit (x + 2 ^ w - y) k) + num (digit y k) + num ca) % 2 == 1) ≡ digit x k =
    sym (sums.sum_bit (digit (x + 2 ^ w - y) k) (digit y k) ca) ∙ sym (sums.sum_digit (x + 2 ^ w - y) y k)
    ∙ ap (λ n. bit_at n k == 1) whole ∙ ap (λ n. n == 1) (digit_of_power x w k l) in
    let nums : (num (digit (x + 2 ^ w - y) k) + num (digit y k) + num ca) % 2 ≡ num (digit x k) =
    two ((num (digit (x + 2 ^ w - y) k) + num (digit y k) + num ca) % 2) (digit x k)
    (below_two (num (digit (x + 2 ^ w - y) k) + num (digit y k) + num ca)) sum in
    let solved : num (digit (x + 2 ^ w - y) k) ≡ (num (digit x k) + num (digit y k) + num ca) % 2 =
    solve (digit x k) (digit (x + 2 ^ w - y) k) (digit y k) ca nums in
    sym (num_digit (digit (x + 2 ^ w - y) k)) ∙ ap (λ n. n == 1) solved
    ∙ ap (λ c. (num (digit x k) + num (digit y k) + num c) % 2 == 1) eq ∙ sym (sub_bit (digit x k) (digit y k) cb)

pub sub_computes : OperatorComputes Sub
sub_computes a b s a_in b_in chains_in w v x y some narrow obeys fits_x fits_y has_x has_y k l =
    bits_up gates 10 14 refl (λ a b c. refl) (omega arith) a b s chains_in w v obeys x y has_x has_y k l 10
    (omega arith)
    ∙ ap bit (sym (difference_digit x y w k fits_y l) ∙ ap (λ n. n == 1) (sym (digit_of_mod (x + 2 ^ w - y) w k l)))

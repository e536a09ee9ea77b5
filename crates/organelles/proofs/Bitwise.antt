-- Slices of And, Or, Xor and Not have the bits of the operands.
use Rattle.std.proofs.Common.{◌≡◌, ℕ, ◌+◌, ◌-◌, ◌%◌, ◌^◌, Bool, true, false, get_or, refl, sym, ◌∙◌, ap, arith}
use Rattle.std.specs.Prelude.{◌==◌, bit_and, bit_or, bit_xor, min, max}
use Rattle.std.specs.Int.{bit_at}
use Rattle.std.proofs.lemmas.Nat.Bits.{bit_at_and, bit_at_or, bit_at_xor}
use Rattle.nor_net.specs.Laws.{bit}
use Rattle.organelles.specs.declared.slices.Organelle.TheVariants.{And, Or, Xor, Not}
use Rattle.organelles.specs.Tables.{table_of}
use Rattle.organelles.specs.Computing.{OperatorComputes}
use Rattle.organelles.proofs.Chains.{digit, slice_bits, bits_alone}
use Rattle.organelles.proofs.Numbers.{num, digit_num, complement_digit}

and_bit : (a b : Bool) → get_or (slice_bits (table_of And).gates a b b) 5 false ≡ (min (num a) (num b) == 1)
and_bit true true = refl
and_bit true false = refl
and_bit false true = refl
and_bit false false = refl

or_bit : (a b : Bool) → get_or (slice_bits (table_of Or).gates a b b) 4 false ≡ (max (num a) (num b) == 1)
or_bit true true = refl
or_bit true false = refl
or_bit false true = refl
or_bit false false = refl

xor_bit : (a b : Bool) → get_or (slice_bits (table_of Xor).gates a b b) 7 false ≡ ((num a + num b) % 2 == 1)
xor_bit true true = refl
xor_bit true false = refl
xor_bit false true = refl
xor_bit false false = refl

not_bit : (a b : Bool) → get_or (slice_bits (table_of Not).gates a b b) 3 false ≡ (1 - num a == 1)
not_bit true b = refl
not_bit false b = refl

-- a digit of a number whose bit is this
by_num : (f : ℕ → ℕ → ℕ) (x y z k : ℕ) → bit_at z k ≡ f (bit_at x k) (bit_at y k)
    → (f (num (digit x k)) (num (digit y k)) == 1) ≡ digit z k
by_num f x y z k e =
    ap (λ n. n == 1) (sym (e ∙ ap (λ n. f n (bit_at y k)) (digit_num x k) ∙ ap (f (num (digit x k))) (digit_num y k)))

pub and_computes : OperatorComputes And
and_computes a b s a_in b_in chains_in w v x y some narrow obeys fits_x fits_y has_x has_y k l =
    bits_alone (table_of And).gates 5 refl (λ a b c. refl) a b s chains_in w v obeys x y has_x has_y k l 5 (omega arith)
    ∙ ap bit (and_bit (digit x k) (digit y k) ∙ by_num min x y (bit_and x y) k (bit_at_and x y k))

pub or_computes : OperatorComputes Or
or_computes a b s a_in b_in chains_in w v x y some narrow obeys fits_x fits_y has_x has_y k l =
    bits_alone (table_of Or).gates 4 refl (λ a b c. refl) a b s chains_in w v obeys x y has_x has_y k l 4 (omega arith)
    ∙ ap bit (or_bit (digit x k) (digit y k) ∙ by_num max x y (bit_or x y) k (bit_at_or x y k))

pub xor_computes : OperatorComputes Xor
xor_computes a b s a_in b_in chains_in w v x y some narrow obeys fits_x fits_y has_x has_y k l =
    bits_alone (table_of Xor).gates 7 refl (λ a b c. refl) a b s chains_in w v obeys x y has_x has_y k l 7 (omega arith)
    ∙ ap bit (xor_bit (digit x k) (digit y k) ∙ by_num (λ m n. (m + n) % 2) x y (bit_xor x y) k (bit_at_xor x y k))

pub not_computes : OperatorComputes Not
not_computes a b s a_in b_in chains_in w v x y some narrow obeys fits_x fits_y has_x has_y k l =
    bits_alone (table_of Not).gates 3 refl (λ a b c. refl) a b s chains_in w v obeys x y has_x has_y k l 3 (omega arith)
    ∙ ap bit (not_bit (digit x k) (digit y k)
    ∙ by_num (λ m n. 1 - m) x y (2 ^ w - 1 - x) k (complement_digit x w k fits_x l))

-- Slices of Less have the order.
use Rattle.std.proofs.Common.{◌≡◌, ℕ, ◌<◌, ◌≤◌, ◌+◌, ◌*◌, ◌%◌, ◌^◌, zero, suc, List, Bool, true, false, get_or, length}
use Rattle.std.proofs.Common.{ltb, refl, sym, ◌∙◌, ap, subst, arith}
use Rattle.std.specs.Prelude.{◌==◌}
use Rattle.std.proofs.Math.Nat.{mod-eq_of_lt}
use Rattle.std.proofs.lemmas.Nat.{mod_below}
use Rattle.std.proofs.lemmas.Bool.{lt-ltb, le-ltb}
use Rattle.mp_base.specs.Apply.{truth}
use Rattle.mp_base.proofs.Numbers.{power_positive}
use Rattle.nor_net.specs.Laws.{bit}
use Rattle.organelles.specs.declared.slices.Organelle.TheVariants.{Less}
use Rattle.organelles.specs.Tables.{table_of}
use Rattle.organelles.specs.Computing.{OperatorComputes}
use Rattle.organelles.proofs.Chains.{digit, slice_bits, carry, bits_up}
use Rattle.organelles.proofs.Numbers.{num, low_more}

abbrev gates : List (List ℕ)
gates = (table_of Less).gates

long : (a b c : Bool) → length (slice_bits gates a b c) ≡ 10
long a b c = refl

-- the borrow says whether the low digits are less
abbrev pub Borrows : Bool → ℕ → ℕ → Type 0
Borrows true x y = x < y
Borrows false x y = y ≤ x

more : (a b c : Bool) (p x y : ℕ) → x < p → y < p → Borrows c x y
    → Borrows (get_or (slice_bits gates a b c) 9 false) (num a * p + x) (num b * p + y)
more true true true p x y l m h = omega arith
more true true false p x y l m h = omega arith
more true false true p x y l m h = omega arith
more true false false p x y l m h = omega arith
more false true true p x y l m h = omega arith
more false true false p x y l m h = omega arith
more false false true p x y l m h = omega arith
more false false false p x y l m h = omega arith

module _ (x y : ℕ) where
  abbrev c : ℕ → Bool
  c k = carry gates 9 x y k

  borrows : (k : ℕ) → Borrows (c k) (x % 2 ^ k) (y % 2 ^ k)
  borrows zero = let a = mod_below x 1 (omega arith) in let b = mod_below y 1 (omega arith) in omega (arith, a, b)
  borrows (suc k) =
      let h = more (digit x k) (digit y k) (c k) (2 ^ k) (x % 2 ^ k) (y % 2 ^ k)
      (mod_below x (2 ^ k) (power_positive k))
      (mod_below y (2 ^ k) (power_positive k)) (borrows k) in
      let a = subst (λ m. Borrows (c (suc k)) m (num (digit y k) * 2 ^ k + y % 2 ^ k)) (sym (low_more x k)) h in
      subst (λ m. Borrows (c (suc k)) (x % 2 ^ suc k) m) (sym (low_more y k)) a

told : (b : Bool) (x y : ℕ) → Borrows b x y → b ≡ (truth (ltb x y) == 1)
told true x y h = ap (λ t. truth t == 1) (sym (lt-ltb x y h))
told false x y h = ap (λ t. truth t == 1) (sym (le-ltb x y h))

pub less_computes : OperatorComputes Less
less_computes a b s a_in b_in chains_in zero v x y some narrow obeys fits_x fits_y has_x has_y = absurd (omega arith)
less_computes a b s a_in b_in chains_in (suc k) v x y some narrow obeys fits_x fits_y has_x has_y =
    let h = borrows x y (suc k) in
    let h1 = subst (λ m. Borrows (c x y (suc k)) m (y % 2 ^ suc k)) (mod-eq_of_lt fits_x) h in
    let h2 = subst (λ m. Borrows (c x y (suc k)) x m) (mod-eq_of_lt fits_y) h1 in
    bits_up gates 9 9 refl long (omega arith) a b s chains_in (suc k) v obeys x y has_x has_y k (omega arith) 9
    (omega arith)
    ∙ ap bit (told (c x y (suc k)) x y h2)

-- That a program is a tree, from the test to each index.
use Rattle.std.proofs.Common.{◌≡◌, ℕ, zero, suc, ◌<◌, ◌≤◌, List, [], ◌∷◌, true, false, not, refl, sym, arith}
use Rattle.std.proofs.Common.{length, get_or}
use Rattle.std.specs.Prelude.{◌&&◌, ◌==◌, nat_le}
use Rattle.std.specs.List.{list_any}
use Rattle.std.proofs.lemmas.Bool.{and_parts, eq-eqb, leb-true, not-true, or_parts}
use Rattle.mp_program.specs.declared.program.Program.{Program}
use Rattle.mp_program.specs.Tree.{is_distinct, are_low, expr_places, form_places, expr_heights, form_heights}
use Rattle.mp_program.specs.Tree.{height_limit}
use Rattle.mp_program.specs.Sound.{AreApart, IsTree}

-- a number that is nowhere in a list
nowhere : (x : ℕ) (ys : List ℕ) → list_any (λ y. y == x) ys ≡ false → (k : ℕ) → k < length ys → x ≡ get_or ys k 0 → ⊥
nowhere x [] h k lt e = omega (arith, lt)
nowhere x (y ∷ ys) h zero lt e =
    let other = (or_parts (y == x) (list_any (λ z. z == x) ys) h).0 in
    let same : (y == x) ≡ true = eq-eqb y x (sym e) in
    cc (other, same)
nowhere x (y ∷ ys) h (suc k) lt e =
    nowhere x ys (or_parts (y == x) (list_any (λ z. z == x) ys) h).1 k (omega (arith, lt)) e

apart : (xs : List ℕ) → is_distinct xs ≡ true → AreApart xs
apart [] h j k jk lt e = omega (arith, lt)
apart (x ∷ xs) h zero zero jk lt e = omega (arith, jk)
apart (x ∷ xs) h (suc j) zero jk lt e = omega (arith, jk)
apart (x ∷ xs) h zero (suc k) jk lt e =
    nowhere x xs (not-true _ (and_parts (not (list_any (λ y. y == x) xs)) (is_distinct xs) h).0) k
    (omega (arith, lt)) e
apart (x ∷ xs) h (suc j) (suc k) jk lt e =
    apart xs (and_parts (not (list_any (λ y. y == x) xs)) (is_distinct xs) h).1 j k (omega (arith, jk))
    (omega (arith, lt)) e

low : (hs : List ℕ) → are_low hs ≡ true → (k : ℕ) → get_or hs k 0 ≤ height_limit
low [] h k = omega (arith, get_or_none k)
  where
    get_or_none : (i : ℕ) → get_or {A = ℕ} [] i 0 ≡ 0
    get_or_none zero = refl
    get_or_none (suc i) = refl
low (x ∷ xs) h zero = leb-true x height_limit (and_parts (nat_le x height_limit) (are_low xs) h).0
low (x ∷ xs) h (suc k) = low xs (and_parts (nat_le x height_limit) (are_low xs) h).1 k

pub tree : (p : Program) → IsTree p
tree p =
    let distinct_exprs = is_distinct (expr_places p.exprs p.forms) in
    let distinct_forms = is_distinct (form_places p.forms p.always p.processes) in
    let low_exprs = are_low (expr_heights p.exprs) in
    let all = and_parts (distinct_exprs && distinct_forms && low_exprs) (are_low (form_heights p.forms)) p.tree in
    let three = and_parts (distinct_exprs && distinct_forms) low_exprs all.0 in
    let two = and_parts distinct_exprs distinct_forms three.0 in
    record {
      exprs = apart (expr_places p.exprs p.forms) two.0;
      forms = apart (form_places p.forms p.always p.processes) two.1;
      expr_heights = low (expr_heights p.exprs) three.1;
      form_heights = low (form_heights p.forms) all.1;
    }

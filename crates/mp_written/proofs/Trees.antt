-- That a program is a tree as it is written: no expression stands in two places.
use Rattle.std.proofs.Common.{◌≡◌, ℕ, zero, suc, ◌<◌, List, [], ◌∷◌, true, false, not, sym, arith, length, get_or}
use Rattle.std.specs.Prelude.{◌&&◌, ◌==◌}
use Rattle.std.specs.List.{list_any}
use Rattle.std.proofs.lemmas.Bool.{and_parts, eq-eqb, not-true, or_parts}
use Rattle.mp_program.specs.Sound.{AreApart}
use Rattle.mp_program.specs.Tree.{is_distinct, are_low, form_places, form_heights}
use Rattle.mp_written.specs.declared.program.Program.{Program}
use Rattle.mp_written.specs.Tree.{expr_places, expr_heights}
use Rattle.mp_written.specs.Sound.{IsApart}

-- a number that is nowhere in a list
nowhere : (x : ℕ) (ys : List ℕ) → list_any (λ y. y == x) ys ≡ false → (k : ℕ) → k < length ys → x ≡ get_or ys k 0 → ⊥
nowhere x [] h k lt e = omega (arith, lt)
nowhere x (y ∷ ys) h zero lt e =
    let other = (or_parts (y == x) (list_any (λ z. z == x) ys) h).0 in
    let same : (y == x) ≡ true = eq-eqb y x (sym e) in
    cc (other, same)
nowhere x (y ∷ ys) h (suc k) lt e =
    nowhere x ys (or_parts (y == x) (list_any (λ z. z == x) ys) h).1 k (omega (arith, lt)) e

apart : (xs : List ℕ) → is_distinct xs ≡ true → AreApart xs
apart [] h j k jk lt e = omega (arith, lt)
apart (x ∷ xs) h zero zero jk lt e = omega (arith, jk)
apart (x ∷ xs) h (suc j) zero jk lt e = omega (arith, jk)
apart (x ∷ xs) h zero (suc k) jk lt e =
    nowhere x xs (not-true _ (and_parts (not (list_any (λ y. y == x) xs)) (is_distinct xs) h).0) k
    (omega (arith, lt)) e
apart (x ∷ xs) h (suc j) (suc k) jk lt e =
    apart xs (and_parts (not (list_any (λ y. y == x) xs)) (is_distinct xs) h).1 j k (omega (arith, jk))
    (omega (arith, lt)) e

-- the tests of the type, one by one
pub record IsTreeFit (w : Program) : Type 0 where
  pub exprs : is_distinct (expr_places w.defs w.exprs w.forms) ≡ true
  pub forms : is_distinct (form_places w.forms w.always w.processes) ≡ true
  pub low_exprs : are_low (expr_heights w.exprs) ≡ true
  pub low_forms : are_low (form_heights w.forms) ≡ true

pub tree_fit : (w : Program) → IsTreeFit w
tree_fit w =
    let exprs = is_distinct (expr_places w.defs w.exprs w.forms) in
    let forms = is_distinct (form_places w.forms w.always w.processes) in
    let low = are_low (expr_heights w.exprs) in
    let three = and_parts (exprs && forms && low) (are_low (form_heights w.forms)) w.tree in
    let two = and_parts (exprs && forms) low three.0 in
    let one = and_parts exprs forms two.0 in
    record { exprs = one.0; forms = one.1; low_exprs = two.1; low_forms = three.1 }

pub tree : (w : Program) → IsApart w
tree w = apart (expr_places w.defs w.exprs w.forms) (tree_fit w).exprs

-- Elements of lists.
use Rattle.std.proofs.Common.{◌≡◌, ℕ, zero, suc, ◌<◌, List, [], ◌∷◌, sym, ◌∙◌, length, arith, get_or}

-- an element has one value
pub same_element : {X : Type 0} (xs : List X) (i : ℕ) (x y : X) → i < length xs → x ≡ get_or xs i x → y ≡ get_or xs i y
    → x ≡ y
same_element [] i x y lt a b = absurd (omega (arith, lt))
same_element (z ∷ zs) zero x y lt a b = a ∙ sym b
same_element (z ∷ zs) (suc i) x y lt a b = same_element zs i x y (omega (arith, lt)) a b

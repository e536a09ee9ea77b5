-- Members and entries of lists.
use Rattle.std.proofs.Common.{◌≡◌, ◌∙◌, ℕ, List, [], ◌∷◌, refl, ap, map}
use Rattle.std.specs.Prelude.{Contains}
use Rattle.mp_base.proofs.Contents.{contains_head, contains_behind}

pub map_same : (xs : List ℕ) (g h : ℕ → ℕ) → ((x : ℕ) → Contains xs x → g x ≡ h x) → map g xs ≡ map h xs
map_same [] g h same = refl
map_same (x ∷ xs) g h same = ap (λ y. y ∷ map g xs) (same x (contains_head x xs))
    ∙ ap (λ ys. h x ∷ ys) (map_same xs g h (λ y c. same y (contains_behind y x xs c)))

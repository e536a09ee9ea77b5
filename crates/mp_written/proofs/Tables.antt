-- Tables by functions that agree, and of what a list is mapped to.
use Rattle.std.proofs.Common.{◌≡◌, ◌∙◌, ℕ, suc, ◌-◌, List, [], ◌∷◌, refl, ap}
use Rattle.std.specs.Prelude.{map, slice_index_or}
use Rattle.mp_base.specs.Table.{table, entry_before}

pub table_same : {X Y : Type 0} (none : Y) (f g : X → (ℕ → Y) → Y) (at : ℕ) (xs : List X)
    → ((x : X) (h : ℕ → Y) → f x h ≡ g x h) → table none f at xs ≡ table none g at xs
table_same none f g at [] same = refl
table_same none f g at (x ∷ xs) same =
    ap (λ y. y ∷ table none f (suc at) xs) (same x (λ k. slice_index_or (table none f (suc at) xs) (k - suc at) none))
    ∙ ap (λ ys. entry_before none g at x ys) (table_same none f g (suc at) xs same)

pub table_mapped : {W X Y : Type 0} (none : Y) (f : X → (ℕ → Y) → Y) (g : W → X) (at : ℕ) (ws : List W)
    → table none f at (map g ws) ≡ table none (λ w. f (g w)) at ws
table_mapped none f g at [] = refl
table_mapped none f g at (w ∷ ws) = ap (λ ys. entry_before none f at (g w) ys) (table_mapped none f g (suc at) ws)

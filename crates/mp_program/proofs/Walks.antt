-- Small tools: an induction downwards, and lists of indices.
use Rattle.std.proofs.Common.{◌≡◌, ℕ, zero, suc, ◌<◌, List, [], ◌∷◌, ◌++◌, Bool, refl, ◌∙◌, ap, length, arith, get_or}
use Rattle.std.specs.Prelude.{map, ◌||◌}
use Rattle.std.specs.List.{flat_map, list_any}
use Rattle.mp_program.specs.Sound.{AllBetween}

-- functions that agree on greater indices agree on lists of these
pub map-behind : {Y : Type 0} (i n : ℕ) (xs : List ℕ) (g h : ℕ → Y) → ((k : ℕ) → i < k → g k ≡ h k) → AllBetween i n xs
    → map g xs ≡ map h xs
map-behind i n [] g h same fit = refl
map-behind i n (x ∷ xs) g h same ((behind, _), rest) =
    ap (λ y. y ∷ map g xs) (same x behind) ∙ ap (λ ys. h x ∷ ys) (map-behind i n xs g h same rest)

pub flat_map-behind : {Y : Type 0} (i n : ℕ) (xs : List ℕ) (g h : ℕ → List Y) → ((k : ℕ) → i < k → g k ≡ h k)
    → AllBetween i n xs → flat_map g xs ≡ flat_map h xs
flat_map-behind i n [] g h same fit = refl
flat_map-behind i n (x ∷ xs) g h same ((behind, _), rest) =
    ap (λ y. y ++ flat_map g xs) (same x behind) ∙ ap (λ ys. h x ++ ys) (flat_map-behind i n xs g h same rest)

pub list_any-behind : (i n : ℕ) (xs : List ℕ) (g h : ℕ → Bool) → ((k : ℕ) → i < k → g k ≡ h k) → AllBetween i n xs
    → list_any g xs ≡ list_any h xs
list_any-behind i n [] g h same fit = refl
list_any-behind i n (x ∷ xs) g h same ((behind, _), rest) =
    ap (λ y. y || list_any g xs) (same x behind) ∙ ap (λ ys. h x || ys) (list_any-behind i n xs g h same rest)

-- what a list of indices says at a place
pub between_at : (i n : ℕ) (xs : List ℕ) (k : ℕ) → AllBetween i n xs → k < length xs
    → (i < get_or xs k 0) × (get_or xs k 0 < n)
between_at i n [] k fit lt = absurd (omega (arith, lt))
between_at i n (x ∷ xs) zero fit lt = fit.0
between_at i n (x ∷ xs) (suc k) fit lt = between_at i n xs k fit.1 (omega (arith, lt))

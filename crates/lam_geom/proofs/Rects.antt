-- Rectangles, and lists of them, for all crates above.
use Rattle.std.proofs.Common.{[], ℕ, List, length, ◌∷◌, ◌≡◌, ◌*◌, arith}
use Rattle.std.specs.Prelude.{flat_map, ℤ}
use Rattle.lam_geom.specs.declared.layer.Layer.{Layer}
use Rattle.lam_geom.specs.declared.rect.Rect.{Rect}

pub length_two_each : (g h : ℕ → Rect) (xs : List ℕ) → length (flat_map (λ b. g b ∷ h b ∷ []) xs) ≡ 2 * length xs
length_two_each g h [] = omega arith
length_two_each g h (x ∷ xs) = let e = length_two_each g h xs in omega arith

-- rectangles with equal sides
pub same_rect : (l : Layer) (a b c d p q r s : ℤ) → a ≡ p → b ≡ q → c ≡ r → d ≡ s
    → ◌≡◌ {A = Rect} (record { layer = l; x0 = a; y0 = b; x1 = c; y1 = d })
    (record { layer = l; x0 = p; y0 = q; x1 = r; y1 = s })
same_rect l a b c d p q r s e f g h = λ i. record { layer = l; x0 = e i; y0 = f i; x1 = g i; y1 = h i }

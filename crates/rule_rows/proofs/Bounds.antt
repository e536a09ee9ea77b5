-- Edges of derived drawings are numbers of 64 bits.
use Rattle.std.proofs.Common.{ℕ, ◌≡◌, ◌≤◌, ◌∙◌, ap, sym, arith, w64, to_z, of_z, true, false, List, All}
use Rattle.std.specs.Prelude.{ℤ, pos, negsuc, neg_ℤ, ◌+ℤ◌, ◌-ℤ◌, ◌≤ℤ◌, ◌<ℤ◌, int_lt, FitsSigned}
use Rattle.lam_geom.specs.declared.layer.Layer.TheVariants.{ND}
use Rattle.lam_geom.specs.declared.rect.Rect.{Rect}
use Rattle.lam_geom.specs.Moves.{IsNear, IsNearRect}
use Rattle.std.proofs.lemmas.Int.{ints, to_z-of_z}
use Rattle.rule_rows.specs.Copies.{IsWithin, IsBounded}

fits : (z : ℤ) → neg_ℤ (pos 8_796_093_022_208) ≤ℤ z → z ≤ℤ pos 8_796_093_022_208 → FitsSigned w64 z
fits (pos n) a b = record { sfits = omega (arith, ints) }
fits (negsuc n) a b = record { sfits = omega (arith, ints) }

module _ (z v : ℤ) (n : ℕ) (w : IsWithin z) (is : v ≡ pos n) (small : n ≤ 2000) where
  z_fits : to_z w64 (of_z w64 z) ≡ z
  z_fits = let a = w.0 in let b = w.1 in to_z-of_z w64 z (fits z (omega (arith, ints)) (omega (arith, ints)))

  v_fits : to_z w64 (of_z w64 v) ≡ v
  v_fits = to_z-of_z w64 v (fits v (omega (arith, ints)) (omega (arith, ints)))

  pub less : to_z w64 (of_z w64 (to_z w64 (of_z w64 z) -ℤ to_z w64 (of_z w64 v))) ≡ z -ℤ pos n
  less = let a = w.0 in let b = w.1 in let e = z_fits in let f = v_fits in
      ap (λ t. to_z w64 (of_z w64 t)) (λ i. e i -ℤ f i)
      ∙ to_z-of_z w64 (z -ℤ v) (fits (z -ℤ v) (omega (arith, ints)) (omega (arith, ints)))
      ∙ ap (λ t. z -ℤ t) is

  pub more : to_z w64 (of_z w64 (to_z w64 (of_z w64 z) +ℤ to_z w64 (of_z w64 v))) ≡ z +ℤ pos n
  more = let a = w.0 in let b = w.1 in let e = z_fits in let f = v_fits in
      ap (λ t. to_z w64 (of_z w64 t)) (λ i. e i +ℤ f i)
      ∙ to_z-of_z w64 (z +ℤ v) (fits (z +ℤ v) (omega (arith, ints)) (omega (arith, ints)))
      ∙ ap (λ t. z +ℤ t) is

pub same : (z : ℤ) → IsWithin z → to_z w64 (of_z w64 z) ≡ z
same z w = let a = w.0 in let b = w.1 in to_z-of_z w64 z (fits z (omega (arith, ints)) (omega (arith, ints)))

-- what a test of two edges knows
module _ (a b : ℤ) (u : IsWithin a) (v : IsWithin b) where
  read : int_lt (to_z w64 (of_z w64 a)) (to_z w64 (of_z w64 b)) ≡ int_lt a b
  read = let e = same a u in let f = same b v in λ i. int_lt (e i) (f i)

  pub is_less : int_lt (to_z w64 (of_z w64 a)) (to_z w64 (of_z w64 b)) ≡ true → a <ℤ b
  is_less h = let g = sym read ∙ h in omega (arith, ints)

  pub is_not_less : int_lt (to_z w64 (of_z w64 a)) (to_z w64 (of_z w64 b)) ≡ false → b ≤ℤ a
  is_not_less h = let g = sym read ∙ h in omega (arith, ints)

abbrev pub no_rect : Rect
no_rect = record { layer = ND; x0 = pos 0; y0 = pos 0; x1 = pos 0; y1 = pos 0 }

-- what lies within 2^40 lies within bounds
within : (z : ℤ) → IsNear z → IsWithin z
within z h = let a = h.0 in let b = h.1 in (omega (arith, ints), omega (arith, ints))

pub are_bounded : (rs : List Rect) → All IsNearRect rs → All IsBounded rs
are_bounded rs h k d m = let n = h k d m in record {
  x0 = within _ n.x0;
  y0 = within _ n.y0;
  x1 = within _ n.x1;
  y1 = within _ n.y1;
}

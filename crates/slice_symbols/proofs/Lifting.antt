-- Rectangles that are lifted.
use Rattle.std.proofs.Common.{ℕ, ◌≡◌, ◌*◌, sym, ◌∙◌, ap, arith, of_z, to_z, w64}
use Rattle.std.specs.Prelude.{ℤ, pos, ◌+ℤ◌, FitsSigned}
use Rattle.std.proofs.lemmas.Int.{fits_signed_from_abs, ints, to_z-of_z}
use Rattle.lam_geom.specs.declared.layer.Layer.TheVariants.{ND}
use Rattle.lam_geom.specs.declared.rect.Rect.{Rect}
use Rattle.lam_geom.specs.Moves.{IsNear, shifted}
use Rattle.slice_symbols.specs.declared.bands.Bands.{Bands}
use Rattle.slice_symbols.specs.Heights.{height_of, raised}

pub raised_by_none : (h : ℤ) (r : Rect) → h ≡ pos 0 → raised h r ≡ r
unfolding shifted
raised_by_none h r e =
    let x0 : r.x0 +ℤ pos 0 ≡ r.x0 = omega (arith, ints) in
    let y0 : r.y0 +ℤ h ≡ r.y0 = omega (arith, ints) in
    let x1 : r.x1 +ℤ pos 0 ≡ r.x1 = omega (arith, ints) in
    let y1 : r.y1 +ℤ h ≡ r.y1 = omega (arith, ints) in
    λ i. record { layer = r.layer; x0 = x0 i; y0 = y0 i; x1 = x1 i; y1 = y1 i }

-- in the first band it stands as it is
pub at_first : (b : Bands) (r : Rect) → raised (height_of b 0) r ≡ r
at_first b r = raised_by_none (pos (0 * b.height)) r (let e : 0 * b.height ≡ 0 = omega arith in λ i. pos (e i))

-- what a place behind the last has
abbrev pub no_rect : Rect
no_rect = record { layer = ND; x0 = pos 0; y0 = pos 0; x1 = pos 0; y1 = pos 0 }

-- a rectangle that was lowered into the first band stands in its own
pub stood_again : (b : Bands) (band : ℕ) (h : ℤ) (r q : Rect) → IsNear h → h ≡ height_of b band
    → raised (to_z w64 (of_z w64 h)) q ≡ r → raised (height_of b band) q ≡ r
stood_again b band h r q near e f =
    let fits : FitsSigned w64 h = fits_signed_from_abs w64 h (omega (arith, ints)) in
    ap (λ z. raised z q) (sym (to_z-of_z w64 h fits ∙ e)) ∙ f

-- The box of a rectangle on whole lambda.
use Rattle.std.proofs.Common.{◌≡◌, ◌<◌, ◌^◌, inl, inr, refl, sym, ◌∙◌, ap, subst, arith, [], ◌∷◌, lit<, w64, to_z}
use Rattle.std.proofs.Common.{of_z}
use Rattle.std.specs.Prelude.{ℤ, pos, ◌+ℤ◌, ◌-ℤ◌, ◌*ℤ◌, ◌<ℤ◌, ◌≤ℤ◌, nat_abs, int_div, int_rem, FitsSigned}
use Rattle.std.proofs.lemmas.Int.{ints, quot-rem, rem_below, fits_signed_from_abs, quot_fits, to_z-of_z}
use Rattle.std.proofs.lemmas.List.Elements.{All-nil, All-cons}
use Rattle.lam_geom.specs.declared.layer.Layer.{Layer}
use Rattle.lam_geom.specs.declared.rect.Rect.{Rect}
use Rattle.lam_geom.specs.Moves.{IsNear, IsNearRect, shifted}
use Rattle.cif_form.specs.Text.{right}
use Rattle.cif_form.specs.Fits.{Fits, IsSmall}
use Rattle.cif_form.specs.Place.{Scale, IsScaled, HasEdges}
use Rattle.slice_symbols.specs.Heights.{raised}
use Rattle.cif_emit.specs.Emittable.{IsOnGrid, IsOnLambda, IsSolid}
use Rattle.cif_emit.specs.Commands.{box_of}

-- the scale of a symbol of boxes: its unit is half a lambda
abbrev pub half_lambda : Scale
half_lambda = record { a = pos 125; b = pos 1 }

-- ---- quotients

-- a quotient of a multiple of 500
quarter : (z k q m : ℤ) → z ≡ pos 500 *ℤ k → q *ℤ pos 250 +ℤ m ≡ z → nat_abs m < 250 → q ≡ pos 2 *ℤ k
quarter z k q m e f h = omega (arith, ints)

half : (z k q m : ℤ) → z ≡ pos 500 *ℤ k → q *ℤ pos 500 +ℤ m ≡ z → nat_abs m < 500 → q ≡ k
half z k q m e f h = omega (arith, ints)

in_quarters : (z k : ℤ) → z ≡ pos 500 *ℤ k → int_div z (pos 250) ≡ pos 2 *ℤ k
in_quarters z k e = quarter z k (int_div z (pos 250)) (int_rem z (pos 250)) e (quot-rem z (pos 250))
    (rem_below z (pos 250) (lit< tt))

in_lambda : (z k : ℤ) → z ≡ pos 500 *ℤ k → int_div z (pos 500) ≡ k
in_lambda z k e = half z k (int_div z (pos 500)) (int_rem z (pos 500)) e (quot-rem z (pos 500))
    (rem_below z (pos 500) (lit< tt))

-- ---- the numbers of one side of a box

-- the length of a span of whole lambda, and its center
pub record IsSpan (from to long center : ℤ) : Type 0 where
  pub low : from ≡ pos 125 *ℤ (pos 2 *ℤ center -ℤ long)
  pub high : to ≡ pos 125 *ℤ (pos 2 *ℤ center +ℤ long)

span : (from to a b long center : ℤ) → from ≡ pos 500 *ℤ a → to ≡ pos 500 *ℤ b → long ≡ pos 2 *ℤ (b -ℤ a)
    → center ≡ a +ℤ b
    → IsSpan from to long center
span from to a b long center e f g h = record { low = omega (arith, ints); high = omega (arith, ints) }

difference : (x y a b : ℤ) → x ≡ pos 500 *ℤ a → y ≡ pos 500 *ℤ b → y -ℤ x ≡ pos 500 *ℤ (b -ℤ a)
difference x y a b e f = omega (arith, ints)

total : (x y a b : ℤ) → x ≡ pos 500 *ℤ a → y ≡ pos 500 *ℤ b → x +ℤ y ≡ pos 500 *ℤ (a +ℤ b)
total x y a b e f = omega (arith, ints)

pub is_span : (x y : ℤ) → IsOnLambda x → IsOnLambda y → IsSpan x y (int_div (y -ℤ x) (pos 250))
    (int_div (x +ℤ y) (pos 500))
is_span x y g h =
    let a = g.whole in let b = h.whole in
    span x y a.0 b.0 _ _ a.1 b.1
    (in_quarters (y -ℤ x) (b.0 -ℤ a.0) (difference x y a.0 b.0 a.1 b.1))
    (in_lambda (x +ℤ y) (a.0 +ℤ b.0) (total x y a.0 b.0 a.1 b.1))

-- the span's ends are near, so its numbers are small
long_small : (x y long center : ℤ) → IsSpan x y long center → IsSmall x → IsSmall y → x <ℤ y
    → (pos 0 ≤ℤ long) × IsSmall long
long_small x y long center s f g h = let a = s.low in let b = s.high in (omega (arith, ints), omega (arith, ints))

center_small : (x y long center : ℤ) → IsSpan x y long center → IsSmall x → IsSmall y → IsSmall center
center_small x y long center s f g = let a = s.low in let b = s.high in omega (arith, ints)

-- an edge of a span is what the scale makes of it
scaled : (z x w : ℤ) → z ≡ x → x ≡ pos 125 *ℤ w → IsScaled half_lambda w z
scaled z x w e f = (omega (arith, ints), omega (arith, ints))

equal : (z x w : ℤ) → pos 1 *ℤ z ≡ pos 125 *ℤ w → x ≡ pos 125 *ℤ w → z ≡ x
equal z x w e f = omega (arith, ints)

not_upright : right.x ≡ pos 0 → ⊥
not_upright e = let f : pos 1 ≡ pos 0 = e in cc

-- ---- what the code computes

fits : (z : ℤ) → nat_abs z < 2 ^ 33 → FitsSigned w64 z
fits z h = fits_signed_from_abs w64 z (omega arith)

module _ (x y : ℤ) (hx : IsSmall x) (hy : IsSmall y) where
  as_is : (z : ℤ) → IsSmall z → to_z w64 (of_z w64 z) ≡ z
  as_is z h = to_z-of_z w64 z (fits z (omega arith))

  pub long_code : to_z w64 (of_z w64 (int_div (to_z w64 (of_z w64 (to_z w64 (of_z w64 y) -ℤ to_z w64 (of_z w64 x))))
      (pos 250)))
      ≡ int_div (y -ℤ x) (pos 250)
  long_code =
      let a = as_is x hx in let b = as_is y hy in
      let d : FitsSigned w64 (y -ℤ x) = fits (y -ℤ x) (omega (arith, ints)) in
      ap (λ z. to_z w64 (of_z w64 (int_div (to_z w64 (of_z w64 z)) (pos 250)))) (λ i. b i -ℤ a i)
      ∙ ap (λ z. to_z w64 (of_z w64 (int_div z (pos 250)))) (to_z-of_z w64 (y -ℤ x) d)
      ∙ to_z-of_z w64 (int_div (y -ℤ x) (pos 250)) (quot_fits w64 (y -ℤ x) (pos 250) d (omega (arith, ints)))

  pub center_code : to_z w64 (of_z w64 (int_div (to_z w64 (of_z w64
      (to_z w64 (of_z w64 x) +ℤ to_z w64 (of_z w64 y)))) (pos 500)))
      ≡ int_div (x +ℤ y) (pos 500)
  center_code =
      let a = as_is x hx in let b = as_is y hy in
      let d : FitsSigned w64 (x +ℤ y) = fits (x +ℤ y) (omega (arith, ints)) in
      ap (λ z. to_z w64 (of_z w64 (int_div (to_z w64 (of_z w64 z)) (pos 500)))) (λ i. a i +ℤ b i)
      ∙ ap (λ z. to_z w64 (of_z w64 (int_div z (pos 500)))) (to_z-of_z w64 (x +ℤ y) d)
      ∙ to_z-of_z w64 (int_div (x +ℤ y) (pos 500)) (quot_fits w64 (x +ℤ y) (pos 500) d (omega (arith, ints)))

-- ---- the box

module _ (r : Rect) (grid : IsOnGrid r) where
  x_span : IsSpan r.x0 r.x1 (int_div (r.x1 -ℤ r.x0) (pos 250)) (int_div (r.x0 +ℤ r.x1) (pos 500))
  x_span = is_span r.x0 r.x1 grid.x0 grid.x1

  y_span : IsSpan r.y0 r.y1 (int_div (r.y1 -ℤ r.y0) (pos 250)) (int_div (r.y0 +ℤ r.y1) (pos 500))
  y_span = is_span r.y0 r.y1 grid.y0 grid.y1

  pub box_fits : IsSolid r → Fits (box_of r)
  box_fits s =
      let g0 = grid.x0 in let g1 = grid.x1 in let h0 = grid.y0 in let h1 = grid.y1 in
      let long = int_div (r.x1 -ℤ r.x0) (pos 250) in let wide = int_div (r.y1 -ℤ r.y0) (pos 250) in
      let x = int_div (r.x0 +ℤ r.x1) (pos 500) in let y = int_div (r.y0 +ℤ r.y1) (pos 500) in
      record {
        unsigned = All-cons (λ z. (pos 0 ≤ℤ z) × IsSmall z) long (wide ∷ [])
            (long_small r.x0 r.x1 long x x_span g0.small g1.small s.wide)
            (All-cons (λ z. (pos 0 ≤ℤ z) × IsSmall z) wide []
            (long_small r.y0 r.y1 wide y y_span h0.small h1.small s.high)
            (All-nil (λ z. (pos 0 ≤ℤ z) × IsSmall z)));
        signed = All-cons IsSmall x (y ∷ pos 1 ∷ pos 0 ∷ []) (center_small r.x0 r.x1 long x x_span g0.small g1.small)
            (All-cons IsSmall y (pos 1 ∷ pos 0 ∷ []) (center_small r.y0 r.y1 wide y y_span h0.small h1.small)
            (All-cons IsSmall (pos 1) (pos 0 ∷ []) (lit< tt)
            (All-cons IsSmall (pos 0) [] (lit< tt) (All-nil IsSmall))));
        formed = tt;
      }

  -- the rectangle of these corners on a layer is what the box draws there
  pub box_edges : (l : Layer) (q : Rect) → q.layer ≡ l → q.x0 ≡ r.x0 → q.y0 ≡ r.y0 → q.x1 ≡ r.x1 → q.y1 ≡ r.y1
      → HasEdges half_lambda l (box_of r) (q ∷ [])
  box_edges l q e x0 y0 x1 y1 =
      let long : ℤ = int_div (r.x1 -ℤ r.x0) (pos 250) in let wide : ℤ = int_div (r.y1 -ℤ r.y0) (pos 250) in
      let x : ℤ = int_div (r.x0 +ℤ r.x1) (pos 500) in let y : ℤ = int_div (r.y0 +ℤ r.y1) (pos 500) in
      let a = x_span in let b = y_span in (
        q,
        refl,
        inl (
          refl,
          (λ k. omega (arith, ints)),
          record {
            layer = e;
            left = scaled q.x0 r.x0 (pos 2 *ℤ x -ℤ long) x0 a.low;
            right = scaled q.x1 r.x1 (pos 2 *ℤ x +ℤ long) x1 a.high;
            bottom = scaled q.y0 r.y0 (pos 2 *ℤ y -ℤ wide) y0 b.low;
            top = scaled q.y1 r.y1 (pos 2 *ℤ y +ℤ wide) y1 b.high;
          },
        ),
      )

  -- what the box draws, whatever its layer, is near where the rectangle is
  pub box_near : (h : ℤ) (l : Layer) (q : Rect) → IsNearRect (raised h r) → HasEdges half_lambda l (box_of r) (q ∷ [])
      → IsNearRect (raised h q)
  unfolding shifted
  box_near h l q near (p, e, inl t) =
      let long : ℤ = int_div (r.x1 -ℤ r.x0) (pos 250) in let wide : ℤ = int_div (r.y1 -ℤ r.y0) (pos 250) in
      let x : ℤ = int_div (r.x0 +ℤ r.x1) (pos 500) in let y : ℤ = int_div (r.y0 +ℤ r.y1) (pos 500) in
      let a = x_span in let b = y_span in let c = t.2 in
      let same : q ≡ p = cc in
      let x0 = equal p.x0 r.x0 (pos 2 *ℤ x -ℤ long) c.left.1 a.low in
      let y0 = equal p.y0 r.y0 (pos 2 *ℤ y -ℤ wide) c.bottom.1 b.low in
      let x1 = equal p.x1 r.x1 (pos 2 *ℤ x +ℤ long) c.right.1 a.high in
      let y1 = equal p.y1 r.y1 (pos 2 *ℤ y +ℤ wide) c.top.1 b.high in
      subst (λ z. IsNearRect (raised h z)) (sym same) (record {
        x0 = subst (λ z. IsNear (z +ℤ pos 0)) (sym x0) near.x0;
        y0 = subst (λ z. IsNear (z +ℤ h)) (sym y0) near.y0;
        x1 = subst (λ z. IsNear (z +ℤ pos 0)) (sym x1) near.x1;
        y1 = subst (λ z. IsNear (z +ℤ h)) (sym y1) near.y1;
      })
  box_near h l q near (p, e, inr t) = absurd (not_upright t.0)

-- Plans of drawings.
use Rattle.std.proofs.Common.{suc, inl, inr, refl, arith, List, [], ◌∷◌}
use Rattle.std.specs.Prelude.{◌↔◌, All, ℤ}
use Rattle.std.proofs.lemmas.Int.{ints}
use Rattle.lam_geom.specs.declared.layer.Layer.{Layer}
use Rattle.lam_geom.specs.declared.layer.Layer.TheVariants.{ND, NP, NB, NI}
use Rattle.lam_geom.specs.declared.rect.Rect.{Rect}
use Rattle.lam_geom.specs.Moves.{IsNear, IsNearRect}
use Rattle.lam_geom.specs.Squares.{Covers, covered}
use Rattle.lam_geom.specs.Rules.Way.{right}
use Rattle.rule_rows.specs.declared.side.Side.TheVariants.{Right}
use Rattle.rule_rows.specs.Copies.{AreSpread}
use Rattle.rule_rows.specs.Sides.{Reaches}
use Rattle.rule_rows.specs.Nears.{IsInField, IsPlanOf, field_on}
use Rattle.rule_rows.proofs.Spreading.{spread_own, spread_other, at_zero, reaches_one}

-- squares of near rectangles are near
near_square : (rs : List Rect) (l : Layer) (x y : ℤ) → All IsNearRect rs → covered rs l x y → IsNear x × IsNear y
near_square [] l x y near h = absurd h
near_square (r ∷ rs) l x y near (inl h) =
    let n = near 0 r (omega arith) in
    let a = n.x0.0 in
    let b = n.x1.1 in
    let c = n.y0.0 in
    let d = n.y1.1 in
    let e = h.left in
    let f = h.right in
    let g = h.bottom in
    let i = h.top in
    ((omega (arith, ints), omega (arith, ints)), (omega (arith, ints), omega (arith, ints)))
near_square (r ∷ rs) l x y near (inr h) =
    near_square rs l x y (λ k d m. near (suc k) d (omega (arith, m))) h

in_field : (l : Layer) (x y : ℤ) → IsInField x y → Covers (field_on l) l x y
in_field l x y f = record { same = refl; left = f.left; right = f.right; bottom = f.bottom; top = f.top }

of_field : (k l : Layer) (x y : ℤ) → Covers (field_on k) l x y → IsInField x y
of_field k l x y h = record { left = h.left; right = h.right; bottom = h.bottom; top = h.top }

abbrev fields : List Rect
fields = field_on ND ∷ field_on NP ∷ []

module _ (shapes d1 d2 : List Rect) (near : All IsNearRect shapes)
    (s1 : AreSpread (covered shapes NP) NB (record { side = Right; near = 0; far = 0 }) fields d1)
    (s2 : AreSpread (covered shapes ND) NI (record { side = Right; near = 0; far = 0 }) d1 d2) where
  here : (on : ℤ → ℤ → Type 0) (x y : ℤ) → on x y ↔ Reaches on right 0 0 x y
  here on x y = (
    λ h. (0, omega arith, omega arith, (at_zero on right x y).0 h),
    λ r. (at_zero on right x y).1 (reaches_one on right 0 x y r),
  )

  diffusion : (x y : ℤ) → covered d2 ND x y ↔ IsInField x y
  diffusion x y =
      let a = spread_other _ NI _ d1 d2 s2 x y ND (λ e. cc (e)) in
      let b = spread_other _ NB _ fields d1 s1 x y ND (λ e. cc (e)) in (
        λ h. elim (b.0 (a.0 h)) [
          | inl c ↦ of_field ND ND x y c
          | inr c ↦ elim c [ inl e ↦ of_field NP ND x y e | inr e ↦ absurd e ]
        ],
        λ f. a.1 (b.1 (inl (in_field ND x y f))),
      )

  polysilicon : (x y : ℤ) → covered d2 NP x y ↔ IsInField x y
  polysilicon x y =
      let a = spread_other _ NI _ d1 d2 s2 x y NP (λ e. cc (e)) in
      let b = spread_other _ NB _ fields d1 s1 x y NP (λ e. cc (e)) in (
        λ h. elim (b.0 (a.0 h)) [
          | inl c ↦ of_field ND NP x y c
          | inr c ↦ elim c [ inl e ↦ of_field NP NP x y e | inr e ↦ absurd e ]
        ],
        λ f. a.1 (b.1 (inr (inl (in_field NP x y f)))),
      )

  buried : (x y : ℤ) → covered d2 NB x y ↔ covered shapes NP x y
  buried x y =
      let a = spread_other _ NI _ d1 d2 s2 x y NB (λ e. cc (e)) in
      let b = spread_own _ NB _ fields d1 s1 x y in (
        λ h. elim (b.0 (a.0 h)) [
          | inl c ↦ elim c [
            | inl e ↦ absurd (let g = e.same in cc (g))
            | inr e ↦ elim e [ inl e ↦ absurd (let g = e.same in cc (g)) | inr e ↦ absurd e ]
          ]
          | inr r ↦ (here (covered shapes NP) x y).1 r
        ],
        λ h. a.1 (b.1 (inr ((here (covered shapes NP) x y).0 h))),
      )

  implanted : (x y : ℤ) → covered d2 NI x y ↔ covered shapes ND x y
  implanted x y =
      let a = spread_own _ NI _ d1 d2 s2 x y in
      let b = spread_other _ NB _ fields d1 s1 x y NI (λ e. cc (e)) in (
        λ h. elim (a.0 h) [
          | inl c ↦ elim (b.0 c) [
            | inl e ↦ absurd (let g = e.same in cc (g))
            | inr e ↦ elim e [ inl e ↦ absurd (let g = e.same in cc (g)) | inr e ↦ absurd e ]
          ]
          | inr r ↦ (here (covered shapes ND) x y).1 r
        ],
        λ h. a.1 (inr ((here (covered shapes ND) x y).0 h)),
      )

  pub plan_of : IsPlanOf shapes d2
  plan_of = record {
    plan = record {
      diffusion = diffusion;
      polysilicon = polysilicon;
      near = λ x y h. near_square shapes NP x y near ((buried x y).0 h);
    };
    polysilicon = buried;
    diffusion = implanted;
  }

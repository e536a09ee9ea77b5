-- Columns that lead.
use Rattle.std.proofs.Common.{◌≡◌, inl, inr, sym, ◌∙◌, ap, subst, arith, List, [], ◌∷◌, ◌++◌}
use Rattle.std.specs.Prelude.{◌↔◌, ℤ, ◌≤ℤ◌, ◌<ℤ◌, Option, Some}
use Rattle.std.proofs.lemmas.Int.{ints}
use Rattle.std.proofs.lemmas.Option.{same_Some}
use Rattle.lam_geom.specs.declared.rect.Rect.{Rect}
use Rattle.lam_geom.specs.Squares.{covered}
use Rattle.mask_tiles.specs.declared.tile.Tile.{Tile}
use Rattle.rule_rows.specs.Nears.{bound, IsColumn, AddsColumn, IsShortGap, LeadsLeft, column_of}
use Rattle.rule_rows.proofs.Spreading.{covered_more}

module _ (from to : Tile) (r : Option ℤ) (diffusion : to.colour ≡ 3) (meet : to.x1 ≡ from.x0) where
  pub left_one : (edge : ℤ) → from.colour ≡ 1 → ((x : ℤ) → (r ≡ Some x) ↔ IsColumn x × (x ≡ edge)) → edge ≡ from.x0
      → (x : ℤ) → (r ≡ Some x) ↔ IsColumn x × (to.colour ≡ 3) × LeadsLeft from to x
  left_one edge one h same x = (
    λ e. let g = (h x).0 e in (g.0, diffusion, record { meet = meet; start = inl (one, g.1 ∙ same) }),
    λ g. (h x).1 (g.0, elim g.2.start [ inl s ↦ s.1 ∙ sym same | inr s ↦ (let two = s.0 in absurd (omega arith)) ]),
  )

  pub left_short : (edge : ℤ) → IsShortGap from → ((x : ℤ) → (r ≡ Some x) ↔ IsColumn x × (x ≡ edge)) → edge ≡ from.x1
      → (x : ℤ) → (r ≡ Some x) ↔ IsColumn x × (to.colour ≡ 3) × LeadsLeft from to x
  left_short edge gap h same x = (
    λ e. let g = (h x).0 e in (g.0, diffusion, record { meet = meet; start = inr (gap.gap, g.1 ∙ same, gap.short) }),
    λ g. (h x).1 (
      g.0,
      elim g.2.start [
        | inl s ↦ (let one = s.0 in let two = gap.gap in absurd (omega arith))
        | inr s ↦ s.1 ∙ sym same
      ],
    ),
  )

pub added_column : (column : Option ℤ) (from to : Tile) (old new : List Rect) (p bottom top a b d e : ℤ)
    → column ≡ Some p → p <ℤ bound → ((y : ℤ) → (bottom ≤ℤ y) ↔ (a ≤ℤ y) × (b ≤ℤ y))
    → ((y : ℤ) → (y <ℤ top) ↔ (y <ℤ d) × (y <ℤ e)) → new ≡ old ++ column_of p bottom top ∷ []
    → a ≡ from.y0 → b ≡ to.y0 → d ≡ from.y1 → e ≡ to.y1 → AddsColumn column from to old new
added_column column from to old new p bottom top a b d e is small low high made ea eb ed ee l x y =
    let more = covered_more old (column_of p bottom top) l x y in (
      λ h. elim (more.0 (subst (λ z. covered z l x y) made h)) [
        | inl c ↦ inl c
        | inr c ↦ (
            let l = c.left in
            let r = c.right in
            let same : p ≡ x = omega (arith, ints) in
            inr (
              sym c.same,
              omega (arith, ints),
              subst (λ z. column ≡ Some z) same is,
              (subst (λ z. z ≤ℤ y) ea ((low y).0 c.bottom).0, subst (λ z. z ≤ℤ y) eb ((low y).0 c.bottom).1),
              subst (λ z. y <ℤ z) ed ((high y).0 c.top).0,
              subst (λ z. y <ℤ z) ee ((high y).0 c.top).1,
            ))
      ],
      λ h. subst (λ z. covered z l x y) (sym made) (more.1 (elim h [
        | inl c ↦ inl c
        | inr c ↦ (
            let same : p ≡ x = same_Some p x (sym is ∙ c.2) in
            inr (record {
              same = sym c.0;
              left = omega (arith, ints);
              right = omega (arith, ints);
              bottom = (low y).1 (subst (λ z. z ≤ℤ y) (sym ea) c.3.0, subst (λ z. z ≤ℤ y) (sym eb) c.3.1);
              top = (high y).1 (subst (λ z. y <ℤ z) (sym ed) c.4, subst (λ z. y <ℤ z) (sym ee) c.5);
            }))
      ])),
    )

-- the same column, its numbers read from words
pub same_column : (old new : List Rect) (p bottom top q low high : ℤ) → new ≡ old ++ column_of q low high ∷ [] → q ≡ p
    → low ≡ bottom → high ≡ top → new ≡ old ++ column_of p bottom top ∷ []
same_column old new p bottom top q low high made e f g =
    made ∙ ap (λ r. old ++ r ∷ []) (λ i. column_of (e i) (f i) (g i))

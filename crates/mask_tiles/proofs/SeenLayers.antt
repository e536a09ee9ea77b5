-- The layers that cover a square, and its colour on the mask of one layer.
use Rattle.std.proofs.Common.{ℕ, ◌≡◌, ◌⊎◌, ◌↔◌, List, [], ◌∷◌, Bool, true, false, true≢false, inl, inr, refl, sym}
use Rattle.std.proofs.Common.{◌∙◌, ap, arith}
use Rattle.std.specs.Prelude.{ℤ, if◌then◌else◌}
use Rattle.std.proofs.lemmas.Int.{ints, by_lt_z}
use Rattle.std.proofs.lemmas.Bool.{both_ways}
use Rattle.lam_geom.specs.declared.layer.Layer.{Layer}
use Rattle.lam_geom.specs.declared.layer.Layer.TheVariants.{ND, NP, NC, NM, NI, NB, NG}
use Rattle.lam_geom.specs.declared.rect.Rect.{Rect}
use Rattle.lam_geom.specs.Squares.{Covers, covered}
use Rattle.lam_geom.proofs.Ranks.{layer_or_not}
use Rattle.mask_runs.specs.declared.mask.Layers.{Layers}
use Rattle.mask_runs.specs.declared.mask.Mask.TheVariants.{Only}
use Rattle.mask_runs.specs.Colours.{has, Sees, HasColour}

covers_or_not : (r : Rect) (l : Layer) (x y : ℤ) → Covers r l x y ⊎ (¬ Covers r l x y)
covers_or_not r l x y = elim (layer_or_not r.layer l) [
  | inr n ↦ inr (λ h. n h.same)
  | inl e ↦ by_lt_z x r.x0 (λ m. inr (λ h. let g = h.left in omega (arith, ints)))
      (λ a. by_lt_z x r.x1 (λ b. by_lt_z y r.y0 (λ m. inr (λ h. let g = h.bottom in omega (arith, ints)))
      (λ c. by_lt_z y r.y1 (λ d. inl (record { same = e; left = a; right = b; bottom = c; top = d }))
      (λ m. inr (λ h. let g = h.top in omega (arith, ints)))))
      (λ m. inr (λ h. let g = h.right in omega (arith, ints))))
]

-- whether the layer covers the square
seen : (shapes : List Rect) (l : Layer) (x y : ℤ) → (b : Bool) × ((b ≡ true) ↔ covered shapes l x y)
seen [] l x y = (false, (λ e. absurd (true≢false (sym e)), λ h. absurd h))
seen (r ∷ rs) l x y = elim (covers_or_not r l x y) [
  | inl h ↦ (true, (λ e. inl h, λ g. refl))
  | inr n ↦ let (b, (to, from)) = seen rs l x y in
      (b, (λ e. inr (to e), λ g. elim g [ inl h ↦ absurd (n h) | inr h ↦ from h ]))
]

layers_by : (Layer → Bool) → Layers
layers_by t = record { nd = t ND; np = t NP; nc = t NC; nm = t NM; ni = t NI; nb = t NB; ng = t NG }

has_by : (t : Layer → Bool) (l : Layer) → has (layers_by t) l ≡ t l
unfolding layers_by
has_by t ND = refl
has_by t NP = refl
has_by t NC = refl
has_by t NM = refl
has_by t NI = refl
has_by t NB = refl
has_by t NG = refl

sees_some : (shapes : List Rect) (x y : ℤ) → Sees shapes x y (layers_by (λ l. (seen shapes l x y).0))
sees_some shapes x y = record {
  each = λ l.
      let e = has_by (λ m. (seen shapes m x y).0) l in
      let s = (seen shapes l x y).1 in
      (λ h. s.0 (sym e ∙ h), λ h. e ∙ s.1 h);
}

-- the layers that cover a square
pub layers_of : (shapes : List Rect) (x y : ℤ) → (s : Layers) × Sees shapes x y s
layers_of shapes x y = (layers_by (λ l. (seen shapes l x y).0), sees_some shapes x y)

-- a square that a layer covers, and one of a colour
pub only_covered : (shapes : List Rect) (l : Layer) (x y : ℤ) → covered shapes l x y → HasColour shapes (Only l) 1 x y
only_covered shapes l x y c =
    let s = layers_of shapes x y in
    record { layers = s.0; sees = s.1; same = ap (λ t. if t then 1 else 0) ((s.1.each l).1 c) }

one_or_none : (t : Bool) (k : ℕ) → (if t then 1 else 0) ≡ k → (t ≡ true) × (k ≡ 1) ⊎ (t ≡ false) × (k ≡ 0)
one_or_none true k e = inl (refl, sym e)
one_or_none false k e = inr (refl, sym e)

pub covered_only : (shapes : List Rect) (l : Layer) (k : ℕ) (x y : ℤ) → HasColour shapes (Only l) k x y
    → (covered shapes l x y × (k ≡ 1)) ⊎ (¬ covered shapes l x y × (k ≡ 0))
covered_only shapes l k x y h = elim (one_or_none (has h.layers l) k h.same) [
  | inl a ↦ inl ((h.sees.each l).0 a.0, a.1)
  | inr a ↦ inr (λ c. both_ways (has h.layers l) a.0 ((h.sees.each l).1 c), a.1)
]

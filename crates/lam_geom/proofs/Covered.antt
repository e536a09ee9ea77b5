-- What the rectangles of a list cover, for all crates above.
use Rattle.std.proofs.Common.{zero, suc, inl, inr, sym, subst, arith, List, [], ◌∷◌}
use Rattle.std.specs.Prelude.{Contains, ℤ}
use Rattle.mp_base.proofs.Contents.{contains_behind, contains_head, nothing_in}
use Rattle.lam_geom.specs.declared.layer.Layer.{Layer}
use Rattle.lam_geom.specs.declared.rect.Rect.{Rect}
use Rattle.lam_geom.specs.Squares.{Covers, covered}

pub covered_by : (rs : List Rect) (l : Layer) (x y : ℤ) → covered rs l x y → (r : Rect) × Contains rs r × Covers r l x y
covered_by [] l x y h = absurd h
covered_by (r ∷ rs) l x y (inl h) = (r, contains_head r rs, h)
covered_by (r ∷ rs) l x y (inr h) = let g = covered_by rs l x y h in (g.0, contains_behind g.0 r rs g.1, g.2)

pub covers_all : (rs : List Rect) (l : Layer) (x y : ℤ) (r : Rect) → Contains rs r → Covers r l x y → covered rs l x y
covers_all [] l x y r h c = absurd (nothing_in r h)
covers_all (q ∷ rs) l x y r (zero, h, e) c = inl (subst (λ z. Covers z l x y) (sym e) c)
covers_all (q ∷ rs) l x y r (suc k, h, e) c = inr (covers_all rs l x y r (k, omega (arith, h), e) c)

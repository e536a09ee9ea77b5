-- The extent of what is covered.
use Rattle.std.specs.Prelude.{◌≡◌, ℕ, ◌*◌, List, ℤ, pos, ◌+ℤ◌, ◌≤ℤ◌, ◌<ℤ◌}
use Rattle.lam_geom.specs.declared.layer.Layer.{Layer}
use Rattle.lam_geom.specs.declared.rect.Rect.{Rect}
use Rattle.lam_geom.specs.Squares.{covered, SameSquares}

-- the half-units of a lambda, which is 2.5 micrometres
abbrev pub lambda : ℕ
lambda = 500

-- the edges of a rectangle on whatever layers, in half-units
pub record Edges : Type 0 where
  pub left : ℤ
  pub bottom : ℤ
  pub right : ℤ
  pub top : ℤ

-- the square is between these edges
pub record IsBetween (e : Edges) (x y : ℤ) : Type 0 where
  pub left : e.left ≤ℤ x
  pub bottom : e.bottom ≤ℤ y
  pub right : x <ℤ e.right
  pub top : y <ℤ e.top

-- all covered squares of all layers are between these edges
abbrev pub HoldAll : (Layer → ℤ → ℤ → Type 0) → Edges → Type 0
HoldAll covers e = (l : Layer) (x y : ℤ) → covers l x y → IsBetween e x y

-- the inner edges are within the outer ones
pub record AreWithin (inner outer : Edges) : Type 0 where
  pub left : outer.left ≤ℤ inner.left
  pub bottom : outer.bottom ≤ℤ inner.bottom
  pub right : inner.right ≤ℤ outer.right
  pub top : inner.top ≤ℤ outer.top

-- the edges of the least rectangle that holds all covered squares of all layers: there is none where none is covered
pub record IsExtent (covers : Layer → ℤ → ℤ → Type 0) (e : Edges) : Type 0 where
  pub holds : HoldAll covers e
  pub least : (other : Edges) → HoldAll covers other → AreWithin e other

-- the extent is at most so many lambda wide and so many high
abbrev pub IsAtMost : (Layer → ℤ → ℤ → Type 0) → ℕ → ℕ → Type 0
IsAtMost covers width height =
    (e : Edges) → IsExtent covers e
    → (e.right ≤ℤ (e.left +ℤ pos (lambda * width))) × (e.top ≤ℤ (e.bottom +ℤ pos (lambda * height)))

-- the extent is exactly so many lambda wide and so many high
pub record IsOfSize (covers : Layer → ℤ → ℤ → Type 0) (width height : ℕ) : Type 0 where
  pub edges : Edges
  pub extent : IsExtent covers edges
  pub wide : edges.right ≡ edges.left +ℤ pos (lambda * width)
  pub high : edges.top ≡ edges.bottom +ℤ pos (lambda * height)

-- a drawing that covers a square has an extent
abbrev pub ExtentExists : Type 0
ExtentExists =
    (shapes : List Rect) (l : Layer) (x y : ℤ) → covered shapes l x y → (e : Edges) × IsExtent (covered shapes) e

-- a drawing has at most one extent
abbrev pub OneExtent : Type 0
OneExtent = (shapes : List Rect) (e f : Edges) → IsExtent (covered shapes) e → IsExtent (covered shapes) f → e ≡ f

-- drawings that cover the same squares have the same extent
abbrev pub ExtentOfSquares : Type 0
ExtentOfSquares =
    (rects shapes : List Rect) → SameSquares (covered rects) (covered shapes)
    → (e : Edges) → IsExtent (covered rects) e → IsExtent (covered shapes) e

-- The squares that rectangles cover.
use Rattle.std.specs.Prelude.{ℕ, ◌<◌, ◌≡◌, ◌↔◌, ◌⊎◌, List, [], ◌∷◌, ℤ, pos, ◌+ℤ◌, ◌≤ℤ◌, ◌<ℤ◌}
use Rattle.lam_geom.specs.declared.layer.Layer.{Layer}
use Rattle.lam_geom.specs.declared.layer.Layer.TheVariants.{ND, NP, NC, NM, NI, NB, NG}
use Rattle.lam_geom.specs.declared.rect.Rect.{Rect}
use Rattle.lam_geom.specs.Chains.{Chain}

-- a square of a layer, by its lower left corner
pub record Square : Type 0 where
  pub layer : Layer
  pub x : ℤ
  pub y : ℤ

-- the rectangle covers that square of the layer
pub record Covers (r : Rect) (l : Layer) (x y : ℤ) : Type 0 where
  pub same : r.layer ≡ l
  pub left : r.x0 ≤ℤ x
  pub right : x <ℤ r.x1
  pub bottom : r.y0 ≤ℤ y
  pub top : y <ℤ r.y1

-- some rectangle of the list covers that square of the layer
abbrev pub covered : List Rect → Layer → ℤ → ℤ → Type 0
covered [] l x y = ⊥
covered (r ∷ rs) l x y = Covers r l x y ⊎ covered rs l x y

-- both cover the same squares of each layer
abbrev pub SameSquares : (Layer → ℤ → ℤ → Type 0) → (Layer → ℤ → ℤ → Type 0) → Type 0
SameSquares c d = (l : Layer) (x y : ℤ) → c l x y ↔ d l x y

-- the square is one of the rectangle's
abbrev pub IsIn : Rect → Square → Type 0
IsIn r s = Covers r s.layer s.x s.y

-- one edge of their places is common, on whatever layers they are
abbrev pub ShareEdge : Square → Square → Type 0
ShareEdge s t =
    (s.y ≡ t.y) × (t.x ≡ s.x +ℤ pos 1 ⊎ s.x ≡ t.x +ℤ pos 1)
    ⊎ (s.x ≡ t.x) × (t.y ≡ s.y +ℤ pos 1 ⊎ s.y ≡ t.y +ℤ pos 1)

-- two squares of one kind, on one layer, that share an edge
pub record Adjoin (Is : Square → Type 0) (s t : Square) : Type 0 where
  pub from : Is s
  pub to : Is t
  pub same : s.layer ≡ t.layer
  pub beside : ShareEdge s t

-- some square of the one is at the place of a square of the other, or shares an edge with it
pub record Touch (r q : Rect) : Type 0 where
  pub s : Square
  pub t : Square
  pub in_first : IsIn r s
  pub in_second : IsIn q t
  pub meet : (s.x ≡ t.x) × (s.y ≡ t.y) ⊎ ShareEdge s t

-- layers in the order in which squares of one place are listed
abbrev pub rank : Layer → ℕ
rank NM = 0
rank NP = 1
rank ND = 2
rank NC = 3
rank NI = 4
rank NB = 5
rank NG = 6

-- squares are in the order of y, then x, then layer
abbrev pub Before : Square → Square → Type 0
Before s t =
    (s.y <ℤ t.y) ⊎ (s.y ≡ t.y) × (s.x <ℤ t.x) ⊎ (s.y ≡ t.y) × (s.x ≡ t.x) × (rank s.layer < rank t.layer)

-- any two squares of a rectangle are joined over shared edges inside it
abbrev pub RectanglesAreJoined : Type 0
RectanglesAreJoined = (r : Rect) (s t : Square) → IsIn r s → IsIn r t → Chain (Adjoin (IsIn r)) s t

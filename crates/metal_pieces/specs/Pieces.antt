-- Pieces of metal, each a list of rectangles.
use Rattle.std.specs.Prelude.{ℤ, pos, ◌+ℤ◌, ◌*ℤ◌, ◌≤ℤ◌, ◌≡◌, ◌⊎◌, List, [], ◌∷◌, ◌++◌, Contains}
use Rattle.lam_geom.specs.declared.layer.Layer.TheVariants.{NM}
use Rattle.lam_geom.specs.declared.rect.Rect.{Rect}
use Rattle.lam_geom.specs.Chains.{Chain}
use Rattle.lam_geom.specs.Extent.{lambda}
use Rattle.lam_geom.specs.Squares.{Square, Adjoin, ShareEdge, covered}

-- metal whose corners are given in lambda
abbrev pub metal : ℤ → ℤ → ℤ → ℤ → Rect
metal x0 y0 x1 y1 = record {
  layer = NM;
  x0 = pos lambda *ℤ x0;
  y0 = pos lambda *ℤ y0;
  x1 = pos lambda *ℤ x1;
  y1 = pos lambda *ℤ y1;
}

-- the square is one of the piece
abbrev pub IsOf : List Rect → Square → Type 0
IsOf piece s = covered piece s.layer s.x s.y

-- two squares of a layer are one, or share an edge
abbrev pub AreNear : Square → Square → Type 0
AreNear s t = (s.layer ≡ t.layer) × ((s.x ≡ t.x) × (s.y ≡ t.y) ⊎ ShareEdge s t)

-- any two squares of the piece are joined over shared edges inside it
abbrev pub IsConnected : List Rect → Type 0
IsConnected piece = (s t : Square) → IsOf piece s → IsOf piece t → Chain (Adjoin (IsOf piece)) s t

-- two pieces have no square and no edge in common
abbrev pub AreFar : List Rect → List Rect → Type 0
AreFar p q = (s t : Square) → IsOf p s → IsOf q t → ¬ AreNear s t

-- two rectangles have three lambda between them, along one of the axes
abbrev pub IsBeyond : Rect → Rect → Type 0
IsBeyond r q =
    ((r.x1 +ℤ pos 1500) ≤ℤ q.x0) ⊎ ((q.x1 +ℤ pos 1500) ≤ℤ r.x0)
    ⊎ ((r.y1 +ℤ pos 1500) ≤ℤ q.y0) ⊎ ((q.y1 +ℤ pos 1500) ≤ℤ r.y0)

-- and so have each two of two pieces
abbrev pub AreSpaced : List Rect → List Rect → Type 0
AreSpaced p q = (r t : Rect) → Contains p r → Contains q t → IsBeyond r t

-- the rectangles of all pieces
abbrev pub all_of : List (List Rect) → List Rect
all_of [] = []
all_of (p ∷ ps) = p ++ all_of ps

-- Edges of rectangles that face each other.
use Rattle.std.specs.Prelude.{◌≡◌, ◌≢◌, ◌⊎◌, ℕ, ◌+◌, ◌*◌, ◌%◌, ◌<◌, ◌≤◌, List, [], ◌∷◌, ◌++◌, Contains, Bool, true}
use Rattle.std.specs.Prelude.{false, nat_eq, ◌&&◌}
use Rattle.std.specs.Prelude.{ℤ, pos, ◌+ℤ◌, ◌≤ℤ◌, ◌<ℤ◌, unsigned_abs}
use Rattle.lam_geom.specs.declared.layer.Layer.{Layer}
use Rattle.lam_geom.specs.declared.layer.Layer.TheVariants.{ND, NP}
use Rattle.lam_geom.specs.declared.rect.Rect.{Rect}
use Rattle.rule_edges.specs.declared.along.Along.{Along}
use Rattle.rule_edges.specs.declared.along.Along.TheVariants.{Rows, Columns}
use Rattle.rule_edges.specs.declared.apart.Reached.{Reached}
use Rattle.rule_edges.specs.declared.edge.Edge.{Edge}
use Rattle.rule_edges.specs.declared.facing.Facing.{Facing}

-- the rectangle with that direction along the rows
abbrev pub laid : Along → Rect → Rect
laid Rows r = r
laid Columns r = record { layer = r.layer; x0 = r.y0; y0 = r.x0; x1 = r.y1; y1 = r.x1 }

-- the one begins a gap past the end of the other, in a row of both
pub record Faces (gap : ℕ) (r q : Rect) : Type 0 where
  pub meet : q.x0 ≡ r.x1 +ℤ pos gap
  pub row : ℤ
  pub r_bottom : r.y0 ≤ℤ row
  pub r_top : row <ℤ r.y1
  pub q_bottom : q.y0 ≤ℤ row
  pub q_top : row <ℤ q.y1

-- no rectangles of the list face each other so
abbrev pub AreApart : Facing → List Rect → Type 0
AreApart f shapes =
    (r q : Rect) → Contains shapes r → Contains shapes q → r.layer ≡ f.from → q.layer ≡ f.to
    → ¬ Faces f.gap (laid f.along r) (laid f.along q)

-- how far a coordinate is from one that is before all near the origin
abbrev pub offset : ℤ → ℕ
offset z = unsigned_abs (z +ℤ pos 1_100_000_000_000)

-- a square's number, so many columns on: numbers go up each column after another
abbrev pub number : ℤ → ℤ → ℕ → ℕ
number x y gap = (offset x + gap) * 4_398_046_511_104 + offset y

-- the edges where a rectangle ends, so many columns on, and where it begins
abbrev pub end_of : ℕ → Rect → Edge
end_of gap r = record { from = number r.x1 r.y0 gap; to = number r.x1 r.y1 gap; begins = false }

abbrev pub start_of : Rect → Edge
start_of r = record { from = number r.x0 r.y0 0; to = number r.x0 r.y1 0; begins = true }

-- the edge is added if its rectangle is of the layer
abbrev pub AddsEnd : Facing → Rect → List Edge → List Edge → Type 0
AddsEnd f r old new =
    (r.layer ≡ f.from) × (new ≡ old ++ end_of f.gap (laid f.along r) ∷ []) ⊎ (r.layer ≢ f.from) × (new ≡ old)

abbrev pub AddsStart : Facing → Rect → List Edge → List Edge → Type 0
AddsStart f r old new =
    (r.layer ≡ f.to) × (new ≡ old ++ start_of (laid f.along r) ∷ []) ⊎ (r.layer ≢ f.to) × (new ≡ old)

-- the list has the edges of all rectangles that may face each other so
pub record HasEdges (f : Facing) (shapes : List Rect) (edges : List Edge) : Type 0 where
  pub ends : (r : Rect) → Contains shapes r → r.layer ≡ f.from → Contains edges (end_of f.gap (laid f.along r))
  pub starts : (r : Rect) → Contains shapes r → r.layer ≡ f.to → Contains edges (start_of (laid f.along r))

pub record IsOn (e : Edge) (n : ℕ) : Type 0 where
  pub from : e.from ≤ n
  pub to : n < e.to

-- no edge where one ends has a square of one where one begins
abbrev pub AreClear : List Edge → Type 0
AreClear edges =
    (e f : Edge) → Contains edges e → Contains edges f → e.begins ≡ false → f.begins ≡ true → (n : ℕ) → IsOn e n
    → ¬ IsOn f n

-- an edge that begins past those of the other kind, and how far both go with it
pub record Passes (e : Edge) (old new : Reached) : Type 0 where
  pub past_ends : e.begins ≡ true → old.ended ≤ e.from
  pub past_starts : e.begins ≡ false → old.begun ≤ e.from
  pub ended : old.ended ≤ new.ended
  pub begun : old.begun ≤ new.begun
  pub own_end : e.begins ≡ false → e.to ≤ new.ended
  pub own_start : e.begins ≡ true → e.to ≤ new.begun

-- the coordinate is on the lambda grid
abbrev pub is_step : ℤ → Bool
is_step z = nat_eq (offset z % 500) 0

-- all edges of the rectangle are
abbrev pub is_on_grid : Rect → Bool
is_on_grid r = (is_step r.x0 && is_step r.x1) && (is_step r.y0 && is_step r.y1)

abbrev pub FitsIn : Layer → Rect → Type 0
FitsIn l r = r.layer ≡ l → is_on_grid r ≡ true

abbrev pub facing : Layer → Layer → ℕ → Along → Facing
facing from to gap along = record { from = from; to = to; gap = gap; along = along }

-- no rectangles of the layer are one lambda apart, nor two if the size is more than that
pub record AreSpaced (l : Layer) (size : ℕ) (along : Along) (shapes : List Rect) : Type 0 where
  pub near : AreApart (facing l l 500 along) shapes
  pub far : 1000 < size → AreApart (facing l l 1000 along) shapes

-- neither layer ends where the other begins
pub record AreParted (along : Along) (shapes : List Rect) : Type 0 where
  pub polysilicon_first : AreApart (facing NP ND 0 along) shapes
  pub diffusion_first : AreApart (facing ND NP 0 along) shapes

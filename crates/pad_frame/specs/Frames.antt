-- Pads with their stubs and routes, in lambda. Where there are p pads, the channel of the routes takes 7 p columns at the
-- left of the ports, whose edge is at 0; the stubs take 10 more, and the pads 40.
use Rattle.std.specs.Prelude.{ℕ, ◌≡◌, ◌+◌, ◌*◌, ◌<◌, ◌≤◌, ◌^◌, ℤ, pos, ◌+ℤ◌, ◌-ℤ◌, ◌*ℤ◌, ◌≤ℤ◌, ◌<ℤ◌, ◌⊎◌}
use Rattle.std.specs.Prelude.{List, [], ◌∷◌, length, get_or, flat_map, map, All, AllPairs}
use Rattle.std.specs.List.{range_with_len}
use Rattle.lam_geom.specs.declared.layer.Layer.{Layer}
use Rattle.lam_geom.specs.declared.layer.Layer.TheVariants.{NM}
use Rattle.lam_geom.specs.declared.rect.Rect.{Rect}
use Rattle.lam_geom.specs.Extent.{lambda}
use Rattle.lam_geom.specs.Squares.{Square, covered}
use Rattle.metal_pieces.specs.Pieces.{metal, IsOf, IsConnected, AreFar, AreSpaced}
use Rattle.river_route.specs.Routes.{IsLow, route_rects}
use Rattle.pad_frame.specs.declared.frames.PadWish.{PadWish}
use Rattle.pad_frame.specs.declared.frames.PadSpot.{PadSpot}
use Rattle.pad_frame.specs.declared.frames.Framed.{Framed}

-- so far at the left of the channel
abbrev pub west : ℕ → ℕ → ℤ
west pads far = pos 0 -ℤ pos (7 * pads + far)

abbrev pub pad_rect : ℕ → ℕ → Rect
pad_rect pads j = metal (west pads 50) (pos (60 * j)) (west pads 10) (pos (60 * j + 40))

-- the height of a pad's stub
abbrev pub stub_at : ℕ → ℤ
stub_at j = pos (60 * j + 18)

abbrev pub stub_rect : ℕ → ℕ → Rect
stub_rect pads j = metal (west pads 10) (stub_at j) (west pads 0) (stub_at j +ℤ pos 4)

-- pad j of so many, with its stub and its route to the row
abbrev pub piece : ℕ → ℕ → ℤ → List Rect
piece pads j row = pad_rect pads j ∷ stub_rect pads j ∷ route_rects (west pads 0) pads j (stub_at j) row

-- where there is no wish
abbrev pub no_wish : PadWish
no_wish = record { name = []; row = pos 0 }

-- the row of wish j
abbrev pub row_at : List PadWish → ℕ → ℤ
row_at wishes j = (get_or wishes j no_wish).row

abbrev pub piece_of : List PadWish → ℕ → List Rect
piece_of wishes j = piece (length wishes) j (row_at wishes j)

-- the place of the label of pad j, in half-units
abbrev pub spot_x : ℕ → ℤ
spot_x pads = pos lambda *ℤ west pads 30

abbrev pub spot_y : ℕ → ℤ
spot_y j = pos (lambda * (60 * j + 20))

abbrev pub spot_of : List PadWish → ℕ → PadSpot
spot_of wishes j = record { name = (get_or wishes j no_wish).name; x = spot_x (length wishes); y = spot_y j }

abbrev pub Rises : PadWish → PadWish → Type 0
Rises v w = (v.row +ℤ pos 7) ≤ℤ w.row

pub record AreWishes (wishes : List PadWish) : Type 0 where
  pub few : length wishes ≤ 2 ^ 20
  pub low : All (λ (w : PadWish). IsLow w.row) wishes
  pub rising : AllPairs Rises wishes

-- a piece that reaches the ports' edge at its own port, and nowhere else, and is at the left of it
pub record ReachesPort (p : List Rect) (row : ℤ) : Type 0 where
  pub at_port : (y : ℤ) → (pos lambda *ℤ row) ≤ℤ y → y <ℤ (pos lambda *ℤ (row +ℤ pos 4)) → covered p NM (pos 0 -ℤ pos 1) y
  pub only : (s : Square) → IsOf p s → (s.layer ≡ NM) × (s.x <ℤ pos 0)
      × ((s.x ≡ pos 0 -ℤ pos 1) → ((pos lambda *ℤ row) ≤ℤ s.y) × (s.y <ℤ (pos lambda *ℤ (row +ℤ pos 4))))

-- the square is of the frame's width, and of the height of the pad or of its port, or between these
pub record IsWithin (pads j : ℕ) (row : ℤ) (s : Square) : Type 0 where
  pub left : (pos lambda *ℤ west pads 50) ≤ℤ s.x
  pub bottom : (pos (lambda * (60 * j)) ≤ℤ s.y) ⊎ ((pos lambda *ℤ row) ≤ℤ s.y)
  pub top : (s.y <ℤ pos (lambda * (60 * j + 40))) ⊎ (s.y <ℤ (pos lambda *ℤ (row +ℤ pos 4)))

-- The shape covers the squares of these pieces and no other. Each piece is edge-connected, has its label's square, and
-- reaches its own port; two pieces have no square and no edge in common: their
-- rectangles are three lambda apart.
pub record AreFramed (wishes : List PadWish) (framed : Framed) : Type 0 where
  pub drawn : framed.shape ≡ flat_map (piece_of wishes) (range_with_len 0 (length wishes))
  pub spots : framed.spots ≡ map (spot_of wishes) (range_with_len 0 (length wishes))
  pub labelled : (j : ℕ) → j < length wishes → covered (piece_of wishes j) NM (spot_x (length wishes)) (spot_y j)
  pub connected : (j : ℕ) → j < length wishes → IsConnected (piece_of wishes j)
  pub apart : (i j : ℕ) → i < j → j < length wishes → AreFar (piece_of wishes i) (piece_of wishes j)
  pub spaced : (i j : ℕ) → i < j → j < length wishes → AreSpaced (piece_of wishes i) (piece_of wishes j)
  pub within : (j : ℕ) (s : Square) → j < length wishes → IsOf (piece_of wishes j) s
      → IsWithin (length wishes) j (row_at wishes j) s
  pub port : (j : ℕ) → j < length wishes → ReachesPort (piece_of wishes j) (row_at wishes j)

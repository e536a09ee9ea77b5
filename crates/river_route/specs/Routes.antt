-- River routes, in lambda. A port is 4 high, and named by its lowest square.
use Rattle.std.specs.Prelude.{ℕ, suc, ◌+◌, ◌*◌, ◌-◌, ◌<◌, ◌≤◌, ◌^◌, ℤ, pos, neg_ℤ, ◌+ℤ◌, ◌≤ℤ◌, ◌↔◌, cond, int_le}
use Rattle.std.specs.Prelude.{List, [], ◌∷◌, length, get_or, flat_map, All, AllPairs}
use Rattle.std.specs.List.{range_with_len}
use Rattle.lam_geom.specs.declared.layer.Layer.{Layer}
use Rattle.lam_geom.specs.declared.rect.Rect.{Rect}
use Rattle.lam_geom.specs.Squares.{covered}
use Rattle.metal_pieces.specs.Pieces.{metal, IsConnected, AreFar, AreSpaced}

-- Across from the left edge at the height l, up or down in lane k, and across to the right edge at the height r. Each
-- lane is 4 wide, and 3 apart from the next.
abbrev pub bent : ℤ → ℕ → ℕ → ℤ → ℤ → ℤ → ℤ → List Rect
bent left n k l r low high =
    metal left l (left +ℤ pos (7 * k + 4)) (l +ℤ pos 4)
    ∷ metal (left +ℤ pos (7 * k)) low (left +ℤ pos (7 * k + 4)) (high +ℤ pos 4)
    ∷ metal (left +ℤ pos (7 * k)) r (left +ℤ pos (7 * n)) (r +ℤ pos 4) ∷ []

-- Net j of n, from l at the left to r at the right: nets that don't rise take lanes from the left on, nets that rise
-- from the right on.
abbrev pub route_rects : ℤ → ℕ → ℕ → ℤ → ℤ → List Rect
route_rects left n j l r = cond (int_le r l) (bent left n j l r r l) (bent left n (n - 1 - j) l r l r)

-- both ends of a net
abbrev pub Ends : Type 0
Ends = ℤ × ℤ

abbrev pub nowhere : Ends
nowhere = (pos 0, pos 0)

abbrev pub route_of : ℤ → List Ends → ℕ → List Rect
route_of left ends j =
    route_rects left (length ends) j (get_or ends j nowhere).0 (get_or ends j nowhere).1

-- of two nets the later one is higher by at least 7 at both sides
abbrev pub Rises : Ends → Ends → Type 0
Rises a b = ((a.0 +ℤ pos 7) ≤ℤ b.0) × ((a.1 +ℤ pos 7) ≤ℤ b.1)

-- at most 2^30 in size
abbrev pub IsLow : ℤ → Type 0
IsLow z = (neg_ℤ (pos (2 ^ 30)) ≤ℤ z) × (z ≤ℤ pos (2 ^ 30))

pub record AreEnds (ends : List Ends) : Type 0 where
  pub few : length ends ≤ 2 ^ 20
  pub low : All (λ (e : Ends). IsLow e.0 × IsLow e.1) ends
  pub rising : AllPairs Rises ends

-- The shape covers the squares of these nets and no other. Each net is edge-connected, and two nets have no square and
-- no edge in common: their rectangles are three lambda apart.
pub record AreRoutes (left : ℤ) (ends : List Ends) (shape : List Rect) : Type 0 where
  pub squares : (l : Layer) (x y : ℤ) → covered shape l x y
      ↔ ((j : ℕ) × (j < length ends) × covered (route_of left ends j) l x y)
  pub connected : (j : ℕ) → j < length ends → IsConnected (route_of left ends j)
  pub apart : (i j : ℕ) → i < j → j < length ends → AreFar (route_of left ends i) (route_of left ends j)
  pub spaced : (i j : ℕ) → i < j → j < length ends → AreSpaced (route_of left ends i) (route_of left ends j)

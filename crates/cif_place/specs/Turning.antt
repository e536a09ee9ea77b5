-- What the turns of a call come to.
use Rattle.std.specs.Prelude.{ℕ, ◌≡◌, ◌⊎◌, Bool, false, List, Contains, ℤ, pos}
use Rattle.lam_geom.specs.declared.place.Point.{Point}
use Rattle.lam_geom.specs.declared.rect.Rect.{Rect}
use Rattle.lam_geom.specs.Moves.{IsNear}
use Rattle.cif_form.specs.declared.command.Turn.{Turn}
use Rattle.cif_form.specs.declared.command.Turn.TheVariants.{Move, Rotate}
use Rattle.cif_form.specs.Place.{Scale, IsOnAxis, Motion, placed, AreMotions}
use Rattle.cif_form.specs.Walk.{IsWholePoint, IsFarPoint}
use Rattle.cif_place.specs.declared.placement.Placement.{Placement}
use Rattle.cif_place.specs.declared.turned.Turned.{Turned}
use Rattle.cif_place.specs.declared.turned.Turned.TheVariants.{Askew, Uneven, Far, Placed}
use Rattle.cif_place.specs.Placing.{IsShortPoint, place_of, after, IsHeld}

-- the numbers of the turn are short
abbrev pub IsShortTurn : Turn → Type 0
IsShortTurn (Move p) = IsShortPoint p
IsShortTurn (Rotate p) = IsShortPoint p
IsShortTurn _ = Unit {0}

-- some turn of a kind has a point of which this is true
abbrev pub Has : (Point → Turn) → (Point → Type 0) → List Turn → Type 0
Has kind P ts = (p : Point) × Contains ts (kind p) × P p

abbrev pub HasAskew : List Turn → Type 0
HasAskew ts = Has Rotate (λ p. ¬ IsOnAxis p) ts

abbrev pub HasUneven : Scale → List Turn → Type 0
HasUneven s ts = Has Move (λ p. ¬ IsWholePoint s p) ts

abbrev pub HasFar : Scale → List Turn → Type 0
HasFar s ts = Has Move (IsFarPoint s) ts

-- together the turns are this placement
abbrev pub AreTurns : Scale → List Turn → Placement → Type 0
AreTurns s ts p = (ms : List Motion) × AreMotions s ts ms × ((r : Rect) → placed ms r ≡ place_of p r)

abbrev pub IsTurned : Scale → List Turn → Turned → Type 0
IsTurned s ts Askew = HasAskew ts
IsTurned s ts Uneven = ¬ HasAskew ts × HasUneven s ts
IsTurned s ts Far = ¬ HasAskew ts × ¬ HasUneven s ts × HasFar s ts
IsTurned s ts (Placed p) = ¬ HasAskew ts × ¬ HasUneven s ts × ¬ HasFar s ts × AreTurns s ts p

abbrev pub IsHeldTurned : ℕ → Turned → Type 0
IsHeldTurned n (Placed p) = IsHeld n p
IsHeldTurned n _ = Unit {0}

-- of two faults the first by its rule
abbrev pub joined : Turned → Turned → Turned
joined Askew b = Askew
joined Uneven Askew = Askew
joined Uneven _ = Uneven
joined Far (Placed q) = Far
joined Far b = b
joined (Placed p) (Placed q) = Placed (after q p)
joined (Placed p) b = b

-- a shift of this size, if it is near
abbrev pub IsMoved : ℤ → ℤ → Turned → Type 0
IsMoved dx dy Far = ¬ IsNear dx ⊎ ¬ IsNear dy
IsMoved dx dy (Placed p) =
    (p ≡ record { swaps = false; flips_x = false; flips_y = false; dx = dx; dy = dy }) × IsNear dx × IsNear dy
IsMoved dx dy _ = ⊥

-- a turn without a shift
abbrev pub turn_of : Bool → Bool → Bool → Placement
turn_of swaps flips_x flips_y = record { swaps = swaps; flips_x = flips_x; flips_y = flips_y; dx = pos 0; dy = pos 0 }

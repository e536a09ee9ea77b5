-- Where named wires and ties stand in a fabric.
use Rattle.std.specs.Prelude.{◌≡◌, ◌↔◌, ◌⊎◌, ℕ, List, map, Contains}
use Rattle.tile_cells.specs.declared.tile.Tile.{Tile}
use Rattle.tile_cells.specs.declared.tile.Tile.TheVariants.{TapL, TapR, Tran, PullUp}
use Rattle.fabric.specs.declared.thing.Side.{Side}
use Rattle.fabric.specs.declared.thing.Side.TheVariants.{L, R}
use Rattle.fabric.specs.declared.thing.Segment.{Segment}
use Rattle.fabric.specs.declared.thing.Line.{Line}
use Rattle.fabric.specs.declared.thing.Mark.{Mark}
use Rattle.fabric.specs.Plan.{Plan, Passes, Crosses}
use Rattle.fabric.specs.Switches.{Net, segment, line, ground, power}
use Rattle.nor_net.specs.declared.net.Phase.{Phase}
use Rattle.nor_net.specs.Elements.{Spot}
use Rattle.array_form.specs.Named.{Tie, tap, tran, pull}
use Rattle.array_form.specs.Wires.{Wire, row, beat, left, right, trunk, extra, to_ground, to_power}

-- The numbers of a layout: rows, first and last columns of segments; the column of each net that has one, and of
-- each phase; the last
-- band; the other lines, and where these are tapped to ground.
pub record Layout (X : Type 0) : Type 0 where
  pub rows : ℕ → ℕ
  pub row_at : Spot → ℕ
  pub first_at : Spot → ℕ
  pub last_at : Spot → ℕ
  pub beat_row : ℕ → Phase → ℕ
  pub beat_first : ℕ → Phase → ℕ
  pub beat_last : ℕ → Phase → ℕ
  pub home : Spot → ℕ
  pub trunk_at : Phase → ℕ
  pub top : ℕ
  pub across : X → Line
  pub ground_at : X → ℕ

abbrev pub stretch : ℕ → ℕ → ℕ → ℕ → Segment
stretch b r first last = record { band = b; row = r; first = first; last = last }

abbrev pub upright : ℕ → Side → ℕ → ℕ → Line
upright c side first last = record { column = c; side = side; first_band = first; last_band = last }

-- the segment or the line of a wire
abbrev pub net_of : (X : Type 0) → Layout X → Wire X → Net
net_of X y (row s) = segment (stretch s.band (y.row_at s) (y.first_at s) (y.last_at s))
net_of X y (beat b ph) = segment (stretch b (y.beat_row b ph) (y.beat_first b ph) (y.beat_last b ph))
net_of X y (left s) = line (upright (y.home s) L s.band s.band)
net_of X y (right s) = line (upright (y.home s) R s.band s.band)
net_of X y (trunk ph) = line (upright (y.trunk_at ph) L 0 y.top)
net_of X y (extra x) = line (y.across x)
net_of X y to_ground = ground
net_of X y to_power = power

abbrev pub column_of : Net → ℕ
column_of (segment s) = 0
column_of (line l) = l.column
column_of ground = 0
column_of power = 0

-- row 0 is ground's
abbrev pub row_of : Net → ℕ
row_of (segment s) = s.row
row_of (line l) = 0
row_of ground = 0
row_of power = 0

-- the band of a segment
abbrev pub band_of : ℕ → Net → ℕ
band_of otherwise (segment s) = s.band
band_of otherwise (line l) = otherwise
band_of otherwise ground = otherwise
band_of otherwise power = otherwise

-- the band in which a line is tapped to ground, and has its pull-up
abbrev pub foot : (X : Type 0) → Layout X → Wire X → ℕ
foot X y (left s) = s.band
foot X y (right s) = s.band
foot X y (extra x) = y.ground_at x
foot X y _ = 0

abbrev pub tap_tile : Side → Tile
tap_tile L = TapL
tap_tile R = TapR

abbrev pub mark : Tile → ℕ → ℕ → ℕ → Mark
mark t b r c = record { tile = t; band = b; row = r; column = c }

-- the mark of a tie
abbrev pub mark_of : (X : Type 0) → Layout X → Tie (Wire X) → Mark
mark_of X y (tap side w v) =
    mark (tap_tile side) (band_of (foot X y w) (net_of X y v)) (row_of (net_of X y v)) (column_of (net_of X y w))
mark_of X y (tran g a b) = mark Tran (band_of 0 (net_of X y g)) (row_of (net_of X y g)) (column_of (net_of X y a))
mark_of X y (pull a) = mark PullUp (foot X y a) (y.rows (foot X y a)) (column_of (net_of X y a))

-- the line is on that side at that place; the segment crosses it
abbrev pub IsLineAt : Net → Side → ℕ → ℕ → Type 0
IsLineAt (line l) side b c = Passes l side b c
IsLineAt _ side b c = ⊥

abbrev pub IsSegmentAt : Net → ℕ → ℕ → ℕ → Type 0
IsSegmentAt (segment s) b r c = Crosses s b r c
IsSegmentAt _ b r c = ⊥

-- the mark of a tie stands where its wires cross
abbrev pub Crossing : (X : Type 0) → Layout X → Tie (Wire X) → Type 0
Crossing X y (tap side w v) =
    let m : Mark = mark_of X y (tap side w v) in
    IsLineAt (net_of X y w) side m.band m.column
    × ((m.row ≡ 0) × (net_of X y v ≡ ground) ⊎ IsSegmentAt (net_of X y v) m.band m.row m.column)
Crossing X y (tran g a b) =
    let m : Mark = mark_of X y (tran g a b) in
    IsSegmentAt (net_of X y g) m.band m.row m.column × IsLineAt (net_of X y a) L m.band m.column
    × IsLineAt (net_of X y b) R m.band m.column
Crossing X y (pull a) =
    let m : Mark = mark_of X y (pull a) in
    IsLineAt (net_of X y a) L m.band m.column

-- the fabric has exactly these segments, lines and marks; marks in any order
pub record IsMadeOf (X : Type 0) (y : Layout X) (rows columns : List (Wire X)) (ties : List (Tie (Wire X)))
    (f : Plan) : Type 0 where
  pub segments : map segment f.segments ≡ map (net_of X y) rows
  pub lines : map line f.lines ≡ map (net_of X y) columns
  pub marks : (m : Mark) → Contains f.marks m ↔ Contains (map (mark_of X y) ties) m

-- a wire of these lists, or ground or power
abbrev pub InLists : (X : Type 0) → List (Wire X) → List (Wire X) → Wire X → Type 0
InLists X rows columns w = Contains rows w ⊎ Contains columns w ⊎ (w ≡ to_ground) ⊎ (w ≡ to_power)

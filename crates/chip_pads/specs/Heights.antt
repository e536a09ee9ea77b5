-- How high the ports of a fabric's nets lie.
use Rattle.std.specs.Prelude.{ℕ, ◌≡◌, ◌≢◌, ◌⊎◌, ◌+◌, ◌*◌, ◌≤◌, List, pos, Contains}
use Rattle.tile_cells.specs.declared.tile.Tile.TheVariants.{Under}
use Rattle.fabric.specs.declared.thing.Mark.{Mark}
use Rattle.fabric.specs.Plan.{Plan, IsFabric, rows_of}
use Rattle.fabric.specs.Shape.{base}
use Rattle.fabric.specs.Switches.{Net}
use Rattle.fabric.specs.Switches.Net.{segment, line, ground, power}
use Rattle.pad_frame.specs.declared.frames.PadWish.{PadWish}
use Rattle.pad_frame.specs.Frames.{row_at}
use Rattle.chip_pads.specs.Ports.{IsPadOf}

-- a crossing stands in that row
abbrev pub IsCrossed : Plan → ℕ → ℕ → Type 0
IsCrossed f b r = (m : Mark) × Contains f.marks m × (m.tile ≡ Under) × (m.band ≡ b) × (m.row ≡ r)

-- The net has a port: a segment that begins in column 1 and power at a crossing, ground at the bridge.
abbrev pub HasPort : Plan → Net → Type 0
HasPort f (segment s) = Contains f.segments s × (s.first ≡ 1) × IsCrossed f s.band s.row
HasPort f (line l) = ⊥
HasPort f ground = Unit {0}
HasPort f power = IsCrossed f 0 (rows_of f 0)

-- the lowest lambda of the port, which for power is in the lowest band; a line has none
abbrev pub port_low : Plan → Net → ℕ
port_low f (segment s) = base f s.band + 12 * s.row + 6
port_low f (line l) = 0
port_low f ground = 6
port_low f power = 12 * rows_of f 0 + 27

-- the ports of two nets are 7 lambda apart
abbrev pub PortsAreParted : Type 0
PortsAreParted =
    (f : Plan) → IsFabric f → (n m : Net) → HasPort f n → HasPort f m → n ≢ m
    → (port_low f n + 7 ≤ port_low f m) ⊎ (port_low f m + 7 ≤ port_low f n)

-- a pad at the height of a net's port is for the net: the first one for ground
abbrev pub PortsAreOfNets : Type 0
PortsAreOfNets =
    (f : Plan) → IsFabric f → (wishes : List PadWish) (j : ℕ) (n : Net) → HasPort f n
    → row_at wishes j ≡ pos (port_low f n) → (j ≡ 0) × (n ≡ ground) ⊎ (1 ≤ j) × (n ≢ ground) → IsPadOf f wishes j n

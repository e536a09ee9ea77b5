-- The ports of a fabric, and the pads that are joined to them.
use Rattle.std.specs.Prelude.{ℕ, ◌≡◌, ◌⊎◌, ◌+◌, ◌-◌, ◌*◌, ◌<◌, ◌≤◌, List, [], ◌∷◌, ◌++◌, length, map, get_or, pos}
use Rattle.std.specs.Prelude.{Contains}
use Rattle.std.specs.List.{range_with_len}
use Rattle.lam_geom.specs.declared.rect.Rect.{Rect}
use Rattle.lam_geom.specs.Extent.{IsAtMost}
use Rattle.lam_geom.specs.Rules.{IsClean}
use Rattle.lam_geom.specs.Chains.{Chain}
use Rattle.lam_geom.specs.Squares.{Square, covered}
use Rattle.switch_net.specs.Conductors.{Joined}
use Rattle.tile_cells.specs.declared.tile.Tile.TheVariants.{Under}
use Rattle.fabric.specs.declared.thing.Mark.{Mark}
use Rattle.fabric.specs.Plan.{Plan, IsFabric, bands}
use Rattle.fabric.specs.Shape.{base, last_column, shape}
use Rattle.fabric.specs.Switches.{Net}
use Rattle.fabric.specs.Switches.Net.{ground}
use Rattle.fabric_laws.specs.Theorem.{IsOn}
use Rattle.fabric_laws.specs.West.{crossing_low, IsCrossingOf}
use Rattle.metal_pieces.specs.Pieces.{metal, all_of}
use Rattle.mask_gluing.specs.Gluing.{Touches, AreGlued}
use Rattle.pad_frame.specs.declared.frames.PadWish.{PadWish}
use Rattle.pad_frame.specs.declared.frames.Framed.{Framed}
use Rattle.pad_frame.specs.Frames.{row_at, piece_of, AreFramed}

-- the metal that joins the first port to the ground trunk, in row 0 of band 0
abbrev pub bridge : Rect
bridge = metal (pos 0) (pos 6) (pos 7) (pos 10)

-- the first wish is for ground, and each other one for the port of a crossing
pub record ArePorts (f : Plan) (wishes : List PadWish) : Type 0 where
  pub some : 1 ≤ length wishes
  pub ground : row_at wishes 0 ≡ pos 6
  pub others : (j : ℕ) → 1 ≤ j → j < length wishes → (m : Mark) × Contains f.marks m × (m.tile ≡ Under)
      × (row_at wishes j ≡ pos (crossing_low f m))

-- the pieces: ground's has the bridge too
abbrev pub pieces_of : List PadWish → List (List Rect)
pieces_of wishes =
    (bridge ∷ piece_of wishes 0) ∷ map (piece_of wishes) (range_with_len 1 (length wishes - 1))

abbrev pub PadsAreGlued : Type 0
PadsAreGlued =
    (f : Plan) → IsFabric f → (wishes : List PadWish) (framed : Framed) → AreFramed wishes framed
    → ArePorts f wishes → AreGlued (shape f) (pieces_of wishes)

-- the pad is for the net: the first one for ground, and each other one for that of the crossing at its port
abbrev pub IsPadOf : Plan → List PadWish → ℕ → Net → Type 0
IsPadOf f wishes j n =
    (j ≡ 0) × (n ≡ ground)
    ⊎ (1 ≤ j) × ((m : Mark) × Contains f.marks m × (m.tile ≡ Under) × (row_at wishes j ≡ pos (crossing_low f m))
    × IsCrossingOf f m n)

-- what touches the metal of a pad is joined to the pad's net
abbrev pub PadsReachNets : Type 0
PadsReachNets =
    (f : Plan) → IsFabric f → (wishes : List PadWish) (framed : Framed) → AreFramed wishes framed
    → ArePorts f wishes → (j : ℕ) → j < length wishes → (n : Net) → IsPadOf f wishes j n → (s t : Square) → IsOn f n s
    → Touches (shape f) (get_or (pieces_of wishes) j []) t → Chain (Joined (covered (shape f))) s t

abbrev pub PadsAreDrawn : Type 0
PadsAreDrawn =
    (wishes : List PadWish) (framed : Framed) → AreFramed wishes framed → 1 ≤ length wishes
    → bridge ∷ framed.shape ≡ all_of (pieces_of wishes)

-- no lambda rule is broken
abbrev pub PadsAreClean : Type 0
PadsAreClean =
    (f : Plan) → IsFabric f → (wishes : List PadWish) (framed : Framed) → AreFramed wishes framed
    → ArePorts f wishes → IsClean (covered (shape f ++ all_of (pieces_of wishes)))

-- what a fabric and its pads cover is between these edges, where so many lambda are at least the height of the fabric
-- and of the pads
abbrev pub PadsAreHeld : Type 0
PadsAreHeld =
    (f : Plan) → IsFabric f → (wishes : List PadWish) (framed : Framed) → AreFramed wishes framed
    → ArePorts f wishes → (high : ℕ) → base f (bands f) ≤ high → 60 * length wishes ≤ high
    → IsAtMost (covered (shape f ++ all_of (pieces_of wishes))) (20 * last_column f + 7 * length wishes + 63) high

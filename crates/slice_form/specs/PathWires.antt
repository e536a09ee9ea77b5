-- The wires of a placed data path by names, and what all marks tie.
use Rattle.std.specs.Prelude.{◌≡◌, ◌≢◌, ◌⊎◌, ◌<◌, ◌≤◌, ◌==◌, ℕ, zero, suc, List, Option, Some, None, Bool, true, false}
use Rattle.std.specs.Prelude.{length, slice_get, cond}
use Rattle.fabric.specs.declared.thing.Side.{Side}
use Rattle.fabric.specs.declared.thing.Side.TheVariants.{L, R}
use Rattle.nor_net.specs.declared.net.Phase.{Phase}
use Rattle.nor_net.specs.declared.net.NetId.{NetId}
use Rattle.nor_net.specs.declared.net.Part.TheVariants.{Input, Gate, Latch}
use Rattle.nor_net.specs.Elements.{Spot}
use Rattle.drawing.specs.Draws.{Ground}
use Rattle.array_form.specs.Named.{Tie, tap, pull}
use Rattle.array_form.specs.Roots.{Root, at}
use Rattle.array_form.specs.Wires.{Wire, row, beat, left, right, trunk, extra, to_ground, to_power, place, NetTie}
use Rattle.slice_form.specs.Path.{Carry, Cast, Lift, Programmed, Path, parts, IsSlice}

-- Lines through bands: of a cast; of a lift, and of a lifted net in the other slices; and of a chain, below the slice
-- with that number or, at
-- the width, above the last.
pub data Across : Type 0 where
  cast_line : ℕ → Across
  lift_line : ℕ → Across
  lift_stub : ℕ → ℕ → Across
  chain_line : ℕ → ℕ → Across

-- a chain's lines take turns between the sides of its column
abbrev pub side_of : ℕ → Side
side_of zero = R
side_of (suc zero) = L
side_of (suc (suc g)) = side_of g

-- a slice's net on the chain's line below it, and on the line above it
abbrev pub below : Carry → ℕ
below c = cond c.up c.to c.start

abbrev pub above : Carry → ℕ
above c = cond c.up c.start c.to

-- the line that is the chain's open end
abbrev pub open_gap : Path → Carry → ℕ
open_gap p c = cond c.up 0 p.width

pub data PathTie (p : Path) (stub : ℕ → ℕ → Bool) : Tie (Wire Across) → Type 0 where
  of_net : (b : ℕ) (t : Tie (Wire Across)) → b ≤ p.width → NetTie Across b (parts p b) (stub b) t → PathTie p stub t
  of_phase : (b : ℕ) (ph : Phase) → b ≤ p.width → PathTie p stub (tap L (trunk ph) (beat b ph))
  of_cast : (i : ℕ) (c : Cast) → slice_get p.casts i ≡ Some c
      → PathTie p stub (tap L (extra (cast_line i)) (row (place 0 c.control)))
  of_cast_slice : (i : ℕ) (c : Cast) (b : ℕ) → slice_get p.casts i ≡ Some c → IsSlice p b
      → PathTie p stub (tap L (extra (cast_line i)) (row (place b c.slice)))
  of_lift : (i : ℕ) (l : Lift) → slice_get p.lifts i ≡ Some l
      → PathTie p stub (tap L (extra (lift_line i)) (row (place 0 l.control)))
  of_lift_slice : (i : ℕ) (l : Lift) → slice_get p.lifts i ≡ Some l
      → PathTie p stub (tap L (extra (lift_line i)) (row (place (suc l.slice) l.start)))
  of_lift_stub : (i : ℕ) (l : Lift) (b : ℕ) → slice_get p.lifts i ≡ Some l → IsSlice p b → b ≢ suc l.slice
      → PathTie p stub (tap R (extra (lift_stub i b)) (row (place b l.start)))
  of_below : (i : ℕ) (c : Carry) (g : ℕ) → slice_get p.chains i ≡ Some c → g < p.width
      → PathTie p stub (tap (side_of g) (extra (chain_line i g)) (row (place (suc g) (below c))))
  of_above : (i : ℕ) (c : Carry) (g : ℕ) → slice_get p.chains i ≡ Some c → suc g ≤ p.width
      → PathTie p stub (tap (side_of (suc g)) (extra (chain_line i (suc g))) (row (place (suc g) (above c))))
  of_open : (i : ℕ) (c : Carry) → slice_get p.chains i ≡ Some c
      → PathTie p stub (tap (side_of (open_gap p c)) (extra (chain_line i (open_gap p c))) to_ground)
  of_bit_ground : (i : ℕ) (g : Programmed) (b : ℕ) → slice_get p.programs i ≡ Some g → suc b ≤ p.width
      → PathTie p stub (tap R (right (place (suc b) g.net)) to_ground)
  of_bit_pull : (i : ℕ) (g : Programmed) (b : ℕ) → slice_get p.programs i ≡ Some g → suc b ≤ p.width
      → PathTie p stub (pull (left (place (suc b) g.net)))
  of_one : (i : ℕ) (g : Programmed) (b : ℕ) → slice_get p.programs i ≡ Some g → suc b ≤ p.width
      → slice_get g.bits b ≡ Some true
      → PathTie p stub (tap L (left (place (suc b) g.net)) (row (place (suc b) g.net)))
  of_zero : (i : ℕ) (g : Programmed) (b : ℕ) → slice_get p.programs i ≡ Some g → suc b ≤ p.width
      → slice_get g.bits b ≡ Some false
      → PathTie p stub (tap R (right (place (suc b) g.net)) (row (place (suc b) g.net)))

-- a net with lines of its own in its column
pub data HasColumn (p : Path) (stub : ℕ → ℕ → Bool) : Spot → Type 0 where
  by_gate : (b n : ℕ) (ins : List NetId) → b ≤ p.width → slice_get (parts p b) n ≡ Some (Gate ins)
      → HasColumn p stub (place b n)
  by_latch : (b n : ℕ) (ph : Phase) (d : NetId) → b ≤ p.width → slice_get (parts p b) n ≡ Some (Latch ph (Some d))
      → HasColumn p stub (place b n)
  by_bit : (i : ℕ) (g : Programmed) (b : ℕ) → slice_get p.programs i ≡ Some g → suc b ≤ p.width
      → HasColumn p stub (place (suc b) g.net)

-- the wires that there are
abbrev pub InAcross : Path → Across → Type 0
InAcross p (cast_line i) = (c : Cast) × (slice_get p.casts i ≡ Some c)
InAcross p (lift_line i) = (l : Lift) × (slice_get p.lifts i ≡ Some l)
InAcross p (lift_stub i b) = (l : Lift) × (slice_get p.lifts i ≡ Some l) × IsSlice p b × (b ≢ suc l.slice)
InAcross p (chain_line i g) = (c : Carry) × (slice_get p.chains i ≡ Some c) × (g ≤ p.width)

abbrev pub InPath : Path → (ℕ → ℕ → Bool) → Wire Across → Type 0
InPath p stub (row s) = (s.band ≤ p.width) × (s.net < length (parts p s.band))
InPath p stub (beat b ph) = b ≤ p.width
InPath p stub (left s) = HasColumn p stub s ⊎ (s.band ≤ p.width) × (slice_get (parts p s.band) s.net ≡ Some Input)
    × (stub s.band s.net ≡ true)
InPath p stub (right s) = HasColumn p stub s
InPath p stub (trunk ph) = Unit {0}
InPath p stub (extra x) = InAcross p x
InPath p stub to_ground = Unit {0}
InPath p stub to_power = Unit {0}

-- what the lines through bands stand for
abbrev pub cast_root : (Spot → Root) → Option Cast → Root
cast_root root_of (Some c) = root_of (place 0 c.control)
cast_root root_of None = at Ground

abbrev pub lift_root : (Spot → Root) → Option Lift → Root
lift_root root_of (Some l) = root_of (place (suc l.slice) l.start)
lift_root root_of None = at Ground

abbrev pub stub_root : (Spot → Root) → ℕ → Option Lift → Root
stub_root root_of b (Some l) = root_of (place b l.start)
stub_root root_of b None = at Ground

-- up: the net of the slice below; down: the net of the slice above; and ground at the open end
abbrev pub up_root : (Spot → Root) → ℕ → ℕ → Root
up_root root_of start zero = at Ground
up_root root_of start (suc g) = root_of (place (suc g) start)

abbrev pub down_root : Path → (Spot → Root) → ℕ → ℕ → Root
down_root p root_of start g = cond (g == p.width) (at Ground) (root_of (place (suc g) start))

abbrev pub chain_root : Path → (Spot → Root) → ℕ → Option Carry → Root
chain_root p root_of g (Some c) = cond c.up (up_root root_of c.start g) (down_root p root_of c.start g)
chain_root p root_of g None = at Ground

abbrev pub across_root : Path → (Spot → Root) → Across → Root
across_root p root_of (cast_line i) = cast_root root_of (slice_get p.casts i)
across_root p root_of (lift_line i) = lift_root root_of (slice_get p.lifts i)
across_root p root_of (lift_stub i b) = stub_root root_of b (slice_get p.lifts i)
across_root p root_of (chain_line i g) = chain_root p root_of g (slice_get p.chains i)

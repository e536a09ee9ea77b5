-- The wires of placed nets by names, and what the marks of one placed net tie.
use Rattle.std.specs.Prelude.{◌≡◌, ℕ, List, Option, Some, Bool, true, Contains, map, slice_get}
use Rattle.fabric.specs.declared.thing.Side.TheVariants.{L, R}
use Rattle.nor_net.specs.declared.net.Phase.{Phase}
use Rattle.nor_net.specs.declared.net.NetId.{NetId}
use Rattle.nor_net.specs.declared.net.Part.{Part}
use Rattle.nor_net.specs.declared.net.Part.TheVariants.{Input, Gate, Latch}
use Rattle.nor_net.specs.Elements.{Spot, spot, Element, Given, Nor, Latched, Low, Nets}
use Rattle.drawing.specs.Draws.{OfNet, Ground, Power, OfPhase}
use Rattle.array_form.specs.Named.{Tie, tap, tran, pull}
use Rattle.array_form.specs.Roots.{Root, at, alone}

-- The wires: the segment of each net, and of each phase in each band; the lines on the left and on the right of a
-- net's own column; the
-- line of each phase; others; ground and power.
pub data Wire (X : Type 0) : Type 0 where
  row : Spot → Wire X
  beat : ℕ → Phase → Wire X
  left : Spot → Wire X
  right : Spot → Wire X
  trunk : Phase → Wire X
  extra : X → Wire X
  to_ground : Wire X
  to_power : Wire X

-- the place of the net with this number in a band
abbrev pub place : ℕ → ℕ → Spot
place b n = record { band = b; net = n }

-- What the marks of one placed net tie. A gate's left line is its own, with a pull-up, its right line is ground,
-- and a transistor stands
-- between them in the row of each input. A latch stores on the left, takes its data from the right, and its
-- transistor stands in the row of
-- its phase. An input that has no other mark has a line of its own.
pub data NetTie (X : Type 0) (b : ℕ) (parts : List Part) (stub : ℕ → Bool) : Tie (Wire X) → Type 0 where
  gate_own : (n : ℕ) (ins : List NetId) → slice_get parts n ≡ Some (Gate ins)
      → NetTie X b parts stub (tap L (left (place b n)) (row (place b n)))
  gate_ground : (n : ℕ) (ins : List NetId) → slice_get parts n ≡ Some (Gate ins)
      → NetTie X b parts stub (tap R (right (place b n)) to_ground)
  gate_pull : (n : ℕ) (ins : List NetId) → slice_get parts n ≡ Some (Gate ins)
      → NetTie X b parts stub (pull (left (place b n)))
  gate_input : (n : ℕ) (ins : List NetId) (i : NetId) → slice_get parts n ≡ Some (Gate ins) → Contains ins i
      → NetTie X b parts stub (tran (row (spot b i)) (left (place b n)) (right (place b n)))
  latch_own : (n : ℕ) (p : Phase) (d : NetId) → slice_get parts n ≡ Some (Latch p (Some d))
      → NetTie X b parts stub (tap L (left (place b n)) (row (place b n)))
  latch_data : (n : ℕ) (p : Phase) (d : NetId) → slice_get parts n ≡ Some (Latch p (Some d))
      → NetTie X b parts stub (tap R (right (place b n)) (row (spot b d)))
  latch_phase : (n : ℕ) (p : Phase) (d : NetId) → slice_get parts n ≡ Some (Latch p (Some d))
      → NetTie X b parts stub (tran (beat b p) (left (place b n)) (right (place b n)))
  stub_own : (n : ℕ) → slice_get parts n ≡ Some Input → stub n ≡ true
      → NetTie X b parts stub (tap L (left (place b n)) (row (place b n)))

-- the left line of a net that is set to 0 is nothing's
abbrev pub left_root : Spot → Option Element → Root
left_root s (Some Low) = alone s
left_root s _ = at (OfNet s)

-- the right line is that of a latch's data, or ground
abbrev pub right_root : (Spot → Root) → Option Element → Root
right_root root_of (Some (Latched p source)) = root_of source
right_root root_of _ = at Ground

-- what each wire stands for
abbrev pub root : (X : Type 0) → Nets → (Spot → Root) → (X → Root) → Wire X → Root
root X nets root_of others (row s) = root_of s
root X nets root_of others (beat b p) = at (OfPhase p)
root X nets root_of others (left s) = left_root s (nets s)
root X nets root_of others (right s) = right_root root_of (nets s)
root X nets root_of others (trunk p) = at (OfPhase p)
root X nets root_of others (extra x) = others x
root X nets root_of others to_ground = at Ground
root X nets root_of others to_power = at Power

-- the wire of each root
abbrev pub hub : (X : Type 0) → Root → Wire X
hub X (at (OfNet s)) = row s
hub X (at Ground) = to_ground
hub X (at Power) = to_power
hub X (at (OfPhase p)) = trunk p
hub X (alone s) = left s

-- the elements of the parts of one band; an input that has a stub is given its value
pub record AreElements (nets : Nets) (b : ℕ) (parts : List Part) (stub : ℕ → Bool) : Type 0 where
  pub gates : (n : ℕ) (ins : List NetId) → slice_get parts n ≡ Some (Gate ins)
      → nets (place b n) ≡ Some (Nor (map (spot b) ins))
  pub latches : (n : ℕ) (p : Phase) (d : NetId) → slice_get parts n ≡ Some (Latch p (Some d))
      → nets (place b n) ≡ Some (Latched p (spot b d))
  pub stubs : (n : ℕ) → slice_get parts n ≡ Some Input → stub n ≡ true → nets (place b n) ≡ Some Given

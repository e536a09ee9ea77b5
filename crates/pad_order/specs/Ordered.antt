-- Pads for ports that are named in any order.
use Rattle.std.specs.Prelude.{ℕ, ◌≡◌, ◌+◌, ◌<◌, ◌≤◌, ◌^◌, ◌⊎◌, pos, List, length, get_or, All, AllPairs, Contains}
use Rattle.std.specs.List.{AllZip}
use Rattle.pad_frame.specs.declared.frames.PadWish.{PadWish}
use Rattle.pad_frame.specs.declared.frames.PadSpot.{PadSpot}
use Rattle.pad_frame.specs.declared.frames.Framed.{Framed}
use Rattle.pad_frame.specs.Frames.{no_wish, spot_of, AreWishes, AreFramed}
use Rattle.pad_order.specs.declared.ports.Port.{Port}

-- one of two ports is higher by at least 7
abbrev pub IsParted : Port → Port → Type 0
IsParted p q = (p.height + 7 ≤ q.height) ⊎ (q.height + 7 ≤ p.height)

pub record AreParted (ports : List Port) : Type 0 where
  pub few : length ports ≤ 2 ^ 20
  pub low : All (λ (p : Port). p.height ≤ 2 ^ 30) ports
  pub apart : AllPairs IsParted ports

-- the pad that a port wishes
abbrev pub wish_of : Port → PadWish
wish_of p = record { name = p.name; row = pos p.height }

-- a pad for the port is among those that are wished, and this is its spot
pub record HasPad (wishes : List PadWish) (port : Port) (spot : PadSpot) : Type 0 where
  pub pad : ℕ
  pub there : pad < length wishes
  pub wished : get_or wishes pad no_wish ≡ wish_of port
  pub at : spot ≡ spot_of wishes pad

-- A frame of as many pads as there are ports, whose wishes rise: each port has the spot of its own pad, and each pad is
-- that of a port.
pub record IsFrameOf (ports : List Port) (framed : Framed) : Type 0 where
  pub wishes : List PadWish
  pub rising : AreWishes wishes
  pub frame : Framed
  pub drawn : AreFramed wishes frame
  pub shape : framed.shape ≡ frame.shape
  pub as_many : length wishes ≡ length ports
  pub own : AllZip (HasPad wishes) ports framed.spots
  pub asked : All (λ (w : PadWish). (p : Port) × Contains ports p × (w ≡ wish_of p)) wishes

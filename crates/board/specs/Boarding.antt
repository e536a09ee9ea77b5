-- What callers see of a board, and what it holds.
use Rattle.std.specs.Prelude.{◌≡◌, ◌≢◌, ◌<◌, ◌^◌, ℕ, List, All, AllPairs, length, Some, false, slice_get}
use Rattle.mp_base.specs.declared.pad.Pad.{Pad}
use Rattle.mp_base.specs.declared.pad.Pads.{Pads}
use Rattle.transcript.specs.declared.room.Room.{Room}
use Rattle.transcript.specs.Running.{HasRoom}
use Rattle.board.specs.declared.link.Link.{Link}
use Rattle.board.specs.Loop.{Wired, is_reset}

-- how the device is wired, and how many clocks were run
pub record Boarding : Type 0 where
  pub wired : Wired
  pub done : ℕ

-- the link sees an output, and drives an input other than `reset`
pub record IsWire (pads : Pads) (link : Link) : Type 0 where
  pub seen : link.seen < length pads.outputs
  pub input : Pad
  pub driven : slice_get pads.inputs link.driven ≡ Some input
  pub no_reset : is_reset input ≡ false

-- no part and no input stands in both
pub record AreApart (a b : Link) : Type 0 where
  pub part : a.part ≢ b.part
  pub driven : a.driven ≢ b.driven

-- each link is a wire of these pads, and no two have a part or an input in common
pub record AreWires (pads : Pads) (links : List Link) : Type 0 where
  pub each : All (IsWire pads) links
  pub apart : AllPairs AreApart links

-- there is room for what a clock gives and shows
pub record IsReady (w : Wired) (room : Room) : Type 0 where
  pub few : length (w.pads).inputs < 2 ^ 32
  pub wires : AreWires w.pads w.links
  pub has_room : HasRoom w.pads room

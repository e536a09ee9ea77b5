-- What is drawn of a path is sized.
use Rattle.std.specs.Prelude.{◌≡◌, ℕ}
use Rattle.switch_net.specs.declared.network.Network.{Network}
use Rattle.nor_net.specs.Shape.{IsNet}
use Rattle.drawing.specs.Draws.{Point}
use Rattle.rtl_form.specs.declared.rtl.Rtl.{Rtl}
use Rattle.path_form.specs.declared.path.DataPath.{DataPath}
use Rattle.path_form.specs.Showing.{path_nets}
use Rattle.ground_ways.specs.Ratioed.{IsRatioed}
use Rattle.chip_laws.specs.Laws.{IsExtracted}
use Rattle.chip_laws.specs.Rows.{rows_at}

-- an extracted network of a path's switches, with the labels on the bits of its pads, is sized
abbrev pub PathsAreRatioed : Type 0
PathsAreRatioed =
    (rtl : Rtl) (p : DataPath) (n m : Network) (place : Point → ℕ)
    → p.pads ≡ rtl.pads → IsNet p.control → IsNet p.slices.net
    → IsExtracted n m rtl.pads (path_nets p) (rows_at (rtl.pads).inputs p.inputs)
    (rows_at (rtl.pads).outputs p.outputs) place
    → IsRatioed n

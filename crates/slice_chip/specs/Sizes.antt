-- How large the fabric of a data path is, by its cost.
use Rattle.std.specs.Prelude.{◌+◌, ◌*◌, ◌≤◌, ℕ}
use Rattle.fabric.specs.Counted.{rectangle_count, thing_count}
use Rattle.fabric.specs.Plan.{Plan}
use Rattle.fabric_extent.specs.Bounds.{HasNoUnder, IsSmall}
use Rattle.nor_net.specs.Shape.{IsNet}
use Rattle.path_form.specs.declared.path.DataPath.{DataPath}
use Rattle.path_form.specs.Sizes.{IsNarrow, IsWithin}
use Rattle.slice_chip.specs.Sliced.{IsSliced}

-- What it draws grows with the cost, and with the length of words; half as much is left for pads.
abbrev pub RectanglesAreFew : Type 0
RectanglesAreFew =
    (cost : ℕ) (p : DataPath) (f : Plan) → IsWithin cost p → IsSliced p f
    → rectangle_count f ≤ 50 * (cost + 8) * (p.width + 1)

abbrev pub ThingsAreFew : Type 0
ThingsAreFew =
    (cost : ℕ) (p : DataPath) (f : Plan) → IsWithin cost p → IsSliced p f
    → thing_count f + 2 ≤ 50 * (cost + 8) * (p.width + 1)

-- Columns don't grow with the length of words, and each bit adds one band.
abbrev pub SlicedIsSmall : Type 0
SlicedIsSmall =
    (cost : ℕ) (p : DataPath) (f : Plan) → IsWithin cost p → IsNarrow cost p → IsSliced p f → IsSmall cost p.width f

-- Nothing crosses under the trunk of ground.
abbrev pub SlicedHasNoUnder : Type 0
SlicedHasNoUnder = (p : DataPath) → IsNet p.control → IsNet p.slices.net → (f : Plan) → IsSliced p f → HasNoUnder f

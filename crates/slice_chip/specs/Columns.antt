-- Which columns of a path's fabric are used.
use Rattle.std.specs.Prelude.{◌≡◌, ◌≤◌, ◌<◌, ◌+◌, ℕ, Contains}
use Rattle.fabric.specs.declared.thing.Line.{Line}
use Rattle.fabric.specs.Plan.{Plan, IsFabric}
use Rattle.nor_net.specs.Shape.{IsNet}
use Rattle.path_form.specs.declared.path.DataPath.{DataPath}
use Rattle.slice_chip.specs.Sliced.{IsSliced}

-- a line stands in the column
abbrev pub HasLine : Plan → ℕ → Type 0
HasLine f c = (l : Line) × Contains f.lines l × (l.column ≡ c)

-- a line stands in each column between the trunk of ground, which is the first, and that of power, which is the last
abbrev pub IsUsed : Plan → Type 0
IsUsed f = (c : ℕ) → 1 ≤ c → c + 1 < f.columns → HasLine f c

-- Where there is a slice, no column is to spare.
abbrev pub ColumnsAreUsed : Type 0
ColumnsAreUsed =
    (p : DataPath) → IsNet p.control → IsNet p.slices.net → 1 ≤ p.width → (f : Plan) → IsSliced p f → IsFabric f
    → IsUsed f

-- Where the segments of a path's fabric end.
use Rattle.std.specs.Prelude.{◌≡◌, ◌⊎◌, ℕ, suc, Contains}
use Rattle.fabric.specs.declared.thing.Mark.{Mark}
use Rattle.fabric.specs.declared.thing.Segment.{Segment}
use Rattle.fabric.specs.Plan.{Plan, IsFabric}
use Rattle.nor_net.specs.Shape.{IsNet}
use Rattle.path_form.specs.declared.path.DataPath.{DataPath}
use Rattle.track_assign.specs.declared.packing.Tracks.{Tracks}
use Rattle.slice_form.specs.Path.{Path}
use Rattle.slice_form.specs.Whole.{path_of}
use Rattle.slice_chip.specs.Sliced.{IsSliced}
use Rattle.slice_chip.specs.Unders.{led, rows_in}

-- a mark stands on the segment in this column
pub record IsMarkedAt (f : Plan) (s : Segment) (c : ℕ) : Type 0 where
  pub the_mark : Mark
  pub among : Contains f.marks the_mark
  pub band : the_mark.band ≡ s.band
  pub row : the_mark.row ≡ s.row
  pub column : the_mark.column ≡ c

-- a segment that is led to the west edge, in column 1
pub record IsWest (p : Path) (control slices : Tracks) (s : Segment) : Type 0 where
  pub first : s.first ≡ 1
  pub number : ℕ
  pub joined : Contains (led p s.band) number
  pub row : s.row ≡ suc (rows_in control slices s.band number)

-- Each segment is no longer than it must be: its last column carries a mark on it, and its first one too, but for
-- segments that are led to the west edge.
abbrev pub EndsAreMarked : Type 0
EndsAreMarked =
    (p : DataPath) → IsNet p.control → IsNet p.slices.net → (f : Plan) (sliced : IsSliced p f) → IsFabric f
    → (s : Segment) → Contains f.segments s
    → (IsMarkedAt f s s.first ⊎ IsWest (path_of p) sliced.control sliced.slices s) × IsMarkedAt f s s.last

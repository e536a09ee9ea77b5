-- The crossings by which pads reach the segments of a path's fabric, under the trunk of ground.
use Rattle.std.specs.Prelude.{◌≡◌, ◌+◌, ℕ, zero, suc, List, [], ◌∷◌, ◌++◌, flat_map, length, map, slice_index}
use Rattle.tile_cells.specs.declared.tile.Tile.TheVariants.{Under}
use Rattle.fabric.specs.declared.thing.Mark.{Mark}
use Rattle.fabric.specs.Plan.{Plan, IsFabric, with_added}
use Rattle.nor_net.specs.Shape.{IsNet}
use Rattle.track_assign.specs.declared.packing.Tracks.{Tracks}
use Rattle.array_form.specs.Homes.{phase_number}
use Rattle.array_form.specs.Lists.{mark}
use Rattle.path_form.specs.declared.path.DataPath.{DataPath}
use Rattle.slice_form.specs.Path.{Path}
use Rattle.slice_form.specs.PathLists.{bands_of}
use Rattle.slice_form.specs.Whole.{path_of}
use Rattle.slice_laying.specs.Added.{of_phases}
use Rattle.slice_chip.specs.Sliced.{IsSliced}

-- the rows of a path's segments, band by band
abbrev pub rows_in : Tracks → Tracks → ℕ → ℕ → ℕ
rows_in control slices zero = slice_index control.row
rows_in control slices (suc b) = slice_index slices.row

-- the segments of a band that are led to the west edge: the nets of pads, and in the control's band the phases
abbrev pub led : Path → ℕ → List ℕ
led p zero = p.west_signals ++ of_phases (λ ph. length p.control + phase_number ph)
led p (suc b) = p.west_words

abbrev pub under : Tracks → Tracks → ℕ → ℕ → Mark
under control slices b k = mark Under b (suc (rows_in control slices b k)) 0

-- one for each of them, and one for power, in the row of pull-ups of the control's band
abbrev pub unders : Path → Tracks → Tracks → List Mark
unders p control slices =
    mark Under 0 (suc control.rows) 0 ∷ flat_map (λ b. map (under control slices b) (led p b)) (bands_of p)

-- the fabric of a path with the crossings of its pads
pub record IsLed (p : DataPath) (f : Plan) : Type 0 where
  pub bare : Plan
  pub sliced : IsSliced p bare
  pub is : f ≡ with_added bare [] [] (unders (path_of p) sliced.control sliced.slices)

-- The crossings may be added to a path's fabric.
abbrev pub UndersFit : Type 0
UndersFit =
    (p : DataPath) → IsNet p.control → IsNet p.slices.net → (f : Plan) (sliced : IsSliced p f) → IsFabric f
    → IsFabric (with_added f [] [] (unders (path_of p) sliced.control sliced.slices))

-- The track groups of a fabric: one for each band.
use Rattle.std.specs.Prelude.{◌≡◌, ◌==◌, ℕ, suc, List, ◌∷◌, Some, filter, length, map, replicate, slice_get}
use Rattle.fabric.specs.declared.thing.Segment.{Segment}
use Rattle.fabric.specs.Plan.{Plan, bands, rows_of}
use Rattle.track_assign.specs.declared.packing.Interval.{Interval}
use Rattle.track_assign.specs.declared.packing.Tracks.{Tracks}
use Rattle.track_assign.specs.Density.{IsDensity}
use Rattle.path_form.specs.declared.path.DataPath.{DataPath}
use Rattle.slice_chip.specs.Sliced.{IsSliced}

-- what a segment spans
abbrev pub span_of : Segment → Interval
span_of s = record { first = s.first; last = s.last }

-- what the segments of a band span
abbrev pub spans_in : Plan → ℕ → List Interval
spans_in f b = map span_of (filter (λ (s : Segment). s.band == b) f.segments)

-- Besides the row of ground the band has as many rows as segments of it lie over one column, which is the group's.
pub record IsGroup (f : Plan) (b : ℕ) (tracks : Tracks) : Type 0 where
  pub rows : rows_of f b ≡ suc tracks.rows
  pub density : IsDensity (spans_in f b) tracks.rows tracks.column

-- one group for each band
pub record AreGroups (f : Plan) (groups : List Tracks) : Type 0 where
  pub count : length groups ≡ bands f
  pub each : (b : ℕ) (tracks : Tracks) → slice_get groups b ≡ Some tracks → IsGroup f b tracks

-- Those of a path's fabric are those of its control and, for each bit, of its slices.
abbrev pub SlicedHasGroups : Type 0
SlicedHasGroups =
    (p : DataPath) (f : Plan) (sliced : IsSliced p f) → AreGroups f (sliced.control ∷ replicate p.width sliced.slices)

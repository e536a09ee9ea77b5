-- The order of the segments of a path's fabric: those of the control, and then those of each slice; in each band the
-- phases' stand behind the nets'.
use Rattle.std.specs.Prelude.{◌≡◌, ◌<◌, ◌+◌, ◌*◌, ℕ, zero, suc, get_or, length, slice_index}
use Rattle.fabric.specs.declared.thing.Segment.{Segment}
use Rattle.fabric.specs.Plan.{Plan}
use Rattle.array_form.specs.Laying.{band_segment}
use Rattle.path_form.specs.declared.path.DataPath.{DataPath}
use Rattle.slice_form.specs.Whole.{path_of}
use Rattle.slice_laying.specs.Added.{slice_cols}
use Rattle.slice_chip.specs.Sliced.{IsSliced, control_cols}

-- where there is no segment
abbrev pub nowhere : Segment
nowhere = record { band = 0; row = 0; first = 0; last = 0 }

-- the number of the segment of a net, by its band
abbrev pub number_at : DataPath → ℕ → ℕ → ℕ
number_at p zero n = n
number_at p (suc k) n = length p.control + 3 + (k * (length p.slices.net + 3) + n)

-- the segments stand in this order, and there are no others
pub record AreInOrder (p : DataPath) (f : Plan) (sliced : IsSliced p f) : Type 0 where
  pub count : length f.segments ≡ length p.control + 3 + p.width * (length p.slices.net + 3)
  pub control : (n : ℕ) → n < length p.control + 3
      → get_or f.segments (number_at p 0 n) nowhere
      ≡ band_segment 0 (control_cols (path_of p)) (slice_index (sliced.control).row) n
  pub slices : (k n : ℕ) → k < p.width → n < length p.slices.net + 3
      → get_or f.segments (number_at p (suc k) n) nowhere
      ≡ band_segment (suc k) (slice_cols (path_of p)) (slice_index (sliced.slices).row) n

abbrev pub SegmentsInOrder : Type 0
SegmentsInOrder = (p : DataPath) (f : Plan) (sliced : IsSliced p f) → AreInOrder p f sliced

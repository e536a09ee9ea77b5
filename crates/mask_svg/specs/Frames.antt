-- The frame around a drawing, and the unit of its picture, in which letters are at most one high.
use Rattle.std.specs.Prelude.{ℕ, ◌+◌, ◌*◌, ◌/◌, nat_lt, if◌then◌else◌, List, [], ◌∷◌, fold, max}
use Rattle.std.specs.Prelude.{pos, ◌-ℤ◌, unsigned_abs}
use Rattle.std.specs.Int.{int_max, int_min}
use Rattle.lam_geom.specs.declared.rect.Rect.{Rect}
use Rattle.lam_geom.specs.Extent.{lambda}
use Rattle.mask_svg.specs.declared.frame.Frame.{Frame}

-- the frame, widened so that it holds a rectangle
abbrev pub around : Frame → Rect → Frame
around f r = record {
  left = int_min f.left r.x0;
  bottom = int_min f.bottom r.y0;
  right = int_max f.right r.x1;
  top = int_max f.top r.y1;
}

-- the first rectangle alone, or the origin where there is none
abbrev pub start : List Rect → Frame
start [] = record { left = pos 0; bottom = pos 0; right = pos 0; top = pos 0 }
start (r ∷ rs) = record { left = r.x0; bottom = r.y0; right = r.x1; top = r.y1 }

-- the frame around all rectangles
abbrev pub frame_of : List Rect → Frame
frame_of shapes = fold around (start shapes) shapes

abbrev pub width : Frame → ℕ
width f = unsigned_abs (f.right -ℤ f.left)

abbrev pub height : Frame → ℕ
height f = unsigned_abs (f.top -ℤ f.bottom)

abbrev pub longer_side : Frame → ℕ
longer_side f = max (width f) (height f)

-- what units are counted in: lambda, or half-units where the drawing is less than 40 lambda wide and high
abbrev pub grain : Frame → ℕ
grain f = if nat_lt (longer_side f) (40 * lambda) then 1 else lambda

-- so many of these are a unit, a fortieth of the longer side or a little more
abbrev pub unit_count : Frame → ℕ
unit_count f = longer_side f / (40 * grain f) + 1

-- the unit in half-units
abbrev pub unit : Frame → ℕ
unit f = unit_count f * grain f

-- room for two units around the drawing, for 18 units of the key, and for nine units below
abbrev pub picture_width : Frame → ℕ
picture_width f = max (width f) (18 * unit f) + 4 * unit f

abbrev pub picture_height : Frame → ℕ
picture_height f = height f + 11 * unit f

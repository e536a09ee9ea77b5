-- Numbers of nets, in a row for each band.
use Rattle.std.specs.Prelude.{◌≡◌, ◌<◌, ◌+◌, ℕ, suc, List, [], Some, if◌then◌else◌, ◌==◌}
use Rattle.std.specs.Prelude.{length, slice_get, slice_index_or}
use Rattle.nor_net.specs.declared.net.NetId.{NetId}
use Rattle.nor_net.specs.Elements.{Spot}
use Rattle.path_flat.specs.declared.places.Place.{Place}

-- the place as one of a circuit
abbrev pub spot_of : Place → Spot
spot_of place = record { band = place.band; net = place.net }

-- the number of a net, 0 where there is none
abbrev pub number_of : List (List NetId) → Spot → NetId
number_of rows n = slice_index_or (slice_index_or rows n.band []) n.net (record { 0 = 0 })

-- how many numbers a row has
abbrev pub row_size : List (List NetId) → ℕ → ℕ
row_size rows band = length (slice_index_or rows band [])

-- one more row, with so many numbers
pub record HasRowMore (count : ℕ) (old new : List (List NetId)) : Type 0 where
  pub size : length new ≡ length old + 1
  pub row : row_size new (length old) ≡ count
  pub others : (band : ℕ) → band < length old → row_size new band ≡ row_size old band

-- a row for the control and one for each slice
pub record HasShape (width control slices : ℕ) (rows : List (List NetId)) : Type 0 where
  pub first : row_size rows 0 ≡ control
  pub others : (k : ℕ) → k < width → row_size rows (suc k) ≡ slices

-- the numbers of the bits of a pad of this width, 0 for a signal
pub record ArePadBits (of : Spot → NetId) (width : ℕ) (id : NetId) (row : List NetId) : Type 0 where
  pub size : length row ≡ (if width == 0 then 1 else width)
  pub bits : (k : ℕ) → k < (if width == 0 then 1 else width)
      → slice_get row k ≡ Some (of (record { band = if width == 0 then 0 else suc k; net = id.0 }))

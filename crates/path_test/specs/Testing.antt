-- When all nets of a path become what they may.
use Rattle.std.specs.Prelude.{◌≡◌, ◌<◌, ◌≤◌, ℕ, List, Some, Bool, true, length, slice_get, if◌then◌else◌, ◌==◌}
use Rattle.mp_base.specs.declared.pad.Pad.{Pad}
use Rattle.nor_net.specs.declared.net.NetId.{NetId}
use Rattle.nor_net.specs.declared.net.Part.{Part}
use Rattle.path_form.specs.declared.path.DataPath.{DataPath}
use Rattle.path_sources.specs.declared.sources.Source.{Source}
use Rattle.path_sources.specs.Sources.{parts_of, path_source}
use Rattle.path_reduce.specs.declared.images.Becomes.{Becomes}
use Rattle.path_reduce.specs.declared.images.Becomes.TheVariants.{Net}
use Rattle.path_reduce.specs.declared.images.Images.{Images}
use Rattle.path_reduce.specs.Tables.{becomes_at, table_of}
use Rattle.path_test.specs.Becoming.{PartBecomes, is_source}

-- each of these parts becomes what it may, and the table has no more
pub record PartsBecome (w : ℕ) (control : Bool) (t : Images) (table : List Becomes) (own parts : List Part)
    (own_sources sources : ℕ → Source) : Type 0 where
  pub few : length table ≤ length own
  pub sourced : (n : ℕ) → n < length own → is_source w control (own_sources n) ≡ true
  pub each : (n : ℕ) (part : Part) → slice_get own n ≡ Some part
      → PartBecomes t table parts sources (own_sources n) part (becomes_at table n)

-- the nets of a band, 0 for the control and 1 for a slice
abbrev pub BandBecomes : Images → ℕ → DataPath → DataPath → Type 0
BandBecomes t band p q =
    PartsBecome p.width (band == 0) t (table_of t band) (parts_of p band) (parts_of q band) (path_source p band) (path_source q band)

-- the net of a pad becomes that of the same pad
abbrev pub PadStays : Images → List Pad → List NetId → List NetId → ℕ → Type 0
PadStays t pads ids others i =
    (pad : Pad) (id other : NetId) → slice_get pads i ≡ Some pad → slice_get ids i ≡ Some id
    → slice_get others i ≡ Some other
    → becomes_at (if pad.width == 0 then t.control else t.slices) id.0 ≡ Net other

-- so do those of all these
abbrev pub PadsStay : Images → List Pad → List NetId → List NetId → Type 0
PadsStay t pads ids others = (i : ℕ) → PadStays t pads ids others i

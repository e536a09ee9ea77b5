-- What a flat net of transfers is.
use Rattle.std.specs.Prelude.{◌≡◌}
use Rattle.rtl_form.specs.declared.rtl.Rtl.{Rtl}
use Rattle.path_form.specs.declared.path.DataPath.{DataPath}
use Rattle.path_form.specs.declared.flattened.Flattened.{Flattened}
use Rattle.path_form.specs.Flat.{FlatShowsTransfers, IsFlat}
use Rattle.path_form.specs.Showing.{ShowsTransfers}

-- it is that of a path with the pads of the transfers, and both show what these show
pub record IsFlatOf (r : Rtl) (f : Flattened) : Type 0 where
  pub path : DataPath
  pub pads : path.pads ≡ r.pads
  pub path_shows : ShowsTransfers r path
  pub flat : IsFlat path f
  pub shows : FlatShowsTransfers r f

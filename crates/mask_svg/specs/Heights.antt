-- How high the names of labels are, and which way they go: so that labels near one another have room for theirs.
use Rattle.std.specs.Prelude.{ℕ, ◌/◌, ◌-ℤ◌, ◌==◌, if◌then◌else◌, List, fold, max, min, nat_lt, take, unsigned_abs}
use Rattle.lam_geom.specs.declared.label.FlatLabel.{FlatLabel}
use Rattle.mask_svg.specs.declared.height.TheConstants.{COMPARED}
use Rattle.mask_svg.specs.declared.height.Way.{Way}
use Rattle.mask_svg.specs.declared.height.Way.TheVariants.{Up, Across}

abbrev pub aside : FlatLabel → FlatLabel → ℕ
aside l m = unsigned_abs (l.x -ℤ m.x)

abbrev pub above : FlatLabel → FlatLabel → ℕ
above l m = unsigned_abs (l.y -ℤ m.y)

-- how far another label is, along the name by a quarter of that, since names are longer than high
abbrev pub distance : Way → FlatLabel → FlatLabel → ℕ
distance Up l m = max (aside l m) (above l m / 4)
distance Across l m = max (above l m) (aside l m / 4)

-- a height, or the distance of another label where that is less; one at the same place isn't another
abbrev pub lowered : Way → FlatLabel → ℕ → FlatLabel → ℕ
lowered way l height m = let d = distance way l m in if d == 0 then height else min height d

-- the height of a name among labels, of which each is compared with the first ones
abbrev pub name_height : Way → ℕ → List FlatLabel → FlatLabel → ℕ
name_height way unit labels l = fold (lowered way l) unit (take COMPARED labels)

-- names go upwards, or across where they are higher so
abbrev pub name_way : ℕ → List FlatLabel → FlatLabel → Way
name_way unit labels l = if nat_lt (name_height Up unit labels l) (name_height Across unit labels l) then Across else Up

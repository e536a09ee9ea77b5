-- What a quiet depot is.
use Rattle.std.specs.Prelude.{ℕ, Option, Some, None, if◌then◌else◌}
use Rattle.outside.specs.Outside.{Files}
use Rattle.outside_doubles.specs.QuietLog.{files_in}
use Rattle.outside_doubles.specs.declared.quiet_depot.QuietDepot.{QuietDepot}

-- what it holds
abbrev pub files : QuietDepot → Files
files d = files_in d.bytes.items d.log.items

-- what it holds, where it tells that
abbrev pub told : QuietDepot → Option Files
told d = if d.telling then Some (files_in d.bytes.items d.log.items) else None

-- the room that is left
abbrev pub room_left : QuietDepot → ℕ
room_left d = d.room

-- Paths whose columns take other turns.
use Rattle.std.specs.Prelude.{◌≡◌}
use Rattle.path_form.specs.declared.path.DataPath.{DataPath}

-- the same path, but for the turns of its columns
abbrev pub IsTurned : DataPath → DataPath → Type 0
IsTurned p q = q ≡ record p { control_turns = q.control_turns; slice_turns = q.slice_turns }

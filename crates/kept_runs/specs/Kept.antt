-- The cells of a row and their colours.
use Rattle.std.specs.Prelude.{ℕ, length, nat_lt, if◌then◌else◌}
use Rattle.kept_runs.specs.declared.runs.KeptRuns.{KeptRuns}
use Rattle.kept_runs.specs.Borders.{colour_to}

unfoldable pub width_of : KeptRuns → ℕ
width_of k = length k.colours.items

-- the colours of the cells, and 0 past them
unfoldable pub colours_of : KeptRuns → ℕ → ℕ
colours_of k c = if nat_lt c (length k.colours.items) then colour_to k.borders k.colours.items c else 0

-- What the objects in memory hold.
use Rattle.std.specs.Prelude.{ℕ, ◌+◌, ◌-◌, ◌^◌, min, List, map, Vec, String, string_bytes}
use Rattle.std.specs.declared.alloc.Global.{Global}
use Rattle.std.specs.FinMap.{from_entries}
use Rattle.outside.specs.Outside.{Files}

-- the files that these entries of a map are
abbrev pub files_of : List (String Global × Vec ℕ Global) → Files
files_of entries = from_entries (map (λ e. (string_bytes e.0, e.1.items)) entries)

-- a counter after one more, which stands still at its last value
abbrev pub counted : ℕ → ℕ
counted n = min (n + 1) (2 ^ 64 - 1)

-- The columns of a segment's pins, and the span from the least to the greatest of them.
use Rattle.std.specs.Prelude.{ℕ, ◌==◌, ◌<◌, List, [], ◌∷◌, map, filter, length, min, max, slice_index}
use Rattle.track_assign.specs.declared.packing.Interval.{Interval}
use Rattle.array_form.specs.Homes.{greatest}
use Rattle.band_lists.specs.declared.pins.Pin.{Pin}
use Rattle.band_lists.specs.declared.pins.At.{At}
use Rattle.band_lists.specs.declared.pins.At.TheVariants.{Home, Column}

-- the column of a pin, where these are the columns of nets
abbrev pub column_at : List ℕ → At → ℕ
column_at columns (Home n) = slice_index columns n
column_at columns (Column c) = c

-- there is such a net
abbrev pub IsAmong : List ℕ → At → Type 0
IsAmong columns (Home n) = n < length columns
IsAmong columns (Column c) = Unit {0}

abbrev pub IsPin : List ℕ → Pin → Type 0
IsPin columns p = IsAmong columns p.at

-- the columns of the pins of segment k
abbrev pub columns_at : List ℕ → List Pin → ℕ → List ℕ
columns_at columns pins k = map (λ p. column_at columns p.at) (filter (λ p. p.segment == k) pins)

-- the least of these numbers and of all of 32 bits
abbrev pub lowest : List ℕ → ℕ
lowest [] = 4_294_967_295
lowest (x ∷ xs) = min x (lowest xs)

abbrev pub span_of : List ℕ → Interval
span_of xs = record { first = lowest xs; last = greatest xs }

abbrev pub widened_by : Interval → ℕ → Interval
widened_by s c = record { first = min s.first c; last = max s.last c }

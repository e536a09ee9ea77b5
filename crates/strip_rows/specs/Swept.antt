-- What is known when rows have been swept up to one.
use Rattle.std.specs.Prelude.{◌≡◌, ℕ, ◌+◌, ◌<◌, ◌≤◌, ◌==◌, List, All, AllPairs, Contains, length, slice_index}
use Rattle.std.specs.Prelude.{if◌then◌else◌}
use Rattle.mask_runs.specs.declared.run.Run.{Run}
use Rattle.mask_runs.specs.Runs.{IsRun}
use Rattle.strip_rows.specs.declared.strip.Strip.{Strip}
use Rattle.union_find.specs.declared.pair.Pair.{Pair}
use Rattle.strip_rows.specs.declared.rows.StripRows.{StripRows}
use Rattle.strip_rows.specs.Strips.{run_of, IsStrip, IsBefore, strip}
use Rattle.strip_rows.specs.Touching.{Touch, AreOnce}

-- the strips that have begun, by number: those that haven't ended have `high` 0
abbrev pub strips_of : StripRows → List Strip
strips_of s = s.strips.items

-- how many cells a row has
abbrev pub cells_of : StripRows → ℕ
cells_of s = length s.numbers.items

-- row y is one of the strip, which begins where it says
pub record IsSince (colour : ℕ → ℕ → ℕ) (y : ℕ) (s : Strip) : Type 0 where
  pub start : s.low ≤ y
  pub each : (z : ℕ) → s.low ≤ z → z ≤ y → IsRun (colour z) (run_of s)
  pub below : (z : ℕ) → z + 1 ≡ s.low → ¬ IsRun (colour z) (run_of s)

-- a strip that has ended by row y, or one that row y still has
pub data HasBegun (colour : ℕ → ℕ → ℕ) (y : ℕ) (s : Strip) : Type 0 where
  ended : IsStrip colour s → s.high ≤ y → HasBegun colour y s
  open_ : IsSince colour y s → s.high ≡ 0 → HasBegun colour y s

-- the strip of this number has the run, which row y has
pub record IsOpenAt (colour : ℕ → ℕ → ℕ) (y : ℕ) (strips : List Strip) (n : ℕ) (r : Run) : Type 0 where
  pub among : n < length strips
  pub run : run_of (strip strips n) ≡ r
  pub since : IsSince colour y (strip strips n)
  pub open_ : (strip strips n).high ≡ 0

-- the strip as far as row y
abbrev pub upto : ℕ → Strip → Strip
upto y s = record s { high = if s.high == 0 then y + 1 else s.high }

-- the numbers of two strips that touch as far as row y, the lower number first
pub record IsTouchingUpto (y : ℕ) (strips : List Strip) (p : Pair) : Type 0 where
  pub ordered : p.a < p.b
  pub within : p.b < length strips
  pub touch : Touch (upto y (strip strips p.a)) (upto y (strip strips p.b))

-- the strips that have begun by row y and the pairs of them that touch by then
pub record IsSwept (colour : ℕ → ℕ → ℕ) (y : ℕ) (s : StripRows) : Type 0 where
  pub row : s.row ≡ y
  pub each : All (HasBegun colour y) (strips_of s)
  pub all : (t : Strip) → IsStrip colour t → t.high ≤ y → Contains (strips_of s) t
  pub open_ : (r : Run) → IsRun (colour y) r → IsOpenAt colour y (strips_of s) (slice_index s.numbers.items r.left) r
  pub ascending : AllPairs IsBefore (strips_of s)
  pub touching : All (IsTouchingUpto y (strips_of s)) s.pairs.items
  pub touch : (p : Pair) → IsTouchingUpto y (strips_of s) p → Contains s.pairs.items p
  pub once : AreOnce s.pairs.items

-- the same strip, whether or not it has ended since
pub record IsSameStrip (s t : Strip) : Type 0 where
  pub run : run_of s ≡ run_of t
  pub low : s.low ≡ t.low

-- strips keep their numbers
pub record KeepNumbers (old new : List Strip) : Type 0 where
  pub longer : length old ≤ length new
  pub each : (n : ℕ) → n < length old → IsSameStrip (strip old n) (strip new n)

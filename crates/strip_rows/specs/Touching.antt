-- Strips that touch.
use Rattle.std.specs.Prelude.{◌≡◌, ◌≢◌, ◌<◌, ◌⊎◌, List, All, AllPairs, Contains, length}
use Rattle.strip_rows.specs.declared.strip.Strip.{Strip}
use Rattle.union_find.specs.declared.pair.Pair.{Pair}
use Rattle.strip_rows.specs.Strips.{strip}

-- they have cells with a common edge, and no common cell: their columns adjoin and they have a common row, or their
-- rows adjoin and they have a common column
pub data Touch (s t : Strip) : Type 0 where
  beside : (s.right ≡ t.left) ⊎ (t.right ≡ s.left) → s.low < t.high → t.low < s.high → Touch s t
  upon : (s.high ≡ t.low) ⊎ (t.high ≡ s.low) → s.left < t.right → t.left < s.right → Touch s t

-- the numbers of two strips that touch, the lower number first
pub record IsTouching (strips : List Strip) (p : Pair) : Type 0 where
  pub ordered : p.a < p.b
  pub within : p.b < length strips
  pub touch : Touch (strip strips p.a) (strip strips p.b)

-- no pair stands in the list twice
abbrev pub AreOnce : List Pair → Type 0
AreOnce pairs = AllPairs (λ p q. p ≢ q) pairs

-- the list has exactly the pairs of strips that touch, each once
pub record AreTouching (strips : List Strip) (pairs : List Pair) : Type 0 where
  pub each : All (IsTouching strips) pairs
  pub all : (p : Pair) → IsTouching strips p → Contains pairs p
  pub once : AreOnce pairs

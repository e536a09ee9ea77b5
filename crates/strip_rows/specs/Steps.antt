-- What one step does to strips and pairs, by their numbers. `numbers` has at the left cell of a run the number of its
-- strip.
use Rattle.std.specs.Prelude.{◌≡◌, ◌≢◌, ℕ, ◌+◌, ◌<◌, ◌≤◌, ◌⊎◌, List, [], ◌∷◌, ◌++◌, All, Contains, length, slice_index}
use Rattle.std.specs.Prelude.{min, max}
use Rattle.mask_runs.specs.declared.run.Run.{Run}
use Rattle.union_find.specs.declared.pair.Pair.{Pair}
use Rattle.strip_rows.specs.declared.strip.Strip.{Strip}
use Rattle.strip_rows.specs.Strips.{strip}
use Rattle.strip_rows.specs.Missing.{run}
use Rattle.strip_rows.specs.Touching.{AreOnce}

abbrev pub number : List ℕ → Run → ℕ
number numbers r = slice_index numbers r.left

-- the strip, ended below the row
abbrev pub ended_at : ℕ → Strip → Strip
ended_at row s = record s { high = row }

-- the strip that begins with the run in the row
abbrev pub begun_at : ℕ → Run → Strip
begun_at row r = record { left = r.left; right = r.right; low = row; high = 0; colour = r.colour }

-- one of the first n runs has this number
pub record HasNumber (numbers : List ℕ) (runs : List Run) (n k : ℕ) : Type 0 where
  pub place : ℕ
  pub behind : place < n
  pub is : number numbers (run runs place) ≡ k

-- the strip of this number, if there is one, has ended
pub record IsEndedAt (n row : ℕ) (old now : List Strip) : Type 0 where
  pub as_many : length now ≡ length old
  pub same : n < length old → strip now n ≡ ended_at row (strip old n)
  pub others : (k : ℕ) → k ≢ n → strip now k ≡ strip old k

-- exactly the strips of the first n runs have ended
pub record AreEnded (numbers : List ℕ) (lost : List Run) (n row : ℕ) (old now : List Strip) : Type 0 where
  pub as_many : length now ≡ length old
  pub each : (k : ℕ) → k < length old
      → HasNumber numbers lost n k × (strip now k ≡ ended_at row (strip old k)) ⊎ (¬ HasNumber numbers lost n k)
      × (strip now k ≡ strip old k)

-- the first n runs have begun strips, with the next numbers
pub record HaveBegun (fresh : List Run) (n row : ℕ) (old now : List Strip) (old_numbers numbers : List ℕ) : Type 0 where
  pub as_many : length now ≡ length old + n
  pub kept : (k : ℕ) → k < length old → strip now k ≡ strip old k
  pub begun : (k : ℕ) → k < n → strip now (length old + k) ≡ begun_at row (run fresh k)
  pub cells : length numbers ≡ length old_numbers
  pub given : (k : ℕ) → k < n → number numbers (run fresh k) ≡ length old + k
  pub others : (c : ℕ) → ((k : ℕ) → k < n → (run fresh k).left ≢ c) → slice_index numbers c ≡ slice_index old_numbers c

-- the runs have a common column
abbrev pub Overlap : Run → Run → Type 0
Overlap p q = (p.left < q.right) × (q.left < p.right)

-- the pair is added if this holds
pub record IsAddedIf (P : Type 0) (p : Pair) (old now : List Pair) : Type 0 where
  pub by : P × (now ≡ old ++ p ∷ []) ⊎ (¬ P) × (now ≡ old)

-- a lost run and a fresh one, whose strips have the next numbers
abbrev pub upon : List ℕ → ℕ → List Run → ℕ → ℕ → Pair
upon numbers first lost a b = record { a = number numbers (run lost a); b = first + b }

-- the runs have numbers of their own
abbrev pub HaveOwn : List ℕ → List Run → Type 0
HaveOwn numbers runs = (a b : ℕ) → a < b → b < length runs → number numbers (run runs a) ≢ number numbers (run runs b)

-- the pair of a lost run and a fresh one above it, of which one stands before its place
pub record IsUpon (numbers : List ℕ) (first : ℕ) (lost fresh : List Run) (i j : ℕ) (p : Pair) : Type 0 where
  pub a : ℕ
  pub b : ℕ
  pub below : a < length lost
  pub above : b < length fresh
  pub behind : (a < i) ⊎ (b < j)
  pub overlap : Overlap (run lost a) (run fresh b)
  pub is : upon numbers first lost a b ≡ p

-- exactly those pairs have been added, each once
pub record AreUpon (numbers : List ℕ) (first : ℕ) (lost fresh : List Run) (i j : ℕ) (old now : List Pair) : Type 0 where
  pub kept : (p : Pair) → Contains old p → Contains now p
  pub all : (p : Pair) → IsUpon numbers first lost fresh i j p → Contains now p
  pub only : (p : Pair) → Contains now p → Contains old p ⊎ IsUpon numbers first lost fresh i j p
  pub once : HaveOwn numbers lost → All (λ p. p.b < first) old → AreOnce old → AreOnce now

-- the two numbers, the lower first
abbrev pub in_order : ℕ → ℕ → Pair
in_order a b = record { a = min a b; b = max a b }

-- the runs are next to one another, and one has begun its strip
abbrev pub AreNew : List ℕ → ℕ → Run → Run → Type 0
AreNew numbers first p q = (p.right ≡ q.left) × (first ≤ max (number numbers p) (number numbers q))

-- the pair of neighbours before the place of which one has begun its strip
pub record IsBeside (numbers : List ℕ) (first : ℕ) (runs : List Run) (n : ℕ) (p : Pair) : Type 0 where
  pub k : ℕ
  pub behind : k + 1 < n
  pub within : k + 1 < length runs
  pub new : AreNew numbers first (run runs k) (run runs (k + 1))
  pub is : in_order (number numbers (run runs k)) (number numbers (run runs (k + 1))) ≡ p

-- exactly those pairs have been added, each once
pub record AreBeside (numbers : List ℕ) (first : ℕ) (runs : List Run) (n : ℕ) (old now : List Pair) : Type 0 where
  pub kept : (p : Pair) → Contains old p → Contains now p
  pub all : (p : Pair) → IsBeside numbers first runs n p → Contains now p
  pub only : (p : Pair) → Contains now p → Contains old p ⊎ IsBeside numbers first runs n p
  pub once : HaveOwn numbers runs → ((p : Pair) → IsBeside numbers first runs (length runs) p → ¬ Contains old p)
      → AreOnce old → AreOnce now

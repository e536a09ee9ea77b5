-- Runs of one list that another lacks.
use Rattle.std.specs.Prelude.{◌≡◌, ℕ, ◌<◌, ◌≤◌, ◌⊎◌, List, [], ◌∷◌, ◌++◌, All, AllPairs, Contains, length}
use Rattle.std.specs.Prelude.{slice_index_or}
use Rattle.mask_runs.specs.declared.run.Run.{Run}

abbrev pub no_run : Run
no_run = record { left = 0; right = 0; colour = 0 }

-- the run at this place
abbrev pub run : List Run → ℕ → Run
run runs k = slice_index_or runs k no_run

-- they lie apart, from left to right
pub record AreApart (runs : List Run) : Type 0 where
  pub wide : All (λ r. r.left < r.right) runs
  pub ascending : AllPairs (λ p q. p.right ≤ q.left) runs

-- the runs before the place begin left of that cell
pub record LieBehind (runs : List Run) (place left : ℕ) : Type 0 where
  pub each : (k : ℕ) → k < place → (run runs k).left < left

-- the run at the place, if any, begins at that cell or right of it
pub record IsAhead (runs : List Run) (place left : ℕ) : Type 0 where
  pub here : place < length runs → left ≤ (run runs place).left

-- the run is added if it isn't among these
pub record IsAddedIfMissing (among : List Run) (r : Run) (old now : List Run) : Type 0 where
  pub by : Contains among r × (now ≡ old) ⊎ (¬ Contains among r) × (now ≡ old ++ r ∷ [])

-- the list has, in order, exactly the runs that the other lacks
pub record AreMissing (runs among missing : List Run) : Type 0 where
  pub each : (r : Run) → Contains missing r → Contains runs r × ¬ Contains among r
  pub all : (r : Run) → Contains runs r → Contains among r ⊎ Contains missing r
  pub apart : AreApart missing

-- Rows that get the colours of the next one.
use Rattle.std.specs.Prelude.{◌≡◌, ℕ, ◌<◌, ◌≤◌, List, All}
use Rattle.mask_runs.specs.declared.run.Run.{Run}
use Rattle.kept_runs.specs.declared.runs.KeptRuns.{KeptRuns}
use Rattle.kept_runs.specs.Kept.{colours_of}
use Rattle.row_windows.specs.Windows.{Touches}

-- the cells of each run have its colour in this row
abbrev pub HaveColours : (ℕ → ℕ) → List Run → Type 0
HaveColours colour runs = All (λ s. (c : ℕ) → s.left ≤ c → c < s.right → colour c ≡ s.colour) runs

-- the cells of all runs have the colours of the row, and the others have theirs still
pub record IsRepainted (colour : ℕ → ℕ) (old now : KeptRuns) (runs : List Run) : Type 0 where
  pub touched : (c : ℕ) → Touches runs c → colours_of now c ≡ colour c
  pub others : (c : ℕ) → (¬ Touches runs c) → colours_of now c ≡ colours_of old c

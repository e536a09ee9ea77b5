use Rattle.std.proofs.Common.{ℕ, ◌≡◌, ◌≤◌, ◌+◌, length, get_or}
use Rattle.fabric.specs.Shape.{base}
use Rattle.fabric.proofs.drawing.bases.Given as goal

abbrev pub invariant-loop-row : goal.invariant-loop-row
invariant-loop-row l = (length l.bases ≡ l.row-index + 1) × (l.base ≡ base l.plan l.row-index)
    × ((b : ℕ) → b ≤ l.row-index → get_or l.bases b 0 ≡ base l.plan b)

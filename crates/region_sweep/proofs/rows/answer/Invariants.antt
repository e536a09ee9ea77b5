-- The spots before `next` have their answers.
use Rattle.std.proofs.Common.{ℕ, ◌≤◌, ◌<◌, ◌-◌, length}
use Rattle.strip_rows.specs.Swept.{strips_of}
use Rattle.region_sweep.specs.Rows.{spot, IsFront, AreAnswered}
use Rattle.region_sweep.proofs.rows.answer.Given as goal

abbrev pub invariant-loop-next : goal.invariant-loop-next
invariant-loop-next l = record {
  answers : (colour : ℕ → ℕ → ℕ) → IsFront colour l.row l.strips l.kept
      → AreAnswered colour (strips_of l.strips) l.spots l.answered l.initial.found
      → AreAnswered colour (strips_of l.strips) l.spots l.next l.found;
  within : l.next ≤ length l.spots;
  waiting : (j : ℕ) → l.next ≤ j → j < length l.spots → l.row ≤ (spot l.spots j).row;
}

abbrev pub decreases-loop-next : goal.decreases-loop-next
decreases-loop-next l = length l.spots - l.next

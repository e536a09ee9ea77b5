use Rattle.std.proofs.Common.{◌≡◌, ℕ, ◌<◌, ◌≤◌, false, slice_index}
use Rattle.stimulus_lines.specs.Words.{is_blank}
use Rattle.stimulus_lines.proofs.piece.word_end.Given as goal

abbrev pub invariant-loop-i : goal.invariant-loop-i
invariant-loop-i l = (k : ℕ) → l.from ≤ k → k < l.i → is_blank (slice_index l.line k) ≡ false

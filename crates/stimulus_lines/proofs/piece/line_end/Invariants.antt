use Rattle.std.proofs.Common.{◌≡◌, ℕ, ◌<◌, ◌≤◌, false, slice_index}
use Rattle.mp_base.specs.Lines.{is_feed}
use Rattle.stimulus_lines.proofs.piece.line_end.Given as goal

abbrev pub invariant-loop-i : goal.invariant-loop-i
invariant-loop-i l = (k : ℕ) → l.from ≤ k → k < l.i → is_feed (slice_index l.text k) ≡ false

use Rattle.std.proofs.Common.{◌≡◌, ℕ, suc, ◌<◌, length}
use Rattle.path_flat.specs.Numbers.{row_size}
use Rattle.path_flat.proofs.numbers.Numbers.new.Given as goal

abbrev pub invariant-loop-slice : goal.invariant-loop-slice
invariant-loop-slice l = record {
  size : length l.rows ≡ suc l._slice;
  first : row_size l.rows 0 ≡ l.control;
  others : (k : ℕ) → k < l._slice → row_size l.rows (suc k) ≡ l.slices;
}

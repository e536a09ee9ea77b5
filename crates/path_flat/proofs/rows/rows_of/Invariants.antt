use Rattle.std.proofs.Common.{◌≡◌, length}
use Rattle.path_flat.specs.Numbers.{number_of}
use Rattle.path_flat.proofs.PadRows.{AreRowsTo}
use Rattle.path_flat.proofs.rows.rows_of.Given as goal

abbrev pub invariant-loop-index : goal.invariant-loop-index
invariant-loop-index l = record {
  size : length l.rows ≡ l.index;
  rows : AreRowsTo l.index l.pads l.ids (number_of l.numbers) l.rows;
}

use Rattle.std.proofs.Common.{◌≡◌, ◌≤◌, length}
use Rattle.track_assign.proofs.Told.{Packed}
use Rattle.track_assign.proofs.rows.assign.Given as goal

abbrev pub invariant-loop-entry : goal.invariant-loop-entry
invariant-loop-entry l = record {
  sized : length l.row.items ≡ length l.entries;
  few : length l.ends.items ≤ l.entry-index;
  packed : Packed l.entries l.entry-index l.row.items l.ends.items l.column;
}

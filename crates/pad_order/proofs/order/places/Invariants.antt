use Rattle.std.proofs.Common.{◌≡◌, length}
use Rattle.pad_order.proofs.Told.{AreToldTo}
use Rattle.pad_order.proofs.order.places.Given as goal

abbrev pub invariant-loop-place : goal.invariant-loop-place
invariant-loop-place l = record {
  long : length l.places.items ≡ length l.entries;
  told : AreToldTo l.places.items l.entries l.place;
}

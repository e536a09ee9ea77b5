use Rattle.std.proofs.Common.{length}
use Rattle.path_flat.specs.Numbers.{HasShape, number_of}
use Rattle.path_flat.specs.Numbered.{IsNumberedTo}
use Rattle.path_flat.proofs.Room.{HasRoom}
use Rattle.path_flat.proofs.flattening.number_each.Given as goal

abbrev pub invariant-loop-place : goal.invariant-loop-place
invariant-loop-place l = record {
  shape : HasShape l.path.width (length l.path.control) (length l.path.slices.net) l.numbers;
  numbered : IsNumberedTo l.path l.place-index 0 l.net (number_of l.numbers);
  room : HasRoom l.path l.place-index l.net;
}

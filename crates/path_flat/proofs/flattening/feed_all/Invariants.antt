use Rattle.path_flat.specs.Numbers.{number_of}
use Rattle.path_flat.specs.Numbered.{IsFew, IsNumberedTo, total}
use Rattle.path_flat.proofs.flattening.feed_all.Given as goal

abbrev pub invariant-loop-place : goal.invariant-loop-place
invariant-loop-place l = record {
  numbered : IsNumberedTo l.path (total l.path.order) l.place-index l.net (number_of l.numbers);
  few : IsFew l.path l.net;
}

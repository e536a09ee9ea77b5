use Rattle.std.proofs.Common.{take}
use Rattle.std.specs.List.{AllZip}
use Rattle.padded_labels.specs.Padded.{IsAtSpot}
use Rattle.padded_labels.proofs.labels.labels_on.Given as goal

abbrev pub invariant-loop-index : goal.invariant-loop-index
invariant-loop-index l = AllZip IsAtSpot (take l.index l.spots) l.labels

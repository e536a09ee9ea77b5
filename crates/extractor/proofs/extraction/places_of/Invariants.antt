use Rattle.std.proofs.Common.{◌≡◌, map, take}
use Rattle.extractor.specs.Naming.{point_of}
use Rattle.extractor.proofs.extraction.places_of.Given as goal

abbrev pub invariant-loop-label : goal.invariant-loop-label
invariant-loop-label l = l.places ≡ map point_of (take l.label-index l.labels)

use Rattle.std.proofs.Common.{◌≡◌, take}
use Rattle.padded_labels.specs.Padded.{ports_at}
use Rattle.padded_labels.proofs.labels.ports_of.Given as goal

abbrev pub invariant-loop-index : goal.invariant-loop-index
invariant-loop-index l = l.ports ≡ ports_at (take l.index l.labels) (take l.index l.heights)

use Rattle.std.proofs.Common.{◌≡◌, ◌++◌, take}
use Rattle.std.specs.Prelude.{flat_map}
use Rattle.switch_net.specs.Pads.{bit_labels}
use Rattle.clock_run.proofs.labels.add_pads.Given as goal

abbrev pub invariant-loop-pad : goal.invariant-loop-pad
invariant-loop-pad l = l.labels ≡ l.initial.labels ++ flat_map bit_labels (take l.pad-index l.pads)

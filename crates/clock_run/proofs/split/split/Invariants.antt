use Rattle.std.proofs.Common.{◌≡◌, length, take}
use Rattle.std.specs.Prelude.{flat_map}
use Rattle.std.specs.List.{AllZip}
use Rattle.switch_net.specs.declared.network.Network.{Network}
use Rattle.switch_net.specs.Clock.{IsLabelled}
use Rattle.switch_net.specs.Pads.{bit_labels}
use Rattle.clock_run.specs.Plan.{AreNodesOf}
use Rattle.clock_run.proofs.split.split.Given as goal

abbrev pub invariant-loop-pad : goal.invariant-loop-pad
invariant-loop-pad l = record {
  place : l.start ≡ length (flat_map bit_labels (take l.pad-index l.pads));
  own : (net : Network) → AllZip (IsLabelled net) (flat_map bit_labels l.pads) l.nodes
      → AllZip (AreNodesOf net) (take l.pad-index l.pads) l.own;
}

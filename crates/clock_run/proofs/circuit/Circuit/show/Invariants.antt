use Rattle.std.proofs.Common.{◌≡◌, length, take}
use Rattle.std.specs.List.{AllZip}
use Rattle.switch_net.specs.Values.{value_at}
use Rattle.clock_run.proofs.Showing.{IsShown}
use Rattle.clock_run.proofs.circuit.Circuit.show.Given as goal

abbrev pub invariant-loop-k : goal.invariant-loop-k
invariant-loop-k l = record {
  room : length l.outputs ≡ length l.initial.outputs;
  shown : AllZip (IsShown l.self.network (value_at l.self.values)) (take l.k l.self.pads.outputs) (take l.k l.outputs);
}

use Rattle.std.proofs.Common.{◌≡◌, take}
use Rattle.nor_net.specs.Shape.{gate_inputs}
use Rattle.path_draft.proofs.path.gate_inputs.Given as goal

abbrev pub invariant-loop-id : goal.invariant-loop-id
invariant-loop-id l = l.count ≡ gate_inputs (take l.id l.net)

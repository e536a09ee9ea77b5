use Rattle.std.proofs.Common.{◌+◌, ◌<◌}
use Rattle.nor_net.specs.Shape.{gate_inputs, net_limit}
use Rattle.path_draft.proofs.nets.add_all.Given as goal

abbrev pub invariant-loop-part : goal.invariant-loop-part
invariant-loop-part l = gate_inputs l.net + l.room < net_limit

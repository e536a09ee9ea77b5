use Rattle.std.proofs.Common.{◌≡◌, take}
use Rattle.nor_net.specs.Shape.{count_inputs}
use Rattle.nor_net.proofs.net.Net.inputs.Given as goal

abbrev pub invariant-loop-part : goal.invariant-loop-part
invariant-loop-part l = l.count ≡ count_inputs (take l.part-index l.self)

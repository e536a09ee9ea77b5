use Rattle.std.proofs.Common.{◌≡◌, take}
use Rattle.nor_net.specs.Shape.{count_inputs}
use Rattle.nor_net.specs.Passing.{Started}
use Rattle.nor_net.proofs.setting.start.Given as goal

abbrev pub invariant-loop-number : goal.invariant-loop-number
invariant-loop-number l = (l.next ≡ count_inputs (take l.number l.net))
    × Started l.net l.phase l.inputs l.number l.initial.values l.values

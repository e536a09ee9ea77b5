use Rattle.std.proofs.Common.{◌≡◌, map, take}
use Rattle.mp_syntax.specs.Shape.{arg_at}
use Rattle.mp_syntax.proofs.defs.args_at.Given as goal

abbrev pub invariant-loop-node : goal.invariant-loop-node
invariant-loop-node l = l.args ≡ map (arg_at l.forms) (take l.node-index l.nodes)

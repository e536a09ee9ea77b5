use Rattle.std.proofs.Common.{take}
use Rattle.clock_run.specs.Numbers.{NumberNodes}
use Rattle.clock_run.proofs.numbers.nodes_of.Given as goal

abbrev pub invariant-loop-tag : goal.invariant-loop-tag
invariant-loop-tag l = NumberNodes (take l.tag-index l.tags) l.numbers

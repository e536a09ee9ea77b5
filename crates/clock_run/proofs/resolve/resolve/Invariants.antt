use Rattle.std.proofs.Common.{take}
use Rattle.std.specs.List.{AllZip}
use Rattle.switch_net.specs.Clock.{IsLabelled}
use Rattle.clock_run.proofs.resolve.resolve.Given as goal

abbrev pub invariant-loop-name : goal.invariant-loop-name
invariant-loop-name l = AllZip (IsLabelled l.network) (take l.name-index l.labels) l.nodes

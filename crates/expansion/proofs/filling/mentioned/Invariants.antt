use Rattle.std.proofs.Common.{take}
use Rattle.expansion.specs.Filling.{AreMentioned}
use Rattle.expansion.proofs.filling.mentioned.Given as goal

abbrev pub invariant-loop-item : goal.invariant-loop-item
invariant-loop-item l = AreMentioned (take l.item-index l.template) l.count l.flags

use Rattle.std.proofs.Common.{◌≡◌, ◌++◌, take}
use Rattle.expansion.proofs.filling.append.Given as goal

abbrev pub invariant-loop-item : goal.invariant-loop-item
invariant-loop-item l = l.items ≡ l.fn.items ++ take l.item-index l.more

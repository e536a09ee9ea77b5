use Rattle.std.proofs.Common.{◌≡◌, ◌++◌, take}
use Rattle.expansion.specs.Filling.{filled}
use Rattle.expansion.proofs.filling.fill.Given as goal

abbrev pub invariant-loop-item : goal.invariant-loop-item
invariant-loop-item l = l.items ≡ l.fn.items ++ filled l.at l.words (take l.item-index l.template)

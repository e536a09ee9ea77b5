use Rattle.std.proofs.Common.{◌≡◌, ◌++◌, take}
use Rattle.fabric.proofs.fabric.Fabric.add_lines.Given as goal

abbrev pub invariant-loop-l : goal.invariant-loop-l
invariant-loop-l l = l.self ≡ record l.fn.self { lines = l.fn.self.lines ++ take l.l-index l.lines }

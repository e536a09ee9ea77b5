use Rattle.std.proofs.Common.{◌≡◌, ◌++◌, take}
use Rattle.fabric.proofs.fabric.Fabric.add_marks.Given as goal

abbrev pub invariant-loop-m : goal.invariant-loop-m
invariant-loop-m l = l.self ≡ record l.fn.self { marks = l.fn.self.marks ++ take l.m-index l.marks }

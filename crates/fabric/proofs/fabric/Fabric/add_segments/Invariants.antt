use Rattle.std.proofs.Common.{◌≡◌, ◌++◌, take}
use Rattle.fabric.proofs.fabric.Fabric.add_segments.Given as goal

abbrev pub invariant-loop-s : goal.invariant-loop-s
invariant-loop-s l = l.self ≡ record l.fn.self { segments = l.fn.self.segments ++ take l.s-index l.segments }

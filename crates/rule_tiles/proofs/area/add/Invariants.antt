-- The rectangles so far.
use Rattle.std.proofs.Common.{◌≡◌, ◌++◌, map, take}
use Rattle.rule_tiles.specs.Areas.{grown}
use Rattle.rule_tiles.proofs.area.add.Given as goal

abbrev pub invariant-loop-rect : goal.invariant-loop-rect
invariant-loop-rect l = l.shapes ≡ l.fn.shapes ++ map (grown l.layer l.before l.after) (take l.rect-index l.area)

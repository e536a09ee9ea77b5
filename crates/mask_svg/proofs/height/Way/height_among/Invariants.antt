use Rattle.std.proofs.Common.{◌≡◌, take}
use Rattle.std.specs.Prelude.{fold}
use Rattle.mask_svg.specs.Heights.{lowered}
use Rattle.mask_svg.proofs.height.Way.height_among.Given as goal

abbrev pub invariant-loop-other : goal.invariant-loop-other
invariant-loop-other l = l.height ≡ fold (lowered l.fn.self l.label) l.unit (take l.other-index l.others)

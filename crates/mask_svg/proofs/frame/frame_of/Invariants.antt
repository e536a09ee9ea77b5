use Rattle.std.proofs.Common.{◌≡◌, take}
use Rattle.std.specs.Prelude.{fold}
use Rattle.mask_svg.specs.Frames.{around, start}
use Rattle.mask_svg.proofs.frame.frame_of.Given as goal

abbrev pub invariant-loop-r : goal.invariant-loop-r
invariant-loop-r l = l.frame ≡ fold around (start l.shapes) (take l.r-index l.shapes)

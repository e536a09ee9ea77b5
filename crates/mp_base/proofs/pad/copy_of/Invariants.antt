use Rattle.std.proofs.Common.{◌≡◌, take}
use Rattle.mp_base.proofs.pad.copy_of.Given as goal

abbrev pub invariant-loop-pad : goal.invariant-loop-pad
invariant-loop-pad l = l.copy ≡ take l.pad-index l.pads

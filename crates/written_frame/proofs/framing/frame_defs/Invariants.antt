use Rattle.std.proofs.Common.{◌≡◌, map, take}
use Rattle.written_frame.specs.Frame.{frame_def}
use Rattle.written_frame.proofs.framing.frame_defs.Given as goal

abbrev pub invariant-loop-def : goal.invariant-loop-def
invariant-loop-def l = l.list ≡ map frame_def (take l.def-index l.def-items)

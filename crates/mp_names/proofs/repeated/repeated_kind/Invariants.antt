use Rattle.std.proofs.Common.{take}
use Rattle.mp_names.proofs.Supplies.{Watched}
use Rattle.mp_names.proofs.repeated.repeated_kind.Given as goal

abbrev pub invariant-loop-def : goal.invariant-loop-def
invariant-loop-def l = Watched (take l.def-index l.defs) l.kind l.found l.seen

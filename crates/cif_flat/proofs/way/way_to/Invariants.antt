use Rattle.std.proofs.Common.{◌≡◌, [], Some, take}
use Rattle.cif_flat.specs.Naming.{way_from}
use Rattle.cif_flat.proofs.way.way_to.Given as goal

abbrev pub invariant-loop-outer : goal.invariant-loop-outer
invariant-loop-outer l = way_from l.items (Some []) (take l.outer-index l.inner) ≡ Some l.way.items

use Rattle.std.proofs.Common.{◌≡◌, drop}
use Rattle.cif_emit.specs.Commands.{layers}
use Rattle.cif_emit.proofs.Cursors.{boxes_on}
use Rattle.cif_emit.proofs.cursor.next_layer.Given as goal

-- no layer so far has boxes
abbrev pub invariant-loop-number : goal.invariant-loop-number
invariant-loop-number l = boxes_on l.rects (drop l.from layers) ≡ boxes_on l.rects (drop l.number layers)

use Rattle.std.proofs.Common.{◌≡◌, drop}
use Rattle.cif_emit.specs.Commands.{drawn_on}
use Rattle.cif_emit.proofs.cursor.next_on.Given as goal

-- none so far is drawn on the layer
abbrev pub invariant-loop-at : goal.invariant-loop-at
invariant-loop-at l = drawn_on l.layer (drop l.from l.rects) ≡ drawn_on l.layer (drop l.at l.rects)

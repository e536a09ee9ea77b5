use Rattle.std.proofs.Common.{◌≡◌, take}
use Rattle.written_frame.proofs.copies.forms.Given as goal

abbrev pub invariant-loop-item : goal.invariant-loop-item
invariant-loop-item l = l.copy ≡ take l.item-index l.item-items

use Rattle.std.proofs.Common.{◌≡◌, ◌++◌, take}
use Rattle.path_form.specs.Shape.{entries_of}
use Rattle.slice_layout.proofs.entries.push_entries.Given as goal

abbrev pub invariant-loop-index : goal.invariant-loop-index
invariant-loop-index l = l.nets ≡ l.fn.nets ++ entries_of l.words (take l.index l.pads) (take l.index l.ids)

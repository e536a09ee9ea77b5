use Rattle.std.proofs.Common.{◌≡◌, take}
use Rattle.path_form.specs.Shape.{entries_of}
use Rattle.path_draft.proofs.ends.entries_of.Given as goal

abbrev pub invariant-loop-index : goal.invariant-loop-index
invariant-loop-index l = l.entries ≡ entries_of l.word (take l.index l.pads) (take l.index l.ids)

use Rattle.std.proofs.Common.{length}
use Rattle.datapath_alloc.specs.Progress.{IsMadeTo, KeepsMarks}
use Rattle.datapath_alloc.specs.Noting.{KeepsWords}
use Rattle.datapath_alloc.proofs.next_values.add_all_next.Given as goal

abbrev pub invariant-loop-index : goal.invariant-loop-index
invariant-loop-index l =
    IsMadeTo l.rtl (length l.rtl.cells) (length l.initial.making.names.tasks) l.index l.making
    × KeepsMarks l.initial.making l.making × KeepsWords l.initial.making l.making

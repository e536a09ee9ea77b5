use Rattle.datapath_alloc.specs.Progress.{IsMadeTo, KeepsMarks}
use Rattle.datapath_alloc.proofs.latches.add_latches.Given as goal

abbrev pub invariant-loop-index : goal.invariant-loop-index
invariant-loop-index l = IsMadeTo l.rtl l.index 0 0 l.making × KeepsMarks l.initial.making l.making

use Rattle.std.proofs.Common.{◌≡◌, length}
use Rattle.datapath_alloc.specs.Progress.{IsMadeTo, IsMarkedAt}
use Rattle.datapath_alloc.specs.Noting.{IsSharing}
use Rattle.datapath_alloc.proofs.tasks.add_tasks.Given as goal

abbrev pub invariant-loop-index : goal.invariant-loop-index
invariant-loop-index l =
    IsMadeTo l.rtl (length l.rtl.cells) l.index 0 l.making × IsMarkedAt l.index l.making
    × (l.making.names ≡ l.initial.making.names) × IsSharing l.rtl l.index l.built l.making

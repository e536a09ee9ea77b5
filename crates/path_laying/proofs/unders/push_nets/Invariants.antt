use Rattle.std.proofs.Common.{◌≡◌, ◌++◌, take}
use Rattle.std.specs.Prelude.{slice_index}
use Rattle.path_laying.specs.Crossed.{crossings}
use Rattle.path_laying.proofs.unders.push_nets.Given as goal

abbrev pub invariant-loop-net : goal.invariant-loop-net
invariant-loop-net l =
    l.marks.items ≡ l.fn.marks.items ++ crossings (slice_index l.tracks.row) l.band (take l.net-index l.nets)

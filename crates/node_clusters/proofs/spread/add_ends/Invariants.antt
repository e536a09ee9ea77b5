use Rattle.std.proofs.Common.{◌≡◌, take}
use Rattle.switch_net.specs.Values.{driver_at}
use Rattle.node_clusters.specs.Spread.{AddsEnds}
use Rattle.node_clusters.proofs.spread.add_ends.Given as goal

abbrev pub invariant-loop-end : goal.invariant-loop-end
invariant-loop-end l =
    (l.set.room ≡ l.initial.set.room)
    × AddsEnds (driver_at l.drive) (take l.end-index l.ends) l.initial.set.members l.set.members

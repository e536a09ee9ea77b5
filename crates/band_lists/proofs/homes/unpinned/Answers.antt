use Rattle.std.proofs.Common.{[]}
use Rattle.mp_base.proofs.Ranges.{map_grown}
use Rattle.band_lists.specs.Homed.{is_unpinned}
use Rattle.band_lists.proofs.homes.unpinned.Goals as goal

pub loop-n-preserved : goal.loop-n-preserved
loop-n-preserved c =
    map_grown [] (is_unpinned c.args.pinned.now) c.loop-n.n _ _ c.loop-n.invariant c.in_ok-push.ensures.items

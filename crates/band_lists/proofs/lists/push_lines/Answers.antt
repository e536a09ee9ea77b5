use Rattle.band_lists.specs.Listed.{lines_at}
use Rattle.mp_base.proofs.Ranges.{flat_grown}
use Rattle.band_lists.proofs.lists.push_lines.Goals as goal

pub loop-n-preserved : goal.loop-n-preserved
loop-n-preserved c =
    flat_grown c.args.lines.now.items
    (lines_at c.args.band c.args.columns.now c.args.stubs.now c.args.net.now) c.loop-n.n _ _
    c.loop-n.invariant c.in_ok-push_column.ensures

use Rattle.std.proofs.Common.{arith, length}
use Rattle.mp_base.proofs.Entries.{entry}
use Rattle.expansion.proofs.Marking.{guard_inside, guards_more}
use Rattle.expansion.proofs.flags.mark_guards.Goals as goal

pub set-requires : goal.set-requires
set-requires c =
    let bs = c.args.branches.now in
    let at = entry bs c.loop-branch.branch-index c.loop-branch-test.true c.branch-item.is in
    let inside = guard_inside (length c.args.flags.now) bs c.loop-branch.branch-index c.branch-item.result c.requires
    at in
    let size = c.loop-branch.invariant.size in
    omega (arith, inside, size)

pub loop-branch-preserved : goal.loop-branch-preserved
loop-branch-preserved c =
    let bs = c.args.branches.now in
    let at = entry bs c.loop-branch.branch-index c.loop-branch-test.true c.branch-item.is in
    guards_more bs c.loop-branch.branch-index c.branch-item.result c.args.flags.now c.loop-branch.flags _ at
    c.loop-branch.invariant c.set.ensures

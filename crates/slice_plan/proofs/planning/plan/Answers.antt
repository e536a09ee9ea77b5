use Rattle.slice_plan.proofs.Turned.{path_for, small_for}
use Rattle.slice_plan.proofs.planning.plan.Goals as goal

pub lay-requires : goal.lay-requires
lay-requires c =
    let h = c.in_ok-allocated.ensures in
    small_for c.args.rtl.now c.in_ok-path.path c.requires.light
    (path_for c.args.rtl.now c.in_ok-allocated.allocated c.in_ok-smaller.smaller c.in_ok-path.path c.requires.sound
    c.allocated_paths_realize.ensures c.realized_paths_show.ensures h.allocated h.within h.narrow
    c.in_ok-smaller.ensures c.in_ok-path.ensures)

pub planned_of-requires-clause-path : goal.planned_of-requires-clause-path
planned_of-requires-clause-path c =
    let h = c.in_ok-allocated.ensures in
    path_for c.args.rtl.now c.in_ok-allocated.allocated c.in_ok-smaller.smaller c.in_ok-path.path c.requires.sound
    c.allocated_paths_realize.ensures c.realized_paths_show.ensures h.allocated h.within h.narrow
    c.in_ok-smaller.ensures c.in_ok-path.ensures

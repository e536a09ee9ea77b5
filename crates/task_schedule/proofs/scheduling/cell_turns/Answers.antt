use Rattle.std.proofs.Common.{◌<◌, length, slice_set, subst, sym, arith, ◌+◌}
use Rattle.task_schedule.specs.Turns.{AreCellTurns}
use Rattle.task_schedule.proofs.Turns.{cell_in, cell_turns_more, index_at}
use Rattle.task_schedule.proofs.scheduling.cell_turns.Goals as goal

pub set-requires : goal.set-requires
set-requires c =
    let l : c.loop-place.place < length c.args.rtl.now.order = omega arith in
    let i = index_at c.args.rtl.now.order c.loop-place.place c.at-cell.result.now l c.at-cell.ensures in
    let k = cell_in c.args.rtl.now c.requires.sound c.loop-place.place l in
    let n = c.loop-place.invariant.count in omega (arith, i, k, n)

pub loop-place-preserved : goal.loop-place-preserved
loop-place-preserved c =
    let l : c.loop-place.place < length c.args.rtl.now.order = omega arith in
    let i = index_at c.args.rtl.now.order c.loop-place.place c.at-cell.result.now l c.at-cell.ensures in
    subst (AreCellTurns c.args.rtl.now (c.loop-place.place + 1)) (sym c.set.ensures)
    (subst (λ n. AreCellTurns c.args.rtl.now (c.loop-place.place + 1)
    (slice_set c.loop-place.turns n (c.loop-place.place + 1))) (sym i)
    (cell_turns_more c.args.rtl.now c.requires.sound c.loop-place.place c.loop-place.turns l c.loop-place.invariant))

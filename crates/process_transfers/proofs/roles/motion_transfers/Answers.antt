use Rattle.std.proofs.Common.{◌≡◌, subst, arith, length}
use Rattle.mp_base.proofs.Entries.{some_entry}
use Rattle.process_transfers.specs.Wants.{Serves, CellWants}
use Rattle.process_transfers.proofs.Serving.{motions_more}
use Rattle.process_transfers.proofs.roles.motion_transfers.Goals as goal

pub loop-cell-preserved : goal.loop-cell-preserved
loop-cell-preserved c =
    let roles = c.args.layout.now.roles in
    let (s, at) = some_entry roles c.loop-cell.cell (omega arith) in
    motions_more c.args.program.now roles c.args.layout.now.cells c.args.control.now c.args.motion c.loop-cell.cell s
    c.args.transfers.now c.loop-cell.transfers c.add.new.list c.role_transfer.result c.requires.control.cells
    c.loop-cell.invariant at (c.role_transfer.ensures s at) c.in_ok-add.ensures

pub returns-clause-served : goal.returns-clause-served
returns-clause-served c =
    let roles = c.args.layout.now.roles in
    let end : c.loop-cell.cell ≡ length roles = omega arith in
    subst (λ n. Serves (CellWants c.args.program.now roles c.args.control.now c.args.motion) n c.args.transfers.now
    c.loop-cell.transfers) end c.loop-cell.invariant.served

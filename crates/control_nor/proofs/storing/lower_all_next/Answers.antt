use Rattle.std.proofs.Common.{arith}
use Rattle.mp_base.proofs.Entries.{entry}
use Rattle.control_nor.proofs.StoredCells.{room_next, stored_next}
use Rattle.control_nor.proofs.storing.lower_all_next.Goals as goal

pub lower_next_of-requires-clause-named : goal.lower_next_of-requires-clause-named
lower_next_of-requires-clause-named c on =
    c.requires.waiting.transfers c.loop-index.index c.at-cell.result.now
    (entry c.args.rtl.now.cells c.loop-index.index (omega arith) c.at-cell.ensures) on

pub lower_next_of-requires-clause-room : goal.lower_next_of-requires-clause-room
lower_next_of-requires-clause-room c on =
    room_next c.args.rtl.now c.args.bits.now c.args.reset c.args.net.now c.loop-index.net c.loop-index.index
    c.at-cell.result.now
    (entry c.args.rtl.now.cells c.loop-index.index (omega arith) c.at-cell.ensures) on c.loop-index.invariant
    c.requires.room

pub loop-index-preserved : goal.loop-index-preserved
loop-index-preserved c =
    stored_next c.args.rtl.now c.args.bits.now c.args.reset c.args.net.now c.loop-index.net c.lower_next_of.new.net
    c.requires.waiting
    c.loop-index.index c.at-cell.result.now
    (entry c.args.rtl.now.cells c.loop-index.index (omega arith) c.at-cell.ensures) c.loop-index.invariant
    c.in_ok-lower_next_of.ensures

use Rattle.std.proofs.Common.{arith}
use Rattle.std.proofs.lemmas.Option.{slice_get-get_or}
use Rattle.process_transfers.proofs.Reading.{readings_more}
use Rattle.process_transfers.proofs.roles.readings_of.Goals as goal

pub loop-cell-preserved : goal.loop-cell-preserved
loop-cell-preserved c =
    readings_more c.args.roles.now c.loop-cell.cell c.in_ok-reading_of.field-0 _ c.args.exprs.now c.loop-cell.exprs
    c.reading_of.new.exprs c.loop-cell.readings c.push.new.self c.loop-cell.invariant
    (slice_get-get_or c.args.roles.now c.loop-cell.cell _ (omega arith)) c.in_ok-reading_of.ensures
    c.in_ok-push.ensures.ok

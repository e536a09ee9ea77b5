use Rattle.std.proofs.Common.{arith}
use Rattle.process_jumps.proofs.Growing.{union_put}
use Rattle.process_jumps.proofs.exprs.union_of.Goals as goal

pub returns-in_ok-put-in_default : goal.returns-in_ok-put-in_default
returns-in_ok-put-in_default c =
    union_put c.args.exprs.now c.put.new.exprs c.args.guards c.in_ok-put-in_default.field-0 (omega arith)
    c.in_ok-put-in_default.ensures

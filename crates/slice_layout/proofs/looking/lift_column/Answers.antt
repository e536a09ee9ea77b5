use Rattle.std.proofs.Common.{arith}
use Rattle.slice_layout.proofs.Ends.{has_ends}
use Rattle.slice_layout.proofs.looking.lift_column.Goals as goal

pub overflow_cast-result : goal.overflow_cast-result
overflow_cast-result c = let f = (has_ends c.args.path.now).few in omega (arith, f)

pub overflow_add-result : goal.overflow_add-result
overflow_add-result c = let f = (has_ends c.args.path.now).few in omega (arith, f)

pub overflow_cast-result-2 : goal.overflow_cast-result-2
overflow_cast-result-2 c = let f = (has_ends c.args.path.now).few in omega (arith, f)

pub overflow_add-result-2 : goal.overflow_add-result-2
overflow_add-result-2 c = let f = (has_ends c.args.path.now).few in omega (arith, f)

use Rattle.std.proofs.Common.{arith}
use Rattle.path_draft.proofs.Counts.{active_others}
use Rattle.path_draft.proofs.path.active.Goals as goal

pub overflow_sub-result : goal.overflow_sub-result
overflow_sub-result c = omega (arith, active_others c.args.net.now, c.len.ensures.len, c.inputs.ensures)

pub returns : goal.returns
returns c = omega (arith, active_others c.args.net.now, c.len.ensures.len, c.inputs.ensures)

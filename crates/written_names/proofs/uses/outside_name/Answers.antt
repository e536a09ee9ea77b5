use Rattle.written_names.proofs.BrokenNames.{earliest_outside}
use Rattle.written_names.proofs.uses.outside_name.Goals as goal

pub returns : goal.returns
returns c = earliest_outside c.args.program.now c.in_exprs.result c.in_exprs.ensures

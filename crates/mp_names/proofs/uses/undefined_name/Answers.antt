use Rattle.mp_names.proofs.Rules.{earliest_undefined}
use Rattle.mp_names.proofs.uses.undefined_name.Goals as goal

pub returns : goal.returns
returns c = rw c.earliest.ensures (earliest_undefined c.args.program.now c.args.names.now c.requires)

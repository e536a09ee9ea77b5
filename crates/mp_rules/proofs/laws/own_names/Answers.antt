use Rattle.mp_rules.proofs.Own.{own}
use Rattle.mp_rules.proofs.laws.own_names.Goals as goal

pub returns : goal.returns
returns c = own c.args.program.now c.requires

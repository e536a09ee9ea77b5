use Rattle.mp_names.proofs.Rules.{earliest_unset}
use Rattle.mp_names.proofs.uses.set_input.Goals as goal

pub returns : goal.returns
returns c =
    rw (c.of_targets.ensures, c.as_slice.ensures) (earliest_unset c.args.program.now c.args.names.now c.requires)

use Rattle.mp_names.proofs.Rules.{earliest_repeated}
use Rattle.mp_names.proofs.repeated.repeated_name.Goals as goal

pub returns : goal.returns
returns c =
    rw (
      c.earlier_of.ensures,
      c.earlier_of-found.ensures,
      c.repeated_defs.ensures,
      c.repeated_processes.ensures,
      c.as_slice-defs.ensures,
      c.as_slice.ensures,
    )
    (earliest_repeated c.args.program.now c.args.names.now c.repeated_supply.result c.requires
    (rw c.as_slice-defs.ensures at c.repeated_supply.ensures))

use Rattle.written_names.proofs.BrokenNames.{earliest_undefined}
use Rattle.written_names.proofs.uses.undefined_name.Goals as goal

pub returns : goal.returns
returns c =
    rw (c.earlier_of.ensures, c.of_targets.ensures)
    (earliest_undefined c.args.program.now c.args.names.now c.requires.names c.in_exprs-in_exprs.result
    c.in_exprs-in_exprs.ensures)

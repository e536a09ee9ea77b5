use Rattle.mp_names.proofs.Rules.{earliest_wrong}
use Rattle.mp_names.proofs.sorts.wrong_sort.Goals as goal

pub returns : goal.returns
returns c =
    rw (c.earlier_of.ensures, c.earliest_misfit-misfit.ensures, c.earliest.ensures)
    (earliest_wrong c.args.program.now c.args.names.now c.requires)

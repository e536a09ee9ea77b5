use Rattle.mp_names.proofs.Supplies.{of_five}
use Rattle.mp_names.proofs.repeated.repeated_supply.Goals as goal

pub returns : goal.returns
returns c =
    rw (c.earlier_of.ensures, c.earlier_of-found-3.ensures, c.earlier_of-found-2.ensures, c.earlier_of-found.ensures)
    (of_five c.args.defs.now c.repeated_kind.result c.repeated_kind-2.result c.repeated_kind-3.result
    c.repeated_kind-4.result c.repeated_kind-5.result
    c.repeated_kind.ensures c.repeated_kind-2.ensures c.repeated_kind-3.ensures c.repeated_kind-4.ensures
    c.repeated_kind-5.ensures)

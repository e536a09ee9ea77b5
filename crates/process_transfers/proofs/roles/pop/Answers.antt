use Rattle.process_transfers.specs.Wants.{PopWants}
use Rattle.process_transfers.proofs.Serving.{none_found}
use Rattle.process_transfers.proofs.roles.pop.Goals as goal

pub returns-in_err-value : goal.returns-in_err-value
returns-in_err-value c =
    none_found (PopWants c.args.program.now c.args.layout.now.roles c.args.control.now c.args.cell c.args.process
    c.args.level c.args.place) c.from_residual-in_err-value.result c.from_residual-in_err-value.ensures
    (λ t (m, u, v, at_m, some, popped, is). c.in_err-value.ensures v popped)

use Rattle.std.proofs.Common.{arith}
use Rattle.process_transfers.proofs.Serving.{pushed_above}
use Rattle.process_transfers.proofs.roles.pushed.Goals as goal

pub returns : goal.returns
returns c =
    pushed_above c.args.layout.now.roles c.args.control.now c.args.process c.args.level c.args.place
    c.reading.result (λ e. omega (arith, e)) c.reading.ensures

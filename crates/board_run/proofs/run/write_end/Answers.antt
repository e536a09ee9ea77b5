use Rattle.std.proofs.Common.{◌∙◌, ap}
use Rattle.switch_net.specs.declared.network.Network.{Network}
use Rattle.board_run.proofs.run.write_end.Goals as goal

pub returns-clause-taken : goal.returns-clause-taken
returns-clause-taken g c net is same =
    rw c.values.ensures.same at (c.write_last_line.ensures.taken net is
    (c.values.ensures.sized ∙ ap (λ (n : Network). n.nodes) same))

pub returns-clause-cause : goal.returns-clause-cause
returns-clause-cause g c = c.write_last_line.ensures.cause

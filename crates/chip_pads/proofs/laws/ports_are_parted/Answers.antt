use Rattle.chip_pads.proofs.Heights.{ports_of_nets, ports_parted}
use Rattle.chip_pads.proofs.laws.ports_are_parted.Goals as goal

pub returns-clause-parted : goal.returns-clause-parted
returns-clause-parted c = ports_parted

pub returns-clause-nets : goal.returns-clause-nets
returns-clause-nets c = ports_of_nets

use Rattle.switch_net.proofs.Labelling.{chip_labels_differ}
use Rattle.switch_net.proofs.laws.chip_labels_differ.Goals as goal

pub returns : goal.returns
returns c = chip_labels_differ

use Rattle.mp_written.proofs.Trees.{tree}
use Rattle.mp_written.proofs.laws.tree.Goals as goal

pub returns : goal.returns
returns c = tree

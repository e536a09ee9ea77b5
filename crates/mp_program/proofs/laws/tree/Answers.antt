use Rattle.mp_program.proofs.Trees.{tree}
use Rattle.mp_program.proofs.laws.tree.Goals as goal

pub returns : goal.returns
returns c = tree c.args.program.now

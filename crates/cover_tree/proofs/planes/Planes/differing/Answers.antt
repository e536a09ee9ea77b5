use Rattle.cover_tree.proofs.Colours.{differ_at}
use Rattle.cover_tree.proofs.planes.Planes.differing.Goals as goal

-- src/planes.rt
pub returns : goal.returns
returns c = differ_at c.args.self c.args.other

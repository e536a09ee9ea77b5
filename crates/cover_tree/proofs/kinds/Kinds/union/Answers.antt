use Rattle.cover_tree.proofs.Sets.{either_kind}
use Rattle.cover_tree.proofs.kinds.Kinds.union.Goals as goal

-- src/kinds.rt
pub returns : goal.returns
returns c = λ s. either_kind c.args.self c.args.more s

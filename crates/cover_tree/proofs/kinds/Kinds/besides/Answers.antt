use Rattle.std.proofs.Common.{arith}
use Rattle.cover_tree.proofs.Sets.{is_beside}
use Rattle.cover_tree.proofs.kinds.Kinds.besides.Goals as goal

-- src/kinds.rt
pub returns : goal.returns
returns c = λ i l. rw c.if-not-own.false (is_beside c.args.self c.args.holders c.args.weight i (omega arith) l)
